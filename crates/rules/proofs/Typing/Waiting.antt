-- The namings that wait in a term (02, F-2), by its context: the sets of a context, and how the namings of a term come from those of its
-- parts. Types of variables are no matter.
use Prim.Native.Nat.{ℕ, suc}
use native.Mathlib.Omega.{arith}
use mathlib.Core.Path.{◌≡◌, refl, sym, ap, ap₂, ◌∙◌, fun_ext}
use mathlib.Core.Bool.{Bool, true, false, ◌||◌, cond}
use mathlib.Core.Option.{Option, none, some}
use mathlib.Core.List.{◌∷◌, ◌++◌}
use lib.ListN.{length}
use lib.Dec.{eqb}
use package.Rattle.rules.specs.Ty.{Ty}
use package.Rattle.rules.specs.Term.{Term, Terms, tlet, tletp, tcase, tcall, look}
use package.Rattle.rules.specs.Typing.{Binding, static, dynamic, barred, Context, bar_one, bar, ∅, only, ◌∪◌, mark_one, mark}
use package.Rattle.rules.specs.Check.{is_dynamic, marked, dynamics, marks, helps, onward, waits, waits_all, waits_in, waits_in_all}
use package.Rattle.rules.proofs.Basics.{given, eqb-sound}
use package.Rattle.rules.proofs.Scope.{look_none}
use package.Rattle.rules.proofs.Typing.Contexts.{length-bar, length-mark, look_bar, mark_o, look_mark, dynamics-mark}
use package.Rattle.rules.proofs.Typing.Namings.{marked-bar}

----------------------------------------------------------------
-- The sets of a context

or_false : (b : Bool) → b ≡ (b || false)
or_false true = refl
or_false false = refl

or_true : (b : Bool) → true ≡ (b || true)
or_true true = refl
or_true false = refl

-- a variable more, which is dynamic and not marked
pub dynamics-push : (m : Bool) (c : Ty) (Δ : Context) → dynamics (dynamic m c ∷ Δ) ≡ (dynamics Δ ∪ only (length Δ))
unfolding look is_dynamic
dynamics-push m c Δ = fun_ext λ i. go (eqb i (length Δ)) (look Δ i)
  where
    go : (b : Bool) (o : Option Binding) → is_dynamic (cond b (some (dynamic m c)) o) ≡ (is_dynamic o || b)
    go true o = or_true (is_dynamic o)
    go false o = or_false (is_dynamic o)

pub marks-push : (c : Ty) (Δ : Context) → marks (dynamic false c ∷ Δ) ≡ marks Δ
unfolding look marked
marks-push c Δ = fun_ext λ i. go i (eqb i (length Δ)) refl
  where
    go : (i : ℕ) (b : Bool) → eqb i (length Δ) ≡ b → marked (cond b (some (dynamic false c)) (look Δ i)) ≡ marked (look Δ i)
    go i true e = sym (ap marked (ap (look Δ) (eqb-sound i (length Δ) e) ∙ look_none Δ (length Δ) (omega arith)))
    go i false e = refl

-- in an ancilla argument none is dynamic, and the marks are those around it
pub dynamics-bar : (Δ : Context) → dynamics (bar Δ) ≡ ∅
unfolding is_dynamic bar_one
dynamics-bar Δ = fun_ext λ i. go i (look (bar Δ) i) refl
  where
    none_dynamic : (x : Binding) → is_dynamic (some (bar_one x)) ≡ false
    none_dynamic (static c) = refl
    none_dynamic (dynamic m c) = refl
    none_dynamic (barred m c) = refl

    go : (i : ℕ) (o : Option Binding) → look (bar Δ) i ≡ o → is_dynamic (look (bar Δ) i) ≡ false
    go i none e = ap is_dynamic e
    go i (some y) e = given (look_bar Δ i e) λ (x, p, q). ap is_dynamic e ∙ ap (λ y. is_dynamic (some y)) (sym q) ∙ none_dynamic x

pub marks-bar : (Δ : Context) → marks (bar Δ) ≡ marks Δ
marks-bar Δ = fun_ext λ i. marked-bar Δ i

-- in a bound term the dynamic ones are marked too
pub marks-mark : (Δ : Context) → marks (mark (λ i. true) Δ) ≡ (marks Δ ∪ dynamics Δ)
unfolding is_dynamic marked mark_one
marks-mark Δ = fun_ext λ i. ap marked (look_mark (λ i. true) Δ i) ∙ go (look Δ i)
  where
    go : (o : Option Binding) → marked (mark_o true o) ≡ (marked o || is_dynamic o)
    go none = refl
    go (some (static c)) = refl
    go (some (dynamic m c)) = refl
    go (some (barred m c)) = or_false m

----------------------------------------------------------------
-- The namings of a term, by its context

-- the namings in the bound term of a let, and of one in a body, which has a variable more
pub waits-bound : (Δ : Context) (e : Term) → waits_in (mark (λ i. true) Δ) e ≡ waits (dynamics Δ) (marks Δ ∪ dynamics Δ) (length Δ) e
waits-bound Δ e =
    ap (λ D. waits D (marks (mark (λ i. true) Δ)) (length (mark (λ i. true) Δ)) e) (dynamics-mark (λ i. true) Δ)
    ∙ ap₂ (λ M n. waits (dynamics Δ) M n e) (marks-mark Δ) (length-mark (λ i. true) Δ)

pub waits-body : (c : Ty) (Δ : Context) (b : Term)
    → waits_in (dynamic false c ∷ Δ) b ≡ waits (dynamics Δ ∪ only (length Δ)) (marks Δ) (suc (length Δ)) b
waits-body c Δ b = ap₂ (λ D M. waits D M (suc (length Δ)) b) (dynamics-push false c Δ) (marks-push c Δ)

pub waits-argument : (Δ : Context) (ts : Terms) → waits_in_all (bar Δ) ts ≡ waits_all ∅ (marks Δ) (length Δ) ts
waits-argument Δ ts = ap (λ D. waits_all D (marks (bar Δ)) (length (bar Δ)) ts) (dynamics-bar Δ)
    ∙ ap₂ (λ M n. waits_all ∅ M n ts) (marks-bar Δ) (length-bar Δ)

pub waits_let : (c : Ty) (Δ : Context) (k : ℕ) (e b : Term) → waits_in Δ (tlet k e b)
    ≡ (onward (helps (dynamics Δ) b) (marks Δ) (waits_in (mark (λ i. true) Δ) e) ++ waits_in (dynamic false c ∷ Δ) b)
unfolding waits
waits_let c Δ k e b = ap₂ ◌++◌ (ap (onward (helps (dynamics Δ) b) (marks Δ)) (sym (waits-bound Δ e))) (sym (waits-body c Δ b))

pub waits_letp : (c d : Ty) (Δ : Context) (k : ℕ) (e b : Term) → waits_in Δ (tletp k e b)
    ≡ (onward (helps (dynamics Δ) b) (marks Δ) (waits_in (mark (λ i. true) Δ) e) ++ waits_in (dynamic false d ∷ dynamic false c ∷ Δ) b)
unfolding waits
waits_letp c d Δ k e b = ap₂ ◌++◌ (ap (onward (helps (dynamics Δ) b) (marks Δ)) (sym (waits-bound Δ e)))
    (sym (waits-body d (dynamic false c ∷ Δ) b
    ∙ ap₂ (λ D M. waits (D ∪ only (suc (length Δ))) M (suc (suc (length Δ))) b) (dynamics-push false c Δ) (marks-push c Δ)))

pub waits_case : (c d : Ty) (Δ : Context) (k : ℕ) (e b b' : Term) → waits_in Δ (tcase k e b b')
    ≡ (waits_in Δ e ++ (waits_in (dynamic false c ∷ Δ) b ++ waits_in (dynamic false d ∷ Δ) b'))
unfolding waits
waits_case c d Δ k e b b' = ap (λ W. waits_in Δ e ++ W) (ap₂ ◌++◌ (sym (waits-body c Δ b)) (sym (waits-body d Δ b')))

pub waits-call : (Δ : Context) (k g : ℕ) (ts : Terms) (e : Term) → waits_in Δ (tcall k g ts e) ≡ (waits_in_all (bar Δ) ts ++ waits_in Δ e)
unfolding waits
waits-call Δ k g ts e = ap (λ W. W ++ waits_in Δ e) (sym (waits-argument Δ ts))
