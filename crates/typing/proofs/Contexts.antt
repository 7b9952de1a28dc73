-- Laws of contexts as the checker holds them: what a variable is bound to, a variable bound, an ancilla argument or a bound term entered, the
-- sets of a context, and both branches' uses.
use Prim.Native.Nat.{ℕ, zero, suc, ◌<◌, ◌≤◌}
use native.Mathlib.Omega.{arith}
use native.Mathlib.Decide.{dec_lt}
use mathlib.Core.Path.{◌≡◌, refl, sym, ap, ap₂, subst, ◌∙◌, fun_ext}
use mathlib.Core.Bool.{Bool, true, false, not, ◌&&◌, ◌||◌, false≢true}
use mathlib.Core.Option.{Option, none, some}
use mathlib.Core.List.{◌∷◌}
use mathlib.Core.Logic.{◌↔◌}
use lib.ListN.{length}
use lib.Dec.{leb}
use borrow.Author.Tests.{lt-ltb, le-ltb, lt-leb, le-leb}
use package.Rattle.rules.specs.Ty.{Ty, is_unit}
use package.Rattle.rules.specs.Term.{Term, look}
use package.Rattle.rules.specs.Typing.{Binding, static, dynamic, barred, Context, bar_one, bar, Vars, mark_one, mark}
use package.Rattle.rules.specs.Check.{must_use, same_use, is_dynamic, marked, dynamics, marks, waits, waits_in}
use package.Rattle.rules.proofs.Basics.{given, none≢some, not-true, and-false}
use package.Rattle.rules.proofs.Typing.Tests.{same_use_yes, same_use-sound}
use package.Rattle.rules.proofs.Typing.Contexts.{mark_o, look_mark}
use package.Rattle.rules.proofs.Scope.{look_newest, look_skip, look_none}
use package.Rattle.rules.specs.Limits.{max_variables}
use package.Rattle.varsets.specs.declared.Uses.{Uses}
use package.Rattle.varsets.specs.Sets.{has, ranged, joined, AgreeOn}
use package.Rattle.typing.specs.Waiting.{dynamic_in, marked_in}
use Rattle.typing.specs.declared.outcomes.Scope.{Scope}
use package.Rattle.typing.specs.Contexts.{standing, context_at, UsedBy, must_use_at, Owed}

----------------------------------------------------------------
-- How a variable stands

module _ (q lo : ℕ) (M : Vars) (i : ℕ) (τ : Ty) where
  pub stands-static : i < q → standing q lo M i τ ≡ static τ
  unfolding standing
  stands-static l = rw (standing, lt-ltb i q l)

  pub stands-barred : q ≤ i → i < lo → standing q lo M i τ ≡ barred (M i) τ
  unfolding standing
  stands-barred l h = rw (standing, le-ltb i q l, lt-ltb i lo h)

  pub stands-dynamic : q ≤ i → lo ≤ i → standing q lo M i τ ≡ dynamic (M i) τ
  unfolding standing
  stands-dynamic l h = rw (standing, le-ltb i q l, le-ltb i lo h)

  -- one of the three
  pub stands_by : (P : Binding → Type 0) → (i < q → P (static τ)) → (q ≤ i → i < lo → P (barred (M i) τ)) → (q ≤ i → lo ≤ i → P (dynamic (M i) τ))
      → P (standing q lo M i τ)
  stands_by P s b d = go (dec_lt i q) (dec_lt i lo)
    where
      go : Dec (i < q) → Dec (i < lo) → P (standing q lo M i τ)
      go (yes x) y = subst P (sym (stands-static x)) (s x)
      go (no x) (yes y) = let l : q ≤ i = omega arith in subst P (sym (stands-barred l y)) (b l y)
      go (no x) (no y) = let l : q ≤ i = omega arith in let h : lo ≤ i = omega arith in subst P (sym (stands-dynamic l h)) (d l h)

----------------------------------------------------------------
-- What a variable is bound to

pub length-context : (T : ℕ → Ty) (q lo : ℕ) (M : Vars) (n : ℕ) → length (context_at T q lo M n) ≡ n
unfolding context_at
length-context T q lo M zero = refl
length-context T q lo M (suc n) = ap suc (length-context T q lo M n)

pub look_context : (T : ℕ → Ty) (q lo : ℕ) (M : Vars) (n i : ℕ) → i < n → look (context_at T q lo M n) i ≡ some (standing q lo M i (T i))
unfolding context_at
look_context T q lo M zero i l = absurd (omega arith)
look_context T q lo M (suc n) i l = go (dec_lt i n) (λ l. look_context T q lo M n i l)
  where
    newest : Binding
    newest = standing q lo M n (T n)

    go : Dec (i < n) → (i < n → look (context_at T q lo M n) i ≡ some (standing q lo M i (T i)))
        → look (newest ∷ context_at T q lo M n) i ≡ some (standing q lo M i (T i))
    go (yes x) s = look_skip (context_at T q lo M n) newest i (let z : length (context_at T q lo M n) ≡ n = length-context T q lo M n in omega arith) ∙ s x
    go (no x) s = let e : n ≡ i = omega arith in
        ap (look (newest ∷ context_at T q lo M n)) (sym e ∙ sym (length-context T q lo M n)) ∙ look_newest newest (context_at T q lo M n)
        ∙ ap (λ i. some (standing q lo M i (T i))) e

pub look_outside : (T : ℕ → Ty) (q lo : ℕ) (M : Vars) (n i : ℕ) → n ≤ i → look (context_at T q lo M n) i ≡ none
look_outside T q lo M n i l = look_none (context_at T q lo M n) i (let z : length (context_at T q lo M n) ≡ n = length-context T q lo M n in omega arith)

----------------------------------------------------------------
-- A variable is bound; an ancilla argument is entered; a bound term is

-- types and marks that agree below the scope's end give one context
pub context-same : (T T' : ℕ → Ty) (q lo : ℕ) (M M' : Vars) (n : ℕ) → ((i : ℕ) → i < n → T i ≡ T' i) → ((i : ℕ) → i < n → M i ≡ M' i)
    → context_at T q lo M n ≡ context_at T' q lo M' n
unfolding context_at
context-same T T' q lo M M' zero s m = refl
context-same T T' q lo M M' (suc n) s m = ap₂ ◌∷◌
    (ap (standing q lo M n) (s n (omega arith))
    ∙ stands_by q lo M n (T' n) (λ x. x ≡ standing q lo M' n (T' n)) (λ x. sym (stands-static q lo M' n (T' n) x))
    (λ x y. ap (λ b. barred b (T' n)) (m n (omega arith)) ∙ sym (stands-barred q lo M' n (T' n) x y))
    (λ x y. ap (λ b. dynamic b (T' n)) (m n (omega arith)) ∙ sym (stands-dynamic q lo M' n (T' n) x y)))
    (context-same T T' q lo M M' n (λ i l. s i (omega arith)) λ i l. m i (omega arith))

-- variable `n` is bound, and is not marked; those before it stay
pub context_bind : (T T' : ℕ → Ty) (q lo : ℕ) (M : Vars) (n : ℕ) {τ : Ty} → q ≤ n → lo ≤ n → M n ≡ false → T' n ≡ τ → ((i : ℕ) → i < n → T' i ≡ T i)
    → context_at T' q lo M (suc n) ≡ dynamic false τ ∷ context_at T q lo M n
unfolding context_at
context_bind T T' q lo M n {τ} h h' m e s = ap₂ ◌∷◌
    (ap (standing q lo M n) e ∙ stands-dynamic q lo M n τ h h' ∙ ap (λ b. dynamic b τ) m) (context-same T' T q lo M M n s λ i l. refl)

-- what stands dynamic or barred is barred; `m` variables are in scope where the argument begins
bar-standing : (q lo m : ℕ) (M : Vars) (i : ℕ) (τ : Ty) → i < m → lo ≤ m → bar_one (standing q lo M i τ) ≡ standing q m M i τ
unfolding bar_one
bar-standing q lo m M i τ l h = stands_by q lo M i τ (λ x. bar_one x ≡ standing q m M i τ)
    (λ x. sym (stands-static q m M i τ x)) (λ x y. sym (stands-barred q m M i τ x l)) (λ x y. sym (stands-barred q m M i τ x l))

bar-below : (T : ℕ → Ty) (q lo m : ℕ) (M : Vars) (n : ℕ) → n ≤ m → lo ≤ m → bar (context_at T q lo M n) ≡ context_at T q m M n
unfolding context_at bar
bar-below T q lo m M zero l h = refl
bar-below T q lo m M (suc n) l h = ap₂ ◌∷◌ (bar-standing q lo m M n (T n) (omega arith) h) (bar-below T q lo m M n (omega arith) h)

pub context-bar : (T : ℕ → Ty) (q lo : ℕ) (M : Vars) (n : ℕ) → lo ≤ n → bar (context_at T q lo M n) ≡ context_at T q n M n
context-bar T q lo M n h = bar-below T q lo n M n (omega arith) h

-- in a bound term the dynamic ones are marked too
mark-standing : (q lo m : ℕ) (M : Vars) (i : ℕ) (τ : Ty) → i < m → mark_one true (standing q lo M i τ) ≡ standing q lo (joined M (ranged lo m)) i τ
unfolding mark_one
mark-standing q lo m M i τ l = stands_by q lo M i τ (λ x. mark_one true x ≡ standing q lo (joined M (ranged lo m)) i τ)
    (λ x. sym (stands-static q lo (joined M (ranged lo m)) i τ x))
    (λ x y. ap (λ b. barred b τ) (or_false (M i) ∙ ap (λ b. M i || b) (sym (outside x y))) ∙ sym (stands-barred q lo (joined M (ranged lo m)) i τ x y))
    (λ x y. ap (λ b. dynamic (M i || b) τ) (sym (inside y)) ∙ sym (stands-dynamic q lo (joined M (ranged lo m)) i τ x y))
  where
    or_false : (b : Bool) → b ≡ (b || false)
    or_false true = refl
    or_false false = refl

    outside : q ≤ i → i < lo → ranged lo m i ≡ false
    outside x y = rw (lt-ltb i m l, lt-ltb i lo y)

    inside : lo ≤ i → ranged lo m i ≡ true
    inside y = rw (lt-ltb i m l, le-ltb i lo y)

mark-below : (T : ℕ → Ty) (q lo m : ℕ) (M : Vars) (n : ℕ) → n ≤ m → mark (λ i. true) (context_at T q lo M n) ≡ context_at T q lo (joined M (ranged lo m)) n
unfolding context_at mark
mark-below T q lo m M zero l = refl
mark-below T q lo m M (suc n) l = ap₂ ◌∷◌ (mark-standing q lo m M n (T n) (omega arith)) (mark-below T q lo m M n (omega arith))

pub context-mark : (T : ℕ → Ty) (q lo : ℕ) (M : Vars) (n : ℕ) → mark (λ i. true) (context_at T q lo M n) ≡ context_at T q lo (joined M (ranged lo n)) n
context-mark T q lo M n = mark-below T q lo n M n (omega arith)

----------------------------------------------------------------
-- The sets of a context

module _ (T : ℕ → Ty) (sc : Scope) where
  abbrev Δ : Context
  Δ = context_at T sc.q sc.lo (has sc.marks) sc.n

  none_of : (a b : Bool) → (a && (b && false)) ≡ false
  none_of true true = refl
  none_of true false = refl
  none_of false b = refl

  pub dynamics-context : dynamics Δ ≡ dynamic_in sc
  unfolding is_dynamic
  dynamics-context = fun_ext λ i. go i (dec_lt i sc.n)
    where
      by : (i : ℕ) → i < sc.n → is_dynamic (some (standing sc.q sc.lo (has sc.marks) i (T i))) ≡ dynamic_in sc i
      by i l = stands_by sc.q sc.lo (has sc.marks) i (T i) (λ x. is_dynamic (some x) ≡ dynamic_in sc i)
          (λ x. rw (lt-leb sc.q i x)) (λ x y. rw (le-leb sc.q i x, lt-leb sc.lo i y))
          (λ x y. rw (le-leb sc.q i x, le-leb sc.lo i y, lt-ltb i sc.n l))

      go : (i : ℕ) → Dec (i < sc.n) → dynamics Δ i ≡ dynamic_in sc i
      go i (yes l) = ap is_dynamic (look_context T sc.q sc.lo (has sc.marks) sc.n i l) ∙ by i l
      go i (no l) = ap is_dynamic (look_outside T sc.q sc.lo (has sc.marks) sc.n i (omega arith))
          ∙ sym (ap (λ b. leb sc.q i && (leb sc.lo i && b)) (le-ltb i sc.n (omega arith)) ∙ none_of (leb sc.q i) (leb sc.lo i))

  pub marks-context : marks Δ ≡ marked_in sc
  unfolding marked
  marks-context = fun_ext λ i. go i (dec_lt i sc.n)
    where
      by : (i : ℕ) → i < sc.n → marked (some (standing sc.q sc.lo (has sc.marks) i (T i))) ≡ marked_in sc i
      by i l = stands_by sc.q sc.lo (has sc.marks) i (T i) (λ x. marked (some x) ≡ marked_in sc i)
          (λ x. rw (lt-leb sc.q i x)) (λ x y. rw (le-leb sc.q i x, lt-ltb i sc.n l)) (λ x y. rw (le-leb sc.q i x, lt-ltb i sc.n l))

      go : (i : ℕ) → Dec (i < sc.n) → marks Δ i ≡ marked_in sc i
      go i (yes l) = ap marked (look_context T sc.q sc.lo (has sc.marks) sc.n i l) ∙ by i l
      go i (no l) = ap marked (look_outside T sc.q sc.lo (has sc.marks) sc.n i (omega arith))
          ∙ sym (ap (λ b. leb sc.q i && (b && has sc.marks i)) (le-ltb i sc.n (omega arith)) ∙ and-false (leb sc.q i))

  -- the namings that wait in a term, by the scope
  pub waits-context : (t : Term) → waits_in Δ t ≡ waits (dynamic_in sc) (marked_in sc) sc.n t
  waits-context t = ap (λ D. waits D (marks Δ) (length Δ) t) dynamics-context
      ∙ ap₂ (λ M n. waits (dynamic_in sc) M n t) marks-context (length-context T sc.q sc.lo (has sc.marks) sc.n)

----------------------------------------------------------------
-- Both branches' uses

-- what must be used, by what the variable is bound to
must_use_some : (Δ : Context) (i : ℕ) (x : Binding) → look Δ i ≡ some x → must_use_at Δ i ≡ must_use x
unfolding must_use_at
must_use_some Δ i x p = ap (λ o. elim o as (λ (o : Option Binding). Bool) [ none ↦ false | some x ↦ must_use x ]) p

must_use-there : (Δ : Context) (i : ℕ) → must_use_at Δ i ≡ true → (x : Binding) × (look Δ i ≡ some x) × (must_use x ≡ true)
unfolding must_use_at
must_use-there Δ i e = go (look Δ i) refl e
  where
    go : (o : Option Binding) → look Δ i ≡ o → elim o as (λ (o : Option Binding). Bool) [ none ↦ false | some x ↦ must_use x ] ≡ true
        → (x : Binding) × (look Δ i ≡ some x) × (must_use x ≡ true)
    go none p e = absurd (false≢true e)
    go (some x) p e = (x, p, e)

-- a variable more: it must be used unless it is of the unit type
pub must_use-newest : (Δ : Context) (c : Ty) (i : ℕ) → i ≡ length Δ → must_use_at (dynamic false c ∷ Δ) i ≡ not (is_unit c)
unfolding must_use
must_use-newest Δ c i e =
    must_use_some (dynamic false c ∷ Δ) i (dynamic false c) (ap (look (dynamic false c ∷ Δ)) e ∙ look_newest (dynamic false c) Δ)

pub must_use-older : (Δ : Context) (x : Binding) (i : ℕ) → i < length Δ → must_use_at (x ∷ Δ) i ≡ must_use_at Δ i
unfolding must_use_at
must_use-older Δ x i l = ap (λ o. elim o as (λ (o : Option Binding). Bool) [ none ↦ false | some x ↦ must_use x ]) (look_skip Δ x i l)

-- of variables that are not there, none must
pub must_use-outside : (Δ : Context) (i : ℕ) → length Δ ≤ i → must_use_at Δ i ≡ false
unfolding must_use_at
must_use-outside Δ i l = ap (λ o. elim o as (λ (o : Option Binding). Bool) [ none ↦ false | some x ↦ must_use x ]) (look_none Δ i l)

-- nor of those in an ancilla argument that were bound outside it
pub must_use-barred : (T : ℕ → Ty) (q : ℕ) (M : Vars) (n i : ℕ) → must_use_at (context_at T q n M n) i ≡ false
unfolding must_use
must_use-barred T q M n i = go (dec_lt i n)
  where
    seen : i < n → must_use_at (context_at T q n M n) i ≡ must_use (standing q n M i (T i))
    seen l = must_use_some (context_at T q n M n) i (standing q n M i (T i)) (look_context T q n M n i l)

    go : Dec (i < n) → must_use_at (context_at T q n M n) i ≡ false
    go (yes l) = seen l ∙ stands_by q n M i (T i) (λ x. must_use x ≡ false) (λ x. refl) (λ x y. refl) (λ x y. absurd (omega arith))
    go (no l) = must_use-outside (context_at T q n M n) i (let z : length (context_at T q n M n) ≡ n = length-context T q n M n in omega arith)

-- marks do not matter to it
pub must_use-mark : (N : Vars) (Δ : Context) (i : ℕ) → must_use_at (mark N Δ) i ≡ must_use_at Δ i
unfolding must_use_at mark_one must_use
must_use-mark N Δ i = ap (λ o. elim o as (λ (o : Option Binding). Bool) [ none ↦ false | some x ↦ must_use x ]) (look_mark N Δ i) ∙ go (N i) (look Δ i)
  where
    go : (u : Bool) (o : Option Binding) → ◌≡◌ {A = Bool} (elim (mark_o u o) [ none ↦ false | some x ↦ must_use x ])
        (elim o [ none ↦ false | some x ↦ must_use x ])
    go u none = refl
    go u (some (static c)) = refl
    go u (some (dynamic m c)) = refl
    go u (some (barred m c)) = refl

-- what must be used is dynamic and not of the unit type
must_use-dynamic : (x : Binding) → must_use x ≡ true → (m : Bool) × (c : Ty) × (x ≡ dynamic m c) × (is_unit c ≡ false)
unfolding must_use
must_use-dynamic (static c) e = absurd (false≢true e)
must_use-dynamic (dynamic m c) e = (m, c, refl, not-true {b = is_unit c} e)
must_use-dynamic (barred m c) e = absurd (false≢true e)

dynamic_must_use : (Δ : Context) (i : ℕ) (m : Bool) (c : Ty) → look Δ i ≡ some (dynamic m c) → is_unit c ≡ false → must_use_at Δ i ≡ true
unfolding must_use
dynamic_must_use Δ i m c p u = must_use_some Δ i (dynamic m c) p ∙ ap not u

-- a variable that is found is among those of the context
look_below : (Δ : Context) (i : ℕ) (x : Binding) → look Δ i ≡ some x → i < length Δ
look_below Δ i x p = go (dec_lt i (length Δ))
  where
    go : Dec (i < length Δ) → i < length Δ
    go (yes l) = l
    go (no l) = absurd (none≢some (sym (look_none Δ i (omega arith)) ∙ p))

-- the branches use the same of what must be used exactly if the sets agree there
pub same_use_iff : (Δ : Context) (b b' : Term) (u v w : Uses) → length Δ ≤ max_variables → UsedBy u b → UsedBy v b' → Owed w Δ
    → (same_use Δ b b' ≡ true) ↔ AgreeOn u v w
same_use_iff Δ b b' u v w l nb nb' ow = (
  λ e i h m. given (must_use-there Δ i (sym (ow.each i h) ∙ m)) λ (x, p, y). given (must_use-dynamic x y) λ (k, c, d, z).
      nb.each i h ∙ same_use-sound Δ b b' e i c (k, p ∙ ap some d) z ∙ sym (nb'.each i h),
  λ A. same_use_yes Δ b b' λ i c (m, p) z. given (look_below Δ i (dynamic m c) p) λ k. let h : i < max_variables = omega arith in
      sym (nb.each i h) ∙ A i h (ow.each i h ∙ dynamic_must_use Δ i m c p z) ∙ nb'.each i h,
)
