-- What typing as a function accepts, the rules type: a term with the dynamic variables that it uses, and whole programs.
use Prim.Native.Nat.{ℕ, zero, suc, ◌+◌, ◌≤◌}
use native.Mathlib.Omega.{arith}
use mathlib.Core.Path.{◌≡◌, refl, sym, ap, subst, ◌∙◌}
use mathlib.Core.Bool.{Bool, true, false, not, ◌&&◌, cond, false≢true}
use mathlib.Core.Option.{some}
use mathlib.Core.List.{List, [], ◌∷◌, ◌++◌}
use lib.ListN.{length}
use package.Rattle.rules.specs.Ty.{Ty, prod, sum, mu, unfold_ty, nodes, is_unit}
use package.Rattle.rules.specs.Term.{Term, Terms, var, tunit, tinl, tinr, tpair, tlet, tletp, tcase}
use package.Rattle.rules.specs.Term.{tcall, troll, tunroll, end, more, Fun, Program, nth, look, used_in}
use package.Rattle.rules.specs.Typing.{Binding, static, dynamic, barred, Context, bar_one, bar, Vars, ∅, only, ◌∪◌, mark}
use package.Rattle.rules.specs.Typing.{◌∶◌, arguments, Types, t_var1, t_var2, t_var3, t_unit, t_inl, t_inr, t_prod}
use package.Rattle.rules.specs.Typing.{t_let1, t_let2, t_sum, t_app1, t_app2, t_app2_end, t_roll, t_unroll, WellTyped}
use package.Rattle.rules.specs.Check.{term, function, good, Naming, visible, is_dynamic, marked, dynamics, marks, helps, onward, waits, waits_all}
use package.Rattle.rules.specs.Check.{waits_in, waits_in_all, unhelped, spent, same_use, infer, infer_arguments, statics, check_fun, check_funs, check}
use package.Rattle.rules.proofs.Basics.{given, none≢some, some_inj, and_both, and-false, or_left, or_right, or_same, eqb-sound}
use package.Rattle.rules.proofs.Directed.{Spent}
use package.Rattle.rules.proofs.Typing.Contexts.{static≢dynamic, barred≢dynamic, Dynamic, dynamic-at, look_bar}
use package.Rattle.rules.proofs.Typing.Tests.{same_ty_eq, leb-sound, AgreeIn, same_use-sound}
use package.Rattle.rules.proofs.Typing.Uses.{uses_of}
use package.Rattle.rules.proofs.Typing.Functions.{Declared, length-parameters, look_parameters, declared}
use package.Rattle.rules.proofs.Typing.Weaken.{weaken, same_set}
use package.Rattle.rules.proofs.Typing.Least.{dynamics_of, used, used_in_lem, used-out, used-free, used-both}
use package.Rattle.rules.proofs.Typing.Least.{used-branch, used_none, used-newest, used-under, used-mark}
use package.Rattle.rules.proofs.Typing.Pass.{Pass, pass, fail, passed, pass-map, pass_bind, pass-need, pass-then}
use package.Rattle.rules.proofs.Typing.Pass.{pass-test, pass-sum, pass-prod, pass-mu, pass-fun, pass-visible, pass_none}
use package.Rattle.rules.proofs.Typing.Waiting.{waits_let, waits_letp, waits_case, waits-call}
use package.Rattle.rules.proofs.Typing.Namings.{Fewer, fewer_refl, fewer-push, fewer-length, fewer-mark, fewer-bar, fewer-static}
use package.Rattle.rules.proofs.Typing.Namings.{fewer-dynamic, fewer-barred, more-dynamic, Allows, allows-both, allows-first, allows-second}
use package.Rattle.rules.proofs.Typing.Namings.{allows-pop, allows-push, allows-bar, allows_unbar, onward-allowed, settled, no-places}

----------------------------------------------------------------
-- Inside an ancilla argument

-- no variable is dynamic
abbrev NoDynamic : Context → Type 0
NoDynamic Δ = (i : ℕ) (c : Ty) → Dynamic Δ i c → ⊥

bar-no-dynamic : (Δ : Context) → NoDynamic (bar Δ)
unfolding bar_one
bar-no-dynamic Δ i c (m, p) = given (look_bar Δ i p) λ (x, q, e). go x e
  where
    go : (x : Binding) → bar_one x ≡ dynamic m c → ⊥
    go (static d) e = static≢dynamic e
    go (dynamic n d) e = barred≢dynamic e
    go (barred n d) e = barred≢dynamic e

module _ (variables most : ℕ) (P : Program) where
  -- the term is typed with the dynamic variables that it names
  abbrev Typable : Context → Term → Ty → Type 0
  Typable Δ t τ = Types variables most P Δ (used Δ t) (t ∶ τ)

  ----------------------------------------------------------------
  -- The rules, with the dynamic variables that the terms name

  -- the set of a bound term is judged under its let's context
  unmarked : (N : Vars) (Δ : Context) {e : Term} {c : Ty} → Typable (mark N Δ) e c → Types variables most P (mark N Δ) (used Δ e) (e ∶ c)
  unmarked N Δ {e} {c} d = subst (λ U. Types variables most P (mark N Δ) U (e ∶ c)) (used-mark N Δ e) d

  module _ {Δ : Context} where
    var-static : (k i : ℕ) {c : Ty} → look Δ i ≡ some (static c) → Typable Δ (var k i) c
    var-static k i p = weaken variables most P (same_set (λ j x. absurd (false≢true x)) λ j x. given (used-out Δ (only i) j x) λ (d, (m, q), y).
        absurd (static≢dynamic (some_inj (sym p ∙ ap (look Δ) (sym (eqb-sound j i y)) ∙ q)))) (t_var1 p)

    var_named : (k i : ℕ) {c : Ty} → look Δ i ≡ some (barred true c) → Typable Δ (var k i) c
    var_named k i p = weaken variables most P (same_set (λ j x. absurd (false≢true x)) λ j x. given (used-out Δ (only i) j x) λ (d, (m, q), y).
        absurd (barred≢dynamic (some_inj (sym p ∙ ap (look Δ) (sym (eqb-sound j i y)) ∙ q)))) (t_var3 p)

    var-dynamic : (k i : ℕ) {m : Bool} {c : Ty} → look Δ i ≡ some (dynamic m c) → Typable Δ (var k i) c
    var-dynamic k i {m} p = weaken variables most P (same_set (λ j x. used_in_lem Δ (only i) j (dynamic-at Δ (eqb-sound j i x) (m, p)) x)
        λ j x. given (used-out Δ (only i) j x) λ (d, q, y). y) (t_var2 p)

    let_typable : (k : ℕ) {e b : Term} {c τ : Ty} → suc (length Δ) ≤ variables → Typable (mark (uses_of b) Δ) e c → Typable (dynamic false c ∷ Δ) b τ
        → Spent (length Δ) c b → Typable Δ (tlet k e b) τ
    let_typable k {e} {b} {c} r d d' s = weaken variables most P (used-both Δ (uses_of e) (uses_of b)) (t_let1 (used Δ b) r (unmarked (uses_of b) Δ d)
        (weaken variables most P (used-newest Δ (uses_of b) false c s) d') (used-free Δ (uses_of b) (length Δ) (omega arith)))

    letp_typable : (k : ℕ) {e b : Term} {c c' τ : Ty} → suc (suc (length Δ)) ≤ variables
        → Typable (mark (uses_of b) Δ) e (prod c c') → Typable (dynamic false c' ∷ dynamic false c ∷ Δ) b τ
        → Spent (length Δ) c b → Spent (suc (length Δ)) c' b → Typable Δ (tletp k e b) τ
    letp_typable k {e} {b} {c} {c'} r d d' s s' = weaken variables most P (used-both Δ (uses_of e) (uses_of b)) (t_let2 (used Δ b) r (unmarked (uses_of b) Δ d)
        (weaken variables most P (used-under (dynamic false c ∷ Δ) (uses_of b) false c' s' (used-newest Δ (uses_of b) false c s)) d')
        (used-free Δ (uses_of b) (length Δ) (omega arith)) (used-free Δ (uses_of b) (suc (length Δ)) (omega arith)))

    case_typable : (k : ℕ) {e b b' : Term} {c c' τ : Ty} → suc (length Δ) ≤ variables → Typable Δ e (sum c c')
        → Typable (dynamic false c ∷ Δ) b τ → Typable (dynamic false c' ∷ Δ) b' τ
        → Spent (length Δ) c b → Spent (length Δ) c' b' → AgreeIn Δ b b' → Typable Δ (tcase k e b b') τ
    case_typable k {e} {b} {b'} {c} {c'} r d d₁ d₂ s₁ s₂ same = weaken variables most P (used-both Δ (uses_of e) both) (t_sum (dynamics_of Δ both) r d
        (weaken variables most P (used-under Δ (uses_of b) false c s₁ (used-branch Δ (uses_of b) both (λ i. or_left (used_in i b')) in_left)) d₁)
        (weaken variables most P (used-under Δ (uses_of b') false c' s₂ (used-branch Δ (uses_of b') both (λ i. or_right (used_in i b)) in_right)) d₂)
        (used-free Δ both (length Δ) (omega arith)))
      where
        both : Vars
        both = uses_of b ∪ uses_of b'

        -- what either branch names, and is not unit, each names
        in_left : (i : ℕ) (a : Ty) → Dynamic Δ i a → is_unit a ≡ false → both i ≡ true → used_in i b ≡ true
        in_left i a p u = or_same (used_in i b) (used_in i b') (same i a p u)

        in_right : (i : ℕ) (a : Ty) → Dynamic Δ i a → is_unit a ≡ false → both i ≡ true → used_in i b' ≡ true
        in_right i a p u x = sym (same i a p u) ∙ in_left i a p u x

  ----------------------------------------------------------------
  -- Terms

  -- What is accepted of a term: its context allows the namings that wait, and with marks for these the rules type it.
  abbrev Sounds : Context → Term → Ty → Type 0
  Sounds Δ t τ = Allows Δ (waits_in Δ t) × ((Δ₀ : Context) → Fewer Δ₀ Δ → Allows Δ₀ (waits_in Δ t) → Typable Δ₀ t τ)

  abbrev SoundsAll : Context → Terms → List Ty → Type 0
  SoundsAll Δ ts cs = Allows Δ (waits_in_all Δ ts)
      × ((Δ₀ : Context) → Fewer Δ₀ Δ → Allows Δ₀ (waits_in_all Δ ts) → NoDynamic Δ₀ → Types variables most P Δ₀ ∅ (arguments ts cs))

  -- the same of other namings, which those of the term are
  sounds : (Δ : Context) (t : Term) (τ : Ty) (W : List Naming) → waits_in Δ t ≡ W → Allows Δ W
      → ((Δ₀ : Context) → Fewer Δ₀ Δ → Allows Δ₀ W → Typable Δ₀ t τ) → Sounds Δ t τ
  sounds Δ t τ W e A T = (subst (Allows Δ) (sym e) A, λ Δ₀ F A₀. T Δ₀ F (subst (Allows Δ₀) e A₀))

  -- a variable: a use, or a naming that waits
  var-sound : (Δ : Context) (k i : ℕ) → Pass (Sounds Δ (var k i)) (visible (term k) (look Δ i))
  unfolding marked is_dynamic waits
  var-sound Δ k i = pass-visible (term k) (look Δ i)
      (λ c p. sounds Δ (var k i) c [] (no_naming (static c) p refl) tt λ Δ₀ F A. var-static k i (fewer-static Δ₀ Δ F i p))
      (λ m c p. sounds Δ (var k i) c [] (no_naming (dynamic m c) p (and-false m)) tt
      λ Δ₀ F A. given (fewer-dynamic Δ₀ Δ F i p) λ (n, q). var-dynamic k i q)
      (λ c p. sounds Δ (var k i) c (record { variable = i; place = k } ∷ [])
      (ap (λ o. cond (marked o && not (is_dynamic o)) (record { variable = i; place = k } ∷ []) []) p)
      (ap marked p, tt) λ Δ₀ F A. var_named k i (fewer-barred Δ₀ Δ F i p A.0))
    where
      no_naming : (x : Binding) → look Δ i ≡ some x → (marked (some x) && not (is_dynamic (some x))) ≡ false → waits_in Δ (var k i) ≡ []
      no_naming x p e = ap (λ o. cond (marked o && not (is_dynamic o)) (record { variable = i; place = k } ∷ []) []) p
          ∙ ap (λ b. cond b (record { variable = i; place = k } ∷ []) []) e

  -- a let, once its body is typed and its bound term's namings are settled
  let_sound : (Δ : Context) (k : ℕ) (e b : Term) (c τ : Ty) → suc (length Δ) ≤ variables → Sounds (mark (λ i. true) Δ) e c
      → Sounds (dynamic false c ∷ Δ) b τ → Spent (length Δ) c b → unhelped Δ e b ≡ [] → Sounds Δ (tlet k e b) τ
  let_sound Δ k e b c τ r (A, T) (A', T') s l = sounds Δ (tlet k e b) τ (on ++ W') (waits_let c Δ k e b)
      (allows-both Δ on W' (onward-allowed Δ b W) (allows-pop c Δ W' A'))
      λ Δ₀ F A₀. given (fewer-length Δ₀ Δ F) λ n. let_typable k (subst (λ n. suc n ≤ variables) (sym n) r)
      (T (mark (uses_of b) Δ₀) (fewer-mark (uses_of b) Δ₀ Δ F)
      (settled Δ₀ Δ F b W l (allows-first Δ₀ on W' A₀)))
      (T' (dynamic false c ∷ Δ₀) (fewer-push c Δ₀ Δ F) (allows-push c Δ₀ W' (allows-second Δ₀ on W' A₀)))
      (subst (λ n. Spent n c b) (sym n) s)
    where
      W : List Naming
      W = waits_in (mark (λ i. true) Δ) e

      W' : List Naming
      W' = waits_in (dynamic false c ∷ Δ) b

      on : List Naming
      on = onward (helps (dynamics Δ) b) (marks Δ) W

  letp_sound : (Δ : Context) (k : ℕ) (e b : Term) (c d τ : Ty) → suc (suc (length Δ)) ≤ variables
      → Sounds (mark (λ i. true) Δ) e (prod c d) → Sounds (dynamic false d ∷ dynamic false c ∷ Δ) b τ
      → Spent (length Δ) c b → Spent (suc (length Δ)) d b → unhelped Δ e b ≡ [] → Sounds Δ (tletp k e b) τ
  letp_sound Δ k e b c d τ r (A, T) (A', T') s s' l = sounds Δ (tletp k e b) τ (on ++ W') (waits_letp c d Δ k e b)
      (allows-both Δ on W' (onward-allowed Δ b W) (allows-pop c Δ W' (allows-pop d (dynamic false c ∷ Δ) W' A')))
      λ Δ₀ F A₀. given (fewer-length Δ₀ Δ F) λ n. letp_typable k (subst (λ n. suc (suc n) ≤ variables) (sym n) r)
      (T (mark (uses_of b) Δ₀) (fewer-mark (uses_of b) Δ₀ Δ F)
      (settled Δ₀ Δ F b W l (allows-first Δ₀ on W' A₀)))
      (T' (dynamic false d ∷ dynamic false c ∷ Δ₀) (fewer-push d (dynamic false c ∷ Δ₀) (dynamic false c ∷ Δ) (fewer-push c Δ₀ Δ F))
      (allows-push d (dynamic false c ∷ Δ₀) W' (allows-push c Δ₀ W' (allows-second Δ₀ on W' A₀))))
      (subst (λ n. Spent n c b) (sym n) s) (subst (λ n. Spent (suc n) d b) (sym n) s')
    where
      W : List Naming
      W = waits_in (mark (λ i. true) Δ) e

      W' : List Naming
      W' = waits_in (dynamic false d ∷ dynamic false c ∷ Δ) b

      on : List Naming
      on = onward (helps (dynamics Δ) b) (marks Δ) W

  case_sound : (Δ : Context) (k : ℕ) (e b b' : Term) (c d τ τ' : Ty) → suc (length Δ) ≤ variables → Sounds Δ e (sum c d)
      → Sounds (dynamic false c ∷ Δ) b τ → Sounds (dynamic false d ∷ Δ) b' τ' → τ ≡ τ'
      → Spent (length Δ) c b → Spent (length Δ) d b' → AgreeIn Δ b b' → Sounds Δ (tcase k e b b') τ
  case_sound Δ k e b b' c d τ τ' r (A, T) (A₁, T₁) (A₂, T₂) y s₁ s₂ same = sounds Δ (tcase k e b b') τ (W ++ (W₁ ++ W₂)) (waits_case c d Δ k e b b')
      (allows-both Δ W (W₁ ++ W₂) A (allows-both Δ W₁ W₂ (allows-pop c Δ W₁ A₁) (allows-pop d Δ W₂ A₂)))
      λ Δ₀ F A₀. given (fewer-length Δ₀ Δ F) λ n. given (allows-second Δ₀ W (W₁ ++ W₂) A₀) λ A₀'.
      case_typable k (subst (λ n. suc n ≤ variables) (sym n) r)
      (T Δ₀ F (allows-first Δ₀ W (W₁ ++ W₂) A₀))
      (T₁ (dynamic false c ∷ Δ₀) (fewer-push c Δ₀ Δ F) (allows-push c Δ₀ W₁ (allows-first Δ₀ W₁ W₂ A₀')))
      (subst (Typable (dynamic false d ∷ Δ₀) b') (sym y)
      (T₂ (dynamic false d ∷ Δ₀) (fewer-push d Δ₀ Δ F) (allows-push d Δ₀ W₂ (allows-second Δ₀ W₁ W₂ A₀'))))
      (subst (λ n. Spent n c b) (sym n) s₁) (subst (λ n. Spent n d b') (sym n) s₂)
      (λ i a (m, p) u. given (more-dynamic Δ₀ Δ F i p) λ (n, q). same i a (n, q) u)
    where
      W : List Naming
      W = waits_in Δ e

      W₁ : List Naming
      W₁ = waits_in (dynamic false c ∷ Δ) b

      W₂ : List Naming
      W₂ = waits_in (dynamic false d ∷ Δ) b'

  mutual
    unfolding infer waits waits_all

    term-sound : (Δ : Context) (t : Term) → Pass (Sounds Δ t) (infer variables most P Δ t)
    term-sound Δ (var k i) = var-sound Δ k i
    term-sound Δ (tunit k) = pass (
      tt,
      λ Δ₀ F A. weaken variables most P
          (same_set (λ i x. absurd (false≢true x)) λ i x. given (used-out Δ₀ ∅ i x) λ (c, p, y). y) t_unit,
    )
    term-sound Δ (tinl k c e) = pass-sum (term k) c _ λ a b x. pass_bind _ (term-sound Δ e) λ d (A, T). pass-test _ 6 (term k) _ λ y.
        pass (A, λ Δ₀ F A₀. subst (λ c. Typable Δ₀ (tinl k c e) (sum a b)) x (t_inl (subst (Typable Δ₀ e) (same_ty_eq d a y) (T Δ₀ F A₀))))
    term-sound Δ (tinr k c e) = pass-sum (term k) c _ λ a b x. pass_bind _ (term-sound Δ e) λ d (A, T). pass-test _ 6 (term k) _ λ y.
        pass (A, λ Δ₀ F A₀. subst (λ c. Typable Δ₀ (tinr k c e) (sum a b)) x (t_inr (subst (Typable Δ₀ e) (same_ty_eq d b y) (T Δ₀ F A₀))))
    term-sound Δ (tpair k e e') = pass_bind _ (term-sound Δ e) λ a (A, T). pass_bind _ (term-sound Δ e') λ b (A', T'). pass-test _ 6 (term k) _ λ y.
        pass (
          allows-both Δ (waits_in Δ e) (waits_in Δ e') A A',
          λ Δ₀ F A₀. weaken variables most P (used-both Δ₀ (uses_of e) (uses_of e'))
              (t_prod (T Δ₀ F (allows-first Δ₀ (waits_in Δ e) (waits_in Δ e') A₀)) (T' Δ₀ F (allows-second Δ₀ (waits_in Δ e) (waits_in Δ e') A₀))
              (leb-sound (nodes (prod a b)) most y)),
        )
    term-sound Δ (tlet k e b) = pass-test _ 7 (term k) _ λ r. pass_bind _ (term-sound (mark (λ i. true) Δ) e) λ c S.
        pass_bind _ (term-sound (dynamic false c ∷ Δ) b) λ τ S'.
        pass_none _ _ λ x. given (no-places (spent (length Δ) c b) k (unhelped Δ e b) x) λ (s, l).
        pass (let_sound Δ k e b c τ (omega (arith, leb-sound (1 + length Δ) variables r)) S S' s l)
    term-sound Δ (tletp k e b) = pass-test _ 7 (term k) _ λ r. pass_bind _ (term-sound (mark (λ i. true) Δ) e) λ p (A, T).
        pass-prod (term k) p _ λ c d x. pass_bind _ (term-sound (dynamic false d ∷ dynamic false c ∷ Δ) b) λ τ S'.
        pass_none _ _ λ y. given (no-places (spent (length Δ) c b && spent (suc (length Δ)) d b) k (unhelped Δ e b) y) λ (s, l).
        given (and_both _ _ s) λ (s₁, s₂). pass (letp_sound Δ k e b c d τ (omega (arith, leb-sound (2 + length Δ) variables r))
        (A, λ Δ₀ F A₀. subst (Typable Δ₀ e) (sym x) (T Δ₀ F A₀)) S' s₁ s₂ l)
    term-sound Δ (tcase k e b b') = pass-test _ 7 (term k) _ λ r. pass_bind _ (term-sound Δ e) λ p (A, T). pass-sum (term k) p _ λ c d x.
        pass_bind _ (term-sound (dynamic false c ∷ Δ) b) λ τ S₁. pass-test _ 8 (term k) _ λ s₁.
        pass_bind _ (term-sound (dynamic false d ∷ Δ) b') λ τ' S₂. pass-test _ 6 (term k) _ λ y. pass-test _ 8 (term k) _ λ s.
        given (and_both _ (same_use Δ b b') s) λ (s₂, same).
        pass (case_sound Δ k e b b' c d τ τ' (omega (arith, leb-sound (1 + length Δ) variables r))
        (A, λ Δ₀ F A₀. subst (Typable Δ₀ e) (sym x) (T Δ₀ F A₀)) S₁ S₂ (same_ty_eq τ τ' y) s₁ s₂ (same_use-sound Δ b b' same))
    term-sound Δ (tcall k g ts e) = pass-fun (term k) (nth P g) _ λ h x. pass-test _ 6 (term k) _ λ n.
        pass-then _ (arguments_sound k (bar Δ) ts h.ancillae) λ (As, Ts). pass_bind _ (term-sound Δ e) λ d (A, T).
        pass-test _ 6 (term k) _ λ y. pass (sounds Δ (tcall k g ts e) h.result (waits_in_all (bar Δ) ts ++ waits_in Δ e) (waits-call Δ k g ts e)
        (allows-both Δ (waits_in_all (bar Δ) ts) (waits_in Δ e) (allows_unbar Δ (waits_in_all (bar Δ) ts) As) A)
        λ Δ₀ F A₀. t_app1 x (Ts (bar Δ₀) (fewer-bar Δ₀ Δ F) (allows-bar Δ₀ (waits_in_all (bar Δ) ts)
        (allows-first Δ₀ (waits_in_all (bar Δ) ts) (waits_in Δ e) A₀)) (bar-no-dynamic Δ₀))
        (subst (Typable Δ₀ e) (same_ty_eq d h.dynamic y) (T Δ₀ F (allows-second Δ₀ (waits_in_all (bar Δ) ts) (waits_in Δ e) A₀))))
    term-sound Δ (troll k c e) = pass-mu (term k) c _ λ a x. pass_bind _ (term-sound Δ e) λ d (A, T). pass-test _ 6 (term k) _ λ y.
        pass (A, λ Δ₀ F A₀. subst (λ c. Typable Δ₀ (troll k c e) (mu a)) x (t_roll (subst (Typable Δ₀ e) (same_ty_eq d (unfold_ty a) y) (T Δ₀ F A₀))))
    term-sound Δ (tunroll k c e) = pass-mu (term k) c _ λ a x. pass-test _ 6 (term k) _ λ n. pass_bind _ (term-sound Δ e) λ d (A, T).
        pass-test _ 6 (term k) _ λ y. pass (
          A,
          λ Δ₀ F A₀. subst (λ c. Typable Δ₀ (tunroll k c e) (unfold_ty a)) x
              (t_unroll (subst (Typable Δ₀ e) (same_ty_eq d (mu a) y) (T Δ₀ F A₀)) (leb-sound (nodes (unfold_ty a)) most n)),
        )

    arguments_sound : (k : ℕ) (Δ : Context) (ts : Terms) (cs : List Ty) → Pass (λ u. SoundsAll Δ ts cs) (infer_arguments variables most P k Δ ts cs)
    arguments_sound k Δ end [] = pass (tt, λ Δ₀ F A s. t_app2_end)
    arguments_sound k Δ end (c ∷ cs) = fail
    arguments_sound k Δ (more t ts) [] = fail
    arguments_sound k Δ (more t ts) (c ∷ cs) = pass_bind _ (term-sound Δ t) λ d (A, T). pass-test _ 6 (term k) _ λ y.
        pass-map (λ u (As, Ts). (
          allows-both Δ (waits_in Δ t) (waits_in_all Δ ts) A As,
          λ Δ₀ F A₀ s. t_app2
              (weaken variables most P (used_none Δ₀ (uses_of t) s)
              (subst (Typable Δ₀ t) (same_ty_eq d c y) (T Δ₀ F (allows-first Δ₀ (waits_in Δ t) (waits_in_all Δ ts) A₀))))
              (Ts Δ₀ F (allows-second Δ₀ (waits_in Δ t) (waits_in_all Δ ts) A₀) s),
        )) (arguments_sound k Δ ts cs)

  infer-pass : (Δ : Context) (t : Term) → Pass (Typable Δ t) (infer variables most P Δ t)
  infer-pass Δ t = pass-map (λ τ (A, T). T Δ (fewer_refl Δ) A) (term-sound Δ t)

  pub infer-sound : {Δ : Context} {t : Term} {τ : Ty} → infer variables most P Δ t ≡ good τ → Types variables most P Δ (used Δ t) (t ∶ τ)
  infer-sound {Δ} {t} = passed (Typable Δ t) (infer-pass Δ t)

  ----------------------------------------------------------------
  -- Functions and programs

  -- a body that uses the dynamic parameter, or need not
  body-declared : (h : Fun) → Typable (dynamic false h.dynamic ∷ statics h.ancillae []) h.body h.result
      → Spent (length h.ancillae) h.dynamic h.body → Declared variables most P h
  body-declared h T s = declared variables most P [] h.ancillae (weaken variables most P
      (used-under Σ (uses_of h.body) false h.dynamic s' (used_none Σ (uses_of h.body) λ i c (m, p). look_parameters h.ancillae i (dynamic m c) p)) T)
    where
      Σ : Context
      Σ = statics h.ancillae []

      s' : Spent (length Σ) h.dynamic h.body
      s' = subst (λ n. Spent n h.dynamic h.body) (sym (length-parameters h.ancillae)) s

  fun-sound : (g : ℕ) (h : Fun) → Pass (λ u. Declared variables most P h) (check_fun variables most P g h)
  unfolding check_fun spent
  fun-sound g h = pass_bind _ (infer-pass _ h.body) λ τ T. pass-test _ 6 (function g) _ λ y. pass-need _ 8 (function g) λ s.
      body-declared h (subst (Typable _ h.body) (same_ty_eq τ h.result y) T) s

  funs_sound : (g : ℕ) (hs : List Fun) → Pass (λ u. (j : ℕ) (h : Fun) → nth hs j ≡ some h → Declared variables most P h) (check_funs variables most P g hs)
  unfolding check_funs nth
  funs_sound g [] = pass λ j h p. absurd (none≢some p)
  funs_sound g (h ∷ hs) = pass-then _ (fun-sound g h) λ d. pass-map (λ u rest. both d rest) (funs_sound (suc g) hs)
    where
      both : Declared variables most P h → ((j : ℕ) (h : Fun) → nth hs j ≡ some h → Declared variables most P h)
          → (j : ℕ) (h' : Fun) → nth (h ∷ hs) j ≡ some h' → Declared variables most P h'
      both d rest zero h' p = subst (Declared variables most P) (some_inj p) d
      both d rest (suc j) h' p = rest j h' p

  pub check_sound : check variables most P ≡ good tt → WellTyped variables most P
  unfolding check
  check_sound = passed (λ u. WellTyped variables most P) (funs_sound 0 P)
