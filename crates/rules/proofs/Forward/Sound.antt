-- Forward answers only what the rules yield.
use Prim.Native.Nat.{ℕ, zero, suc, ◌+◌}
use native.Mathlib.Omega.{arith}
use mathlib.Core.Path.{◌≡◌, sym, ap, subst, ◌∙◌}
use mathlib.Core.Bool.{Bool, true}
use mathlib.Core.Option.{some}
use mathlib.Core.List.{List, [], ◌∷◌, map}
use lib.ListN.{length}
use package.Rattle.rules.specs.Val.{Val, unit, inl, inr, pair, roll}
use package.Rattle.rules.specs.Term.{Term, var, tunit, tinl, tinr, tpair, tlet, tletp, tcase, tcall, troll, tunroll, Terms, end, more, Program, scope}
use package.Rattle.rules.specs.Yield.{first_match}
use package.Rattle.rules.specs.Rules.{All, e_end, e_more, e_var, e_unit, e_inl, e_inr, e_prod, e_let, e_letp, e_casel, e_caser, e_app, e_roll, e_unroll, Ev}
use package.Rattle.rules.specs.Run.{ok, Run, ◌>>=◌, give, enter, test}
use package.Rattle.rules.specs.Machine.{on_sum, State, each, made, forward_step, forward}
use package.Rattle.rules.proofs.Basics.{given}
use package.Rattle.rules.proofs.Run.{unbind, stop≢ok, stuck≢ok, ok-value, ok-fuel, test_inv, some_inv, pair_inv, roll_inv}
use package.Rattle.rules.proofs.State.{Enough, extend, full}
use package.Rattle.rules.proofs.Directed.{Within, WithinAll, any, within-any}

module _ (fits : Val → Bool) (P : Program) where
  -- `t` yields `v` in the steps that take the fuel from `f` to `g`
  abbrev pub Yields : ℕ → List Val → List Val → Term → Val → ℕ → ℕ → Type 0
  Yields r a ρ t v f g = (n : ℕ) × Ev fits P r a ρ t v n × (f ≡ n + g)

  abbrev pub YieldAll : ℕ → List Val → List Val → Terms → List Val → ℕ → ℕ → Type 0
  YieldAll r a ρ ts vs f g = (n : ℕ) × All (Ev fits P r a ρ) ts vs n × (f ≡ n + g)

  made_inv : (k : ℕ) (x : Val) {f g : ℕ} {v : Val} → made fits P k x f ≡ ok v g → (fits x ≡ true) × (x ≡ v) × (f ≡ g)
  unfolding made
  made_inv k x p = given (test_inv (fits x) _ _ _ p) λ (h, q). (h, ok-value q, ok-fuel q)

  -- `go` answers only what the rules yield with room `r`
  abbrev pub Sound : ℕ → (List Val → State → Term → Run Val) → Type 0
  Sound r go = (a : List Val) (σ : State) (ρ : List Val) (A : ℕ → Bool) → Enough A σ ρ → (t : Term) → Within A t → (f : ℕ) (v : Val) (g : ℕ)
      → go a σ t f ≡ ok v g → Yields r a ρ t v f g

  module _ (r : ℕ) (go : List Val → State → Term → Run Val) (S : Sound r go) (a : List Val) (σ : State) (ρ : List Val) (A : ℕ → Bool) (E : Enough A σ ρ) where
    pub each-sound : (ts : Terms) → WithinAll A ts → (f : ℕ) (vs : List Val) (g : ℕ) → each (go a σ) ts f ≡ ok vs g → YieldAll r a ρ ts vs f g
    unfolding each
    each-sound end W f vs g p = (0, subst (λ vs. All (Ev fits P r a ρ) end vs 0) (ok-value p) e_end, omega (arith, ok-fuel p))
    each-sound (more t ts) W f vs g p =
        given (unbind _ _ p) λ (w, f₁, p₁, q).
        given (unbind _ _ q) λ (ws, f₂, p₂, q₂).
        given (S a σ ρ A E t W.0 f w f₁ p₁) λ (n, d, s).
        given (each-sound ts W.1 f₁ ws f₂ p₂) λ (m, ds, s').
        (n + m, subst (λ vs. All (Ev fits P r a ρ) (more t ts) vs (n + m)) (ok-value q₂) (e_more d ds), omega (arith, ok-fuel q₂))

    case_sound : (k : ℕ) (e b b' : Term) → Within A (tcase k e b b') → (f : ℕ) (w : Val) (f₁ : ℕ) (v : Val) (g : ℕ) → go a σ e f ≡ ok w f₁
        → on_sum w (λ x. go a (some x ∷ σ) b) (λ x. go a (some x ∷ σ) b' >>= λ y. test (first_match a (length σ) e b y) 15 k (give y)) f₁ ≡ ok v g
        → Yields (suc r) a ρ (tcase k e b b') v (suc f) g
    unfolding on_sum
    case_sound k e b b' W f unit f₁ v g p q = absurd (stuck≢ok q)
    case_sound k e b b' W f (inl x) f₁ v g p q =
        given (S a σ ρ A E e W.0 f (inl x) f₁ p) λ (n, d, s).
        given (S a (some x ∷ σ) (x ∷ ρ) A (extend A σ ρ x E) b W.1 f₁ v g q) λ (m, d', s').
        (suc (n + m), e_casel d d', omega arith)
    case_sound k e b b' W f (inr x) f₁ v g p q =
        given (unbind _ _ q) λ (y, f₂, p₂, q₂).
        given (test_inv (first_match a (length σ) e b y) _ _ _ q₂) λ (c, z).
        given (S a σ ρ A E e W.0 f (inr x) f₁ p) λ (n, d, s).
        given (S a (some x ∷ σ) (x ∷ ρ) A (extend A σ ρ x E) b' W.2 f₁ y f₂ p₂) λ (m, d', s'). (
          suc (n + m),
          subst (λ v. Ev fits P (suc r) a ρ (tcase k e b b') v (suc (n + m))) (ok-value z)
              (e_caser d d' (subst (λ n. first_match a n e b y ≡ true) E.0 c)),
          omega (arith, ok-fuel z),
        )
    case_sound k e b b' W f (pair x y) f₁ v g p q = absurd (stuck≢ok q)
    case_sound k e b b' W f (roll x) f₁ v g p q = absurd (stuck≢ok q)

    step-sound : (t : Term) → Within A t → (f : ℕ) (v : Val) (g : ℕ) → forward_step fits P go a σ t f ≡ ok v g → Yields (suc r) a ρ t v (suc f) g
    unfolding forward_step
    step-sound (var k i) W f v g p =
        given (some_inv _ _ p) λ (w, x, q).
        given (made_inv k w q) λ (ft, y, z).
        (1, subst (λ v. Ev fits P (suc r) a ρ (var k i) v 1) y (e_var (sym (E.1 i W) ∙ x) ft), omega arith)
    step-sound (tunit k) W f v g p =
        given (made_inv k unit p) λ (ft, y, z).
        (1, subst (λ v. Ev fits P (suc r) a ρ (tunit k) v 1) y (e_unit ft), omega arith)
    step-sound (tinl k c e) W f v g p =
        given (unbind _ _ p) λ (w, f₁, p₁, q).
        given (S a σ ρ A E e W f w f₁ p₁) λ (n, d, s).
        given (made_inv k (inl w) q) λ (ft, y, z).
        (suc n, subst (λ v. Ev fits P (suc r) a ρ (tinl k c e) v (suc n)) y (e_inl d ft), omega arith)
    step-sound (tinr k c e) W f v g p =
        given (unbind _ _ p) λ (w, f₁, p₁, q).
        given (S a σ ρ A E e W f w f₁ p₁) λ (n, d, s).
        given (made_inv k (inr w) q) λ (ft, y, z).
        (suc n, subst (λ v. Ev fits P (suc r) a ρ (tinr k c e) v (suc n)) y (e_inr d ft), omega arith)
    step-sound (tpair k e e') W f v g p =
        given (unbind _ _ p) λ (w, f₁, p₁, q₁).
        given (unbind _ _ q₁) λ (w', f₂, p₂, q₂).
        given (S a σ ρ A E e W.0 f w f₁ p₁) λ (n, d, s).
        given (S a σ ρ A E e' W.1 f₁ w' f₂ p₂) λ (m, d', s').
        given (made_inv k (pair w w') q₂) λ (ft, y, z).
        (suc (n + m), subst (λ v. Ev fits P (suc r) a ρ (tpair k e e') v (suc (n + m))) y (e_prod d d' ft), omega arith)
    step-sound (tlet k e b) W f v g p =
        given (unbind _ _ p) λ (w, f₁, p₁, q).
        given (S a σ ρ A E e W.0 f w f₁ p₁) λ (n, d, s).
        given (S a (some w ∷ σ) (w ∷ ρ) A (extend A σ ρ w E) b W.1 f₁ v g q) λ (m, d', s').
        (suc (n + m), e_let d d', omega arith)
    step-sound (tletp k e b) W f v g p =
        given (unbind _ _ p) λ (w, f₁, p₁, q₁).
        given (pair_inv w _ q₁) λ (x, y, z, q).
        given (S a σ ρ A E e W.0 f (pair x y) f₁ (p₁ ∙ ap (λ w. ok w f₁) z)) λ (n, d, s).
        given (S a (some y ∷ some x ∷ σ) (y ∷ x ∷ ρ) A (extend A (some x ∷ σ) (x ∷ ρ) y (extend A σ ρ x E)) b W.1 f₁ v g q) λ (m, d', s').
        (suc (n + m), e_letp d d', omega arith)
    step-sound (tcase k e b b') W f v g p =
        given (unbind _ _ p) λ (w, f₁, p₁, q).
        case_sound k e b b' W f w f₁ v g p₁ q
    step-sound (tcall k j ts e) W f v g p =
        given (some_inv _ _ p) λ (fn, x, q).
        given (unbind _ _ q) λ (vs, f₁, p₁, q₁).
        given (unbind _ _ q₁) λ (w, f₂, p₂, q₂).
        given (each-sound ts W.0 f vs f₁ p₁) λ (n, ds, s₁).
        given (S a σ ρ A E e W.1 f₁ w f₂ p₂) λ (m, d, s₂).
        given (S (scope vs []) (some w ∷ map some (scope vs [])) (w ∷ scope vs []) any (full any (w ∷ scope vs []))
        fn.body (within-any fn.body) f₂ v g q₂) λ (l, d', s₃).
        (suc (n + (m + l)), e_app x ds d d', omega arith)
    step-sound (troll k t e) W f v g p =
        given (unbind _ _ p) λ (w, f₁, p₁, q).
        given (S a σ ρ A E e W f w f₁ p₁) λ (n, d, s).
        given (made_inv k (roll w) q) λ (ft, y, z).
        (suc n, subst (λ v. Ev fits P (suc r) a ρ (troll k t e) v (suc n)) y (e_roll d ft), omega arith)
    step-sound (tunroll k t e) W f v g p =
        given (unbind _ _ p) λ (w, f₁, p₁, q₁).
        given (roll_inv w _ q₁) λ (x, z, q).
        given (S a σ ρ A E e W f (roll x) f₁ (p₁ ∙ ap (λ w. ok w f₁) z)) λ (n, d, s).
        given (made_inv k x q) λ (ft, y, z').
        (suc n, subst (λ v. Ev fits P (suc r) a ρ (tunroll k t e) v (suc n)) y (e_unroll d ft), omega arith)

  pub sound : (r : ℕ) → Sound r (forward fits P r)
  unfolding forward enter
  sound zero a σ ρ A E t W zero v g p = absurd (stop≢ok p)
  sound zero a σ ρ A E t W (suc f) v g p = absurd (stop≢ok p)
  sound (suc r) a σ ρ A E t W zero v g p = absurd (stop≢ok p)
  sound (suc r) a σ ρ A E t W (suc f) v g p = step-sound r (forward fits P r) (sound r) a σ ρ A E t W f v g p
