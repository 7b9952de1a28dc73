-- What forward can answer where the rules yield a value.
use Prim.Native.Nat.{ℕ, zero, suc}
use native.Mathlib.Omega.{arith}
use mathlib.Core.Path.{◌≡◌, refl, sym, ap, subst, ◌∙◌}
use mathlib.Core.Bool.{Bool, true}
use mathlib.Core.Option.{some}
use mathlib.Core.List.{List, [], ◌∷◌}
use lib.ListN.{length}
use package.Rattle.rules.specs.Val.{Val, unit, inl, inr, pair, roll}
use package.Rattle.rules.specs.Term.{Term, Terms, entry, Program, scope}
use package.Rattle.rules.specs.Yield.{first_match}
use package.Rattle.rules.specs.Rules.{Judgement, All, e_end, e_more, Rule, e_var, e_unit, e_inl, e_inr, e_prod, e_let, e_letp, e_casel, e_caser, e_app, e_roll, e_unroll, Ev}
use package.Rattle.rules.specs.Run.{Run, give, enter, test}
use package.Rattle.rules.specs.Machine.{on_sum, on_pair, on_roll, State, each, made, forward_step, forward}
use package.Rattle.rules.proofs.Directed.{Within, WithinAll, any, within-any}
use package.Rattle.rules.proofs.Outcome.{steps, fuel_short, room_short, Good, yields, short, good_val, good_val_last, good_enter, good-size, good_some}
use package.Rattle.rules.proofs.State.{Enough, extend, full}

module _ (fits fits' : Val → Bool) where
  module _ (P : Program) where
    abbrev pub Out : Judgement → (List Val → State → Term → Run Val) → ℕ → ℕ → Type 0
    Out R go r r' = (a ρ : List Val) (t : Term) (v : Val) (n : ℕ) → R a ρ t v n
        → (A : ℕ → Bool) (σ : State) → Enough A σ ρ → Within A t → (f : ℕ) → Good fits fits' (λ w. v ≡ w) f n r r' (go a σ t f)

    good-made : {f r r' : ℕ} (k : ℕ) (v : Val) → fits' v ≡ true → Good fits fits' (λ w. v ≡ w) f 0 r r' (made fits P k v f)
    unfolding made
    good-made {f} k v ft = good-size fits fits' k v (give v) ft (yields {g = f} refl (omega arith))

    good_case : {g r r' : ℕ} (k : ℕ) (w : Val) (c : Bool) → c ≡ true → Good fits fits' (λ x. w ≡ x) g 0 r r' (test c 15 k (give w) g)
    unfolding test
    good_case {g} {r} {r'} k w c y = subst (λ c. Good fits fits' (λ x. w ≡ x) g 0 r r' (test c 15 k (give w) g)) (sym y) (yields {g = g} refl (omega arith))

    module _ (R : Judgement) (go : List Val → State → Term → Run Val) (r r' : ℕ) (C : Out R go r r') (A : ℕ → Bool) (σ : State) where
      pub each-out : {a ρ : List Val} {ts : Terms} {vs : List Val} {n : ℕ} → All (R a ρ) ts vs n
          → Enough A σ ρ → WithinAll A ts → (f : ℕ) → Good fits fits' (λ ws. vs ≡ ws) f n r r' (each (go a σ) ts f)
      unfolding each
      each-out e_end E W f = yields {g = f} refl (omega arith)
      each-out (e_more d ds) E W f = good_val fits fits' _ (C _ _ _ _ _ d A σ E W.0 f) λ g. good_val_last fits fits' _ (each-out ds E W.1 g) λ g. yields {g = g} refl (omega arith)

      step-out : {a ρ : List Val} {t : Term} {v : Val} {n : ℕ} → Rule fits' P R a ρ t v n
          → Enough A σ ρ → Within A t → (f : ℕ) → Good fits fits' (λ w. v ≡ w) f n (suc r) (suc r') (enter (entry t) (forward_step fits P go a σ t) f)
      unfolding forward_step on_sum on_pair on_roll
      step-out (e_var {k} {i} {v = v} x ft) E W f = good_enter fits fits' _ f _ λ g. good_some fits fits' _ (E.1 i W ∙ x) (good-made k v ft)
      step-out (e_unit {k} ft) E W f = good_enter fits fits' _ f _ λ g. good-made k unit ft
      step-out (e_inl {k} {v = v} d ft) E W f = good_enter fits fits' _ f _ λ g. good_val_last fits fits' _ (C _ _ _ _ _ d A σ E W g) λ g. good-made k (inl v) ft
      step-out (e_inr {k} {v = v} d ft) E W f = good_enter fits fits' _ f _ λ g. good_val_last fits fits' _ (C _ _ _ _ _ d A σ E W g) λ g. good-made k (inr v) ft
      step-out (e_prod {k} {v = v} {w} d d' ft) E W f = good_enter fits fits' _ f _ λ g.
          good_val fits fits' _ (C _ _ _ _ _ d A σ E W.0 g) λ g. good_val_last fits fits' _ (C _ _ _ _ _ d' A σ E W.1 g) λ g. good-made k (pair v w) ft
      step-out (e_let {ρ = ρ} {v = v} d d') E W f = good_enter fits fits' _ f _ λ g.
          good_val fits fits' _ (C _ _ _ _ _ d A σ E W.0 g) λ g. C _ _ _ _ _ d' A (some v ∷ σ) (extend A σ ρ v E) W.1 g
      step-out (e_letp {ρ = ρ} {v = v} {v'} d d') E W f = good_enter fits fits' _ f _ λ g.
          good_val fits fits' _ (C _ _ _ _ _ d A σ E W.0 g) λ g. C _ _ _ _ _ d' A (some v' ∷ some v ∷ σ) (extend A _ _ v' (extend A σ ρ v E)) W.1 g
      step-out (e_casel {ρ = ρ} {v = v} d d') E W f = good_enter fits fits' _ f _ λ g.
          good_val fits fits' _ (C _ _ _ _ _ d A σ E W.0 g) λ g. C _ _ _ _ _ d' A (some v ∷ σ) (extend A σ ρ v E) W.1 g
      step-out (e_caser {k} {a = a} {ρ} {e} {b} {v = v} {w} d d' y) E W f = good_enter fits fits' _ f _ λ g.
          good_val fits fits' _ (C _ _ _ _ _ d A σ E W.0 g) λ g.
          good_val_last fits fits' _ (C _ _ _ _ _ d' A (some v ∷ σ) (extend A σ ρ v E) W.2 g) λ g.
          good_case k w (first_match a (length σ) e b w) (ap (λ n. first_match a n e b w) E.0 ∙ y)
      step-out (e_app {vs = vs} {v} {h = h} x ds d d') E W f = good_enter fits fits' _ f _ λ g.
          good_some fits fits' _ x (good_val fits fits' _ (each-out ds E W.0 g) λ g. good_val fits fits' _ (C _ _ _ _ _ d A σ E W.1 g) λ g.
          C _ _ _ _ _ d' any _ (full any (v ∷ scope vs [])) (within-any h.body) g)
      step-out (e_roll {k} {v = v} d ft) E W f = good_enter fits fits' _ f _ λ g. good_val_last fits fits' _ (C _ _ _ _ _ d A σ E W g) λ g. good-made k (roll v) ft
      step-out (e_unroll {k} {v = v} d ft) E W f = good_enter fits fits' _ f _ λ g. good_val_last fits fits' _ (C _ _ _ _ _ d A σ E W g) λ g. good-made k v ft

    pub outcome : (r r' : ℕ) → Out (Ev fits' P r') (forward fits P r) r r'
    unfolding forward enter
    outcome r zero a ρ t v n d A σ E W f = absurd d
    outcome zero (suc r') a ρ t v n d A σ E W zero = short (fuel_short refl (steps d))
    outcome zero (suc r') a ρ t v n d A σ E W (suc f) = short (room_short refl (omega arith))
    outcome (suc r) (suc r') a ρ t v n d A σ E W f = step-out (Ev fits' P r') (forward fits P r) r r' (outcome r r') A σ d E W f
