-- A typed term is never stuck forward.
use Prim.Native.Nat.{ℕ, zero, suc}
use mathlib.Core.Path.{sym, subst, ◌∙◌}
use mathlib.Core.Bool.{Bool}
use mathlib.Core.Option.{some}
use mathlib.Core.List.{List, [], ◌∷◌, map}
use lib.ListN.{length}
use package.Rattle.rules.specs.Val.{Val, unit, inl, inr, pair, roll}
use package.Rattle.rules.specs.Ty.{Ty, prod, sum, unfold_ty}
use package.Rattle.rules.specs.Term.{Term, var, tunit, tinl, tinr, tpair, tlet, tletp, tcase, tcall, troll, tunroll, Terms, end, more, entry, Program, scope}
use package.Rattle.rules.specs.Run.{Run, give, refuse}
use package.Rattle.rules.specs.Machine.{State, each, made, forward_step, forward}
use package.Rattle.rules.proofs.OfType.{OfType, OfTypes}
use package.Rattle.rules.proofs.Basics.{given}
use package.Rattle.rules.proofs.Directed.{lend, nothing, Within, WithinAll, any, within-any, Typed, TypedAll, TypedProgram}
use package.Rattle.rules.proofs.Fine.{Fine, fine, refused, fine-after, fine_enter, fine-test, fine_some, fine-pair, fine-sum, fine-roll}
use package.Rattle.rules.proofs.Preserve.{scope-ty}
use package.Rattle.rules.proofs.StateTy.{Gives, gives-push, gives-full}

module _ (fits : Val → Bool) (P : Program) (W : TypedProgram P) where
  abbrev pub Safe : (List Val → State → Term → Run Val) → Type 0
  Safe go = (a : List Val) (σ : State) (t : Term) (q : ℕ) (M : ℕ → Bool) (Γ : List Ty) (τ : Ty) → Typed P q M Γ t τ → (A : ℕ → Bool) → Within A t → Gives A σ Γ
      → (f : ℕ) → Fine (λ v. OfType v τ) (go a σ t f)

  fine-made : (k : ℕ) (v : Val) (τ : Ty) (g : ℕ) → OfType v τ → Fine (λ v. OfType v τ) (made fits P k v g)
  unfolding made
  fine-made k v τ g h = fine-test (fits v) 14 k g (give v) (fine h)

  module _ (go : List Val → State → Term → Run Val) (S : Safe go) (a : List Val) (σ : State) (q : ℕ)
      (M : ℕ → Bool) (Γ : List Ty) (A : ℕ → Bool) (gv : Gives A σ Γ) where
    pub each-safe : (q : ℕ) (ts : Terms) (cs : List Ty) → TypedAll P q M Γ ts cs → WithinAll A ts → (f : ℕ) → Fine (λ vs. OfTypes vs cs) (each (go a σ) ts f)
    unfolding each
    each-safe q end cs T w f = fine (subst (OfTypes []) T tt)
    each-safe q (more t ts) cs (c, cs', x, T, Ts) (w, ws) f =
        fine-after _ (S a σ t q M Γ c T A w gv f) λ v g h. fine-after _ (each-safe q ts cs' Ts ws g) λ vs g hs. fine (subst (OfTypes (v ∷ vs)) x (h, hs))

    step-safe : (t : Term) (τ : Ty) → Typed P q M Γ t τ → Within A t → (g : ℕ) → Fine (λ v. OfType v τ) (forward_step fits P go a σ t g)
    unfolding forward_step
    step-safe (var k i) τ T w g = given (gv.1 i τ w T) λ (v, p, h). fine_some _ g p (fine-made k v τ g h)
    step-safe (tunit k) τ T w g = fine-made k unit τ g (subst (OfType unit) T tt)
    step-safe (tinl k c e) τ (a₁, b₁, x, y, T) w g = fine-after _ (S a σ e q M Γ a₁ T A w gv g) λ v g h.
        fine-made k (inl v) τ g (subst (OfType (inl v)) (x ∙ y) h)
    step-safe (tinr k c e) τ (a₁, b₁, x, y, T) w g = fine-after _ (S a σ e q M Γ b₁ T A w gv g) λ v g h.
        fine-made k (inr v) τ g (subst (OfType (inr v)) (x ∙ y) h)
    step-safe (tpair k e e') τ (a₁, b₁, x, T, T') w g = fine-after _ (S a σ e q M Γ a₁ T A w.0 gv g) λ v g h.
        fine-after _ (S a σ e' q M Γ b₁ T' A w.1 gv g) λ v' g h'. fine-made k (pair v v') τ g (subst (OfType (pair v v')) x (h, h'))
    step-safe (tlet k e b) τ (c, T, T', s) w g = fine-after _ (S a σ e q (lend M (length Γ) b) Γ c T A w.0 gv g) λ v g h.
        S a (some v ∷ σ) b q M (c ∷ Γ) τ T' A w.1 (gives-push A v c σ Γ h gv) g
    step-safe (tletp k e b) τ (c, c', T, T', s, s') w g = fine-after _ (S a σ e q (lend M (length Γ) b) Γ (prod c c') T A w.0 gv g) λ p g h.
        fine-pair p c c' _ g h λ v v' h₁ h₂.
        S a (some v' ∷ some v ∷ σ) b q M (c' ∷ c ∷ Γ) τ T' A w.1 (gives-push A v' c' (some v ∷ σ) (c ∷ Γ) h₂ (gives-push A v c σ Γ h₁ gv)) g
    step-safe (tcase k e b b') τ (c, c', T, T₁, T₂, s, s', su) w g = fine-after _ (S a σ e q M Γ (sum c c') T A w.0 gv g) λ p g h.
        fine-sum p c c' _ _ g h (λ v h₁. S a (some v ∷ σ) b q M (c ∷ Γ) τ T₁ A w.1 (gives-push A v c σ Γ h₁ gv) g) λ v h₂.
        fine-after _ (S a (some v ∷ σ) b' q M (c' ∷ Γ) τ T₂ A w.2 (gives-push A v c' σ Γ h₂ gv) g) λ u g h₃. fine-test _ 15 k g (give u) (fine h₃)
    step-safe (tcall k j ts e) τ (h, x, Ts, T, z, ins) w g = fine_some _ g x (fine-after _ (each-safe (length Γ) ts h.ancillae Ts w.0 g) λ vs g hs.
        fine-after _ (S a σ e q M Γ h.dynamic T A w.1 gv g) λ v g hv.
        subst (λ τ. Fine (λ v. OfType v τ) (go (scope vs []) (some v ∷ map some (scope vs [])) h.body g)) z
        (S (scope vs []) (some v ∷ map some (scope vs [])) h.body _ nothing _ h.result (W j h x).0 any (within-any h.body)
        (gives-full any (v ∷ scope vs []) (h.dynamic ∷ scope h.ancillae []) (hv, scope-ty vs h.ancillae [] [] hs tt)) g))
    step-safe (troll k c e) τ (a₁, x, y, T) w g = fine-after _ (S a σ e q M Γ (unfold_ty a₁) T A w gv g) λ v g h.
        fine-made k (roll v) τ g (subst (OfType (roll v)) (x ∙ y) h)
    step-safe (tunroll k c e) τ (a₁, x, y, T) w g = fine-after _ (S a σ e q M Γ c T A w gv g) λ p g h.
        fine-roll p a₁ _ g (subst (OfType p) (sym x) h) λ v h. fine-made k v τ g (subst (OfType v) y h)

  pub forward-safe : (r : ℕ) → Safe (forward fits P r)
  unfolding forward
  forward-safe zero a σ t q M Γ τ T A w gv f = fine_enter (entry t) f (refuse 13 (entry t)) (λ g. refused)
  forward-safe (suc r) a σ t q M Γ τ T A w gv f = fine_enter (entry t) f _ λ g. step-safe (forward fits P r) (forward-safe r) a σ q M Γ A gv t τ T w g
