-- Values keep their types: what a typed term yields has its type.
use Prim.Native.Nat.{ℕ, zero, suc}
use mathlib.Core.Path.{◌≡◌, refl, sym, ap, subst, ◌∙◌}
use mathlib.Core.Bool.{Bool, true, false, cond}
use mathlib.Core.Option.{Option, some}
use mathlib.Core.List.{List, [], ◌∷◌}
use lib.ListN.{length}
use lib.Dec.{eqb}
use package.Rattle.rules.specs.Val.{Val, unit, inl, inr, pair, roll}
use package.Rattle.rules.specs.Ty.{Ty, prod, sum, unfold_ty, HasTys}
use package.Rattle.rules.specs.Term.{Term, Terms, Fun, Program, look, scope}
use package.Rattle.rules.specs.Rules.{Judgement, All, e_end, e_more, Rule, e_var, e_unit, e_inl, e_inr, e_prod, e_let, e_letp, e_casel, e_caser, e_app, e_roll, e_unroll, Ev}
use package.Rattle.rules.proofs.OfType.{OfType, OfTypes, of-types_iff}
use package.Rattle.rules.proofs.Basics.{given, none≢some, some_inj}
use package.Rattle.rules.proofs.Directed.{lend, nothing, Typed, TypedAll, TypedProgram}

pub types-length : (ρ : List Val) (Γ : List Ty) → OfTypes ρ Γ → length ρ ≡ length Γ
types-length [] [] h = refl
types-length [] (c ∷ Γ) h = absurd h
types-length (v ∷ ρ) [] h = absurd h
types-length (v ∷ ρ) (c ∷ Γ) h = ap suc (types-length ρ Γ h.1)

pub env-length : (ρ : List Val) (Γ : List Ty) → HasTys ρ Γ → length ρ ≡ length Γ
env-length ρ Γ h = types-length ρ Γ ((of-types_iff ρ Γ).0 h)

pick : (b : Bool) (v w : Val) (c d : Ty) (x : Option Val) (y : Option Ty) → OfType v c → (x ≡ some w → y ≡ some d → OfType w d)
    → cond b (some v) x ≡ some w → cond b (some c) y ≡ some d → OfType w d
pick true v w c d x y h k p q = subst (OfType w) (some_inj q) (subst (λ v. OfType v c) (some_inj p) h)
pick false v w c d x y h k p q = k p q

pub env_look : (ρ : List Val) (Γ : List Ty) (i : ℕ) (v : Val) (c : Ty) → OfTypes ρ Γ → look ρ i ≡ some v → look Γ i ≡ some c → OfType v c
unfolding look
env_look [] Γ i v c h p q = absurd (none≢some p)
env_look (w ∷ ρ) [] i v c h p q = absurd h
env_look (w ∷ ρ) (d ∷ Γ) i v c h p q =
    pick (eqb i (length Γ)) w v d c (look ρ i) (look Γ i) h.0 (env_look ρ Γ i v c h.1) (rw (types-length ρ Γ h.1) at p) q

pub scope-ty : (vs : List Val) (cs : List Ty) (ρ : List Val) (Γ : List Ty) → OfTypes vs cs → OfTypes ρ Γ → OfTypes (scope vs ρ) (scope cs Γ)
unfolding scope
scope-ty [] [] ρ Γ h k = k
scope-ty [] (c ∷ cs) ρ Γ h k = absurd h
scope-ty (v ∷ vs) [] ρ Γ h k = absurd h
scope-ty (v ∷ vs) (c ∷ cs) ρ Γ h k = scope-ty vs cs (v ∷ ρ) (c ∷ Γ) h.1 (h.0, k)

module _ (fits : Val → Bool) (P : Program) (W : TypedProgram P) where
  abbrev pub Keeps : Judgement → Type 0
  Keeps R = (a ρ : List Val) (t : Term) (v : Val) (n : ℕ) → R a ρ t v n
      → (q : ℕ) (M : ℕ → Bool) (Γ : List Ty) (τ : Ty) → OfTypes ρ Γ → Typed P q M Γ t τ → OfType v τ

  pub all-keeps : (R : Judgement) → Keeps R → (a ρ : List Val) (ts : Terms) (vs : List Val) (n : ℕ) → All (R a ρ) ts vs n
      → (q : ℕ) (M : ℕ → Bool) (Γ : List Ty) (cs : List Ty) → OfTypes ρ Γ → TypedAll P q M Γ ts cs → OfTypes vs cs
  all-keeps R K a ρ ts vs n e_end q M Γ cs h T = subst (OfTypes []) T tt
  all-keeps R K a ρ ts vs n (e_more {v = w} {vs = ws} d ds) q M Γ cs h (c, cs', x, T, Ts) =
      subst (OfTypes (w ∷ ws)) x (K _ _ _ _ _ d q M Γ c h T, all-keeps R K a ρ _ _ _ ds q M Γ cs' h Ts)

  step_keeps : (R : Judgement) → Keeps R → Keeps (Rule fits P R)
  step_keeps R K a ρ t v n (e_var {i = i} x ft) q M Γ τ h T = env_look ρ Γ i v τ h x T
  step_keeps R K a ρ t v n (e_unit ft) q M Γ τ h T = subst (OfType unit) T tt
  step_keeps R K a ρ t v n (e_inl {v = w} d ft) q M Γ τ h (a₁, b₁, x, y, T) = subst (OfType (inl w)) (x ∙ y) (K _ _ _ _ _ d q M Γ a₁ h T)
  step_keeps R K a ρ t v n (e_inr {v = w} d ft) q M Γ τ h (a₁, b₁, x, y, T) = subst (OfType (inr w)) (x ∙ y) (K _ _ _ _ _ d q M Γ b₁ h T)
  step_keeps R K a ρ t v n (e_prod {v = v₁} {w = v₂} d d' ft) q M Γ τ h (a₁, b₁, x, T, T') =
      subst (OfType (pair v₁ v₂)) x (K _ _ _ _ _ d q M Γ a₁ h T, K _ _ _ _ _ d' q M Γ b₁ h T')
  step_keeps R K a ρ t v n (e_let {b = b} d d') q M Γ τ h (a₁, T, T', u) = K _ _ _ _ _ d' q M (a₁ ∷ Γ) τ (K _ _ _ _ _ d q (lend M (length Γ) b) Γ a₁ h T, h) T'
  step_keeps R K a ρ t v n (e_letp {b = b} d d') q M Γ τ h (a₁, b₁, T, T', u, u') =
      given (K _ _ _ _ _ d q (lend M (length Γ) b) Γ (prod a₁ b₁) h T) λ (x, y). K _ _ _ _ _ d' q M (b₁ ∷ a₁ ∷ Γ) τ (y, (x, h)) T'
  step_keeps R K a ρ t v n (e_casel d d') q M Γ τ h (a₁, b₁, T, T₁, T₂, u, u', s) = K _ _ _ _ _ d' q M (a₁ ∷ Γ) τ (K _ _ _ _ _ d q M Γ (sum a₁ b₁) h T, h) T₁
  step_keeps R K a ρ t v n (e_caser d d' y) q M Γ τ h (a₁, b₁, T, T₁, T₂, u, u', s) = K _ _ _ _ _ d' q M (b₁ ∷ Γ) τ (K _ _ _ _ _ d q M Γ (sum a₁ b₁) h T, h) T₂
  step_keeps R K a ρ t v n (e_app {g = j} {ts = ts} {e} {vs} {w = w} {h = fn} x ds d d') q M Γ τ h (fn', y, Ts, T, z, i) =
      given (some_inj (sym y ∙ x)) λ same.
      subst (OfType w) (ap (λ (f : Fun). f.result) (sym same) ∙ z)
      (K _ _ _ _ _ d' _ nothing _ _ (
        K _ _ _ _ _ d q M Γ _ h (subst (λ (f : Fun). Typed P q M Γ e f.dynamic) same T),
        scope-ty vs fn.ancillae [] []
            (all-keeps R K a ρ _ vs _ ds (length Γ) M Γ _ h (subst (λ (f : Fun). TypedAll P (length Γ) M Γ ts f.ancillae) same Ts)) tt,
      ) (W j fn x).0)
  step_keeps R K a ρ t v n (e_roll {v = w} d ft) q M Γ τ h (a₁, x, y, T) = subst (OfType (roll w)) (x ∙ y) (K _ _ _ _ _ d q M Γ (unfold_ty a₁) h T)
  step_keeps R K a ρ t v n (e_unroll {v = w} d ft) q M Γ τ h (a₁, x, y, T) = subst (OfType w) y (subst (OfType (roll w)) (sym x) (K _ _ _ _ _ d q M Γ _ h T))

  pub preserve : (r : ℕ) → Keeps (Ev fits P r)
  preserve zero a ρ t v n d = absurd d
  preserve (suc r) a ρ t v n d = step_keeps (Ev fits P r) (preserve r) a ρ t v n d
