-- Values of a type, shape by shape: what the test of specs/Ty finds.
use mathlib.Core.Path.{◌≡◌, refl}
use mathlib.Core.Bool.{Bool, true, false, ◌&&◌, false≢true, and-eq-true_iff}
use mathlib.Core.List.{List, [], ◌∷◌}
use mathlib.Core.Logic.{◌↔◌}
use package.Rattle.rules.specs.Val.{Val, unit, inl, inr, pair, roll}
use package.Rattle.rules.specs.Ty.{Ty, one, prod, sum, mu, tyvar, unfold_ty, has_ty, has_tys}

abbrev pub OfType : Val → Ty → Type 0
OfType unit one = Unit {0}
OfType unit (prod a b) = ⊥
OfType unit (sum a b) = ⊥
OfType unit (mu a) = ⊥
OfType unit (tyvar n) = ⊥
OfType (inl v) one = ⊥
OfType (inl v) (prod a b) = ⊥
OfType (inl v) (sum a b) = OfType v a
OfType (inl v) (mu a) = ⊥
OfType (inl v) (tyvar n) = ⊥
OfType (inr v) one = ⊥
OfType (inr v) (prod a b) = ⊥
OfType (inr v) (sum a b) = OfType v b
OfType (inr v) (mu a) = ⊥
OfType (inr v) (tyvar n) = ⊥
OfType (pair v w) one = ⊥
OfType (pair v w) (prod a b) = OfType v a × OfType w b
OfType (pair v w) (sum a b) = ⊥
OfType (pair v w) (mu a) = ⊥
OfType (pair v w) (tyvar n) = ⊥
OfType (roll v) one = ⊥
OfType (roll v) (prod a b) = ⊥
OfType (roll v) (sum a b) = ⊥
OfType (roll v) (mu a) = OfType v (unfold_ty a)
OfType (roll v) (tyvar n) = ⊥

-- values of types, in order
abbrev pub OfTypes : List Val → List Ty → Type 0
OfTypes [] [] = Unit {0}
OfTypes [] (c ∷ cs) = ⊥
OfTypes (v ∷ vs) [] = ⊥
OfTypes (v ∷ vs) (c ∷ cs) = OfType v c × OfTypes vs cs

----------------------------------------------------------------
-- The test holds exactly if the value is of the type

-- a shape that no value of the type has
never : (false ≡ true) ↔ ⊥
never = (false≢true, λ none. absurd none)

-- two tests, one of each part
both : (b c : Bool) {A B : Type 0} → (b ≡ true) ↔ A → (c ≡ true) ↔ B → ((b && c) ≡ true) ↔ (A × B)
both b c p q = (λ e. (p.0 ((and-eq-true_iff b c).0 e).0, q.0 ((and-eq-true_iff b c).0 e).1), λ h. (and-eq-true_iff b c).1 (p.1 h.0, q.1 h.1))

----------------------------------------------------------------
-- One value

pub of-type_iff : (v : Val) (τ : Ty) → (has_ty v τ ≡ true) ↔ OfType v τ
unfolding has_ty
of-type_iff unit one = (λ e. tt, λ t. refl)
of-type_iff unit (prod a b) = never
of-type_iff unit (sum a b) = never
of-type_iff unit (mu a) = never
of-type_iff unit (tyvar n) = never
of-type_iff (inl v) one = never
of-type_iff (inl v) (prod a b) = never
of-type_iff (inl v) (sum a b) = of-type_iff v a
of-type_iff (inl v) (mu a) = never
of-type_iff (inl v) (tyvar n) = never
of-type_iff (inr v) one = never
of-type_iff (inr v) (prod a b) = never
of-type_iff (inr v) (sum a b) = of-type_iff v b
of-type_iff (inr v) (mu a) = never
of-type_iff (inr v) (tyvar n) = never
of-type_iff (pair v w) one = never
of-type_iff (pair v w) (prod a b) = both (has_ty v a) (has_ty w b) (of-type_iff v a) (of-type_iff w b)
of-type_iff (pair v w) (sum a b) = never
of-type_iff (pair v w) (mu a) = never
of-type_iff (pair v w) (tyvar n) = never
of-type_iff (roll v) one = never
of-type_iff (roll v) (prod a b) = never
of-type_iff (roll v) (sum a b) = never
of-type_iff (roll v) (mu a) = of-type_iff v (unfold_ty a)
of-type_iff (roll v) (tyvar n) = never

----------------------------------------------------------------
-- Values in order

pub of-types_iff : (vs : List Val) (τs : List Ty) → (has_tys vs τs ≡ true) ↔ OfTypes vs τs
unfolding has_tys
of-types_iff [] [] = (λ e. tt, λ t. refl)
of-types_iff [] (τ ∷ τs) = never
of-types_iff (v ∷ vs) [] = never
of-types_iff (v ∷ vs) (τ ∷ τs) = both (has_ty v τ) (has_tys vs τs) (of-type_iff v τ) (of-types_iff vs τs)
