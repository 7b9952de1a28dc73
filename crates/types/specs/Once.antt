-- What codes stand on is a fact of which two proofs are equal, so that a struct may keep it (basis::Basis).
use Rattle.std.specs.Prelude.{ℕ, ◌≡◌, List}
use Rattle.std.specs.Coded.{×_prop, Unit-prop, le_prop}
use mathlib.Core.HLevel.{collapsible→set}
use mathlib.Core.Path.{sym, ap, ◌∙◌}
use native.Mathlib.Nat.{ℕ_set}
use mathlib.Core.Bool.{true, Bool-set}
use package.Rattle.rules.specs.Ty.{Ty, same_ty}
use package.Rattle.rules.proofs.Typing.Tests.{same_ty_refl, same_ty_eq}
use package.Rattle.types.specs.declared.codes.Code.{Code}
use package.Rattle.types.specs.declared.codes.Code.TheVariants as code
use package.Rattle.types.specs.Codes.{Names, Sources}

told : (a b : Ty) → a ≡ b → same_ty a b ≡ true
told a b p = ap (same_ty a) (sym p) ∙ same_ty_refl a

Ty-set : IsSet Ty
Ty-set = collapsible→set (λ a b p. same_ty_eq a b (told a b p)) (λ a b p q. ap (same_ty_eq a b) (Bool-set (same_ty a b) true (told a b p) (told a b q)))

pub Names-prop : (n top : ℕ) (c : Code) → IsProp (Names n top c)
Names-prop n top code.Unit = Unit-prop
Names-prop n top (code.Entry i) = le_prop
Names-prop n top (code.Under i j) = ×_prop le_prop le_prop
Names-prop n top (code.Product k) = le_prop

pub Sources-prop : (xs types heap : List ℕ) (top : ℕ) → IsProp (Sources xs types heap top)
Sources-prop xs types heap top = Prim.hlevel (Ty-set, Names-prop, le_prop, Bool-set, ℕ_set)
