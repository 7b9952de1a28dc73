-- The kinds of values by their first bytes: what the code finds of a byte.
use Prim.Native.Nat.{ℕ, zero, suc, ◌<◌}
use native.Mathlib.Omega.{arith}
use mathlib.Core.Path.{◌≡◌, refl, sym, ap, ◌∙◌}
use Rattle.std.specs.Prelude.{Result, Ok, Err, Some, None}
use Rattle.std.specs.Result.{result_ok}
use package.Rattle.program.specs.declared.kinds.TypeKind.{TypeKind}
use package.Rattle.program.specs.declared.kinds.TypeKind.TheVariants as T
use package.Rattle.program.specs.declared.kinds.UnknownKind.{UnknownKind}
use package.Rattle.program.specs.KindNumbers.{type_kind_number}
use package.Rattle.valuebytes.specs.declared.kinds.ValueKind.{ValueKind}
use package.Rattle.valuebytes.specs.declared.kinds.ValueKind.TheVariants as V
use package.Rattle.valuebytes.specs.ValueKinds.{value_kind_number, IsValueKind}

pub kind-found : (byte : ℕ) (r : Result ValueKind UnknownKind) (kind : ValueKind) → IsValueKind byte r → result_ok r ≡ Some kind → value_kind_number kind ≡ byte
kind-found byte (Ok k) kind h e = ap value_kind_number (let z : kind ≡ k = cc in z) ∙ h
kind-found byte (Err x) kind h e = absurd (let z : ⊥ = cc in z)

pub kind-none : (byte : ℕ) (r : Result ValueKind UnknownKind) → IsValueKind byte r → result_ok r ≡ None → 4 < byte
kind-none byte (Ok k) h e = absurd (let z : ⊥ = cc in z)
kind-none byte (Err x) h e = omega (arith, h.1)

pub kind-within : (kind : ValueKind) → value_kind_number kind < 5
kind-within V.Unit = omega arith
kind-within V.Inl = omega arith
kind-within V.Inr = omega arith
kind-within V.Pair = omega arith
kind-within V.Roll = omega arith

-- no two kinds have one number
kind_of : ℕ → ValueKind
kind_of zero = V.Unit
kind_of (suc zero) = V.Inl
kind_of (suc (suc zero)) = V.Inr
kind_of (suc (suc (suc zero))) = V.Pair
kind_of (suc (suc (suc (suc n)))) = V.Roll

kind_back : (kind : ValueKind) → kind_of (value_kind_number kind) ≡ kind
unfolding kind_of
kind_back V.Unit = refl
kind_back V.Inl = refl
kind_back V.Inr = refl
kind_back V.Pair = refl
kind_back V.Roll = refl

pub kind_same : (u v : ValueKind) → value_kind_number u ≡ value_kind_number v → u ≡ v
kind_same u v e = sym (kind_back u) ∙ ap kind_of e ∙ kind_back v

-- the kind of a type that is no variable
pub no-variable-kind : (kind : TypeKind) → (kind ≡ T.Variable → ⊥) → type_kind_number kind < 4
no-variable-kind T.Unit h = omega arith
no-variable-kind T.Product h = omega arith
no-variable-kind T.Sum h = omega arith
no-variable-kind T.Recursive h = omega arith
no-variable-kind T.Variable h = absurd (h refl)
