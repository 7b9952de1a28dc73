-- Laws of the kinds as enums: which numbers are kinds', and the lengths of bodies by kind.
use Prim.Native.Nat.{ℕ, zero, suc, ◌<◌, ◌≤◌}
use native.Mathlib.Omega.{arith}
use mathlib.Core.Path.{◌≡◌, refl, sym, ◌∙◌}
use mathlib.Core.Bool.{false}
use Rattle.std.specs.Prelude.{Result, Ok, Err, IsOk}
use package.Rattle.calls.specs.Fields.{type_length, term_length, call_length}
use package.Rattle.program.specs.declared.kinds.TypeKind.{TypeKind}
use package.Rattle.program.specs.declared.kinds.TermKind.{TermKind}
use package.Rattle.program.specs.declared.kinds.TermKind.TheVariants as N
use package.Rattle.program.specs.declared.kinds.UnknownKind.{UnknownKind}
use package.Rattle.program.specs.Kinds.{type_kinds, term_kinds, call_kind}
use package.Rattle.program.specs.KindNumbers.{term_kind_number, IsTypeKind, IsTermKind}
use borrow.Author.Tests.{ne_eqb}
use package.Rattle.program.proofs.Formed.{type-beyond, term-beyond, type-empty, type_by_kind, term-empty, term-call, term_by_kind}

-- a number below the count of kinds is a kind's
pub type-known : (n : ℕ) (r : Result TypeKind UnknownKind) → IsTypeKind n r → n < type_kinds → IsOk r
type-known n (Ok kind) h l = refl
type-known n (Err e) h l = absurd (omega (arith, h.1))

pub term-known : (n : ℕ) (r : Result TermKind UnknownKind) → IsTermKind n r → n < term_kinds → IsOk r
term-known n (Ok kind) h l = refl
term-known n (Err e) h l = absurd (omega (arith, h.1))

-- a call's number is no other kind's
pub call_alone : (kind : TermKind) → (kind ≡ N.Call → ⊥) → term_kind_number kind ≡ call_kind → ⊥
call_alone N.Variable h e = absurd (omega arith)
call_alone N.Unit h e = absurd (omega arith)
call_alone N.Inl h e = absurd (omega arith)
call_alone N.Inr h e = absurd (omega arith)
call_alone N.Pair h e = absurd (omega arith)
call_alone N.Let h e = absurd (omega arith)
call_alone N.LetPair h e = absurd (omega arith)
call_alone N.Case h e = absurd (omega arith)
call_alone N.Call h e = h refl
call_alone N.Roll h e = absurd (omega arith)
call_alone N.Unroll h e = absurd (omega arith)

-- no length fits where there is no kind
pub type-none : (kind n : ℕ) → type_kinds ≤ kind → false ≡ type_length kind n
type-none kind zero h = type-empty kind 0 (omega arith)
type-none kind (suc n) h = sym (ne_eqb (suc n) 0 (λ e. omega arith)) ∙ type_by_kind kind (suc n) 0 (omega arith) (type-beyond kind h)

pub term-none : (kind n : ℕ) → term_kinds ≤ kind → false ≡ term_length kind n
term-none kind zero h = term-empty kind 0 (omega arith)
term-none kind (suc n) h =
    sym (ne_eqb (suc n) 0 (λ e. omega arith)) ∙ term_by_kind kind (suc n) 0 (omega arith) (λ e. omega arith) (term-beyond kind h)

-- a call's length has its own rule
pub call_fits : (n : ℕ) → call_length n ≡ term_length call_kind n
unfolding call_length term_length
call_fits zero = refl
call_fits (suc n) = term-call call_kind (suc n) (omega arith) refl
