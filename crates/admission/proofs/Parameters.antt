-- The parts of a function's entry: how many ancillae it has, the type of each, and the side that a value is held to.
use Prim.Native.Nat.{ℕ, zero, suc, ◌+◌, ◌≤◌, ◌<◌}
use native.Mathlib.Omega.{arith}
use mathlib.Core.Path.{◌≡◌, sym, ap, subst, ◌∙◌}
use mathlib.Core.Bool.{Bool, true, false}
use mathlib.Core.List.{List, [], ◌∷◌}
use lib.ListN.{length, get_or, length-append, get_or-append}
use lib.Seq.{get_or-append_seam}
use package.Rattle.rules.specs.Limits.{max_parameters}
use package.Rattle.rules.proofs.Basics.{and_both}
use package.Rattle.calls.specs.Entries.{TypeEntry, FunctionEntry, function_at}
use package.Rattle.calls.specs.Named.{plain, types_of_function, all_plain}
use package.Rattle.calls.proofs.Entries.{below_at}
use package.Rattle.program.specs.Parts.{FunctionField, result_of}
use package.Rattle.program.specs.Signatures.{parameter_types, SignatureIs}
use package.Rattle.program.proofs.Rooms.{function-room}
use package.Rattle.program.proofs.Lists.{ancillae-count}
use package.Rattle.program.proofs.Shapes.{function-result}
use package.Rattle.valuebytes.specs.Typing.{Asked}
use package.Rattle.admission.specs.Admitting.{Callable, side_number}

----------------------------------------------------------------
-- What is named

-- the types that are named are plain
named_plain : (ys : List TypeEntry) (is : List ℕ) → all_plain ys is ≡ true → (k : ℕ) → k < length is → plain ys (get_or is k 0) ≡ true
unfolding all_plain
named_plain ys [] e k h = absurd (omega arith)
named_plain ys (i ∷ is) e zero h = (and_both (plain ys i) (all_plain ys is) e).0
named_plain ys (i ∷ is) e (suc k) h = named_plain ys is (and_both (plain ys i) (all_plain ys is) e).1 k (omega arith)

module _ {xs types : List ℕ} {at : ℕ} (C : Callable xs types at) where
  abbrev h : FunctionEntry
  h = function_at xs at

  named : (k : ℕ) → k < length (types_of_function h) → Asked xs types (get_or (types_of_function h) k 0)
  named k l = (below_at _ _ k C.there l, named_plain _ _ C.closes k l)

  named_count : length (types_of_function h) ≡ suc (length h.ancillae + 1)
  unfolding types_of_function
  named_count = ap suc (length-append h.ancillae (h.dynamic ∷ []))

  -- the type of an ancilla
  pub row_type : {row : List ℕ} → SignatureIs h row → (k : ℕ) → k < length h.ancillae → get_or row k 0 ≡ get_or h.ancillae k 0
  row_type s k l = s.each k ∙ get_or-append h.ancillae (h.dynamic ∷ []) 0 k l

  pub row-asked : {row : List ℕ} → SignatureIs h row → (k : ℕ) → k < length h.ancillae → Asked xs types (get_or row k 0)
  unfolding types_of_function
  row-asked s k l = subst (Asked xs types) (sym (s.each k)) (named (suc k) (omega (arith, named_count)))

  -- the type of the side
  pub side-asked : (back : Bool) → Asked xs types (side_number back h)
  unfolding side_number types_of_function
  side-asked true = named 0 (omega (arith, named_count))
  side-asked false = subst (Asked xs types) (get_or-append_seam h.ancillae h.dynamic [] 0) (named (suc (length h.ancillae)) (omega (arith, named_count)))

----------------------------------------------------------------
-- What is read

module _ {xs : List ℕ} {at : ℕ} (F : FunctionField xs at) where
  pub result-room : at + 5 ≤ length xs
  result-room = omega (arith, function-room F)

  pub parameters-room : at + 6 ≤ length xs
  parameters-room = omega (arith, function-room F)

  -- the last parameter's place in the row
  pub dynamic-place : {row : List ℕ} {n : ℕ} → SignatureIs (function_at xs at) row → n ≡ length (function_at xs at).ancillae → n < 8
  unfolding max_parameters
  dynamic-place s e = omega (arith, F.few, F.some, ancillae-count xs at)

  pub side-result : {r : ℕ} {b : Bool} → r ≡ result_of xs at → b ≡ true → r ≡ side_number b (function_at xs at)
  unfolding side_number
  side-result {r} {b} e t = e ∙ sym (function-result xs at) ∙ ap (λ b. side_number b (function_at xs at)) (sym t)

  pub side-dynamic : {row : List ℕ} {n : ℕ} {b : Bool} → SignatureIs (function_at xs at) row → n ≡ length (function_at xs at).ancillae → b ≡ false
      → get_or row n 0 ≡ side_number b (function_at xs at)
  unfolding side_number
  side-dynamic {n = n} {b} s q f =
      s.each n ∙ ap (λ k. get_or (parameter_types (function_at xs at)) k 0) q
      ∙ get_or-append_seam (function_at xs at).ancillae (function_at xs at).dynamic [] 0 ∙ ap (λ b. side_number b (function_at xs at)) (sym f)
