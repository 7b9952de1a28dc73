-- The parameters of a function whose field is read: its row of the table of signatures has their types in order, the dynamic one last,
-- and each type is one of the program's entries.
use Prim.Native.Nat.{ℕ, ◌-◌, ◌<◌}
use native.Mathlib.Omega.{arith}
use mathlib.Core.Path.{◌≡◌, sym, ap, subst, ◌∙◌}
use mathlib.Core.Bool.{true}
use mathlib.Core.List.{List, [], ◌∷◌}
use lib.ListN.{get_or, length-append, get_or-append}
use lib.Seq.{get_or-append_seam}
use package.Rattle.calls.specs.Fields.{parameters_at}
use package.Rattle.calls.specs.Entries.{function_at}
use package.Rattle.calls.specs.Named.{types_of_function, below}
use package.Rattle.calls.proofs.Entries.{below-head, below_at}
use package.Rattle.program.specs.Parts.{FunctionField, result_of}
use package.Rattle.program.specs.Signatures.{parameter_types, SignatureIs}
use package.Rattle.program.proofs.Shapes.{function-result}
use package.Rattle.program.proofs.Lists.{ancillae-count}

module _ {xs : List ℕ} {at : ℕ} (F : FunctionField xs at) where
  module _ {row : List ℕ} (S : SignatureIs (function_at xs at) row) where
    pub row-ancilla : (i : ℕ) → i < parameters_at xs at - 1 → get_or row i 0 ≡ get_or (function_at xs at).ancillae i 0
    row-ancilla i l = S.each i ∙ get_or-append (function_at xs at).ancillae ((function_at xs at).dynamic ∷ []) 0 i (omega (arith, ancillae-count xs at))

    pub row-dynamic : get_or row (parameters_at xs at - 1) 0 ≡ (function_at xs at).dynamic
    row-dynamic = S.each (parameters_at xs at - 1) ∙ ap (λ k. get_or (parameter_types (function_at xs at)) k 0) (sym (ancillae-count xs at))
        ∙ get_or-append_seam (function_at xs at).ancillae (function_at xs at).dynamic [] 0

    module _ {n : ℕ} (b : below n (types_of_function (function_at xs at)) ≡ true) where
      pub parameter_there : (i : ℕ) → i < parameters_at xs at → get_or row i 0 < n
      unfolding types_of_function
      parameter_there i l = subst (λ k. k < n) (sym (S.each i))
          (below_at n (parameter_types (function_at xs at)) i (below-head n (function_at xs at).result _ b).1
          (omega (arith, F.some, ancillae-count xs at, length-append (function_at xs at).ancillae ((function_at xs at).dynamic ∷ []))))

  pub result-there : {n : ℕ} → below n (types_of_function (function_at xs at)) ≡ true → result_of xs at < n
  unfolding types_of_function
  result-there {n} b = subst (λ k. k < n) (function-result xs at) (below-head n (function_at xs at).result _ b).0
