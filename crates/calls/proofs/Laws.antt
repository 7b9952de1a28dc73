-- The claims of specs/Claims about values, types and journals from bytes.
use Prim.Native.Nat.{◌≤◌}
use mathlib.Core.Path.{ap, subst, ◌∙◌}
use package.Rattle.rules.specs.Limits.{max_ancilla_bytes}
use package.Rattle.rules.proofs.Basics.{given}
use package.Rattle.calls.specs.Values.{value, ancillae}
use package.Rattle.calls.specs.Claims.{ClosedAndCounted, EncodeAndRead, WrittenAndRead}
use package.Rattle.calls.proofs.Entries.{plain_iff}
use package.Rattle.calls.proofs.Journal.Buffers.{read-written, written_read}
use package.Rattle.calls.proofs.Values.{value-encode, value-sound, ancillae-encode, ancillae-sound}
use lib.ListN.{length}

pub closed_and_counted : ClosedAndCounted
closed_and_counted = plain_iff

pub encode_and_read : EncodeAndRead
encode_and_read = (
  λ xs v. (value-sound xs, λ (e, f). ap value e ∙ value-encode v f),
  λ xs vs. (ancillae-sound xs, λ (e, l). ap ancillae e ∙ ancillae-encode vs (subst (λ xs. length xs ≤ max_ancilla_bytes) e l)),
)

pub written_and_read : WrittenAndRead
written_and_read xs J b e = given (written_read xs b e) λ (same, writable, room). (same, λ n l. read-written n J writable l)
