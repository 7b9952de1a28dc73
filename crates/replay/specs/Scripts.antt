-- A script: the arguments of journal calls (section 5), one call behind another. A call is a tag byte (31, 32 or 33 hexadecimal: open,
-- convert, rollback), the length of its journal's buffer in four bytes, then two bytes each: convert and rollback their fuel, convert its
-- function, open and convert the length of the bytes behind: the record, or the ancilla values. Laws: proofs/Parts.
use Rattle.std.specs.Prelude.{ℕ, zero, suc, ◌+◌, ◌-◌, Bool, true, false, List, [], ◌∷◌, length, take, drop, get_or, eqb, ltb}
use Rattle.std.proofs.Math.Option.{Option, none, some}
use package.Rattle.octets.specs.Numbers.{get16, get32}
use package.Rattle.calls.specs.Book.{Call, opens, converts, rolls_back}
use package.Rattle.replay.specs.declared.scripts.Part.{Part}
use package.Rattle.replay.specs.declared.scripts.Kind.{Kind}
use package.Rattle.replay.specs.declared.scripts.Kind.TheVariants.{Open, Convert, Rollback}

abbrev pub pick : {A : Type 0} → Bool → A → A → A
pick true a b = a
pick false a b = b

abbrev pub open_tag : ℕ
open_tag = 0x31

abbrev pub convert_tag : ℕ
convert_tag = 0x32

abbrev pub rollback_tag : ℕ
rollback_tag = 0x33

-- how many bytes a call has before the record or the ancilla values
abbrev pub open_bytes : ℕ
open_bytes = 7

abbrev pub convert_bytes : ℕ
convert_bytes = 11

abbrev pub rollback_bytes : ℕ
rollback_bytes = 7

----------------------------------------------------------------
-- One call

-- what stands at a place of a script: its end, no call, or a call
pub data Step : Type 0 where
  End : Step
  Malformed : Step
  Play : Part → Step

-- the call ends with the bytes whose length stands at `at`
unfoldable pub given_at : List ℕ → Kind → ℕ → ℕ → Step
given_at s kind n at =
    pick (ltb (length s - (at + 2)) (get16 s at)) Malformed
    (Play (record { kind = kind; n = n; from = at + 2; next = at + 2 + get16 s at }))

unfoldable pub open_at : List ℕ → ℕ → Step
unfolding given_at
open_at s at = pick (ltb (length s - at) open_bytes) Malformed (given_at s Open (get32 s (at + 1)) (at + 5))

unfoldable pub convert_at : List ℕ → ℕ → Step
unfolding given_at
convert_at s at = pick (ltb (length s - at) convert_bytes) Malformed (given_at s (Convert (get16 s (at + 5)) (get16 s (at + 7))) (get32 s (at + 1)) (at + 9))

unfoldable pub rollback_at : List ℕ → ℕ → Step
rollback_at s at =
    pick (ltb (length s - at) rollback_bytes) Malformed
    (Play (record { kind = Rollback (get16 s (at + 5)); n = get32 s (at + 1); from = at + rollback_bytes; next = at + rollback_bytes }))

-- what stands at a place of a script
unfoldable pub step_at : List ℕ → ℕ → Step
unfolding open_at convert_at rollback_at
step_at s at =
    pick (eqb (length s - at) 0) End
    (pick (eqb (get_or s at 0) open_tag) (open_at s at)
    (pick (eqb (get_or s at 0) convert_tag) (convert_at s at)
    (pick (eqb (get_or s at 0) rollback_tag) (rollback_at s at) Malformed)))

-- the record, or the ancilla values
abbrev pub given_of : List ℕ → Part → List ℕ
given_of s p = take (p.next - p.from) (drop p.from s)

-- the call, with a workspace of `ws` bytes
unfoldable pub call_as : Kind → ℕ → List ℕ → Part → Call
call_as Open ws s p = opens (given_of s p) ws p.n
call_as (Convert fuel function) ws s p = converts function (given_of s p) fuel ws p.n
call_as (Rollback fuel) ws s p = rolls_back fuel ws p.n

unfoldable pub call_of : ℕ → List ℕ → Part → Call
unfolding call_as
call_of ws s p = call_as p.kind ws s p

----------------------------------------------------------------
-- All calls

-- a call, and where it stands in the script
pub record Placed : Type 0 where
  pub place : ℕ
  pub call : Call

unfoldable pub calls_of : List Placed → List Call
calls_of [] = []
calls_of (c ∷ cs) = c.call ∷ calls_of cs

-- the calls that a script begins with; and if it is malformed, the place behind them, where no call stands
pub record Script : Type 0 where
  pub calls : List Placed
  pub broken : Option ℕ

-- the script from a place on; `left` bounds how many calls there are
unfoldable pub parse_from : ℕ → ℕ → List ℕ → ℕ → Script
unfolding step_at call_of
parse_from zero ws s at = record { calls = []; broken = some at }
parse_from (suc left) ws s at = elim (step_at s at) [
  | End ↦ record { calls = []; broken = none }
  | Malformed ↦ record { calls = []; broken = some at }
  | Play p ↦ let behind = parse_from left ws s p.next in
      record { calls = record { place = at; call = call_of ws s p } ∷ behind.calls; broken = behind.broken }
]

-- a call has at least one byte
unfoldable pub parse : ℕ → List ℕ → Script
unfolding parse_from
parse ws s = parse_from (suc (length s)) ws s 0
