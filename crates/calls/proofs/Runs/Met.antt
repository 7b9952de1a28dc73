-- Which numbers each call is refused with, exactly: each is met by a call that is written out here, computed, and no other is met.
use Prim.Native.Nat.{ℕ}
use mathlib.Core.Path.{◌≡◌, refl, sym, subst}
use mathlib.Core.Bool.{true, false≢true}
use mathlib.Core.List.{List, [], ◌∷◌, ◌++◌}
use lib.ListN.{replicate}
use lib.Dec.{eqb}
use package.Rattle.octets.specs.Numbers.{bytes16}
use package.Rattle.rules.specs.Val.{encode, inr}
use package.Rattle.rules.specs.Cases.{num}
use package.Rattle.rules.proofs.Basics.{eqb-sound, or_elim}
use package.Rattle.calls.specs.Answer.{Answer, refused}
use package.Rattle.calls.specs.Named.{member}
use package.Rattle.calls.specs.Runs.{prepared, check_call, forward_call, backward_call}
use package.Rattle.calls.specs.Journal.{field, held_tag, entry_tag}
use package.Rattle.calls.specs.Conversions.{open_call, convert_call, rollback_call}
use package.Rattle.calls.specs.Readers.{nurse_call, workshop_call}
use package.Rattle.calls.specs.Claims.{program_numbers, call_numbers, forward_numbers, backward_numbers, reader_numbers, Exactly, RefusalNumbers}
use package.Rattle.calls.specs.Cases.{type_field, term_field, var_field, function_field, nat_types, bit_types, numbers, collapse, discards, units, ample, unit_held}
use package.Rattle.calls.proofs.Answer.{stops}
use package.Rattle.calls.proofs.Compute.{computing}
use package.Rattle.calls.proofs.Refusals.{number}
use package.Rattle.calls.proofs.Runs.Numbers.{check-numbered, forward-numbered, backward-numbered, open_numbered, convert_numbered, rollback_numbered}
use package.Rattle.calls.proofs.Readers.{nurse-numbered, workshop-numbered}

----------------------------------------------------------------
-- A fact of every number of a list

infixr 20 ◌⨾◌
data Each (Met : ℕ → Type 0) : List ℕ → Type 0 where
  end : Each Met []
  ◌⨾◌ : {n : ℕ} {ns : List ℕ} → Met n → Each Met ns → Each Met (n ∷ ns)

module _ (Met : ℕ → Type 0) where
  each_member : {ns : List ℕ} → Each Met ns → (n : ℕ) → member n ns ≡ true → Met n
  unfolding member
  each_member end n m = absurd (false≢true m)
  each_member (◌⨾◌ {n = k} {ns = ns} s t) n m = or_elim (eqb n k) (member n ns) (λ p. subst Met (sym (eqb-sound n k p)) s) (each_member t n) m

  each_append : {ns ms : List ℕ} → Each Met ns → Each Met ms → Each Met (ns ++ ms)
  each_append end t = t
  each_append (s ⨾ r) t = s ⨾ each_append r t

  each_map : (Met' : ℕ → Type 0) {ns : List ℕ} → ((n : ℕ) → Met n → Met' n) → Each Met ns → Each Met' ns
  each_map Met' f end = end
  each_map Met' f (◌⨾◌ {n = n} s t) = f n s ⨾ each_map Met' f t

----------------------------------------------------------------
-- Programs that are refused, by number

abbrev Unprepared : ℕ → Type 0
Unprepared n = (ws : ℕ) × (program : List ℕ) × (k : ℕ) × (prepared program 0 ws ≡ refused n k)

-- no workspace; no field; a function without parameters; an unused term; an open type; another result; a variable out of scope; an unused one
unprepared : Each Unprepared program_numbers
unfolding computing
unprepared =
    (0, [], 0, refl)
    ⨾ (ample, 0 ∷ [], 0, refl)
    ⨾ (ample, function_field 0 [] 0, 0, refl)
    ⨾ (ample, term_field 1 [], 0, refl)
    ⨾ (ample, field 1 (4 ∷ 0 ∷ []) ++ term_field 1 [] ++ function_field 0 (0 ∷ []) 0, 9, refl)
    ⨾ (ample, bit_types ++ term_field 1 [] ++ function_field 1 (0 ∷ []) 0, 16, refl)
    ⨾ (ample, type_field 0 [] ++ var_field 5 ++ function_field 0 (0 ∷ []) 0, 4, refl)
    ⨾ (ample, discards, 16, refl)
    ⨾ end

----------------------------------------------------------------
-- Programs that are run

-- a function of units that calls itself
unfoldable loops : List ℕ
unfolding type_field var_field term_field function_field
loops = type_field 0 [] ++ var_field 0 ++ term_field 8 (0 ∷ 0 ∷ []) ++ function_field 0 (0 ∷ []) 1

-- unroll of Nat
unfoldable unrolls : List ℕ
unfolding nat_types var_field term_field function_field
unrolls = nat_types ++ var_field 0 ++ term_field 10 (3 ∷ 0 ∷ []) ++ function_field 4 (3 ∷ []) 1

-- P10's case, as function 0, called in an ancilla argument of function 2
unfoldable asks : List ℕ
unfolding bit_types var_field term_field function_field
asks = bit_types
    ++ var_field 0 ++ term_field 1 [] ++ term_field 2 (1 ∷ 1 ∷ []) ++ term_field 1 [] ++ term_field 2 (1 ∷ 3 ∷ []) ++ term_field 7 (0 ∷ 2 ∷ 4 ∷ [])
    ++ var_field 0 ++ term_field 8 (0 ∷ 6 ∷ []) ++ var_field 1 ++ term_field 8 (1 ∷ 7 ∷ 8 ∷ []) ++ var_field 1
    ++ function_field 1 (1 ∷ []) 5 ++ function_field 0 (1 ∷ 0 ∷ []) 10 ++ function_field 0 (1 ∷ 0 ∷ []) 9

----------------------------------------------------------------
-- Check, forward, backward

abbrev CheckMet : ℕ → Type 0
CheckMet n = (ws : ℕ) × (program : List ℕ) × (k : ℕ) × (check_call program ws ≡ refused n k)

check-exactly : Exactly program_numbers CheckMet
unfolding check_call
check-exactly n = (
  each_member CheckMet (each_map Unprepared CheckMet (λ n (ws, program, k, e). (ws, program, k, stops _ e)) unprepared) n,
  λ (ws, program, k, e). number (check-numbered ws program) e,
)

abbrev ForwardMet : ℕ → Type 0
ForwardMet n = (ws : ℕ) × (out : ℕ) × (fuel : ℕ) × (fn : ℕ) × (program : List ℕ) × (anc : List ℕ) × (bytes : List ℕ) × (k : ℕ)
    × (forward_call program fn anc bytes fuel ws out ≡ refused n k)

forward-unprepared : Each ForwardMet program_numbers
unfolding forward_call
forward-unprepared = each_map Unprepared ForwardMet (λ n (ws, program, k, e). (ws, 0, 0, 0, program, [], [], k, stops _ e)) unprepared

-- no such function; no value; unit for a sum; no fuel; a loop; P8; P10; no output
forward-run : Each ForwardMet (call_numbers ++ forward_numbers ++ (17 ∷ []))
unfolding computing loops
forward-run =
    (ample, 0, 0, 1, collapse, [], [], 0, refl)
    ⨾ (ample, 0, 0, 0, collapse, [], [], 0, refl)
    ⨾ (ample, 0, 0, 0, collapse, [], 0 ∷ [], 0, refl)
    ⨾ (ample, 0, 0, 0, collapse, [], 1 ∷ 0 ∷ [], 5, refl)
    ⨾ (ample, 0, 65535, 0, loops, [], 0 ∷ [], 0, refl)
    ⨾ (ample, 0, 3, 1, numbers, [], encode (num 255), 11, refl)
    ⨾ (ample, 0, 4, 0, collapse, [], 2 ∷ 0 ∷ [], 5, refl)
    ⨾ (ample, 0, 4, 0, collapse, [], 1 ∷ 0 ∷ [], 0, refl)
    ⨾ end

forward-exactly : Exactly (program_numbers ++ call_numbers ++ forward_numbers ++ (17 ∷ [])) ForwardMet
forward-exactly n = (
  each_member ForwardMet (each_append ForwardMet forward-unprepared forward-run) n,
  λ (ws, out, fuel, fn, program, anc, bytes, k, e). number (forward-numbered ws out fuel fn program anc bytes) e,
)

abbrev BackwardMet : ℕ → Type 0
BackwardMet n = (ws : ℕ) × (out : ℕ) × (fuel : ℕ) × (fn : ℕ) × (program : List ℕ) × (anc : List ℕ) × (bytes : List ℕ) × (k : ℕ)
    × (backward_call program fn anc bytes fuel ws out ≡ refused n k)

backward-unprepared : Each BackwardMet program_numbers
unfolding backward_call
backward-unprepared = each_map Unprepared BackwardMet (λ n (ws, program, k, e). (ws, 0, 0, 0, program, [], [], k, stops _ e)) unprepared

-- no such function; no value; unit for a sum; no fuel; a loop; unroll of 1,024 bytes; first match in an ancilla argument; P10's right branch;
-- no output
backward-run : Each BackwardMet (call_numbers ++ backward_numbers ++ (17 ∷ []))
unfolding computing loops unrolls asks
backward-run =
    (ample, 0, 0, 1, collapse, [], [], 0, refl)
    ⨾ (ample, 0, 0, 0, collapse, [], [], 0, refl)
    ⨾ (ample, 0, 0, 0, collapse, [], 0 ∷ [], 0, refl)
    ⨾ (ample, 0, 0, 0, collapse, [], 1 ∷ 0 ∷ [], 5, refl)
    ⨾ (ample, 0, 65535, 0, loops, [], 0 ∷ [], 1, refl)
    ⨾ (ample, 0, 2, 0, unrolls, [], encode (inr (num 510)), 0, refl)
    ⨾ (ample, 0, 65535, 2, asks, 2 ∷ 0 ∷ [], 0 ∷ [], 5, refl)
    ⨾ (ample, 0, 4, 0, collapse, [], 2 ∷ 0 ∷ [], 4, refl)
    ⨾ (ample, 0, 4, 0, collapse, [], 1 ∷ 0 ∷ [], 0, refl)
    ⨾ end

backward-exactly : Exactly (program_numbers ++ call_numbers ++ backward_numbers ++ (17 ∷ [])) BackwardMet
backward-exactly n = (
  each_member BackwardMet (each_append BackwardMet backward-unprepared backward-run) n,
  λ (ws, out, fuel, fn, program, anc, bytes, k, e). number (backward-numbered ws out fuel fn program anc bytes) e,
)

----------------------------------------------------------------
-- Open, convert, rollback

abbrev OpenMet : ℕ → Type 0
OpenMet n = (ws : ℕ) × (program : List ℕ) × (bytes : List ℕ) × (m : ℕ) × (k : ℕ) × (open_call program bytes ws m ≡ refused n k)

open_unprepared : Each OpenMet program_numbers
unfolding open_call
open_unprepared = each_map Unprepared OpenMet (λ n (ws, program, k, e). (ws, program, [], 0, k, stops _ e)) unprepared

-- no record; no room
open_run : Each OpenMet (10 ∷ 20 ∷ [])
unfolding computing
open_run = (ample, [], [], 0, 0, refl) ⨾ (ample, [], 0 ∷ [], 0, 0, refl) ⨾ end

open_exactly : Exactly (program_numbers ++ (10 ∷ 20 ∷ [])) OpenMet
open_exactly n = (
  each_member OpenMet (each_append OpenMet open_unprepared open_run) n,
  λ (ws, program, bytes, m, k, e). number (open_numbered ws program bytes m) e,
)

-- a journal that holds these bytes; an entry of no steps
unfoldable holding : List ℕ → List ℕ
unfolding field held_tag
holding bytes = field held_tag bytes

unfoldable standing : ℕ → List ℕ → List ℕ
unfolding field entry_tag
standing fn anc = field entry_tag (bytes16 fn ++ replicate 4 0 ++ anc)

abbrev ConvertMet : ℕ → Type 0
ConvertMet n = (ws : ℕ) × (fuel : ℕ) × (fn : ℕ) × (program : List ℕ) × (anc : List ℕ) × (journal : List ℕ) × (k : ℕ)
    × (convert_call program fn anc fuel ws journal ≡ refused n k)

convert_unprepared : Each ConvertMet program_numbers
unfolding convert_call
convert_unprepared = each_map Unprepared ConvertMet (λ n (ws, program, k, e). (ws, 0, 0, program, [], [], k, stops _ e)) unprepared

-- no journal; no room for the entry; then as forward
convert_run : Each ConvertMet ((18 ∷ 20 ∷ []) ++ call_numbers ++ forward_numbers)
unfolding computing loops holding
convert_run =
    (ample, 0, 0, collapse, [], [], 0, refl)
    ⨾ (ample, 4, 0, collapse, [], holding (1 ∷ 0 ∷ []), 0, refl)
    ⨾ (ample, 0, 1, collapse, [], holding (1 ∷ 0 ∷ []), 0, refl)
    ⨾ (ample, 0, 0, collapse, 5 ∷ [], holding (1 ∷ 0 ∷ []), 0, refl)
    ⨾ (ample, 0, 0, collapse, [], holding (0 ∷ []), 0, refl)
    ⨾ (ample, 0, 0, collapse, [], holding (1 ∷ 0 ∷ []), 5, refl)
    ⨾ (ample, 65535, 0, loops, [], holding (0 ∷ []), 0, refl)
    ⨾ (ample, 3, 1, numbers, [], holding (encode (num 255)), 11, refl)
    ⨾ (ample, 4, 0, collapse, [], holding (2 ∷ 0 ∷ []), 5, refl)
    ⨾ end

convert_exactly : Exactly (program_numbers ++ (18 ∷ 20 ∷ []) ++ call_numbers ++ forward_numbers) ConvertMet
convert_exactly n = (
  each_member ConvertMet (each_append ConvertMet convert_unprepared convert_run) n,
  λ (ws, fuel, fn, program, anc, journal, k, e). number (convert_numbered ws fuel fn program anc journal) e,
)

abbrev RollbackMet : ℕ → Type 0
RollbackMet n = (ws : ℕ) × (fuel : ℕ) × (program : List ℕ) × (journal : List ℕ) × (k : ℕ) × (rollback_call program fuel ws journal ≡ refused n k)

rollback_unprepared : Each RollbackMet program_numbers
unfolding rollback_call
rollback_unprepared = each_map Unprepared RollbackMet (λ n (ws, program, k, e). (ws, 0, program, [], k, stops _ e)) unprepared

-- no journal; nothing standing; no room for the older record; no such function; an ancilla too many; then as backward
rollback_run : Each RollbackMet ((18 ∷ 19 ∷ 20 ∷ []) ++ call_numbers ++ backward_numbers)
unfolding computing loops unrolls asks holding standing
rollback_run =
    (ample, 0, collapse, [], 0, refl)
    ⨾ (ample, 0, collapse, holding (1 ∷ 0 ∷ []), 0, refl)
    ⨾ (ample, 11, units, unit_held 11, 0, refl)
    ⨾ (ample, 0, collapse, holding (1 ∷ 0 ∷ []) ++ standing 1 [], 0, refl)
    ⨾ (ample, 0, collapse, holding (1 ∷ 0 ∷ []) ++ standing 0 (0 ∷ []), 0, refl)
    ⨾ (ample, 0, collapse, holding (0 ∷ []) ++ standing 0 [], 0, refl)
    ⨾ (ample, 0, collapse, holding (1 ∷ 0 ∷ []) ++ standing 0 [], 5, refl)
    ⨾ (ample, 65535, loops, holding (0 ∷ []) ++ standing 0 [], 1, refl)
    ⨾ (ample, 2, unrolls, holding (encode (inr (num 510))) ++ standing 0 [], 0, refl)
    ⨾ (ample, 65535, asks, holding (0 ∷ []) ++ standing 2 (2 ∷ 0 ∷ []), 5, refl)
    ⨾ (ample, 4, collapse, holding (2 ∷ 0 ∷ []) ++ standing 0 [], 4, refl)
    ⨾ end

rollback_exactly : Exactly (program_numbers ++ (18 ∷ 19 ∷ 20 ∷ []) ++ call_numbers ++ backward_numbers) RollbackMet
rollback_exactly n = (
  each_member RollbackMet (each_append RollbackMet rollback_unprepared rollback_run) n,
  λ (ws, fuel, program, journal, k, e). number (rollback_numbered ws fuel program journal) e,
)

----------------------------------------------------------------
-- The readers of a journal (02, F-1)

abbrev ReaderMet : {A : Type 0} → (List ℕ → ℕ → Answer A) → ℕ → Type 0
ReaderMet call n = (journal : List ℕ) × (out : ℕ) × (k : ℕ) × (call journal out ≡ refused n k)

-- no output; no journal
nurse-exactly : Exactly reader_numbers (ReaderMet nurse_call)
unfolding computing holding
nurse-exactly n = (
  each_member (ReaderMet nurse_call) ((holding (0 ∷ []), 0, 0, refl) ⨾ ([], 0, 0, refl) ⨾ end) n,
  λ (journal, out, k, e). number (nurse-numbered journal out) e,
)

workshop-exactly : Exactly reader_numbers (ReaderMet workshop_call)
unfolding computing holding standing
workshop-exactly n = (
  each_member (ReaderMet workshop_call) ((holding (0 ∷ []) ++ standing 0 [], 0, 0, refl) ⨾ ([], 0, 0, refl) ⨾ end) n,
  λ (journal, out, k, e). number (workshop-numbered journal out) e,
)

pub refusal-numbers : RefusalNumbers
refusal-numbers =
    (check-exactly, forward-exactly, backward-exactly, open_exactly, convert_exactly, rollback_exactly, nurse-exactly, workshop-exactly)
