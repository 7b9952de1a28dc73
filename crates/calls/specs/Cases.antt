-- Section 6's cases on bytes, gathered in one proposition (P1 to P5 and P9 to P13), P6 to P8 beside it, orders of section 4, the readers
-- of P13's journals, calls that a variable steers, and P12 with an ancilla. Each limit at its edge, outcomes and lists of calls: Borders.
use Rattle.std.specs.Prelude.{ℕ, ◌≡◌, List, [], ◌∷◌, ◌++◌, length, replicate}
use package.Rattle.octets.specs.Numbers.{bytes16}
use package.Rattle.rules.specs.Val.{Val, unit, inl, inr, pair, encode}
use package.Rattle.rules.specs.Limits.{fits}
use package.Rattle.rules.specs.Term.{Program}
use package.Rattle.rules.specs.Run.{ok, stop}
use package.Rattle.rules.specs.Machine.{run_forward}
use package.Rattle.rules.specs.Cases.{num, plus}
use package.Rattle.rules.specs.Cases as trees
use package.Rattle.rules.specs.Choices as choices
use package.Rattle.calls.specs.Answer.{Answer, accepted, refused, ◌>>=◌, overwritten}
use package.Rattle.calls.specs.Fields.{layout}
use package.Rattle.calls.specs.Entries.{entries_at, program_of}
use package.Rattle.calls.specs.Load.{load}
use package.Rattle.calls.specs.Runs.{Ran, check_call, forward_call, backward_call}
use package.Rattle.calls.specs.Journal.{field, held_tag, entry_tag}
use package.Rattle.calls.specs.Conversions.{Turned, open_call, convert_call, rollback_call}
use package.Rattle.calls.specs.Readers.{Seen, most_entries, nurse_call, workshop_call, held_bytes}

----------------------------------------------------------------
-- Fields, written out

-- a body of a kind byte and references
unfoldable pub refs : List ℕ → List ℕ
refs [] = []
refs (i ∷ is) = bytes16 i ++ refs is

unfoldable pub type_field : ℕ → List ℕ → List ℕ
unfolding field refs
type_field kind is = field 1 (kind ∷ refs is)

unfoldable pub term_field : ℕ → List ℕ → List ℕ
unfolding field refs
term_field kind is = field 2 (kind ∷ refs is)

unfoldable pub var_field : ℕ → List ℕ
unfolding field
var_field i = field 2 (0 ∷ i ∷ [])

-- result type, parameter types, body
unfoldable pub function_field : ℕ → List ℕ → ℕ → List ℕ
unfolding field refs
function_field result parameters body = field 3 (bytes16 result ++ (length parameters ∷ refs (parameters ++ (body ∷ []))))

----------------------------------------------------------------
-- Programs

-- types 0 unit, 1 variable 0, 2 sum(0,1), 3 recursive(2) = Nat, 4 sum(0,3)
unfoldable pub nat_types : List ℕ
unfolding type_field field
nat_types = type_field 0 [] ++ field 1 (4 ∷ 0 ∷ []) ++ type_field 2 (0 ∷ 1 ∷ []) ++ type_field 3 (2 ∷ []) ++ type_field 2 (0 ∷ 3 ∷ [])

-- and 5 product(3,3), the result of dup; terms 0 to 8 are plus, 9 to 11 dup
unfoldable pub number_terms : List ℕ
unfolding nat_types type_field term_field var_field
number_terms = nat_types ++ type_field 1 (3 ∷ 3 ∷ [])
    ++ var_field 1 ++ term_field 10 (3 ∷ 0 ∷ []) ++ var_field 0
    ++ var_field 0 ++ var_field 2 ++ term_field 8 (0 ∷ 3 ∷ 4 ∷ []) ++ term_field 3 (4 ∷ 5 ∷ []) ++ term_field 9 (3 ∷ 6 ∷ [])
    ++ term_field 7 (1 ∷ 2 ∷ 7 ∷ [])
    ++ var_field 0 ++ var_field 0 ++ term_field 4 (9 ∷ 10 ∷ [])

unfoldable pub number_functions : List ℕ
unfolding function_field
number_functions = function_field 3 (3 ∷ 3 ∷ []) 8 ++ function_field 5 (3 ∷ []) 11

unfoldable pub numbers : List ℕ
unfolding number_terms number_functions
numbers = number_terms ++ number_functions

-- types 0 unit, 1 sum(0,0)
unfoldable pub bit_types : List ℕ
unfolding type_field
bit_types = type_field 0 [] ++ type_field 2 (0 ∷ 0 ∷ [])

-- P10: case gives inl unit in both branches
unfoldable pub collapse : List ℕ
unfolding bit_types var_field term_field function_field
collapse = bit_types
    ++ var_field 0 ++ term_field 1 [] ++ term_field 2 (1 ∷ 1 ∷ []) ++ term_field 1 [] ++ term_field 2 (1 ∷ 3 ∷ []) ++ term_field 7 (0 ∷ 2 ∷ 4 ∷ [])
    ++ function_field 1 (1 ∷ []) 5

-- P11: a function from 1 + 1 that gives unit alone
unfoldable pub discards : List ℕ
unfolding bit_types term_field function_field
discards = bit_types ++ term_field 1 [] ++ function_field 0 (1 ∷ []) 0

-- P12: pair (s,q) of 1 + 1: left gives q, right gives q flipped; type 2 is product(1,1)
unfoldable pub flip : List ℕ
unfolding bit_types type_field var_field term_field function_field
flip = bit_types ++ type_field 1 (1 ∷ 1 ∷ [])
    ++ var_field 0 ++ var_field 1 ++ var_field 2 ++ var_field 2
    ++ term_field 1 [] ++ term_field 3 (1 ∷ 4 ∷ []) ++ term_field 1 [] ++ term_field 2 (1 ∷ 6 ∷ []) ++ term_field 7 (3 ∷ 5 ∷ 7 ∷ [])
    ++ term_field 7 (1 ∷ 2 ∷ 8 ∷ []) ++ term_field 6 (0 ∷ 9 ∷ [])
    ++ function_field 1 (2 ∷ []) 10

-- a product of six units, by let pairs, to unit: its record is eleven bytes, its result one
unfoldable pub units : List ℕ
unfolding type_field var_field term_field function_field
units = type_field 0 [] ++ type_field 1 (0 ∷ 0 ∷ []) ++ type_field 1 (0 ∷ 1 ∷ []) ++ type_field 1 (0 ∷ 2 ∷ []) ++ type_field 1 (0 ∷ 3 ∷ []) ++ type_field 1 (0 ∷ 4 ∷ [])
    ++ var_field 0 ++ var_field 2 ++ var_field 4 ++ var_field 6 ++ var_field 8
    ++ term_field 1 [] ++ term_field 6 (4 ∷ 5 ∷ []) ++ term_field 6 (3 ∷ 6 ∷ []) ++ term_field 6 (2 ∷ 7 ∷ []) ++ term_field 6 (1 ∷ 8 ∷ []) ++ term_field 6 (0 ∷ 9 ∷ [])
    ++ function_field 0 (5 ∷ []) 10

----------------------------------------------------------------
-- The table

-- a workspace that suffices for any fuel, and an output that is long enough
abbrev pub ample : ℕ
ample = 2200000

-- plus, dup: forward and backward, with fuel, the ancilla's number if there is one, and the value
abbrev pub plus_of : ℕ → ℕ → ℕ → Answer Ran
plus_of fuel a n = forward_call numbers 0 (encode (num a)) (encode (num n)) fuel ample 1024

abbrev pub plus_back : ℕ → ℕ → ℕ → Answer Ran
plus_back fuel a n = backward_call numbers 0 (encode (num a)) (encode (num n)) fuel ample 1024

abbrev pub dup_back : ℕ → ℕ → ℕ → Answer Ran
dup_back fuel n m = backward_call numbers 1 [] (encode (pair (num n) (num m))) fuel ample 1024

abbrev pub value : Val → ℕ → Answer Ran
value v n = accepted (record { value = v; steps = n })

-- P13's journals, in a buffer of 40 bytes
abbrev pub opened : List ℕ
opened = 0x21 ∷ 0x00 ∷ 0x09 ∷ (encode (num 3) ++ replicate 28 0)

abbrev pub converted : List ℕ
converted = 0x21 ∷ 0x00 ∷ 0x0D ∷ (encode (num 5) ++ 0x22 ∷ 0x00 ∷ 0x0D ∷ 0x00 ∷ 0x00 ∷ 0x00 ∷ 0x00 ∷ 0x00 ∷ 0x1C ∷ (encode (num 2) ++ replicate 8 0))

abbrev pub held : ℕ → ℕ → List ℕ → Answer Turned
held n steps journal = accepted (record { held = n; steps = steps; journal = journal })

-- the tree program that the bytes are, typed or not
abbrev pub trees_of : List ℕ → Answer Program
trees_of xs = layout xs >>= λ L. accepted (program_of (entries_at xs L))

abbrev pub flipped : Val → Answer Ran
flipped v = forward_call flip 0 [] (encode v) 65535 ample 1024

pub record Table : Type 0 where
  -- the programs of rules/specs/Cases are those that the bytes load to
  pub loads : load numbers ≡ accepted trees.numbers
  pub p10_loads : load collapse ≡ accepted (trees.collapse ∷ [])
  pub p11_trees : trees_of discards ≡ accepted (trees.discards ∷ [])
  pub p12_loads : load flip ≡ accepted (trees.flip ∷ [])
  pub checked : check_call numbers ample ≡ accepted tt
  pub p1 : plus_of 65535 2 0 ≡ value (num 2) 4
  pub p2 : plus_of 28 2 3 ≡ value (num 5) 28
  pub p2_fuel : plus_of 27 2 3 ≡ refused 12 2
  pub p3 : plus_back 28 2 5 ≡ value (num 3) 28
  pub p4 : plus_back 65535 2 1 ≡ refused 16 6
  pub p5 : plus_of 2044 0 255 ≡ value (num 255) 2044
  -- its height is 1,023 exactly
  pub p5_height : run_forward fits trees.numbers 1023 plus (num 0 ∷ []) (num 255) 2044 ≡ ok (num 255) 0
  pub p5_lower : run_forward fits trees.numbers 1022 plus (num 0 ∷ []) (num 255) 2044 ≡ stop 13 0
  pub p9 : dup_back 3 3 4 ≡ refused 16 10
  pub p9_equal : dup_back 3 3 3 ≡ value (num 3) 3
  pub p10_inl : forward_call collapse 0 [] (encode (inl unit)) 4 ample 1024 ≡ value (inl unit) 4
  pub p10_inr : forward_call collapse 0 [] (encode (inr unit)) 4 ample 1024 ≡ refused 15 5
  -- placed at the function's field, the last
  pub p11 : check_call discards ample ≡ refused 8 16
  pub p12_left_inl : flipped (pair (inl unit) (inl unit)) ≡ value (inl unit) 5
  pub p12_left_inr : flipped (pair (inl unit) (inr unit)) ≡ value (inr unit) 5
  pub p12_right_inl : flipped (pair (inr unit) (inl unit)) ≡ refused 15 9
  pub p12_right_inr : flipped (pair (inr unit) (inr unit)) ≡ refused 15 9
  pub p13_open : open_call numbers (encode (num 3)) ample 40 ≡ accepted opened
  pub p13_convert : convert_call numbers 0 (encode (num 2)) 65535 ample opened ≡ held 13 28 converted
  pub p13_rollback : rollback_call numbers 65535 ample converted ≡ held 9 28 opened

-- P6 to P8
pub record Limits : Type 0 where
  pub p6 : plus_of 65535 0 256 ≡ refused 13 3
  pub p7 : forward_call numbers 1 [] (encode (num 254)) 65535 ample 1024 ≡ value (pair (num 254) (num 254)) 3
  pub p7_short : forward_call numbers 1 [] (encode (num 254)) 65535 ample 1022 ≡ refused 17 0
  pub p8 : forward_call numbers 1 [] (encode (num 255)) 65535 ample 1024 ≡ refused 14 11

----------------------------------------------------------------
-- Orders of section 4

-- the six units
abbrev pub six_units : Val
six_units = pair unit (pair unit (pair unit (pair unit (pair unit unit))))

-- unit held after the units' conversion, with the steps that its entry says, in a buffer with no zeros behind
abbrev pub unit_held : ℕ → List ℕ
unit_held steps = 0x21 ∷ 0 ∷ 1 ∷ 0 ∷ 0x22 ∷ 0 ∷ 6 ∷ 0 ∷ 0 ∷ 0 ∷ 0 ∷ 0 ∷ steps ∷ []

pub record Orders : Type 0 where
  -- the conversion takes 11 steps, and fits
  pub converts : convert_call units 0 [] 65535 ample (0x21 ∷ 0 ∷ 11 ∷ (encode six_units ++ replicate 9 0)) ≡ held 1 11 (unit_held 11 ++ replicate 10 0)
  -- rolled back in a buffer of 13 bytes, the record of 11 does not fit; steps that differ are met before that
  pub room : rollback_call units 65535 ample (unit_held 11) ≡ refused 20 0
  pub steps_before_room : rollback_call units 65535 ample (unit_held 12) ≡ refused 18 0
  -- a malformed value goes before an ancilla of another type
  pub malformed_before_typed : forward_call numbers 0 (encode unit) (5 ∷ []) 28 ample 1024 ≡ refused 10 0
  pub typed : forward_call numbers 0 (encode unit) (encode (num 3)) 28 ample 1024 ≡ refused 11 0
  -- a second conversion carries the record too, and both go back
  pub second : convert_call numbers 0 (encode (num 2)) 65535 ample (converted ++ replicate 20 0)
      ≡ held 17 44 (0x21 ∷ 0 ∷ 17 ∷ (encode (num 7) ++ 0x22 ∷ 0 ∷ 13 ∷ 0 ∷ 0 ∷ 0 ∷ 0 ∷ 0 ∷ 28 ∷ (encode (num 2) ++ 0x22 ∷ 0 ∷ 13 ∷ 0 ∷ 0 ∷ 0 ∷ 0 ∷ 0 ∷ 44 ∷ (encode (num 2) ++ replicate 8 0))))

----------------------------------------------------------------
-- The readers of a journal (02, F-1)

abbrev pub seen : Val → ℕ → Answer Seen
seen v standing = accepted (record { held = v; standing = standing })

-- P13's entry as it stands, and one of another function, other steps and other ancillae
abbrev pub plus_entry : List ℕ
plus_entry = field entry_tag (0 ∷ 0 ∷ 0 ∷ 0 ∷ 0 ∷ 28 ∷ encode (num 2))

abbrev pub other_entry : List ℕ
other_entry = field entry_tag (0 ∷ 1 ∷ 9 ∷ 9 ∷ 9 ∷ 9 ∷ [])

-- 5 held, behind it these entries and two zeros
abbrev pub holds_five : List ℕ → List ℕ
holds_five entries = field held_tag (encode (num 5)) ++ entries ++ 0 ∷ 0 ∷ []

pub record Readings : Type 0 where
  pub most_entries_lem : most_entries ≡ 66112
  pub nurse : nurse_call converted 13 ≡ seen (num 5) 1
  pub nurse_short : nurse_call converted 12 ≡ refused 17 0
  pub nurse_opened : nurse_call opened 9 ≡ seen (num 3) 0
  pub nurse_other : nurse_call (holds_five other_entry) 13 ≡ seen (num 5) 1
  pub workshop : workshop_call converted 16 ≡ accepted plus_entry
  pub workshop_short : workshop_call converted 15 ≡ refused 17 0
  -- none stands: nothing is written, which fits even an empty output
  pub workshop_opened : workshop_call opened 0 ≡ accepted []
  pub workshop_oldest_first : workshop_call (holds_five (plus_entry ++ other_entry)) 25 ≡ accepted (plus_entry ++ other_entry)
  -- 18 goes before 17; a byte behind the zeros is no form
  pub nurse_malformed : nurse_call (converted ++ 1 ∷ []) 0 ≡ refused 18 0
  pub workshop_malformed : workshop_call (converted ++ 1 ∷ []) 0 ≡ refused 18 0
  -- what outputs hold afterwards
  pub nurse_output : overwritten (held_bytes (nurse_call opened 11)) (replicate 11 7) ≡ encode (num 3) ++ 7 ∷ 7 ∷ []
  pub nurse_kept : overwritten (held_bytes (nurse_call opened 8)) (replicate 8 7) ≡ replicate 8 7
  pub workshop_output : overwritten (workshop_call converted 17) (replicate 17 7) ≡ plus_entry ++ 7 ∷ []

----------------------------------------------------------------
-- A variable that comes back later steers a call (02, F-2)

-- `numbers` with further terms, and functions from (k, n); variable 0 is the pair, 1 is k, 2 is n, 3 what a let binds
unfoldable pub beside_numbers : List ℕ → List ℕ → List ℕ
unfolding number_terms number_functions
beside_numbers terms functions = number_terms ++ terms ++ number_functions ++ functions

-- terms 13 to 15: plus k n
unfoldable pub plus_kn : List ℕ
unfolding var_field term_field
plus_kn = var_field 0 ++ var_field 1 ++ var_field 2 ++ term_field 8 (0 ∷ 13 ∷ 14 ∷ [])

-- function 2 is let y = plus k n in (k, y), and function 3 let y = (let z = plus k n in z) in (k, y), which the outer let helps
unfoldable pub steering : List ℕ
unfolding beside_numbers plus_kn var_field term_field function_field
steering = beside_numbers (plus_kn
    ++ var_field 1 ++ var_field 3 ++ term_field 4 (16 ∷ 17 ∷ []) ++ term_field 5 (15 ∷ 18 ∷ []) ++ term_field 6 (12 ∷ 19 ∷ [])
    ++ var_field 0 ++ var_field 1 ++ var_field 2 ++ term_field 8 (0 ∷ 22 ∷ 23 ∷ []) ++ var_field 3 ++ term_field 5 (24 ∷ 25 ∷ [])
    ++ var_field 1 ++ var_field 3 ++ term_field 4 (27 ∷ 28 ∷ []) ++ term_field 5 (26 ∷ 29 ∷ []) ++ term_field 6 (21 ∷ 30 ∷ []))
    (function_field 5 (5 ∷ []) 20 ++ function_field 5 (5 ∷ []) 31)

-- let y = plus k n in y: the body does not use k
unfoldable pub unhelped : List ℕ
unfolding beside_numbers plus_kn var_field term_field function_field
unhelped = beside_numbers (plus_kn ++ var_field 3 ++ term_field 5 (15 ∷ 16 ∷ []) ++ term_field 6 (12 ∷ 17 ∷ [])) (function_field 3 (5 ∷ []) 18)

-- let y = plus k (plus k n) in y: of two namings the one written last has the lower field
unfoldable pub unhelped_twice : List ℕ
unfolding beside_numbers plus_kn var_field term_field function_field
unhelped_twice = beside_numbers (plus_kn ++ var_field 1 ++ term_field 8 (0 ∷ 16 ∷ 15 ∷ []) ++ var_field 3 ++ term_field 5 (17 ∷ 18 ∷ []) ++ term_field 6 (12 ∷ 19 ∷ []))
    (function_field 3 (5 ∷ []) 20)

-- From s, u and n, with u unit: let y = beside u n in case s of inl _ ⇒ inl (u, y), inr _ ⇒ inr y. The right branch never meets u. Types: 5
-- product(0,3), 6 sum(0,0), 7 product(6,5), 8 product(0,5), 9 sum(8,5); function 1, beside, is (a, n) for an ancilla a.
unfoldable pub unmet : List ℕ
unfolding nat_types type_field var_field term_field function_field
unmet = nat_types ++ type_field 1 (0 ∷ 3 ∷ []) ++ type_field 2 (0 ∷ 0 ∷ []) ++ type_field 1 (6 ∷ 5 ∷ []) ++ type_field 1 (0 ∷ 5 ∷ []) ++ type_field 2 (8 ∷ 5 ∷ [])
    ++ var_field 0 ++ var_field 2 ++ var_field 3 ++ var_field 4 ++ term_field 8 (1 ∷ 2 ∷ 3 ∷ [])
    ++ var_field 1 ++ var_field 3 ++ var_field 5 ++ term_field 4 (6 ∷ 7 ∷ []) ++ term_field 2 (9 ∷ 8 ∷ []) ++ var_field 5 ++ term_field 3 (9 ∷ 10 ∷ [])
    ++ term_field 7 (5 ∷ 9 ∷ 11 ∷ []) ++ term_field 5 (4 ∷ 12 ∷ []) ++ term_field 6 (1 ∷ 13 ∷ []) ++ term_field 6 (0 ∷ 14 ∷ [])
    ++ var_field 0 ++ var_field 1 ++ term_field 4 (16 ∷ 17 ∷ [])
    ++ function_field 9 (7 ∷ []) 15 ++ function_field 5 (0 ∷ 3 ∷ []) 18

abbrev pub steered : ℕ → ℕ → Val → Answer Ran
steered g fuel v = forward_call steering g [] (encode v) fuel ample 1024

abbrev pub steered_back : ℕ → ℕ → Val → Answer Ran
steered_back g fuel v = backward_call steering g [] (encode v) fuel ample 1024

-- a journal of (2, 3), and the same converted by function 2
abbrev pub opened_pair : List ℕ
opened_pair = field held_tag (encode (pair (num 2) (num 3))) ++ replicate 13 0

abbrev pub steered_pair : List ℕ
steered_pair = field held_tag (encode (pair (num 2) (num 5))) ++ field entry_tag (0 ∷ 2 ∷ 0 ∷ 0 ∷ 0 ∷ 37 ∷ [])

pub record Steering : Type 0 where
  pub checked : check_call steering ample ≡ accepted tt
  pub forward : steered 2 37 (pair (num 2) (num 3)) ≡ value (pair (num 2) (num 5)) 37
  pub back : steered_back 2 37 (pair (num 2) (num 5)) ≡ value (pair (num 2) (num 3)) 37
  pub none : steered_back 2 65535 (pair (num 2) (num 1)) ≡ refused 16 6
  pub nested_forward : steered 3 39 (pair (num 2) (num 3)) ≡ value (pair (num 2) (num 5)) 39
  pub nested_back : steered_back 3 39 (pair (num 2) (num 5)) ≡ value (pair (num 2) (num 3)) 39
  pub unmet_forward : forward_call unmet 0 [] (encode (pair (inr unit) (pair unit (num 3)))) 15 ample 1024 ≡ value (inr (pair unit (num 3))) 15
  pub unmet_back : backward_call unmet 0 [] (encode (inr (pair unit (num 3)))) 15 ample 1024 ≡ value (pair (inr unit) (pair unit (num 3))) 15
  -- placed at the field of the variable that is named; of two the lowest
  pub lost : check_call unhelped ample ≡ refused 8 126
  pub lowest : check_call unhelped_twice ample ≡ refused 8 126
  pub converts : convert_call steering 2 [] 65535 ample opened_pair ≡ held 21 37 steered_pair
  pub rolls_back_lem : rollback_call steering 65535 ample steered_pair ≡ held 17 37 opened_pair

----------------------------------------------------------------
-- Choosing by an ancilla (02, F-3)

-- P12 with s as an ancilla: s is variable 0, q variable 1
unfoldable pub flip_by : List ℕ
unfolding bit_types var_field term_field function_field
flip_by = bit_types
    ++ var_field 0 ++ var_field 1 ++ var_field 1
    ++ term_field 1 [] ++ term_field 3 (1 ∷ 3 ∷ []) ++ term_field 1 [] ++ term_field 2 (1 ∷ 5 ∷ []) ++ term_field 7 (2 ∷ 4 ∷ 6 ∷ [])
    ++ term_field 7 (0 ∷ 1 ∷ 7 ∷ [])
    ++ function_field 1 (1 ∷ 1 ∷ []) 8

abbrev pub flipped_by : Val → ℕ → Val → Answer Ran
flipped_by s fuel q = forward_call flip_by 0 (encode s) (encode q) fuel ample 1024

abbrev pub flipped_back : Val → ℕ → Val → Answer Ran
flipped_back s fuel q = backward_call flip_by 0 (encode s) (encode q) fuel ample 1024

-- a journal of inr unit, and the same converted with s = inr unit
abbrev pub opened_bit : List ℕ
opened_bit = field held_tag (encode (inr unit)) ++ replicate 11 0

abbrev pub flipped_bit : List ℕ
flipped_bit = field held_tag (encode (inl unit)) ++ field entry_tag (0 ∷ 0 ∷ 0 ∷ 0 ∷ 0 ∷ 6 ∷ encode (inr unit))

pub record Choosing : Type 0 where
  pub loads : load flip_by ≡ accepted (choices.flip_by ∷ [])
  pub left_inl : flipped_by (inl unit) 3 (inl unit) ≡ value (inl unit) 3
  pub left_inr : flipped_by (inl unit) 3 (inr unit) ≡ value (inr unit) 3
  pub right_inl : flipped_by (inr unit) 6 (inl unit) ≡ value (inr unit) 6
  pub right_inr : flipped_by (inr unit) 6 (inr unit) ≡ value (inl unit) 6
  pub back_left_inl : flipped_back (inl unit) 3 (inl unit) ≡ value (inl unit) 3
  pub back_left_inr : flipped_back (inl unit) 3 (inr unit) ≡ value (inr unit) 3
  pub back_right_inl : flipped_back (inr unit) 6 (inl unit) ≡ value (inr unit) 6
  pub back_right_inr : flipped_back (inr unit) 6 (inr unit) ≡ value (inl unit) 6
  -- the scrutinee before the branch
  pub back_fuel : flipped_back (inr unit) 1 (inl unit) ≡ refused 12 0
  pub converts : convert_call flip_by 0 (encode (inr unit)) 65535 ample opened_bit ≡ held 2 6 flipped_bit
  pub rolls_back_lem : rollback_call flip_by 65535 ample flipped_bit ≡ held 2 6 opened_bit
