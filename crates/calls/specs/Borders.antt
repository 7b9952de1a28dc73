-- Border cases, computed: each limit at its edge and one past it, what buffers hold after each outcome, and a list of calls on the journal and
-- in the book. A limit moved by one, or another `cleared` or `written`, is refused here. (Programs of as many entries as may be take long to
-- compute with, and stand in a crate of their own, borders.)
use Rattle.std.specs.Prelude.{ℕ, zero, suc, ◌+◌, ◌*◌, ◌≡◌, List, [], ◌∷◌, ◌++◌, replicate}
use package.Rattle.rules.specs.Val.{unit, inl, inr, encode}
use package.Rattle.rules.specs.Cases.{num}
use package.Rattle.rules.specs.Cases as trees
use package.Rattle.calls.specs.Answer.{accepted, refused, cleared}
use package.Rattle.calls.specs.Runs.{check_call, forward_call, written}
use package.Rattle.calls.specs.Journal.{field, held_tag, entry_tag}
use package.Rattle.calls.specs.Conversions.{open_call, convert_call, rollback_call}
use package.Rattle.calls.specs.Book.{Call, opens, converts, rolls_back, Told, is_open, holds, refuses, book_run, call_run}
use package.Rattle.calls.specs.Claims.{begun}
use package.Rattle.calls.specs.Cases.{type_field, term_field, var_field, function_field, nat_types, number_terms, number_functions, numbers, collapse, ample, plus_of, value, opened, converted}

----------------------------------------------------------------
-- Programs at an edge

unfoldable pub copies : ℕ → List ℕ → List ℕ
copies zero xs = []
copies (suc n) xs = xs ++ copies n xs

-- a function of so many units
unfoldable pub of_units : ℕ → List ℕ
unfolding type_field term_field function_field
of_units n = type_field 0 [] ++ term_field 1 [] ++ function_field 0 (replicate n 0) 0

-- so many lets of unit, the innermost as term 2
unfoldable pub let_fields : ℕ → List ℕ
unfolding term_field
let_fields zero = []
let_fields (suc n) = let_fields n ++ term_field 1 [] ++ term_field 5 ((1 + 2 * n) ∷ (2 * n) ∷ [])

unfoldable pub unit_lets : ℕ → List ℕ
unfolding type_field term_field let_fields function_field
unit_lets n = type_field 0 [] ++ term_field 1 [] ++ let_fields n ++ function_field 0 (0 ∷ []) (2 * n)

-- type 9 has 1,023 nodes as a tree, 10 and 11 are recursive over it: 1,024 and 1,025; 12 is recursive over 8: 512; 13 its product with 8: 1,024
unfoldable pub doubled : ℕ → List ℕ
unfolding type_field
doubled zero = type_field 0 []
doubled (suc n) = doubled n ++ type_field 1 (n ∷ n ∷ [])

unfoldable pub big_types : List ℕ
unfolding doubled type_field
big_types = doubled 9 ++ type_field 3 (9 ∷ []) ++ type_field 3 (10 ∷ []) ++ type_field 3 (8 ∷ []) ++ type_field 1 (8 ∷ 12 ∷ [])

-- a function with an ancilla of this type; and one that pairs its two ancillae
unfoldable pub names_type : ℕ → List ℕ
unfolding big_types term_field function_field
names_type i = big_types ++ term_field 1 [] ++ function_field 0 (i ∷ 0 ∷ []) 0

unfoldable pub pairs_types : ℕ → ℕ → ℕ → List ℕ
unfolding big_types var_field term_field function_field
pairs_types i j result = big_types ++ var_field 0 ++ var_field 1 ++ term_field 4 (0 ∷ 1 ∷ []) ++ function_field result (i ∷ j ∷ 0 ∷ []) 2

-- functions 2 and 3 call plus, each one higher
unfoldable pub higher : List ℕ
unfolding number_terms number_functions var_field term_field function_field
higher = number_terms ++ var_field 0 ++ var_field 1 ++ term_field 8 (0 ∷ 12 ∷ 13 ∷ []) ++ var_field 0 ++ var_field 1 ++ term_field 8 (2 ∷ 15 ∷ 16 ∷ [])
    ++ number_functions ++ function_field 3 (3 ∷ 3 ∷ []) 14 ++ function_field 3 (3 ∷ 3 ∷ []) 17

-- ancillae of 1 + Nat, and of unit and 1 + Nat; the function of 1 + Nat that gives its input
unfoldable pub wide : List ℕ
unfolding nat_types var_field term_field function_field
wide = nat_types ++ term_field 1 [] ++ term_field 1 [] ++ var_field 0
    ++ function_field 0 (4 ∷ 0 ∷ []) 0 ++ function_field 0 (0 ∷ 4 ∷ 0 ∷ []) 1 ++ function_field 4 (4 ∷ []) 2

-- a journal that holds unit, after so many conversions of no ancillae
unfoldable pub with_entries : ℕ → List ℕ
unfolding copies field held_tag entry_tag
with_entries n = field held_tag (0 ∷ []) ++ copies n (field entry_tag (replicate 6 0))

----------------------------------------------------------------
-- Limits, at the edge and one past it

pub record Edges : Type 0 where
  pub workspace : check_call [] 32768 ≡ accepted tt
  pub workspace_past : check_call [] 32767 ≡ refused 1 0
  pub workspace_fuel : forward_call collapse 0 [] (encode (inl unit)) 1 32800 2 ≡ refused 12 0
  pub workspace_fuel_past : forward_call collapse 0 [] (encode (inl unit)) 1 32799 2 ≡ refused 1 0
  pub bytes : check_call (replicate 32768 1) ample ≡ refused 2 0
  pub bytes_past : check_call (replicate 32769 1) ample ≡ refused 3 0
  pub parameters : check_call (of_units 8) ample ≡ accepted tt
  pub parameters_past : check_call (of_units 9) ample ≡ refused 3 8
  pub no_parameters : check_call (of_units 0) ample ≡ refused 3 8
  pub variables : check_call (unit_lets 31) ample ≡ accepted tt
  pub variables_past : check_call (unit_lets 32) ample ≡ refused 7 12
  pub nodes : check_call (names_type 10) ample ≡ accepted tt
  pub nodes_past : check_call (names_type 11) ample ≡ refused 5 106
  pub nodes_given : check_call (pairs_types 8 12 13) ample ≡ accepted tt
  pub nodes_given_past : check_call (pairs_types 12 12 13) ample ≡ refused 6 112
  pub value_bytes_lem : forward_call wide 2 [] (encode (inr (num 510))) 1 ample 1024 ≡ value (inr (num 510)) 1
  pub value_bytes_past : forward_call wide 2 [] (encode (num 511)) 1 ample 1024 ≡ refused 10 0
  pub ancilla_bytes : forward_call wide 0 (encode (inr (num 510))) (encode unit) 1 ample 1 ≡ value unit 1
  pub ancilla_bytes_past : forward_call wide 1 (encode unit ++ encode (inr (num 510))) (encode unit) 1 ample 1 ≡ refused 10 0
  pub height : forward_call higher 2 (encode (num 0)) (encode (num 255)) 65535 ample 1024 ≡ value (num 255) 2047
  pub height_past : forward_call higher 3 (encode (num 0)) (encode (num 255)) 65535 ample 1024 ≡ refused 13 0
  pub output : forward_call collapse 0 [] (encode (inl unit)) 4 ample 2 ≡ value (inl unit) 4
  pub output_past : forward_call collapse 0 [] (encode (inl unit)) 4 ample 1 ≡ refused 17 0
  pub function_past : forward_call collapse 1 [] (encode (inl unit)) 4 ample 2 ≡ refused 9 0
  pub conversions : convert_call [] 9 [] 0 ample (with_entries 63) ≡ refused 9 0
  pub conversions_past : convert_call [] 9 [] 0 ample (with_entries 64) ≡ refused 20 0
  pub entries : rollback_call [] 0 ample (with_entries 64) ≡ refused 9 0
  pub entries_past : rollback_call [] 0 ample (with_entries 65) ≡ refused 18 0
  pub room : open_call [] (encode (num 3)) ample 12 ≡ accepted (field held_tag (encode (num 3)))
  pub room_past : open_call [] (encode (num 3)) ample 11 ≡ refused 20 0

----------------------------------------------------------------
-- What buffers hold after each outcome

pub record Outcomes : Type 0 where
  pub clear : cleared (plus_of 28 2 3) (7 ∷ 7 ∷ []) ≡ 0 ∷ 0 ∷ []
  pub clear_refused : cleared (plus_of 27 2 3) (7 ∷ 7 ∷ []) ≡ 0 ∷ 0 ∷ []
  pub clear_2 : cleared (check_call (0 ∷ []) ample) (7 ∷ 7 ∷ []) ≡ 0 ∷ 0 ∷ []
  pub untouched : cleared (check_call [] 0) (7 ∷ 7 ∷ []) ≡ 7 ∷ 7 ∷ []
  pub filled : written (plus_of 4 0 0) (9 ∷ 9 ∷ 9 ∷ 9 ∷ []) ≡ 4 ∷ 1 ∷ 0 ∷ 9 ∷ []
  pub kept : written (plus_of 3 0 0) (9 ∷ 9 ∷ 9 ∷ 9 ∷ []) ≡ 9 ∷ 9 ∷ 9 ∷ 9 ∷ []

----------------------------------------------------------------
-- A list of calls, refused ones among them, in buffers that grow and shrink

-- plus 2; again, with too little fuel; rollback with too little fuel, in a shorter buffer; rollback, in a longer one; rollback with nothing
-- standing, in one of the field alone; open with 0
abbrev pub some_calls : List Call
some_calls = converts 0 (encode (num 2)) 65535 ample 40 ∷ converts 0 (encode (num 2)) 27 ample 40 ∷ rolls_back 27 ample 36 ∷ rolls_back 28 ample 41
    ∷ rolls_back 28 ample 12 ∷ opens (encode (num 0)) ample 9 ∷ []

abbrev pub more_calls : List Call
more_calls = converts 0 (encode (num 2)) 65535 ample 40 ∷ converts 0 (encode (num 2)) 65535 ample 60 ∷ rolls_back 44 ample 60 ∷ rolls_back 0 ample 40 ∷ []

abbrev pub told : List Told
told = holds 13 28 ∷ refuses 12 7 ∷ refuses 12 0 ∷ holds 9 28 ∷ refuses 19 0 ∷ is_open ∷ []

pub record Lists : Type 0 where
  pub made : (call_run numbers some_calls opened).answers ≡ told
  pub booked : (book_run numbers trees.numbers some_calls (begun (num 3))).answers ≡ told
  pub left : (call_run numbers some_calls opened).journal ≡ field held_tag (encode (num 0)) ++ replicate 3 0
  -- two conversions and a rollback in a longer buffer, then a refused one in P13's, leave P13's journal
  pub again : (call_run numbers more_calls opened).journal ≡ converted
