-- A program decoded: a row of twelve numbers for each term, and behind them one for each function, in one array; last, how many terms and
-- functions there are. A run reads these and no byte of the program. A row says what the entry's field says (section 1): its first number is
-- the kind, then come the references (of a variable, its number), or of a call its function and how many ancilla terms it has; from the fifth
-- number on stand a call's terms, the dynamic one last. The fifth and sixth of a case are the set of the variables that its scrutinee names
-- (02, F-3). Of a function: how many parameters, body, result type, and the parameters' types.
-- Laws: proofs/Agreeing, proofs/Trees, proofs/Named.
use Rattle.std.specs.Prelude.{ℕ, zero, suc, ◌+◌, ◌*◌, ◌-◌, ◌≤◌, ◌<◌, min, ◌≡◌, Bool, true, not, List, [], ◌∷◌, get_or, eqb}
use package.Rattle.rules.specs.Term.{Term, Program, within}
use package.Rattle.rules.specs.Limits.{max_terms, max_functions, max_variables}
use package.Rattle.calls.specs.Entries.{TypeEntry, TermEntry, term_of_kind, term_of, FunctionEntry, program_of}
use package.Rattle.calls.specs.Named.{terms_of_term, functions_of_term, below}
use package.Rattle.program.specs.Kinds.{term_kinds, variable_kind, case_kind, call_kind}
use package.Rattle.varsets.specs.declared.Uses.{Uses}
use package.Rattle.varsets.specs.Sets.{Holds, of_halves}

----------------------------------------------------------------
-- The numbers of a row

-- how many ancilla terms a row has room for: as many as `max_parameters` allows, the dynamic one apart (proofs/Accepted)
abbrev pub room_for : ℕ
room_for = 7

-- how many numbers a row has: four, then those of the ancilla terms and of the dynamic one
abbrev pub row_heads : ℕ
row_heads = 4

abbrev pub row_numbers : ℕ
row_numbers = row_heads + (room_for + 1)

-- where the rows of functions and the counts begin
abbrev pub function_rows : ℕ
function_rows = max_terms

abbrev pub all_rows : ℕ
all_rows = function_rows + max_functions

abbrev pub counts_at : ℕ
counts_at = row_numbers * all_rows

-- all numbers
abbrev pub code_numbers : ℕ
code_numbers = counts_at + 2

unfoldable pub kind_in : List ℕ → ℕ → ℕ
kind_in code t = get_or code (row_numbers * t) 0

unfoldable pub first_in : List ℕ → ℕ → ℕ
first_in code t = get_or code (row_numbers * t + 1) 0

unfoldable pub second_in : List ℕ → ℕ → ℕ
second_in code t = get_or code (row_numbers * t + 2) 0

unfoldable pub third_in : List ℕ → ℕ → ℕ
third_in code t = get_or code (row_numbers * t + 3) 0

-- the numbers from the fifth on, eight of them
unfoldable pub argument_in : List ℕ → ℕ → ℕ → ℕ
argument_in code t k = get_or code (row_numbers * t + row_heads + k) 0

-- `n` of them, from number `k` on
unfoldable pub arguments_in : List ℕ → ℕ → ℕ → ℕ → List ℕ
arguments_in code t k zero = []
arguments_in code t k (suc n) = argument_in code t k ∷ arguments_in code t (k + 1) n

-- the ancilla terms of a call's row
unfoldable pub ancillae_in : List ℕ → ℕ → ℕ
ancillae_in code t = min room_for (third_in code t)

-- the variables that the scrutinee of a case's row names: a set in two numbers
unfoldable pub names_in : List ℕ → ℕ → Uses
unfolding argument_in
names_in code t = of_halves (argument_in code t 0) (argument_in code t 1)

-- how many parameters a function's row says; the last is dynamic
unfoldable pub parameters_in : List ℕ → ℕ → ℕ
parameters_in code g = kind_in code (function_rows + g)

unfoldable pub body_in : List ℕ → ℕ → ℕ
body_in code g = first_in code (function_rows + g)

unfoldable pub term_count : List ℕ → ℕ
term_count code = get_or code counts_at 0

unfoldable pub function_count : List ℕ → ℕ
function_count code = get_or code (counts_at + 1) 0

----------------------------------------------------------------
-- The program that the rows are

-- the term entry that row `t` says
unfoldable pub entry_in : List ℕ → ℕ → TermEntry
entry_in code t = term_of_kind (kind_in code t) (first_in code t) (second_in code t) (third_in code t) (first_in code t)
    (arguments_in code t 0 (ancillae_in code t)) (argument_in code t (ancillae_in code t))

-- the function entry that the row of function `g` says
unfoldable pub function_in : List ℕ → ℕ → FunctionEntry
function_in code g = record {
  result = second_in code (function_rows + g);
  ancillae = arguments_in code (function_rows + g) 0 (min room_for (parameters_in code g - 1));
  dynamic = argument_in code (function_rows + g) (min room_for (parameters_in code g - 1));
  body = body_in code g;
}

-- what `f` says of `n` numbers, from `i` on
unfoldable pub listed : {A : Type 0} → (ℕ → A) → ℕ → ℕ → List A
listed f i zero = []
listed f i (suc n) = f i ∷ listed f (i + 1) n

unfoldable pub terms_in : List ℕ → List TermEntry
terms_in code = listed (entry_in code) 0 (term_count code)

unfoldable pub functions_in : List ℕ → List FunctionEntry
functions_in code = listed (function_in code) 0 (function_count code)

-- the tree of term `t`, and the program, whatever the type entries are: a run looks at no type
abbrev pub tree_in : List ℕ → List TypeEntry → ℕ → Term
tree_in code ys t = term_of ys (terms_in code) t

abbrev pub program_in : List ℕ → List TypeEntry → Program
program_in code ys = program_of (record { types = ys; terms = terms_in code; functions = functions_in code })

-- Is the variable named in the tree, as a use or inside an ancilla argument? (02, F-3)
abbrev pub named : ℕ → Term → Bool
named i e = not (within (λ j. not (eqb i j)) e)

----------------------------------------------------------------
-- Rows of an accepted program

-- A term names lower terms and functions that are there, by a kind of section 1; a call has as many ancilla terms as a row has room for; a
-- function's body is a term that is there; a variable's number is one that a set has room for, and the row of a case has the set of the
-- variables that its scrutinee names.
pub record Rows (code : List ℕ) : Type 0 where
  pub few_terms : term_count code ≤ max_terms
  pub few_functions : function_count code ≤ max_functions
  pub known : (t : ℕ) → t < term_count code → kind_in code t < term_kinds
  pub few : (t : ℕ) → t < term_count code → kind_in code t ≡ call_kind → third_in code t ≤ room_for
  pub lower : (t : ℕ) → t < term_count code → below t (terms_of_term (entry_in code t)) ≡ true
  pub called : (t : ℕ) → t < term_count code → below (function_count code) (functions_of_term (entry_in code t)) ≡ true
  pub bodies : (g : ℕ) → g < function_count code → body_in code g < term_count code
  pub variables : (t : ℕ) → t < term_count code → kind_in code t ≡ variable_kind → first_in code t < max_variables
  pub names : (t : ℕ) → t < term_count code → kind_in code t ≡ case_kind → Holds (names_in code t) (λ i. named i (tree_in code [] (first_in code t)))
