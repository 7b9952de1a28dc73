-- What finding the variables that terms name asks for, and what it does (02, F-3). Laws: proofs/Named, proofs/Sets.
use Rattle.std.specs.Prelude.{ℕ, zero, suc, ◌+◌, ◌*◌, ◌≤◌, ◌<◌, ◌≡◌, ◌⊎◌, Bool, true, false, ◌||◌, List, [], ◌∷◌, ◌++◌, length, get_or, eqb}
use package.Rattle.rules.specs.Term.{Term}
use package.Rattle.rules.specs.Limits.{max_variables}
use package.Rattle.calls.specs.Entries.{TermEntry, n_var, n_unit, n_inl, n_inr, n_roll, n_unroll, n_pair, n_let, n_letp, n_case, n_call, term_of}
use package.Rattle.calls.specs.Named.{terms_of_term, below}
use package.Rattle.program.specs.Kinds.{variable_kind, case_kind, call_kind, term_kinds}
use package.Rattle.varsets.specs.declared.Uses.{Uses}
use package.Rattle.varsets.specs.Sets.{has, Holds}
use package.Rattle.decoded.specs.Rows.{row_numbers, row_heads, room_for, kind_in, first_in, third_in, entry_in, listed, names_in, named}

----------------------------------------------------------------
-- A table of sets, one for each term

unfoldable pub set_in : List ℕ → ℕ → Uses
set_in sets t = record { bits = get_or sets t 0 }

-- Does term `t` name variable `i`, by its set?
abbrev pub has_set : List ℕ → ℕ → ℕ → Bool
has_set sets t i = has (set_in sets t) i

-- `n` numbers of an array, from number `i` on
unfoldable pub numbers_from : List ℕ → ℕ → ℕ → List ℕ
numbers_from code i zero = []
numbers_from code i (suc n) = get_or code i 0 ∷ numbers_from code (i + 1) n

-- Does one of the terms name the variable, where `S` says which each of them names?
unfoldable pub any_of : (ℕ → ℕ → Bool) → List ℕ → ℕ → Bool
any_of S [] i = false
any_of S (t ∷ ts) i = S t i || any_of S ts i

-- Does a term entry name the variable: itself, or in one of its terms, a call's ancilla terms among them?
unfoldable pub named_by : (ℕ → ℕ → Bool) → TermEntry → ℕ → Bool
unfolding any_of
named_by S (n_var j) i = eqb i j
named_by S n_unit i = false
named_by S (n_inl c e) i = any_of S (e ∷ []) i
named_by S (n_inr c e) i = any_of S (e ∷ []) i
named_by S (n_roll c e) i = any_of S (e ∷ []) i
named_by S (n_unroll c e) i = any_of S (e ∷ []) i
named_by S (n_pair e e') i = any_of S (e ∷ e' ∷ []) i
named_by S (n_let e b) i = any_of S (e ∷ b ∷ []) i
named_by S (n_letp e b) i = any_of S (e ∷ b ∷ []) i
named_by S (n_case e b b') i = any_of S (e ∷ b ∷ b' ∷ []) i
named_by S (n_call g ts e) i = any_of S (ts ++ (e ∷ [])) i

----------------------------------------------------------------
-- Rows

-- what is asked of row `t`
pub record RowAsked (code : List ℕ) (t : ℕ) : Type 0 where
  pub known : kind_in code t < term_kinds
  pub variables : kind_in code t ≡ variable_kind → first_in code t < max_variables
  pub few : kind_in code t ≡ call_kind → third_in code t ≤ room_for
  pub lower : below t (terms_of_term (entry_in code t)) ≡ true

-- the row of a case has the set of its scrutinee, and all other numbers are as they were
pub record ScrutineePut (code code' sets : List ℕ) (t : ℕ) : Type 0 where
  pub lengths : length code' ≡ length code
  pub names : kind_in code t ≡ case_kind → names_in code' t ≡ set_in sets (first_in code t)
  pub others : (j : ℕ) → (j < row_numbers * t + row_heads) ⊎ (row_numbers * t + row_heads + 2 ≤ j) → get_or code' j 0 ≡ get_or code j 0
  pub unless : ¬ (kind_in code t ≡ case_kind) → code' ≡ code

-- row `t` is as it was, of a case its first four numbers
pub record RowKept (code code' : List ℕ) (t : ℕ) : Type 0 where
  pub head : (j : ℕ) → j < row_heads → get_or code' (row_numbers * t + j) 0 ≡ get_or code (row_numbers * t + j) 0
  pub rest : ¬ (kind_in code t ≡ case_kind) → (j : ℕ) → j < row_numbers → get_or code' (row_numbers * t + j) 0 ≡ get_or code (row_numbers * t + j) 0

-- the tree of term `t`, of `n` rows
abbrev pub tree_of : List ℕ → ℕ → ℕ → Term
tree_of code n t = term_of [] (listed (entry_in code) 0 n) t

-- of `n` rows, the first `m` have their sets
pub record RowsNamed (code code' : List ℕ) (n m : ℕ) : Type 0 where
  pub lengths : length code' ≡ length code
  pub kept : (t : ℕ) → t < n → RowKept code code' t
  pub names : (t : ℕ) → t < m → kind_in code t ≡ case_kind → Holds (names_in code' t) (λ i. named i (tree_of code n (first_in code t)))
