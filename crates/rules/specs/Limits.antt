-- Every limit of document 01 by its name; the code's constants of the same names are in src/lib.rt. Definitions and theorems take a limit as a
-- parameter, or name it from here. Counts of entries and variables are reckoned with in many places and unfold everywhere; a proof that needs
-- the number of another limit says so (`unfolding`).
use Rattle.std.specs.Prelude.{ℕ, Bool, leb}
use package.Rattle.rules.specs.Val.{Val, size}

----------------------------------------------------------------
-- Programs (section 1)

abbrev pub max_types : ℕ
max_types = 256

abbrev pub max_terms : ℕ
max_terms = 1024

abbrev pub max_functions : ℕ
max_functions = 64

unfoldable pub max_program_bytes : ℕ
max_program_bytes = 32768

unfoldable pub max_parameters : ℕ
max_parameters = 8

-- variables in scope at one point
abbrev pub max_variables : ℕ
max_variables = 32

-- nodes of a type that a term or function names, or that typing gives a term
abbrev pub max_nodes : ℕ
max_nodes = 1024

----------------------------------------------------------------
-- Values (section 1)

unfoldable pub max_value_bytes : ℕ
max_value_bytes = 1024

-- ancillae of one call, together
unfoldable pub max_ancilla_bytes : ℕ
max_ancilla_bytes = 1024

-- Is the value within the limit on values?
unfoldable pub fits : Val → Bool
fits v = leb (size v) max_value_bytes

----------------------------------------------------------------
-- Runs (section 2)

unfoldable pub max_height : ℕ
max_height = 1024

unfoldable pub max_fuel : ℕ
max_fuel = 65535

-- the workspace needs the base and so many bytes for each unit of fuel
unfoldable pub workspace_base : ℕ
workspace_base = 32768

unfoldable pub workspace_per_fuel : ℕ
workspace_per_fuel = 32

----------------------------------------------------------------
-- Journals (section 5)

-- standing conversions
unfoldable pub max_conversions : ℕ
max_conversions = 64
