-- Namings that wait (02, F-2; rules/specs/Check, `waits`) as the checker holds them: in a scope's lent bytes, behind the types of the
-- variables. First stands how many there are, two bytes, then four bytes each: the variable, and the entry of the term that names it. A
-- naming that a let helped stays in its place and has no variable. Laws: proofs/Waiting.
use Rattle.std.specs.Prelude.{Option, Some, None, ℕ, zero, suc, ◌+◌, ◌*◌, ◌-◌, ◌≤◌, ◌<◌, ◌≡◌, ◌&&◌, cond, List, [], ◌∷◌, length, get_or, eqb, leb, ltb}
use package.Rattle.octets.specs.Numbers.{get16}
use package.Rattle.rules.specs.Limits.{max_terms, max_variables}
use package.Rattle.rules.specs.Typing.{Vars}
use package.Rattle.rules.specs.Check.{Naming, term, Checked, good, bad, late}
use package.Rattle.varsets.specs.declared.Uses.{Uses}
use package.Rattle.varsets.specs.Sets.{has}
use Rattle.typing.specs.declared.outcomes.Scope.{Scope}

----------------------------------------------------------------
-- Lent bytes

-- each variable has the code of its type
abbrev pub variable_bytes : ℕ
variable_bytes = 6

abbrev pub count_at : ℕ
count_at = variable_bytes * max_variables

abbrev pub naming_bytes : ℕ
naming_bytes = 4

-- where naming `j` begins
abbrev pub cell_at : ℕ → ℕ
cell_at j = count_at + 2 + naming_bytes * j

-- all of them: no more namings than terms
abbrev pub scope_bytes : ℕ
scope_bytes = count_at + 2 + naming_bytes * max_terms

abbrev pub count_in : List ℕ → ℕ
count_in vars = get16 vars count_at

abbrev pub no_variable : ℕ
no_variable = 65535

abbrev pub naming_in : List ℕ → ℕ → Naming
naming_in vars j = record { variable = get16 vars (cell_at j); place = get16 vars (cell_at j + 2) }

-- `n` namings from number `j` on, without those that a let helped
unfoldable pub namings : List ℕ → ℕ → ℕ → List Naming
namings vars j zero = []
namings vars j (suc n) = cond (eqb (naming_in vars j).variable no_variable) (namings vars (suc j) n) (naming_in vars j ∷ namings vars (suc j) n)

-- the namings that came to wait
abbrev pub added : List ℕ → List ℕ → List Naming
added vars vars' = namings vars' (count_in vars) (count_in vars' - count_in vars)

-- At most `size` namings came to wait, and older ones are as they were.
pub record Waited (size : ℕ) (vars vars' : List ℕ) : Type 0 where
  pub grows : count_in vars ≤ count_in vars'
  pub few : count_in vars' ≤ count_in vars + size
  pub older : (j : ℕ) → cell_at 0 ≤ j → j < cell_at (count_in vars) → get_or vars j 0 ≡ get_or vars' j 0

-- the types of variables and the lengths are as they were, but for that one naming waits more
pub record Waits (vars vars' : List ℕ) (i t : ℕ) : Type 0 where
  pub waited : Waited 1 vars vars'
  pub new : added vars vars' ≡ record { variable = i; place = t } ∷ []
  pub below : (j : ℕ) → j < count_at → get_or vars j 0 ≡ get_or vars' j 0
  pub lengths : length vars ≡ length vars'

----------------------------------------------------------------
-- The lowest of the places for 8

-- one place more
unfoldable pub met : Option ℕ → ℕ → Option ℕ
met None k = Some k
met (Some l) k = Some (cond (leb k l) k l)

-- all of a list
unfoldable pub lower : Option ℕ → List ℕ → Option ℕ
lower l [] = l
lower l (k ∷ ks) = lower (met l k) ks

-- 8 at the place, if there is one
unfoldable pub told_by : Option ℕ → Checked (Unit {0})
told_by None = good tt
told_by (Some l) = bad 8 (term l)

----------------------------------------------------------------
-- After the body of a let

-- the dynamic variables of a scope, and those that a let further out could help
abbrev pub dynamic_in : Scope → Vars
dynamic_in sc i = leb sc.q i && (leb sc.lo i && ltb i sc.n)

abbrev pub marked_in : Scope → Vars
marked_in sc i = leb sc.q i && (ltb i sc.n && has sc.marks i)

-- those whose namings a let helps, whose body uses `u`
abbrev pub helps_in : Scope → Uses → Vars
helps_in sc u i = dynamic_in sc i && has u i

-- a naming once it is settled: one that is helped has no variable
abbrev pub settled_one : Vars → Naming → Naming
settled_one H x = record { variable = cond (H x.variable) no_variable x.variable; place = x.place }

-- The namings from number `from` on and below `to` are settled, with what the let helps, `H`; all else is as it was.
pub record Settled (H : Vars) (vars vars' : List ℕ) (from to : ℕ) : Type 0 where
  pub within : (j : ℕ) → from ≤ j → j < to → naming_in vars' j ≡ settled_one H (naming_in vars j)
  pub low : (j : ℕ) → j < cell_at from → get_or vars j 0 ≡ get_or vars' j 0
  pub high : (j : ℕ) → cell_at to ≤ j → get_or vars j 0 ≡ get_or vars' j 0
  pub lengths : length vars ≡ length vars'

-- The let whose body uses `u`: its bound term's namings are settled, and of the places of those refused and `l` the lowest is told.
pub record Settles (sc : Scope) (u : Uses) (vars vars' : List ℕ) (from to : ℕ) (l r : Option ℕ) : Type 0 where
  pub settled : Settled (helps_in sc u) vars vars' from to
  pub lowest : r ≡ lower l (late (helps_in sc u) (marked_in sc) (namings vars from (to - from)))

-- there is room for namings, and `to` of them
pub record Settleable (sc : Scope) (vars : List ℕ) (from to : ℕ) : Type 0 where
  pub slots : scope_bytes ≤ length vars
  pub few : sc.n ≤ max_variables
  pub order : from ≤ to
  pub there : to ≤ max_terms
