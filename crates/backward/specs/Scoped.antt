-- What backward evaluation asks of a term's variables, so that a view of slots holds them (scopes/specs/Bindings): every variable that
-- it names is in scope, every binder has room, and every call has as many arguments as its function has parameters. It holds of typed terms:
-- proofs/Accepted.
use Rattle.std.specs.Prelude.{ℕ, ◌+◌, ◌≤◌, ◌<◌, ◌≡◌, List, []}
use package.Rattle.rules.specs.Limits.{max_variables}
use package.Rattle.rules.specs.Term.{Term, var, tunit, tinl, tinr, tpair, tlet, tletp, tcase, tcall, troll, tunroll, count}
use package.Rattle.decoded.specs.Rows.{parameters_in, body_in, function_count, tree_in}

-- `n` variables are in scope, and function `g` has `arity g` parameters. (Ancilla terms run forward, and there nothing is asked.)
unfoldable pub Scoped : (ℕ → ℕ) → ℕ → Term → Type 0
Scoped arity n (var k i) = i < n
Scoped arity n (tunit k) = Unit {0}
Scoped arity n (tinl k c e) = Scoped arity n e
Scoped arity n (tinr k c e) = Scoped arity n e
Scoped arity n (tpair k e e') = Scoped arity n e × Scoped arity n e'
Scoped arity n (tlet k e b) = (n < max_variables) × Scoped arity n e × Scoped arity (n + 1) b
Scoped arity n (tletp k e b) = (n + 1 < max_variables) × Scoped arity n e × Scoped arity (n + 1 + 1) b
Scoped arity n (tcase k e b b') = (n < max_variables) × Scoped arity n e × Scoped arity (n + 1) b × Scoped arity (n + 1) b'
Scoped arity n (tcall k g ts e) = (count ts + 1 ≡ arity g) × Scoped arity n e
Scoped arity n (troll k c e) = Scoped arity n e
Scoped arity n (tunroll k c e) = Scoped arity n e

-- the term of row `t`, with `n` variables in scope
abbrev pub ScopedAt : List ℕ → ℕ → ℕ → Type 0
ScopedAt code n t = Scoped (parameters_in code) n (tree_in code [] t)

-- the body of every function, its parameters in scope, which are as many as a state holds
pub record Bodies (code : List ℕ) : Type 0 where
  pub few : (g : ℕ) → g < function_count code → parameters_in code g ≤ max_variables
  pub scoped : (g : ℕ) → g < function_count code → ScopedAt code (parameters_in code g) (body_in code g)
