-- Contexts (rules/specs/Typing) as the checker holds them: `T` gives the type of a variable; the first `q` variables are ancilla
-- parameters; those from `q` on and below `lo` are barred, being dynamic and bound outside the ancilla argument at hand; the others are
-- dynamic. `M` are the marked ones of these. Laws: proofs/Contexts.
use Rattle.std.specs.Prelude.{ℕ, zero, suc, Bool, true, false, [], ◌∷◌, ltb}
use Rattle.std.proofs.Math.Option.{none, some}
use package.Rattle.rules.specs.Ty.{Ty}
use package.Rattle.rules.specs.Term.{Term, look, used_in}
use package.Rattle.rules.specs.Typing.{Binding, static, dynamic, barred, Context, Vars}
use package.Rattle.rules.specs.Check.{must_use}
use package.Rattle.varsets.specs.declared.Uses.{Uses}
use package.Rattle.varsets.specs.Sets.{Holds}

-- how variable `i` stands
unfoldable pub standing : ℕ → ℕ → Vars → ℕ → Ty → Binding
standing q lo M i τ = elim (ltb i q) [ true ↦ static τ | false ↦ elim (ltb i lo) [ true ↦ barred (M i) τ | false ↦ dynamic (M i) τ ] ]

-- the context of `n` variables, the newest first
unfoldable pub context_at : (ℕ → Ty) → ℕ → ℕ → Vars → ℕ → Context
unfolding standing
context_at T q lo M zero = []
context_at T q lo M (suc n) = standing q lo M n (T n) ∷ context_at T q lo M n

-- the set holds the variables that the term uses
abbrev pub UsedBy : Uses → Term → Type 0
UsedBy u t = Holds u (λ i. used_in i t)

-- must variable `i` of the context be used?
unfoldable pub must_use_at : Context → ℕ → Bool
must_use_at Δ i = elim (look Δ i) [ none ↦ false | some x ↦ must_use x ]

-- the set holds the variables that must be used
abbrev pub Owed : Uses → Context → Type 0
Owed u Δ = Holds u (must_use_at Δ)
