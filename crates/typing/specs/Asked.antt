-- What each function that types a term asks for, one record a function, and what it ensures, one definition a function: over what a term
-- asks and ensures (Ready), the table of signatures, and where the term stands.
use Rattle.std.specs.Prelude.{Result, ℕ, ◌+◌, ◌≤◌, ◌<◌, false, List, ◌∷◌, ◌++◌, length, get_or}
use package.Rattle.rules.specs.Limits.{max_variables}
use package.Rattle.rules.specs.Ty.{Ty}
use package.Rattle.rules.specs.Term.{Term}
use package.Rattle.rules.specs.Typing.{dynamic, Context}
use package.Rattle.rules.specs.Check.{Naming, waits_in}
use package.Rattle.calls.specs.Fields.{kind_at}
use package.Rattle.program.specs.Parts.{first, second, third}
use package.Rattle.program.specs.Signatures.{SignaturesAre}
use package.Rattle.program.specs.Kinds.{inl_kind, inr_kind, case_kind}
use package.Rattle.types.specs.declared.codes.Code.{Code}
use package.Rattle.types.specs.Codes.{tree_in, Known}
use package.Rattle.varsets.specs.declared.Uses.{Uses}
use package.Rattle.typing.specs.Contexts.{UsedBy}
use package.Rattle.typing.specs.Sizes.{terms_in, terms_in_all}
use package.Rattle.typing.specs.Outcomes.{Out}
use package.Rattle.typing.specs.Ready.{term_in, context_in, type_in, branches_of, terms_from, Ready, Here, Inferred, Calls, Argued}
use Rattle.typing.specs.declared.outcomes.Scope.{Scope}
use Rattle.typing.specs.declared.outcomes.Fault.{Fault}

----------------------------------------------------------------
-- Before

-- of term `t`
pub record ReadyFor (p types terms functions : List ℕ) (table : List (List ℕ)) (nodes heap vars : List ℕ) (sc : Scope) (top t : ℕ) : Type 0 where
  pub ready : Ready (terms_in (term_in p types terms t)) p types terms functions nodes heap vars sc top
  pub signed : SignaturesAre p functions table
  pub there : t < length terms

-- of term `t`, whose field is at `at`, and which is of this kind
pub record ReadyAt (p types terms functions : List ℕ) (table : List (List ℕ)) (nodes heap vars : List ℕ) (sc : Scope)
    (top t at kind : ℕ) : Type 0 where
  pub ready : Ready (terms_in (term_in p types terms t)) p types terms functions nodes heap vars sc top
  pub signed : SignaturesAre p functions table
  pub here : Here p terms t at kind

-- of term `t`, which is an inl or an inr
pub record ReadyInject (p types terms functions : List ℕ) (table : List (List ℕ)) (nodes heap vars : List ℕ) (sc : Scope)
    (top t at : ℕ) : Type 0 where
  pub ready : Ready (terms_in (term_in p types terms t)) p types terms functions nodes heap vars sc top
  pub signed : SignaturesAre p functions table
  pub here : Here p terms t at (kind_at p at)
  pub least : inl_kind ≤ kind_at p at
  pub most : kind_at p at ≤ inr_kind

-- of the branches of case `t`, which bind variables of the types of `c` and `d`; the scrutinee has the uses `uses`
pub record ReadyBranches (p types terms functions : List ℕ) (table : List (List ℕ)) (nodes heap vars : List ℕ) (sc : Scope)
    (top t at : ℕ) (uses : Uses) (c d : Code) : Type 0 where
  pub ready : Ready (terms_in (term_in p types terms (second p at)) + terms_in (term_in p types terms (third p at)))
      p types terms functions nodes heap vars sc top
  pub signed : SignaturesAre p functions table
  pub here : Here p terms t at case_kind
  pub free : sc.n < max_variables
  pub left : Known (length types) top c
  pub right : Known (length types) top d
  pub used : UsedBy uses (term_in p types terms (first p at))

-- of the ancilla arguments of call `t`, of function `g`, from number `k` of `count` on
pub record ReadyArguments (p types terms functions : List ℕ) (table : List (List ℕ)) (nodes heap vars : List ℕ) (sc : Scope)
    (top t at g k count : ℕ) : Type 0 where
  pub ready : Ready (terms_in_all (terms_from p types terms at k count)) p types terms functions nodes heap vars sc top
  pub signed : SignaturesAre p functions table
  pub calls : Calls p terms functions t at g k count

----------------------------------------------------------------
-- After

-- The outcome is the rules' answer for term `t`.
abbrev pub Infers : (p types terms functions heap heap' vars vars' : List ℕ) → Scope → (top t : ℕ) → Out → Type 0
Infers p types terms functions heap heap' vars vars' sc top t r =
    Inferred (terms_in (term_in p types terms t)) (term_in p types terms t) (waits_in (context_in p types heap vars sc) (term_in p types terms t))
    p types heap heap' sc.n vars vars' top r (type_in p types terms functions heap vars sc t)

-- the namings that wait in both branches of a case, over the types that they bind
abbrev pub branch_waits : Context → Term → Term → Ty → Ty → List Naming
branch_waits Δ b b' c d = waits_in (dynamic false c ∷ Δ) b ++ waits_in (dynamic false d ∷ Δ) b'

-- the same for the branches of case `t`
abbrev pub InfersBranches : (p types terms functions heap heap' vars vars' : List ℕ) → Scope → (top t at : ℕ) → Code → Code → Out → Type 0
InfersBranches p types terms functions heap heap' vars vars' sc top t at c d r =
    Inferred (terms_in (term_in p types terms (second p at)) + terms_in (term_in p types terms (third p at))) (term_in p types terms t)
    (branch_waits (context_in p types heap vars sc) (term_in p types terms (second p at)) (term_in p types terms (third p at))
    (tree_in p types heap c) (tree_in p types heap d)) p types heap heap' sc.n vars vars' top r
    (branches_of p types terms functions (context_in p types heap vars sc) t (term_in p types terms (second p at))
    (term_in p types terms (third p at)) (tree_in p types heap c) (tree_in p types heap d))

-- the same for ancilla arguments of function `g`
abbrev pub InfersArguments : (p types terms functions heap heap' vars vars' : List ℕ) → Scope → (top top' t at g k count : ℕ)
    → Result (Unit {0}) Fault → Type 0
InfersArguments p types terms functions heap heap' vars vars' sc top top' t at g k count r =
    Argued p types terms functions heap heap' vars vars' sc top top' t at (get_or functions g 0) k count r
