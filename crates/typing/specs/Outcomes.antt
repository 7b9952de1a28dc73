-- What an outcome of typing in code means: an answer of rules/specs/Check, with document 01's numbers of refusals (section 4).
use Rattle.std.specs.Prelude.{ℕ, List, Result, Ok, Err}
use package.Rattle.rules.specs.Ty.{Ty}
use package.Rattle.rules.specs.Check.{term, Checked, good, bad}
use package.Rattle.types.specs.declared.codes.Code.{Code}
use package.Rattle.types.specs.Codes.{tree_in}
use Rattle.typing.specs.declared.outcomes.Found.{Found}
use Rattle.typing.specs.declared.outcomes.Fault.{Fault}
use Rattle.typing.specs.declared.outcomes.Fault.TheVariants.{Differ, Unscoped, Misused}

-- what typing a term answers: a type and its uses, or a refusal
abbrev pub Status : Type 0
Status = Result Found Fault

-- the same, with how many product nodes there are then
pub record Out : Type 0 where
  pub status : Status
  pub top : ℕ

-- the number of a refusal, and its place
unfoldable pub fault_of : {A : Type 0} → Fault → Checked A
fault_of (Differ t) = bad 6 (term t)
fault_of (Unscoped t) = bad 7 (term t)
fault_of (Misused t) = bad 8 (term t)

-- a status, `T` being the trees of codes
unfoldable pub status_of : (Code → Ty) → Status → Checked Ty
unfolding fault_of
status_of T (Ok f) = good (T f.code)
status_of T (Err why) = fault_of why

abbrev pub meaning : List ℕ → List ℕ → List ℕ → Out → Checked Ty
meaning p types heap out = status_of (tree_in p types heap) out.status

-- of ancilla arguments, whose types are not asked for
unfoldable pub done_of : Result (Unit {0}) Fault → Checked (Unit {0})
unfolding fault_of
done_of (Ok done) = good tt
done_of (Err why) = fault_of why
