-- What the functions ask for and ensure, over what they read together (Ready, Asked, Checked say each over lists).
use Rattle.std.specs.Prelude.{Bool, ℕ, ◌-◌, List, map, length, Result}
use package.Rattle.rules.specs.Ty.{same_ty}
use package.Rattle.calls.specs.Answer.{Answer}
use package.Rattle.calls.specs.Fields.{parameters_at}
use package.Rattle.calls.specs.Entries.{type_at}
use package.Rattle.program.specs.Signatures.{SignaturesAre}
use package.Rattle.types.specs.declared.codes.Code.{Code}
use package.Rattle.types.specs.Codes.{tree_in, Sources, Known}
use package.Rattle.types.specs.declared.shapes.Shape.{Shape}
use package.Rattle.types.specs.Shapes.{Shaped}
use package.Rattle.types.specs.Counts.{Counted}
use package.Rattle.types.specs.Figures.{Figured}
use package.Rattle.varsets.specs.declared.Uses.{Uses}
use package.Rattle.varsets.specs.Sets.{has}
use package.Rattle.typing.specs.Outcomes.{Status}
use package.Rattle.typing.specs.Ready.{Scoped, Widened, Expects, spent_by, ClosesOne, ClosesTwo, Meets, Paired}
use package.Rattle.typing.specs.Asked.{ReadyFor, ReadyAt, ReadyInject, ReadyBranches, ReadyArguments, Infers, InfersBranches, InfersArguments}
use package.Rattle.typing.specs.Checked.{Typeable, Signed, Bound, Started, end_answer, function_answer, typing_answer}
use Rattle.typing.specs.declared.outcomes.Scope.{Scope}
use Rattle.typing.specs.declared.outcomes.Found.{Found}
use Rattle.typing.specs.declared.outcomes.Fault.{Fault}
use Rattle.typing.specs.declared.subject.Subject.{Subject}
use Rattle.typing.specs.declared.tests.Let.{Let}

----------------------------------------------------------------
-- What is read

abbrev pub SourcedBy : Subject → List ℕ → ℕ → Type 0
SourcedBy x heap top = Sources x.entries.program.now x.entries.types.now heap top

abbrev pub KnownBy : Subject → ℕ → Code → Type 0
KnownBy x top c = Known (length x.entries.types.now) top c

abbrev pub CountedBy : Subject → Type 0
CountedBy x = Counted x.entries.program.now x.entries.types.now x.nodes.now

abbrev pub SignedBy : Subject → Type 0
SignedBy x = SignaturesAre x.entries.program.now x.entries.functions.now x.entries.table.now

abbrev pub FiguredBy : Subject → List ℕ → Type 0
FiguredBy x heap = Figured (map (type_at x.entries.program.now) x.entries.types.now) heap (length x.entries.types.now)

abbrev pub TypeableBy : Subject → List ℕ → Type 0
TypeableBy x heap = Typeable x.entries.program.now x.entries.types.now x.entries.terms.now x.entries.functions.now x.nodes.now heap

abbrev pub ScopedBy : Subject → (heap vars : List ℕ) → Scope → ℕ → Type 0
ScopedBy x heap vars sc top = Scoped x.entries.program.now x.entries.types.now heap vars sc top

----------------------------------------------------------------
-- Terms

abbrev pub ReadyBy : Subject → (heap vars : List ℕ) → Scope → (top t : ℕ) → Type 0
ReadyBy x heap vars sc top t = ReadyFor x.entries.program.now x.entries.types.now x.entries.terms.now x.entries.functions.now x.entries.table.now
    x.nodes.now heap vars sc top t

abbrev pub ReadyAtBy : Subject → (heap vars : List ℕ) → Scope → (top t at kind : ℕ) → Type 0
ReadyAtBy x heap vars sc top t at kind = ReadyAt x.entries.program.now x.entries.types.now x.entries.terms.now x.entries.functions.now
    x.entries.table.now x.nodes.now heap vars sc top t at kind

abbrev pub ReadyInjectBy : Subject → (heap vars : List ℕ) → Scope → (top t at : ℕ) → Type 0
ReadyInjectBy x heap vars sc top t at = ReadyInject x.entries.program.now x.entries.types.now x.entries.terms.now x.entries.functions.now
    x.entries.table.now x.nodes.now heap vars sc top t at

abbrev pub ReadyBranchesBy : Subject → (heap vars : List ℕ) → Scope → (top t at : ℕ) → Uses → Code → Code → Type 0
ReadyBranchesBy x heap vars sc top t at u c d = ReadyBranches x.entries.program.now x.entries.types.now x.entries.terms.now
    x.entries.functions.now x.entries.table.now x.nodes.now heap vars sc top t at u c d

abbrev pub ReadyArgumentsBy : Subject → (heap vars : List ℕ) → Scope → (top t at g k count : ℕ) → Type 0
ReadyArgumentsBy x heap vars sc top t at g k count = ReadyArguments x.entries.program.now x.entries.types.now x.entries.terms.now
    x.entries.functions.now x.entries.table.now x.nodes.now heap vars sc top t at g k count

abbrev pub InfersBy : Subject → (heap heap' vars vars' : List ℕ) → Scope → (top top' t : ℕ) → Status → Type 0
InfersBy x heap heap' vars vars' sc top top' t r = Infers x.entries.program.now x.entries.types.now x.entries.terms.now x.entries.functions.now
    heap heap' vars vars' sc top t (record { status = r; top = top' })

abbrev pub InfersBranchesBy : Subject → (heap heap' vars vars' : List ℕ) → Scope → (top top' t at : ℕ) → Code → Code → Status → Type 0
InfersBranchesBy x heap heap' vars vars' sc top top' t at c d r = InfersBranches x.entries.program.now x.entries.types.now x.entries.terms.now
    x.entries.functions.now heap heap' vars vars' sc top t at c d (record { status = r; top = top' })

abbrev pub InfersArgumentsBy : Subject → (heap heap' vars vars' : List ℕ) → Scope → (top top' t at g k count : ℕ) → Result (Unit {0}) Fault → Type 0
InfersArgumentsBy x heap heap' vars vars' sc top top' t at g k count r = InfersArguments x.entries.program.now x.entries.types.now
    x.entries.terms.now x.entries.functions.now heap heap' vars vars' sc top top' t at g k count r

----------------------------------------------------------------
-- Single tests

abbrev pub WidenedBy : Subject → (heap vars vars' : List ℕ) → Scope → ℕ → Code → Scope → Type 0
WidenedBy x heap vars vars' sc top c r = Widened x.entries.program.now x.entries.types.now heap vars vars' sc top c r

abbrev pub ShapedBy : Subject → List ℕ → ℕ → Code → Shape → Type 0
ShapedBy x heap top c s = Shaped x.entries.program.now x.entries.types.now heap top c s

abbrev pub same_in : Subject → List ℕ → Code → Code → Bool
same_in x heap c d = same_ty (tree_in x.entries.program.now x.entries.types.now heap c) (tree_in x.entries.program.now x.entries.types.now heap d)

abbrev pub ExpectsBy : Subject → List ℕ → Code → Code → ℕ → Found → Status → Type 0
ExpectsBy x heap want answer t f r = Expects x.entries.program.now x.entries.types.now heap want answer t f r

abbrev pub spent_in : Subject → List ℕ → Code → ℕ → Uses → Bool
spent_in x heap c i u = spent_by x.entries.program.now x.entries.types.now heap c i u

abbrev pub ClosesOneBy : Subject → (heap vars vars' : List ℕ) → Let → Code → Found → Status → Type 0
ClosesOneBy x heap vars vars' l c f r = ClosesOne x.entries.program.now x.entries.types.now heap vars vars' l.sc l.uses c l.t l.from l.to f r

abbrev pub ClosesTwoBy : Subject → (heap vars vars' : List ℕ) → Let → Code → Code → Found → Status → Type 0
ClosesTwoBy x heap vars vars' l c d f r = ClosesTwo x.entries.program.now x.entries.types.now heap vars vars' l.sc l.uses c d l.t l.from l.to f r

abbrev pub MeetsBy : Subject → List ℕ → Found → Uses → ℕ → Code → Uses → ℕ → Found → Status → Type 0
MeetsBy x heap l u i d owed t f r = Meets x.entries.program.now x.entries.types.now heap l u i d owed t f r

abbrev pub PairedBy : Subject → (heap heap' : List ℕ) → (l f : Found) → (top top' t : ℕ) → Status → Type 0
PairedBy x heap heap' l f top top' t r = Paired x.entries.program.now x.entries.types.now heap heap' l f top t (record { status = r; top = top' })

----------------------------------------------------------------
-- Functions

abbrev pub RowBy : Subject → ℕ → List ℕ → Type 0
RowBy x at row = Signed x.entries.program.now x.entries.types.now at row

abbrev pub BoundBy : Subject → (heap vars row : List ℕ) → ℕ → Type 0
BoundBy x heap vars row n = Bound x.entries.program.now x.entries.types.now heap vars row n

abbrev pub StartedBy : Subject → (heap vars : List ℕ) → ℕ → Scope → Type 0
StartedBy x heap vars at sc = Started x.entries.program.now x.entries.types.now heap vars at sc

abbrev pub end_by : Subject → List ℕ → ℕ → Found → Answer (Unit {0})
end_by x heap at f = end_answer x.entries.program.now x.entries.types.now at (tree_in x.entries.program.now x.entries.types.now heap f.code)
    (has f.uses (parameters_at x.entries.program.now at - 1))

abbrev pub function_by : Subject → ℕ → Answer (Unit {0})
function_by x g = function_answer x.entries.program.now x.entries.types.now x.entries.terms.now x.entries.functions.now g

abbrev pub typing_by : Subject → Answer (Unit {0})
typing_by x = typing_answer x.entries.program.now x.entries.types.now x.entries.terms.now x.entries.functions.now
