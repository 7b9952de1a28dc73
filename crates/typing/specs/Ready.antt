-- What typing a term in code asks for, and what it ensures. Types stand as codes: of product nodes in the bytes `heap`, of the variables in
-- scope in the bytes `vars`, six bytes each, with the namings that wait behind them (Waiting). Laws: proofs/Answers.
use Rattle.std.specs.Prelude.{Option, Some, None, Result, Ok, Err, ℕ, ◌+◌, ◌*◌, ◌-◌, ◌≤◌, ◌<◌, ◌≡◌, Bool, true, false, cond, ◌&&◌, ◌||◌, List, ◌∷◌}
use Rattle.std.specs.Prelude.{map, length, get_or}
use package.Rattle.rules.specs.Limits.{max_terms, max_variables, max_nodes}
use package.Rattle.rules.specs.Ty.{Ty, is_unit, same_ty}
use package.Rattle.rules.specs.Term.{Term, Terms, var, look}
use package.Rattle.rules.specs.Typing.{dynamic, Context}
use package.Rattle.rules.specs.Check.{Naming, term, Checked, good, ◌>>=◌, ◌>>◌, need, visible, spent, same_use, waits, waits_in_all, infer, infer_arguments}
use package.Rattle.calls.specs.Fields.{kind_at, length_at, parameters_at}
use package.Rattle.calls.specs.Entries.{type_at, type_of, term_at, term_of, term_trees, call_ancillae, references, entries_at}
use package.Rattle.calls.specs.Tested.{Good}
use package.Rattle.program.specs.Parts.{Formed, first}
use package.Rattle.program.specs.Places.{places_of}
use package.Rattle.program.specs.Programs.{program_in}
use package.Rattle.program.specs.Kinds.{call_kind}
use package.Rattle.types.specs.declared.codes.Code.{Code}
use package.Rattle.types.specs.Codes.{Room, code_at, unit_code, tree_in, Known, Sources}
use package.Rattle.types.specs.declared.products.Pairing.{Pairing}
use package.Rattle.types.specs.Counts.{Counted}
use package.Rattle.types.specs.Growth.{Agree, Made}
use package.Rattle.varsets.specs.declared.Uses.{Uses}
use package.Rattle.varsets.specs.Sets.{Holds, has, nobody, alone, ranged, joined, AgreeOn}
use package.Rattle.typing.specs.Contexts.{context_at, UsedBy, Owed}
use package.Rattle.typing.specs.Waiting.{variable_bytes, scope_bytes, count_at, count_in, added, Waited, dynamic_in, marked_in, Settles}
use package.Rattle.typing.specs.Sizes.{terms_in_all}
use package.Rattle.typing.specs.Outcomes.{Status, Out, status_of, meaning, done_of}
use Rattle.typing.specs.declared.outcomes.Scope.{Scope}
use Rattle.typing.specs.declared.outcomes.Found.{Found}
use Rattle.typing.specs.declared.outcomes.Fault.{Fault}
use Rattle.typing.specs.declared.outcomes.Fault.TheVariants.{Differ, Misused}

----------------------------------------------------------------
-- What is typed

-- the tree of term entry `t`
abbrev pub term_in : List ℕ → List ℕ → List ℕ → ℕ → Term
term_in p types terms t = term_of (map (type_at p) types) (map (term_at p) terms) t

-- the code of variable `i`
abbrev pub variable_at : List ℕ → ℕ → Code
variable_at vars i = code_at vars (variable_bytes * i)

abbrev pub context_in : (p types heap vars : List ℕ) → Scope → Context
context_in p types heap vars sc = context_at (λ i. tree_in p types heap (variable_at vars i)) sc.q sc.lo (has sc.marks) sc.n

-- the rules' answer for a tree, with section 1's limits
abbrev pub typing_of : (p types terms functions : List ℕ) → Context → Term → Checked Ty
typing_of p types terms functions Δ T = infer max_variables max_nodes (program_in p types terms functions) Δ T

-- the same for term entry `t`, in a scope
abbrev pub type_in : (p types terms functions heap vars : List ℕ) → Scope → ℕ → Checked Ty
type_in p types terms functions heap vars sc t = typing_of p types terms functions (context_in p types heap vars sc) (term_in p types terms t)

----------------------------------------------------------------
-- Before

-- The fields are read and the entries tested (sections 1 and 4), and the nodes of the type entries counted.
pub record Entered (p types terms functions nodes : List ℕ) : Type 0 where
  pub formed : Formed p (places_of types terms functions)
  pub tested : Good (entries_at p (places_of types terms functions))
  pub counted : Counted p types nodes

-- Every variable in scope has a type, and the scope's sets have those that must be used, and marked ones.
pub record Scoped (p types heap vars : List ℕ) (sc : Scope) (top : ℕ) : Type 0 where
  pub sources : Sources p types heap top
  pub slots : scope_bytes ≤ length vars
  pub static : sc.q ≤ sc.n
  pub low : sc.lo ≤ sc.n
  pub few : sc.n ≤ max_variables
  pub known : (i : ℕ) → i < sc.n → Known (length types) top (variable_at vars i)
  pub owed : Owed sc.owed (context_in p types heap vars sc)
  pub unmarked : (i : ℕ) → sc.n ≤ i → i < max_variables → has sc.marks i ≡ false

-- A term can be typed in the scope: there is room for `size` product nodes more, and for as many namings.
pub record Ready (size : ℕ) (p types terms functions nodes heap vars : List ℕ) (sc : Scope) (top : ℕ) : Type 0 where
  pub entries : Entered p types terms functions nodes
  pub scoped : Scoped p types heap vars sc top
  pub room : Room heap max_terms
  pub small : top + size ≤ max_terms
  pub waiting : count_in vars + size ≤ max_terms

-- term `t` has its field at `at`, and is of this kind
pub record Here (p terms : List ℕ) (t at kind : ℕ) : Type 0 where
  pub there : t < length terms
  pub place : at ≡ get_or terms t 0
  pub form : kind_at p at ≡ kind

----------------------------------------------------------------
-- After

-- At most `size` product nodes were made, and so many namings came to wait; older ones and the types of the first `m` variables are as they
-- were.
pub record Kept (size : ℕ) (p types heap heap' : List ℕ) (m : ℕ) (vars vars' : List ℕ) (top top' : ℕ) : Type 0 where
  pub agree : Agree top heap heap'
  pub sources : Sources p types heap' top'
  pub grows : top ≤ top'
  pub few : top' ≤ top + size
  pub below : (j : ℕ) → j < variable_bytes * m → get_or vars j 0 ≡ get_or vars' j 0
  pub lengths : length vars ≡ length vars'
  pub waited : Waited size vars vars'

-- The outcome means `res`; if it is a type, its code is known, its uses are the variables that the term `T` uses, and the namings `W` came
-- to wait.
pub record Inferred (size : ℕ) (T : Term) (W : List Naming) (p types heap heap' : List ℕ) (m : ℕ)
    (vars vars' : List ℕ) (top : ℕ) (out : Out) (res : Checked Ty) : Type 0 where
  pub kept : Kept size p types heap heap' m vars vars' top out.top
  pub known : (f : Found) → out.status ≡ Ok f → Known (length types) out.top f.code
  pub uses : (f : Found) → out.status ≡ Ok f → UsedBy f.uses T
  pub waits : (f : Found) → out.status ≡ Ok f → added vars vars' ≡ W
  pub answer : meaning p types heap' out ≡ res

----------------------------------------------------------------
-- Parts of the rules

-- a part's type has to be `c`, and the term's type is `τ` (section 4: 6 at term `t`)
abbrev pub demanded : Checked Ty → Ty → Ty → ℕ → Checked Ty
demanded part c τ t = do
  d ← part
  need (same_ty d c) 6 (term t)
  good τ

-- the branches of case `t`, over the types that they bind
abbrev pub branches_of : (p types terms functions : List ℕ) → Context → ℕ → Term → Term → Ty → Ty → Checked Ty
branches_of p types terms functions Δ t b b' c d = do
  τ ← typing_of p types terms functions (dynamic false c ∷ Δ) b
  need (spent (length Δ) c b) 8 (term t)
  τ' ← typing_of p types terms functions (dynamic false d ∷ Δ) b'
  need (same_ty τ τ') 6 (term t)
  need (spent (length Δ) d b' && same_use Δ b b') 8 (term t)
  good τ

-- the ancilla terms of the call whose field is at `at`, from number `k` of `count` on, and the types of the parameters from there on of
-- the function whose field is at `h`
abbrev pub terms_from : (p types terms : List ℕ) → ℕ → ℕ → ℕ → Terms
terms_from p types terms at k count = term_trees (term_in p types terms) (references p (at + 6 + 2 * k) (count - k))

abbrev pub types_from : (p types : List ℕ) → ℕ → ℕ → ℕ → List Ty
types_from p types h k count = map (type_of (map (type_at p) types)) (references p (h + 6 + 2 * k) (count - k))

-- a call of `count` ancilla terms, of which number `k` is next; it names function `g`, which has as many ancilla parameters
pub record Calls (p terms functions : List ℕ) (t at g k count : ℕ) : Type 0 where
  pub here : Here p terms t at call_kind
  pub ancillae : count ≡ call_ancillae (length_at p at)
  pub next : k ≤ count
  pub callee : g ≡ first p at
  pub called : g < length functions
  pub parameters : count + 1 ≡ parameters_at p (get_or functions g 0)

-- The ancilla arguments are typed, or refused as the rules refuse them.
pub record Argued (p types terms functions heap heap' vars vars' : List ℕ) (sc : Scope) (top top' t at h k count : ℕ)
    (r : Result (Unit {0}) Fault) : Type 0 where
  pub kept : Kept (terms_in_all (terms_from p types terms at k count)) p types heap heap' sc.n vars vars' top top'
  pub answer : done_of r
      ≡ infer_arguments max_variables max_nodes (program_in p types terms functions) t (context_in p types heap vars sc)
      (terms_from p types terms at k count) (types_from p types h k count)
  pub waits : r ≡ Ok tt
      → added vars vars' ≡ waits_in_all (context_in p types heap vars sc) (terms_from p types terms at k count)

----------------------------------------------------------------
-- Single tests

-- The code of variable `i`, which is the one use.
pub record Reads (vars : List ℕ) (i : ℕ) (r : Found) : Type 0 where
  pub code : r.code ≡ variable_at vars i
  pub uses : Holds r.uses (alone i)

-- A variable's type, as the context has it (7 and 8), whatever the trees of codes are; a naming that a let could help waits.
pub record Seen (vars vars' : List ℕ) (sc : Scope) (t i : ℕ) (r : Status) : Type 0 where
  pub there : (f : Found) → r ≡ Ok f → i < sc.n
  pub code : (f : Found) → r ≡ Ok f → f.code ≡ variable_at vars i
  pub uses : (f : Found) → r ≡ Ok f → Holds f.uses (alone i)
  pub answer : (T : Code → Ty)
      → status_of T r ≡ visible (term t) (look (context_at (λ j. T (variable_at vars j)) sc.q sc.lo (has sc.marks) sc.n) i)
  pub waits : (f : Found) → r ≡ Ok f → added vars vars' ≡ waits (dynamic_in sc) (marked_in sc) sc.n (var t i)
  pub waited : Waited 1 vars vars'
  pub below : (j : ℕ) → j < count_at → get_or vars j 0 ≡ get_or vars' j 0
  pub lengths : length vars ≡ length vars'

-- The unit type, and no uses.
pub record Bare (r : Found) : Type 0 where
  pub code : r.code ≡ unit_code
  pub uses : Holds r.uses nobody

-- A variable of the code's type is bound; `r` is the scope with it.
pub record Widened (p types heap vars vars' : List ℕ) (sc : Scope) (top : ℕ) (c : Code) (r : Scope) : Type 0 where
  pub scoped : Scoped p types heap vars' r top
  pub one_more : r.n ≡ sc.n + 1
  pub context : context_in p types heap vars' r ≡ dynamic false (tree_in p types heap c) ∷ context_in p types heap vars sc
  pub below : (j : ℕ) → j < variable_bytes * sc.n → get_or vars j 0 ≡ get_or vars' j 0
  pub lengths : length vars ≡ length vars'
  pub waited : Waited 0 vars vars'

-- the scope of the bound term of a let in scope `sc`
pub record MarkedScope (sc r : Scope) : Type 0 where
  pub q : r.q ≡ sc.q
  pub lo : r.lo ≡ sc.lo
  pub n : r.n ≡ sc.n
  pub owed : r.owed ≡ sc.owed
  pub marks : Holds r.marks (joined (has sc.marks) (ranged sc.lo sc.n))

-- the type of `f`, and the uses of both
pub record Joins (f : Found) (u : Uses) (s : Status) : Type 0 where
  pub found : Found
  pub is : s ≡ Ok found
  pub code : found.code ≡ f.code
  pub uses : Holds found.uses (joined (has u) (has f.uses))

-- one of two, by a test
pub record Picks (b : Bool) (Yes No : Status → Type 0) (s : Status) : Type 0 where
  pub yes : b ≡ true → Yes s
  pub no : b ≡ false → No s

abbrev pub Refuses : Fault → Status → Type 0
Refuses w s = s ≡ Err w

-- the type `answer`, if the part's type is `want` (6)
abbrev pub Expects : (p types heap : List ℕ) → Code → Code → ℕ → Found → Status → Type 0
Expects p types heap want answer t f s =
    Picks (same_ty (tree_in p types heap f.code) (tree_in p types heap want)) (λ s. s ≡ Ok (record { code = answer; uses = f.uses })) (Refuses (Differ t)) s

-- variable `i`, of the code's type, is used or may go unused
abbrev pub spent_by : (p types heap : List ℕ) → Code → ℕ → Uses → Bool
spent_by p types heap c i u = is_unit (tree_in p types heap c) || has u i

-- The body of a let in scope `sc` is typed, with `f`; `b` tells whether it uses what the let binds. The namings `from` to `to` are settled, and
-- the answer is the body's type, or 8 at the lowest place.
pub record Closes (vars vars' : List ℕ) (sc : Scope) (u : Uses) (b : Bool) (t from to : ℕ) (f : Found) (s : Status) : Type 0 where
  pub low : Option ℕ
  pub settles : Settles sc f.uses vars vars' from to (cond b None (Some t)) low
  pub yes : low ≡ None → Joins f u s
  pub no : (k : ℕ) → low ≡ Some k → s ≡ Err (Misused k)

abbrev pub ClosesOne : (p types heap vars vars' : List ℕ) → Scope → Uses → Code → (t from to : ℕ) → Found → Status → Type 0
ClosesOne p types heap vars vars' sc u c t from to f s = Closes vars vars' sc u (spent_by p types heap c sc.n f.uses) t from to f s

abbrev pub ClosesTwo : (p types heap vars vars' : List ℕ) → Scope → Uses → Code → Code → (t from to : ℕ) → Found → Status → Type 0
ClosesTwo p types heap vars vars' sc u c d t from to f s =
    Closes vars vars' sc u (spent_by p types heap c sc.n f.uses && spent_by p types heap d (sc.n + 1) f.uses) t from to f s

-- the type of `l`, and the uses of both and of `u`
pub record Unites (l f : Found) (u : Uses) (s : Status) : Type 0 where
  pub found : Found
  pub is : s ≡ Ok found
  pub code : found.code ≡ l.code
  pub uses : Holds found.uses (joined (has u) (joined (has l.uses) (has f.uses)))

-- The left branch has the type and the uses `l`, the right branch those of `f`: the answer of case, whose scrutinee has the uses `u`.
pub record Meets (p types heap : List ℕ) (l : Found) (u : Uses) (i : ℕ) (d : Code) (owed : Uses) (t : ℕ) (f : Found) (s : Status) : Type 0 where
  pub differ : same_ty (tree_in p types heap l.code) (tree_in p types heap f.code) ≡ false → s ≡ Err (Differ t)
  pub unused : same_ty (tree_in p types heap l.code) (tree_in p types heap f.code) ≡ true → spent_by p types heap d i f.uses ≡ false
      → s ≡ Err (Misused t)
  pub apart : same_ty (tree_in p types heap l.code) (tree_in p types heap f.code) ≡ true → (AgreeOn l.uses f.uses owed → ⊥) → s ≡ Err (Misused t)
  pub both : same_ty (tree_in p types heap l.code) (tree_in p types heap f.code) ≡ true → spent_by p types heap d i f.uses ≡ true
      → AgreeOn l.uses f.uses owed → Unites l f u s

-- The product of two types has a code, or is refused as too large (6).
pub record Paired (p types heap heap' : List ℕ) (l f : Found) (top t : ℕ) (r : Out) : Type 0 where
  pub pairing : Option Pairing
  pub made : Made p types heap heap' top l.code f.code pairing
  pub yes : (q : Pairing) → pairing ≡ Some q → (r.top ≡ q.top) × Joins (record { code = q.code; uses = f.uses }) l.uses r.status
  pub no : pairing ≡ None → (r.top ≡ top) × (r.status ≡ Err (Differ t))
