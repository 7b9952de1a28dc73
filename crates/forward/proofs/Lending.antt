-- The numbers that a run is lent: what evaluation asks and ensures, said of them. A machine that has moved, a slot that was written, a scope that
-- is wider.
use Prim.Native.Nat.{ℕ, suc, ◌+◌, ◌-◌, ◌<◌}
use native.Mathlib.Omega.{arith}
use mathlib.Core.Path.{◌≡◌, refl, sym, subst, ap, ◌∙◌}
use mathlib.Core.List.{List, ◌∷◌}
use mathlib.Core.Option.{some}
use lib.ListN.{length, get_or, set, length-drop}
use package.Rattle.program.specs.Kinds.{variable_kind, unit_kind, case_kind}
use package.Rattle.rules.specs.Val.{Val, unit}
use package.Rattle.rules.specs.Run.{Res}
use package.Rattle.rules.specs.Limits.{fits}
use package.Rattle.rules.specs.Machine.{forward}
use package.Rattle.calls.specs.Entries.{TypeEntry}
use package.Rattle.valuegraph.specs.Nodes.{value_at}
use package.Rattle.decoded.specs.Rows.{kind_in, first_in, tree_in, program_in}
use package.Rattle.scopes.specs.Slots.{slot_count, state_count, Machine, Scope, machine_of, slots_of, scope_in, slot_at, Moved, Written}
use package.Rattle.forward.specs.Outcomes.{Out, status_of, out_of, Finds}
use package.Rattle.forward.specs.Ready.{Ready, RanForward, run_of, step_of, under_of, ancillae_of, state_of, Places, ReadyIn, end_of, Evaluates, EvaluatesUnder, Steps, MakeReady, MakesIn, CheckReady}
use package.Rattle.forward.proofs.Answers.{below-mark}
use package.Rattle.forward.proofs.Runs.{later, ancillae-held}
use package.Rattle.forward.proofs.Steps.{term-ready, term_done, var_done, unit_done}
use package.Rattle.forward.proofs.Binds.{opened, bound-ready, bound_done, bound-twice}
use package.Rattle.valuegraph.specs.Nodes.{kind_number, kind_named, kind_at}
use package.Rattle.valuegraph.specs.declared.kinds.Kind.{Kind}
use package.Rattle.valuegraph.proofs.Numbered.{kind_read}
use Rattle.std.specs.Prelude.{Ok}

----------------------------------------------------------------
-- Slots

-- all numbers are there, so all slots are
pub slots-full : (st : List ℕ) → length st ≡ state_count → length (slots_of st) ≡ slot_count
slots-full st e = omega (arith, length-drop 2 st, e)

-- a run that leaves slots which are equal
pub with_slots : {k : ℕ} {heap heap' : List ℕ} {m : ℕ} {slots slots₁ slots₂ : List ℕ} {st : Machine} {out : Out} {res : List TypeEntry → Res Val}
    → RanForward k heap heap' m slots slots₁ st out res → slots₂ ≡ slots₁ → RanForward k heap heap' m slots slots₂ st out res
with_slots {k} {heap} {heap'} {m} {slots} {st = st} {out} {res} d e = subst (λ s. RanForward k heap heap' m slots s st out res) (sym e) d

----------------------------------------------------------------
-- A unit of fuel is taken

module _ {code heap st st₁ : List ℕ} {scope t room : ℕ} (rd : ReadyIn 0 0 code heap st scope t room) (f : ¬ ((machine_of st).fuel ≡ 0)) (h : ¬ (room ≡ 0))
    (M : Moved st st₁ (record { top = (machine_of st).top; fuel = (machine_of st).fuel - 1 })) where
  abbrev taken : Machine
  taken = record { top = (machine_of st).top; fuel = (machine_of st).fuel - 1 }

  pub spent-ready : ReadyIn 1 0 code heap st₁ scope t room
  spent-ready = record {
    full = M.lengths ∙ rd.full;
    ready = subst (λ m. Ready 1 0 code heap (slots_of st₁) m (scope_in scope) t room) (sym M.machine)
        (subst (λ s. Ready 1 0 code heap s taken (scope_in scope) t room) (sym M.slots) (term-ready rd.ready f h));
  }

  pub spent_done : {heap' st' : List ℕ} {r : ℕ} → Steps code heap heap' st₁ st' scope t room r → Evaluates code heap heap' st st' scope t room r
  spent_done {heap'} {st'} {r} d = record {
    lengths = d.lengths ∙ M.lengths;
    ran = term_done rd.ready f h
        (subst (λ s. RanForward 1 heap heap' (end_of scope) s (slots_of st') taken (out_of r st') (step_of code heap s taken (scope_in scope) t room)) M.slots
        (subst (λ m. RanForward 1 heap heap' (end_of scope) (slots_of st₁) (slots_of st') m (out_of r st') (step_of code heap (slots_of st₁) m (scope_in scope) t room))
        M.machine d.ran));
  }

  pub spent-fuel : get_or st₁ 1 0 + 1 ≡ get_or st 1 0
  spent-fuel = omega (arith, ap (λ (m : Machine). m.fuel) M.machine)

-- the same, by the fuel as the code has read it
module _ {code heap st : List ℕ} {scope t room : ℕ} (rd : ReadyIn 0 0 code heap st scope t room) {fuel : ℕ} (q : fuel ≡ (machine_of st).fuel)
    (f : ¬ (fuel ≡ 0)) (h : ¬ (room ≡ 0)) {st₁ : List ℕ} (M : Moved st st₁ (record { top = (machine_of st).top; fuel = (machine_of st).fuel - 1 })) where
  pub entered : ReadyIn 1 0 code heap st₁ scope t room × (get_or st₁ 1 0 + 1 ≡ get_or st 1 0)
  entered = (spent-ready rd (λ e. f (q ∙ e)) h M, spent-fuel rd (λ e. f (q ∙ e)) h M)

  pub entered_done : {heap' st' : List ℕ} {r : ℕ} → Steps code heap heap' st₁ st' scope t room r → Evaluates code heap heap' st st' scope t room r
  entered_done = spent_done rd (λ e. f (q ∙ e)) h M

-- the kind of a value's node, as the code has read it
pub value_kind : {code heap heap' st st' : List ℕ} {scope t room r : ℕ} → Evaluates code heap heap' st st' scope t room r → {n : ℕ} → status_of r ≡ Ok n → {x : Kind}
    → x ≡ kind_named (kind_at heap' n) → kind_number x ≡ kind_at heap' n
value_kind E s e = kind_read E.ran.graph.right (E.ran.node _ s) e

-- steps without parts
module _ {code heap st : List ℕ} {scope t room : ℕ} (rd : ReadyIn 1 0 code heap st scope t room) where
  pub variable-step : {i r : ℕ} → kind_in code t ≡ variable_kind → i ≡ first_in code t → Finds r (slot_at heap (slots_of st) (scope_in scope).base (scope_in scope).n i)
      → Steps code heap heap st st scope t room r
  variable-step {r = r} kind e F = record {
    lengths = refl;
    ran = var_done rd.ready kind (out_of r st) ((subst (λ i. Finds r (slot_at heap (slots_of st) (scope_in scope).base (scope_in scope).n i)) e F).is (machine_of st));
  }

  pub unit-step : {heap' st' : List ℕ} {r : ℕ} → kind_in code t ≡ unit_kind → MakesIn heap heap' st st' r t unit → Steps code heap heap' st st' scope t room r
  unit-step kind M = record { lengths = M.lengths; ran = with_slots (unit_done rd.ready kind M.makes) M.slots }

----------------------------------------------------------------
-- After a run

pub later_in : {k v : ℕ} {code heap heap₁ st st₁ : List ℕ} {scope t room b h r : ℕ} → ReadyIn k v code heap st scope t room
    → Evaluates code heap heap₁ st st₁ scope b h r
    → ReadyIn k v code heap₁ st₁ scope t room
later_in rd d = record { full = d.lengths ∙ rd.full; ready = later rd.ready d.ran }

-- what is asked of a term, of another one in the same scope
pub as_ready : {k v k' v' : ℕ} {code heap st : List ℕ} {scope t room t' room' : ℕ} → ReadyIn k v code heap st scope t room
    → Ready k' v' code heap (slots_of st) (machine_of st) (scope_in scope) t' room' → ReadyIn k' v' code heap st scope t' room'
as_ready rd ready = record { full = rd.full; ready = ready }

----------------------------------------------------------------
-- A variable more

module _ {v : ℕ} {code heap st st₁ : List ℕ} (scope' : ℕ) {scope t room node at : ℕ} (rd : ReadyIn 0 (suc v) code heap st scope t room)
    (low : node < (machine_of st).top)
    (W : Written st st₁ at node) (here : at ≡ end_of scope) (wide : scope_in scope' ≡ opened (scope_in scope)) where
  bound : slots_of st₁ ≡ set (slots_of st) (end_of scope) node
  bound = subst (λ i. slots_of st₁ ≡ set (slots_of st) i node) here W.slots

  pub under-ready : ReadyIn 0 v code heap st₁ scope' t room
  under-ready = record {
    full = W.lengths ∙ rd.full;
    ready = subst (λ sc. Ready 0 v code heap (slots_of st₁) (machine_of st₁) sc t room) (sym wide)
        (subst (λ m. Ready 0 v code heap (slots_of st₁) m (opened (scope_in scope)) t room) (sym W.machine) (bound-ready rd.ready node low bound));
  }

  abbrev Widened : (Machine → Scope → List TypeEntry → Res Val) → List ℕ → List ℕ → ℕ → Machine → Scope → Type 0
  Widened res heap' st' r m sc = RanForward 0 heap heap' (sc.base + sc.n) (slots_of st₁) (slots_of st') m (out_of r st') (res m sc)

  pub under_done : {heap' st' : List ℕ} {r : ℕ} → Evaluates code heap heap' st₁ st' scope' t room r → EvaluatesUnder code heap heap' st st' scope node t room r
  under_done {heap'} {st'} {r} d = record {
    lengths = d.lengths ∙ W.lengths;
    ran = bound_done rd.ready node low bound
        (subst (λ m. Widened (λ m sc. run_of code heap (slots_of st₁) m sc t room) heap' st' r m (opened (scope_in scope))) W.machine
        (subst (Widened (λ m sc. run_of code heap (slots_of st₁) m sc t room) heap' st' r (machine_of st₁)) wide d.ran));
  }

  -- the term was run in the scope with another variable besides
  pub twice_done : {heap' st' : List ℕ} {r node₂ : ℕ} → EvaluatesUnder code heap heap' st₁ st' scope' node₂ t room r
      → RanForward 0 heap heap' (end_of scope) (slots_of st) (slots_of st') (machine_of st) (out_of r st')
      (λ ys. forward fits (program_in code ys) room (ancillae_of heap (slots_of st) (scope_in scope))
      (some (value_at heap node₂) ∷ some (value_at heap node) ∷ state_of heap (slots_of st) (scope_in scope)) (tree_in code ys t) (machine_of st).fuel)
  twice_done {heap'} {st'} {r} {node₂} d =
      bound-twice rd.ready node low bound node₂
      (subst (λ m. Widened (λ m sc. under_of code heap (slots_of st₁) m sc node₂ t room) heap' st' r m (opened (scope_in scope))) W.machine
      (subst (Widened (λ m sc. under_of code heap (slots_of st₁) m sc node₂ t room) heap' st' r (machine_of st₁)) wide d.ran))

----------------------------------------------------------------
-- Nodes, and the test of first match

-- a node can be made
pub make_ready : {k v : ℕ} {code heap st : List ℕ} {scope t room : ℕ} → ReadyIn (suc k) v code heap st scope t room → MakeReady heap st
make_ready rd = record { full = rd.full; graph = rd.ready.graph; room = omega (arith, rd.ready.nodes); small = omega (arith, rd.ready.small) }

module _ {code heap heap₁ heap₂ st st₁ st₂ : List ℕ} {scope t room r₁ r₂ b y b' : ℕ} (rd : ReadyIn 1 0 code heap st scope t room) (kind : kind_in code t ≡ case_kind)
    (d : Evaluates code heap heap₁ st st₁ scope b (room - 1) r₁) (d₂ : EvaluatesUnder code heap₁ heap₂ st₁ st₂ scope y b' (room - 1) r₂) where
  -- the left branch's form can be asked
  pub case_check : CheckReady code heap₂ st₂ scope t r₂
  case_check = record {
    rows = rd.ready.rows;
    term = rd.ready.term;
    kind = kind;
    graph = d₂.ran.graph.right;
    small = omega (arith, rd.ready.small, d.ran.owes, d₂.ran.owes, below-mark);
    ancillae = ancillae-held (later (later rd.ready d.ran) d₂.ran);
    node = d₂.ran.node;
  }

----------------------------------------------------------------
-- Calls

-- arguments were placed: a slot more
pub placed_at : (scope k : ℕ) {st st₁ : List ℕ} {at node x : ℕ} → Written st st₁ at node → x ≡ end_of scope → at ≡ x + k
    → slots_of st₁ ≡ set (slots_of st) (end_of scope + k) node
placed_at scope k {st} {st₁} {at} {node} W e q = subst (λ i. slots_of st₁ ≡ set (slots_of st) i node) (q ∙ ap (λ x. x + k) e) W.slots

-- what was placed, with the slot that was written last
pub placed-out : (r : ℕ) {code heap heap' slots st st₁ : List ℕ} {m : Machine} {sc : Scope} {t room k count at node : ℕ} → Written st st₁ at node
    → Places code heap heap' slots (slots_of st₁) m sc t room k count (out_of r st) → Places code heap heap' slots (slots_of st₁) m sc t room k count (out_of r st₁)
placed-out r {code} {heap} {heap'} {slots} {st} {st₁} {m} {sc} {t} {room} {k} {count} W P =
    subst (λ m'. Places code heap heap' slots (slots_of st₁) m sc t room k count (record { status = status_of r; state = m' })) (sym W.machine) P

-- the scope of the function that is called, in one number
pub called-ready : {code heap st : List ℕ} (scope' : ℕ) {sc : Scope} {t room : ℕ} → length st ≡ state_count → scope_in scope' ≡ sc
    → Ready 0 0 code heap (slots_of st) (machine_of st) sc t room
    → ReadyIn 0 0 code heap st scope' t room
called-ready {code} {heap} {st} scope' {t = t} {room} full e rd = record
    { full = full; ready = subst (λ sc. Ready 0 0 code heap (slots_of st) (machine_of st) sc t room) (sym e) rd }

pub called-ran : {code heap heap' st st' : List ℕ} (scope' : ℕ) {sc : Scope} {t room r : ℕ} → scope_in scope' ≡ sc
    → Evaluates code heap heap' st st' scope' t room r
    → RanForward 0 heap heap' (sc.base + sc.n) (slots_of st) (slots_of st') (machine_of st) (out_of r st') (run_of code heap (slots_of st) (machine_of st) sc t room)
called-ran {code} {heap} {heap'} {st} {st'} scope' {t = t} {room} {r} e d =
    subst (λ sc. RanForward 0 heap heap' (sc.base + sc.n) (slots_of st) (slots_of st') (machine_of st) (out_of r st')
    (run_of code heap (slots_of st) (machine_of st) sc t room)) e d.ran
