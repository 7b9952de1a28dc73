-- Laws of the steps that have no parts to evaluate: what a variable's slot says, what a roll holds, and the test of first match.
use Prim.Native.Nat.{ℕ, zero, suc, ◌+◌, ◌≤◌, ◌<◌}
use native.Mathlib.Omega.{arith}
use native.Mathlib.Decide.{dec_lt}
use mathlib.Core.Path.{◌≡◌, refl, sym, ap, ap₂, ◌∙◌}
use mathlib.Core.Bool.{Bool, true, false, not, ◌||◌}
use mathlib.Core.List.{List}
use lib.ListN.{get_or}
use package.Rattle.rules.specs.Limits.{fits, max_terms}
use package.Rattle.rules.specs.Val.{Val, roll}
use package.Rattle.rules.specs.Run.{stuck, Run, after, give, test}
use package.Rattle.rules.specs.Term.{by_ancilla}
use package.Rattle.rules.specs.Yield.{may_yield, first_match}
use package.Rattle.rules.specs.Machine.{on_roll}
use package.Rattle.rules.proofs.Run.{via}
use package.Rattle.calls.specs.Entries.{TypeEntry}
use package.Rattle.valuegraph.specs.Nodes.{kind_at, left_at, Room, of_kind, value_within, value_at}
use package.Rattle.valuegraph.proofs.Heaps.{value-roll}
use package.Rattle.scopes.specs.Slots.{unknown, found, node_or, slot_at, Slots, Machine, machine_of, scope_in, slots_of}
use package.Rattle.scopes.proofs.Marks.{found-low, slot_in, slot-out}
use Rattle.std.specs.Prelude.{Option, Some, None}
use package.Rattle.valuegraph.specs.Nodes.{kind_number, kind_named}
use package.Rattle.valuegraph.specs.declared.kinds.Kind.{Kind}
use package.Rattle.valuegraph.specs.declared.kinds.Kind.TheVariants.{Roll}
use package.Rattle.valuegraph.proofs.Numbered.{kind_read}
use package.Rattle.yields.specs.Yields.{ancillae_in, MayYield, Asks}
use package.Rattle.yields.proofs.Ancillae.{length-ancillae}
use package.Rattle.forward.specs.Outcomes.{Out, status_of, refusal_of, meaning, found_out, Finds, out_of}
use package.Rattle.forward.specs.Ready.{Graph, FindReady, Unrolls, Unrolled, CheckReady, Checks}
use package.Rattle.forward.proofs.Answers.{below-mark, is_value_lem}
use package.Rattle.forward.proofs.Runs.{meaning-value, meaning-refused, refusal-after}
use package.Rattle.forward.proofs.Making.{test_true}
use Rattle.forward.specs.declared.outcomes.Refusal.{Refusal}
use Rattle.forward.specs.declared.outcomes.Refusal.TheVariants.{FirstMatch, Stuck}
use package.Rattle.decoded.proofs.Trees.{parts_case}
use package.Rattle.decoded.specs.Rows.{first_in, second_in, tree_in}
use Rattle.std.specs.Prelude.{Result, Ok, Err}

----------------------------------------------------------------
-- Variables

-- a variable's node is one of the graph's
pub slot-node : {heap slots : List ℕ} (base n i : ℕ) {top node : ℕ} → Graph heap top → Slots heap slots (base + n) top → top ≤ unknown
    → slot_at heap slots base n i ≡ Some node → node < top
slot-node {heap} {slots} base n i {top} {node} G S small e = go (dec_lt i n)
  where
    go : Dec (i < n) → node < top
    go (yes l) =
        let s = slot_in heap slots base n i l in
        let z : node_or (found heap (get_or slots (base + i) 0)) ≡ node = cc in
        rw (← z) (found-low (S.held (base + i) (omega arith)) small G.some)
    go (no l) =
        let s = slot-out heap slots base n i (omega arith) in
        let z : ◌≡◌ {A = ℕ} 0 1 = cc in
        absurd (omega arith)

found-known : (st : Machine) {f : Option ℕ} {node : ℕ} → f ≡ Some node → record { status = Ok node; state = st } ≡ found_out f st
unfolding found_out
found-known st e = rw e

found-unknown : (st : Machine) {f : Option ℕ} → f ≡ None → record { status = Err Stuck; state = st } ≡ found_out f st
unfolding found_out
found-unknown st e = rw e

-- the answer is the variable's node, or a refusal
pub finds_node : {heap st : List ℕ} {scope : ℕ} (i : ℕ) → FindReady heap st scope → {node : ℕ}
    → slot_at heap (slots_of st) (scope_in scope).base (scope_in scope).n i ≡ Some node
    → Finds node (slot_at heap (slots_of st) (scope_in scope).base (scope_in scope).n i)
finds_node {heap} {st} {scope} i R e =
    let low = slot-node (scope_in scope).base (scope_in scope).n i R.graph R.held (omega (arith, R.small, below-mark)) e in
    record { is = λ m. ap (λ s. record { status = s; state = m }) (is_value_lem (omega (arith, R.small))) ∙ found-known m e }

pub finds_none : {f : Option ℕ} {r : ℕ} → f ≡ None → status_of r ≡ Err Stuck → Finds r f
finds_none e s = record { is = λ st. ap (λ s. record { status = s; state = st }) s ∙ found-unknown st e }

----------------------------------------------------------------
-- Rolls

no-roll : {A : Type 0} (n : ℕ) (v w : Val) (next : Val → Run A) (fuel : ℕ) → n < 4 → on_roll (of_kind n v w) next fuel ≡ stuck
unfolding on_roll of_kind
no-roll zero v w next fuel h = refl
no-roll (suc zero) v w next fuel h = refl
no-roll (suc (suc zero)) v w next fuel h = refl
no-roll (suc (suc (suc zero))) v w next fuel h = refl
no-roll (suc (suc (suc (suc n)))) v w next fuel h = absurd (omega arith)

-- a node of the graph can be read
pub node-there : {heap : List ℕ} {top node : ℕ} → Graph heap top → node < top → Room heap (node + 1)
node-there G low = omega (arith, G.right.held)

module _ {heap : List ℕ} (st : Machine) (G : Graph heap st.top) {node : ℕ} (low : node < st.top) where
  held-lower : kind_at heap node ≡ 4 → (part : ℕ) → part ≡ left_at heap node → part < st.top
  held-lower k part q = rw q (omega (arith, (value-roll heap st.top G.right node low k).1))

  unrolls-held : kind_at heap node ≡ 4 → (part : ℕ) → part ≡ left_at heap node → Unrolls heap st node (record { status = Ok part; state = st })
  unfolding on_roll
  unrolls-held k part q = record {
    state = refl;
    below = λ n e. let z : part ≡ n = cc in omega (arith, lower);
    answer = λ t. meaning-value heap (record { status = Ok part; state = st }) refl
        ∙ sym (test_true (fits (value_at heap part)) 14 t (value_at heap part) st.fuel (G.short part lower))
        ∙ sym (ap (λ v. on_roll v (λ v. test (fits v) 14 t (give v)) st.fuel) is_roll);
  }
    where
      lower : part < st.top
      lower = held-lower k part q

      is_roll : value_at heap node ≡ roll (value_at heap part)
      is_roll = rw q (value-roll heap st.top G.right node low k).0

  unrolls_missing : ¬ (kind_at heap node ≡ 4) → Unrolls heap st node (record { status = Err Stuck; state = st })
  unfolding value_at value_within refusal_of
  unrolls_missing n = record {
    state = refl;
    below = λ n e. let z : ◌≡◌ {A = ℕ} 0 1 = cc in absurd (omega arith);
    answer = λ t. meaning-refused heap (record { status = Err Stuck; state = st }) refl
        ∙ sym (no-roll (kind_at heap node) _ _ (λ v. test (fits v) 14 t (give v)) st.fuel (omega (arith, (G.right.node node low).kind)));
  }

-- the answer is the node that a roll holds, or a refusal
module _ {heap : List ℕ} {node : ℕ} where
  as_status : (st : Machine) {a b : Result ℕ Refusal} → a ≡ b → Unrolls heap st node (record { status = b; state = st })
      → Unrolls heap st node (record { status = a; state = st })
  as_status st e u = rw e u

  pub roll-held : {x : Kind} → x ≡ kind_named (kind_at heap node) → x ≡ Roll → {part : ℕ} → part ≡ left_at heap node → Unrolled heap node part
  roll-held {x} e k {part} q = record {
    is = λ st G low small.
        let four : kind_at heap node ≡ 4 = sym (kind_read G.right low e) ∙ ap kind_number k in
        as_status st (is_value_lem (omega (arith, held-lower st G low four part q))) (unrolls-held st G low four part q);
  }

  pub roll_missing : {x : Kind} → x ≡ kind_named (kind_at heap node) → ¬ (x ≡ Roll) → {r : ℕ} → status_of r ≡ Err Stuck → Unrolled heap node r
  roll_missing e n s = record { is = λ st G low small. as_status st s (unrolls_missing st G low (λ z. n (e ∙ ap kind_named z))) }

----------------------------------------------------------------
-- First match

module _ {code heap st : List ℕ} {scope t out : ℕ} (C : CheckReady code heap st scope t out) where
  abbrev before : Out
  before = out_of out st

  -- how the case goes on with a value
  abbrev next : List TypeEntry → Val → Run Val
  next ys w =
      test (first_match (ancillae_in heap st scope) (scope_in scope).n (tree_in code ys (first_in code t)) (tree_in code ys (second_in code t)) w) 15 t (give w)

  abbrev Checked : Out → Type 0
  Checked r = Checks code heap (slots_of st) (scope_in scope).base (scope_in scope).q (scope_in scope).n t before r

  -- whether the case chooses by an ancilla, by the numbers that the code has
  abbrev Chooses : Bool → Type 0
  Chooses c = (ys : List TypeEntry) → c ≡ by_ancilla (scope_in scope).q (scope_in scope).n (tree_in code ys (first_in code t))

  pub check-chooses : {q n : ℕ} → q ≡ (scope_in scope).q → n ≡ (scope_in scope).n → {c : Bool}
      → ((ys : List TypeEntry) → c ≡ by_ancilla q n (tree_in code ys (first_in code t))) → Chooses c
  check-chooses qq qn E ys = E ys ∙ ap₂ (λ q n. by_ancilla q n (tree_in code ys (first_in code t))) qq qn

  -- first match, by its two parts
  matches : {c : Bool} → Chooses c → (ys : List TypeEntry) (w : Val)
      → first_match (ancillae_in heap st scope) (scope_in scope).n (tree_in code ys (first_in code t)) (tree_in code ys (second_in code t)) w
      ≡ (c || not (may_yield (ancillae_in heap st scope) (tree_in code ys (second_in code t)) w))
  unfolding first_match
  matches E ys w = ap (λ c. c || not (may_yield (ancillae_in heap st scope) (tree_in code ys (second_in code t)) w))
      (ap (λ q. by_ancilla q (scope_in scope).n (tree_in code ys (first_in code t))) (length-ancillae heap (slots_of st) (scope_in scope).base (scope_in scope).q)
      ∙ sym (E ys))

  pub check-row : t < max_terms
  check-row = omega (arith, C.term, C.rows.few_terms)

  pub check-refused : {why : Refusal} → status_of out ≡ Err why → Checked before
  check-refused {why} s = record {
    state = refl;
    node = λ n e. e;
    answer = λ ys. meaning-refused heap before s ∙ sym (refusal-after why (next ys)) ∙ ap (λ x. after x (next ys)) (sym (meaning-refused heap before s));
  }

  -- the value of a case that chooses by an ancilla stands
  pub check-chosen : {node : ℕ} → status_of out ≡ Ok node → {c : Bool} → Chooses c → c ≡ true → Checked before
  unfolding test
  check-chosen {node} s E yes-it = record {
    state = refl;
    node = λ n e. e;
    answer = λ ys. meaning-value heap before s
        ∙ sym (via (next ys) (meaning-value heap before s) refl
        ∙ ap (λ b. test b 15 t (give (value_at heap node)) (machine_of st).fuel) (matches E ys (value_at heap node)
        ∙ ap (λ c. c || not (may_yield (ancillae_in heap st scope) (tree_in code ys (second_in code t)) (value_at heap node))) yes-it));
  }

  module _ {node : ℕ} (s : status_of out ≡ Ok node) {c : Bool} (E : Chooses c) (plain : c ≡ false) (b : ℕ) (e : b ≡ second_in code t) where
    pub check-asks : Asks code heap st scope b node
    check-asks = record {
      rows = C.rows;
      term = rw e (omega (arith, (parts_case C.rows t C.term C.kind).1, C.term));
      graph = C.graph;
      value = C.node node s;
      small = C.small;
      ancillae = C.ancillae;
    }

    module _ {r : Bool} (Y : MayYield code heap st scope b node r) where
      yields-said : (ys : List TypeEntry) → may_yield (ancillae_in heap st scope) (tree_in code ys (second_in code t)) (value_at heap node) ≡ r
      yields-said ys = ap (λ b. may_yield (ancillae_in heap st scope) (tree_in code ys b) (value_at heap node)) (sym e) ∙ sym (Y.answer ys)

      went_on : (ys : List TypeEntry) → after (meaning heap before) (next ys) ≡ test (not r) 15 t (give (value_at heap node)) (machine_of st).fuel
      went_on ys =
          via (next ys) (meaning-value heap before s) refl
          ∙ ap (λ b. test b 15 t (give (value_at heap node)) (machine_of st).fuel) (matches E ys (value_at heap node)
          ∙ ap₂ (λ c y. c || not y) plain (yields-said ys))

      pub check-passes : r ≡ false → Checked before
      unfolding test
      check-passes f = record {
        state = refl;
        node = λ n e. e;
        answer = λ ys. meaning-value heap before s ∙ sym (went_on ys ∙ ap (λ b. test (not b) 15 t (give (value_at heap node)) (machine_of st).fuel) f);
      }

      pub check-yields : r ≡ true → {a : Result ℕ Refusal} → a ≡ Err (FirstMatch t) → Checked (record { status = a; state = machine_of st })
      unfolding test refusal_of
      check-yields f {a} s' = record {
        state = refl;
        node = λ n e. let z : ◌≡◌ {A = ℕ} 0 1 = cc in absurd (omega arith);
        answer = λ ys. meaning-refused heap (record { status = a; state = machine_of st }) s'
            ∙ sym (went_on ys ∙ ap (λ b. test (not b) 15 t (give (value_at heap node)) (machine_of st).fuel) f);
      }
