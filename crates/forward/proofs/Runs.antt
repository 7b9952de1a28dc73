-- Laws of runs in code: what an outcome says, runs that make no node, one run after another, and what stays ready after a run.
use Prim.Native.Nat.{ℕ, ◌+◌, ◌-◌, ◌≤◌, ◌<◌}
use native.Mathlib.Omega.{arith}
use mathlib.Core.Path.{◌≡◌, refl, sym, ap, ◌∙◌}
use mathlib.Core.List.{List}
use package.Rattle.rules.specs.Val.{Val}
use package.Rattle.rules.specs.Run.{Res, ok, Run, after}
use package.Rattle.rules.specs.Machine.{filled}
use package.Rattle.rules.proofs.Run.{via}
use package.Rattle.calls.specs.Entries.{TypeEntry}
use package.Rattle.valuegraph.specs.Nodes.{value_at}
use package.Rattle.valuegraph.proofs.Places.{agree_refl, agree_trans, agree-down}
use package.Rattle.rules.specs.Limits.{max_parameters}
use package.Rattle.scopes.specs.Slots.{Slots, Machine, Scope}
use package.Rattle.scopes.proofs.Marks.{slot_later}
use package.Rattle.scopes.proofs.Scopes.{state_same, state-kept}
use package.Rattle.forward.proofs.Answers.{below-mark}
use package.Rattle.yields.specs.Yields.{Ancillae}
use package.Rattle.yields.proofs.Ancillae.{ancillae-same, ancillae-kept}
use package.Rattle.forward.specs.Outcomes.{Out, refusal_of, answer_of, meaning}
use package.Rattle.forward.specs.Ready.{Graph, Ready, RanForward, Makes, ancillae_of, state_of}
use Rattle.forward.specs.declared.outcomes.Refusal.{Refusal}
use Rattle.forward.specs.declared.outcomes.Refusal.TheVariants.{Fuel, Height, Long, FirstMatch, Stuck}
use Rattle.std.specs.Prelude.{Ok, Err}

----------------------------------------------------------------
-- What an outcome says

pub meaning-value : (heap : List ℕ) (out : Out) {x : ℕ} → out.status ≡ Ok x → meaning heap out ≡ ok (value_at heap x) out.state.fuel
unfolding answer_of
meaning-value heap out e = ap (answer_of heap out.state.fuel) e

pub meaning-refused : (heap : List ℕ) (out : Out) {w : Refusal} → out.status ≡ Err w → meaning heap out ≡ refusal_of w
unfolding answer_of
meaning-refused heap out e = ap (answer_of heap out.state.fuel) e

-- a refusal stands
pub refusal-after : {A B : Type 0} (w : Refusal) (k : A → Run B) → after (refusal_of w) k ≡ refusal_of w
unfolding refusal_of after
refusal-after (Fuel t) k = refl
refusal-after (Height t) k = refl
refusal-after (Long t) k = refl
refusal-after (FirstMatch t) k = refl
refusal-after Stuck k = refl

module _ {k : ℕ} {heap heap' : List ℕ} {m : ℕ} {slots slots' : List ℕ} {st : Machine} {out : Out} {res : List TypeEntry → Res Val}
    (d : RanForward k heap heap' m slots slots' st out res) where
  pub answered : {x : ℕ} → out.status ≡ Ok x → (ys : List TypeEntry) → res ys ≡ ok (value_at heap' x) out.state.fuel
  answered e ys = sym (d.answer ys) ∙ meaning-value heap' out e

  pub refused : {w : Refusal} → out.status ≡ Err w → (ys : List TypeEntry) → res ys ≡ refusal_of w
  refused e ys = sym (d.answer ys) ∙ meaning-refused heap' out e

  -- the same run, said to give another thing that is equal
  pub says : {res' : List TypeEntry → Res Val} → ((ys : List TypeEntry) → res ys ≡ res' ys) → RanForward k heap heap' m slots slots' st out res'
  says e = record {
    agree = d.agree;
    graph = d.graph;
    below = d.below;
    lengths = d.lengths;
    grows = d.grows;
    spends = d.spends;
    owes = d.owes;
    node = d.node;
    answer = λ ys. d.answer ys ∙ e ys;
  }

  pub slack : (k' : ℕ) → k ≤ k' → RanForward k' heap heap' m slots slots' st out res
  slack k' le = record {
    agree = d.agree;
    graph = d.graph;
    below = d.below;
    lengths = d.lengths;
    grows = d.grows;
    spends = d.spends;
    owes = omega (arith, d.owes);
    node = d.node;
    answer = d.answer;
  }

----------------------------------------------------------------
-- Runs that make nothing, or one node

module _ {heap : List ℕ} {st : Machine} (G : Graph heap st.top) (m : ℕ) (slots : List ℕ) where
  pub still : (out : Out) {res : List TypeEntry → Res Val} → out.state ≡ st → ((n : ℕ) → out.status ≡ Ok n → n < st.top)
      → ((ys : List TypeEntry) → meaning heap out ≡ res ys) → RanForward 0 heap heap m slots slots st out res
  still out e node a = record {
    agree = agree_refl _ heap;
    graph = rw e G;
    below = λ j h. refl;
    lengths = refl;
    grows = rw e (omega arith);
    spends = rw e (omega arith);
    owes = rw e (omega arith);
    node = λ n s. rw e (node n s);
    answer = a;
  }

  pub halted : (out : Out) {w : Refusal} {res : List TypeEntry → Res Val} → out.state ≡ st → out.status ≡ Err w
      → ((ys : List TypeEntry) → res ys ≡ refusal_of w) → RanForward 0 heap heap m slots slots st out res
  halted out e s a =
      still out e (λ n q. let z : ◌≡◌ {A = ℕ} 0 1 = cc in absurd (omega arith)) (λ ys. meaning-refused heap out s ∙ sym (a ys))

-- a node was made, or its value is too long
pub one-node : {heap heap' : List ℕ} {st : Machine} {out : Out} {t : ℕ} {v : Val} (m : ℕ) (slots : List ℕ) {res : List TypeEntry → Res Val}
    → Makes heap heap' st out t v
    → ((ys : List TypeEntry) → meaning heap' out ≡ res ys) → RanForward 1 heap heap' m slots slots st out res
one-node m slots d e = record {
  agree = d.agree;
  graph = d.graph;
  below = λ j h. refl;
  lengths = refl;
  grows = d.grows;
  spends = omega (arith, d.spends);
  owes = omega (arith, d.spends, d.one);
  node = d.node;
  answer = e;
}

----------------------------------------------------------------
-- One run after another

module _ {heap heap₁ : List ℕ} {m : ℕ} {slots slots₁ : List ℕ} {st : Machine} {r : Out} {res₁ : List TypeEntry → Res Val}
    (d : RanForward 0 heap heap₁ m slots slots₁ st r res₁) where
  pub then : {k : ℕ} {heap₂ : List ℕ} {m' : ℕ} {slots₂ : List ℕ} {out : Out} {res : List TypeEntry → Res Val}
      → RanForward k heap₁ heap₂ m' slots₁ slots₂ r.state out res → m ≤ m' → RanForward k heap heap₂ m slots slots₂ st out res
  then b le = record {
    agree = agree_trans d.agree (agree-down _ d.grows b.agree);
    graph = b.graph;
    below = λ j h. d.below j h ∙ b.below j (omega arith);
    lengths = d.lengths ∙ b.lengths;
    grows = omega (arith, d.grows, b.grows);
    spends = omega (arith, d.spends, b.spends);
    owes = omega (arith, d.owes, b.owes);
    node = b.node;
    answer = b.answer;
  }

  -- a part was refused, and so is the whole
  pub part-refused : {w : Refusal} {res : List TypeEntry → Res Val} (next : List TypeEntry → Val → Run Val) → r.status ≡ Err w
      → ((ys : List TypeEntry) → res ys ≡ after (res₁ ys) (next ys)) → RanForward 0 heap heap₁ m slots slots₁ st r res
  part-refused {w} next s e =
      says d (λ ys. refused d s ys ∙ sym (refusal-after w (next ys)) ∙ sym (ap (λ x. after x (next ys)) (refused d s ys)) ∙ sym (e ys))

  -- a part was answered, and the run goes on
  pub part-answered : {x : ℕ} {res : List TypeEntry → Res Val} (next : List TypeEntry → Val → Run Val) → r.status ≡ Ok x
      → ((ys : List TypeEntry) → res ys ≡ after (res₁ ys) (next ys))
      → {k : ℕ} {heap₂ : List ℕ} {m' : ℕ} {slots₂ : List ℕ} {out : Out}
      → RanForward k heap₁ heap₂ m' slots₁ slots₂ r.state out (λ ys. next ys (value_at heap₁ x) r.state.fuel)
      → m ≤ m' → RanForward k heap heap₂ m slots slots₂ st out res
  part-answered next s e b le = then (says b (λ ys. sym (via (next ys) (answered d s ys) refl) ∙ sym (e ys))) le

----------------------------------------------------------------
-- What stays ready

module _ {k v : ℕ} {code heap slots : List ℕ} {st : Machine} {sc : Scope} {t room : ℕ} (rd : Ready k v code heap slots st sc t room) where
  pub ancillae-held : Ancillae slots sc.base sc.q st.top
  ancillae-held = record { there = omega (arith, rd.variables, rd.within, rd.full); known = rd.ancillae }

  -- with fewer variables to come
  pub fewer : (v' : ℕ) → v' ≤ v → Ready k v' code heap slots st sc t room
  fewer v' le = record {
    rows = rd.rows;
    term = rd.term;
    graph = rd.graph;
    held = rd.held;
    ancillae = rd.ancillae;
    within = rd.within;
    nodes = rd.nodes;
    small = rd.small;
    variables = omega (arith, rd.variables);
    full = rd.full;
    tall = rd.tall;
  }

  module _ {heap' slots' : List ℕ} {out : Out} {res : List TypeEntry → Res Val} (d : RanForward 0 heap heap' (sc.base + sc.n) slots slots' st out res) where
    pub held_later : Slots heap' slots' (sc.base + sc.n) out.state.top
    held_later = record { held = λ j h. rw (← d.below j h) (slot_later d.agree out.state.top d.grows (rd.held.held j h)) }

    pub later : Ready k v code heap' slots' out.state sc t room
    later = record {
      rows = rd.rows;
      term = rd.term;
      graph = d.graph;
      held = held_later;
      ancillae = λ i h. rw (← d.below (sc.base + i) (omega (arith, rd.within))) (omega (arith, rd.ancillae i h, d.grows));
      within = rd.within;
      nodes = omega (arith, rd.nodes, d.owes, d.agree.lengths);
      small = omega (arith, rd.small, d.owes);
      variables = omega (arith, rd.variables, d.lengths);
      full = sym d.lengths ∙ rd.full;
      tall = rd.tall;
    }

    pub ancillae_later : ancillae_of heap slots sc ≡ ancillae_of heap' slots' sc
    ancillae_later =
        ancillae-kept heap heap' slots sc.base sc.q st.top rd.graph.right d.agree ancillae-held
        ∙ ancillae-same heap' slots slots' sc.base sc.q (λ j h. d.below j (omega (arith, rd.within)))

    pub state_later : state_of heap slots sc ≡ state_of heap' slots' sc
    state_later =
        ap filled (state-kept heap heap' slots sc.base sc.n st.top rd.graph.right d.agree rd.held (omega (arith, rd.small, below-mark))
        ∙ state_same heap' slots slots' sc.base sc.n d.below)

-- a part of the term, in its scope and with room for two variables more, the most that a term binds
pub part : {v : ℕ} {code heap slots : List ℕ} {st : Machine} {sc : Scope} {t room : ℕ} → Ready 1 v code heap slots st sc t room
    → (b : ℕ) → b < t → Ready 0 2 code heap slots st sc b (room - 1)
unfolding max_parameters
part rd b q = record {
  rows = rd.rows;
  term = omega (arith, rd.term);
  graph = rd.graph;
  held = rd.held;
  ancillae = rd.ancillae;
  within = rd.within;
  nodes = omega (arith, rd.nodes);
  small = omega (arith, rd.small);
  variables = omega (arith, rd.variables, rd.tall);
  full = rd.full;
  tall = omega arith;
}
