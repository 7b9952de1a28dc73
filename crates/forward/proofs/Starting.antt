-- The scope that a function's arguments are, and the run of a function in code: it is the rules' `run_forward`.
use Prim.Native.Nat.{ℕ, zero, suc, ◌+◌, ◌*◌, ◌≤◌, ◌<◌}
use native.Mathlib.Omega.{arith}
use native.Mathlib.Numerals.{add-one}
use mathlib.Core.Path.{◌≡◌, refl, sym, ap, ap₂, ◌∙◌}
use mathlib.Core.Logic.{inl as left, inr as right}
use mathlib.Core.Option.{some}
use mathlib.Core.List.{List, [], ◌∷◌, map}
use lib.ListN.{length, get_or}
use package.Rattle.rules.specs.Limits.{fits}
use package.Rattle.rules.specs.Val.{Val}
use package.Rattle.rules.specs.Term.{Term, scope}
use package.Rattle.rules.specs.Machine.{filled, forward, run_forward}
use package.Rattle.calls.specs.Entries.{TypeEntry}
use package.Rattle.valuegraph.specs.Nodes.{node_bytes, value_at}
use package.Rattle.scopes.specs.Slots.{unknown, slot_count, meaning as slotMeaning, state_at, Machine, Scope, slots_per_height}
use package.Rattle.scopes.proofs.Marks.{found-node}
use package.Rattle.scopes.proofs.Scopes.{state-front}
use package.Rattle.yields.specs.Yields.{ancillae_at, Ancillae}
use package.Rattle.yields.proofs.Ancillae.{state-ancillae}
use package.Rattle.forward.specs.Outcomes.{stopped}
use package.Rattle.forward.specs.Ready.{Graph, Ready, run_of, values_at}
use package.Rattle.decoded.specs.Rows.{Rows, body_in, function_count, program_in, tree_in}
use package.Rattle.decoded.proofs.Trees.{called-body, called-tree}

----------------------------------------------------------------
-- Arguments as a scope

ancillae-front : (heap slots : List ℕ) (base q : ℕ) → value_at heap (get_or slots (base + q) 0) ∷ ancillae_at heap slots base q ≡ ancillae_at heap slots base (suc q)
unfolding ancillae_at
ancillae-front heap slots base q = refl

-- parameters bound in order, after `q` others
scope-values : (heap slots : List ℕ) (base q n : ℕ) → scope (values_at heap slots (base + q) n) (ancillae_at heap slots base q) ≡ ancillae_at heap slots base
    (q + n)
unfolding values_at scope
scope-values heap slots base q zero = ap (ancillae_at heap slots base) (let z : q ≡ q + 0 = omega arith in z)
scope-values heap slots base q (suc n) =
    ap₂ (λ i (l : List Val). scope (values_at heap slots i n) l) (let z : base + q + 1 ≡ base + suc q = omega arith in z) (ancillae-front heap slots base q)
    ∙ scope-values heap slots base (suc q) n
    ∙ ap (ancillae_at heap slots base) (let z : suc q + n ≡ q + suc n = omega arith in z)

pub arguments-ancillae : (heap slots : List ℕ) (base count : ℕ) → scope (values_at heap slots base count) [] ≡ ancillae_at heap slots base count
unfolding ancillae_at
arguments-ancillae heap slots base count =
    ap (λ i. scope (values_at heap slots i count) []) (let z : base ≡ base + 0 = omega arith in z)
    ∙ scope-values heap slots base 0 count ∙ ap (ancillae_at heap slots base) (let z : 0 + count ≡ count = omega arith in z)

-- variables that are all known are read as they are
filled-known : (ρ : List Val) → filled (map some ρ) ≡ map some ρ
unfolding filled
filled-known [] = refl
filled-known (v ∷ ρ) = ap (λ σ. some v ∷ σ) (filled-known ρ)

-- the dynamic argument comes last
pub arguments-state : (heap slots : List ℕ) (base count top : ℕ) → Ancillae slots base count top → get_or slots (base + count) 0 < top → top ≤ unknown
    → some (value_at heap (get_or slots (base + count) 0)) ∷ map some (ancillae_at heap slots base count) ≡ filled (state_at heap slots base (count + 1))
arguments-state heap slots base count top A low small =
    sym (ap filled (ap (state_at heap slots base) (add-one count) ∙ state-front heap slots base count
    ∙ ap₂ ◌∷◌ (ap (slotMeaning heap) (found-node heap (get_or slots (base + count) 0) (omega arith))) (state-ancillae heap slots base count top A small))
    ∙ filled-known (value_at heap (get_or slots (base + count) 0) ∷ ancillae_at heap slots base count))

----------------------------------------------------------------
-- The run of a function

-- the scope of its arguments, `count` ancilla values and the dynamic one, from slot `base` on
abbrev pub argument_scope : ℕ → ℕ → Scope
argument_scope base count = record { base = base; q = count; n = count + 1 }

module _ (code heap slots : List ℕ) (st : Machine) (base count : ℕ) (A : Ancillae slots base count st.top) (low : get_or slots (base + count) 0 < st.top)
    (small : st.top ≤ unknown)
    (g b : ℕ) (q : b ≡ body_in code g) (room : ℕ) where
  pub run-of-function : (ys : List TypeEntry)
      → run_forward fits (program_in code ys) room (called-tree code ys g) (values_at heap slots base count) (value_at heap (get_or slots (base + count) 0))
      st.fuel
      ≡ run_of code heap slots st (argument_scope base count) b room ys
  unfolding run_forward
  run-of-function ys =
      ap₂ (λ a (T : Term). forward fits (program_in code ys) room a (some (value_at heap (get_or slots (base + count) 0)) ∷ map some a) T st.fuel)
      (arguments-ancillae heap slots base count) (called-body code ys g ∙ ap (tree_in code ys) (sym q))
      ∙ ap (λ σ. forward fits (program_in code ys) room (ancillae_at heap slots base count) σ (tree_in code ys b) st.fuel)
      (arguments-state heap slots base count st.top A low small)

-- The first function of a run has its arguments in the first slots.
pub start-ready : {code heap slots : List ℕ} {st : Machine} {count g b room : ℕ} → Rows code → g < function_count code → b ≡ body_in code g
    → Graph heap st.top → ((i : ℕ) → i ≤ count → get_or slots i 0 < st.top) → node_bytes * (st.top + st.fuel) ≤ length heap → st.top + st.fuel ≤ stopped
    → count + 1 + slots_per_height * room ≤ slot_count → length slots ≡ slot_count → Ready 0 0 code heap slots st (argument_scope 0 count) b room
start-ready {slots = slots} {st = st} {count = count} {g = g} K l q G low nodes small fit full = record {
  rows = K;
  term = rw q (K.bodies g l);
  graph = G;
  held = record { held = λ j h. right (left (low j (omega arith))) };
  ancillae = λ i h. rw (let z : 0 + i ≡ i = omega arith in z) (low i (omega arith));
  within = omega arith;
  nodes = omega arith;
  small = omega arith;
  variables = omega arith;
  full = full;
  tall = omega arith;
}
