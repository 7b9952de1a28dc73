-- A backward run of a call that was admitted: the outcome of evaluation is the rules' run of the function, which does not stick.
use Prim.Native.Nat.{ℕ, ◌+◌, ◌≤◌, ◌<◌}
use native.Mathlib.Omega.{arith}
use mathlib.Core.Path.{◌≡◌, refl, sym, ap, ap₂, subst, ◌∙◌}
use mathlib.Core.List.{List, [], ◌∷◌, map}
use mathlib.Core.Logic.{inl as left, inr as right}
use lib.ListN.{length, get_or}
use package.Rattle.rules.specs.Limits.{fits, max_height, max_variables, max_nodes, max_parameters}
use package.Rattle.rules.specs.Val.{Val}
use package.Rattle.rules.specs.Run.{Res, ok}
use package.Rattle.rules.specs.Machine.{run_backward}
use package.Rattle.calls.specs.Entries.{type_at}
use package.Rattle.calls.specs.Values.{value, ancillae}
use package.Rattle.calls.specs.Runs.{ran, returns}
use package.Rattle.calls.proofs.Runs.Calls.{back}
use package.Rattle.program.specs.Programs.{program_in, function_in}
use package.Rattle.decoded.specs.Decoding.{Decodes}
use package.Rattle.valuegraph.specs.Nodes.{value_at}
use package.Rattle.valuegraph.proofs.Heaps.{heap_down}
use package.Rattle.scopes.specs.Slots.{slot_count, state_count, Machine, machine_of, slots_of, Moved}
use package.Rattle.scopes.specs.Bindings.{slots_from, view_of}
use package.Rattle.scopes.proofs.Views.{view_at, view_bound}
use package.Rattle.forward.specs.Ready.{values_at}
use package.Rattle.forward.proofs.Lending.{slots-full}
use package.Rattle.backward.specs.declared.outcomes.Refusal.{Refusal}
use Rattle.std.specs.Prelude.{Result, Ok}
use package.Rattle.backward.specs.Calls.{input_in}
use package.Rattle.backward.specs.Outcomes.{Status, Done, Refused, status_of, scope_view, outcome_of, refusal_of}
use package.Rattle.backward.specs.Scoped.{Bodies}
use package.Rattle.backward.specs.Calls.{Collected, values_scope, Starts, returned, Returns as Ran, StartsIn, ReturnsIn}
use package.Rattle.backward.proofs.Accepted.{accepted-bodies}
use package.Rattle.valuebytes.specs.Ends.{value_in, values_in}
use package.Rattle.admission.specs.Given.{given_in}
use package.Rattle.runs.specs.declared.begin.Start.{Start}
use package.Rattle.runs.specs.Begun.{Begun, BegunIn}
use package.Rattle.runs.specs.Ended.{Shaped, Means, Gives}
use package.Rattle.runs.specs.Back.{Returnable, input_of, Undone, Returns}
use package.Rattle.runs.proofs.Loads.{values_same}
use package.Rattle.runs.proofs.Starts.{admits, rows, in_rows, as_many, few-arguments, nodes_room, nodes_cells, same-program, same-function, shaped_of}
use package.Rattle.runs.specs.Ended.{RunAnswer}

----------------------------------------------------------------
-- Evaluation

module _ {xs terms functions heap : List ℕ} {g : ℕ} {anc bytes : List ℕ} {fuel : ℕ} (R : Returnable xs terms functions heap g anc bytes fuel) {code : List ℕ}
    (D : Decodes code xs terms functions) {heap' slots slots' : List ℕ} {start : Start} (B : Begun heap heap' slots slots' anc bytes start) where
  pub value-slot : start.count < slot_count
  value-slot = omega (arith, few-arguments R D B)

  bodies : Bodies code
  bodies = accepted-bodies R.loaded.read max_variables max_nodes (omega arith) R.loaded.typed D

  low : (i : ℕ) → i ≤ start.count → get_or slots' (0 + i) 0 < start.top
  low i h = subst (λ i. get_or slots' i 0 < start.top) (let z : i ≡ 0 + i = omega arith in z) (B.held i h)

  -- the ancillae are known
  known : Collected heap' (view_of slots' 0 start.count) start.count start.top
  unfolding max_parameters
  known = record {
    binds = record {
      bound = view_bound heap' slots' 0 start.count start.top (omega (arith, few-arguments R D B)) (λ i h. right (left (low i (omega arith))));
      within = omega arith;
      ancillae = λ i h. rw (view_at slots' 0 i (omega (arith, few-arguments R D B))) (low i (omega arith));
    };
    all = refl;
  }

  module _ {f : ℕ} (e : f ≡ fuel) (l : f < 65536) {node : ℕ} (q : node ≡ get_or slots' start.count 0) where
    abbrev st : Machine
    st = record { top = start.top; fuel = f }

    starts : length slots' ≡ slot_count → Starts code heap' slots' st (scope_view slots' (values_scope start.count)) start.count g node max_height
    starts full = record {
      machine = record {
        rows = rows R D;
        bodies = bodies;
        graph = B.graph;
        nodes = omega (arith, nodes_room R D B);
        small = omega (arith, nodes_cells R D B (omega arith));
        variables = omega arith;
        all = full;
      };
      function = in_rows R D;
      arguments = known;
      parameters = omega (arith, as_many R D, B.count);
      value = rw q (B.held start.count (omega arith));
    }

    module _ (r : Result ℕ Refusal) {heap'' slots'' : List ℕ} {m' : Machine}
        (d : Ran code heap' heap'' slots' slots'' st (scope_view slots' (values_scope start.count)) start.count g node max_height
        (record { out = outcome_of r slots'' m' (values_scope start.count); newest = input_in r })) where
      values : values_at heap' (slots_from slots' 0 max_variables) 0 start.count ≡ values_in anc
      unfolding max_parameters
      values =
          values_same heap' (slots_from slots' 0 max_variables) slots' 0 start.count
          (λ i h h'. view_at slots' 0 i (omega (arith, few-arguments R D B)) ∙ ap (λ j. get_or slots' j 0) (let z : 0 + i ≡ i = omega arith in z)) ∙ B.values

      value_is : value_at heap' node ≡ value_in bytes
      value_is = ap (value_at heap') q ∙ B.last

      answers : (types : List ℕ) → input_of heap'' (status_of r) (input_in r) m'
          ≡ run_backward fits (program_in xs types terms functions) max_height (function_in xs types terms (get_or functions g 0)) (values_in anc) (value_in bytes) fuel
      answers types =
          d.answer (map (type_at xs) types)
          ∙ ap₂ (λ P h. run_backward fits P max_height h (values_at heap' (slots_from slots' 0 max_variables) 0 start.count) (value_at heap' node) f)
          (same-program R D types) (same-function R D types)
          ∙ ap₂ (λ vs v. run_backward fits (program_in xs types terms functions) max_height (function_in xs types terms (get_or functions g 0)) vs v f)
          values value_is
          ∙ ap (run_backward fits (program_in xs types terms functions) max_height (function_in xs types terms (get_or functions g 0))
          (values_in anc) (value_in bytes)) e

      undone : Undone xs terms functions heap'' g anc bytes fuel (status_of r) (input_in r) m'
      undone = record {
        graph = d.moves.graph;
        there = d.there;
        spends = omega (arith, d.moves.spends);
        answer = answers;
        shaped = λ s. back.safe (program_in xs R.types terms functions) g (ancillae anc) (value bytes) (given_in xs R.types terms functions g anc bytes) fuel
            R.loaded.typed (admits R) (sym (answers R.types) ∙ s);
      }

----------------------------------------------------------------
-- In code

module _ {xs terms functions heap : List ℕ} {g : ℕ} {anc bytes : List ℕ} {fuel : ℕ} (R : Returnable xs terms functions heap g anc bytes fuel) {code : List ℕ}
    (D : Decodes code xs terms functions) {heap' st₀ st st₁ : List ℕ} {start : Start} (B : BegunIn heap heap' st₀ st anc bytes start) {f : ℕ} (e : f ≡ fuel) (l : f < 65536)
    (M : Moved st st₁ (record { top = start.top; fuel = f })) (full : length st₀ ≡ state_count) {node : ℕ} (q : node ≡ get_or (slots_of st₁) start.count 0) where
  abbrev machine : Machine
  machine = record { top = start.top; fuel = f }

  q' : node ≡ get_or (slots_of st) start.count 0
  q' = q ∙ ap (λ slots. get_or slots start.count 0) M.slots

  pub undo_ready : StartsIn code heap' st₁ start.count g node max_height
  undo_ready = record {
    full = M.lengths ∙ B.lengths ∙ full;
    starts = subst (λ m. Starts code heap' (slots_of st₁) m (scope_view (slots_of st₁) (values_scope start.count)) start.count g node max_height)
        (sym M.machine)
        (subst (λ slots. Starts code heap' slots machine (scope_view slots (values_scope start.count)) start.count g node max_height) (sym M.slots)
        (starts R D B.begun e l q' (slots-full st (B.lengths ∙ full))));
    space = omega (arith, few-arguments R D B.begun);
  }

  pub undo_told : {heap'' st₂ : List ℕ} {r : Result ℕ Refusal} {t' f' : ℕ} → ReturnsIn code heap' heap'' st₁ st₂ start.count g node max_height r
      → t' ≡ (machine_of st₂).top → f' ≡ (machine_of st₂).fuel
      → Undone xs terms functions heap'' g anc bytes fuel (status_of r) (input_in r) (machine_of (t' ∷ f' ∷ []))
  undo_told {heap''} {st₂} {r} d et ef =
      subst (Undone xs terms functions heap'' g anc bytes fuel (status_of r) (input_in r)) (ap₂ (λ t f. record { top = t; fuel = f }) (sym et) (sym ef))
      (undone R D B.begun e l q' r
      (subst (λ slots. Ran code heap' heap'' slots (slots_of st₂) machine (scope_view slots (values_scope start.count)) start.count g node max_height
      (record { out = outcome_of r (slots_of st₂) (machine_of st₂) (values_scope start.count); newest = input_in r })) M.slots
      (subst (λ m. Ran code heap' heap'' (slots_of st₁) (slots_of st₂) m (scope_view (slots_of st₁) (values_scope start.count)) start.count g node max_height
      (record { out = outcome_of r (slots_of st₂) (machine_of st₂) (values_scope start.count); newest = input_in r })) M.machine d.returns)))

-- the node of the input
pub given : {xs terms functions heap' : List ℕ} {g : ℕ} {anc bytes : List ℕ} {fuel : ℕ} {s : Status} {r : Result ℕ Refusal} {node : ℕ} {st : Machine}
    → r ≡ Ok node → Undone xs terms functions heap' g anc bytes fuel s (input_in r) st → Undone xs terms functions heap' g anc bytes fuel s node st
given e U = rw e at U

----------------------------------------------------------------
-- The answer

module _ {xs terms functions heap' : List ℕ} {g : ℕ} {anc bytes : List ℕ} {fuel : ℕ} {s : Status} {node : ℕ} {st : Machine} (U : Undone xs terms functions heap' g anc bytes fuel s node st) where
  done : s ≡ Done → input_of heap' s node st ≡ ok (value_at heap' node) st.fuel
  unfolding returned
  done e = ap (returned heap' node st.fuel) e

  refused : {w : Refusal} → s ≡ Refused w → input_of heap' s node st ≡ refusal_of w
  unfolding returned
  refused e = ap (returned heap' node st.fuel) e

  pub gives : s ≡ Done → Gives heap' node fuel st.fuel
  gives e = record { right = heap_down (node + 1) (omega (arith, U.there e)) U.graph.right; less = U.spends }

  pub shaped : {w : Refusal} → s ≡ Refused w → Shaped w
  shaped {w} e = shaped_of w λ z. U.shaped (refused e ∙ z)

  module _ {a : RunAnswer} {out out' : List ℕ} where
    returns_as : {x : Res Val} → input_of heap' s node st ≡ x → Means a out out' (ran fuel x) → Returns a xs terms functions g anc bytes fuel out out'
    unfolding returns
    returns_as e m = record { means = λ types. subst (λ x. Means a out out' (ran fuel x)) (sym e ∙ U.answer types) m }

    pub returns_value : s ≡ Done → Means a out out' (ran fuel (ok (value_at heap' node) st.fuel)) → Returns a xs terms functions g anc bytes fuel out out'
    returns_value e m = returns_as (done e) m

    pub returns_refused : {w : Refusal} → s ≡ Refused w → Means a out out' (ran fuel (refusal_of w)) → Returns a xs terms functions g anc bytes fuel out out'
    returns_refused e m = returns_as (refused e) m
