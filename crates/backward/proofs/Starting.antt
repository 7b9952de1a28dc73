-- The run of a function in code is the rules' `run_backward`: its ancilla values are known, its dynamic parameter is not, and the value that
-- this was met with is the answer.
use Prim.Native.Nat.{ℕ, ◌+◌, ◌<◌}
use native.Mathlib.Omega.{arith}
use mathlib.Core.Path.{◌≡◌, refl, sym, ap, ap₂, ◌∙◌}
use mathlib.Core.Option.{none, some}
use mathlib.Core.List.{List, [], ◌∷◌, map}
use lib.ListN.{get_or}
use package.Rattle.rules.specs.Limits.{fits, max_functions, max_variables}
use package.Rattle.rules.specs.Val.{Val}
use package.Rattle.rules.specs.Term.{Term}
use package.Rattle.rules.specs.Run.{Res, ok, stop, stuck, Run, after, give, lost}
use package.Rattle.rules.specs.Machine.{State, leave, backward, run_backward}
use package.Rattle.calls.specs.Entries.{TypeEntry}
use package.Rattle.decoded.specs.Rows.{body_in, program_in, tree_in}
use package.Rattle.decoded.proofs.Trees.{called-body, called-tree}
use package.Rattle.valuegraph.specs.Nodes.{value_at}
use package.Rattle.scopes.specs.Bindings.{View, bound}
use package.Rattle.scopes.specs.Slots.{Machine, Scope, machine_of, slots_of, scope_in, found, node_or}
use package.Rattle.scopes.specs.declared.bindings.Bindings.{Bindings}
use package.Rattle.scopes.proofs.Views.{tells_first}
use package.Rattle.yields.specs.Yields.{ancillae_at}
use package.Rattle.forward.proofs.Starting.{arguments-ancillae}
use package.Rattle.backward.specs.Outcomes.{Status, Done, Refused, Inner, outcome_of, left_with, inner_of, scope_view}
use package.Rattle.backward.specs.Ready.{Ready, RanUnder, Prepared, PreparedUnder, GoneUnder, under_of, Leavable, under_at}
use package.Rattle.backward.specs.Calls.{Starts, returned, Returns, StartsIn, values_scope}
use package.Rattle.backward.proofs.Runs.{refusal-after, not_done, small_top}
use package.Rattle.backward.proofs.Stops.{is_stopped}
use package.Rattle.backward.proofs.Leaving.{held-under, looked, in_slot}
use package.Rattle.backward.proofs.Calling.{arguments-state, body-ready}
use Rattle.std.specs.Prelude.{Ok, Err}
use package.Rattle.backward.specs.Outcomes.{Out}
use Rattle.backward.specs.declared.outcomes.Refusal.{Refusal}
use package.Rattle.backward.proofs.Stops.{is_done}
use mathlib.Core.Path.{subst}

----------------------------------------------------------------
-- The value of the variable that leaves

-- it is kept, and then given
abbrev keep : Val → State → Run State
keep w σ fuel = ok (some w ∷ σ) fuel

unfoldable newest : State → Run Val
newest [] = lost
newest (none ∷ σ) = lost
newest (some w ∷ σ) = give w

leave-value : (x : Res State) → after x (λ σ. leave σ (λ w σ. give w)) ≡ after (after x (λ σ. leave σ keep)) newest
unfolding after leave newest
leave-value (ok [] f) = refl
leave-value (ok (none ∷ σ) f) = refl
leave-value (ok (some v ∷ σ) f) = refl
leave-value (stop n e) = refl
leave-value stuck = refl

left-returned : (heap : List ℕ) (b : View) (node fuel : ℕ) (s : Status) → after (left_with heap b node fuel s keep) newest ≡ returned heap node fuel s
unfolding after newest left_with returned
left-returned heap b node fuel Done = refl
left-returned heap b node fuel (Refused why) = refusal-after why newest

----------------------------------------------------------------
-- The run

module _ {code heap slots : List ℕ} {st : Machine} {args : View} {q g node room : ℕ} (S : Starts code heap slots st args q g node room) where
  pub start-reads : g < max_functions
  start-reads = omega (arith, S.function, S.machine.rows.few_functions)

  pub start-space : args.len < max_variables
  start-space = omega (arith, S.arguments.all, S.parameters, S.machine.bodies.few g S.function)

  module _ {u : ℕ} (qu : u ≡ body_in code g) where
    pub start-ready : Ready 0 0 code heap slots st args q (args.len + 1) u room
    start-ready = body-ready S.machine S.arguments S.function S.parameters qu

    pub start_done : {heap' slots' : List ℕ} {r : Inner} → RanUnder 0 heap heap' slots slots' st args r (under_of code heap st args q u (value_at heap node) room)
        → Returns code heap heap' slots slots' st args q g node room r
    unfolding run_backward
    start_done {heap'} {slots'} {r} d = record {
      moves = d.moves;
      there = d.there;
      answer = λ ys.
          sym (left-returned heap' r.out.bindings r.newest r.out.state.fuel r.out.status)
          ∙ ap (λ x. after x newest) (sym (d.answer ys keep))
          ∙ sym (leave-value (under_of code heap st args q u (value_at heap node) room ys))
          ∙ ap₂ (λ σ (T : Term). after (backward fits (program_in code ys) room (ancillae_at heap args.slots 0 q) (none ∷ σ) T (value_at heap node)
          st.fuel) (λ σ. leave σ (λ w σ. give w)))
          (sym (arguments-state S.arguments (small_top S.machine))) (ap (tree_in code ys) qu ∙ sym (called-body code ys g))
          ∙ ap (λ (a : List Val). after (backward fits (program_in code ys) room a (none ∷ map some a) (function ys) (value_at heap node) st.fuel)
          (λ σ. leave σ (λ w σ. give w)))
          (sym (arguments-ancillae heap args.slots 0 q));
    }
      where
        function : List TypeEntry → Term
        function ys = (called-tree code ys g).body

----------------------------------------------------------------
-- In code

module _ {code heap st : List ℕ} {q g node room : ℕ} (S : StartsIn code heap st q g node room) where
  pub begin_space : q < max_variables
  begin_space = start-space S.starts

  module _ {sc : Scope} (w : sc ≡ values_scope q) {u : ℕ} (qu : u ≡ body_in code g) where
    pub begin_few : sc.n < max_variables
    begin_few = rw w begin_space

    pub begin_prepared : {args : Bindings} → args.head ≡ 0 → Prepared 0 0 code heap (slots_of st) (machine_of st) args sc (sc.n + 1) u room
    begin_prepared none_bound = rw w (record {
      ready = start-ready S.starts qu;
      tells = tells_first heap (slots_of st) 0 q (machine_of st).top none_bound S.starts.machine.graph.some;
      older = record { held = λ j l. absurd (omega arith) };
      space = omega (arith, S.space);
    })

    module _ {heap' slots' : List ℕ} {m' : Machine} {r : Out}
        (G : GoneUnder heap heap' (slots_of st) slots' (machine_of st) m' sc r (under_at code heap (slots_of st) (machine_of st) sc u (value_at heap node) room))
      where
        here : GoneUnder heap heap' (slots_of st) slots' (machine_of st) m' (values_scope q) r
            (under_at code heap (slots_of st) (machine_of st) (values_scope q) u (value_at heap node) room)
        here = rw w at G

        pub begin_leaves : {bs : Bindings} → r ≡ Ok bs → Leavable heap' slots' bs sc m'.top
        begin_leaves e =
            looked (held-under S.starts.machine refl here) here e q (omega arith) (omega arith) (omega (arith, S.space)) (here.slot (is_done e))
            (ap (λ (sc : Scope). sc.base) w) (ap (λ (sc : Scope). sc.n) w)

        all_done : Returns code heap heap' (slots_of st) slots' (machine_of st) (scope_view (slots_of st) (values_scope q)) q g node room
            (inner_of heap' r slots' m' (values_scope q))
        all_done = start_done S.starts qu here.ran

        pub input_there : {bs : Bindings} → r ≡ Ok bs → {x : ℕ} → x ≡ node_or (bound heap' bs sc.n)
            → Returns code heap heap' (slots_of st) slots' (machine_of st) (scope_view (slots_of st) (values_scope q)) q g node room
            (record { out = outcome_of (Ok x) slots' m' (values_scope q); newest = x })
        input_there e qx =
            rw (in_slot (held-under S.starts.machine refl here) here e q (omega arith) (omega arith) (rw w at qx))
            (subst (λ s. Returns code heap heap' (slots_of st) slots' (machine_of st) (scope_view (slots_of st) (values_scope q)) q g node room
            (record { out = record { status = s; state = m'; bindings = scope_view slots' (values_scope q) }; newest = node_or (found heap' (get_or slots' (0 + q) 0)) }))
            (is_done e) all_done)

        pub input_missing : {why : Refusal} → r ≡ Err why
            → Returns code heap heap' (slots_of st) slots' (machine_of st) (scope_view (slots_of st) (values_scope q)) q g node room
            (record { out = outcome_of {A = ℕ} (Err why) slots' m' (values_scope q); newest = 0 })
        unfolding returned
        input_missing {why} d = record {
          moves = all_done.moves;
          there = λ n. absurd (not_done refl n);
          answer = λ ys. sym (ap (returned heap' (node_or (found heap' (get_or slots' (0 + q) 0))) m'.fuel) (is_stopped d)) ∙ all_done.answer ys;
        }

pub begin_inner : {code heap st : List ℕ} {q g node room : ℕ} (S : StartsIn code heap st q g node room) {callee : ℕ} → scope_in callee ≡ values_scope q
    → {u : ℕ} → u ≡ body_in code g → {args : Bindings} → args.head ≡ 0 → PreparedUnder code heap st args callee u room
begin_inner S w qu none_bound = record { full = S.full; prepared = begin_prepared S w qu none_bound }
