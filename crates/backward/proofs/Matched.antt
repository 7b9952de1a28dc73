-- A case under first match: the branch that is run, by what the left one may yield; then the scrutinee, with inl or inr of the value that the
-- branch's variable was met with.
use Prim.Native.Nat.{ℕ, ◌+◌, ◌-◌, ◌≤◌, ◌<◌}
use native.Mathlib.Omega.{arith}
use mathlib.Core.Path.{◌≡◌, sym, ap, ap₂, ◌∙◌}
use mathlib.Core.Bool.{Bool, true, false, cond}
use mathlib.Core.Option.{none}
use mathlib.Core.Logic.{inl as left, inr as right}
use mathlib.Core.List.{List, ◌∷◌}
use lib.ListN.{length}
use package.Rattle.program.specs.Kinds.{case_kind}
use package.Rattle.rules.specs.Limits.{fits, max_variables}
use package.Rattle.rules.specs.Val.{Val, inl, inr}
use package.Rattle.rules.specs.Run.{Res, Run, after}
use package.Rattle.rules.specs.Term.{by_ancilla}
use package.Rattle.rules.specs.Yield.{may_yield}
use package.Rattle.rules.specs.Machine.{State, leave, forward, case_back, backward_step, backward}
use package.Rattle.calls.specs.Entries.{TypeEntry}
use package.Rattle.decoded.specs.Rows.{first_in, kind_in, program_in, second_in, third_in, tree_in}
use package.Rattle.decoded.proofs.Trees.{parts_case, tree_case}
use package.Rattle.valuegraph.specs.Nodes.{of_kind, Single, value_at}
use package.Rattle.scopes.specs.Bindings.{View, state_of}
use package.Rattle.scopes.specs.Slots.{Machine}
use package.Rattle.scopes.proofs.Scopes.{length-state}
use package.Rattle.yields.proofs.Ancillae.{length-ancillae}
use package.Rattle.backward.specs.Outcomes.{Done, Refused, Outcome, Inner}
use package.Rattle.backward.specs.Ready.{Ready, RanBackward, RanUnder, ancillae_of, run_of, under_of, step_of}
use package.Rattle.backward.proofs.Runs.{says, slack, under-refused, under_done}
use package.Rattle.backward.proofs.Parts.{later, ancillae-after, owing_none, in_scope, part, scoped_case}
use package.Rattle.backward.proofs.Steps.{go, stepped}
use Rattle.backward.specs.declared.outcomes.Refusal.{Refusal}

pub side-single : (l : Bool) {side : ℕ} → side ≡ cond l 1 2 → Single side
side-single true e = left e
side-single false e = right (left e)

module _ {code heap slots : List ℕ} {st : Machine} {b : View} {q t room : ℕ} (rd : Ready 2 1 code heap slots st b q b.len t room)
    {node : ℕ} (low : node < st.top) (kind : kind_in code t ≡ case_kind)
    (plain : (ys : List TypeEntry) → by_ancilla q b.len (tree_in code ys (first_in code t)) ≡ false) where
  abbrev step : List TypeEntry → Res State
  step = step_of code heap st b q t (value_at heap node) room

  pub case_space : b.len < max_variables
  case_space = (scoped_case rd kind).0

  module _ {f : ℕ} (qf : f ≡ second_in code t) (l : Bool) (Y : (ys : List TypeEntry)
      → l ≡ may_yield (ancillae_of heap b q) (tree_in code ys f) (value_at heap node)) {u : ℕ} (qu : u ≡ first_in code t)
      {v : ℕ} (qv : v ≡ cond l (second_in code t) (third_in code t)) {side : ℕ} (qs : side ≡ cond l 1 2) where
    pub case_branch : Ready 0 0 code heap slots st b q (b.len + 1) v (room - 1)
    case_branch = of l qv
      where
        of : (l : Bool) → v ≡ cond l (second_in code t) (third_in code t) → Ready 0 0 code heap slots st b q (b.len + 1) v (room - 1)
        of true e = rw e (owing_none (part rd (second_in code t) (b.len + 1) (parts_case rd.machine.rows t rd.term kind).1 (scoped_case rd kind).2))
        of false e = rw e (owing_none (part rd (third_in code t) (b.len + 1) (parts_case rd.machine.rows t rd.term kind).2 (scoped_case rd kind).3))

    abbrev case_next : List TypeEntry → Val → State → Run State
    case_next ys w σ = go rd low ys σ u (of_kind side w w)

    -- the case does not choose by an ancilla in the rules' state, either
    plain_here : (ys : List TypeEntry) → by_ancilla (length (ancillae_of heap b q)) (length (state_of heap b)) (tree_in code ys (first_in code t)) ≡ false
    unfolding state_of
    plain_here ys = ap₂ (λ q n. by_ancilla q n (tree_in code ys (first_in code t))) (length-ancillae heap b.slots 0 q)
        (length-state heap b.slots 0 b.len) ∙ plain ys

    -- whether the left branch may yield the value
    yields-left : (ys : List TypeEntry) → may_yield (ancillae_of heap b q) (tree_in code ys (second_in code t)) (value_at heap node) ≡ l
    yields-left ys = ap (λ f. may_yield (ancillae_of heap b q) (tree_in code ys f) (value_at heap node)) (sym qf) ∙ sym (Y ys)

    -- the step, by the answer
    abbrev by_answer : List TypeEntry → Bool → Res State
    by_answer ys m =
        after (backward fits (program_in code ys) (room - 1) (ancillae_of heap b q) (none ∷ state_of heap b)
        (cond m (tree_in code ys (second_in code t)) (tree_in code ys (third_in code t))) (value_at heap node) st.fuel)
        (λ σ. leave σ (λ w σ. go rd low ys σ (first_in code t) (cond m (inl w) (inr w))))

    step_case : (ys : List TypeEntry) → step ys ≡ after (under_of code heap st b q v (value_at heap node) (room - 1) ys) (λ σ. leave σ (case_next ys))
    unfolding backward_step case_back of_kind
    step_case ys =
        stepped rd low ys (tree_case rd.machine.rows t rd.term ys kind)
        ∙ ap (λ c. case_back (forward fits (program_in code ys) (room - 1)) (backward fits (program_in code ys) (room - 1)) (ancillae_of heap b q)
        (state_of heap b) (tree_in code ys (first_in code t)) (tree_in code ys (second_in code t)) (tree_in code ys (third_in code t)) (value_at heap node) c
        (may_yield (ancillae_of heap b q) (tree_in code ys (second_in code t)) (value_at heap node)) st.fuel) (plain_here ys)
        ∙ ap (by_answer ys) (yields-left ys) ∙ chosen l qv qs
        ∙ ap (λ u. after (under_of code heap st b q v (value_at heap node) (room - 1) ys) (λ σ. leave σ (λ w σ. go rd low ys σ u (of_kind side w w)))) (sym qu)
      where
        chosen : (l : Bool) → v ≡ cond l (second_in code t) (third_in code t) → side ≡ cond l 1 2
            → by_answer ys l ≡ after (under_of code heap st b q v (value_at heap node) (room - 1) ys)
            (λ σ. leave σ (λ w σ. go rd low ys σ (first_in code t) (of_kind side w w)))
        chosen true e e' =
            ap₂ (λ v side. after (under_of code heap st b q v (value_at heap node) (room - 1) ys)
            (λ σ. leave σ (λ w σ. go rd low ys σ (first_in code t) (of_kind side w w)))) (sym e) (sym e')
        chosen false e e' =
            ap₂ (λ v side. after (under_of code heap st b q v (value_at heap node) (room - 1) ys)
            (λ σ. leave σ (λ w σ. go rd low ys σ (first_in code t) (of_kind side w w)))) (sym e) (sym e')

    module _ {j : ℕ} {heap₁ slots₁ : List ℕ} {r : Inner} (d : RanUnder j heap heap₁ slots slots₁ st b r (under_of code heap st b q v (value_at heap node) (room - 1))) where
      pub case_refused : j ≤ 1 → {why : Refusal} → r.out.status ≡ Refused why → RanBackward 2 heap heap₁ slots slots₁ st b r.out step
      case_refused few s = slack (under-refused d case_next s step_case) 2 (omega arith)

      module _ (few : j ≤ 1) (s : r.out.status ≡ Done) where
        pub case_sum : Ready 1 0 code heap₁ slots₁ r.out.state r.out.bindings q r.out.bindings.len u (room - 1)
        case_sum = in_scope r.out.bindings.len (sym (d.follows s).len)
            (rw qu (later (part rd (first_in code t) b.len (parts_case rd.machine.rows t rd.term kind).0 (scoped_case rd kind).1) d.moves
            (d.follows s) 1 (omega arith)))

        pub case_done : {heap₂ slots₂ : List ℕ} {r₂ : Outcome} → RanBackward 1 heap₁ heap₂ slots₁ slots₂ r.out.state r.out.bindings r₂
            (run_of code heap₁ r.out.state r.out.bindings q u (of_kind side (value_at heap₁ r.newest) (value_at heap₁ r.newest)) (room - 1))
            → RanBackward 2 heap heap₂ slots slots₂ st b r₂ step
        case_done d₂ =
            under_done d case_next s step_case 2 (omega arith) (says d₂ (λ ys.
            ap (λ a. backward fits (program_in code ys) (room - 1) a (state_of heap₁ r.out.bindings) (tree_in code ys u)
            (of_kind side (value_at heap₁ r.newest) (value_at heap₁ r.newest)) r.out.state.fuel)
            (sym (ancillae-after rd d.moves (d.follows s))))) (d.follows s)
