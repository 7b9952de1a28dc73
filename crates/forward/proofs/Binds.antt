-- What terms that bind variables do: a variable more in scope; let, let pair, case.
use Prim.Native.Nat.{ℕ, zero, suc, ◌+◌, ◌-◌, ◌<◌}
use native.Mathlib.Omega.{arith}
use native.Mathlib.Numerals.{add-one}
use mathlib.Core.Path.{◌≡◌, refl, sym, ap, ap₂, subst, ◌∙◌}
use mathlib.Core.Logic.{inl as left, inr as right}
use mathlib.Core.Option.{some}
use mathlib.Core.List.{List, ◌∷◌}
use lib.ListN.{length, get_or, set, length-set}
use lib.Seq.{get_or-set_other}
use package.Rattle.program.specs.Kinds.{let_kind, let_pair_kind, case_kind}
use package.Rattle.rules.specs.Limits.{fits}
use package.Rattle.rules.specs.Val.{Val, inl, inr, pair}
use package.Rattle.rules.specs.Run.{Res, stuck, Run, after, give, test}
use package.Rattle.rules.specs.Yield.{first_match}
use package.Rattle.rules.specs.Machine.{State, on_sum, on_pair, filled, forward_step, forward}
use package.Rattle.rules.proofs.State.{length-filled}
use package.Rattle.calls.specs.Entries.{TypeEntry}
use package.Rattle.valuegraph.specs.Nodes.{value_within, value_at, of_kind, left_at, right_at, kind_at as nodeKind}
use package.Rattle.valuegraph.proofs.Heaps.{value_inl, value_inr, value-pair}
use package.Rattle.scopes.specs.Slots.{slot_count, meaning as slotMeaning, state_at, Slots, Machine, Scope}
use package.Rattle.scopes.proofs.Marks.{found-node}
use package.Rattle.scopes.proofs.Scopes.{length-state, state_bind, slots_bind}
use package.Rattle.yields.proofs.Ancillae.{ancillae-same}
use package.Rattle.forward.specs.Outcomes.{Out, refusal_of}
use package.Rattle.forward.specs.Ready.{Ready, RanForward, Checks, ancillae_of, state_of, run_of, under_of, step_of}
use package.Rattle.forward.proofs.Answers.{below-mark}
use package.Rattle.forward.proofs.Runs.{says, slack, halted, part-refused, part-answered, fewer, later, ancillae_later, state_later, part}
use package.Rattle.forward.proofs.Steps.{stepped}
use Rattle.forward.specs.declared.outcomes.Refusal.{Refusal}
use Rattle.forward.specs.declared.outcomes.Refusal.TheVariants.{Stuck}
use package.Rattle.decoded.specs.Rows.{first_in, kind_in, program_in, second_in, third_in, tree_in}
use package.Rattle.decoded.proofs.Trees.{parts_case, parts_let, parts_letp, tree_case, tree_let, tree_letp}
use Rattle.std.specs.Prelude.{Ok, Err}

----------------------------------------------------------------
-- A variable more

-- the scope with it
abbrev pub opened : Scope → Scope
opened sc = record { base = sc.base; q = sc.q; n = sc.n + 1 }

-- its slot is there
pub bind_room : {k v : ℕ} {code heap slots : List ℕ} {st : Machine} {sc : Scope} {t room : ℕ} → Ready k (suc v) code heap slots st sc t room
    → sc.base + sc.n < slot_count
bind_room rd = omega (arith, rd.variables, rd.full)

module _ {k v : ℕ} {code heap slots : List ℕ} {st : Machine} {sc : Scope} {t room : ℕ} (rd : Ready k (suc v) code heap slots st sc t room)
    (node : ℕ) (low : node < st.top) {slots₁ : List ℕ} (e : slots₁ ≡ set slots (sc.base + sc.n) node) where
  abbrev m : ℕ
  m = sc.base + sc.n

  pub bound-below : (j : ℕ) → j < m → get_or slots j 0 ≡ get_or slots₁ j 0
  bound-below j h = rw e (sym (get_or-set_other slots m j node 0 (λ q. omega arith)))

  pub bound-length : length slots ≡ length slots₁
  bound-length = rw e (sym (length-set slots m node))

  pub bound-ready : Ready k v code heap slots₁ st (opened sc) t room
  bound-ready = record {
    rows = rd.rows;
    term = rd.term;
    graph = rd.graph;
    held = subst (λ n. Slots heap slots₁ n st.top) (let z : suc m ≡ sc.base + (sc.n + 1) = omega arith in z)
        (rw e (slots_bind heap slots m st.top node (omega (arith, bind_room rd, rd.full)) rd.held (right (left low))));
    ancillae = λ i h. rw (← bound-below (sc.base + i) (omega (arith, rd.within))) (rd.ancillae i h);
    within = omega (arith, rd.within);
    nodes = rd.nodes;
    small = rd.small;
    variables = omega (arith, rd.variables, bound-length);
    full = sym bound-length ∙ rd.full;
    tall = rd.tall;
  }

  pub bound-ancillae : ancillae_of heap slots₁ (opened sc) ≡ ancillae_of heap slots sc
  bound-ancillae = sym (ancillae-same heap slots slots₁ sc.base sc.q (λ j h. bound-below j (omega (arith, rd.within))))

  pub bound-state : state_of heap slots₁ (opened sc) ≡ some (value_at heap node) ∷ state_of heap slots sc
  unfolding filled
  bound-state =
      ap filled (ap₂ (λ (s : List ℕ) (n : ℕ). state_at heap s sc.base n) e (add-one sc.n)
      ∙ state_bind heap slots sc.base sc.n node (omega (arith, bind_room rd, rd.full))
      ∙ ap (λ f. slotMeaning heap f ∷ state_at heap slots sc.base sc.n) (found-node heap node (omega (arith, rd.small, below-mark))))

  -- the term was run in that scope
  pub bound_done : {heap' slots' : List ℕ} {out : Out} → RanForward 0 heap heap' (sc.base + (sc.n + 1)) slots₁ slots' st out
      (run_of code heap slots₁ st (opened sc) t room)
      → RanForward 0 heap heap' m slots slots' st out (under_of code heap slots st sc node t room)
  bound_done d = record {
    agree = d.agree;
    graph = d.graph;
    below = λ j h. bound-below j h ∙ d.below j (omega arith);
    lengths = bound-length ∙ d.lengths;
    grows = d.grows;
    spends = d.spends;
    owes = d.owes;
    node = d.node;
    answer = λ ys. d.answer ys ∙ ap₂ (λ a σ. forward fits (program_in code ys) room a σ (tree_in code ys t) st.fuel) bound-ancillae bound-state;
  }

  -- the term was run in the scope with another variable besides
  pub bound-twice : {heap' slots' : List ℕ} {out : Out} (node₂ : ℕ)
      → RanForward 0 heap heap' (sc.base + (sc.n + 1)) slots₁ slots' st out (under_of code heap slots₁ st (opened sc) node₂ t room)
      → RanForward 0 heap heap' m slots slots' st out (λ ys. forward fits (program_in code ys) room (ancillae_of heap slots sc)
      (some (value_at heap node₂) ∷ some (value_at heap node) ∷ state_of heap slots sc) (tree_in code ys t) st.fuel)
  bound-twice node₂ d = record {
    agree = d.agree;
    graph = d.graph;
    below = λ j h. bound-below j h ∙ d.below j (omega arith);
    lengths = bound-length ∙ d.lengths;
    grows = d.grows;
    spends = d.spends;
    owes = d.owes;
    node = d.node;
    answer = λ ys. d.answer ys
        ∙ ap₂ (λ a σ. forward fits (program_in code ys) room a (some (value_at heap node₂) ∷ σ) (tree_in code ys t) st.fuel) bound-ancillae bound-state;
  }

----------------------------------------------------------------
-- Values of another kind

pub no-pair : {A : Type 0} (n : ℕ) (v w : Val) (next : Val → Val → Run A) (fuel : ℕ) → ¬ (n ≡ 3) → on_pair (of_kind n v w) next fuel ≡ stuck
unfolding on_pair of_kind
no-pair zero v w next fuel d = refl
no-pair (suc zero) v w next fuel d = refl
no-pair (suc (suc zero)) v w next fuel d = refl
no-pair (suc (suc (suc zero))) v w next fuel d = absurd (d refl)
no-pair (suc (suc (suc (suc n)))) v w next fuel d = refl

no-sum : {A : Type 0} (n : ℕ) (v w : Val) (l r : Val → Run A) (fuel : ℕ) → ¬ (n ≡ 1) → ¬ (n ≡ 2) → on_sum (of_kind n v w) l r fuel ≡ stuck
unfolding on_sum of_kind
no-sum zero v w l r fuel d d' = refl
no-sum (suc zero) v w l r fuel d d' = absurd (d refl)
no-sum (suc (suc zero)) v w l r fuel d d' = absurd (d' refl)
no-sum (suc (suc (suc zero))) v w l r fuel d d' = refl
no-sum (suc (suc (suc (suc n)))) v w l r fuel d d' = refl

module _ (heap : List ℕ) (node fuel : ℕ) where
  node-no-pair : (next : Val → Val → Run Val) → ¬ (nodeKind heap node ≡ 3) → on_pair (value_at heap node) next fuel ≡ stuck
  unfolding value_at value_within
  node-no-pair next d = no-pair (nodeKind heap node) _ _ next fuel d

  pub node-no-sum : {A : Type 0} (l r : Val → Run A) → ¬ (nodeKind heap node ≡ 1) → ¬ (nodeKind heap node ≡ 2) → on_sum (value_at heap node) l r fuel ≡ stuck
  unfolding value_at value_within
  node-no-sum l r d d' = no-sum (nodeKind heap node) _ _ l r fuel d d'

----------------------------------------------------------------
-- By kind

module _ {code heap slots : List ℕ} {st : Machine} {sc : Scope} {t room : ℕ} (rd : Ready 1 0 code heap slots st sc t room) where
  abbrev end : ℕ
  end = sc.base + sc.n

  abbrev run : ℕ → List TypeEntry → Res Val
  run b = run_of code heap slots st sc b (room - 1)

  abbrev step : List TypeEntry → Res Val
  step = step_of code heap slots st sc t room

  -- a part in the scope with more variables
  abbrev within : ℕ → List TypeEntry → State → Run Val
  within b ys more = forward fits (program_in code ys) (room - 1) (ancillae_of heap slots sc) more (tree_in code ys b)

  abbrev state : State
  state = state_of heap slots sc

  module _ {heap₁ slots₁ : List ℕ} {r₁ : Out} {res : List TypeEntry → Res Val} (d : RanForward 0 heap heap₁ end slots slots₁ st r₁ res) where
    -- the same, once another part was run
    under_later : (node b : ℕ) (ys : List TypeEntry)
        → under_of code heap₁ slots₁ r₁.state sc node b (room - 1) ys ≡ within b ys (some (value_at heap₁ node) ∷ state) r₁.state.fuel
    under_later node b ys =
        ap₂ (λ a σ. forward fits (program_in code ys) (room - 1) a (some (value_at heap₁ node) ∷ σ) (tree_in code ys b) r₁.state.fuel)
        (sym (ancillae_later rd d)) (sym (state_later rd d))

    -- a value of wrong shape
    shape-stuck : {x : ℕ} (next : List TypeEntry → Val → Run Val) → r₁.status ≡ Ok x → ((ys : List TypeEntry) → step ys ≡ after (res ys) (next ys))
        → ((ys : List TypeEntry) → next ys (value_at heap₁ x) r₁.state.fuel ≡ stuck) → (r : Out) → r.status ≡ Err Stuck → r.state ≡ r₁.state
        → RanForward 1 heap heap₁ end slots slots₁ st r step
    unfolding refusal_of
    shape-stuck next s e z r s₂ q = slack (part-answered d next s e (halted d.graph end slots₁ r q s₂ z) (omega arith)) 1 (omega arith)

  ----------------------------------------------------------------
  -- let

  module _ (kind : kind_in code t ≡ let_kind) where
    abbrev let_next : ℕ → List TypeEntry → Val → Run Val
    let_next b ys v = within b ys (some v ∷ state)

    step_let : (ys : List TypeEntry) → step ys ≡ after (run (first_in code t) ys) (let_next (second_in code t) ys)
    unfolding forward_step
    step_let ys = stepped rd ys (tree_let rd.rows t rd.term ys kind)

    pub let_first : (b : ℕ) → b ≡ first_in code t → Ready 0 0 code heap slots st sc b (room - 1)
    let_first b q = rw q (fewer (part rd (first_in code t) (parts_let rd.rows t rd.term kind).0) 0 (omega arith))

    pub let_second : (b : ℕ) → b ≡ second_in code t → Ready 0 1 code heap slots st sc b (room - 1)
    let_second b q = rw q (fewer (part rd (second_in code t) (parts_let rd.rows t rd.term kind).1) 1 (omega arith))

    module _ (b b' : ℕ) (q : b ≡ first_in code t) (q' : b' ≡ second_in code t) {heap₁ slots₁ : List ℕ} {r₁ : Out}
        (d : RanForward 0 heap heap₁ end slots slots₁ st r₁ (run b)) where
      step-l : (ys : List TypeEntry) → step ys ≡ after (run b ys) (let_next b' ys)
      step-l ys = step_let ys ∙ ap₂ (λ b b'. after (run b ys) (let_next b' ys)) (sym q) (sym q')

      pub let_refused : {why : Refusal} → r₁.status ≡ Err why → RanForward 1 heap heap₁ end slots slots₁ st r₁ step
      let_refused s = slack (part-refused d (let_next b') s step-l) 1 (omega arith)

      pub let_done : {x : ℕ} → r₁.status ≡ Ok x → {heap₂ slots₂ : List ℕ} {r₂ : Out}
          → RanForward 0 heap₁ heap₂ end slots₁ slots₂ r₁.state r₂ (under_of code heap₁ slots₁ r₁.state sc x b' (room - 1))
          → RanForward 1 heap heap₂ end slots slots₂ st r₂ step
      let_done {x} s d₂ = slack (part-answered d (let_next b') s step-l (says d₂ (under_later d x b')) (omega arith)) 1 (omega arith)

  ----------------------------------------------------------------
  -- let pair

  module _ (kind : kind_in code t ≡ let_pair_kind) where
    abbrev both-next : ℕ → List TypeEntry → Val → Val → Run Val
    both-next b ys v w = within b ys (some w ∷ some v ∷ state)

    abbrev letp_next : ℕ → List TypeEntry → Val → Run Val
    letp_next b ys v = on_pair v (both-next b ys)

    step_letp : (ys : List TypeEntry) → step ys ≡ after (run (first_in code t) ys) (letp_next (second_in code t) ys)
    unfolding forward_step
    step_letp ys = stepped rd ys (tree_letp rd.rows t rd.term ys kind)

    pub letp_first : (b : ℕ) → b ≡ first_in code t → Ready 0 0 code heap slots st sc b (room - 1)
    letp_first b q = rw q (fewer (part rd (first_in code t) (parts_letp rd.rows t rd.term kind).0) 0 (omega arith))

    pub letp_second : (b : ℕ) → b ≡ second_in code t → Ready 0 2 code heap slots st sc b (room - 1)
    letp_second b q = rw q (fewer (part rd (second_in code t) (parts_letp rd.rows t rd.term kind).1) 2 (omega arith))

    module _ (b b' : ℕ) (q : b ≡ first_in code t) (q' : b' ≡ second_in code t) {heap₁ slots₁ : List ℕ} {r₁ : Out}
        (d : RanForward 0 heap heap₁ end slots slots₁ st r₁ (run b)) where
      step_lp : (ys : List TypeEntry) → step ys ≡ after (run b ys) (letp_next b' ys)
      step_lp ys = step_letp ys ∙ ap₂ (λ b b'. after (run b ys) (letp_next b' ys)) (sym q) (sym q')

      pub letp_refused : {why : Refusal} → r₁.status ≡ Err why → RanForward 1 heap heap₁ end slots slots₁ st r₁ step
      letp_refused s = slack (part-refused d (letp_next b') s step_lp) 1 (omega arith)

      module _ {x : ℕ} (s : r₁.status ≡ Ok x) where
        pub letp_stuck : ¬ (nodeKind heap₁ x ≡ 3) → (r : Out) → r.status ≡ Err Stuck → r.state ≡ r₁.state → RanForward 1 heap heap₁ end slots slots₁ st r step
        letp_stuck n = shape-stuck d (letp_next b') s step_lp (λ ys. node-no-pair heap₁ x r₁.state.fuel (both-next b' ys) n)

        pub letp_done : nodeKind heap₁ x ≡ 3 → (y z : ℕ) → y ≡ left_at heap₁ x → z ≡ right_at heap₁ x → {heap₂ slots₂ : List ℕ} {r₂ : Out}
            → RanForward 0 heap₁ heap₂ end slots₁ slots₂ r₁.state r₂ (λ ys. forward fits (program_in code ys) (room - 1) (ancillae_of heap₁ slots₁ sc)
            (some (value_at heap₁ z) ∷ some (value_at heap₁ y) ∷ state_of heap₁ slots₁ sc) (tree_in code ys b') r₁.state.fuel)
            → RanForward 1 heap heap₂ end slots slots₂ st r₂ step
        unfolding on_pair
        letp_done k3 y z qy qz d₂ = slack (part-answered d (letp_next b') s step_lp (says d₂ same) (omega arith)) 1 (omega arith)
          where
            is_pair : value_at heap₁ x ≡ pair (value_at heap₁ y) (value_at heap₁ z)
            is_pair = rw (qy, qz) (value-pair heap₁ r₁.state.top d.graph.right x (d.node x s) k3).0

            same : (ys : List TypeEntry) → forward fits (program_in code ys) (room - 1) (ancillae_of heap₁ slots₁ sc)
                (some (value_at heap₁ z) ∷ some (value_at heap₁ y) ∷ state_of heap₁ slots₁ sc) (tree_in code ys b') r₁.state.fuel ≡ letp_next b' ys
                (value_at heap₁ x) r₁.state.fuel
            same ys =
                ap₂ (λ a σ. forward fits (program_in code ys) (room - 1) a (some (value_at heap₁ z) ∷ some (value_at heap₁ y) ∷ σ) (tree_in code ys b')
                r₁.state.fuel)
                (sym (ancillae_later rd d)) (sym (state_later rd d))
                ∙ sym (ap (λ v. letp_next b' ys v r₁.state.fuel) is_pair)

  ----------------------------------------------------------------
  -- case

  module _ (kind : kind_in code t ≡ case_kind) where
    abbrev left-next : ℕ → List TypeEntry → Val → Run Val
    left-next b ys v = within b ys (some v ∷ state)

    -- first match is tested of the right branch's value
    abbrev matched : ℕ → List TypeEntry → List Val → ℕ → Val → Run Val
    matched b ys a n w = test (first_match a n (tree_in code ys (first_in code t)) (tree_in code ys b) w) 15 t (give w)

    abbrev first_match_lem : ℕ → List TypeEntry → Val → Run Val
    first_match_lem b ys = matched b ys (ancillae_of heap slots sc) (length state)

    abbrev right-next : ℕ → ℕ → List TypeEntry → Val → Run Val
    right-next b b' ys v fuel = after (within b' ys (some v ∷ state) fuel) (first_match_lem b ys)

    abbrev case_next : ℕ → ℕ → List TypeEntry → Val → Run Val
    case_next b b' ys s = on_sum s (left-next b ys) (right-next b b' ys)

    step_case : (ys : List TypeEntry) → step ys ≡ after (run (first_in code t) ys) (case_next (second_in code t) (third_in code t) ys)
    unfolding forward_step
    step_case ys = stepped rd ys (tree_case rd.rows t rd.term ys kind)

    pub case_first : (b : ℕ) → b ≡ first_in code t → Ready 0 0 code heap slots st sc b (room - 1)
    case_first b q = rw q (fewer (part rd (first_in code t) (parts_case rd.rows t rd.term kind).0) 0 (omega arith))

    pub case_second : (b : ℕ) → b ≡ second_in code t → Ready 0 1 code heap slots st sc b (room - 1)
    case_second b q = rw q (fewer (part rd (second_in code t) (parts_case rd.rows t rd.term kind).1) 1 (omega arith))

    pub case_third : (b : ℕ) → b ≡ third_in code t → Ready 0 1 code heap slots st sc b (room - 1)
    case_third b q = rw q (fewer (part rd (third_in code t) (parts_case rd.rows t rd.term kind).2) 1 (omega arith))

    module _ (b : ℕ) (q : b ≡ first_in code t) {heap₁ slots₁ : List ℕ} {r₁ : Out} (d : RanForward 0 heap heap₁ end slots slots₁ st r₁ (run b)) where
      step-c : (ys : List TypeEntry) → step ys ≡ after (run b ys) (case_next (second_in code t) (third_in code t) ys)
      step-c ys = step_case ys ∙ ap (λ b. after (run b ys) (case_next (second_in code t) (third_in code t) ys)) (sym q)

      pub case_refused : {why : Refusal} → r₁.status ≡ Err why → RanForward 1 heap heap₁ end slots slots₁ st r₁ step
      case_refused s = slack (part-refused d (case_next (second_in code t) (third_in code t)) s step-c) 1 (omega arith)

      module _ {x : ℕ} (s : r₁.status ≡ Ok x) where
        pub case_stuck : ¬ (nodeKind heap₁ x ≡ 1) → ¬ (nodeKind heap₁ x ≡ 2) → (r : Out) → r.status ≡ Err Stuck → r.state ≡ r₁.state
            → RanForward 1 heap heap₁ end slots slots₁ st r step
        case_stuck n n' =
            shape-stuck d (case_next (second_in code t) (third_in code t)) s step-c
            (λ ys. node-no-sum heap₁ x r₁.state.fuel (left-next (second_in code t) ys) (right-next (second_in code t) (third_in code t) ys) n n')

        module _ (y : ℕ) (qy : y ≡ left_at heap₁ x) (b' : ℕ) {heap₂ slots₂ : List ℕ} {r₂ : Out}
            (d₂ : RanForward 0 heap₁ heap₂ end slots₁ slots₂ r₁.state r₂ (under_of code heap₁ slots₁ r₁.state sc y b' (room - 1))) where
          pub case_left : nodeKind heap₁ x ≡ 1 → b' ≡ second_in code t → RanForward 1 heap heap₂ end slots slots₂ st r₂ step
          unfolding on_sum
          case_left k1 q' =
              slack (part-answered d (case_next (second_in code t) (third_in code t)) s step-c
              (says d₂ (λ ys. under_later d y b' ys ∙ ap (λ b. left-next b ys (value_at heap₁ y) r₁.state.fuel) q'
              ∙ sym (ap (λ v. case_next (second_in code t) (third_in code t) ys v r₁.state.fuel) is_left))) (omega arith)) 1 (omega arith)
            where
              is_left : value_at heap₁ x ≡ inl (value_at heap₁ y)
              is_left = rw qy (value_inl heap₁ r₁.state.top d.graph.right x (d.node x s) k1).0

          pub case_right : nodeKind heap₁ x ≡ 2 → b' ≡ third_in code t → (r : Out) → Checks code heap₂ slots₂ sc.base sc.q sc.n t r₂ r
              → RanForward 1 heap heap₂ end slots slots₂ st r step
          unfolding on_sum
          case_right k2 q' r c = slack (part-answered d (case_next (second_in code t) (third_in code t)) s step-c checked (omega arith)) 1 (omega arith)
            where
              is_right : value_at heap₁ x ≡ inr (value_at heap₁ y)
              is_right = rw qy (value_inr heap₁ r₁.state.top d.graph.right x (d.node x s) k2).0

              ancillae-two : ancillae_of heap₂ slots₂ sc ≡ ancillae_of heap slots sc
              ancillae-two = sym (ancillae_later rd d ∙ ancillae_later (later rd d) d₂)

              count : sc.n ≡ length state
              count = sym (length-filled (state_at heap slots sc.base sc.n) ∙ length-state heap slots sc.base sc.n)

              checked : RanForward 0 heap₁ heap₂ end slots₁ slots₂ r₁.state r
                  (λ ys. case_next (second_in code t) (third_in code t) ys (value_at heap₁ x) r₁.state.fuel)
              checked = record {
                agree = d₂.agree;
                graph = rw c.state d₂.graph;
                below = d₂.below;
                lengths = d₂.lengths;
                grows = rw c.state d₂.grows;
                spends = rw c.state d₂.spends;
                owes = rw c.state d₂.owes;
                node = λ n e. rw c.state (d₂.node n (c.node n e));
                answer = λ ys. c.answer ys
                    ∙ ap₂ (λ x a. after x (matched (second_in code t) ys a sc.n))
                    (d₂.answer ys ∙ under_later d y b' ys ∙ ap (λ b. within b ys (some (value_at heap₁ y) ∷ state) r₁.state.fuel) q') ancillae-two
                    ∙ ap (λ n. after (within (third_in code t) ys (some (value_at heap₁ y) ∷ state) r₁.state.fuel)
                    (matched (second_in code t) ys (ancillae_of heap slots sc) n)) count
                    ∙ sym (ap (λ v. case_next (second_in code t) (third_in code t) ys v r₁.state.fuel) is_right);
              }
