-- Laws of backward runs in code: what an outcome says, one run after another, and what stays ready after a run.
use Prim.Native.Nat.{ℕ, ◌+◌, ◌≤◌, ◌<◌}
use native.Mathlib.Omega.{arith}
use mathlib.Core.Path.{◌≡◌, refl, sym, ap, subst, ◌∙◌}
use mathlib.Core.List.{List}
use lib.ListN.{length, get_or}
use package.Rattle.rules.specs.Limits.{max_parameters}
use package.Rattle.rules.specs.Val.{Val}
use package.Rattle.rules.specs.Run.{Res, ok, Run, after}
use package.Rattle.rules.specs.Machine.{State, leave}
use package.Rattle.rules.proofs.Run.{via}
use package.Rattle.calls.specs.Entries.{TypeEntry}
use package.Rattle.valuegraph.specs.Nodes.{value_at, Agree}
use package.Rattle.valuegraph.proofs.Places.{agree_refl, agree_trans, agree-down}
use package.Rattle.scopes.specs.Slots.{unknown, Slots, Machine}
use package.Rattle.scopes.specs.Bindings.{View, state_of, Bound}
use package.Rattle.scopes.proofs.Marks.{slots_later}
use package.Rattle.scopes.proofs.Scopes.{state-kept}
use package.Rattle.yields.specs.Yields.{Ancillae}
use package.Rattle.yields.proofs.Ancillae.{ancillae-same, ancillae-kept}
use package.Rattle.forward.specs.Outcomes.{refusal_of as carriedRefusal}
use package.Rattle.forward.specs.Ready.{Graph}
use package.Rattle.forward.specs.declared.outcomes.Refusal.{Refusal as Carried}
use package.Rattle.forward.specs.declared.outcomes.Refusal.TheVariants.{Fuel as cFuel, Height as cHeight, Long as cLong, FirstMatch as cFirstMatch, Stuck as cStuck}
use package.Rattle.backward.specs.Outcomes.{Status, Done, Refused, Outcome, Inner, refusal_of, answer_of, meaning, left_with, carried}
use package.Rattle.backward.specs.Ready.{Held, Binds, Follows, Moves, RanBackward, Stays, RanUnder, ancillae_of}
use Rattle.backward.specs.declared.outcomes.Refusal.{Refusal}
use Rattle.backward.specs.declared.outcomes.Refusal.TheVariants.{Fuel, Height, Long, FirstMatch, NoInput, Stuck}

----------------------------------------------------------------
-- What an outcome says

pub meaning_done : (heap : List ℕ) (out : Outcome) → out.status ≡ Done → meaning heap out ≡ ok (state_of heap out.bindings) out.state.fuel
unfolding answer_of
meaning_done heap out e = ap (answer_of heap out.bindings out.state.fuel) e

pub meaning-refused : (heap : List ℕ) (out : Outcome) {w : Refusal} → out.status ≡ Refused w → meaning heap out ≡ refusal_of w
unfolding answer_of
meaning-refused heap out e = ap (answer_of heap out.bindings out.state.fuel) e

-- a refusal stands
pub refusal-after : {A B : Type 0} (w : Refusal) (k : A → Run B) → after (refusal_of w) k ≡ refusal_of w
unfolding refusal_of after
refusal-after (Fuel t) k = refl
refusal-after (Height t) k = refl
refusal-after (Long t) k = refl
refusal-after (FirstMatch t) k = refl
refusal-after (NoInput t) k = refl
refusal-after Stuck k = refl

-- a refusal of an ancilla term
pub carried-means : {A : Type 0} (w : Carried) → carriedRefusal {A = A} w ≡ refusal_of (carried w)
unfolding refusal_of carriedRefusal carried
carried-means (cFuel t) = refl
carried-means (cHeight t) = refl
carried-means (cLong t) = refl
carried-means (cFirstMatch t) = refl
carried-means cStuck = refl

pub not_done : {s : Status} {w : Refusal} → s ≡ Refused w → s ≡ Done → ⊥
not_done p q = let z : ◌≡◌ {A = ℕ} 0 1 = cc in omega arith

pub left_done : (heap : List ℕ) (b : View) (newest fuel : ℕ) {s : Status} (next : Val → State → Run State) → s ≡ Done
    → left_with heap b newest fuel s next ≡ next (value_at heap newest) (state_of heap b) fuel
unfolding left_with
left_done heap b newest fuel next e = ap (λ s. left_with heap b newest fuel s next) e

pub left-refused : (heap : List ℕ) (b : View) (newest fuel : ℕ) {s : Status} {w : Refusal} (next : Val → State → Run State) → s ≡ Refused w
    → left_with heap b newest fuel s next ≡ refusal_of w
unfolding left_with
left-refused heap b newest fuel next e = ap (λ s. left_with heap b newest fuel s next) e

----------------------------------------------------------------
-- Views that follow

pub bound_later : {heap heap' : List ℕ} {b : View} {top : ℕ} (top' : ℕ) → Bound heap b top → Agree top heap heap' → top ≤ top' → Bound heap' b top'
bound_later top' B A le = record { full = B.full; few = B.few; held = slots_later A top' le B.held }

pub follows_same : {heap : List ℕ} {b : View} {top : ℕ} → Bound heap b top → Follows heap b b top
follows_same B = record { bound = B; len = refl; kept = λ i h n. refl }

pub follows_later : {heap heap' : List ℕ} {b c : View} {top : ℕ} (top' : ℕ) → Follows heap b c top → Agree top heap heap' → top ≤ top'
    → Follows heap' b c top'
follows_later top' F A le = record { bound = bound_later top' F.bound A le; len = F.len; kept = F.kept }

pub follows_then : {heap heap' : List ℕ} {b c d : View} {top top' : ℕ} → Follows heap b c top → Follows heap' c d top' → Follows heap' b d top'
follows_then {heap} {heap'} {b} {c} {d} F G = record {
  bound = G.bound;
  len = G.len ∙ F.len;
  kept = λ i h n. G.kept i (omega (arith, F.len)) (λ e. n (sym (F.kept i h n) ∙ e)) ∙ F.kept i h n;
}

pub binds_later : {heap heap' : List ℕ} {b : View} {q top : ℕ} (top' : ℕ) → Binds heap b q top → Agree top heap heap' → top ≤ top'
    → Binds heap' b q top'
binds_later top' B A le = record {
  bound = bound_later top' B.bound A le;
  within = B.within;
  ancillae = λ i h. omega (arith, B.ancillae i h);
}

module _ {heap heap' : List ℕ} {b b' : View} {q top top' : ℕ} (B : Binds heap b q top) (F : Follows heap' b b' top') (le : top ≤ top')
    (small : top ≤ unknown) where
  ancilla-kept : (i : ℕ) → i < q → get_or b'.slots i 0 ≡ get_or b.slots i 0
  ancilla-kept i h = F.kept i (omega (arith, B.within)) (λ e. omega (arith, B.ancillae i h))

  pub binds_follow : Binds heap' b' q top'
  binds_follow = record {
    bound = F.bound;
    within = omega (arith, B.within, F.len);
    ancillae = λ i h. rw (ancilla-kept i h) (omega (arith, B.ancillae i h));
  }

  pub ancillae_follow : (heap'' : List ℕ) → ancillae_of heap'' b q ≡ ancillae_of heap'' b' q
  ancillae_follow heap'' = ancillae-same heap'' b.slots b'.slots 0 q (λ j h. sym (ancilla-kept j (omega arith)))

pub ancillae-held : {heap : List ℕ} {b : View} {q top : ℕ} → Binds heap b q top → Ancillae b.slots 0 q top
ancillae-held B = record {
  there = omega (arith, B.within, B.bound.full, B.bound.few);
  known = λ i h. rw (let z : 0 + i ≡ i = omega arith in z) (B.ancillae i h);
}

----------------------------------------------------------------
-- A heap that has grown

module _ {heap heap' : List ℕ} {top : ℕ} (G : Graph heap top) (A : Agree top heap heap') where
  pub state_later : (b : View) → Bound heap b top → top ≤ unknown → state_of heap b ≡ state_of heap' b
  unfolding state_of
  state_later b B small = state-kept heap heap' b.slots 0 b.len top G.right A
      (subst (λ n. Slots heap b.slots n top) (let z : b.len ≡ 0 + b.len = omega arith in z) B.held) small

  pub ancillae_later : (b : View) (q : ℕ) → Binds heap b q top → ancillae_of heap b q ≡ ancillae_of heap' b q
  ancillae_later b q B = ancillae-kept heap heap' b.slots 0 q top G.right A (ancillae-held B)

----------------------------------------------------------------
-- Moves

pub moves_none : {heap slots slots' : List ℕ} {st st' : Machine} → Graph heap st.top → length slots ≡ length slots' → st' ≡ st
    → Moves 0 heap heap slots slots' st st'
moves_none {heap} G l e = record {
  agree = agree_refl _ heap;
  graph = rw e G;
  lengths = l;
  grows = rw e (omega arith);
  spends = rw e (omega arith);
  owes = rw e (omega arith);
}

pub moves-then : {j k : ℕ} (l : ℕ) {heap heap₁ heap₂ slots slots₁ slots₂ : List ℕ} {st st₁ st₂ : Machine} → j + k ≤ l
    → Moves j heap heap₁ slots slots₁ st st₁ → Moves k heap₁ heap₂ slots₁ slots₂ st₁ st₂ → Moves l heap heap₂ slots slots₂ st st₂
moves-then l le a b = record {
  agree = agree_trans a.agree (agree-down _ a.grows b.agree);
  graph = b.graph;
  lengths = a.lengths ∙ b.lengths;
  grows = omega (arith, a.grows, b.grows);
  spends = omega (arith, a.spends, b.spends);
  owes = omega (arith, a.owes, b.owes);
}

pub moves-slack : {k : ℕ} {heap heap₁ slots slots₁ : List ℕ} {st st₁ : Machine} (k' : ℕ) → Moves k heap heap₁ slots slots₁ st st₁ → k ≤ k'
    → Moves k' heap heap₁ slots slots₁ st st₁
moves-slack k' a le = record {
  agree = a.agree;
  graph = a.graph;
  lengths = a.lengths;
  grows = a.grows;
  spends = a.spends;
  owes = omega (arith, a.owes);
}

----------------------------------------------------------------
-- What stays

module _ {k : ℕ} {code heap slots : List ℕ} {st : Machine} {room : ℕ} (H : Held k code heap slots st room) where
  pub held_later : (k' : ℕ) {j : ℕ} → k' + j ≤ k → {heap' slots' : List ℕ} {st' : Machine} → Moves j heap heap' slots slots' st st'
      → Held k' code heap' slots' st' room
  held_later k' le {heap'} M = record {
    rows = H.rows;
    bodies = H.bodies;
    graph = M.graph;
    nodes = omega (arith, H.nodes, M.owes, M.agree.lengths);
    small = omega (arith, H.small, M.owes);
    variables = omega (arith, H.variables, M.lengths);
    all = sym M.lengths ∙ H.all;
  }

  -- with fewer nodes owed, and less height
  pub held-less : (k' room' : ℕ) → k' ≤ k → room' ≤ room → Held k' code heap slots st room'
  unfolding max_parameters
  held-less k' room' le le' = record {
    rows = H.rows;
    bodies = H.bodies;
    graph = H.graph;
    nodes = omega (arith, H.nodes);
    small = omega (arith, H.small);
    variables = omega (arith, H.variables);
    all = H.all;
  }

  -- with other slots, as many
  pub held-slots : {slots' : List ℕ} → length slots ≡ length slots' → Held k code heap slots' st room
  held-slots e = record {
    rows = H.rows;
    bodies = H.bodies;
    graph = H.graph;
    nodes = H.nodes;
    small = H.small;
    variables = omega (arith, H.variables);
    all = sym e ∙ H.all;
  }

  pub small_top : st.top ≤ unknown
  unfolding unknown
  small_top = omega (arith, H.small)

----------------------------------------------------------------
-- Runs

-- a step without parts
pub stays : {heap slots slots' : List ℕ} {st : Machine} {b : View} {out : Outcome} {res : Res State} {res' : List TypeEntry → Res State}
    → Graph heap st.top → length slots ≡ length slots'
    → Stays heap st b out res → ((ys : List TypeEntry) → res ≡ res' ys) → RanBackward 0 heap heap slots slots' st b out res'
stays {heap = heap} {b = b} {out = out} G l S e = record {
  moves = moves_none G l S.state;
  follows = λ d. subst (λ (s : Machine). Follows heap b out.bindings s.top) (sym S.state) (S.follows d);
  answer = λ ys. S.answer ∙ e ys;
}

-- a refusal on the spot
pub refuses : {heap slots : List ℕ} {st : Machine} {b : View} {w : Refusal} {res : List TypeEntry → Res State} (out : Outcome) → Graph heap st.top
    → out.status ≡ Refused w → out.state ≡ st → ((ys : List TypeEntry) → res ys ≡ refusal_of w) → RanBackward 0 heap heap slots slots st b out res
refuses {heap} out G s q e = record {
  moves = moves_none G refl q;
  follows = λ d. absurd (not_done s d);
  answer = λ ys. meaning-refused heap out s ∙ sym (e ys);
}

-- a refusal says nothing of the bindings
pub refused_with : {k : ℕ} {heap heap₁ slots slots₁ : List ℕ} {st : Machine} {b c : View} {r : Outcome} {w : Refusal} {res : List TypeEntry → Res State}
    → RanBackward k heap heap₁ slots slots₁ st b r res → r.status ≡ Refused w → (d : View)
    → RanBackward k heap heap₁ slots slots₁ st c (record { status = r.status; state = r.state; bindings = d }) res
refused_with {heap₁ = heap₁} {r = r} R s d = record {
  moves = R.moves;
  follows = λ n. absurd (not_done s n);
  answer = λ ys. meaning-refused heap₁ (record { status = r.status; state = r.state; bindings = d }) s ∙ sym (meaning-refused heap₁ r s) ∙ R.answer ys;
}

-- slots that were written before
pub moves_from : {k : ℕ} {heap heap₁ slots₀ slots₁ : List ℕ} {st st₁ : Machine} (slots : List ℕ) → length slots ≡ length slots₀
    → Moves k heap heap₁ slots₀ slots₁ st st₁ → Moves k heap heap₁ slots slots₁ st st₁
moves_from slots e M = record { agree = M.agree; graph = M.graph; lengths = e ∙ M.lengths; grows = M.grows; spends = M.spends; owes = M.owes }

pub ran_from : {k : ℕ} {heap heap₁ slots₀ slots₁ : List ℕ} {st : Machine} {b : View} {r : Outcome} {res : List TypeEntry → Res State} (slots : List ℕ)
    → length slots ≡ length slots₀
    → RanBackward k heap heap₁ slots₀ slots₁ st b r res → RanBackward k heap heap₁ slots slots₁ st b r res
ran_from slots e R = record { moves = moves_from slots e R.moves; follows = R.follows; answer = R.answer }

pub under_from : {k : ℕ} {heap heap₁ slots₀ slots₁ : List ℕ} {st : Machine} {b : View} {r : Inner} {res : List TypeEntry → Res State} (slots : List ℕ)
    → length slots ≡ length slots₀
    → RanUnder k heap heap₁ slots₀ slots₁ st b r res → RanUnder k heap heap₁ slots slots₁ st b r res
under_from slots e R = record { moves = moves_from slots e R.moves; follows = R.follows; there = R.there; answer = R.answer }

module _ {k : ℕ} {heap heap₁ slots slots₁ : List ℕ} {st : Machine} {b : View} {r : Outcome} {res₁ : List TypeEntry → Res State}
    (d : RanBackward k heap heap₁ slots slots₁ st b r res₁) where
  -- the same run, said to give another thing that is equal
  pub says : {res : List TypeEntry → Res State} → ((ys : List TypeEntry) → res₁ ys ≡ res ys) → RanBackward k heap heap₁ slots slots₁ st b r res
  says e = record { moves = d.moves; follows = d.follows; answer = λ ys. d.answer ys ∙ e ys }

  pub slack : (k' : ℕ) → k ≤ k' → RanBackward k' heap heap₁ slots slots₁ st b r res₁
  slack k' le = record { moves = moves-slack k' d.moves le; follows = d.follows; answer = d.answer }

module _ {heap heap₁ slots slots₁ : List ℕ} {st : Machine} {b : View} {r : Outcome} {res₁ : List TypeEntry → Res State}
    (d : RanBackward 0 heap heap₁ slots slots₁ st b r res₁) where
  -- a part was refused, and so is the whole
  pub part-refused : {w : Refusal} {res : List TypeEntry → Res State} (next : List TypeEntry → State → Run State) → r.status ≡ Refused w
      → ((ys : List TypeEntry) → res ys ≡ after (res₁ ys) (next ys)) → RanBackward 0 heap heap₁ slots slots₁ st b r res
  part-refused {w} next s e =
      says d (λ ys. sym (d.answer ys) ∙ meaning-refused heap₁ r s ∙ sym (refusal-after w (next ys))
      ∙ sym (ap (λ x. after x (next ys)) (sym (d.answer ys) ∙ meaning-refused heap₁ r s)) ∙ sym (e ys))

  -- a part was run, and the run goes on
  pub part_done : {res : List TypeEntry → Res State} (next : List TypeEntry → State → Run State) → r.status ≡ Done
      → ((ys : List TypeEntry) → res ys ≡ after (res₁ ys) (next ys))
      → {k : ℕ} {heap₂ slots₂ : List ℕ} {out : Outcome} → RanBackward k heap₁ heap₂ slots₁ slots₂ r.state r.bindings out
      (λ ys. next ys (state_of heap₁ r.bindings) r.state.fuel)
      → RanBackward k heap heap₂ slots slots₂ st b out res
  part_done next s e b₂ = record {
    moves = moves-then _ (omega arith) d.moves b₂.moves;
    follows = λ q. follows_then (d.follows s) (b₂.follows q);
    answer = λ ys. b₂.answer ys ∙ sym (via (next ys) (sym (d.answer ys) ∙ meaning_done heap₁ r s) refl) ∙ sym (e ys);
  }

----------------------------------------------------------------
-- Runs under one variable more

-- the same run, said to give another thing that is equal
pub under_says : {k : ℕ} {heap heap₁ slots slots₁ : List ℕ} {st : Machine} {b : View} {r : Inner} {res res' : List TypeEntry → Res State}
    → RanUnder k heap heap₁ slots slots₁ st b r res → ((ys : List TypeEntry) → res ys ≡ res' ys) → RanUnder k heap heap₁ slots slots₁ st b r res'
under_says d e = record {
  moves = d.moves;
  follows = d.follows;
  there = d.there;
  answer = λ ys next. ap (λ x. after x (λ σ. leave σ next)) (sym (e ys)) ∙ d.answer ys next;
}

module _ {j : ℕ} {heap heap₁ slots slots₁ : List ℕ} {st : Machine} {b : View} {r : Inner} {res₁ : List TypeEntry → Res State}
    (d : RanUnder j heap heap₁ slots slots₁ st b r res₁) where
  pub under-refused : {w : Refusal} {c : View} {res : List TypeEntry → Res State} (next : List TypeEntry → Val → State → Run State) → r.out.status ≡ Refused w
      → ((ys : List TypeEntry) → res ys ≡ after (res₁ ys) (λ σ. leave σ (next ys))) → RanBackward j heap heap₁ slots slots₁ st c r.out res
  under-refused {w} next s e = record {
    moves = d.moves;
    follows = λ q. absurd (not_done s q);
    answer = λ ys. meaning-refused heap₁ r.out s ∙ sym (left-refused heap₁ r.out.bindings r.newest r.out.state.fuel (next ys) s)
        ∙ sym (d.answer ys (next ys)) ∙ sym (e ys);
  }

  pub under_done : {c c₁ : View} {res : List TypeEntry → Res State} (next : List TypeEntry → Val → State → Run State) → r.out.status ≡ Done
      → ((ys : List TypeEntry) → res ys ≡ after (res₁ ys) (λ σ. leave σ (next ys)))
      → {k : ℕ} (l : ℕ) → j + k ≤ l → {heap₂ slots₂ : List ℕ} {out : Outcome}
      → RanBackward k heap₁ heap₂ slots₁ slots₂ r.out.state c₁ out
      (λ ys. next ys (value_at heap₁ r.newest) (state_of heap₁ r.out.bindings) r.out.state.fuel)
      → Follows heap₁ c c₁ r.out.state.top → RanBackward l heap heap₂ slots slots₂ st c out res
  under_done next s e l le b₂ F = record {
    moves = moves-then l le d.moves b₂.moves;
    follows = λ q. follows_then F (b₂.follows q);
    answer = λ ys. b₂.answer ys ∙ sym (left_done heap₁ r.out.bindings r.newest r.out.state.fuel (next ys) s) ∙ sym (d.answer ys (next ys))
        ∙ sym (e ys);
  }
