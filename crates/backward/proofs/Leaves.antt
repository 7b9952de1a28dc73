-- Laws of the steps that have no parts to run: refusals on entering, variables, the unit, and a variable that leaves the scope.
use Prim.Native.Nat.{ℕ, zero, suc, ◌+◌, ◌-◌, ◌≤◌, ◌<◌}
use native.Mathlib.Omega.{arith}
use mathlib.Core.Path.{◌≡◌, refl, sym, ap, ap₂, subst, ◌∙◌}
use mathlib.Core.Bool.{Bool, true, false, cond}
use mathlib.Core.Logic.{inl as left, inr as right}
use mathlib.Core.List.{List, ◌∷◌}
use lib.ListN.{length, get_or, set, length-set}
use lib.Seq.{get_or-set_same, get_or-set_other}
use lib.Dec.{eqb}
use borrow.Author.Tests.{eq-eqb, ne_eqb, eqb-true, eqb-false}
use package.Rattle.rules.specs.Limits.{max_variables}
use package.Rattle.rules.specs.Val.{Val, unit}
use package.Rattle.rules.specs.Run.{stuck, Run, give}
use package.Rattle.rules.specs.Machine.{State, meet, leave, on_unit}
use package.Rattle.valuegraph.specs.Nodes.{kind_at, of_kind, value_within, value_at}
use package.Rattle.valuegraph.proofs.Heaps.{value-unit, value-kept}
use package.Rattle.scopes.specs.Slots.{unknown, found, node_or, meaning as slotMeaning, Slot, Slots, Machine, Scope}
use package.Rattle.scopes.specs.Cells.{Linked}
use Rattle.std.specs.Prelude.{Some, None}
use package.Rattle.scopes.specs.Bindings.{View, AfterLeaving, slots_from, view_of, state_of, Bound, Opens, Meets, LeavesScope, Meetable}
use package.Rattle.scopes.specs.declared.bindings.Bindings.{Bindings}
use package.Rattle.scopes.proofs.Marks.{found-mark, found-node, found_below, node_or_lem, node_none}
use package.Rattle.scopes.proofs.Scopes.{slots_bind}
use package.Rattle.scopes.proofs.Bound.{meet-bound, leaves-state}
use package.Rattle.scopes.proofs.Views.{view_at, new-found}
use package.Rattle.forward.specs.Ready.{Graph}
use package.Rattle.forward.proofs.Making.{graph-grown}
use package.Rattle.backward.specs.Outcomes.{Status, Done, Refused, refusal_of, too_long, against, mismatch}
use package.Rattle.backward.specs.Ready.{Binds, Follows, RanBackward, Stays, Goes}
use package.Rattle.backward.proofs.Runs.{meaning_done, meaning-refused, not_done, bound_later, follows_same, state_later}
use Rattle.backward.specs.declared.outcomes.Refusal.TheVariants.{Fuel, Height, Long, NoInput, Stuck}
use package.Rattle.valuegraph.specs.Nodes.{kind_named}
use package.Rattle.valuegraph.specs.declared.kinds.Kind.TheVariants.{Unit}

----------------------------------------------------------------
-- Refusals

pub long-fuel : (fuel room t : ℕ) → fuel ≡ 0 → Fuel t ≡ too_long fuel room t
unfolding too_long
long-fuel fuel room t e = rw e

pub long-height : (fuel room t : ℕ) → ¬ (fuel ≡ 0) → room ≡ 0 → Height t ≡ too_long fuel room t
unfolding too_long
long-height zero room t n e = absurd (n refl)
long-height (suc fuel) room t n e = rw e

pub long-value : (fuel room t : ℕ) → ¬ (fuel ≡ 0) → ¬ (room ≡ 0) → Long t ≡ too_long fuel room t
unfolding too_long
long-value zero room t n n' = absurd (n refl)
long-value (suc fuel) zero t n n' = absurd (n' refl)
long-value (suc fuel) (suc room) t n n' = refl

pub against-other : (other found t : ℕ) → found ≡ other → NoInput t ≡ against other found t
unfolding against
against-other other found t e = rw (against, eq-eqb found other e)

pub against_none : (other found t : ℕ) → ¬ (found ≡ other) → Stuck ≡ against other found t
unfolding against
against_none other found t n = rw (against, ne_eqb found other n)

pub mismatch-left : (kind found t : ℕ) → kind ≡ 1 → against 2 found t ≡ mismatch kind found t
unfolding mismatch
mismatch-left kind found t e = rw (mismatch, eq-eqb kind 1 e)

pub mismatch-right : (kind found t : ℕ) → ¬ (kind ≡ 1) → kind ≡ 2 → against 1 found t ≡ mismatch kind found t
unfolding mismatch
mismatch-right kind found t n e = rw (mismatch, ne_eqb kind 1 n, eq-eqb kind 2 e)

pub mismatch_none : (kind found t : ℕ) → ¬ (kind ≡ 1) → ¬ (kind ≡ 2) → Stuck ≡ mismatch kind found t
unfolding mismatch
mismatch_none kind found t n n' = rw (mismatch, ne_eqb kind 1 n, ne_eqb kind 2 n')

----------------------------------------------------------------
-- Branches

pub choice_left : {A : Type 0} {b : Bool} {x y : A} (z : A) → b ≡ true → x ≡ y → x ≡ cond b y z
choice_left z e q = rw e q

pub choice_right : {A : Type 0} {b : Bool} {x z : A} (y : A) → b ≡ false → x ≡ z → x ≡ cond b y z
choice_right y e q = rw e q

----------------------------------------------------------------
-- Variables

pub meetable_same : {heap st : List ℕ} {b : Bindings} {sc : Scope} {i i' : ℕ} → i ≡ i' → Meetable heap st b sc i' → Meetable heap st b sc i
meetable_same q M = rw q M

-- meeting keeps what is known
pub meets_follows : (heap : List ℕ) (b : View) (i node x top : ℕ) (agrees : Bool) (r : View) → Meets heap b i node x agrees r → Bound heap b top → i < b.len
    → Slot heap x top → Follows heap b r top
meets_follows heap b i node x top agrees r M B l low = go (eqb (get_or b.slots i 0) unknown) refl
  where
    bound-slot : (slots : List ℕ) → slots ≡ set b.slots i x → (j : ℕ) → (y : Bool) → eqb j i ≡ y → j < b.len → Slot heap (get_or slots j 0) top
    bound-slot slots e j true q h = rw (e, eqb-true j i q, get_or-set_same b.slots i x 0 (omega (arith, B.full, B.few))) low
    bound-slot slots e j false q h = rw (e, get_or-set_other b.slots i j x 0 (eqb-false j i q)) (B.held.held j h)

    bound : get_or b.slots i 0 ≡ unknown → (r.slots ≡ set b.slots i x) → (r.len ≡ b.len) → Follows heap b r top
    bound u s n = record {
      bound = record {
        full = rw s (length-set b.slots i x ∙ B.full);
        few = omega (arith, n, B.few);
        held = record { held = λ j h. bound-slot r.slots s j (eqb j i) refl (omega arith) };
      };
      len = n;
      kept = λ j h d. ap (λ (l : List ℕ). get_or l j 0) s ∙ get_or-set_other b.slots i j x 0 (λ q. d (ap (λ j. get_or b.slots j 0) q ∙ u));
    }

    go : (e : Bool) → eqb (get_or b.slots i 0) unknown ≡ e → Follows heap b r top
    go true e = let u = eqb-true (get_or b.slots i 0) unknown e in bound u (M.binds u).1 (M.binds u).2
    go false e = let u = eqb-false (get_or b.slots i 0) unknown e in subst (λ (c : View). Follows heap b c top) (sym (M.compares u).1) (follows_same B)

-- it was bound before
module _ {heap : List ℕ} {st : Machine} {b : View} {i node : ℕ} {agrees : Bool} {r : View} (M : Meets heap b i node node agrees r)
    (B : Bound heap b st.top) (small : st.top ≤ unknown) (l : i < b.len) (low : node < st.top) (t : ℕ) {s : Status} where
  pub variable-met : agrees ≡ true → s ≡ Done → Stays heap st b (record { status = s; state = st; bindings = r })
      (meet t (state_of heap b) i (value_at heap node) st.fuel)
  variable-met e d = record {
    state = refl;
    follows = λ _. meets_follows heap b i node node st.top agrees r M B l (right (left low));
    answer = meaning_done heap (record { status = s; state = st; bindings = r }) d
        ∙ sym ((meet-bound heap b i node node st.top t st.fuel agrees r M B l small (found-node heap node (omega arith))).0 e);
  }

  pub variable-differs : agrees ≡ false → s ≡ Refused (NoInput t)
      → Stays heap st b (record { status = s; state = st; bindings = r }) (meet t (state_of heap b) i (value_at heap node) st.fuel)
  unfolding refusal_of
  variable-differs e w = record {
    state = refl;
    follows = λ d. absurd (not_done w d);
    answer = meaning-refused heap (record { status = s; state = st; bindings = r }) w
        ∙ sym ((meet-bound heap b i node node st.top t st.fuel agrees r M B l small (found-node heap node (omega arith))).1 e);
  }

-- it was not: a cell is made
module _ {heap heap' : List ℕ} (slots slots' : List ℕ) (st : Machine) {b : View} {i j node head : ℕ} {agrees : Bool} {r : View} (G : Graph heap st.top)
    (C : Linked heap heap' st.top node j head) (M : Meets heap' b i node (unknown + st.top) agrees r) (B : Bound heap b st.top)
    (small : st.top + 1 ≤ unknown) (l : i < b.len) (low : node < st.top) (lengths : length slots ≡ length slots') (t : ℕ) where
  abbrev grown : Machine
  grown = record { top = st.top + 1; fuel = st.fuel }

  bound-now : Bound heap' b (st.top + 1)
  bound-now = bound_later (st.top + 1) B C.made.grown.agree (omega arith)

  cell-slot : Slot heap' (unknown + st.top) (st.top + 1)
  cell-slot =
      let z : unknown + st.top - unknown ≡ st.top = omega arith in
      right (right (record {
        above = omega arith;
        there = omega arith;
        node = rw (z, C.made.left_is) (omega arith);
      }))

  pub variable-bound : agrees ≡ true → {s : Status} → s ≡ Done → RanBackward 1 heap heap' slots slots' st b (record { status = s; state = grown; bindings = r })
      (λ ys. meet t (state_of heap b) i (value_at heap node) st.fuel)
  variable-bound e {s} d = record {
    moves = record {
      agree = C.made.grown.agree;
      graph = graph-grown G C.made.grown;
      lengths = lengths;
      grows = omega arith;
      spends = omega arith;
      owes = omega arith;
    };
    follows = λ _. meets_follows heap' b i node (unknown + st.top) (st.top + 1) agrees r M bound-now l cell-slot;
    answer = λ ys.
        meaning_done heap' (record { status = s; state = grown; bindings = r }) d
        ∙ sym ((meet-bound heap' b i node (unknown + st.top) (st.top + 1) t st.fuel agrees r M bound-now l small
        (new-found C.made (omega arith))).0 e)
        ∙ ap₂ (λ σ v. meet t σ i v st.fuel) (sym (state_later G C.made.grown.agree b B (omega arith)))
        (sym (value-kept heap heap' st.top G.right C.made.grown.agree node low));
  }

----------------------------------------------------------------
-- The unit

pub unit_named : (k : ℕ) → kind_named k ≡ Unit → k ≡ 0
unit_named zero e = refl
unit_named (suc zero) e = cc
unit_named (suc (suc zero)) e = cc
unit_named (suc (suc (suc zero))) e = cc
unit_named (suc (suc (suc (suc k)))) e = cc

no-unit : {A : Type 0} (n : ℕ) (v w : Val) (m : Run A) (fuel : ℕ) → ¬ (n ≡ 0) → on_unit (of_kind n v w) m fuel ≡ stuck
unfolding on_unit of_kind
no-unit zero v w m fuel d = absurd (d refl)
no-unit (suc zero) v w m fuel d = refl
no-unit (suc (suc zero)) v w m fuel d = refl
no-unit (suc (suc (suc zero))) v w m fuel d = refl
no-unit (suc (suc (suc (suc n)))) v w m fuel d = refl

module _ {heap : List ℕ} (st : Machine) (G : Graph heap st.top) {b : View} (B : Bound heap b st.top) (node : ℕ) {s : Status} where
  pub unit-met : kind_at heap node ≡ 0 → s ≡ Done → Stays heap st b (record { status = s; state = st; bindings = b })
      (on_unit (value_at heap node) (give (state_of heap b)) st.fuel)
  unfolding on_unit
  unit-met e d = record {
    state = refl;
    follows = λ _. follows_same B;
    answer = meaning_done heap (record { status = s; state = st; bindings = b }) d
        ∙ sym (ap (λ v. on_unit v (give (state_of heap b)) st.fuel) (value-unit heap st.top G.right node e));
  }

  pub unit-stuck : ¬ (kind_at heap node ≡ 0) → s ≡ Refused Stuck
      → Stays heap st b (record { status = s; state = st; bindings = b }) (on_unit (value_at heap node) (give (state_of heap b)) st.fuel)
  unfolding refusal_of value_at value_within
  unit-stuck n w = record {
    state = refl;
    follows = λ d. absurd (not_done w d);
    answer = meaning-refused heap (record { status = s; state = st; bindings = b }) w
        ∙ sym (no-unit (kind_at heap node) _ _ (give (state_of heap b)) st.fuel n);
  }

----------------------------------------------------------------
-- A variable comes into scope, not known, and leaves it

-- the newest of the variables that stand in slots from `base` on
pub view_goes : (heap slots : List ℕ) (base n : ℕ) → n < max_variables → Goes heap (view_of slots base (n + 1))
    (record { newest = node_or (found heap (get_or slots (base + n) 0)); state = view_of slots base n })
view_goes heap slots base n l = record {
  newest = ap (λ x. node_or (found heap x))
      (sym (ap (λ j. get_or (slots_from slots base max_variables) j 0) (let z : n + 1 - 1 ≡ n = omega arith in z) ∙ view_at slots base n l));
  slots = refl;
  len = let z : n ≡ n + 1 - 1 = omega arith in z;
}

module _ {heap : List ℕ} {b : View} {r : AfterLeaving} (L : Goes heap b r) {top : ℕ} (B : Bound heap b top) (some : 0 < b.len) where
  abbrev newest : ℕ
  newest = get_or b.slots (b.len - 1) 0

  -- by whether it is known
  by_newest : {P : Type 0} → top ≤ unknown → (found heap newest ≡ None → r.newest ≡ 0 → P)
      → ((node : ℕ) → node < top → found heap newest ≡ Some node → r.newest ≡ node → P) → P
  by_newest {P} small none-it node-it = go (eqb newest unknown) refl
    where
      go : (e : Bool) → eqb (get_or b.slots (b.len - 1) 0) unknown ≡ e → P
      go true e =
          let f = found-mark heap _ (eqb-true (get_or b.slots (b.len - 1) 0) unknown e) in
          none-it f (L.newest ∙ node_none f)
      go false e = found_below (B.held.held (b.len - 1) (omega arith)) small (eqb-false (get_or b.slots (b.len - 1) 0) unknown e)
          λ node low f. node-it node low f (L.newest ∙ node_or_lem f)

  pub goes-node : 0 < top → top ≤ unknown → r.newest < top
  goes-node pos small = by_newest small (λ f e. rw e pos) (λ node low f e. rw e low)

  as_left : LeavesScope b (record { newest = newest; state = r.state })
  as_left = record { newest = refl; slots = L.slots; len = L.len }

  -- as the rules have it
  pub goes-state : {A : Type 0} → value_at heap 0 ≡ unit → top ≤ unknown → (next : Val → State → Run A) (fuel : ℕ)
      → leave (state_of heap b) next fuel ≡ next (value_at heap r.newest) (state_of heap r.state) fuel
  unfolding leave
  goes-state u small next fuel = by_newest small
      (λ f e. ap (λ σ. leave σ next fuel) (front ∙ ap (λ f. slotMeaning heap f ∷ state_of heap r.state) f)
      ∙ ap (λ v. next v (state_of heap r.state) fuel) (sym u ∙ ap (value_at heap) (sym e)))
      (λ node low f e. ap (λ σ. leave σ next fuel) (front ∙ ap (λ f. slotMeaning heap f ∷ state_of heap r.state) f)
      ∙ ap (λ v. next v (state_of heap r.state) fuel) (ap (value_at heap) (sym e)))
    where
      front : state_of heap b ≡ slotMeaning heap (found heap (get_or b.slots (b.len - 1) 0)) ∷ state_of heap r.state
      front = leaves-state heap b (record { newest = get_or b.slots (b.len - 1) 0; state = r.state }) as_left some

  -- an outer state that `b` follows, with one variable more
  pub goes-follows : {c c₁ : View} {x : ℕ} → Opens c x c₁ → length c.slots ≡ max_variables → Follows heap c₁ b top → Follows heap c r.state top
  goes-follows {c} {c₁} {x} O full F = record {
    bound = record {
      full = ap length L.slots ∙ B.full;
      few = omega (arith, L.len, B.few);
      held = record { held = λ j h. rw L.slots (B.held.held j (omega (arith, L.len))) };
    };
    len = let z : r.state.len ≡ b.len - 1 = L.len in omega (arith, F.len, O.len);
    kept = λ i h n.
        ap (λ (l : List ℕ). get_or l i 0) L.slots
        ∙ F.kept i (omega (arith, O.len)) (λ e. n (sym (same i h) ∙ e)) ∙ same i h;
  }
    where
      same : (i : ℕ) → i < c.len → get_or c₁.slots i 0 ≡ get_or c.slots i 0
      same i h = ap (λ (l : List ℕ). get_or l i 0) O.slots ∙ get_or-set_other c.slots c.len i x 0 (λ q. omega arith)

module _ {heap : List ℕ} {c c₁ : View} {x : ℕ} (O : Opens c x c₁) {top : ℕ} (B : Bound heap c top) (room : c.len < max_variables) (low : Slot heap x top) where
  pub opened-bound : Bound heap c₁ top
  opened-bound = record {
    full = ap length O.slots ∙ length-set c.slots c.len x ∙ B.full;
    few = omega (arith, O.len);
    held = rw O.slots (subst (λ n. Slots heap (set c.slots c.len x) n top) (let z : suc c.len ≡ c₁.len = omega (arith, O.len) in z)
        (slots_bind heap c.slots c.len top x (omega (arith, B.full)) B.held low));
  }

  pub opened-binds : {q : ℕ} → Binds heap c q top → Binds heap c₁ q top
  opened-binds {q} D = record {
    bound = opened-bound;
    within = omega (arith, D.within, O.len);
    ancillae = λ i h. rw (ap (λ (l : List ℕ). get_or l i 0) O.slots ∙ get_or-set_other c.slots c.len i x 0 (λ e. omega (arith, D.within)))
        (D.ancillae i h);
  }
