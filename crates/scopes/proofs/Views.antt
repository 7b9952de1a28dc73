-- From the binding state in code to its view: the slots that a view has, what the state says by them, and what opening, meeting and leaving in
-- code do to the view and to the index.
use Prim.Native.Nat.{ℕ, zero, suc, ◌+◌, ◌-◌, ◌<◌, ◌≤◌}
use native.Mathlib.Omega.{arith}
use native.Mathlib.Decide.{dec_lt}
use mathlib.Core.Path.{◌≡◌, refl, sym, ap, ap₂, subst, ◌∙◌}
use mathlib.Core.Bool.{Bool, true, false}
use mathlib.Core.List.{List, [], ◌∷◌}
use lib.ListN.{length, get_or, set, length-set}
use lib.Seq.{get_or-set_same, get_or-set_other, ext_get_or}
use lib.Dec.{eqb}
use borrow.Author.Tests.{eqb-true, eqb-false, lt-ltb, le-ltb}
use Rattle.std.specs.Prelude.{Option, Some, None, Result}
use package.Rattle.rules.specs.Limits.{max_variables}
use package.Rattle.rules.specs.Val.{same}
use package.Rattle.valuegraph.specs.Nodes.{left_at, value_at, Agree, Celled}
use package.Rattle.scopes.specs.Slots.{unknown, found, node_or, meaning, state_at, Scope, slots_of, Slot}
use package.Rattle.scopes.specs.Cells.{cell_count, Linked, cell_at, number_in, state_with}
use package.Rattle.scopes.specs.Bindings.{slots_from, view_of, state_of, Bound, Opens, Meets, Tells, said, seen, Compared, Assigns, MeetsBy, MeetsAt}
use package.Rattle.scopes.proofs.Marks.{found-mark, found_below, found-low, found-cell, node_or_lem, node_none}
use package.Rattle.scopes.proofs.Cells.{cell-empty, cell-le, cell-kept, binds_it, binds-no-other, leaves-older, leaves_none}
use Rattle.scopes.specs.declared.bindings.Bindings.{Bindings}

----------------------------------------------------------------
-- The slots of a view

length_from : (slots : List ℕ) (base n : ℕ) → length (slots_from slots base n) ≡ n
unfolding slots_from
length_from slots base zero = refl
length_from slots base (suc n) = ap suc (length_from slots (base + 1) n)

pub view_full : (slots : List ℕ) (base : ℕ) → length (slots_from slots base max_variables) ≡ max_variables
view_full slots base = length_from slots base max_variables

from_at : (slots : List ℕ) (base n i : ℕ) → i < n → get_or (slots_from slots base n) i 0 ≡ get_or slots (base + i) 0
unfolding slots_from
from_at slots base zero i l = absurd (omega arith)
from_at slots base (suc n) zero l = ap (λ j. get_or slots j 0) (let z : base ≡ base + 0 = omega arith in z)
from_at slots base (suc n) (suc i) l = from_at slots (base + 1) n i (omega arith) ∙ ap (λ j. get_or slots j 0) (let z : base + 1 + i ≡ base + suc i = omega arith in z)

pub view_at : (slots : List ℕ) (base i : ℕ) → i < max_variables → get_or (slots_from slots base max_variables) i 0 ≡ get_or slots (base + i) 0
view_at slots base i l = from_at slots base max_variables i l

-- one slot is written
pub view_set : (slots : List ℕ) (base i x : ℕ) → i < max_variables → base + i < length slots → slots_from (set slots (base + i) x) base max_variables ≡ set (slots_from slots base max_variables) i x
view_set slots base i x l h =
    ext_get_or 0 _ _ (view_full (set slots (base + i) x) base ∙ sym (length-set (slots_from slots base max_variables) i x ∙ view_full slots base)) λ j m. go j (low j m) (dec_lt j i) (dec_lt i j)
  where
    low : (j : ℕ) → j < length (slots_from (set slots (base + i) x) base max_variables) → j < max_variables
    low j m = omega (arith, view_full (set slots (base + i) x) base)

    other : (j : ℕ) → j < max_variables → (j ≡ i → ⊥) → get_or (slots_from (set slots (base + i) x) base max_variables) j 0 ≡ get_or (set (slots_from slots base max_variables) i x) j 0
    other j m n =
        view_at (set slots (base + i) x) base j m ∙ get_or-set_other slots (base + i) (base + j) x 0 (λ e. n (omega arith))
        ∙ sym (get_or-set_other (slots_from slots base max_variables) i j x 0 n ∙ view_at slots base j m)

    go : (j : ℕ) → j < max_variables → Dec (j < i) → Dec (i < j) → get_or (slots_from (set slots (base + i) x) base max_variables) j 0 ≡ get_or (set (slots_from slots base max_variables) i x) j 0
    go j m (yes a) d = other j m (λ e. omega arith)
    go j m (no a) (yes b) = other j m (λ e. omega arith)
    go j m (no a) (no b) = let e : j ≡ i = omega arith in
        rw e (view_at (set slots (base + i) x) base i l ∙ get_or-set_same slots (base + i) x 0 h ∙ sym (get_or-set_same (slots_from slots base max_variables) i x 0 (omega (arith, view_full slots base))))

-- the view of a scope has its slots
pub view_bound : (heap slots : List ℕ) (base n top : ℕ) → n ≤ max_variables → ((i : ℕ) → i < n → Slot heap (get_or slots (base + i) 0) top)
    → Bound heap (view_of slots base n) top
view_bound heap slots base n top few held = record {
  full = view_full slots base;
  few = few;
  held = record { held = λ i l. rw (view_at slots base i (omega arith)) (held i l) };
}

-- slots that hold the same scope, each from its own base on
pub state-moved : (heap slots slots' : List ℕ) (base base' n : ℕ) → ((i : ℕ) → i < n → get_or slots (base + i) 0 ≡ get_or slots' (base' + i) 0)
    → state_at heap slots base n ≡ state_at heap slots' base' n
unfolding state_at
state-moved heap slots slots' base base' zero same = refl
state-moved heap slots slots' base base' (suc n) same =
    ap₂ ◌∷◌ (ap (λ k. meaning heap (found heap k)) (same n (omega arith))) (state-moved heap slots slots' base base' n λ i l. same i (omega arith))

-- the view is the state that the slots hold
pub view_state : (heap slots : List ℕ) (base n : ℕ) → n ≤ max_variables → state_of heap (view_of slots base n) ≡ state_at heap slots base n
unfolding state_of
view_state heap slots base n few =
    state-moved heap (slots_from slots base max_variables) slots 0 base n
    λ i l. ap (λ j. get_or (slots_from slots base max_variables) j 0) (let z : 0 + i ≡ i = omega arith in z) ∙ view_at slots base i (omega arith)

pub view_opens : (slots : List ℕ) (base n x : ℕ) → n < max_variables → base + n < length slots → Opens (view_of slots base n) x (view_of (set slots (base + n) x) base (n + 1))
view_opens slots base n x l h = record { slots = view_set slots base n x l h; len = refl }

----------------------------------------------------------------
-- The state and its index

-- a slot's number is the state's
number-told : (heap slots : List ℕ) (b : Bindings) (sc : Scope) (n top : ℕ) → Tells heap slots b sc.base sc.q n top → (i : ℕ) → i < n
    → number_in heap slots b.head sc i ≡ get_or slots (sc.base + i) 0
number-told heap slots b sc n top T i l = go (dec_lt i sc.q)
  where
    go : Dec (i < sc.q) → number_in heap slots b.head sc i ≡ get_or slots (sc.base + i) 0
    go (yes m) = rw (lt-ltb i sc.q m)
    go (no m) = rw (le-ltb i sc.q (omega arith)) (sym (T.index i (omega arith) l))

-- what the state says is what the slot says
pub said-told : (heap slots : List ℕ) (b : Bindings) (sc : Scope) {n top : ℕ} → Tells heap slots b sc.base sc.q n top → (i : ℕ) → i < n
    → said heap slots b sc i ≡ found heap (get_or slots (sc.base + i) 0)
said-told heap slots b sc {n} {top} T i l = ap (found heap) (number-told heap slots b sc n top T i l)

-- the first variables of a scope, by the state and by the slots
state-told : (heap slots : List ℕ) (b : Bindings) (sc : Scope) (n top : ℕ) → Tells heap slots b sc.base sc.q n top → (m : ℕ) → m ≤ n
    → state_with heap slots b.head sc m ≡ state_at heap slots sc.base m
unfolding state_at state_with
state-told heap slots b sc n top T zero le = refl
state-told heap slots b sc n top T (suc m) le =
    ap₂ (λ x σ. meaning heap (found heap x) ∷ σ) (number-told heap slots b sc n top T m (omega arith)) (state-told heap slots b sc n top T m (omega arith))

-- The rules' state that a state by value is: that of the view.
pub view_told : (heap slots : List ℕ) (b : Bindings) (sc : Scope) (top : ℕ) → Tells heap slots b sc.base sc.q sc.n top → sc.n ≤ max_variables
    → state_with heap slots b.head sc sc.n ≡ state_of heap (view_of slots sc.base sc.n)
view_told heap slots b sc top T few = state-told heap slots b sc sc.n top T sc.n (omega arith) ∙ sym (view_state heap slots sc.base sc.n few)

-- the first variables are ancilla parameters, and there is no other
pub tells_first : (heap slots : List ℕ) {b : Bindings} (base n top : ℕ) → b.head ≡ 0 → 0 < top → Tells heap slots b base n n top
tells_first heap slots base n top e some = record {
  within = omega arith;
  index = λ i l m. absurd (omega arith);
  outside = λ i l. rw e (cell-empty heap i);
}

-- a heap that has grown, and slots that are the same in the scope
pub tells_later : {heap heap' slots : List ℕ} (slots' : List ℕ) {b : Bindings} {base q n top : ℕ} (top' : ℕ) → Tells heap slots b base q n top
    → Agree top heap heap' → top ≤ top' → ((i : ℕ) → i < n → get_or slots (base + i) 0 ≡ get_or slots' (base + i) 0) → Tells heap' slots' b base q n top'
tells_later slots' {b} top' T A le same = record {
  within = omega (arith, T.within);
  index = λ i l m. sym (same i m) ∙ T.index i l m ∙ ap (λ c. unknown + c) (cell-kept A b.head i T.within);
  outside = λ i l. sym (cell-kept A b.head i T.within) ∙ T.outside i l;
}

-- a variable comes into scope
pub tells-opened : {heap slots : List ℕ} {b : Bindings} {base q n top : ℕ} → Tells heap slots b base q n top → base + n < length slots
    → Tells heap (set slots (base + n) unknown) b base q (n + 1) top
tells-opened {heap} {slots} {b} {base} {q} {n} T h = record {
  within = T.within;
  index = λ i l m. go i l m (dec_lt i n);
  outside = λ i l. T.outside i (omega arith);
}
  where
    go : (i : ℕ) → q ≤ i → i < n + 1 → Dec (i < n) → get_or (set slots (base + n) unknown) (base + i) 0 ≡ unknown + cell_at heap b.head i
    go i l m (yes k) = get_or-set_other slots (base + n) (base + i) unknown 0 (λ e. omega arith) ∙ T.index i l k
    go i l m (no k) =
        let e : i ≡ n = omega arith in
        let none = T.outside n (omega arith) in
        rw e (get_or-set_same slots (base + n) unknown 0 h ∙ (let z : unknown ≡ unknown + cell_at heap b.head n = omega arith in z))

-- the variables from `n` on leave it
pub tells-left : {heap heap' slots : List ℕ} {b r : Bindings} {base q n m top : ℕ} → Tells heap slots b base q m top → n ≤ m
    → Linked heap heap' top unknown n b.head → top < cell_count → r.head ≡ top → Tells heap' slots r base q n (top + 1)
tells-left T le C small e = record {
  within = omega arith;
  index = λ i l h. T.index i l (omega arith)
      ∙ ap (λ c. unknown + c) (sym (rw e (leaves-older C T.within (omega (arith, T.within)) refl i h)));
  outside = λ i l. rw e (leaves_none C T.within (omega (arith, T.within)) refl i l);
}

----------------------------------------------------------------
-- A variable is met

-- a number that is not newer than the state
pub seen-found : (heap : List ℕ) (b : Bindings) (s : ℕ) → s ≤ unknown + b.head → seen heap b s ≡ found heap s
unfolding seen
seen-found heap b s l = rw (seen, le-ltb (unknown + b.head) s l)

-- a number that is newer
pub seen-newer : (heap : List ℕ) (b : Bindings) (s : ℕ) → unknown + b.head < s → seen heap b s ≡ None
unfolding seen
seen-newer heap b s l = rw (seen, lt-ltb (unknown + b.head) s l)

-- what is seen is a node below `top`, if it is any
pub seen_low : {heap : List ℕ} {s top : ℕ} (b : Bindings) → Slot heap s top → top ≤ unknown → 0 < top → node_or (seen heap b s) < top
seen_low {heap} {s} {top} b S small some = go (dec_lt (unknown + b.head) s)
  where
    go : Dec (unknown + b.head < s) → node_or (seen heap b s) < top
    go (yes l) = rw (node_none (seen-newer heap b s l)) some
    go (no l) = rw (seen-found heap b s (omega arith)) (found-low S small some)

-- a slot that names a cell of the state
pub told-dynamic : {heap slots : List ℕ} {b : Bindings} {base q n top : ℕ} → Tells heap slots b base q n top → (i : ℕ) → q ≤ i → i < n
    → seen heap b (get_or slots (base + i) 0) ≡ found heap (get_or slots (base + i) 0)
told-dynamic {heap} {b = b} T i m l = seen-found heap b _ (omega (arith, T.index i m l, cell-le heap i b.head))

-- the slots of a scope are no newer than its state
pub told-seen : {heap slots : List ℕ} {b : Bindings} {base q n top : ℕ} → Tells heap slots b base q n top → top ≤ unknown
    → ((j : ℕ) → j < q → get_or slots (base + j) 0 < top) → (i : ℕ) → i < n
    → seen heap b (get_or slots (base + i) 0) ≡ found heap (get_or slots (base + i) 0)
told-seen {heap} {slots} {b} {base} {q} T small known i l = seen-found heap b _ (go (dec_lt i q))
  where
    go : Dec (i < q) → get_or slots (base + i) 0 ≤ unknown + b.head
    go (yes m) = omega (arith, known i m)
    go (no m) = omega (arith, T.index i (omega arith) l, cell-le heap i b.head)

-- by what the slot says
pub by_slot : {heap heap' st st' : List ℕ} {b : Bindings} (sc : Scope) {i node top : ℕ} {r : Result Bindings Bindings} → MeetsAt heap heap' st st' b sc i node r
    → said heap (slots_of st) b sc i ≡ found heap (get_or (slots_of st) (sc.base + i) 0) → Slot heap (get_or (slots_of st) (sc.base + i) 0) top → top ≤ unknown
    → {P : Type 0} → (get_or (slots_of st) (sc.base + i) 0 ≡ unknown → Assigns heap heap' st st' b sc.base i node r → P)
    → ((old : ℕ) → (get_or (slots_of st) (sc.base + i) 0 ≡ unknown → ⊥) → found heap (get_or (slots_of st) (sc.base + i) 0) ≡ Some old
    → Compared heap heap' st st' b old node r → P) → P
by_slot {heap} {heap'} {st} {st'} {b} sc {i} {node} {r = r} M e S small {P} binding comparing = go (eqb (get_or (slots_of st) (sc.base + i) 0) unknown) refl
  where
    told : (f : Option ℕ) → found heap (get_or (slots_of st) (sc.base + i) 0) ≡ f → MeetsBy heap heap' st st' b sc.base i node r f
    told f q = subst (MeetsBy heap heap' st st' b sc.base i node r) (e ∙ q) M.met

    go : (y : Bool) → eqb (get_or (slots_of st) (sc.base + i) 0) unknown ≡ y → P
    go true q = let u = eqb-true _ unknown q in binding u (told None (found-mark heap _ u))
    go false q = let u = eqb-false _ unknown q in found_below S small u λ old low z. comparing old u z (told (Some old) z)

-- what a new cell says
pub new-found : {heap heap' : List ℕ} {top node link : ℕ} → Celled heap heap' top node link → 0 < top → found heap' (unknown + top) ≡ Some node
new-found {heap' = heap'} {top = top} C some =
    found-cell heap' (unknown + top) (omega arith) ∙ ap Some (ap (λ c. left_at heap' c) (let z : unknown + top - unknown ≡ top = omega arith in z) ∙ C.left_is)

module _ (slots : List ℕ) (base i n : ℕ) (l : i < n) (few : n ≤ max_variables) where
  here : get_or (slots_from slots base max_variables) i 0 ≡ get_or slots (base + i) 0
  here = view_at slots base i (omega arith)

  -- it is bound
  pub binds_view : {slots' : List ℕ} (heap : List ℕ) (node : ℕ) {agrees : Bool} {x : ℕ} → base + i < length slots → get_or slots (base + i) 0 ≡ unknown
      → agrees ≡ true → slots' ≡ set slots (base + i) x → Meets heap (view_of slots base n) i node x agrees (view_of slots' base n)
  binds_view heap node {x = x} there u a s = record {
    binds = λ _. (a, ap (λ s. slots_from s base max_variables) s ∙ view_set slots base i x (omega arith) there, refl);
    compares = λ d. absurd (d (here ∙ u));
  }

  -- it is compared
  pub compares_view : (heap : List ℕ) (node x : ℕ) {agrees : Bool} {old : ℕ} → (get_or slots (base + i) 0 ≡ unknown → ⊥)
      → found heap (get_or slots (base + i) 0) ≡ Some old → agrees ≡ same (value_at heap old) (value_at heap node)
      → Meets heap (view_of slots base n) i node x agrees (view_of slots base n)
  compares_view heap node x {old = old} d e a = record {
    binds = λ u. absurd (d (sym here ∙ u));
    compares = λ _. (a ∙ ap (λ k. same (value_at heap k) (value_at heap node)) (sym (node_or_lem e) ∙ ap (λ s. node_or (found heap s)) (sym here)), refl);
  }

-- the index, once a variable is bound
pub tells-bound : {heap heap' slots slots' : List ℕ} {b r : Bindings} {base q n i node top : ℕ} → Tells heap slots b base q n top → i < n
    → Linked heap heap' top node i b.head → node < top → top ≤ unknown → top < cell_count → base + i < length slots
    → slots' ≡ set slots (base + i) (unknown + top) → r.head ≡ top → Tells heap' slots' r base q n (top + 1)
tells-bound {heap} {heap'} {slots} {slots'} {b} {r} {base} {q} {n} {i} {node} {top} T l C low mark small there s e = record {
  within = omega arith;
  index = λ j m h. rw (s, e) (go j m h (eqb j i) refl);
  outside = λ j m. rw e (other j (λ z. omega arith) ∙ T.outside j m);
}
  where
    node_is : node ≡ unknown → ⊥
    node_is z = omega arith

    few : b.head < cell_count
    few = omega (arith, T.within)

    other : (j : ℕ) → (j ≡ i → ⊥) → cell_at heap' top j ≡ cell_at heap b.head j
    other j d = binds-no-other C T.within few node_is j d

    go : (j : ℕ) → q ≤ j → j < n → (y : Bool) → eqb j i ≡ y → get_or (set slots (base + i) (unknown + top)) (base + j) 0 ≡ unknown + cell_at heap' top j
    go j m h true z =
        rw (eqb-true j i z) (get_or-set_same slots (base + i) (unknown + top) 0 there
        ∙ ap (λ c. unknown + c) (sym (binds_it C T.within few node_is)))
    go j m h false z =
        let d = eqb-false j i z in
        get_or-set_other slots (base + i) (base + j) (unknown + top) 0 (λ k. d (omega arith)) ∙ T.index j m h ∙ ap (λ c. unknown + c) (sym (other j d))

-- a slot that is written twice
set-again : (xs : List ℕ) (i x y : ℕ) → set (set xs i x) i y ≡ set xs i y
set-again [] i x y = refl
set-again (z ∷ xs) zero x y = refl
set-again (z ∷ xs) (suc i) x y = ap (λ xs. z ∷ xs) (set-again xs i x y)

-- a variable comes into scope bound to a node
pub tells_entered : {heap heap' slots slots' : List ℕ} {b r : Bindings} {base q n node top : ℕ} → Tells heap slots b base q n top
    → Linked heap heap' top node n b.head → node < top → top ≤ unknown → top < cell_count → base + n < length slots
    → slots' ≡ set slots (base + n) (unknown + top) → r.head ≡ top → Tells heap' slots' r base q (n + 1) (top + 1)
tells_entered {slots = slots} {base = base} {n = n} {top = top} T C low mark small there s e =
    tells-bound (tells-opened T there) (omega arith) C low mark small (rw (length-set slots (base + n) unknown) there)
    (s ∙ sym (set-again slots (base + n) unknown (unknown + top))) e
