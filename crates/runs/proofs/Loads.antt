-- Values loaded as nodes: the unit, the ancillae, whose nodes are then put into slots one after another, and the value.
use Prim.Native.Nat.{ℕ, zero, suc, ◌+◌, ◌-◌, ◌≤◌, ◌<◌, ◌^◌}
use native.Mathlib.Omega.{arith}
use native.Mathlib.Decide.{dec_lt}
use native.Mathlib.Numerals.{add-one}
use mathlib.Core.Path.{◌≡◌, refl, sym, ap, ap₂, subst, ◌∙◌}
use mathlib.Core.List.{List, [], ◌∷◌, ◌++◌, append-nil}
use lib.ListN.{length, get_or, set, drop, length-set, get_or-append}
use lib.Seq.{get_or-set_same, get_or-set_other, get_or-append_seam}
use package.Rattle.rules.specs.Limits.{fits, max_value_bytes, max_ancilla_bytes, max_parameters}
use package.Rattle.rules.specs.Val.{Val, unit, size, encode}
use package.Rattle.rules.proofs.Basics.{given}
use package.Rattle.rules.proofs.Val.{length-encode}
use package.Rattle.rules.proofs.Typing.Tests.{leb-sound}
use package.Rattle.calls.specs.Values.{encode_all}
use package.Rattle.calls.proofs.Values.{read-sound, size-positive, value-sound, ancillae-sound}
use package.Rattle.valuegraph.specs.Nodes.{Agree, length_at, Room, value_at, Heap, Grown}
use package.Rattle.valuegraph.specs.Loads.{LoadReady, LoadedFrom}
use package.Rattle.valuegraph.proofs.Places.{agree_refl}
use package.Rattle.valuegraph.proofs.Heaps.{value-kept}
use package.Rattle.valuegraph.proofs.Loading.{loaded-value}
use package.Rattle.valuebytes.specs.Ends.{value_in, values_in}
use package.Rattle.valuebytes.proofs.Walks.{Begins, walk_start, walk_done, walk_more, walk_first, walk_inside, walk_next}
use package.Rattle.scopes.specs.Slots.{slot_count, Machine, machine_of, slots_of, Moved}
use package.Rattle.forward.specs.Ready.{Graph, values_at}
use package.Rattle.forward.proofs.Making.{graph_later}
use package.Rattle.runs.specs.declared.begin.Start.{Start}
use package.Rattle.runs.specs.Begun.{start_nodes, Enough, Beginning, AncillaeLoaded, Begun, BegunIn, BegunWith}

-- the first node, which is the unit
first-node : {heap heap₁ : List ℕ} → Grown heap heap₁ 0 unit → Graph heap₁ 1
first-node g = record { right = g.right; short = λ n l. (g.right.node n l).fit; some = omega arith; unit_there = g.value }

----------------------------------------------------------------
-- One value more

-- nodes below `top`, `k` slots that hold some of them, and the values that they have
pub record Held (heap slots : List ℕ) (vs : List Val) (k top : ℕ) : Type 0 where
  pub graph : Graph heap top
  pub held : (i : ℕ) → i < k → get_or slots i 0 < top
  pub values : (i : ℕ) → i < k → value_at heap (get_or slots i 0) ≡ get_or vs i unit

module _ {heap heap' slots : List ℕ} {vs : List Val} {k top : ℕ} (h : Held heap slots vs k top) (agree : Agree top heap heap') where
  -- a node more, in slot `k`
  held_more : {node top' : ℕ} → k < length slots → Heap heap' top' → top ≤ top' → node < top' → value_at heap' node ≡ get_or vs k unit
      → Held heap' (set slots k node) vs (suc k) top'
  held_more {node} {top'} room right le low v = record {
    graph = graph_later h.graph agree right le;
    held = λ i l. at_slot (λ i n. n < top') (λ i l. omega (arith, h.held i l)) low i l;
    values = λ i l. at_slot (λ i n. value_at heap' n ≡ get_or vs i unit)
        (λ i l. sym (value-kept heap heap' top h.graph.right agree _ (h.held i l)) ∙ h.values i l) v i l;
  }
    where
      at_slot : (P : ℕ → ℕ → Type 0) → ((i : ℕ) → i < k → P i (get_or slots i 0)) → P k node → (i : ℕ) → i < suc k → P i (get_or (set slots k node) i 0)
      at_slot P old new i l = by (dec_lt i k)
        where
          by : Dec (i < k) → P i (get_or (set slots k node) i 0)
          by (yes lt) = rw (get_or-set_other slots k i node 0 (λ w. omega arith)) (old i lt)
          by (no ge) = subst (λ (i : ℕ). P i (get_or (set slots k node) i 0)) (let e : k ≡ i = omega arith in e) (rw (get_or-set_same slots k node 0 room) new)

----------------------------------------------------------------
-- Ancillae, one after another

module _ {heap slots anc : List ℕ} (E : Enough heap slots anc) where
  ancillae-short : length anc ≤ max_value_bytes
  ancillae-short = (walk_start anc E.read).short

  module _ {heap₁ : List ℕ} (g : Grown heap heap₁ 0 unit) where
    pub ancillae-ready : LoadReady heap₁ 1 anc
    unfolding start_nodes max_ancilla_bytes max_value_bytes
    ancillae-ready = record {
      right = g.right;
      values = values_in anc;
      whole = (ancillae-sound anc E.read).0;
      short = ancillae-short;
      room = omega (arith, ancillae-short, E.nodes_there, g.agree.lengths);
      small = omega (arith, ancillae-short);
    }

-- `k` ancillae have their slots; the next one is at `node`, where 0 stands for none
pub record Named (heap slots₀ slots anc : List ℕ) (k node top : ℕ) : Type 0 where
  pub enough : Enough heap slots₀ anc
  pub before : List ℕ
  pub loaded : LoadedFrom before heap 1 anc 0 top
  pub inside : node ≤ length anc
  pub begins : Begins anc (values_in anc) k (length anc - node)
  pub counted : k ≤ length (values_in anc)
  pub nodes : Held heap slots (values_in anc) k top
  pub slots_length : length slots₀ ≡ length slots

module _ {heap slots anc heap₁ heap₂ : List ℕ} {top : ℕ} (E : Enough heap slots anc) (g : Grown heap heap₁ 0 unit)
    (L : LoadedFrom heap₁ heap₂ 1 anc 0 top) where
  pub named_start : Named heap₂ slots slots anc 0 (top - 1) top
  named_start = record {
    enough = record {
      read = E.read;
      few = E.few;
      slots_there = E.slots_there;
      nodes_there = omega (arith, E.nodes_there, g.agree.lengths, L.agree.lengths);
    };
    before = heap₁;
    loaded = L;
    inside = omega (arith, L.nodes);
    begins = let z : 0 ≡ length anc - (top - 1) = omega (arith, L.nodes) in
        subst (λ (at : ℕ). Begins anc (values_in anc) 0 at) z (walk_start anc E.read);
    counted = omega arith;
    nodes = record {
      graph = graph_later (first-node g) L.agree L.right (omega (arith, L.nodes));
      held = λ i l. absurd (omega arith);
      values = λ i l. absurd (omega arith);
    };
    slots_length = refl;
  }

module _ {heap slots₀ slots anc : List ℕ} {k node top : ℕ} (N : Named heap slots₀ slots anc k node top) where
  pub named_done : node ≤ 0 → {before : List ℕ} → length before ≡ length heap → AncillaeLoaded before heap slots₀ slots anc (record { count = k; top = top })
  named_done h e = record {
    graph = N.nodes.graph;
    nodes = omega (arith, N.loaded.nodes);
    count = omega (arith, walk_done N.begins (omega arith), N.counted);
    held = N.nodes.held;
    values = N.nodes.values;
    heap_length = e;
    slots_length = N.slots_length;
  }

  module _ (more : 0 < node) where
    at : ℕ
    at = length anc - node

    at-inside : at < length anc
    unfolding at
    at-inside = omega (arith, N.inside)

    there : k < length (values_in anc)
    unfolding at
    there = walk_more N.begins at-inside

    abbrev here : Val
    here = get_or (values_in anc) k unit

    is : value_at heap node ≡ here
    unfolding at
    is =
        let z : 1 + (length anc - (length anc - node + 1)) ≡ node = omega (arith, N.inside) in
        ap (value_at heap) (sym z)
        ∙ loaded-value N.loaded at here (encode_all (drop (suc k) (values_in anc))) at-inside (read-sound _ _ (walk_first N.begins there))

    pub named_low : node < top
    named_low = omega (arith, N.loaded.nodes, N.inside)

    pub named_room : Room heap (node + 1)
    named_room = omega (arith, N.loaded.right.held, named_low)

    -- so many nodes has the ancilla, and no more than there are
    long : length_at heap node ≡ size here
    long = (N.loaded.right.node node named_low).len ∙ ap size is

    pub named_length : length_at heap node ≤ node
    unfolding at
    named_length = omega (arith, long, walk_inside N.begins there, N.inside)

    pub named_less : (n : ℕ) → n ≡ length_at heap node → node - n < node
    named_less n e = omega (arith, long, size-positive here)

    pub named_bind : k < slot_count
    named_bind = omega (arith, there, N.enough.few)

    pub named_small : k + 1 < 2 ^ 16
    unfolding max_parameters
    named_small = omega (arith, there, N.enough.few)

    pub named_next : {n : ℕ} {slots' : List ℕ} → slots' ≡ set slots k node → n ≡ length_at heap node
        → Named heap slots₀ slots' anc (k + 1) (node - n) top
    unfolding at
    named_next {n} s e = rw (s, add-one k) (record {
      enough = N.enough;
      before = N.before;
      loaded = N.loaded;
      inside = omega (arith, N.inside);
      begins = walk_next N.begins there (omega (arith, e, long, named_length, N.inside));
      counted = omega (arith, there);
      nodes = held_more N.nodes (agree_refl top heap) (omega (arith, there, N.enough.few, N.enough.slots_there, N.slots_length))
          N.nodes.graph.right (omega arith) named_low is;
      slots_length = N.slots_length ∙ sym (length-set slots k node);
    })

----------------------------------------------------------------
-- The value behind them

values_are : (heap slots : List ℕ) (vs : List Val) (from : ℕ) → ((i : ℕ) → i < length vs → value_at heap (get_or slots (from + i) 0) ≡ get_or vs i unit)
    → values_at heap slots from (length vs) ≡ vs
unfolding values_at
values_are heap slots [] from e = refl
values_are heap slots (v ∷ vs) from e =
    ap₂ ◌∷◌ (ap (λ i. value_at heap (get_or slots i 0)) (let z : from ≡ from + 0 = omega arith in z) ∙ e 0 (omega arith))
    (values_are heap slots vs (from + 1) λ i l.
    ap (λ i. value_at heap (get_or slots i 0)) (let z : from + 1 + i ≡ from + suc i = omega arith in z) ∙ e (suc i) (omega arith))

-- the values are those of slots that hold the same nodes
pub values_same : (heap slots slots' : List ℕ) (from n : ℕ) → ((j : ℕ) → from ≤ j → j < from + n → get_or slots j 0 ≡ get_or slots' j 0)
    → values_at heap slots from n ≡ values_at heap slots' from n
unfolding values_at
values_same heap slots slots' from zero s = refl
values_same heap slots slots' from (suc n) s =
    ap₂ ◌∷◌ (ap (value_at heap) (s from (omega arith) (omega arith))) (values_same heap slots slots' (from + 1) n λ j h h'. s j (omega arith) (omega arith))

module _ {heap slots anc bytes : List ℕ} (B : Beginning heap slots anc bytes) where
  -- the value's bytes are within the limit
  value-short : length bytes ≤ max_value_bytes
  unfolding fits
  value-short = given (value-sound bytes B.read) λ (e, f).
      omega (arith, ap length e, length-encode (value_in bytes), leb-sound (size (value_in bytes)) max_value_bytes f)

  few_bytes : length anc ≤ max_value_bytes
  few_bytes = ancillae-short B.for_ancillae

  value_bytes_lem : bytes ≡ encode (value_in bytes) ++ []
  value_bytes_lem = (value-sound bytes B.read).0 ∙ sym (append-nil (encode (value_in bytes)))

  module _ {heap₁ slots₁ : List ℕ} {start : Start} (A : AncillaeLoaded heap heap₁ slots slots₁ anc start) where
    pub begun-ready : LoadReady heap₁ start.top bytes
    unfolding start_nodes max_ancilla_bytes max_value_bytes encode_all
    begun-ready = record {
      right = A.graph.right;
      values = value_in bytes ∷ [];
      whole = value_bytes_lem;
      short = value-short;
      room = omega (arith, A.nodes, value-short, few_bytes, B.for_ancillae.nodes_there, A.heap_length);
      small = omega (arith, A.nodes, value-short, few_bytes);
    }

    last-there : start.count < length slots₁
    last-there = omega (arith, A.count, B.for_ancillae.few, B.for_ancillae.slots_there, A.slots_length)

    -- the values in order, the dynamic one last
    abbrev all : List Val
    all = values_in anc ++ (value_in bytes ∷ [])

    all-before : (i : ℕ) → i < start.count → get_or all i unit ≡ get_or (values_in anc) i unit
    all-before i l = get_or-append (values_in anc) (value_in bytes ∷ []) unit i (omega (arith, A.count))

    all-last : get_or all start.count unit ≡ value_in bytes
    all-last = ap (λ i. get_or all i unit) A.count ∙ get_or-append_seam (values_in anc) (value_in bytes) [] unit

    earlier : Held heap₁ slots₁ all start.count start.top
    earlier = record {
      graph = A.graph;
      held = A.held;
      values = λ i l. A.values i l ∙ sym (all-before i l);
    }

    module _ {heap' : List ℕ} {top : ℕ} (d : LoadedFrom heap₁ heap' start.top bytes 0 top) where
      some : 0 < length bytes
      some = omega (arith, ap length (value-sound bytes B.read).0, length-encode (value_in bytes), size-positive (value_in bytes))

      abbrev slots' : List ℕ
      slots' = set slots₁ start.count (top - 1)

      is_value_lem : value_at heap' (top - 1) ≡ value_in bytes
      is_value_lem =
          let z : top - 1 ≡ start.top + (length bytes - (0 + 1)) = omega (arith, d.nodes, some) in
          ap (value_at heap') z ∙ loaded-value d 0 (value_in bytes) [] some value_bytes_lem

      now : Held heap' slots' all (suc start.count) top
      now = held_more earlier d.agree last-there d.right (omega (arith, d.nodes)) (omega (arith, d.nodes, some)) (is_value_lem ∙ sym all-last)

      begun-set : Begun heap heap' slots slots' anc bytes (record { count = start.count; top = top })
      unfolding start_nodes max_ancilla_bytes max_value_bytes
      begun-set = record {
        graph = now.graph;
        few = omega (arith, A.nodes, few_bytes, d.nodes, value-short);
        count = A.count;
        held = λ i l. now.held i (omega arith);
        values = ap (values_at heap' slots' 0) A.count ∙ values_are heap' slots' (values_in anc) 0 λ i l.
            ap (λ i. value_at heap' (get_or slots' i 0)) (let z : 0 + i ≡ i = omega arith in z)
            ∙ now.values i (omega (arith, A.count)) ∙ all-before i (omega (arith, A.count));
        last = now.values start.count (omega arith) ∙ all-last;
        heap_length = A.heap_length ∙ d.agree.lengths;
        slots_length = A.slots_length ∙ sym (length-set slots₁ start.count (top - 1));
      }

      pub begun : {slots₂ : List ℕ} → slots₂ ≡ set slots₁ start.count (top - 1)
          → Begun heap heap' slots slots₂ anc bytes (record { count = start.count; top = top })
      begun s = rw s begun-set

-- the machine is there too
pub begun_with : {heap heap' st₀ st st' anc bytes : List ℕ} {start : Start} {f fuel : ℕ} → BegunIn heap heap' st₀ st anc bytes start
    → Moved st st' (record { top = start.top; fuel = f }) → f ≡ fuel → BegunWith heap heap' st₀ st' anc bytes fuel start.count
begun_with {heap} {heap'} {st₀} {st} {st'} {anc} {bytes} {start} B M e = record {
  begun = record {
    lengths = M.lengths ∙ B.lengths;
    begun = subst (λ n. Begun heap heap' (slots_of st₀) (slots_of st') anc bytes (record { count = start.count; top = n }))
        (sym (ap (λ (m : Machine). m.top) M.machine)) (subst (λ s. Begun heap heap' (slots_of st₀) s anc bytes start) (sym M.slots) B.begun);
  };
  left = ap (λ (m : Machine). m.fuel) M.machine ∙ e;
}

-- as those who run it have it: the numbers stay
pub numbers_stay : (st : List ℕ) {fuel : ℕ} → (machine_of st).fuel ≡ fuel → Moved st st (record { top = (machine_of st).top; fuel = fuel })
numbers_stay st e = record { lengths = refl; slots = refl; machine = ap (λ f. record { top = (machine_of st).top; fuel = f }) e }
