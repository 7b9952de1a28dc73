-- Laws that storing cites: what is still to be stored, and that each turn leaves less of it.
use Prim.Native.Nat.{ℕ, ◌+◌, ◌<◌, ◌≤◌}
use native.Mathlib.Omega.{arith}
use mathlib.Core.Path.{◌≡◌, sym, ap, ◌∙◌}
use mathlib.Core.List.{List, [], ◌∷◌, ◌++◌}
use lib.ListN.{length, set, length-set}
use package.Rattle.octets.specs.Runs.{pasted}
use package.Rattle.octets.proofs.Pastes.{pasted-behind, pasted-before, set-pasted}
use package.Rattle.rules.specs.Val.{size, encode}
use package.Rattle.rules.proofs.Val.{length-encode}
use package.Rattle.calls.proofs.Values.{size-positive}
use package.Rattle.valuegraph.specs.Nodes.{kind_at, length_at, left_at, right_at, Room, of_kind, Single, value_at, Heap}
use package.Rattle.valuegraph.specs.Stores.{StoreReady, StoreDone}
use package.Rattle.valuegraph.proofs.Shapes.{single-some, size-single, size-pair, encode-single, encode-pair}
use package.Rattle.valuegraph.proofs.Heaps.{lower, value-parts, value-unit, heap_down}

-- a byte, and a run behind it
pasted_cons : (xs : List ℕ) (at k : ℕ) (ys : List ℕ) → at < length xs → pasted (set xs at k) (at + 1) ys ≡ pasted xs at (k ∷ ys)
pasted_cons xs at k ys h = ap (λ l. pasted l (at + 1) ys) (set-pasted xs at k h) ∙ pasted-behind xs at (k ∷ []) (omega arith) ys

----------------------------------------------------------------
-- What is still to be stored

-- Once the value at `x` stands at `place`, the value at `n` stands at `at`.
pub record Storing (heap : List ℕ) (n : ℕ) (out₀ : List ℕ) (at x : ℕ) (out : List ℕ) (place : ℕ) : Type 0 where
  pub ready : StoreReady heap x out place
  pub down : x ≤ n
  pub lengths : length out ≡ length out₀
  pub rest : pasted out place (encode (value_at heap x)) ≡ pasted out₀ at (encode (value_at heap n))

-- the value's length, as it was read
pub length-read : {heap : List ℕ} {n : ℕ} {out : List ℕ} {at : ℕ} → StoreReady heap n out at → length_at heap n ≡ size (value_at heap n)
length-read {n = n} w = (w.right.node n (omega arith)).len

module _ {heap : List ℕ} {n : ℕ} {out₀ : List ℕ} {at x : ℕ} {out : List ℕ} {place : ℕ} (s : Storing heap n out₀ at x out place) where
  pub node-room : Room heap (x + 1)
  node-room = s.ready.right.held

  pub here : place < length out
  here = omega (arith, s.ready.room, size-positive (value_at heap x))

-- the kind, as it was read
pub record KindRead (heap : List ℕ) (n : ℕ) (out₀ : List ℕ) (at x : ℕ) (out : List ℕ) (place k : ℕ) : Type 0 where
  pub storing : Storing heap n out₀ at x out place
  pub kind : k ≡ kind_at heap x

module _ {heap : List ℕ} {n : ℕ} {out₀ : List ℕ} {at x : ℕ} {out : List ℕ} {place k : ℕ} (w : KindRead heap n out₀ at x out place k) where
  -- the kind is put
  written : List ℕ
  written = set out place k

  heap_x : Heap heap (x + 1)
  heap_x = w.storing.ready.right

  pub store_unit : {end : ℕ} → k ≡ 0 → end ≡ at + size (value_at heap n) → StoreDone heap n out₀ (set out place k) at end
  unfolding encode
  store_unit z e = record {
    bytes = set-pasted out place k (here w.storing)
        ∙ ap (pasted out place) (rw z (sym (ap encode (value-unit heap (x + 1) heap_x x (sym w.kind ∙ z))))) ∙ w.storing.rest;
    behind = e;
  }

  module _ (some : ¬ (k ≡ 0)) where
    lower-x : (left_at heap x < x) × (right_at heap x < x)
    lower-x = lower heap (x + 1) heap_x x (omega arith) (λ z. some (w.kind ∙ z))

    pub parts_rooms : Room heap (left_at heap x + 1) × Room heap (right_at heap x + 1)
    parts_rooms = (omega (arith, lower-x, heap_x.held), omega (arith, lower-x, heap_x.held))

    whole : value_at heap x ≡ of_kind k (value_at heap (left_at heap x)) (value_at heap (right_at heap x))
    whole = rw w.kind (value-parts heap (x + 1) heap_x x (omega arith) (λ z. some (w.kind ∙ z)))

    -- what follows the kind is still to be stored
    rest_behind : {ys : List ℕ} → encode (value_at heap x) ≡ k ∷ ys → pasted written (place + 1) ys ≡ pasted out₀ at (encode (value_at heap n))
    unfolding written
    rest_behind {ys} e = pasted_cons out place k ys (here w.storing) ∙ ap (pasted out place) (sym e) ∙ w.storing.rest

    -- a lower node, to be stored next
    on : {m : ℕ} {out' : List ℕ} {place' : ℕ} → m < x → length out' ≡ length out → place' + size (value_at heap m) ≤ length out
        → pasted out' place' (encode (value_at heap m)) ≡ pasted out₀ at (encode (value_at heap n)) → Storing heap n out₀ at m out' place'
    on {m} l e r q = record {
      ready = record { right = heap_down (m + 1) (omega arith) heap_x; room = omega arith };
      down = omega (arith, w.storing.down);
      lengths = e ∙ w.storing.lengths;
      rest = q;
    }

  -- inl, inr and roll
  pub store_one : {l : ℕ} → Single k → l ≡ left_at heap x → Storing heap n out₀ at l (set out place k) (place + 1) × (l < x)
  unfolding written
  store_one {l} single e =
      let some = single-some k single in
      let v = value_at heap (left_at heap x) in
      let u = value_at heap (right_at heap x) in
      let low = (lower-x some).0 in
      let long : size (value_at heap x) ≡ size v + 1 = ap size (whole some) ∙ size-single k v u single in
      let behind = rest_behind some (ap encode (whole some) ∙ encode-single k v u single) in
      rw e (on some low (simp length-set) (omega (arith, w.storing.ready.room, long)) behind, low)

-- a pair whose parts were read, and the place behind the left one
pub record PairRead (heap : List ℕ) (n : ℕ) (out₀ : List ℕ) (at x : ℕ) (out : List ℕ) (place k l r behind : ℕ) : Type 0 where
  pub node : KindRead heap n out₀ at x out place k
  pub three : k ≡ 3
  pub left : l ≡ left_at heap x
  pub right : r ≡ right_at heap x
  pub next : behind ≡ place + 1 + length_at heap l

module _ {heap : List ℕ} {n : ℕ} {out₀ : List ℕ} {at x : ℕ} {out : List ℕ} {place k l r behind : ℕ}
    (p : PairRead heap n out₀ at x out place k l r behind) where
  some : ¬ (k ≡ 0)
  some z = omega (arith, p.three)

  lowers : (l < x) × (r < x)
  lowers = let low = lower-x p.node some in (omega (arith, low, p.left), omega (arith, low, p.right))

  heap_here : Heap heap (x + 1)
  heap_here = heap_x p.node

  whole_pair : value_at heap x ≡ of_kind 3 (value_at heap l) (value_at heap r)
  whole_pair = rw (← p.three, p.left, p.right) (whole p.node some)

  long : size (value_at heap x) ≡ size (value_at heap l) + size (value_at heap r) + 1
  long = ap size whole_pair ∙ size-pair (value_at heap l) (value_at heap r)

  both : pasted (written p.node) (place + 1) (encode (value_at heap l) ++ encode (value_at heap r)) ≡ pasted out₀ at (encode (value_at heap n))
  both = rest_behind p.node some (ap encode whole_pair ∙ rw p.three (encode-pair (value_at heap l) (value_at heap r)))

  pub lower-parts : (l < n) × (r < n)
  lower-parts = (omega (arith, lowers, p.node.storing.down), omega (arith, lowers, p.node.storing.down))

  place-behind : behind ≡ place + 1 + length (encode (value_at heap l))
  place-behind = omega (arith, p.next, (heap_here.node l (omega (arith, lowers))).len, length-encode (value_at heap l))

  space : place + 1 + length (encode (value_at heap l)) + length (encode (value_at heap r)) ≤ length (written p.node)
  unfolding written
  space = simp length-set (omega (arith, p.node.storing.ready.room, long, length-encode (value_at heap l), length-encode (value_at heap r)))

  pub left-ready : StoreReady heap l (set out place k) (place + 1)
  unfolding written
  left-ready = record { right = heap_down (l + 1) (omega (arith, lowers)) heap_here; room = omega (arith, space, length-encode (value_at heap l)) }

  pub right-ready : StoreReady heap r (set out place k) behind
  unfolding written
  right-ready = record {
    right = heap_down (r + 1) (omega (arith, lowers)) heap_here;
    room = omega (arith, space, place-behind, length-encode (value_at heap r));
  }

  -- a stored part changes no length
  same-long : (out' : List ℕ) → length out' ≡ length (set out place k) → length out' ≡ length out
  same-long out' kept = kept ∙ simp length-set

  pub then-right : {out' : List ℕ} {next' : ℕ} → StoreDone heap l (set out place k) out' (place + 1) next' → length out' ≡ length (set out place k)
      → Storing heap n out₀ at r out' behind × (r < x)
  unfolding written
  then-right {out'} d kept = (
    on p.node some (omega (arith, lowers)) (same-long out' kept) (omega (arith, right-ready.room, same-long out' kept))
        (ap (λ o. pasted o behind (encode (value_at heap r))) d.bytes
        ∙ ap (λ b. pasted (pasted (written p.node) (place + 1) (encode (value_at heap l))) b (encode (value_at heap r))) place-behind
        ∙ pasted-behind (written p.node) (place + 1) (encode (value_at heap l)) (omega (arith, space)) (encode (value_at heap r)) ∙ both),
    omega (arith, lowers),
  )

  pub then-left : {out' : List ℕ} {next' : ℕ} → StoreDone heap r (set out place k) out' behind next' → length out' ≡ length (set out place k)
      → Storing heap n out₀ at l out' (place + 1) × (l < x)
  unfolding written
  then-left {out'} d kept = (
    on p.node some (omega (arith, lowers)) (same-long out' kept) (omega (arith, left-ready.room, same-long out' kept))
        (ap (λ o. pasted o (place + 1) (encode (value_at heap l))) (d.bytes ∙ ap (λ b. pasted (written p.node) b (encode (value_at heap r))) place-behind)
        ∙ pasted-before (written p.node) (place + 1) (encode (value_at heap l)) (encode (value_at heap r)) space ∙ both),
    omega (arith, lowers),
  )
