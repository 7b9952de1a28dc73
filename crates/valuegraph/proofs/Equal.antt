-- When two nodes have the same value: rules' test `same`, from the nodes' heads and parts, and what each turn of comparing keeps.
use Prim.Native.Nat.{ℕ, ◌+◌, ◌*◌, ◌<◌, ◌≤◌}
use native.Mathlib.Omega.{arith}
use mathlib.Core.Path.{◌≡◌, refl, sym, ap, ap₂, ◌∙◌}
use mathlib.Core.Logic.{inl as left, inr as right}
use mathlib.Core.Bool.{Bool, true, false, not, ◌&&◌, and_comm}
use mathlib.Core.List.{List}
use borrow.Author.Tests.{eq-eqb, eqb-true, leb-true}
use package.Rattle.rules.specs.Limits.{fits, max_value_bytes}
use package.Rattle.rules.specs.Val.{Val, size, same}
use package.Rattle.rules.proofs.Val.{same_refl, same_eq}
use package.Rattle.valuegraph.specs.Nodes.{kind_at, length_at, head_at, left_at, right_at, part_at, Room, fingerprint, alike_at, of_kind, Single}
use package.Rattle.valuegraph.specs.Nodes.{value_within, value_at, Heap}
use package.Rattle.valuegraph.proofs.Places.{head_is}
use package.Rattle.valuegraph.proofs.Shapes.{kind_of, kind_of-of_kind, single-some, print-byte}
use package.Rattle.valuegraph.proofs.Heaps.{lower, value-parts, value-unit}

----------------------------------------------------------------
-- Values of kinds

pub same_differs : (v w : Val) → ¬ (v ≡ w) → same v w ≡ false
same_differs v w d = go (same v w) refl
  where
    go : (b : Bool) → same v w ≡ b → same v w ≡ false
    go true p = absurd (d (same_eq v w p))
    go false p = p

same_singles : (k : ℕ) (v w v' w' : Val) → Single k → same (of_kind k v w) (of_kind k v' w') ≡ same v v'
unfolding of_kind same
same_singles k v w v' w' (left e) = rw e
same_singles k v w v' w' (right (left e)) = rw e
same_singles k v w v' w' (right (right e)) = rw e

same_pairs : (v w v' w' : Val) → same (of_kind 3 v w) (of_kind 3 v' w') ≡ (same v v' && same w w')
unfolding of_kind same
same_pairs v w v' w' = refl

----------------------------------------------------------------
-- Heads

-- the head of every node of a value
head_of : Val → ℕ
head_of v = (kind_of v * 256 + fingerprint v) * 65536 + size v

module _ {heap : List ℕ} {top : ℕ} (h : Heap heap top) where
  kind-of-value : (n : ℕ) → n < top → kind_of (value_at heap n) ≡ kind_at heap n
  unfolding value_at value_within
  kind-of-value n t = kind_of-of_kind (kind_at heap n) _ _ (h.node n t).kind

  head-of-value : (n : ℕ) → n < top → head_at heap n ≡ head_of (value_at heap n)
  unfolding head_of
  head-of-value n t = let o = h.node n t in
      head_is heap n ∙ ap₂ (λ x y. x * 65536 + y) (ap₂ (λ x y. x * 256 + y) (sym (kind-of-value n t)) o.print) o.len

  short : (n : ℕ) → n < top → length_at heap n < 65536
  unfolding fits max_value_bytes
  short n t = let o = h.node n t in omega (arith, o.len, leb-true (size (value_at heap n)) max_value_bytes o.fit)

  -- nodes that are not alike have different values
  pub alike_false : {a b : ℕ} → a < top → b < top → alike_at heap a b ≡ false → same (value_at heap a) (value_at heap b) ≡ false
  unfolding alike_at
  alike_false {a} {b} t u e = same_differs (value_at heap a) (value_at heap b) λ q. false_true
      (sym e ∙ eq-eqb (head_at heap a) (head_at heap b) (head-of-value a t ∙ ap head_of q ∙ sym (head-of-value b u)))
    where
      false_true : false ≡ true → ⊥
      false_true z = let y : ◌≡◌ {A = ℕ} 0 1 = cc in omega arith

  alike_kinds : {a b : ℕ} → a < top → b < top → alike_at heap a b ≡ true → kind_at heap a ≡ kind_at heap b
  unfolding alike_at
  alike_kinds {a} {b} t u e = omega (
    arith,
    eqb-true (head_at heap a) (head_at heap b) e,
    head_is heap a,
    head_is heap b,
    short a t,
    short b u,
    (h.node a t).print,
    (h.node b u).print,
    print-byte (value_at heap a),
    print-byte (value_at heap b),
  )

----------------------------------------------------------------
-- Comparing

-- `a` and `b` have the same value exactly if `x` and `y` have, which are no higher
pub record Comparing (heap : List ℕ) (top a b x y : ℕ) : Type 0 where
  pub right : Heap heap top
  pub below : (x < top) × (y < top)
  pub down : x ≤ a
  pub answer : same (value_at heap x) (value_at heap y) ≡ same (value_at heap a) (value_at heap b)

module _ {heap : List ℕ} {top a b x y : ℕ} (w : Comparing heap top a b x y) where
  pub compare_done : x ≡ y → true ≡ same (value_at heap a) (value_at heap b)
  compare_done e = sym (same_refl (value_at heap y)) ∙ ap (λ n. same (value_at heap n) (value_at heap y)) (sym e) ∙ w.answer

  pub compare_apart : {r : Bool} → r ≡ alike_at heap x y → r ≡ false → false ≡ same (value_at heap a) (value_at heap b)
  compare_apart q e = sym (alike_false w.right w.below.0 w.below.1 (sym q ∙ e)) ∙ w.answer

-- Are the left parts of two pairs the same, or the right ones?
abbrev same_part : List ℕ → ℕ → ℕ → Bool → Bool
same_part heap x y side = same (value_at heap (part_at heap x side)) (value_at heap (part_at heap y side))

-- two nodes that are alike, and their kind as it was read
pub record Alike (heap : List ℕ) (top a b x y k : ℕ) : Type 0 where
  pub comparing : Comparing heap top a b x y
  pub alike : alike_at heap x y ≡ true
  pub kind : k ≡ kind_at heap x

module _ {heap : List ℕ} {top a b x y k : ℕ} (w : Alike heap top a b x y k) where
  kind-y : k ≡ kind_at heap y
  kind-y = let c = w.comparing in w.kind ∙ alike_kinds c.right c.below.0 c.below.1 w.alike

  pub both-units : k ≡ 0 → true ≡ same (value_at heap a) (value_at heap b)
  unfolding same
  both-units z = let c = w.comparing in
      ap₂ same (sym (value-unit heap top c.right x (sym w.kind ∙ z))) (sym (value-unit heap top c.right y (sym kind-y ∙ z))) ∙ c.answer

  module _ (some : ¬ (k ≡ 0)) where
    lower-x : (left_at heap x < x) × (right_at heap x < x)
    lower-x = lower heap top w.comparing.right x w.comparing.below.0 (λ z. some (w.kind ∙ z))

    lower-y : (left_at heap y < y) × (right_at heap y < y)
    lower-y = lower heap top w.comparing.right y w.comparing.below.1 (λ z. some (kind-y ∙ z))

    of-x : value_at heap x ≡ of_kind k (value_at heap (left_at heap x)) (value_at heap (right_at heap x))
    of-x = rw w.kind (value-parts heap top w.comparing.right x w.comparing.below.0 (λ z. some (w.kind ∙ z)))

    of-y : value_at heap y ≡ of_kind k (value_at heap (left_at heap y)) (value_at heap (right_at heap y))
    of-y = rw kind-y (value-parts heap top w.comparing.right y w.comparing.below.1 (λ z. some (kind-y ∙ z)))

    pub parts_rooms : Room heap (left_at heap x + 1) × Room heap (right_at heap x + 1)
    parts_rooms = let c = w.comparing in (omega (arith, lower-x, c.right.held, c.below), omega (arith, lower-x, c.right.held, c.below))

  -- inl, inr and roll: on with the part
  pub compare_one : {l l' : ℕ} → Single k → l ≡ left_at heap x → l' ≡ left_at heap y → Comparing heap top a b l l' × (l < x)
  compare_one {l} {l'} s e e' =
      let c = w.comparing in
      let some = single-some k s in (
        record {
          right = c.right;
          below = (omega (arith, lower-x some, c.below), omega (arith, lower-y some, c.below));
          down = omega (arith, lower-x some, c.down);
          answer = rw (e, e') (sym (same_singles k _ _ _ _ s) ∙ sym (ap₂ same (of-x some) (of-y some))) ∙ c.answer;
        },
        omega (arith, lower-x some),
      )

-- one part of each of two pairs that are alike, as it was read
pub record PartRead (heap : List ℕ) (top a b x y k : ℕ) (left : Bool) (l l' : ℕ) : Type 0 where
  pub node : Alike heap top a b x y k
  pub three : k ≡ 3
  pub part : l ≡ part_at heap x left
  pub part' : l' ≡ part_at heap y left

module _ {heap : List ℕ} {top a b x y k : ℕ} {left : Bool} {l l' : ℕ} (p : PartRead heap top a b x y k left l l') where
  some : ¬ (k ≡ 0)
  some z = omega (arith, p.three)

  part-lower-x : (side : Bool) → part_at heap x side < x
  unfolding part_at
  part-lower-x true = (lower-x p.node some).0
  part-lower-x false = (lower-x p.node some).1

  part-lower-y : (side : Bool) → part_at heap y side < y
  unfolding part_at
  part-lower-y true = (lower-y p.node some).0
  part-lower-y false = (lower-y p.node some).1

  left-right : (same_part heap x y true && same_part heap x y false) ≡ same (value_at heap x) (value_at heap y)
  unfolding part_at
  left-right = sym (rw (of-x p.node some, of-y p.node some, p.three) (same_pairs _ _ _ _))

  both-parts : (side : Bool) → (same_part heap x y side && same_part heap x y (not side)) ≡ same (value_at heap x) (value_at heap y)
  both-parts true = left-right
  both-parts false = and_comm (same_part heap x y false) (same_part heap x y true) ∙ left-right

  pub part-below : (l < a) × ((l < top) × (l' < top))
  part-below = let c = p.node.comparing in (
    omega (arith, part-lower-x left, p.part, c.down),
    (omega (arith, part-lower-x left, p.part, c.below), omega (arith, part-lower-y left, p.part', c.below)),
  )

  module _ {r : Bool} (q : r ≡ same (value_at heap l) (value_at heap l')) where
    -- the other parts decide, if these are the same
    after-part : (r && same_part heap x y (not left)) ≡ same (value_at heap a) (value_at heap b)
    after-part =
        ap (λ s. s && same_part heap x y (not left)) (q ∙ ap₂ (λ m n. same (value_at heap m) (value_at heap n)) p.part p.part')
        ∙ both-parts left ∙ p.node.comparing.answer

    pub part-differs : r ≡ false → false ≡ same (value_at heap a) (value_at heap b)
    part-differs z = rw z at after-part

    pub compare_other : {m m' : ℕ} → r ≡ true → m ≡ part_at heap x (not left) → m' ≡ part_at heap y (not left)
        → Comparing heap top a b m m' × (m < x)
    compare_other {m} {m'} z f f' = let c = p.node.comparing in (
      record {
        right = c.right;
        below = (omega (arith, part-lower-x (not left), c.below), omega (arith, part-lower-y (not left), c.below));
        down = omega (arith, part-lower-x (not left), c.down);
        answer = rw (f, f') (rw z at after-part);
      },
      omega (arith, part-lower-x (not left)),
    )
