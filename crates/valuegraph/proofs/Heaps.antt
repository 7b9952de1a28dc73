-- Laws of the values at nodes: what a node's kind says of its value; heaps that agree have the same values; a new node keeps all.
use Prim.Native.Nat.{ℕ, zero, suc, ◌^◌, ◌<◌, ◌≤◌}
use native.Mathlib.Omega.{arith}
use native.Mathlib.Nat.{eq-or-lt_of_le}
use mathlib.Core.Path.{◌≡◌, refl, sym, ap, subst, ◌∙◌}
use mathlib.Core.Logic.{◌⊎◌, ⊎_elim, inl as left, inr as right}
use mathlib.Core.Bool.{true}
use mathlib.Core.List.{List}
use package.Rattle.rules.specs.Limits.{fits}
use package.Rattle.rules.specs.Val.{unit, inl, inr, pair, roll, size}
use package.Rattle.valuegraph.specs.Nodes.{kind_at, left_at, right_at, put_node, Agree, fingerprint, of_kind, value_within, value_at, Right, Heap, NodeReady, Grown}
use package.Rattle.valuegraph.proofs.Places.{length-put, agree-put, kind-put, print-put, len-put, left-put, right-put}
use package.Rattle.valuegraph.proofs.Places.{agree-kind, agree-print, agree-len, agree_left, agree_right}
use package.Rattle.valuegraph.proofs.Shapes.{unit-parts}

----------------------------------------------------------------
-- A node's value, from its parts'

module _ (heap : List ℕ) (top : ℕ) (h : Heap heap top) where
  -- a depth that is enough is as good as another
  enough : (d d' n : ℕ) → n < top → n < d → n < d' → value_within d heap n ≡ value_within d' heap n
  unfolding value_within
  enough zero d' n t p q = absurd (omega arith)
  enough (suc d) zero n t p q = absurd (omega arith)
  enough (suc d) (suc d') n t p q =
      ⊎_elim
      (λ z. unit-parts _ _ _ _ _ z)
      (λ lr. cc (
        enough d d' (left_at heap n) (omega arith) (omega arith) (omega arith),
        enough d d' (right_at heap n) (omega arith) (omega arith) (omega arith),
      ))
      (h.node n t).parts

  pub lower : (n : ℕ) → n < top → ¬ (kind_at heap n ≡ 0) → (left_at heap n < n) × (right_at heap n < n)
  lower n t z = ⊎_elim (λ e. absurd (z e)) (λ lr. lr) (h.node n t).parts

  -- a node that is no unit
  pub value-parts : (n : ℕ) → n < top → ¬ (kind_at heap n ≡ 0)
      → value_at heap n ≡ of_kind (kind_at heap n) (value_at heap (left_at heap n)) (value_at heap (right_at heap n))
  unfolding value_within value_at
  value-parts n t z =
      let lr = lower n t z in
      cc (
        enough n (suc (left_at heap n)) (left_at heap n) (omega arith) (omega arith) (omega arith),
        enough n (suc (right_at heap n)) (right_at heap n) (omega arith) (omega arith) (omega arith),
      )

  pub value-unit : (n : ℕ) → kind_at heap n ≡ 0 → value_at heap n ≡ unit
  unfolding value_at value_within of_kind
  value-unit n e = rw e

  module _ (n : ℕ) (t : n < top) where
    pub value_inl : kind_at heap n ≡ 1 → (value_at heap n ≡ inl (value_at heap (left_at heap n))) × (left_at heap n < n)
    unfolding of_kind
    value_inl e = (value-parts n t (λ z. omega arith) ∙ rw e, (lower n t (λ z. omega arith)).0)

    pub value_inr : kind_at heap n ≡ 2 → (value_at heap n ≡ inr (value_at heap (left_at heap n))) × (left_at heap n < n)
    unfolding of_kind
    value_inr e = (value-parts n t (λ z. omega arith) ∙ rw e, (lower n t (λ z. omega arith)).0)

    pub value-pair : kind_at heap n ≡ 3
        → (value_at heap n ≡ pair (value_at heap (left_at heap n)) (value_at heap (right_at heap n))) × (left_at heap n < n) × (right_at heap n < n)
    unfolding of_kind
    value-pair e = (value-parts n t (λ z. omega arith) ∙ rw e, (lower n t (λ z. omega arith)).0, (lower n t (λ z. omega arith)).1)

    pub value-roll : kind_at heap n ≡ 4 → (value_at heap n ≡ roll (value_at heap (left_at heap n))) × (left_at heap n < n)
    unfolding of_kind
    value-roll e = (value-parts n t (λ z. omega arith) ∙ rw e, (lower n t (λ z. omega arith)).0)

----------------------------------------------------------------
-- Heaps that agree

module _ (heap heap' : List ℕ) (top : ℕ) (h : Heap heap top) (p : Agree top heap heap') where
  within-kept : (d n : ℕ) → n < top → value_within d heap n ≡ value_within d heap' n
  unfolding value_within
  within-kept zero n t = refl
  within-kept (suc d) n t =
      ⊎_elim
      (λ z. rw (← agree-kind p n t) (unit-parts _ _ _ _ _ z))
      (λ lr. cc (
        agree-kind p n t,
        agree_left p n t,
        agree_right p n t,
        within-kept d (left_at heap n) (omega arith),
        within-kept d (right_at heap n) (omega arith),
      ))
      (h.node n t).parts

  -- older nodes keep their values
  pub value-kept : (n : ℕ) → n < top → value_at heap n ≡ value_at heap' n
  unfolding value_at
  value-kept n t = within-kept (suc n) n t

  pub node_kept : (n : ℕ) → n < top → Right heap' n
  node_kept n t =
      let o = h.node n t in
      record {
        parts = ⊎_elim (λ z. left (sym (agree-kind p n t) ∙ z)) (λ lr. right (rw (← agree_left p n t) lr.0, rw (← agree_right p n t) lr.1)) o.parts;
        kind = rw (← agree-kind p n t) o.kind;
        print = sym (agree-print p n t) ∙ o.print ∙ ap fingerprint (value-kept n t);
        len = sym (agree-len p n t) ∙ o.len ∙ ap size (value-kept n t);
        fit = rw (← value-kept n t) o.fit;
      }

  -- and a heap stays one
  pub heap_kept : Heap heap' top
  heap_kept = record { held = omega (arith, h.held, p.lengths); node = node_kept }

pub heap_empty : (heap : List ℕ) → Heap heap 0
heap_empty heap = record { held = omega arith; node = λ n t. absurd (omega arith) }

pub heap_down : {heap : List ℕ} {top : ℕ} (low : ℕ) → low ≤ top → Heap heap top → Heap heap low
heap_down low le h = record { held = omega (arith, h.held); node = λ n t. h.node n (omega arith) }

----------------------------------------------------------------
-- A new node

module _ (heap : List ℕ) (top k p n a b : ℕ) (w : NodeReady heap top k p n a b) (f : fits (of_kind k (value_at heap a) (value_at heap b)) ≡ true)
    (n16 : n < 2 ^ 16) (a32 : a < 2 ^ 32) (b32 : b < 2 ^ 32) where
  new : List ℕ
  new = put_node heap top k p n a b

  new-agree : Agree top heap new
  unfolding new
  new-agree = agree-put heap top k p n a b

  new-value : value_at new top ≡ of_kind k (value_at heap a) (value_at heap b)
  unfolding new value_at value_within
  new-value =
      rw (kind-put heap top k p n a b w.room, left-put heap top k p n a b w.room a32, right-put heap top k p n a b w.room b32)
      (⊎_elim
      (λ z. unit-parts _ _ _ _ _ z)
      (λ ab. cc (
        within-kept heap new top w.right new-agree top a ab.0,
        within-kept heap new top w.right new-agree top b ab.1,
        enough heap top w.right top (suc a) a ab.0 ab.0 (omega arith),
        enough heap top w.right top (suc b) b ab.1 ab.1 (omega arith),
      ))
      w.parts)

  new-node : Right new top
  unfolding new
  new-node =
      record {
        parts = ⊎_elim
            (λ z. left (kind-put heap top k p n a b w.room ∙ z))
            (λ ab. right (rw (left-put heap top k p n a b w.room a32) ab.0, rw (right-put heap top k p n a b w.room b32) ab.1))
            w.parts;
        kind = rw (kind-put heap top k p n a b w.room) w.kind;
        print = print-put heap top k p n a b w.room ∙ w.print ∙ ap fingerprint (sym new-value);
        len = len-put heap top k p n a b w.room n16 ∙ w.len ∙ ap size (sym new-value);
        fit = rw new-value f;
      }

  pub grown : Grown heap (put_node heap top k p n a b) top (of_kind k (value_at heap a) (value_at heap b))
  unfolding new
  grown =
      record {
        right = record {
          held = omega (arith, w.room, length-put heap top k p n a b);
          node = λ m t. ⊎_elim
              (λ e. subst (λ (m : ℕ). Right new m) (sym e) new-node)
              (λ lt. node_kept heap new top w.right new-agree m lt)
              (at_or_below m (omega arith));
        };
        agree = new-agree;
        value = new-value;
      }
    where
      at_or_below : (m : ℕ) → m ≤ top → (m ≡ top) ⊎ (m < top)
      at_or_below m le = eq-or-lt_of_le le
