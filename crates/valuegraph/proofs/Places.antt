-- Laws of the layout: a node that is put has what was put, and all below it stays. Heaps that agree have the same nodes.
use Prim.Native.Nat.{ℕ, ◌+◌, ◌*◌, ◌/◌, ◌%◌, ◌^◌, ◌<◌, ◌≤◌}
use native.Mathlib.Omega.{arith}
use mathlib.Core.Path.{◌≡◌, refl, sym, ◌∙◌}
use mathlib.Core.List.{List}
use lib.ListN.{length, get_or, set, length-set}
use lib.Seq.{get_or-set_same, get_or-set_other}
use package.Rattle.octets.specs.Numbers.{get16, get32, put16, put32}
use package.Rattle.octets.proofs.Puts.{length-put16, length-put32, set-low, put16-low, put32-low, get16-same, get32-same, get16-put16, get32-put32}
use package.Rattle.valuegraph.specs.Nodes.{node_bytes, kind_at, print_at, length_at, head_at, left_at, right_at, put_node, Room, Agree}

----------------------------------------------------------------
-- Numbers in bytes

put16_high : (xs : List ℕ) (i n j : ℕ) → i + 2 ≤ j → get_or (put16 xs i n) j 0 ≡ get_or xs j 0
unfolding put16
put16_high xs i n j h =
    get_or-set_other (set xs i (n / 256 % 256)) (i + 1) j (n % 256) 0 (λ e. omega arith) ∙ get_or-set_other xs i j (n / 256 % 256) 0 (λ e. omega arith)

-- by its own four bytes
get32-within : (xs ys : List ℕ) (i : ℕ) → ((j : ℕ) → i ≤ j → j < i + 4 → get_or xs j 0 ≡ get_or ys j 0) → get32 xs i ≡ get32 ys i
unfolding get32 get16
get32-within xs ys i h =
    cc (h i (omega arith) (omega arith), h (i + 1) (omega arith) (omega arith), h (i + 2) (omega arith) (omega arith), h (i + 2 + 1) (omega arith) (omega arith))

----------------------------------------------------------------
-- A node that is put

pub length-put : (heap : List ℕ) (n kind print len left right : ℕ) → length (put_node heap n kind print len left right) ≡ length heap
unfolding put_node
length-put heap n kind print len left right = simp (length-put32, length-put16, length-set)

module _ (heap : List ℕ) (n kind print len left right : ℕ) where
  -- the node as it stands once its left part is put, then its first two bytes, then its length
  parted : List ℕ
  parted = put32 heap (node_bytes * n + 4) left

  begun : List ℕ
  begun = set (set parted (node_bytes * n) kind) (node_bytes * n + 1) print

  headed : List ℕ
  headed = put16 begun (node_bytes * n + 2) len

  -- what is put later does not change them
  begun_kept : (i : ℕ) → i < node_bytes * n + 2 → get_or (put_node heap n kind print len left right) i 0 ≡ get_or begun i 0
  unfolding put_node begun parted
  begun_kept i h =
      put32-low _ (node_bytes * n + 8) right i (omega arith)
      ∙ put16-low _ (node_bytes * n + 2) len i h

  pub agree-put : Agree n heap (put_node heap n kind print len left right)
  unfolding begun parted
  agree-put =
      record {
        same = λ i h.
            sym
            (begun_kept i (omega arith)
            ∙ set-low (set parted (node_bytes * n) kind) (node_bytes * n + 1) i print (omega arith)
            ∙ set-low parted (node_bytes * n) i kind (omega arith)
            ∙ put32-low heap (node_bytes * n + 4) left i (omega arith));
        lengths = sym (length-put heap n kind print len left right);
      }

  module _ (room : Room heap (n + 1)) where
    pub kind-put : kind_at (put_node heap n kind print len left right) n ≡ kind
    unfolding kind_at begun parted
    kind-put =
        begun_kept (node_bytes * n) (omega arith)
        ∙ set-low (set parted (node_bytes * n) kind) (node_bytes * n + 1) (node_bytes * n) print (omega arith)
        ∙ get_or-set_same parted (node_bytes * n) kind 0 (simp length-put32 (omega arith))

    pub print-put : print_at (put_node heap n kind print len left right) n ≡ print
    unfolding print_at begun parted
    print-put =
        begun_kept (node_bytes * n + 1) (omega arith)
        ∙ get_or-set_same (set parted (node_bytes * n) kind) (node_bytes * n + 1) print 0 (simp (length-set, length-put32) (omega arith))

    pub len-put : len < 2 ^ 16 → length_at (put_node heap n kind print len left right) n ≡ len
    unfolding length_at put_node headed begun parted
    len-put small =
        get16-same _ headed (node_bytes * n + 2) (λ j h. put32-low _ (node_bytes * n + 8) right j (omega arith))
        ∙ get16-put16 _ (node_bytes * n + 2) len (simp (length-set, length-put32) (omega arith)) small

    -- the bytes of the left part, which are put first
    left-kept : (j : ℕ) → node_bytes * n + 4 ≤ j → j < node_bytes * n + 8 → get_or (put_node heap n kind print len left right) j 0 ≡ get_or parted j 0
    unfolding put_node parted
    left-kept j l h =
        put32-low _ (node_bytes * n + 8) right j h
        ∙ put16_high _ (node_bytes * n + 2) len j (omega arith)
        ∙ get_or-set_other (set parted (node_bytes * n) kind) (node_bytes * n + 1) j print 0 (λ e. omega arith)
        ∙ get_or-set_other parted (node_bytes * n) j kind 0 (λ e. omega arith)

    pub left-put : left < 2 ^ 32 → left_at (put_node heap n kind print len left right) n ≡ left
    unfolding left_at parted
    left-put small =
        get32-within _ parted (node_bytes * n + 4) (λ j l h. left-kept j l (omega arith))
        ∙ get32-put32 heap (node_bytes * n + 4) left (omega arith) small

    pub right-put : right < 2 ^ 32 → right_at (put_node heap n kind print len left right) n ≡ right
    unfolding right_at put_node
    right-put small = get32-put32 _ (node_bytes * n + 8) right (simp (length-put16, length-set, length-put32) (omega arith)) small

-- kind, fingerprint and length make the head
pub head_is : (heap : List ℕ) (n : ℕ) → head_at heap n ≡ (kind_at heap n * 256 + print_at heap n) * 65536 + length_at heap n
unfolding head_at kind_at print_at length_at get32 get16
head_is heap n = refl

----------------------------------------------------------------
-- Heaps that agree

pub agree_refl : (top : ℕ) (heap : List ℕ) → Agree top heap heap
agree_refl top heap = record { same = λ i h. refl; lengths = refl }

pub agree_trans : {top : ℕ} {heap heap' heap'' : List ℕ} → Agree top heap heap' → Agree top heap' heap'' → Agree top heap heap''
agree_trans p q = record { same = λ i h. p.same i h ∙ q.same i h; lengths = p.lengths ∙ q.lengths }

pub agree-down : {top : ℕ} (low : ℕ) {heap heap' : List ℕ} → low ≤ top → Agree top heap heap' → Agree low heap heap'
agree-down low le p = record { same = λ i h. p.same i (omega arith); lengths = p.lengths }

module _ {top : ℕ} {heap heap' : List ℕ} (p : Agree top heap heap') (n : ℕ) (below : n < top) where
  pub agree-kind : kind_at heap n ≡ kind_at heap' n
  unfolding kind_at
  agree-kind = p.same _ (omega arith)

  pub agree-print : print_at heap n ≡ print_at heap' n
  unfolding print_at
  agree-print = p.same _ (omega arith)

  pub agree-len : length_at heap n ≡ length_at heap' n
  unfolding length_at
  agree-len = get16-same _ _ _ (λ j h. p.same j (omega arith))

  pub agree_left : left_at heap n ≡ left_at heap' n
  unfolding left_at
  agree_left = get32-same _ _ _ (λ j h. p.same j (omega arith))

  pub agree_right : right_at heap n ≡ right_at heap' n
  unfolding right_at
  agree_right = get32-same _ _ _ (λ j h. p.same j (omega arith))
