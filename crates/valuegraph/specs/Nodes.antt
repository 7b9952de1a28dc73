-- The value graph: values (section 1) as nodes in bytes. A node has a kind, the fingerprint of its value, the value's length in bytes, and
-- two parts, which are lower nodes. Nodes are appended and never changed, so values share what they have in common.
-- Laws: proofs/Places, proofs/Shapes, proofs/Heaps.
use Rattle.std.specs.Prelude.{ℕ, zero, suc, ◌+◌, ◌*◌, ◌%◌, ◌<◌, ◌≤◌, ◌≡◌, ◌⊎◌, Bool, true, false, List, length, get_or, set, eqb, ltb}
use package.Rattle.octets.specs.Numbers.{get16, get32, put16, put32}
use package.Rattle.rules.specs.Val.{Val, unit, inl, inr, pair, roll, size}
use package.Rattle.rules.specs.Limits.{fits}
use Rattle.valuegraph.specs.declared.kinds.Kind.{Kind}
use Rattle.valuegraph.specs.declared.kinds.Kind.TheVariants.{Unit, Inl, Inr, Pair, Roll}

----------------------------------------------------------------
-- The layout: kind, fingerprint, the value's length (2 bytes), left part and right part (4 bytes each)

abbrev pub node_bytes : ℕ
node_bytes = 12

unfoldable pub kind_at : List ℕ → ℕ → ℕ
kind_at heap n = get_or heap (node_bytes * n) 0

unfoldable pub print_at : List ℕ → ℕ → ℕ
print_at heap n = get_or heap (node_bytes * n + 1) 0

unfoldable pub length_at : List ℕ → ℕ → ℕ
length_at heap n = get16 heap (node_bytes * n + 2)

-- kind, fingerprint and length, as one number
unfoldable pub head_at : List ℕ → ℕ → ℕ
head_at heap n = get32 heap (node_bytes * n)

unfoldable pub left_at : List ℕ → ℕ → ℕ
left_at heap n = get32 heap (node_bytes * n + 4)

unfoldable pub right_at : List ℕ → ℕ → ℕ
right_at heap n = get32 heap (node_bytes * n + 8)

-- the left part of a pair, or the right one
unfoldable pub part_at : List ℕ → ℕ → Bool → ℕ
part_at heap n true = left_at heap n
part_at heap n false = right_at heap n

-- Is the left part of a pair shorter than the right one?
unfoldable pub left_shorter : List ℕ → ℕ → Bool
left_shorter heap n = ltb (length_at heap (left_at heap n)) (length_at heap (right_at heap n))

-- a node is put, the left part first
unfoldable pub put_node : List ℕ → ℕ → ℕ → ℕ → ℕ → ℕ → ℕ → List ℕ
put_node heap n kind print len left right =
    put32 (put16 (set (set (put32 heap (node_bytes * n + 4) left) (node_bytes * n) kind) (node_bytes * n + 1) print)
    (node_bytes * n + 2) len) (node_bytes * n + 8) right

-- the bytes hold so many nodes
abbrev pub Room : List ℕ → ℕ → Type 0
Room heap n = node_bytes * n ≤ length heap

-- two heaps, of one length, agree on the nodes below `top`
pub record Agree (top : ℕ) (heap heap' : List ℕ) : Type 0 where
  pub same : (i : ℕ) → i < node_bytes * top → get_or heap i 0 ≡ get_or heap' i 0
  pub lengths : length heap ≡ length heap'

----------------------------------------------------------------
-- Fingerprints: a byte that is a function of the value, by which most values that differ are told apart without a walk

unfoldable pub unit_print : ℕ
unit_print = 17

-- Every factor is odd, so that no two bytes have the same product with it modulo 256: values that differ in one place have different
-- fingerprints.
unfoldable pub kind_factor : ℕ
kind_factor = 59

unfoldable pub left_factor : ℕ
left_factor = 141

unfoldable pub right_factor : ℕ
right_factor = 101

-- a kind and the fingerprints of two parts, mixed
unfoldable pub mixed : ℕ → ℕ → ℕ → ℕ
mixed kind left right = (kind_factor * kind + left_factor * left + right_factor * right) % 256

unfoldable pub fingerprint : Val → ℕ
fingerprint unit = unit_print
fingerprint (inl v) = mixed 1 (fingerprint v) 0
fingerprint (inr v) = mixed 2 (fingerprint v) 0
fingerprint (pair v w) = mixed 3 (fingerprint v) (fingerprint w)
fingerprint (roll v) = mixed 4 (fingerprint v) 0

-- Do two nodes agree in kind, fingerprint and length? Nodes of equal values do (proofs/Equal).
unfoldable pub alike_at : List ℕ → ℕ → ℕ → Bool
alike_at heap a b = eqb (head_at heap a) (head_at heap b)

----------------------------------------------------------------
-- Kinds

-- the number of a kind, which is that of the value bytes
abbrev pub kind_number : Kind → ℕ
kind_number Unit = 0
kind_number Inl = 1
kind_number Inr = 2
kind_number Pair = 3
kind_number Roll = 4

-- the kind that a number names: one above roll's, which no node has, is read as roll's is (`of_kind`)
abbrev pub kind_named : ℕ → Kind
kind_named zero = Unit
kind_named (suc zero) = Inl
kind_named (suc (suc zero)) = Inr
kind_named (suc (suc (suc zero))) = Pair
kind_named (suc (suc (suc (suc n)))) = Roll

----------------------------------------------------------------
-- Values at nodes

-- the value of a kind, over its parts: the kinds are those of the value bytes
unfoldable pub of_kind : ℕ → Val → Val → Val
of_kind zero v w = unit
of_kind (suc zero) v w = inl v
of_kind (suc (suc zero)) v w = inr v
of_kind (suc (suc (suc zero))) v w = pair v w
of_kind (suc (suc (suc (suc n)))) v w = roll v

-- a kind with one part
abbrev pub Single : ℕ → Type 0
Single kind = (kind ≡ 1) ⊎ ((kind ≡ 2) ⊎ (kind ≡ 4))

-- `depth` bounds how far down the parts are followed
unfoldable pub value_within : ℕ → List ℕ → ℕ → Val
value_within zero heap n = unit
value_within (suc depth) heap n =
    of_kind (kind_at heap n) (value_within depth heap (left_at heap n)) (value_within depth heap (right_at heap n))

-- the value at a node: parts are lower nodes, so the node's number bounds the depth
unfoldable pub value_at : List ℕ → ℕ → Val
value_at heap n = value_within (suc n) heap n

-- The node is a unit or names lower nodes; its fingerprint and its length are its value's; and its value is within the limit on values
-- (section 1).
pub record Right (heap : List ℕ) (n : ℕ) : Type 0 where
  pub parts : (kind_at heap n ≡ 0) ⊎ ((left_at heap n < n) × (right_at heap n < n))
  pub kind : kind_at heap n ≤ 4
  pub print : print_at heap n ≡ fingerprint (value_at heap n)
  pub len : length_at heap n ≡ size (value_at heap n)
  pub fit : fits (value_at heap n) ≡ true

-- Every node below `top` is there, and right.
pub record Heap (heap : List ℕ) (top : ℕ) : Type 0 where
  pub held : Room heap top
  pub node : (n : ℕ) → n < top → Right heap n

----------------------------------------------------------------
-- A new node

-- A node of the kind `k`, the fingerprint `p` and the length `n` over the nodes `a` and `b` may stand at `top`, if its value is within the
-- limit.
pub record NodeReady (heap : List ℕ) (top k p n a b : ℕ) : Type 0 where
  pub right : Heap heap top
  pub room : Room heap (top + 1)
  pub parts : (k ≡ 0) ⊎ ((a < top) × (b < top))
  pub kind : k ≤ 4
  pub print : p ≡ fingerprint (of_kind k (value_at heap a) (value_at heap b))
  pub len : n ≡ size (of_kind k (value_at heap a) (value_at heap b))

-- The node at `top` is new and has the value; all below is as it was.
pub record Grown (heap heap' : List ℕ) (top : ℕ) (v : Val) : Type 0 where
  pub right : Heap heap' (top + 1)
  pub agree : Agree top heap heap'
  pub value : value_at heap' top ≡ v

-- Such a node is made exactly if the value is within the limit; else the bytes stay.
pub record Made (heap heap' : List ℕ) (top : ℕ) (v : Val) (ok : Bool) : Type 0 where
  pub answer : ok ≡ fits v
  pub new : ok ≡ true → Grown heap heap' top v
  pub old : ok ≡ false → heap' ≡ heap

----------------------------------------------------------------
-- A cell

-- A cell at `top`: a unit, of which the two parts mean nothing as a value, so that they may say something else (scopes/specs/Cells).
pub record Celled (heap heap' : List ℕ) (top left right : ℕ) : Type 0 where
  pub grown : Grown heap heap' top unit
  pub left_is : left_at heap' top ≡ left
  pub right_is : right_at heap' top ≡ right
