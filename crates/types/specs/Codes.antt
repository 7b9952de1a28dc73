-- Codes of types (section 3: types are equal as trees), and the tree that a code is of: a type entry of the program, the same with a
-- variable standing for a recursive entry, as unroll makes it, or a product of two codes, which no entry need name. Products are nodes
-- in lent bytes, appended and never changed. The tree is a total function; laws: proofs/Trees.
use Rattle.std.specs.Prelude.{ℕ, zero, suc, ◌+◌, ◌*◌, ◌<◌, ◌≤◌, ◌≡◌, List, map, length, get_or}
use package.Rattle.octets.specs.Numbers.{get16}
use package.Rattle.rules.specs.Limits.{max_types, max_nodes}
use package.Rattle.rules.specs.Ty.{Ty, one, prod, nodes}
use package.Rattle.calls.specs.Entries.{TypeEntry, type_at, type_of}
use package.Rattle.calls.specs.Tested.{Lower}
use package.Rattle.program.specs.Parts.{TypeField}
use package.Rattle.types.specs.Figures.{closed_by, Figured}
pub use package.Rattle.types.specs.Layout.{node_bytes}
use package.Rattle.types.specs.declared.codes.Code.{Code}
use package.Rattle.types.specs.declared.codes.Code.TheVariants as code
use package.Rattle.types.specs.Numbers.{code_of}

----------------------------------------------------------------
-- Codes

abbrev pub unit_code : Code
unit_code = code.Unit

abbrev pub entry_code : ℕ → Code
entry_code i = code.Entry i

-- the entry `i`, its outermost free variable standing for the entry `j`
abbrev pub under_code : ℕ → ℕ → Code
under_code i j = code.Under i j

abbrev pub product_code : ℕ → Code
product_code n = code.Product n

----------------------------------------------------------------
-- Product nodes: two codes (form, entry or node, entry that is stood for: two bytes each) and the nodes of the tree (2 bytes)

unfoldable pub code_at : List ℕ → ℕ → Code
code_at heap i = code_of (get16 heap i) (get16 heap (i + 2)) (get16 heap (i + 4))

unfoldable pub left_at : List ℕ → ℕ → Code
left_at heap n = code_at heap (node_bytes * n)

unfoldable pub right_at : List ℕ → ℕ → Code
right_at heap n = code_at heap (node_bytes * n + 6)

unfoldable pub count_at : List ℕ → ℕ → ℕ
count_at heap n = get16 heap (node_bytes * n + 12)

----------------------------------------------------------------
-- Trees

-- the trees of product nodes given by `go`
unfoldable pub of_code : List TypeEntry → (ℕ → Ty) → Code → Ty
of_code ys go code.Unit = one
of_code ys go (code.Entry i) = type_of ys i
of_code ys go (code.Under i j) = closed_by (type_of ys j) (type_of ys i)
of_code ys go (code.Product n) = go n

-- the tree of a product node, the parts followed so far down
unfoldable pub product_within : ℕ → List TypeEntry → List ℕ → ℕ → Ty
unfolding of_code
product_within zero ys heap n = one
product_within (suc down) ys heap n =
    prod (of_code ys (product_within down ys heap) (left_at heap n)) (of_code ys (product_within down ys heap) (right_at heap n))

-- parts are lower nodes, so the node's number bounds how far
unfoldable pub product_at : List TypeEntry → List ℕ → ℕ → Ty
product_at ys heap n = product_within (suc n) ys heap n

unfoldable pub tree_of : List TypeEntry → List ℕ → Code → Ty
tree_of ys heap c = of_code ys (product_at ys heap) c

-- the tree of a code, over the program's bytes and the offsets of its type entries
abbrev pub tree_in : List ℕ → List ℕ → List ℕ → Code → Ty
tree_in xs types heap c = tree_of (map (type_at xs) types) heap c

----------------------------------------------------------------
-- What codes stand on

-- the bytes hold so many product nodes
abbrev pub Room : List ℕ → ℕ → Type 0
Room heap n = node_bytes * n ≤ length heap

-- The fields of the type entries are well-formed, and each entry names lower ones.
pub record Readable (xs types : List ℕ) : Type 0 where
  pub field : (i : ℕ) → i < length types → TypeField xs (get_or types i 0)
  pub lower : Lower (map (type_at xs) types)
  pub few : length types ≤ max_types

-- What a code names is one of `n` type entries, or a product node below `top`.
abbrev pub Names : ℕ → ℕ → Code → Type 0
Names n top code.Unit = Unit {0}
Names n top (code.Entry i) = i < n
Names n top (code.Under i j) = (i < n) × (j < n)
Names n top (code.Product k) = k < top

pub record Known (n top : ℕ) (c : Code) : Type 0 where
  pub names : Names n top c

-- The parts of the product node are lower, its count of nodes is right, and it is within the limit on nodes (section 1).
pub record Right (ys : List TypeEntry) (n : ℕ) (heap : List ℕ) (k : ℕ) : Type 0 where
  pub left : Known n k (left_at heap k)
  pub right : Known n k (right_at heap k)
  pub count : count_at heap k ≡ nodes (product_at ys heap k)
  pub small : count_at heap k ≤ max_nodes

-- Every product node below `top` is there, and right, `n` being the number of type entries.
pub record Products (ys : List TypeEntry) (n : ℕ) (heap : List ℕ) (top : ℕ) : Type 0 where
  pub held : Room heap top
  pub node : (k : ℕ) → k < top → Right ys n heap k

-- What the codes of a program stand on: its type entries, with their figures, and product nodes in the bytes `heap`.
pub record Sources (xs types heap : List ℕ) (top : ℕ) : Type 0 where
  pub entries : Readable xs types
  pub figures : Figured (map (type_at xs) types) heap (length types)
  pub products : Products (map (type_at xs) types) (length types) heap top
