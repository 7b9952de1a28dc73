-- Products: new nodes, and hints at those that have a code already. Laws: proofs/Growing, Hinting.
use Rattle.std.specs.Prelude.{ℕ, ◌+◌, ◌*◌, ◌<◌, ◌≤◌, ◌≡◌, is_some, List, length, get_or, leb, Option, Some, None}
use package.Rattle.octets.specs.Numbers.{put16}
use package.Rattle.rules.specs.Limits.{max_nodes}
use package.Rattle.rules.specs.Ty.{Ty, prod, nodes}
use package.Rattle.types.specs.declared.codes.Code.{Code}
use package.Rattle.types.specs.declared.products.Pairing.{Pairing}
use package.Rattle.types.specs.Layout.{figures_from, hints_from}
use package.Rattle.types.specs.Numbers.{numbers_of}
use package.Rattle.types.specs.Codes.{node_bytes, product_code, tree_in, Known, Sources}

unfoldable pub put_code : List ℕ → ℕ → Code → List ℕ
put_code heap i c =
    put16 (put16 (put16 heap i (numbers_of c).form) (i + 2) (numbers_of c).at) (i + 4) (numbers_of c).stands

unfoldable pub put_node : List ℕ → ℕ → Code → Code → ℕ → List ℕ
put_node heap n left right count =
    put16 (put_code (put_code heap (node_bytes * n) left) (node_bytes * n + 6) right) (node_bytes * n + 12) count

-- two heaps, of one length, agree on the nodes below `top`, and on the figures of entries
pub record Agree (top : ℕ) (heap heap' : List ℕ) : Type 0 where
  pub same : (i : ℕ) → i < node_bytes * top → get_or heap i 0 ≡ get_or heap' i 0
  pub behind : (i : ℕ) → figures_from ≤ i → i < hints_from → get_or heap i 0 ≡ get_or heap' i 0
  pub lengths : length heap ≡ length heap'

----------------------------------------------------------------
-- Hints

-- A hint is kept: product nodes and figures are as they were. Which slot it is in, nothing goes by.
pub record Noted (heap heap' : List ℕ) : Type 0 where
  pub same : (i : ℕ) → i < hints_from → get_or heap i 0 ≡ get_or heap' i 0
  pub lengths : length heap ≡ length heap'

-- What a hint tells of the product of two types: a code of it, if one is found.
pub record Hinted (xs types heap : List ℕ) (top : ℕ) (left right : Code) (r : Option Code) : Type 0 where
  pub known : (c : Code) → r ≡ Some c → Known (length types) top c
  pub tree : (c : Code) → r ≡ Some c → tree_in xs types heap c ≡ prod (tree_in xs types heap left) (tree_in xs types heap right)

----------------------------------------------------------------
-- Products

-- The node at `top` is new and has the tree; all below is as it was.
pub record Grown (xs types heap heap' : List ℕ) (top : ℕ) (t : Ty) : Type 0 where
  pub sources : Sources xs types heap' (top + 1)
  pub agree : Agree top heap heap'
  pub tree : tree_in xs types heap' (product_code top) ≡ t

-- A type has a code, one from before or a new node's: there are `top'` nodes then, and what was there is as it was.
pub record Formed (xs types heap heap' : List ℕ) (top : ℕ) (t : Ty) (c : Code) (top' : ℕ) : Type 0 where
  pub sources : Sources xs types heap' top'
  pub agree : Agree top heap heap'
  pub least : top ≤ top'
  pub most : top' ≤ top + 1
  pub known : Known (length types) top' c
  pub tree : tree_in xs types heap' c ≡ t

-- The product of two types has a code exactly if it is within the limit on nodes (section 1); else the bytes stay.
pub record Made (xs types heap heap' : List ℕ) (top : ℕ) (left right : Code) (r : Option Pairing) : Type 0 where
  pub answer : is_some r ≡ leb (nodes (prod (tree_in xs types heap left) (tree_in xs types heap right))) max_nodes
  pub formed : (q : Pairing) → r ≡ Some q
      → Formed xs types heap heap' top (prod (tree_in xs types heap left) (tree_in xs types heap right)) q.code q.top
  pub old : r ≡ None → heap' ≡ heap
