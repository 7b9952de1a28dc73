-- What loading must do: bytes that are values one after another (section 1) stand in new nodes, one for each byte and the last byte's
-- first, so that the node of a byte has the value that begins at that byte.
use Rattle.std.specs.Prelude.{ℕ, ◌+◌, ◌-◌, ◌<◌, ◌≤◌, ◌^◌, ◌≡◌, true, List, ◌++◌, length, drop}
use package.Rattle.rules.specs.Val.{Val, size, encode}
use package.Rattle.rules.specs.Limits.{fits, max_value_bytes}
use package.Rattle.calls.specs.Values.{encode_all}
use package.Rattle.valuegraph.specs.Nodes.{length_at, Room, Agree, of_kind, value_at, Heap}

----------------------------------------------------------------
-- One node more, over those of the bytes behind its own

-- The first part of such a value is at the node before, and the second below all the nodes of the first.
abbrev pub first_below : ℕ → ℕ
first_below top = top - 1

abbrev pub second_below : List ℕ → ℕ → ℕ
second_below heap top = first_below top - length_at heap (first_below top)

abbrev pub over_last : List ℕ → ℕ → ℕ → Val
over_last heap top k = of_kind k (value_at heap (first_below top)) (value_at heap (second_below heap top))

pub record PlaceReady (heap : List ℕ) (top k : ℕ) : Type 0 where
  pub right : Heap heap top
  pub room : Room heap (top + 1)
  pub kind : k ≤ 4
  pub first : ¬ (k ≡ 0) → 0 < top
  pub second : k ≡ 3 → length_at heap (first_below top) ≤ first_below top
  pub fit : fits (over_last heap top k) ≡ true

----------------------------------------------------------------
-- Values one after another

-- the bytes can be loaded: they are values, no more than one value may have, and there is a node for each
pub record LoadReady (heap : List ℕ) (top : ℕ) (xs : List ℕ) : Type 0 where
  pub right : Heap heap top
  pub values : List Val
  pub whole : xs ≡ encode_all values
  pub short : length xs ≤ max_value_bytes
  pub room : Room heap (top + length xs)
  pub small : top + length xs < 2 ^ 32

-- the node of byte `i`
abbrev pub node_of : ℕ → List ℕ → ℕ → ℕ
node_of top xs i = top + (length xs - (i + 1))

-- the bytes begin with those of the value
abbrev pub BeginWith : List ℕ → Val → Type 0
BeginWith xs v = xs ≡ encode v ++ drop (size v) xs

-- the bytes from `i` on are loaded, and `free` is the next node
pub record LoadedFrom (heap heap' : List ℕ) (top : ℕ) (xs : List ℕ) (i free : ℕ) : Type 0 where
  pub inside : i ≤ length xs
  pub nodes : free ≡ top + (length xs - i)
  pub right : Heap heap' free
  pub agree : Agree top heap heap'
  pub begins : (j : ℕ) → i ≤ j → j < length xs → BeginWith (drop j xs) (value_at heap' (node_of top xs j))
