-- What storing must do: a node's value stands in the output as its bytes (section 1).
use Rattle.std.specs.Prelude.{ℕ, ◌+◌, ◌≤◌, ◌≡◌, List, length}
use package.Rattle.octets.specs.Runs.{pasted}
use package.Rattle.rules.specs.Val.{size, encode}
use package.Rattle.valuegraph.specs.Nodes.{value_at, Heap}

-- the node is right, and there is room for its value's bytes from `at` on
pub record StoreReady (heap : List ℕ) (n : ℕ) (out : List ℕ) (at : ℕ) : Type 0 where
  pub right : Heap heap (n + 1)
  pub room : at + size (value_at heap n) ≤ length out

-- the bytes stand there, and `next` is the position behind them
pub record StoreDone (heap : List ℕ) (n : ℕ) (out out' : List ℕ) (at next : ℕ) : Type 0 where
  pub bytes : out' ≡ pasted out at (encode (value_at heap n))
  pub behind : next ≡ at + size (value_at heap n)
