-- What a function that puts text into a buffer leaves there.
use Rattle.std.specs.Prelude.{ℕ, ◌+◌, ◌≡◌, List, ◌++◌, length, take, drop}

-- The text stands from `at` to `end`, behind what stood before it, and what is behind `end` is as it was.
pub record Wrote (before after : List ℕ) (at end : ℕ) (text : List ℕ) : Type 0 where
  pub front : take end after ≡ take at before ++ text
  pub ends : end ≡ at + length text
  pub kept : length after ≡ length before
  pub behind : drop end after ≡ drop end before
