-- The nodes of type entries, counted once (sections 1 and 4; calls/specs/Named): counting stops one above the limit.
use Rattle.std.specs.Prelude.{ℕ, ◌<◌, ◌≤◌, min, ◌≡◌, List, map, length, get_or}
use package.Rattle.rules.specs.Ty.{nodes}
use package.Rattle.calls.specs.Entries.{type_at, type_of}
use package.Rattle.calls.specs.Figures.{ceiling}

-- Every type entry has its count.
pub record Counted (xs types counts : List ℕ) : Type 0 where
  pub held : length types ≤ length counts
  pub count : (i : ℕ) → i < length types → get_or counts i 0 ≡ min ceiling (nodes (type_of (map (type_at xs) types) i))
