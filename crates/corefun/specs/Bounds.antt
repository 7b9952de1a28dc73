-- What of a buffer is in use lies within it.
use Rattle.std.specs.Prelude.{ℕ, ◌≤◌}
use package.Rattle.corefun.specs.declared.input.Window.{Window}

-- a window lies within a buffer of so many bytes
abbrev pub Fits : Window → ℕ → Type 0
Fits w n = (w.at ≤ w.end) × (w.end ≤ n)
