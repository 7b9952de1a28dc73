-- The line of what a public call answers.
use Rattle.std.specs.Prelude.{ℕ, List}
use package.Rattle.calls.specs.Answer.{Answer, accepted, refused}
use package.Rattle.calls.specs.Book.{is_open, holds, refuses}
use package.Rattle.replay.specs.Lines.{line}

unfoldable pub check_line : Answer (Unit {0}) → List ℕ
unfolding line
check_line (accepted a) = line is_open
check_line (refused n p) = line (refuses n p)

unfoldable pub run_line : Answer (ℕ × ℕ) → List ℕ
unfolding line
run_line (accepted a) = line (holds a.0 a.1)
run_line (refused n p) = line (refuses n p)
