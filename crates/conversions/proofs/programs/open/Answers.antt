use Rattle.std.proofs.Common.{rules}
use Rattle.conversions.proofs.Loads.{open_ready, open_refused}
use Rattle.conversions.proofs.programs.open.Goals as goal

pub returns-in_err-check_program : goal.returns-in_err-check_program
returns-in_err-check_program c =
    open_refused _ c.in_err-check_program.ensures (search rules)

pub returns : goal.returns
returns c =
    open_ready _ c.in_ok-check_program.ensures c.open.ensures
