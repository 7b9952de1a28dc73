use Rattle.std.proofs.Common.{rules}
use Rattle.requests.proofs.Checks.{accepted-check, refused-check}
use Rattle.requests.proofs.checking.check_program.Goals as goal

pub returns-in_err-accepts : goal.returns-in_err-accepts
returns-in_err-accepts c =
    refused-check c.in_err-accepts.ensures (search rules)

pub returns : goal.returns
returns c =
    accepted-check c.in_ok-accepts.ensures
