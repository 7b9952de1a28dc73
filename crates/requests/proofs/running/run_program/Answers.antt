use Rattle.std.proofs.Common.{rules}
use Rattle.requests.specs.Runs.{asked}
use Rattle.requests.proofs.Beginning.{enough-types}
use Rattle.requests.proofs.Rows.{kept-enough, run-in-room, refused-in-room}
use Rattle.requests.proofs.running.run_program.Goals as goal

pub load_into-requires-clause-typing_bytes_in_bounds : goal.load_into-requires-clause-typing_bytes_in_bounds
load_into-requires-clause-typing_bytes_in_bounds c =
    enough-types _ _ c.requires

pub returns-in_err-loaded : goal.returns-in_err-loaded
returns-in_err-loaded c =
    refused-in-room (λ P. asked c.args.request.now P _) c.in_err-loaded.ensures (search rules)

pub run-requires : goal.run-requires
run-requires c =
    kept-enough c.load_into.auto.workspace c.requires

pub returns : goal.returns
returns c =
    run-in-room (λ P. asked c.args.request.now P _) c.in_ok-loaded.ensures c.run.ensures
