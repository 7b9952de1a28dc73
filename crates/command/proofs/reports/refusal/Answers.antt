use Rattle.calltext.proofs.Writing.{wrote_as}
use Rattle.command.proofs.Reporting.{refusal_reported}
use Rattle.command.proofs.reports.refusal.Goals as goal

pub returns : goal.returns
returns c =
    wrote_as c.refusal_text.ensures (refusal_reported c.args.r)
