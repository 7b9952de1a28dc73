use Rattle.std.proofs.Common.{arith}
use mathlib.Core.Path.{ap₂}
use Rattle.calltext.specs.Text.{text}
use Rattle.calltext.specs.Answers.{two_numbers}
use Rattle.calltext.proofs.Writing.{wrote_as}
use Rattle.messages.proofs.replies.put_refusal.Goals as goal

pub returns-clause-tells : goal.returns-clause-tells
returns-clause-tells c =
    wrote_as c.two_numbers.ensures.tells
    (ap₂ (λ m n. two_numbers (text "refused ") m c.args.between.now n c.args.behind.now) c.number.ensures c.place.ensures)

pub returns-clause-short : goal.returns-clause-short
returns-clause-short c = omega (arith, c.two_numbers.ensures.short)
