use native.Mathlib.Omega.{arith}
use mathlib.Core.Path.{sym, ap₂}
use lib.ListN.{take, length-take}
use lib.Seq.{length-take-le}
use Rattle.calltext.specs.Answers.{numbered_line}
use Rattle.calltext.proofs.Writing.{wrote_as}
use Rattle.messages.proofs.replies.front_line.Goals as goal

pub slice_bounds-numbered_line-end : goal.slice_bounds-numbered_line-end
slice_bounds-numbered_line-end c =
    sym (length-take-le c.from-n.result c.args.output.now
    (omega (arith, c.requires.len_in_bounds, c.from-n.ensures)))

pub numbered_line-requires : goal.numbered_line-requires
numbered_line-requires c =
    simp length-take (omega (arith, c.requires.output_in_bounds))

pub returns : goal.returns
returns c =
    wrote_as c.numbered_line.ensures
    (ap₂ (λ k n. numbered_line c.args.word.now (take k c.args.output.now) n) c.from-n.ensures c.from.ensures)
