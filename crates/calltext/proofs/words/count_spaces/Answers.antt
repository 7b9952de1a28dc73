use Rattle.std.proofs.Common.{◌∙◌, ap, sym, ◌+◌, drop, arith, slice_index_or}
use Rattle.calltext.specs.Words.{spaces}
use Rattle.calltext.proofs.Spaces.{one_byte, one_space, at_most_one, all-spaces}
use Rattle.calltext.proofs.words.count_spaces.Goals as goal

pub loop-byte-preserved : goal.loop-byte-preserved
loop-byte-preserved c =
    let now = one_space (slice_index_or c.args.line.now c.loop-byte.byte-index 0) c.from-n.ensures in
    let most = at_most_one (slice_index_or c.args.line.now c.loop-byte.byte-index 0) in (
      omega (arith, now, most, c.loop-byte.invariant.0),
      one_byte _ _ _ c.loop-byte.invariant.1 c.loop-byte-test.true
          ∙ ap (λ k. c.loop-byte.n + k + spaces (drop (c.loop-byte.byte-index + 1) c.args.line.now)) (sym now),
    )

pub returns : goal.returns
returns c = all-spaces _ _ _ c.loop-byte.invariant.1 c.loop-byte-test.false
