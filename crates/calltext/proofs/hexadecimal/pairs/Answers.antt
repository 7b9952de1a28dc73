use Rattle.std.proofs.Common.{◌≤◌, length, refl, arith, rules}
use Rattle.std.proofs.lemmas.List.{take_rest}
use Rattle.calltext.proofs.Digits.{decoding, ends, stops_high, stops-low, decodes-more}
use Rattle.calltext.proofs.hexadecimal.pairs.Goals as goal

-- Two digits a turn become a byte; the invariant is proofs/Digits' Decoding.

pub loop-left-init : goal.loop-left-init
loop-left-init c = record { room = c.requires; kept = refl; decodes = decoding _ _ }

pub returns-in_err-digit : goal.returns-in_err-digit
returns-in_err-digit c =
    let room : c.loop-left.n ≤ length c.loop-left.out = omega (arith, c.loop-left.invariant.decodes.size) in
    rw c.from_residual.ensures (stops_high c.loop-left.invariant.decodes c.in-len2-up.len_at_least room c.in_err-digit.ensures)

pub returns-in_err-out : goal.returns-in_err-out
returns-in_err-out c =
    let room : c.loop-left.n ≤ length c.loop-left.out = omega (arith, c.loop-left.invariant.decodes.size) in
    rw c.from_residual-in_err-out.ensures (stops-low c.loop-left.invariant.decodes c.in-len2-up.len_at_least _ c.in_ok-digit.ensures room c.in_err-out.ensures)

pub loop-left-preserved : goal.loop-left-preserved
loop-left-preserved c = record {
  room = c.requires;
  kept = search rules;
  decodes = decodes-more c.loop-left.invariant.decodes c.in-len2-up.len_at_least _ c.in_ok-digit.ensures _ c.in_ok-out.ensures
      (omega (arith, c.loop-left.invariant.decodes.size, c.in-len2-up.len_at_least)) _ (take_rest c.loop-left.left.now 2);
}

pub returns : goal.returns
returns c =
    ends c.loop-left.invariant.decodes (omega (arith, c.loop-left.invariant.decodes.size)) c.in_default.len_below c.then_some.ensures c.is_empty.ensures
