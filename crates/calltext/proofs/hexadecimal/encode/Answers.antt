use Rattle.std.proofs.Common.{arith, rules, tests}
use Rattle.calltext.proofs.Writing.{wrote-byte, wrote_as}
use Rattle.calltext.proofs.Digits.{encode-start, encode-more, no_bytes_lem, all-bytes}
use Rattle.calltext.proofs.hexadecimal.encode.Goals as goal

-- A byte a turn becomes two digits; the invariant says which digits stand in the buffer.

pub returns-then-is_empty : goal.returns-then-is_empty
returns-then-is_empty c =
    wrote_as (wrote-byte _ _ 45 (search rules)) (no_bytes_lem _ (search (rules, tests)))

pub loop-b-init : goal.loop-b-init
loop-b-init c = record { room = c.requires; some = search (rules, tests); ends = omega arith; wrote = encode-start c.args.bytes.now _ _ }

pub loop-b-preserved : goal.loop-b-preserved
loop-b-preserved c = record {
  room = c.requires;
  some = c.loop-b.invariant.some;
  ends = omega (arith, c.loop-b.invariant.ends);
  wrote =
      simp (c.glyph.ensures, c.glyph-in-loop-b.ensures)
      (encode-more _ _ _ _ _ _ c.loop-b.invariant.wrote c.loop-b-test.true (omega (arith, c.loop-b.invariant.ends, c.loop-b.invariant.wrote.kept)));
}

pub returns : goal.returns
returns c =
    wrote_as c.loop-b.invariant.wrote (all-bytes _ _ (search rules) (search rules))
