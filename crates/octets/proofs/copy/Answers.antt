use native.Mathlib.Omega.{arith}
use mathlib.Core.Path.{refl, ◌∙◌}
use lib.ListN.{length-set}
use lib.Seq.{paste-zero}
use borrow.Author.Rules.{rules}
use Rattle.octets.proofs.Runs.{pasted-suc, pasted-all}
use Rattle.octets.proofs.copy.Goals as goal

pub loop-i-init : goal.loop-i-init
loop-i-init c =
    (paste-zero c.args.dst.now c.args.at c.args.src.now, refl)

pub loop-i-preserved : goal.loop-i-preserved
loop-i-preserved c =
    (pasted-suc _ _ _ _ _ c.loop-i.invariant.0 (omega arith) (omega arith), simp length-set c.loop-i.invariant.1)

pub returns : goal.returns
returns c =
    c.loop-i.invariant.0 ∙ pasted-all c.args.dst.now c.args.at c.args.src.now c.loop-i.i (omega arith)
