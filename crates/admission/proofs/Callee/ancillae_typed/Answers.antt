use native.Mathlib.Omega.{arith}
use Rattle.admission.proofs.Typed.{walking_start, walking_asked, walking_other, walking_next, walking_done}
use Rattle.admission.proofs.Callee.ancillae_typed.Goals as goal

pub loop-entry-init : goal.loop-entry-init
loop-entry-init c =
    walking_start c.args.self.now.callable c.requires c.args.self.now.signed

pub has_type_at-requires : goal.has_type_at-requires
has_type_at-requires c =
    walking_asked c.loop-entry.invariant c.ancillae-n.ensures (omega arith)

pub returns-in_default : goal.returns-in_default
returns-in_default c =
    walking_other c.loop-entry.invariant c.ancillae-n.ensures (omega arith) c.has_type_at.ensures c.in_default.is

pub loop-entry-preserved : goal.loop-entry-preserved
loop-entry-preserved c =
    walking_next c.loop-entry.invariant c.ancillae-n.ensures (omega arith) c.has_type_at.ensures c.in-Some.is

pub returns : goal.returns
returns c =
    walking_done c.loop-entry.invariant c.ancillae-n.ensures (omega arith)
