use native.Mathlib.Omega.{arith}
use Rattle.admission.proofs.Parameters.{result-room, dynamic-place, side-result, side-dynamic}
use Rattle.admission.proofs.Callee.side.Goals as goal

pub function_result-requires : goal.function_result-requires
function_result-requires c =
    result-room c.args.self.now.callable.field

pub returns-then-back : goal.returns-then-back
returns-then-back c =
    side-result c.args.self.now.callable.field c.function_result.ensures c.if-back.true

pub offset_bounds-self-ancillae : goal.offset_bounds-self-ancillae
offset_bounds-self-ancillae c =
    omega (arith, dynamic-place c.args.self.now.callable.field c.args.self.now.signed c.ancillae.ensures)

pub bounds-self-ancillae : goal.bounds-self-ancillae
bounds-self-ancillae c =
    omega (arith, dynamic-place c.args.self.now.callable.field c.args.self.now.signed c.ancillae.ensures)

pub returns-else-back : goal.returns-else-back
returns-else-back c =
    side-dynamic c.args.self.now.callable.field c.args.self.now.signed c.ancillae.ensures c.if-back.false
