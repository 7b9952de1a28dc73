use Prim.Native.Nat.{◌≤◌, ◌<◌}
use mathlib.Core.Path.{◌≡◌}
use lib.ListN.{drop}
use Rattle.calltext.specs.Decimal.{carried, number_in}
use Rattle.calltext.proofs.decimal.read_number.Given as goal

abbrev pub invariant-loop-b : goal.invariant-loop-b
invariant-loop-b l = record {
  bounded : l.most < 1000000000000000000;
  within : l.n ≤ l.most;
  carries : number_in l.most l.word ≡ carried l.most l.n (drop l.b-index l.word);
}
