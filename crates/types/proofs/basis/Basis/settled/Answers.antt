use Rattle.types.proofs.Outer.{names_by}
use Rattle.types.proofs.Plain.{entry-numbered, other-settled}
use Rattle.types.proofs.basis.Basis.settled.Goals as goal

pub returns-in-Entry : goal.returns-in-Entry
returns-in-Entry c =
    rw c.in-Entry.is (entry-numbered c.args.self.now.sources c.in-Entry.i (names_by c.in-Entry.is c.requires) c.number_of.ensures)

pub returns-in-Unit : goal.returns-in-Unit
returns-in-Unit c =
    other-settled c.args.self.now.sources c.requires c.in-Unit.is
