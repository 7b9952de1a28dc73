use Rattle.std.proofs.Common.{sym}
use Rattle.std.proofs.lemmas.List.{length-take-le}
use Rattle.batch.proofs.Lending.{ends-told}
use Rattle.command.proofs.Behind.{wrote-within}
use Rattle.corefun.proofs.input.answer.Goals as goal

pub slice_bounds-print-end : goal.slice_bounds-print-end
slice_bounds-print-end g c = sym (length-take-le _ _ (wrote-within (ends-told c.answer.ensures c.in-Some.is)))
