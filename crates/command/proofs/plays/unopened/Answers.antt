use Rattle.command.specs.Plays.{unopened_text}
use Rattle.command.proofs.Behind.{wrote-behind, wrote-within, both-within}
use borrow.Author.Rules.{rules}
use Rattle.command.proofs.plays.unopened.Goals as goal

pub overflow_add-result : goal.overflow_add-result
overflow_add-result c =
    let h = both-within c.put-named.ensures c.refusal-told.ensures in
    search rules

pub returns : goal.returns
unfolding unopened_text
returns c =
    wrote-behind c.put-named.ensures (wrote-within c.put-named.ensures) c.refusal-told.ensures
