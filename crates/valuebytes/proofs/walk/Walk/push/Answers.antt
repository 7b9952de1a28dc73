use borrow.Author.Rules.{rules}
use Rattle.rules.specs.Limits.{max_value_bytes}
use Rattle.valuebytes.proofs.walk.Walk.push.Goals as goal

pub offset_bounds-self-self : goal.offset_bounds-self-self
unfolding max_value_bytes
offset_bounds-self-self c =
    search rules

pub bounds-self-self : goal.bounds-self-self
unfolding max_value_bytes
bounds-self-self c =
    search rules

pub overflow_add-self : goal.overflow_add-self
unfolding max_value_bytes
overflow_add-self c =
    search rules
