use native.Mathlib.Omega.{arith}
use Rattle.calltext.specs.Left.{program_left, ancillae_left, value_left}
use Rattle.batch.proofs.Lending.{replies_as}
use Rattle.batch.proofs.answer_within.Goals as goal

pub reply-requires-clause-within : goal.reply-requires-clause-within
reply-requires-clause-within c =
    c.parse-parsed.ensures.within

pub reply-requires-clause-most_workspace_in_bounds : goal.reply-requires-clause-most_workspace_in_bounds
reply-requires-clause-most_workspace_in_bounds c =
    c.requires.most_workspace_in_bounds

pub reply-requires-clause-answer_room_in_bounds : goal.reply-requires-clause-answer_room_in_bounds
reply-requires-clause-answer_room_in_bounds c =
    omega (arith, c.requires.answer_room_in_bounds, c.parse-parsed.auto.value)

pub returns-clause-replies : goal.returns-clause-replies
unfolding program_left ancillae_left value_left
returns-clause-replies c =
    replies_as c.reply.ensures c.parse-parsed.ensures.said c.parse-parsed.ensures.left.value

pub returns-clause-program_after : goal.returns-clause-program_after
unfolding program_left ancillae_left value_left
returns-clause-program_after c =
    (c.parse-parsed.ensures.left.program, c.parse-parsed.ensures.left.ancillae)
