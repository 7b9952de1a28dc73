use native.Mathlib.Omega.{arith}
use mathlib.Core.Path.{refl, ◌∙◌}
use lib.Dec.{lit≤}
use Rattle.rules.specs.Limits.{max_height, max_parameters}
use Rattle.runs.proofs.Loads.{numbers_stay}
use Rattle.runs.proofs.Starts.{decode_asks, beginning}
use Rattle.runs.proofs.Backward.{value-slot, undo_ready, undo_told}
use Rattle.runs.proofs.back.undo.Goals as goal

pub decode-requires-clause-code_len : goal.decode-requires-clause-code_len
decode-requires-clause-code_len c =
    refl

pub decode-requires-clause-fields_of_terms : goal.decode-requires-clause-fields_of_terms
decode-requires-clause-fields_of_terms c =
    (decode_asks c.requires).0

pub decode-requires-clause-fields_of_functions : goal.decode-requires-clause-fields_of_functions
decode-requires-clause-fields_of_functions c =
    (decode_asks c.requires).1

pub begin-count-requires-clause-st_len : goal.begin-count-requires-clause-st_len
unfolding max_height max_parameters
begin-count-requires-clause-st_len c =
    refl

pub begin-count-requires-clause-beginning : goal.begin-count-requires-clause-beginning
unfolding max_height max_parameters
begin-count-requires-clause-beginning c =
    beginning c.requires c.decode.ensures (lit≤ tt)

pub at-node-requires : goal.at-node-requires
at-node-requires c =
    value-slot c.requires c.decode.ensures c.begin-count.ensures.begun.begun

pub run-input-requires : goal.run-input-requires
unfolding max_height max_parameters
run-input-requires c =
    undo_ready c.requires c.decode.ensures c.begin-count.ensures.begun refl (omega arith) (numbers_stay _ c.begin-count.ensures.left) refl
    c.at-node.ensures

pub shape_of-ws : goal.shape_of-ws
shape_of-ws c =
    c.run-input.auto.ws ∙ c.begin-count.auto.ws

pub returns : goal.returns
unfolding max_height max_parameters
returns c =
    undo_told c.requires c.decode.ensures c.begin-count.ensures.begun refl (omega arith) (numbers_stay _ c.begin-count.ensures.left) refl
    c.at-node.ensures c.run-input.ensures c.top.ensures c.fuel.ensures
