use native.Mathlib.Omega.{arith}
use mathlib.Core.Path.{refl, ◌∙◌}
use lib.Dec.{lit≤}
use borrow.Author.Rules.{rules}
use Rattle.rules.specs.Limits.{max_height, max_parameters}
use Rattle.runs.proofs.Loads.{numbers_stay}
use Rattle.runs.proofs.Starts.{decode_asks, beginning, rows, in_rows, few-arguments}
use Rattle.runs.proofs.Forward.{eval_ready, eval_told, told}
use Rattle.runs.proofs.ahead.evaluate.Goals as goal

pub decode-requires-clause-code_len : goal.decode-requires-clause-code_len
decode-requires-clause-code_len c =
    refl

pub decode-requires-clause-fields_of_terms : goal.decode-requires-clause-fields_of_terms
decode-requires-clause-fields_of_terms c =
    (decode_asks c.requires).0

pub decode-requires-clause-fields_of_functions : goal.decode-requires-clause-fields_of_functions
decode-requires-clause-fields_of_functions c =
    (decode_asks c.requires).1

pub begin-count-requires-clause-st_len : goal.begin-count-requires-clause-st_len
unfolding max_height max_parameters
begin-count-requires-clause-st_len c =
    refl

pub begin-count-requires-clause-beginning : goal.begin-count-requires-clause-beginning
unfolding max_height max_parameters
begin-count-requires-clause-beginning c =
    beginning c.requires c.decode.ensures (lit≤ tt)

pub body_of-body-requires : goal.body_of-body-requires
body_of-body-requires c =
    omega (arith, in_rows c.requires c.decode.ensures, (rows c.requires c.decode.ensures).few_functions)

pub overflow_add-count : goal.overflow_add-count
unfolding max_height max_parameters
overflow_add-count c =
    let h = few-arguments c.requires c.decode.ensures c.begin-count.ensures.begun.begun in
    search rules

pub scope-scope-requires : goal.scope-scope-requires
unfolding max_height max_parameters
scope-scope-requires c =
    let h = few-arguments c.requires c.decode.ensures c.begin-count.ensures.begun.begun in
    (omega arith, omega arith, omega arith)

pub eval-answer-requires : goal.eval-answer-requires
unfolding max_height max_parameters
eval-answer-requires c =
    eval_ready c.requires c.decode.ensures c.begin-count.ensures.begun refl (omega arith) (numbers_stay _ c.begin-count.ensures.left) refl
    c.body_of-body.ensures _ c.scope-scope.ensures

pub shape_of-ws : goal.shape_of-ws
shape_of-ws c =
    c.eval-answer.auto.ws ∙ c.begin-count.auto.ws

pub returns : goal.returns
unfolding max_height max_parameters
returns c =
    told c.status_of.ensures (eval_told c.requires c.decode.ensures c.begin-count.ensures.begun refl (omega arith) (numbers_stay _ c.begin-count.ensures.left) refl
    c.body_of-body.ensures _ c.scope-scope.ensures c.eval-answer.ensures c.top.ensures c.fuel.ensures)
