-- The tables of section 6's cases and of F-3's, by computation.
use mathlib.Core.Path.{refl}
use package.Rattle.rules.specs.Limits.{max_value_bytes, fits, max_height}
use package.Rattle.rules.specs.Val.{size, same}
use package.Rattle.rules.specs.Ty.{plug, unfold_ty, nodes, same_ty}
use package.Rattle.rules.specs.Term.{entry, count, nth, look, scope, within, within_all, by_ancilla, chooses_at, choose_all_at}
use package.Rattle.rules.specs.Yield.{may_be, may_yield, first_match}
use package.Rattle.rules.specs.Typing.{bar_one, bar, mark_one, mark}
use package.Rattle.rules.specs.Check.{◌>>=◌, ◌>>◌, need, as_sum, as_prod, as_mu, as_fun, visible, is_dynamic, marked}
use package.Rattle.rules.specs.Check.{onward, late, waits, waits_all, unless, lowest, need_none, spent, must_use, same_use}
use package.Rattle.rules.specs.Check.{room, small, infer, infer_arguments, statics, check_fun, check_funs, check}
use package.Rattle.rules.specs.Run.{after, enter, test}
use package.Rattle.rules.specs.Machine.{on_sum, on_pair, on_roll, on_unit, on_some, known, bind_or, meet, leave, filled, each}
use package.Rattle.rules.specs.Machine.{made, forward_step, forward, branch_back, case_back, backward_step, backward, run_forward, run_backward}
use package.Rattle.rules.specs.Cases.{num, lets, crowded, TreeTable}
use package.Rattle.rules.specs.Choices.{ChoiceTable}

unfoldable computing : Unit {0}
unfolding check check_funs check_fun statics infer infer_arguments is_dynamic marked onward late waits waits_all unless lowest need_none mark_one mark
    same_ty nodes need as_sum as_prod as_mu as_fun visible room small spent must_use same_use bar bar_one ◌>>◌ ◌>>=◌ count unfold_ty plug fits
    max_value_bytes max_height num run_forward run_backward forward backward scope within within_all by_ancilla chooses_at choose_all_at may_yield
    may_be first_match size same after enter test look entry nth on_some known each bind_or meet leave filled made forward_step branch_back
    case_back backward_step on_sum on_pair on_roll on_unit lets crowded
computing = tt

pub table : TreeTable
unfolding computing
table = record {
  typed = refl;
  p1 = refl;
  p2 = refl;
  p2_fuel = refl;
  p3 = refl;
  p4 = refl;
  p5 = refl;
  p5_height = refl;
  p5_lower = refl;
  p6 = refl;
  p7 = refl;
  p7_bytes = refl;
  p8 = refl;
  p9 = refl;
  p9_equal = refl;
  p10_typed = refl;
  p10_inl = refl;
  p10_inr = refl;
  p11 = refl;
  p11_case = refl;
  p11_inr = refl;
  p12_typed = refl;
  p12_left_inl = refl;
  p12_left_inr = refl;
  p12_right_inl = refl;
  p12_right_inr = refl;
  left_typed = refl;
  left_inl = refl;
  left_inr = refl;
  steer_typed = refl;
  steer_forward = refl;
  steer_back = refl;
  steer_none = refl;
  nested_typed = refl;
  nested_forward = refl;
  nested_back = refl;
  steer_lost_lem = refl;
  steer_late_lem = refl;
  steer_unused_lem = refl;
  steer_both_lem = refl;
  split_typed = refl;
  split_forward = refl;
  split_back = refl;
  split_unused_lem = refl;
  split_both_lem = refl;
  split_late_lem = refl;
  steer_pair_lem = refl;
  steer_two_lem = refl;
  steer_case_lem = refl;
  steer_argument_lem = refl;
  steer_unit_lem = refl;
  inside_typed = refl;
  inside_forward = refl;
  inside_back = refl;
  unmet_typed = refl;
  unmet_forward = refl;
  unmet_left = refl;
  unmet_back = refl;
  choosy_typed = refl;
  stray_refused = refl;
  stray_back = refl;
  stray_forward = refl;
  order_left = refl;
  order_let = refl;
}

pub choice_table : ChoiceTable
unfolding computing
choice_table = record {
  p12_chooses = refl;
  p12_ancilla_typed = refl;
  p12_ancilla_left = refl;
  p12_ancilla_right = refl;
  p12_ancilla_back_left = refl;
  p12_ancilla_back = refl;
  p12_ancilla_fuel = refl;
  p12_ancilla_height = refl;
  p12_ancilla_chooses = refl;
  p12_ancilla_inner = refl;
  both_typed = refl;
  both_forward = refl;
  both_back = refl;
  call_typed = refl;
  call_forward = refl;
  call_back = refl;
  matched_typed = refl;
  matched_forward = refl;
  matched_back = refl;
  matched_refused = refl;
  matched_back_refused = refl;
  matched_chooses = refl;
  matched_inner = refl;
  always_typed = refl;
  always_forward = refl;
  always_back = refl;
  named_typed = refl;
  named_left = refl;
  named_back = refl;
  named_right = refl;
  named_chooses = refl;
  unit_typed = refl;
  unit_right = refl;
  unit_back = refl;
  side_typed = refl;
  side_forward = refl;
  side_back = refl;
  side_left_none = refl;
  side_right_none = refl;
  argument_typed = refl;
  argument_chooses_lem = refl;
  argument_matches_lem = refl;
  argument_back = refl;
  argument_back_refused = refl;
  argument_outer = refl;
  argument_inner = refl;
  parts_typed = refl;
  parts_forward = refl;
  parts_back = refl;
  parts_long = refl;
  parts_back_long = refl;
  left_chooses_typed = refl;
  left_chooses_inl = refl;
  left_chooses_inr = refl;
  branch_decides_typed = refl;
  branch_decides_inl = refl;
  branch_decides_inr = refl;
}
