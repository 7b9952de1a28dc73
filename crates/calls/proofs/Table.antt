-- Section 6's cases on bytes, the orders of section 4 and sample calls, by computation.
use mathlib.Core.Path.{refl}
use package.Rattle.calls.specs.Cases.{Table, Limits, Orders, Readings, Steering, Choosing}
use package.Rattle.calls.specs.Samples.{Samples}
use package.Rattle.calls.proofs.Compute.{computing}

pub table : Table
unfolding computing
table = record {
  loads = refl;
  p10_loads = refl;
  p11_trees = refl;
  p12_loads = refl;
  checked = refl;
  p1 = refl;
  p2 = refl;
  p2_fuel = refl;
  p3 = refl;
  p4 = refl;
  p5 = refl;
  p5_height = refl;
  p5_lower = refl;
  p9 = refl;
  p9_equal = refl;
  p10_inl = refl;
  p10_inr = refl;
  p11 = refl;
  p12_left_inl = refl;
  p12_left_inr = refl;
  p12_right_inl = refl;
  p12_right_inr = refl;
  p13_open = refl;
  p13_convert = refl;
  p13_rollback = refl;
}

pub limits : Limits
unfolding computing
limits = record { p6 = refl; p7 = refl; p7_short = refl; p8 = refl }

pub orders : Orders
unfolding computing
orders = record { converts = refl; room = refl; steps_before_room = refl; malformed_before_typed = refl; typed = refl; second = refl }

pub readings : Readings
unfolding computing
readings = record {
  most_entries_lem = refl;
  nurse = refl;
  nurse_short = refl;
  nurse_opened = refl;
  nurse_other = refl;
  workshop = refl;
  workshop_short = refl;
  workshop_opened = refl;
  workshop_oldest_first = refl;
  nurse_malformed = refl;
  workshop_malformed = refl;
  nurse_output = refl;
  nurse_kept = refl;
  workshop_output = refl;
}

pub steering : Steering
unfolding computing
steering = record {
  checked = refl;
  forward = refl;
  back = refl;
  none = refl;
  nested_forward = refl;
  nested_back = refl;
  unmet_forward = refl;
  unmet_back = refl;
  lost = refl;
  lowest = refl;
  converts = refl;
  rolls_back_lem = refl;
}

pub choosing : Choosing
unfolding computing
choosing = record {
  loads = refl;
  left_inl = refl;
  left_inr = refl;
  right_inl = refl;
  right_inr = refl;
  back_left_inl = refl;
  back_left_inr = refl;
  back_right_inl = refl;
  back_right_inr = refl;
  back_fuel = refl;
  converts = refl;
  rolls_back_lem = refl;
}

pub samples : Samples
unfolding computing
samples = record {
  check_accepts = refl;
  check_2 = refl;
  check_4 = refl;
  check_5 = refl;
  check_6 = refl;
  check_7 = refl;
  check_8 = refl;
  forward_answers = refl;
  forward_12 = refl;
  backward_answers = refl;
  backward_16 = refl;
  open_accepts = refl;
  convert_turns = refl;
  rollback_turns = refl;
  rollback_18 = refl;
  rollback_19 = refl;
}
