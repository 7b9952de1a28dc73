-- The cases of F-3 over trees, choosing by an ancilla, gathered in one proposition. On bytes P12 with s as an ancilla stands again in crate
-- calls.
use Rattle.std.specs.Prelude.{ℕ, ◌≡◌, Bool, true, false, List, [], ◌∷◌, leb}
use package.Rattle.rules.specs.Limits.{fits, max_height}
use package.Rattle.rules.specs.Val.{Val, unit, inl, inr, pair, roll, size}
use package.Rattle.rules.specs.Ty.{Ty, one, prod, sum, mu}
use package.Rattle.rules.specs.Term.{Term, var, tunit, tinl, tinr, tpair, tlet, tletp, tcase, tcall, troll, tunroll, end, more, Fun}
use package.Rattle.rules.specs.Term.{chooses_in}
use package.Rattle.rules.specs.Check.{good}
use package.Rattle.rules.specs.Run.{ok, stop}
use package.Rattle.rules.specs.Machine.{run_forward, run_backward}
use package.Rattle.rules.specs.Cases.{bit, flip, checked, runs, returns}

----------------------------------------------------------------
-- Programs

-- variable i of 1 + 1, flipped: its own case is under first match wherever i is dynamic
abbrev pub flipped : ℕ → Term
flipped i = tcase 7 (var 2 i) (tinr 4 bit (tunit 3)) (tinl 6 bit (tunit 5))

-- q, which is variable i, or q flipped, by what the scrutinee gives
abbrev pub flips_by : Term → ℕ → Term
flips_by e i = tcase 8 e (var 1 i) (flipped i)

-- a function of q and ancillae, of 1 + 1 all
abbrev pub of_bits : List Ty → Term → Fun
of_bits cs t = record { ancillae = cs; dynamic = bit; result = bit; body = t }

-- P12 with s as an ancilla
abbrev pub flip_by : Fun
flip_by = of_bits (bit ∷ []) (flips_by (var 0 0) 1)

-- a choice in a choice: of s, then of t
abbrev pub flip_by_both : Fun
flip_by_both = of_bits (bit ∷ bit ∷ []) (tcase 12 (var 10 0) (var 11 2) (flips_by (var 0 1) 2))

-- the scrutinee calls P12 with s and t, which are ancillae both. Function 1 is flip_by.
abbrev pub flip_by_call : Fun
flip_by_call = of_bits (bit ∷ bit ∷ []) (flips_by (tcall 12 1 (more (var 10 0) end) (var 11 1)) 2)

-- The scrutinee is let z = s in a case of z that gives inl unit either way: the inner case names z, which is dynamic and bound outside it, and
-- stays under first match; the outer one names s and what is bound inside.
abbrev pub flip_by_matched : Fun
flip_by_matched = of_bits (bit ∷ []) (flips_by (tlet 16 (var 10 0) (tcase 15 (var 14 2) (tinl 11 bit (tunit 9)) (tinl 13 bit (tunit 12)))) 1)

-- the scrutinee names no variable
abbrev pub flip_always : Fun
flip_always = of_bits [] (flips_by (tinr 11 bit (tunit 10)) 0)

-- (d, q) gives (d, q or q flipped): the scrutinee, flip_by d s, names the dynamic d in an ancilla argument, which the let helps. Function 1 is
-- flip_by.
abbrev pub flip_by_named : Fun
flip_by_named = record {
  ancillae = bit ∷ [];
  dynamic = prod bit bit;
  result = prod bit bit;
  body = tletp 17 (var 9 1) (tlet 16 (flips_by (tcall 12 1 (more (var 10 2) end) (var 11 0)) 3) (tpair 15 (var 13 2) (var 14 4)));
}

-- (u, q) with u unit: the scrutinee names u and gives s. A unit is not exempt.
abbrev pub flip_by_unit : Fun
flip_by_unit = record {
  ancillae = bit ∷ [];
  dynamic = prod one bit;
  result = bit;
  body = tletp 13 (var 9 1) (flips_by (tlet 12 (var 10 2) (var 11 0)) 3);
}

-- inl x gives (x, q), and inr y gives (q, y): the branch variable is an ancilla's part
abbrev pub side_by : Fun
side_by = record {
  ancillae = sum bit bit ∷ [];
  dynamic = bit;
  result = prod bit bit;
  body = tcase 7 (var 0 0) (tpair 3 (var 1 2) (var 2 1)) (tpair 6 (var 4 1) (var 5 2));
}

-- Inside an ancilla argument: a case on the ancilla s, and one on a variable bound there, which stays under first match. Function 1 leaves its
-- ancilla unused.
abbrev pub argument_by : Term → Fun
argument_by e = of_bits (bit ∷ []) (tcall 18 1 (more e end) (var 17 1))

abbrev pub argument_chooses : Fun
argument_chooses = argument_by (tcase 6 (var 1 0) (tinl 3 bit (tunit 2)) (tinl 5 bit (tunit 4)))

abbrev pub argument_matches : Fun
argument_matches = argument_by (tlet 8 (var 1 0) (tcase 6 (var 7 2) (tinl 3 bit (tunit 2)) (tinl 5 bit (tunit 4))))

abbrev pub ignore : Fun
ignore = of_bits (bit ∷ []) (var 19 1)

-- a bit in a μ: the scrutinee's parts are a let pair, a pair, a roll and two unrolls
abbrev pub rolled_bit : Ty
rolled_bit = mu (sum one one)

-- let (x, u) = (roll (unroll s), ()) in unroll x
abbrev pub by_parts : Term
by_parts = tletp 16 (tpair 15 (troll 14 rolled_bit (tunroll 13 rolled_bit (var 12 0))) (tunit 11)) (tunroll 10 rolled_bit (var 9 2))

abbrev pub shortest : Val → Bool
shortest v = leb (size v) 3

abbrev pub flip_by_parts : Fun
flip_by_parts = of_bits (rolled_bit ∷ []) (flips_by by_parts 1)

-- A case under first match, whose left branch is a choice: that branch may yield what the choice's either branch may, whatever s is.
abbrev pub left_chooses : Fun
left_chooses = of_bits (bit ∷ []) (tcase 9 (var 0 1) (tcase 8 (var 1 0) (tinl 3 bit (tunit 2)) (tinr 5 bit (tunit 4))) (tinr 7 bit (tunit 6)))

-- The branch variable of a choice is dynamic: a case on it is under first match.
abbrev pub branch_decides : Fun
branch_decides = record {
  ancillae = sum bit bit ∷ [];
  dynamic = bit;
  result = bit;
  body = tcase 12 (var 0 0) (tcase 8 (var 1 2) (var 2 1) (var 3 1)) (tcase 11 (var 4 2) (var 5 1) (var 6 1));
}

----------------------------------------------------------------
-- The table

pub record ChoiceTable : Type 0 where
  -- P12 itself, as it was (Cases), is under first match
  pub p12_chooses : chooses_in 9 flip ≡ false
  pub p12_ancilla_typed : checked (flip_by ∷ []) ≡ good tt
  pub p12_ancilla_left : runs (flip_by ∷ []) flip_by (inl unit ∷ []) (inr unit) 3 ≡ ok (inr unit) 0
  pub p12_ancilla_right : runs (flip_by ∷ []) flip_by (inr unit ∷ []) (inr unit) 6 ≡ ok (inl unit) 0
  pub p12_ancilla_back_left : returns (flip_by ∷ []) flip_by (inl unit ∷ []) (inl unit) 3 ≡ ok (inl unit) 0
  pub p12_ancilla_back : returns (flip_by ∷ []) flip_by (inr unit ∷ []) (inl unit) 6 ≡ ok (inr unit) 0
  -- the scrutinee comes before the branch, one higher than the case
  pub p12_ancilla_fuel : returns (flip_by ∷ []) flip_by (inr unit ∷ []) (inl unit) 1 ≡ stop 12 0
  pub p12_ancilla_height : run_backward fits (flip_by ∷ []) 1 flip_by (inr unit ∷ []) (inl unit) 6 ≡ stop 13 0
  pub p12_ancilla_chooses : chooses_in 8 flip_by ≡ true
  pub p12_ancilla_inner : chooses_in 7 flip_by ≡ false
  pub both_typed : checked (flip_by_both ∷ []) ≡ good tt
  pub both_forward : runs (flip_by_both ∷ []) flip_by_both (inr unit ∷ inr unit ∷ []) (inr unit) 8 ≡ ok (inl unit) 0
  pub both_back : returns (flip_by_both ∷ []) flip_by_both (inr unit ∷ inr unit ∷ []) (inl unit) 8 ≡ ok (inr unit) 0
  pub call_typed : checked (flip_by_call ∷ flip_by ∷ []) ≡ good tt
  pub call_forward : runs (flip_by_call ∷ flip_by ∷ []) flip_by_call (inr unit ∷ inl unit ∷ []) (inl unit) 14 ≡ ok (inr unit) 0
  pub call_back : returns (flip_by_call ∷ flip_by ∷ []) flip_by_call (inr unit ∷ inl unit ∷ []) (inr unit) 14 ≡ ok (inl unit) 0
  pub matched_typed : checked (flip_by_matched ∷ []) ≡ good tt
  pub matched_forward : runs (flip_by_matched ∷ []) flip_by_matched (inl unit ∷ []) (inr unit) 8 ≡ ok (inr unit) 0
  pub matched_back : returns (flip_by_matched ∷ []) flip_by_matched (inl unit ∷ []) (inr unit) 8 ≡ ok (inr unit) 0
  pub matched_refused : runs (flip_by_matched ∷ []) flip_by_matched (inr unit ∷ []) (inr unit) 65535 ≡ stop 15 15
  pub matched_back_refused : returns (flip_by_matched ∷ []) flip_by_matched (inr unit ∷ []) (inr unit) 65535 ≡ stop 15 15
  pub matched_chooses : chooses_in 8 flip_by_matched ≡ true
  pub matched_inner : chooses_in 15 flip_by_matched ≡ false
  pub always_typed : checked (flip_always ∷ []) ≡ good tt
  pub always_forward : runs (flip_always ∷ []) flip_always [] (inl unit) 7 ≡ ok (inr unit) 0
  pub always_back : returns (flip_always ∷ []) flip_always [] (inr unit) 7 ≡ ok (inl unit) 0
  pub named_typed : checked (flip_by_named ∷ flip_by ∷ []) ≡ good tt
  pub named_left : runs (flip_by_named ∷ flip_by ∷ []) flip_by_named (inl unit ∷ []) (pair (inl unit) (inr unit)) 14 ≡ ok (pair (inl unit) (inr unit)) 0
  pub named_back : returns (flip_by_named ∷ flip_by ∷ []) flip_by_named (inl unit ∷ []) (pair (inl unit) (inr unit)) 14 ≡ ok (pair (inl unit) (inr unit)) 0
  pub named_right : runs (flip_by_named ∷ flip_by ∷ []) flip_by_named (inl unit ∷ []) (pair (inr unit) (inr unit)) 65535 ≡ stop 15 8
  pub named_chooses : chooses_in 8 flip_by_named ≡ false
  pub unit_typed : checked (flip_by_unit ∷ []) ≡ good tt
  pub unit_right : runs (flip_by_unit ∷ []) flip_by_unit (inr unit ∷ []) (pair unit (inr unit)) 65535 ≡ stop 15 8
  pub unit_back : returns (flip_by_unit ∷ []) flip_by_unit (inr unit ∷ []) (inl unit) 65535 ≡ stop 16 11
  pub side_typed : checked (side_by ∷ []) ≡ good tt
  pub side_forward : runs (side_by ∷ []) side_by (inr (inl unit) ∷ []) (inr unit) 5 ≡ ok (pair (inr unit) (inl unit)) 0
  pub side_back : returns (side_by ∷ []) side_by (inr (inl unit) ∷ []) (pair (inr unit) (inl unit)) 5 ≡ ok (inr unit) 0
  -- the branch variable's use is compared with what the ancilla has
  pub side_left_none : returns (side_by ∷ []) side_by (inl (inl unit) ∷ []) (pair (inr unit) (inl unit)) 65535 ≡ stop 16 1
  pub side_right_none : returns (side_by ∷ []) side_by (inr (inl unit) ∷ []) (pair (inr unit) (inr unit)) 65535 ≡ stop 16 5
  pub argument_typed : checked (argument_chooses ∷ ignore ∷ argument_matches ∷ []) ≡ good tt
  pub argument_chooses_lem : runs (argument_chooses ∷ ignore ∷ []) argument_chooses (inr unit ∷ []) (inr unit) 7 ≡ ok (inr unit) 0
  pub argument_matches_lem : runs (argument_matches ∷ ignore ∷ []) argument_matches (inr unit ∷ []) (inr unit) 65535 ≡ stop 15 6
  pub argument_back : returns (argument_chooses ∷ ignore ∷ []) argument_chooses (inr unit ∷ []) (inr unit) 7 ≡ ok (inr unit) 0
  pub argument_back_refused : returns (argument_matches ∷ ignore ∷ []) argument_matches (inr unit ∷ []) (inr unit) 65535 ≡ stop 15 6
  pub argument_outer : chooses_in 6 argument_chooses ≡ true
  pub argument_inner : chooses_in 6 argument_matches ≡ false
  pub parts_typed : checked (flip_by_parts ∷ []) ≡ good tt
  pub parts_forward : runs (flip_by_parts ∷ []) flip_by_parts (roll (inr unit) ∷ []) (inr unit) 13 ≡ ok (inl unit) 0
  pub parts_back : returns (flip_by_parts ∷ []) flip_by_parts (roll (inr unit) ∷ []) (inl unit) 13 ≡ ok (inr unit) 0
  -- a size limit of three bytes: the scrutinee's pair is 14 at its own place, on the way back too
  pub parts_long : run_forward shortest (flip_by_parts ∷ []) max_height flip_by_parts (roll (inr unit) ∷ []) (inr unit) 13 ≡ stop 14 15
  pub parts_back_long : run_backward shortest (flip_by_parts ∷ []) max_height flip_by_parts (roll (inr unit) ∷ []) (inl unit) 13 ≡ stop 14 15
  pub left_chooses_typed : checked (left_chooses ∷ []) ≡ good tt
  pub left_chooses_inl : runs (left_chooses ∷ []) left_chooses (inl unit ∷ []) (inl unit) 6 ≡ ok (inl unit) 0
  pub left_chooses_inr : runs (left_chooses ∷ []) left_chooses (inl unit ∷ []) (inr unit) 65535 ≡ stop 15 9
  pub branch_decides_typed : checked (branch_decides ∷ []) ≡ good tt
  pub branch_decides_inl : runs (branch_decides ∷ []) branch_decides (inl (inl unit) ∷ []) (inr unit) 5 ≡ ok (inr unit) 0
  pub branch_decides_inr : runs (branch_decides ∷ []) branch_decides (inl (inr unit) ∷ []) (inr unit) 65535 ≡ stop 15 8
