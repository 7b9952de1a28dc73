-- Section 6's cases P1 to P12 over trees, and those of F-2, under the limits of documents 01 and 02, gathered in one proposition; F-3's are in
-- Choices. On bytes, with P13, they stand again in crate calls; of F-2 a let, a nested let, a unit that was never met, and two that tell
-- places.
use Rattle.std.specs.Prelude.{ℕ, zero, suc, ◌≡◌, List, [], ◌∷◌}
use package.Rattle.rules.specs.Limits.{fits, max_height, max_nodes, max_variables}
use package.Rattle.rules.specs.Val.{Val, unit, inl, inr, pair, roll, size}
use package.Rattle.rules.specs.Ty.{Ty, one, prod, sum, mu, tyvar}
use package.Rattle.rules.specs.Term.{Term, var, tunit, tinl, tinr, tpair, tlet, tletp, tcase, tcall, troll, tunroll, end, more, Fun, Program}
use package.Rattle.rules.specs.Check.{Checked, good, bad, term, function, check}
use package.Rattle.rules.specs.Run.{Res, ok, stop}
use package.Rattle.rules.specs.Machine.{run_forward, run_backward}

----------------------------------------------------------------
-- Programs

abbrev pub nat : Ty
nat = mu (sum one (tyvar 0))

-- the value of a number
unfoldable pub num : ℕ → Val
num zero = roll (inl unit)
num (suc n) = roll (inr (num n))

-- ancilla a and dynamic n: case unroll n of inl u gives a; inr m gives roll inr (plus a m)
abbrev pub plus : Fun
plus = record {
  ancillae = nat ∷ [];
  dynamic = nat;
  result = nat;
  body = tcase 8 (tunroll 1 nat (var 0 1)) (var 2 0) (troll 7 nat (tinr 6 (sum one nat) (tcall 5 0 (more (var 3 0) end) (var 4 2))));
}

-- n gives (n, n)
abbrev pub dup : Fun
dup = record { ancillae = []; dynamic = nat; result = prod nat nat; body = tpair 11 (var 9 0) (var 10 0) }

abbrev pub numbers : Program
numbers = plus ∷ dup ∷ []

abbrev pub bit : Ty
bit = sum one one

-- P10: a case on 1 + 1 that gives inl unit in both branches
abbrev pub collapse : Fun
collapse = record { ancillae = []; dynamic = bit; result = bit; body = tcase 5 (var 0 0) (tinl 2 bit (tunit 1)) (tinl 4 bit (tunit 3)) }

-- P11: from 1 + 1 to unit alone
abbrev pub discards : Fun
discards = record { ancillae = []; dynamic = bit; result = one; body = tunit 0 }

-- the same by a case that ends in unit: it is typed, and first match refuses its right branch
abbrev pub drop_by_case : Fun
drop_by_case = record { ancillae = []; dynamic = bit; result = one; body = tcase 3 (var 0 0) (tunit 1) (tunit 2) }

-- P12: pair (s, q) of 1 + 1: left gives q, right gives q flipped
abbrev pub flip : Fun
flip = record {
  ancillae = [];
  dynamic = prod bit bit;
  result = bit;
  body = tletp 10 (var 0 0) (tcase 9 (var 1 1) (var 2 2) (tcase 8 (var 3 2) (tinr 5 bit (tunit 4)) (tinl 7 bit (tunit 6))));
}

----------------------------------------------------------------
-- A variable that comes back later steers a call (02, F-2); function 0 is plus, k is variable 1, n variable 2

-- a function of (k, n)
abbrev pub of_pair : Ty → Term → Fun
of_pair c t = record { ancillae = []; dynamic = prod nat nat; result = c; body = tletp 40 (var 20 0) t }

-- plus k n
abbrev pub plus_kn : Term
plus_kn = tcall 23 0 (more (var 21 1) end) (var 22 2)

-- let y = plus k n in (k, y)
abbrev pub steer : Fun
steer = of_pair (prod nat nat) (tlet 30 plus_kn (tpair 29 (var 27 1) (var 28 3)))

-- let y = (let z = plus k n in z) in (k, y): the outer let helps
abbrev pub steer_nested : Fun
steer_nested = of_pair (prod nat nat) (tlet 30 (tlet 25 plus_kn (var 24 3)) (tpair 29 (var 27 1) (var 28 3)))

-- let y = plus k n in y: nothing helps
abbrev pub steer_lost : Fun
steer_lost = of_pair nat (tlet 30 plus_kn (var 28 3))

-- let y = (let z = plus k n in z) in y, and a body that is not typed: 6 in the body comes first
abbrev pub steer_late : Fun
steer_late = of_pair nat (tlet 30 (tlet 25 plus_kn (var 24 3)) (troll 29 nat (var 28 3)))

-- let y = plus k n in k: y is unused and k helped; let y = plus k n in (): both are refused, and the lowest place stands
abbrev pub steer_unused : Fun
steer_unused = of_pair nat (tlet 30 plus_kn (var 28 1))

abbrev pub steer_both : Fun
steer_both = of_pair one (tlet 30 plus_kn (tunit 28))

-- let (y, z) = (plus k n, ()) in a body, which y is variable 3 of
abbrev pub split : Ty → Term → Fun
split c b = of_pair c (tletp 30 (tpair 25 plus_kn (tunit 24)) b)

-- the body (k, y); k, which leaves y unused; ((), ()), which leaves both; one that is not typed
abbrev pub split_steers : Fun
split_steers = split (prod nat nat) (tpair 29 (var 27 1) (var 28 3))

abbrev pub split_unused : Fun
split_unused = split nat (var 28 1)

abbrev pub split_both : Fun
split_both = split (prod one one) (tpair 29 (tunit 27) (tunit 28))

abbrev pub split_late : Fun
split_late = split nat (troll 29 nat (var 28 3))

-- (k, plus k n): a pair helps nothing, 8 at once
abbrev pub steer_pair : Fun
steer_pair = of_pair (prod nat nat) (tpair 30 (var 29 1) plus_kn)

-- beside (let z = a in let y = plus z a in (z, y)) n, with an ancilla a: the rule holds inside an ancilla argument
abbrev pub steer_inside : Fun
steer_inside = record {
  ancillae = nat ∷ [];
  dynamic = nat;
  result = prod (prod nat nat) nat;
  body = tcall 40 1 (more (tlet 35 (var 20 0) (tlet 34 (tcall 23 0 (more (var 21 2) end) (var 22 0)) (tpair 33 (var 31 2) (var 32 3)))) end) (var 36 1);
}

-- let y = plus k (plus k n) in y: two namings are refused, and the lowest place stands, not the first written
abbrev pub steer_two : Fun
steer_two = of_pair nat (tlet 30 (tcall 27 0 (more (var 26 1) end) plus_kn) (var 28 3))

-- case unroll (plus k n) of ..: a case helps nothing, 8 at once, before 6 in a branch
abbrev pub steer_case : Fun
steer_case = of_pair nat (tcase 30 (tunroll 24 nat plus_kn) (troll 29 nat (var 28 1)) (var 27 1))

-- let y = beside (let z = plus k 0 in (z, k)) n in y: the let inside the ancilla argument helps nothing, so that the lowest place is
-- in its bound term. Function 1 is beside.
abbrev pub steer_argument : Fun
steer_argument = of_pair (prod (prod nat nat) nat) (tlet 35 (tcall 34 1
    (more (tlet 30 (tcall 23 0 (more (var 21 1) end) (troll 26 nat (tinl 25 (sum one nat) (tunit 22))))
    (tpair 29 (var 27 3) (var 28 1))) end) (var 33 2)) (var 32 3))

-- (u, n) with u unit, let y = beside u n in y: a unit is not exempt
abbrev pub steer_unit : Fun
steer_unit = record {
  ancillae = [];
  dynamic = prod one nat;
  result = prod one nat;
  body = tletp 40 (var 20 0) (tlet 30 (tcall 23 1 (more (var 21 1) end) (var 22 2)) (var 28 3));
}

-- A unit that one branch alone meets: s, u and n give, with y = (u, n) made by a call that u steers, inl (u, y) or inr y.
abbrev pub unit_and_nat : Ty
unit_and_nat = prod one nat

abbrev pub unmet : Fun
unmet = record {
  ancillae = [];
  dynamic = prod bit unit_and_nat;
  result = sum (prod one unit_and_nat) unit_and_nat;
  body = tletp 20 (var 0 0) (tletp 19 (var 1 2) (tlet 18 (tcall 4 1 (more (var 2 3) end) (var 3 4))
      (tcase 17 (var 5 1)
      (tinl 9 (sum (prod one unit_and_nat) unit_and_nat) (tpair 8 (var 6 3) (var 7 5)))
      (tinr 11 (sum (prod one unit_and_nat) unit_and_nat) (var 10 5)))));
}

-- (a, n) for an ancilla a
abbrev pub beside : Ty → Ty → Fun
beside c d = record { ancillae = c ∷ []; dynamic = d; result = prod c d; body = tpair 52 (var 50 0) (var 51 1) }

-- inl _ gives an ancilla a, and inr v gives inr v
abbrev pub choosy : Fun
choosy = record { ancillae = bit ∷ []; dynamic = bit; result = bit; body = tcase 7 (var 3 1) (var 4 0) (tinr 6 bit (var 5 2)) }

-- A program with one fault: a call, choosy k k, is steered by the variable that it uses, and no let could help. Backward reads k as unit,
-- then binds it otherwise; forward is refused.
abbrev pub stray : Fun
stray = record { ancillae = []; dynamic = bit; result = bit; body = tcall 2 1 (more (var 0 0) end) (var 1 0) }

----------------------------------------------------------------
-- Mistakes to rule out (section 6), orders of tests (section 4)

-- a left branch that may yield anything, being a call, and yields inl unit alone: backward never tries the right one (section 6,
-- mistakes to rule out)
abbrev pub left_calls : Fun
left_calls = record {
  ancillae = [];
  dynamic = bit;
  result = bit;
  body = tcase 6 (var 0 0) (tcall 3 1 end (tinl 2 bit (tunit 1))) (tinr 5 bit (tunit 4));
}

abbrev pub identity : Fun
identity = record { ancillae = []; dynamic = bit; result = bit; body = var 7 0 }

-- Orders of typing tests (section 4). A left branch that leaves its variable, of type 1 + 1, unused, and a right branch that names a
-- variable out of scope: 8 at the case comes first.
abbrev pub left_unused : Fun
left_unused = record { ancillae = []; dynamic = sum bit one; result = one; body = tcase 3 (var 0 0) (tunit 1) (var 2 9) }

-- `n` lets of unit around a term
unfoldable pub lets : ℕ → Term → Term
lets zero t = t
lets (suc n) t = tlet 100 (tunit 101) (lets n t)

-- A let where 32 variables are in scope already, of a variable out of scope: 7 at the let comes first.
unfoldable pub crowded : Fun
unfolding lets
crowded = record { ancillae = []; dynamic = one; result = one; body = lets 31 (tlet 3 (var 1 99) (tunit 2)) }

----------------------------------------------------------------
-- The table

abbrev pub checked : Program → Checked (Unit {0})
checked P = check max_variables max_nodes P

-- a function run on ancillae, a value and fuel: the answer, with the fuel left
abbrev pub runs : Program → Fun → List Val → Val → ℕ → Res Val
runs P h vs v f = run_forward fits P max_height h vs v f

abbrev pub returns : Program → Fun → List Val → Val → ℕ → Res Val
returns P h vs v f = run_backward fits P max_height h vs v f

pub record TreeTable : Type 0 where
  pub typed : checked numbers ≡ good tt
  pub p1 : runs numbers plus (num 2 ∷ []) (num 0) 65535 ≡ ok (num 2) 65531
  pub p2 : runs numbers plus (num 2 ∷ []) (num 3) 28 ≡ ok (num 5) 0
  pub p2_fuel : runs numbers plus (num 2 ∷ []) (num 3) 27 ≡ stop 12 2
  pub p3 : returns numbers plus (num 2 ∷ []) (num 5) 28 ≡ ok (num 3) 0
  pub p4 : returns numbers plus (num 2 ∷ []) (num 1) 65535 ≡ stop 16 6
  pub p5 : runs numbers plus (num 0 ∷ []) (num 255) 2044 ≡ ok (num 255) 0
  -- P5's height is 1,023 exactly
  pub p5_height : run_forward fits numbers 1023 plus (num 0 ∷ []) (num 255) 2044 ≡ ok (num 255) 0
  pub p5_lower : run_forward fits numbers 1022 plus (num 0 ∷ []) (num 255) 2044 ≡ stop 13 0
  pub p6 : runs numbers plus (num 0 ∷ []) (num 256) 65535 ≡ stop 13 3
  pub p7 : runs numbers dup [] (num 254) 3 ≡ ok (pair (num 254) (num 254)) 0
  pub p7_bytes : size (pair (num 254) (num 254)) ≡ 1023
  pub p8 : runs numbers dup [] (num 255) 3 ≡ stop 14 11
  pub p9 : returns numbers dup [] (pair (num 3) (num 4)) 3 ≡ stop 16 10
  pub p9_equal : returns numbers dup [] (pair (num 3) (num 3)) 3 ≡ ok (num 3) 0
  pub p10_typed : checked (collapse ∷ []) ≡ good tt
  pub p10_inl : runs (collapse ∷ []) collapse [] (inl unit) 4 ≡ ok (inl unit) 0
  pub p10_inr : runs (collapse ∷ []) collapse [] (inr unit) 4 ≡ stop 15 5
  pub p11 : checked (discards ∷ []) ≡ bad 8 (function 0)
  pub p11_case : checked (drop_by_case ∷ []) ≡ good tt
  pub p11_inr : runs (drop_by_case ∷ []) drop_by_case [] (inr unit) 3 ≡ stop 15 3
  pub p12_typed : checked (flip ∷ []) ≡ good tt
  pub p12_left_inl : runs (flip ∷ []) flip [] (pair (inl unit) (inl unit)) 5 ≡ ok (inl unit) 0
  pub p12_left_inr : runs (flip ∷ []) flip [] (pair (inl unit) (inr unit)) 5 ≡ ok (inr unit) 0
  pub p12_right_inl : runs (flip ∷ []) flip [] (pair (inr unit) (inl unit)) 65535 ≡ stop 15 9
  pub p12_right_inr : runs (flip ∷ []) flip [] (pair (inr unit) (inr unit)) 65535 ≡ stop 15 9
  pub left_typed : checked (left_calls ∷ identity ∷ []) ≡ good tt
  pub left_inl : returns (left_calls ∷ identity ∷ []) left_calls [] (inl unit) 65535 ≡ ok (inl unit) 65529
  pub left_inr : returns (left_calls ∷ identity ∷ []) left_calls [] (inr unit) 65535 ≡ stop 16 2
  pub steer_typed : checked (plus ∷ steer ∷ []) ≡ good tt
  pub steer_forward : runs (plus ∷ []) steer [] (pair (num 2) (num 3)) 65535 ≡ ok (pair (num 2) (num 5)) 65498
  pub steer_back : returns (plus ∷ []) steer [] (pair (num 2) (num 5)) 65535 ≡ ok (pair (num 2) (num 3)) 65498
  pub steer_none : returns (plus ∷ []) steer [] (pair (num 2) (num 1)) 65535 ≡ stop 16 6
  pub nested_typed : checked (plus ∷ steer_nested ∷ []) ≡ good tt
  pub nested_forward : runs (plus ∷ []) steer_nested [] (pair (num 2) (num 3)) 65535 ≡ ok (pair (num 2) (num 5)) 65496
  pub nested_back : returns (plus ∷ []) steer_nested [] (pair (num 2) (num 5)) 65535 ≡ ok (pair (num 2) (num 3)) 65496
  pub steer_lost_lem : checked (plus ∷ steer_lost ∷ []) ≡ bad 8 (term 21)
  pub steer_late_lem : checked (plus ∷ steer_late ∷ []) ≡ bad 6 (term 29)
  pub steer_unused_lem : checked (plus ∷ steer_unused ∷ []) ≡ bad 8 (term 30)
  pub steer_both_lem : checked (plus ∷ steer_both ∷ []) ≡ bad 8 (term 21)
  pub split_typed : checked (plus ∷ split_steers ∷ []) ≡ good tt
  pub split_forward : runs (plus ∷ []) split_steers [] (pair (num 2) (num 3)) 65535 ≡ ok (pair (num 2) (num 5)) 65496
  pub split_back : returns (plus ∷ []) split_steers [] (pair (num 2) (num 5)) 65535 ≡ ok (pair (num 2) (num 3)) 65496
  pub split_unused_lem : checked (plus ∷ split_unused ∷ []) ≡ bad 8 (term 30)
  pub split_both_lem : checked (plus ∷ split_both ∷ []) ≡ bad 8 (term 21)
  pub split_late_lem : checked (plus ∷ split_late ∷ []) ≡ bad 6 (term 29)
  pub steer_pair_lem : checked (plus ∷ steer_pair ∷ []) ≡ bad 8 (term 21)
  pub steer_two_lem : checked (plus ∷ steer_two ∷ []) ≡ bad 8 (term 21)
  pub steer_case_lem : checked (plus ∷ steer_case ∷ []) ≡ bad 8 (term 21)
  pub steer_argument_lem : checked (plus ∷ beside (prod nat nat) nat ∷ steer_argument ∷ []) ≡ bad 8 (term 21)
  pub steer_unit_lem : checked (plus ∷ beside one nat ∷ steer_unit ∷ []) ≡ bad 8 (term 21)
  pub inside_typed : checked (plus ∷ beside (prod nat nat) nat ∷ steer_inside ∷ []) ≡ good tt
  pub inside_forward : runs (plus ∷ beside (prod nat nat) nat ∷ []) steer_inside (num 1 ∷ []) (num 3) 65535
      ≡ ok (pair (pair (num 1) (num 2)) (num 3)) 65509
  pub inside_back : returns (plus ∷ beside (prod nat nat) nat ∷ []) steer_inside (num 1 ∷ []) (pair (pair (num 1) (num 2)) (num 3)) 65535 ≡ ok (num 3) 65509
  pub unmet_typed : checked (unmet ∷ beside one nat ∷ []) ≡ good tt
  pub unmet_forward : runs (unmet ∷ beside one nat ∷ []) unmet [] (pair (inr unit) (pair unit (num 3))) 65535 ≡ ok (inr (pair unit (num 3))) 65520
  pub unmet_left : returns (unmet ∷ beside one nat ∷ []) unmet [] (inl (pair unit (pair unit (num 3)))) 65535
      ≡ ok (pair (inl unit) (pair unit (num 3))) 65518
  pub unmet_back : returns (unmet ∷ beside one nat ∷ []) unmet [] (inr (pair unit (num 3))) 65535 ≡ ok (pair (inr unit) (pair unit (num 3))) 65520
  pub choosy_typed : checked (choosy ∷ []) ≡ good tt
  pub stray_refused : checked (stray ∷ choosy ∷ []) ≡ bad 8 (term 0)
  pub stray_back : returns (stray ∷ choosy ∷ []) stray [] (inr unit) 65535 ≡ ok (inr unit) 65528
  pub stray_forward : runs (stray ∷ choosy ∷ []) stray [] (inr unit) 65535 ≡ stop 15 7
  pub order_left : checked (left_unused ∷ []) ≡ bad 8 (term 3)
  pub order_let : checked (crowded ∷ []) ≡ bad 7 (term 3)
