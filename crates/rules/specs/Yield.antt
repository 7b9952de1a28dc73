-- May-yield (section 3): whether a term may yield a value, judged by the term's form alone. The source's PLVal, with section 3's
-- reading of variables: an ancilla parameter yields its own value, every other variable anything.
use Rattle.std.specs.Prelude.{ℕ, Bool, true, false, not, ◌&&◌, ◌||◌, List, length}
use Rattle.std.proofs.Math.Option.{Option, none, some}
use package.Rattle.rules.specs.Val.{Val, unit, inl, inr, pair, roll, same}
use package.Rattle.rules.specs.Term.{Term, var, tunit, tinl, tinr, tpair, tlet, tletp, tcase, tcall, troll, tunroll, look, by_ancilla}

-- May what is known, if anything, be the value?
unfoldable pub may_be : Option Val → Val → Bool
may_be none v = true
may_be (some w) v = same w v

-- `a` is the scope of the ancilla parameters' values. A constructor form by its parts, let by its body, case by either branch,
-- call and unroll anything.
unfoldable pub may_yield : List Val → Term → Val → Bool
unfolding may_be
may_yield a (var k i) v = may_be (look a i) v
may_yield a (tunit k) v = same unit v
may_yield a (tinl k c e) v = elim v [ unit ↦ false | inl v ↦ may_yield a e v | inr v ↦ false | pair v w ↦ false | roll v ↦ false ]
may_yield a (tinr k c e) v = elim v [ unit ↦ false | inl v ↦ false | inr v ↦ may_yield a e v | pair v w ↦ false | roll v ↦ false ]
may_yield a (tpair k e e') v = elim v [ unit ↦ false | inl v ↦ false | inr v ↦ false | pair v w ↦ may_yield a e v && may_yield a e' w | roll v ↦ false ]
may_yield a (tlet k e b) v = may_yield a b v
may_yield a (tletp k e b) v = may_yield a b v
may_yield a (tcase k e b b') v = may_yield a b v || may_yield a b' v
may_yield a (tcall k g ts e) v = true
may_yield a (troll k c e) v = elim v [ unit ↦ false | inl v ↦ false | inr v ↦ false | pair v w ↦ false | roll v ↦ may_yield a e v ]
may_yield a (tunroll k c e) v = true

-- First match (section 3): may a right branch's value `v` stand, where `n` variables are in scope around the case with scrutinee `e`
-- and left branch `b`? It may if the left may not yield it, or if the case chooses by an ancilla (02, F-3).
unfoldable pub first_match : List Val → ℕ → Term → Term → Val → Bool
first_match a n e b v = by_ancilla (length a) n e || not (may_yield a b v)
