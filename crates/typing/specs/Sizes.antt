-- How many terms a tree has: as many products of types as terms can come up in typing one function, so this bounds the room for them.
-- Of a function that is accepted it is at most the number of term entries: proofs/Sizes.
use Rattle.std.specs.Prelude.{ℕ, suc, ◌+◌}
use package.Rattle.rules.specs.Term.{Term, Terms, var, tunit, tinl, tinr, tpair, tlet, tletp, tcase, tcall, troll, tunroll, end, more}

unfoldable mutual
  -- the term itself is counted
  pub terms_in : Term → ℕ
  terms_in (var k i) = 1
  terms_in (tunit k) = 1
  terms_in (tinl k c e) = suc (terms_in e)
  terms_in (tinr k c e) = suc (terms_in e)
  terms_in (tpair k e e') = suc (terms_in e + terms_in e')
  terms_in (tlet k e b) = suc (terms_in e + terms_in b)
  terms_in (tletp k e b) = suc (terms_in e + terms_in b)
  terms_in (tcase k e b b') = suc (terms_in e + (terms_in b + terms_in b'))
  terms_in (tcall k g ts e) = suc (terms_in_all ts + terms_in e)
  terms_in (troll k c e) = suc (terms_in e)
  terms_in (tunroll k c e) = suc (terms_in e)

  pub terms_in_all : Terms → ℕ
  terms_in_all end = 0
  terms_in_all (more t ts) = terms_in t + terms_in_all ts
