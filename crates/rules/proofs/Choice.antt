-- Cases that choose by an ancilla (02, F-3): what their scrutinees name, and so do not use.
use Prim.Native.Nat.{ℕ, suc, ◌≤◌, ◌<◌}
use native.Mathlib.Omega.{arith}
use mathlib.Core.Path.{◌≡◌, ap, ◌∙◌}
use mathlib.Core.Bool.{Bool, true, ◌&&◌, ◌||◌, false≢true}
use lib.Dec.{ltb, leb, leb→le}
use package.Rattle.rules.specs.Term.{Term, Terms, var, tunit, tinl, tinr, tpair, tlet, tletp, tcase, tcall, troll, tunroll, end, more}
use package.Rattle.rules.specs.Term.{used_in, within, within_all, inside, by_ancilla}
use package.Rattle.rules.proofs.Basics.{given, and_both, or_left, or_elim, eqb-sound}
use package.Rattle.rules.proofs.Directed.{Within, WithinAll, within_more, allowed}

-- the test decides it
mutual
  unfolding within within_all

  within_true : (A : ℕ → Bool) (t : Term) → within A t ≡ true → Within A t
  within_true A (var k i) h = h
  within_true A (tunit k) h = tt
  within_true A (tinl k c e) h = within_true A e h
  within_true A (tinr k c e) h = within_true A e h
  within_true A (tpair k e e') h = given (and_both (within A e) (within A e') h) λ (x, y). (within_true A e x, within_true A e' y)
  within_true A (tlet k e b) h = given (and_both (within A e) (within A b) h) λ (x, y). (within_true A e x, within_true A b y)
  within_true A (tletp k e b) h = given (and_both (within A e) (within A b) h) λ (x, y). (within_true A e x, within_true A b y)
  within_true A (tcase k e b b') h = given (and_both (within A e) (within A b && within A b') h) λ (x, y).
      given (and_both (within A b) (within A b') y) λ (z, z'). (within_true A e x, within_true A b z, within_true A b' z')
  within_true A (tcall k g ts e) h = given (and_both (within_all A ts) (within A e) h) λ (x, y). (within-all_true A ts x, within_true A e y)
  within_true A (troll k t e) h = within_true A e h
  within_true A (tunroll k t e) h = within_true A e h

  within-all_true : (A : ℕ → Bool) (ts : Terms) → within_all A ts ≡ true → WithinAll A ts
  within-all_true A end h = tt
  within-all_true A (more t ts) h = given (and_both (within A t) (within_all A ts) h) λ (x, y). (within_true A t x, within-all_true A ts y)

-- a variable that the term uses is allowed
within-used : (A : ℕ → Bool) (i : ℕ) (t : Term) → Within A t → used_in i t ≡ true → A i ≡ true
within-used A i (var k j) w x = ap A (eqb-sound i j x) ∙ w
within-used A i (tunit k) w x = absurd (false≢true x)
within-used A i (tinl k c e) w x = within-used A i e w x
within-used A i (tinr k c e) w x = within-used A i e w x
within-used A i (tpair k e e') w x = or_elim (used_in i e) (used_in i e') (within-used A i e w.0) (within-used A i e' w.1) x
within-used A i (tlet k e b) w x = or_elim (used_in i e) (used_in i b) (within-used A i e w.0) (within-used A i b w.1) x
within-used A i (tletp k e b) w x = or_elim (used_in i e) (used_in i b) (within-used A i e w.0) (within-used A i b w.1) x
within-used A i (tcase k e b b') w x = or_elim (used_in i e) (used_in i b || used_in i b') (within-used A i e w.0)
    (or_elim (used_in i b) (used_in i b') (within-used A i b w.1) (within-used A i b' w.2)) x
within-used A i (tcall k g ts e) w x = within-used A i e w.1 x
within-used A i (troll k c e) w x = within-used A i e w x
within-used A i (tunroll k c e) w x = within-used A i e w x

-- a variable between the ancilla parameters and what is bound inside is not inside
pub not_inside : (q n i : ℕ) → q ≤ i → i < n → inside q n i ≡ true → ⊥
not_inside q n i l m = or_elim (ltb i q) (leb n i) (λ x. omega (arith, leb→le (suc i) q (rw x tt))) (λ x. omega (arith, leb→le n i (rw x tt)))

module _ (q n : ℕ) (e : Term) where
  -- what the scrutinee names
  pub scrutinee-within : by_ancilla q n e ≡ true → Within (inside q n) e
  unfolding by_ancilla
  scrutinee-within x = within_true (inside q n) e x

  -- it uses no dynamic variable from outside
  pub scrutinee-unused : Within (inside q n) e → (i : ℕ) → q ≤ i → i < n → used_in i e ≡ true → ⊥
  scrutinee-unused w i l m x = not_inside q n i l m (within-used (inside q n) i e w x)

  pub scrutinee-allowed : (M : ℕ → Bool) → Within (inside q n) e → Within (allowed M q n) e
  scrutinee-allowed M w = within_more (inside q n) (allowed M q n) (λ i x. or_left (M i) x) e w
