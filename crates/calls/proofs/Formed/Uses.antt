-- How often a number stands in a list, and that none was used before exactly if none stands twice.
use Prim.Native.Nat.{ℕ, suc, ◌+◌, ◌≤◌}
use native.Mathlib.Omega.{arith}
use mathlib.Core.Path.{◌≡◌, refl, sym, ap, ◌∙◌}
use mathlib.Core.Bool.{Bool, true, false, not, ◌||◌, cond, false≢true}
use mathlib.Core.List.{List, [], ◌∷◌, ◌++◌}
use mathlib.Core.Logic.{◌↔◌}
use lib.Dec.{eqb, ltb}
use package.Rattle.rules.proofs.Basics.{given, and_both, not-true, eqb-sound, eqb_yes, eqb-differs}
use package.Rattle.calls.specs.Named.{below, member, fresh}
use package.Rattle.calls.specs.Formed.{times}
use package.Rattle.calls.proofs.Entries.{below-head}

----------------------------------------------------------------
-- Counting

-- whether a number is the first one
unfoldable one_if : Bool → ℕ
one_if b = cond b 1 0

times-head : (i j : ℕ) (js : List ℕ) → times i (j ∷ js) ≡ one_if (eqb i j) + times i js
unfolding times one_if
times-head i j js = by_test (eqb i j)
  where
    by_test : (b : Bool) → cond b (suc (times i js)) (times i js) ≡ cond b 1 0 + times i js
    by_test true = omega arith
    by_test false = omega arith

pub times-append : (i : ℕ) (is js : List ℕ) → times i (is ++ js) ≡ times i is + times i js
unfolding times
times-append i [] js = omega arith
times-append i (k ∷ is) js = omega (arith, times-head i k (is ++ js), times-head i k is, times-append i is js)

-- a number that is first stands there
times-first : (i : ℕ) (js : List ℕ) → times i (i ∷ js) ≡ suc (times i js)
unfolding times
times-first i js = rw (eqb_yes i)

pub member-times : (i : ℕ) (js : List ℕ) → (member i js ≡ true) ↔ (1 ≤ times i js)
unfolding member times
member-times i [] = (λ e. absurd (false≢true e), λ l. absurd (omega arith))
member-times i (j ∷ js) = by_test (eqb i j) (member-times i js)
  where
    by_test : (b : Bool) → (member i js ≡ true) ↔ (1 ≤ times i js) → ((b || member i js) ≡ true) ↔ (1 ≤ cond b (suc (times i js)) (times i js))
    by_test true h = (λ e. omega arith, λ l. refl)
    by_test false h = h

-- a number past all is not there
pub times-past : (n i : ℕ) (js : List ℕ) → below n js ≡ true → n ≤ i → times i js ≡ 0
unfolding times
times-past n i [] e l = refl
times-past n i (j ∷ js) e l = given (below-head n j js e) λ (h, e₁). rw (eqb-differs i j λ z. omega arith) (times-past n i js e₁ l)

----------------------------------------------------------------
-- None was used before

-- a number moved from one list to the other
moved : (i t : ℕ) (ts used : List ℕ) → times i (t ∷ ts) + times i used ≡ times i ts + times i (t ∷ used)
moved i t ts used = omega (arith, times-head i t ts, times-head i t used)

-- no number stands twice in both together
abbrev pub Once : List ℕ → List ℕ → Type 0
Once ts used = (i : ℕ) → times i ts + times i used ≤ 1

absent : (t : ℕ) (used : List ℕ) → member t used ≡ false → times t used ≡ 0
unfolding member times
absent t [] e = refl
absent t (j ∷ js) e = by_test (eqb t j) (absent t js) e
  where
    by_test : (b : Bool) → (member t js ≡ false → times t js ≡ 0) → (b || member t js) ≡ false → cond b (suc (times t js)) (times t js) ≡ 0
    by_test true h e = absurd (false≢true (sym e))
    by_test false h e = h e

present_not : (t : ℕ) (used : List ℕ) → times t used ≡ 0 → not (member t used) ≡ true
present_not t used z = by_test (member t used) refl
  where
    by_test : (b : Bool) → member t used ≡ b → not b ≡ true
    by_test true p = absurd (omega (arith, (member-times t used).0 p))
    by_test false p = refl

-- one more number, that was not there
still-once : (t : ℕ) (used : List ℕ) (j : ℕ) → times t used ≡ 0 → times j used ≤ 1 → times j (t ∷ used) ≤ 1
unfolding times
still-once t used j z l = by_test (eqb j t) refl
  where
    by_test : (b : Bool) → eqb j t ≡ b → cond b (suc (times j used)) (times j used) ≤ 1
    by_test true p = omega (arith, ap (λ k. times k used) (eqb-sound j t p))
    by_test false p = l

pub fresh-once : (used ts : List ℕ) → fresh used ts ≡ true → ((i : ℕ) → times i used ≤ 1) → Once ts used
unfolding fresh times
fresh-once used [] e h i = omega (arith, h i)
fresh-once used (t ∷ ts) e h i = given (and_both _ _ e) λ (m, r).
    omega (arith, moved i t ts used, fresh-once (t ∷ used) ts r (λ j. still-once t used j (absent t used (not-true m)) (h j)) i)

pub once-fresh : (used ts : List ℕ) → Once ts used → fresh used ts ≡ true
unfolding fresh
once-fresh used [] h = refl
once-fresh used (t ∷ ts) h =
    rw (present_not t used (omega (arith, h t, times-first t ts)), once-fresh (t ∷ used) ts λ i. omega (arith, h i, moved i t ts used))

----------------------------------------------------------------
-- What all the entries name

pub below-append : (n : ℕ) (is js : List ℕ) → (below n (is ++ js) ≡ true) ↔ ((below n is ≡ true) × (below n js ≡ true))
unfolding below
below-append n [] js = (λ e. (refl, e), λ (p, e). e)
below-append n (i ∷ is) js = (
  λ e. given (and_both (ltb i n) (below n (is ++ js)) e) λ (x, y). given ((below-append n is js).0 y) λ (p, q). (rw (x, p), q),
  λ (p, q). given (and_both (ltb i n) (below n is) p) λ (x, y). rw (x, (below-append n is js).1 (y, q)),
)

pub member-append : (i : ℕ) (is js : List ℕ) → member i (is ++ js) ≡ (member i is || member i js)
unfolding member
member-append i [] js = refl
member-append i (k ∷ is) js = ap (λ b. eqb i k || b) (member-append i is js) ∙ assoc (eqb i k) (member i is) (member i js)
  where
    assoc : (a b c : Bool) → (a || (b || c)) ≡ ((a || b) || c)
    assoc true b c = refl
    assoc false b c = refl
