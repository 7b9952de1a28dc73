-- Laws of settling namings after the body of a let: one naming, one after another, what goes on waiting, and the lowest place.
use Prim.Native.Nat.{ℕ, zero, suc, ◌+◌, ◌-◌, ◌≤◌, ◌<◌}
use native.Mathlib.Omega.{arith}
use native.Mathlib.Decide.{dec_lt}
use mathlib.Core.Path.{◌≡◌, refl, sym, ap, ap₂, subst, ◌∙◌}
use mathlib.Core.Bool.{Bool, true, false, not, ◌&&◌, ◌||◌, cond}
use mathlib.Core.List.{List, [], ◌∷◌, ◌++◌}
use lib.ListN.{length, get_or}
use lib.Dec.{eqb, leb}
use borrow.Author.Tests.{eq-eqb, ne_eqb, lt-ltb, le-ltb, lt-leb, le-leb}
use package.Rattle.octets.specs.Numbers.{get16, put16}
use package.Rattle.octets.proofs.Puts.{length-put16, put16-other, get16-put16}
use package.Rattle.rules.specs.Typing.{Vars}
use package.Rattle.rules.proofs.Basics.{and-false}
use package.Rattle.rules.specs.Check.{Naming, term, bad, onward, late, unless, lowest, need_none}
use package.Rattle.varsets.specs.declared.Uses.{Uses}
use package.Rattle.varsets.specs.Sets.{has}
use package.Rattle.typing.specs.Waiting.{cell_at, no_variable, naming_in, namings, met, lower, told_by, marked_in, helps_in, settled_one, Settled, Settles}
use package.Rattle.typing.proofs.Waiting.{get16-at, naming_same, namings-both}
use Rattle.typing.specs.declared.outcomes.Scope.{Scope}
use Rattle.std.specs.Prelude.{Option, Some, None, min}
use Rattle.std.proofs.Math.Nat.{min_comm, min-eq_left}

----------------------------------------------------------------
-- Lists that come in two parts

pub onward-both : (H M : Vars) (W W' : List Naming) → onward H M (W ++ W') ≡ (onward H M W ++ onward H M W')
unfolding onward
onward-both H M [] W' = refl
onward-both H M (x ∷ W) W' = ap (λ N. cond (M x.variable && not (H x.variable)) (x ∷ N) N) (onward-both H M W W')
    ∙ go (M x.variable && not (H x.variable))
  where
    go : (b : Bool) → cond b (x ∷ (onward H M W ++ onward H M W')) (onward H M W ++ onward H M W')
        ≡ (cond b (x ∷ onward H M W) (onward H M W) ++ onward H M W')
    go true = refl
    go false = refl

late-both : (H M : Vars) (W W' : List Naming) → late H M (W ++ W') ≡ (late H M W ++ late H M W')
unfolding late
late-both H M [] W' = refl
late-both H M (x ∷ W) W' = ap (λ K. cond (M x.variable || H x.variable) K (x.place ∷ K)) (late-both H M W W')
    ∙ go (M x.variable || H x.variable)
  where
    go : (b : Bool) → cond b (late H M W ++ late H M W') (x.place ∷ (late H M W ++ late H M W'))
        ≡ (cond b (late H M W) (x.place ∷ late H M W) ++ late H M W')
    go true = refl
    go false = refl

lower-both : (l : Option ℕ) (K K' : List ℕ) → lower l (K ++ K') ≡ lower (lower l K) K'
unfolding lower
lower-both l [] K' = refl
lower-both l (k ∷ K) K' = lower-both (met l k) K K'

cons≢nil : {k : ℕ} {K : List ℕ} → k ∷ K ≡ [] → ⊥
cons≢nil p = let z : ◌≡◌ {A = ℕ} 0 1 = cc in omega arith

----------------------------------------------------------------
-- The lowest place

lower-told : (k : ℕ) (K : List ℕ) → told_by (lower (Some k) K) ≡ bad 8 (term (lowest k K))
unfolding lower met told_by lowest
lower-told k [] = refl
lower-told k (j ∷ K) = lower-told (cond (leb j k) j k) K

-- 8 at the lowest place, the let's own among them
pub told_is : (s : Bool) (t : ℕ) (K : List ℕ) → told_by (lower (cond s None (Some t)) K) ≡ need_none (unless s t ++ K)
unfolding need_none unless lower met told_by
told_is false t K = lower-told t K
told_is true t K = go K
  where
    go : (K : List ℕ) → told_by (lower None K) ≡ need_none K
    go [] = refl
    go (k ∷ K) = lower-told k K

-- one place more, as the code has it
pub met-least : (l k : ℕ) → Some (min l k) ≡ met (Some l) k
unfolding met
met-least l k = ap Some (by (dec_lt l k))
  where
    by : Dec (l < k) → min l k ≡ cond (leb k l) k l
    by (yes h) = min-eq_left (omega arith) ∙ sym (ap (λ b. cond b k l) (lt-leb k l h))
    by (no h) = min_comm l k ∙ min-eq_left (omega arith) ∙ sym (ap (λ b. cond b k l) (le-leb k l (omega arith)))

----------------------------------------------------------------
-- One naming

module _ (sc : Scope) where
  pub outside-marked : (v : ℕ) → sc.n ≤ v → false ≡ marked_in sc v
  outside-marked v l = sym (ap (λ b. leb sc.q v && (b && has sc.marks v)) (le-ltb v sc.n l) ∙ and-false (leb sc.q v))

  pub ancilla-marked : (v : ℕ) → v < sc.q → false ≡ marked_in sc v
  ancilla-marked v l = sym (rw (lt-leb sc.q v l))

  pub scope-marked : (v : ℕ) → v < sc.n → sc.q ≤ v → has sc.marks v ≡ marked_in sc v
  scope-marked v n h = sym (rw (le-leb sc.q v h, lt-ltb v sc.n n))

module _ (sc : Scope) (u : Uses) where
  abbrev H : Vars
  H = helps_in sc u

  abbrev M : Vars
  M = marked_in sc

  pub out-of-scope : (v : ℕ) → sc.n ≤ v → false ≡ H v
  out-of-scope v l = sym (ap (λ b. (leb sc.q v && (leb sc.lo v && b)) && has u v) (le-ltb v sc.n l)
      ∙ ap (λ b. (leb sc.q v && b) && has u v) (and-false (leb sc.lo v)) ∙ ap (λ b. b && has u v) (and-false (leb sc.q v)))

  pub ancilla_helped : (v : ℕ) → v < sc.q → false ≡ H v
  ancilla_helped v l = sym (rw (lt-leb sc.q v l))

  pub barred_helped : (v : ℕ) → sc.q ≤ v → v < sc.lo → false ≡ H v
  barred_helped v h l = sym (rw (le-leb sc.q v h, lt-leb sc.lo v l))

  pub dynamic_helped : (v : ℕ) → v < sc.n → sc.q ≤ v → sc.lo ≤ v → has u v ≡ H v
  dynamic_helped v n h l = sym (rw (le-leb sc.q v h, le-leb sc.lo v l, lt-ltb v sc.n n))

  module _ (vars : List ℕ) (j : ℕ) (l : Option ℕ) where
    abbrev x : Naming
    x = naming_in vars j

    one_of : (j + 1) - j ≡ 1
    one_of = omega arith

    -- the one naming is settled, and all else is as it was
    alone-settled : settled_one H x ≡ x → Settled H vars vars j (j + 1)
    alone-settled e = record {
      within = λ k a b. let z : k ≡ j = omega arith in ap (naming_in vars) z ∙ sym (ap (λ k. settled_one H (naming_in vars k)) z ∙ e);
      low = λ k a. refl;
      high = λ k a. refl;
      lengths = refl;
    }

    -- what is refused of it
    late_of : (b : Bool) → eqb x.variable no_variable ≡ b → late H M (namings vars j (j + 1 - j)) ≡ late H M (cond b [] (x ∷ []))
    unfolding namings
    late_of b e = ap (λ n. late H M (namings vars j n)) one_of ∙ ap (λ b. late H M (cond b [] (x ∷ []))) e

    pub one_dead : x.variable ≡ no_variable → Settles sc u vars vars j (j + 1) l l
    unfolding late lower
    one_dead e = record {
      settled = alone-settled (ap (λ (v : ℕ). record { variable = v; place = x.place }) (stays (H x.variable)));
      lowest = sym (ap (lower l) (late_of true (eq-eqb x.variable no_variable e)));
    }
      where
        stays : (b : Bool) → cond b no_variable x.variable ≡ x.variable
        stays true = sym e
        stays false = refl

    module _ (live : ¬ (x.variable ≡ no_variable)) where
      not_dead : eqb x.variable no_variable ≡ false
      not_dead = ne_eqb x.variable no_variable live

      pub one_helped : {vars' : List ℕ} → cell_at j + 2 ≤ length vars → H x.variable ≡ true → vars' ≡ put16 vars (cell_at j) no_variable
          → Settles sc u vars vars' j (j + 1) l l
      unfolding late lower
      one_helped {vars'} room h e = record {
        settled = record {
          within = λ k a b. let z : k ≡ j = omega arith in ap (naming_in vars') z ∙ now_none ∙ sym (ap (λ k. settled_one H (naming_in vars k)) z);
          low = λ k a. outside k (λ z. omega arith) (λ z. omega arith);
          high = λ k a. outside k (λ z. omega arith) (λ z. omega arith);
          lengths = sym (ap length e ∙ length-put16 vars (cell_at j) no_variable);
        };
        lowest = sym (ap (lower l) (late_of false not_dead ∙ ap (λ b. cond (M x.variable || b) [] (x.place ∷ [])) h
            ∙ ap (λ b. cond b [] (x.place ∷ [])) (or_true (M x.variable))));
      }
        where
          or_true : (b : Bool) → (b || true) ≡ true
          or_true true = refl
          or_true false = refl

          outside : (k : ℕ) → ¬ (k ≡ cell_at j) → ¬ (k ≡ cell_at j + 1) → get_or vars k 0 ≡ get_or vars' k 0
          outside k a b = sym (ap (λ v. get_or v k 0) e ∙ put16-other vars (cell_at j) no_variable k a b)

          now_none : naming_in vars' j ≡ settled_one H x
          now_none = ap₂ (λ (v p : ℕ). record { variable = v; place = p })
              (ap (λ v. get16 v (cell_at j)) e ∙ get16-put16 vars (cell_at j) no_variable room (omega arith)
              ∙ sym (ap (λ b. cond b no_variable x.variable) h))
              (sym (get16-at vars vars' (cell_at j + 2) (outside (cell_at j + 2) (λ z. omega arith) (λ z. omega arith))
              (outside (cell_at j + 2 + 1) (λ z. omega arith) (λ z. omega arith))))

      module _ (h : H x.variable ≡ false) where
        same-one : settled_one H x ≡ x
        same-one = ap (λ (b : Bool). record { variable = cond b no_variable x.variable; place = x.place }) h

        pub one-waits-on : M x.variable ≡ true → Settles sc u vars vars j (j + 1) l l
        unfolding late lower
        one-waits-on m = record {
          settled = alone-settled same-one;
          lowest = sym (ap (lower l) (late_of false not_dead ∙ ap (λ b. cond (b || H x.variable) [] (x.place ∷ [])) m));
        }

        pub one-refused : M x.variable ≡ false → {r : Option ℕ} → r ≡ met l x.place → Settles sc u vars vars j (j + 1) l r
        unfolding late lower
        one-refused m e = record {
          settled = alone-settled same-one;
          lowest = e ∙ sym (ap (lower l) (late_of false not_dead ∙ ap₂ (λ a b. cond (a || b) [] (x.place ∷ [])) m h));
        }

    -- the same as the code reads it: the variable `v`, at `at`
    module _ {v at : ℕ} (qv : v ≡ get16 vars at) (qa : at ≡ cell_at j) where
      is : v ≡ x.variable
      is = qv ∙ ap (get16 vars) qa

      pub read_dead : v ≡ no_variable → Settles sc u vars vars j (j + 1) l l
      read_dead e = one_dead (sym is ∙ e)

      module _ (live : ¬ (v ≡ no_variable)) {b : Bool} (h : b ≡ H v) where
        pub read_helped : {vars' : List ℕ} → at + 2 ≤ length vars → b ≡ true → vars' ≡ put16 vars at no_variable → Settles sc u vars vars' j (j + 1) l l
        read_helped room y e = one_helped (λ z. live (is ∙ z)) (omega arith) (ap H (sym is) ∙ sym h ∙ y) (e ∙ ap (λ at. put16 vars at no_variable) qa)

        module _ (y : b ≡ false) {m : Bool} (k : m ≡ M v) where
          pub read-waits : m ≡ true → Settles sc u vars vars j (j + 1) l l
          read-waits z = one-waits-on (λ z. live (is ∙ z)) (ap H (sym is) ∙ sym h ∙ y) (ap M (sym is) ∙ sym k ∙ z)

          pub read-refused : m ≡ false → {place : ℕ} {r : Option ℕ} → place ≡ get16 vars (at + 2) → r ≡ met l place → Settles sc u vars vars j (j + 1) l r
          read-refused z p e = one-refused (λ z. live (is ∙ z)) (ap H (sym is) ∙ sym h ∙ y) (ap M (sym is) ∙ sym k ∙ z)
              (e ∙ ap (met l) (p ∙ ap (λ at. get16 vars (at + 2)) qa))

----------------------------------------------------------------
-- One after another

module _ {sc : Scope} {u : Uses} where
  pub settles_none : {vars : List ℕ} {from : ℕ} {l : Option ℕ} → Settles sc u vars vars from from l l
  unfolding namings late lower
  settles_none {vars} {from} {l} = record {
    settled = record { within = λ j a b. absurd (omega arith); low = λ j a. refl; high = λ j a. refl; lengths = refl };
    lowest = sym (ap (λ n. lower l (late (helps_in sc u) (marked_in sc) (namings vars from n))) (let z : from - from ≡ 0 = omega arith in z));
  }

  pub settles_to : {vars vars' : List ℕ} {from j to : ℕ} {l r : Option ℕ} → j ≡ to → Settles sc u vars vars' from j l r → Settles sc u vars vars' from to l r
  settles_to {vars} {vars'} {from} {l = l} {r} e S = subst (λ j. Settles sc u vars vars' from j l r) e S

  -- what is settled, and one more
  pub settles-then : {vars vars₁ vars₂ : List ℕ} {from j : ℕ} {l m r : Option ℕ} → from ≤ j → Settles sc u vars vars₁ from j l m
      → Settles sc u vars₁ vars₂ j (j + 1) m r → Settles sc u vars vars₂ from (j + 1) l r
  unfolding namings
  settles-then {vars} {vars₁} {vars₂} {from} {j} {l} {m} {r} h S N = record {
    settled = record {
      within = λ k a b. go k a (dec_lt k j) b;
      low = λ k a. S.settled.low k a ∙ N.settled.low k (omega arith);
      high = λ k a. S.settled.high k (omega arith) ∙ N.settled.high k a;
      lengths = S.settled.lengths ∙ N.settled.lengths;
    };
    lowest = N.lowest ∙ ap₂ (λ m W. lower m (late H M W)) S.lowest
        (ap (namings vars₁ j) (let z : j + 1 - j ≡ 1 = omega arith in z) ∙ ap (λ x. cons_one x) (same-cell j (omega arith))
        ∙ sym (ap (namings vars j) (let z : j + 1 - j ≡ 1 = omega arith in z)))
        ∙ sym (lower-both l (late H M (namings vars from (j - from))) (late H M (namings vars j (j + 1 - j))))
        ∙ ap (lower l) (sym (late-both H M (namings vars from (j - from)) (namings vars j (j + 1 - j)))
        ∙ ap (late H M) (sym (whole)));
  }
    where
      H : Vars
      H = helps_in sc u

      M : Vars
      M = marked_in sc

      cons_one : Naming → List Naming
      cons_one x = cond (eqb x.variable no_variable) [] (x ∷ [])

      -- a naming that is not settled yet
      same-cell : (k : ℕ) → j ≤ k → naming_in vars₁ k ≡ naming_in vars k
      same-cell k a = sym (naming_same vars vars₁ k λ i b c. S.settled.high i (omega arith))

      whole : namings vars from (j + 1 - from) ≡ (namings vars from (j - from) ++ namings vars j (j + 1 - j))
      whole = ap (namings vars from) (let z : j + 1 - from ≡ (j - from) + (j + 1 - j) = omega arith in z)
          ∙ namings-both vars from (j - from) (j + 1 - j)
          ∙ ap (λ i. namings vars from (j - from) ++ namings vars i (j + 1 - j)) (let z : from + (j - from) ≡ j = omega arith in z)

      go : (k : ℕ) → from ≤ k → Dec (k < j) → k < j + 1 → naming_in vars₂ k ≡ settled_one H (naming_in vars k)
      go k a (yes c) b = sym (naming_same vars₁ vars₂ k λ i d e. N.settled.low i (omega arith)) ∙ S.settled.within k a c
      go k a (no c) b = N.settled.within k (omega arith) b ∙ ap (settled_one H) (same-cell k (omega arith))

-- one naming: a let helps it or not, and a let further out could or not
live_one : (x : Naming) (W W' : List Naming) (K : List ℕ) (h m : Bool) → eqb x.variable no_variable ≡ false → cond (m || h) K (x.place ∷ K) ≡ []
    → (K ≡ [] → W' ≡ W)
    → cond (eqb (cond h no_variable x.variable) no_variable) W' (record { variable = cond h no_variable x.variable; place = x.place } ∷ W')
    ≡ cond (m && not h) (x ∷ W) W
live_one x W W' K true true q e r = ap (λ b. cond b W' (record { variable = no_variable; place = x.place } ∷ W')) (eq-eqb no_variable no_variable refl) ∙ r e
live_one x W W' K true false q e r = ap (λ b. cond b W' (record { variable = no_variable; place = x.place } ∷ W')) (eq-eqb no_variable no_variable refl) ∙ r e
live_one x W W' K false true q e r = ap (λ b. cond b W' (x ∷ W')) q ∙ ap (λ N. x ∷ N) (r e)
live_one x W W' K false false q e r = absurd (cons≢nil e)

-- one that a let helped before stays as it is
dead_one : (x : Naming) (W W' : List Naming) (h : Bool) → eqb x.variable no_variable ≡ true → W' ≡ W
    → cond (eqb (cond h no_variable x.variable) no_variable) W' (record { variable = cond h no_variable x.variable; place = x.place } ∷ W') ≡ W
dead_one x W W' true q e = ap (λ b. cond b W' (record { variable = no_variable; place = x.place } ∷ W')) (eq-eqb no_variable no_variable refl) ∙ e
dead_one x W W' false q e = ap (λ b. cond b W' (x ∷ W')) q ∙ e

-- what goes on waiting, if nothing is refused
pub settled-onward : (H M : Vars) (vars vars' : List ℕ) (from n : ℕ)
    → ((j : ℕ) → from ≤ j → j < from + n → naming_in vars' j ≡ settled_one H (naming_in vars j))
    → late H M (namings vars from n) ≡ [] → namings vars' from n ≡ onward H M (namings vars from n)
unfolding namings late onward
settled-onward H M vars vars' from zero s e = refl
settled-onward H M vars vars' from (suc n) s e =
    ap (λ (x : Naming). cond (eqb x.variable no_variable) (namings vars' (suc from) n) (x ∷ namings vars' (suc from) n)) (s from (omega arith) (omega arith))
    ∙ go (naming_in vars from) (eqb (naming_in vars from).variable no_variable) refl e
    (λ e. settled-onward H M vars vars' (suc from) n (λ j a b. s j (omega arith) (omega arith)) e)
  where
    go : (x : Naming) (b : Bool) → eqb x.variable no_variable ≡ b → late H M (cond b (namings vars (suc from) n) (x ∷ namings vars (suc from) n)) ≡ []
        → (late H M (namings vars (suc from) n) ≡ [] → namings vars' (suc from) n ≡ onward H M (namings vars (suc from) n))
        → cond (eqb (settled_one H x).variable no_variable) (namings vars' (suc from) n) (settled_one H x ∷ namings vars' (suc from) n)
        ≡ onward H M (cond b (namings vars (suc from) n) (x ∷ namings vars (suc from) n))
    go x true q e r = dead_one x _ _ (H x.variable) q (r e)
    go x false q e r = live_one x _ _ _ (H x.variable) (M x.variable) q e r
