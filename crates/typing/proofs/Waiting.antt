-- Laws of namings that wait, in lent bytes: bytes that agree hold the same, one after another, and one more.
use Prim.Native.Nat.{ℕ, zero, suc, ◌+◌, ◌*◌, ◌-◌, ◌≤◌, ◌<◌}
use native.Mathlib.Omega.{arith}
use mathlib.Core.Path.{◌≡◌, refl, sym, ap, ap₂, subst, ◌∙◌}
use mathlib.Core.Bool.{Bool, true, false, cond}
use mathlib.Core.List.{List, [], ◌∷◌, ◌++◌}
use lib.ListN.{length, get_or, replicate}
use lib.Dec.{eqb}
use borrow.Author.Tests.{ne_eqb}
use package.Rattle.octets.specs.Numbers.{get16, put16}
use package.Rattle.octets.proofs.Puts.{length-put16, put16-other, get16-put16}
use package.Rattle.rules.specs.Limits.{max_terms}
use package.Rattle.rules.specs.Check.{Naming}
use package.Rattle.program.proofs.Rows.{zeros-at}
use package.Rattle.typing.specs.Waiting.{scope_bytes, count_at, cell_at, count_in, no_variable, naming_in, namings, added, Waited, Waits}

----------------------------------------------------------------
-- Bytes that agree

pub get16-at : (xs ys : List ℕ) (i : ℕ) → get_or xs i 0 ≡ get_or ys i 0 → get_or xs (i + 1) 0 ≡ get_or ys (i + 1) 0 → get16 xs i ≡ get16 ys i
unfolding get16
get16-at xs ys i a b = ap₂ (λ x y. x * 256 + y) a b

-- a naming whose bytes agree
pub naming_same : (vars vars' : List ℕ) (j : ℕ) → ((k : ℕ) → cell_at j ≤ k → k < cell_at (suc j) → get_or vars k 0 ≡ get_or vars' k 0)
    → naming_in vars j ≡ naming_in vars' j
naming_same vars vars' j s = ap₂ (λ (v k : ℕ). record { variable = v; place = k })
    (get16-at vars vars' (cell_at j) (s (cell_at j) (omega arith) (omega arith)) (s (cell_at j + 1) (omega arith) (omega arith)))
    (get16-at vars vars' (cell_at j + 2) (s (cell_at j + 2) (omega arith) (omega arith)) (s (cell_at j + 2 + 1) (omega arith) (omega arith)))

-- one naming, and those behind it
abbrev cons_naming : Naming → List Naming → List Naming
cons_naming x W = cond (eqb x.variable no_variable) W (x ∷ W)

pub namings-same : (vars vars' : List ℕ) (j n : ℕ) → ((k : ℕ) → j ≤ k → k < j + n → naming_in vars k ≡ naming_in vars' k)
    → namings vars j n ≡ namings vars' j n
unfolding namings
namings-same vars vars' j zero s = refl
namings-same vars vars' j (suc n) s = ap₂ cons_naming (s j (omega arith) (omega arith))
    (namings-same vars vars' (suc j) n λ k a b. s k (omega arith) (omega arith))

pub bytes_same : (vars vars' : List ℕ) (j n : ℕ) → ((k : ℕ) → cell_at j ≤ k → k < cell_at (j + n) → get_or vars k 0 ≡ get_or vars' k 0)
    → namings vars j n ≡ namings vars' j n
bytes_same vars vars' j n s = namings-same vars vars' j n λ i a b. naming_same vars vars' i λ k c d. s k (omega arith) (omega arith)

-- one stretch, then the next
pub namings-both : (vars : List ℕ) (j n m : ℕ) → namings vars j (n + m) ≡ (namings vars j n ++ namings vars (j + n) m)
unfolding namings
namings-both vars j zero m = ap₂ (λ i k. namings vars i k) (let z : j ≡ j + 0 = omega arith in z) (let z : 0 + m ≡ m = omega arith in z)
namings-both vars j (suc n) m =
    ap (namings vars j) (let z : suc n + m ≡ suc (n + m) = omega arith in z)
    ∙ ap (cons_naming (naming_in vars j))
    (namings-both vars (suc j) n m ∙ ap (λ i. namings vars (suc j) n ++ namings vars i m) (let z : suc j + n ≡ j + suc n = omega arith in z))
    ∙ go (eqb (naming_in vars j).variable no_variable)
  where
    go : (b : Bool) → cond b (namings vars (suc j) n ++ namings vars (j + suc n) m) (naming_in vars j ∷ (namings vars (suc j) n ++ namings vars (j + suc n) m))
        ≡ (cond b (namings vars (suc j) n) (naming_in vars j ∷ namings vars (suc j) n) ++ namings vars (j + suc n) m)
    go true = refl
    go false = refl

-- from `a` to `b`, then to `c`
pub namings-then : (vars : List ℕ) {a b c : ℕ} → a ≤ b → b ≤ c → namings vars a (c - a) ≡ (namings vars a (b - a) ++ namings vars b (c - b))
namings-then vars {a} {b} {c} l h =
    ap (namings vars a) (let z : c - a ≡ (b - a) + (c - b) = omega arith in z) ∙ namings-both vars a (b - a) (c - b)
    ∙ ap (λ i. namings vars a (b - a) ++ namings vars i (c - b)) (let z : a + (b - a) ≡ b = omega arith in z)

-- in bytes that are zero none waits
pub none_wait : (n : ℕ) → count_in (replicate n 0) ≡ 0
unfolding get16
none_wait n = ap₂ (λ a b. a * 256 + b) (zeros-at n count_at) (zeros-at n (count_at + 1))

----------------------------------------------------------------
-- What came to wait

pub waited_none : (size : ℕ) (vars : List ℕ) → Waited size vars vars
waited_none size vars = record { grows = omega arith; few = omega arith; older = λ j a b. refl }

pub added_none : (vars : List ℕ) → added vars vars ≡ []
unfolding namings
added_none vars = ap (namings vars (count_in vars)) (let z : count_in vars - count_in vars ≡ 0 = omega arith in z)

module _ {a b : ℕ} {vars vars₁ vars₂ : List ℕ} (K : Waited a vars vars₁) (L : Waited b vars₁ vars₂) where
  pub waited-then : (size : ℕ) → a + b ≤ size → Waited size vars vars₂
  waited-then size s = record {
    grows = omega (arith, K.grows, L.grows);
    few = omega (arith, K.few, L.few);
    older = λ j c d. K.older j c d ∙ L.older j c (omega (arith, K.grows));
  }

  -- those of the first part are as they were
  pub first_part : namings vars₂ (count_in vars) (count_in vars₁ - count_in vars) ≡ added vars vars₁
  first_part = sym (bytes_same vars₁ vars₂ (count_in vars) (count_in vars₁ - count_in vars) λ k c d. L.older k (omega arith) (omega (arith, K.grows)))

  pub added_then : {W W' : List Naming} → added vars vars₁ ≡ W → added vars₁ vars₂ ≡ W' → added vars vars₂ ≡ (W ++ W')
  added_then e e' = namings-then vars₂ K.grows L.grows ∙ ap₂ ◌++◌ (first_part ∙ e) e'

-- what came to wait before is as it was where nothing more did
pub added-after : {a : ℕ} {vars vars₁ vars₂ : List ℕ} {W : List Naming} → Waited a vars vars₁ → Waited 0 vars₁ vars₂ → added vars vars₁ ≡ W
    → added vars vars₂ ≡ W
added-after {vars = vars} {vars₁} {vars₂} K L e =
    ap (λ n. namings vars₂ (count_in vars) (n - count_in vars)) (let z : count_in vars₂ ≡ count_in vars₁ = omega (arith, L.grows, L.few) in z)
    ∙ first_part K L ∙ e

pub waited-more : {a : ℕ} (size : ℕ) {vars vars' : List ℕ} → Waited a vars vars' → a ≤ size → Waited size vars vars'
waited-more size K l = record { grows = K.grows; few = omega (arith, K.few); older = K.older }

-- nothing came to wait where the count is the same
pub added-still : {vars vars' : List ℕ} → Waited 0 vars vars' → added vars vars' ≡ []
unfolding namings
added-still {vars} {vars'} K = ap (namings vars' (count_in vars)) (let z : count_in vars' - count_in vars ≡ 0 = omega (arith, K.few) in z)

-- bytes below the namings and the count are all that changed
pub waited-below : {vars vars' : List ℕ} → ((j : ℕ) → count_at ≤ j → get_or vars j 0 ≡ get_or vars' j 0) → Waited 0 vars vars'
waited-below {vars} {vars'} s =
    let e : count_in vars ≡ count_in vars' = get16-at vars vars' count_at (s count_at (omega arith)) (s (count_at + 1) (omega arith)) in
    record { grows = omega (arith, e); few = omega (arith, e); older = λ j a b. s j (omega arith) }

----------------------------------------------------------------
-- One more

module _ (vars : List ℕ) (i t : ℕ) (slots : scope_bytes ≤ length vars) (room : count_in vars < max_terms) (small : i < 256) (place : t < 65536) where
  abbrev n : ℕ
  n = count_in vars

  abbrev one : List ℕ
  one = put16 vars (cell_at n) i

  abbrev two : List ℕ
  two = put16 one (cell_at n + 2) t

  abbrev three : List ℕ
  three = put16 two count_at (n + 1)

  counted : count_in three ≡ n + 1
  counted = get16-put16 two count_at (n + 1) (simp length-put16 (omega arith)) (omega arith)

  -- a byte that is not the count's
  past-count : (j : ℕ) → ¬ (j ≡ count_at) → ¬ (j ≡ count_at + 1) → get_or three j 0 ≡ get_or two j 0
  past-count j a b = put16-other two count_at (n + 1) j a b

  the_variable : get16 three (cell_at n) ≡ i
  the_variable =
      get16-at three two (cell_at n) (past-count (cell_at n) (λ e. omega arith) (λ e. omega arith))
      (past-count (cell_at n + 1) (λ e. omega arith) (λ e. omega arith))
      ∙ get16-at two one (cell_at n) (put16-other one (cell_at n + 2) t (cell_at n) (λ e. omega arith) (λ e. omega arith))
      (put16-other one (cell_at n + 2) t (cell_at n + 1) (λ e. omega arith) (λ e. omega arith))
      ∙ get16-put16 vars (cell_at n) i (omega arith) (omega arith)

  the_place : get16 three (cell_at n + 2) ≡ t
  the_place =
      get16-at three two (cell_at n + 2) (past-count (cell_at n + 2) (λ e. omega arith) (λ e. omega arith))
      (past-count (cell_at n + 2 + 1) (λ e. omega arith) (λ e. omega arith))
      ∙ get16-put16 one (cell_at n + 2) t (simp length-put16 (omega arith)) place

  untouched : (j : ℕ) → ¬ (j ≡ count_at) → ¬ (j ≡ count_at + 1) → j < cell_at n → get_or vars j 0 ≡ get_or three j 0
  untouched j a b l = sym (past-count j a b
      ∙ put16-other one (cell_at n + 2) t j (λ e. omega arith) (λ e. omega arith)
      ∙ put16-other vars (cell_at n) i j (λ e. omega arith) (λ e. omega arith))

  pub one-waits : Waits vars three i t
  unfolding namings
  one-waits = record {
    waited = record { grows = omega (arith, counted); few = omega (arith, counted); older = λ j a b. untouched j (λ e. omega arith) (λ e. omega arith) b };
    new = ap (namings three n) (let z : count_in three - n ≡ 1 = omega (arith, counted) in z)
        ∙ ap (λ b. cond b [] (naming_in three n ∷ [])) (ap (λ v. eqb v no_variable) the_variable ∙ ne_eqb i no_variable (λ e. omega arith))
        ∙ ap₂ (λ (v k : ℕ). record { variable = v; place = k } ∷ []) the_variable the_place;
    below = λ j l. untouched j (λ e. omega arith) (λ e. omega arith) (omega arith);
    lengths = sym (length-put16 two count_at (n + 1) ∙ length-put16 one (cell_at n + 2) t ∙ length-put16 vars (cell_at n) i);
  }

  -- as the code puts it
  pub put-waits : {k at w : ℕ} {v₁ v₂ v₃ : List ℕ} → k ≡ n → at ≡ cell_at k → w ≡ i → v₁ ≡ put16 vars at w → v₂ ≡ put16 v₁ (at + 2) t
      → v₃ ≡ put16 v₂ count_at (k + 1) → Waits vars v₃ i t
  put-waits a b c d e f = subst (λ v. Waits vars v i t) (sym (f
      ∙ ap₂ (λ v k. put16 v count_at (k + 1)) (e ∙ ap₂ (λ v at. put16 v (at + 2) t) (d ∙ ap₂ (put16 vars) (b ∙ ap cell_at a) c) (b
      ∙ ap cell_at a)) a)) one-waits
