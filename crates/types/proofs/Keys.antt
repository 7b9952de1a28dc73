-- Keys and figures of one entry, from those of the lower ones: two entries have one key exactly if they are equal as trees; the figures are those
-- of the tree.
use Prim.Native.Nat.{ℕ, suc, ◌+◌, ◌*◌, ◌<◌, ◌≤◌, pred, min, max}
use native.Mathlib.Omega.{arith}
use mathlib.Core.Path.{◌≡◌, refl, sym, ap, ap₂, ◌∙◌}
use mathlib.Core.Bool.{Bool, true, false, ◌&&◌, cond, false≢true}
use mathlib.Core.List.{List}
use lib.Dec.{eqb, ltb}
use borrow.Author.Tests.{eq-eqb, ne_eqb, eqb-true}
use package.Rattle.rules.specs.Limits.{max_types}
use package.Rattle.rules.specs.Ty.{Ty, same_ty}
use package.Rattle.rules.proofs.Basics.{given, and_both}
use package.Rattle.rules.proofs.Typing.Tests.{same_ty_refl, same_ty_eq}
use package.Rattle.calls.specs.Entries.{TypeEntry, y_unit, y_prod, y_sum, y_mu, y_var, type_tree, type_of}
use package.Rattle.calls.specs.Named.{below, types_of_type}
use package.Rattle.calls.specs.Figures.{ceiling, free}
use package.Rattle.calls.proofs.Entries.{below-head}
use package.Rattle.types.specs.Figures.{occurs, outer, number_at, free_at, Figured}
use package.Rattle.types.specs.Numbering.{packed, share, figure_of}
use package.Rattle.types.proofs.Closing.{outer-part, outer-under, outer-variable}

----------------------------------------------------------------
-- Numbers in one

-- a test that tells whether two numbers are the same
told_same : (x y : ℕ) (b : Bool) → (b ≡ true → x ≡ y) → (x ≡ y → b ≡ true) → eqb x y ≡ b
told_same x y true f g = eq-eqb x y (f refl)
told_same x y false f g = ne_eqb x y λ e. false≢true (g e)

module _ (k a b a' b' : ℕ) where
  packed-two : b < 256 → b' < 256 → eqb (packed k a b) (packed k a' b') ≡ (eqb a a' && eqb b b')
  packed-two h h' = told_same _ _ (eqb a a' && eqb b b')
      (λ e. given (and_both (eqb a a') (eqb b b') e) λ (p, q). ap₂ (packed k) (eqb-true a a' p) (eqb-true b b' q))
      (λ e. ap₂ ◌&&◌ (eq-eqb a a' (let same : a ≡ a' = omega arith in same)) (eq-eqb b b' (let same : b ≡ b' = omega arith in same)))

packed-one : (k a a' : ℕ) → eqb (packed k a 0) (packed k a' 0) ≡ eqb a a'
packed-one k a a' = told_same _ _ (eqb a a') (λ e. ap (λ a. packed k a 0) (eqb-true a a' e)) (λ e. eq-eqb a a' (let same : a ≡ a' = omega arith in same))

----------------------------------------------------------------
-- Keys

kind_of : TypeEntry → ℕ
kind_of y_unit = 0
kind_of (y_prod a b) = 1
kind_of (y_sum a b) = 2
kind_of (y_mu a) = 3
kind_of (y_var k) = 4

module _ {ys : List TypeEntry} {heap : List ℕ} {n : ℕ} (F : Figured ys heap n) (few : n ≤ max_types) where
  small : (i : ℕ) → i < n → number_at heap i < 256
  small i l = omega (arith, F.number_lower i l)

  -- two entries have one number exactly if they are equal as trees
  pub numbers_same : (i j : ℕ) → i < n → j < n → eqb (number_at heap i) (number_at heap j) ≡ same_ty (type_of ys i) (type_of ys j)
  numbers_same i j l m = told_same _ _ (same_ty (type_of ys i) (type_of ys j))
      (λ e. F.number_one i j l m (same_ty_eq _ _ e))
      (λ e. ap (λ t. same_ty t (type_of ys j)) (sym (F.number_tree i l) ∙ ap (type_of ys) e ∙ F.number_tree j m) ∙ same_ty_refl (type_of ys j))

  abbrev key : TypeEntry → ℕ
  key y = (figure_of heap y).key

  -- a key tells the kind
  low : (y : TypeEntry) → below n (types_of_type y) ≡ true → 65536 * kind_of y ≤ key y
  unfolding kind_of figure_of
  low y_unit l = omega arith
  low (y_prod a b) l = omega arith
  low (y_sum a b) l = omega arith
  low (y_mu a) l = omega arith
  low (y_var k) l = omega arith

  high : (y : TypeEntry) → below n (types_of_type y) ≡ true → kind_of y < 4 → key y < 65536 * suc (kind_of y)
  unfolding kind_of figure_of types_of_type
  high y_unit l h = omega arith
  high (y_prod a b) l h = given (below-head n a _ l) λ (i, l₁). given (below-head n b _ l₁) λ (j, l₂). omega (arith, small a i, small b j)
  high (y_sum a b) l h = given (below-head n a _ l) λ (i, l₁). given (below-head n b _ l₁) λ (j, l₂). omega (arith, small a i, small b j)
  high (y_mu a) l h = given (below-head n a _ l) λ (i, l₁). omega (arith, small a i)
  high (y_var k) l h = absurd (omega arith)

  module _ (y y' : TypeEntry) (l : below n (types_of_type y) ≡ true) (l' : below n (types_of_type y') ≡ true) where
    lower-kind : kind_of y < kind_of y' → kind_of y < 4 → eqb (key y) (key y') ≡ false
    lower-kind h s = ne_eqb (key y) (key y') λ e. absurd (omega (arith, e, high y l s, low y' l'))

    higher-kind : kind_of y' < kind_of y → kind_of y' < 4 → eqb (key y) (key y') ≡ false
    higher-kind h s = ne_eqb (key y) (key y') λ e. absurd (omega (arith, e, high y' l' s, low y l))

  abbrev T : TypeEntry → Ty
  T = type_tree (type_of ys)

  -- parts of products and sums
  parts_same : (k a b a' b' : ℕ) → a < n → b < n → a' < n → b' < n
      → eqb (packed k (number_at heap a) (number_at heap b)) (packed k (number_at heap a') (number_at heap b'))
      ≡ (same_ty (type_of ys a) (type_of ys a') && same_ty (type_of ys b) (type_of ys b'))
  parts_same k a b a' b' i j i' j' =
      packed-two k (number_at heap a) (number_at heap b) (number_at heap a') (number_at heap b') (small b j) (small b' j')
      ∙ ap₂ ◌&&◌ (numbers_same a a' i i') (numbers_same b b' j j')

  pub key-same : (y y' : TypeEntry) → below n (types_of_type y) ≡ true → below n (types_of_type y') ≡ true → eqb (key y) (key y') ≡ same_ty (T y) (T y')
  unfolding kind_of figure_of types_of_type type_tree same_ty
  key-same y_unit y_unit l l' = refl
  key-same (y_prod a b) (y_prod a' b') l l' = given (below-head n a _ l) λ (i, l₁). given (below-head n b _ l₁) λ (j, l₂).
      given (below-head n a' _ l') λ (i', m₁). given (below-head n b' _ m₁) λ (j', m₂). parts_same 1 a b a' b' i j i' j'
  key-same (y_sum a b) (y_sum a' b') l l' = given (below-head n a _ l) λ (i, l₁). given (below-head n b _ l₁) λ (j, l₂).
      given (below-head n a' _ l') λ (i', m₁). given (below-head n b' _ m₁) λ (j', m₂). parts_same 2 a b a' b' i j i' j'
  key-same (y_mu a) (y_mu a') l l' = given (below-head n a _ l) λ (i, l₁). given (below-head n a' _ l') λ (i', m₁).
      packed-one 3 (number_at heap a) (number_at heap a') ∙ numbers_same a a' i i'
  key-same (y_var k) (y_var k') l l' = packed-one 4 k k'
  key-same y_unit (y_prod a b) l l' = lower-kind y_unit (y_prod a b) l l' (omega arith) (omega arith)
  key-same y_unit (y_sum a b) l l' = lower-kind y_unit (y_sum a b) l l' (omega arith) (omega arith)
  key-same y_unit (y_mu a) l l' = lower-kind y_unit (y_mu a) l l' (omega arith) (omega arith)
  key-same y_unit (y_var k) l l' = lower-kind y_unit (y_var k) l l' (omega arith) (omega arith)
  key-same (y_prod a b) (y_sum c d) l l' = lower-kind (y_prod a b) (y_sum c d) l l' (omega arith) (omega arith)
  key-same (y_prod a b) (y_mu c) l l' = lower-kind (y_prod a b) (y_mu c) l l' (omega arith) (omega arith)
  key-same (y_prod a b) (y_var k) l l' = lower-kind (y_prod a b) (y_var k) l l' (omega arith) (omega arith)
  key-same (y_sum a b) (y_mu c) l l' = lower-kind (y_sum a b) (y_mu c) l l' (omega arith) (omega arith)
  key-same (y_sum a b) (y_var k) l l' = lower-kind (y_sum a b) (y_var k) l l' (omega arith) (omega arith)
  key-same (y_mu a) (y_var k) l l' = lower-kind (y_mu a) (y_var k) l l' (omega arith) (omega arith)
  key-same (y_prod a b) y_unit l l' = higher-kind (y_prod a b) y_unit l l' (omega arith) (omega arith)
  key-same (y_sum a b) y_unit l l' = higher-kind (y_sum a b) y_unit l l' (omega arith) (omega arith)
  key-same (y_mu a) y_unit l l' = higher-kind (y_mu a) y_unit l l' (omega arith) (omega arith)
  key-same (y_var k) y_unit l l' = higher-kind (y_var k) y_unit l l' (omega arith) (omega arith)
  key-same (y_sum a b) (y_prod c d) l l' = higher-kind (y_sum a b) (y_prod c d) l l' (omega arith) (omega arith)
  key-same (y_mu a) (y_prod c d) l l' = higher-kind (y_mu a) (y_prod c d) l l' (omega arith) (omega arith)
  key-same (y_var k) (y_prod c d) l l' = higher-kind (y_var k) (y_prod c d) l l' (omega arith) (omega arith)
  key-same (y_mu a) (y_sum c d) l l' = higher-kind (y_mu a) (y_sum c d) l l' (omega arith) (omega arith)
  key-same (y_var k) (y_sum c d) l l' = higher-kind (y_var k) (y_sum c d) l l' (omega arith) (omega arith)
  key-same (y_var k) (y_mu c) l l' = higher-kind (y_var k) (y_mu c) l l' (omega arith) (omega arith)

  ----------------------------------------------------------------
  -- Figures

  pub figure_free : (y : TypeEntry) → below n (types_of_type y) ≡ true → (figure_of heap y).free ≡ free (T y)
  unfolding figure_of types_of_type type_tree free
  figure_free y_unit l = refl
  figure_free (y_prod a b) l = given (below-head n a _ l) λ (i, l₁). given (below-head n b _ l₁) λ (j, l₂). ap₂ max (F.free_is a i) (F.free_is b j)
  figure_free (y_sum a b) l = given (below-head n a _ l) λ (i, l₁). given (below-head n b _ l₁) λ (j, l₂). ap₂ max (F.free_is a i) (F.free_is b j)
  figure_free (y_mu a) l = given (below-head n a _ l) λ (i, l₁). ap pred (F.free_is a i)
  figure_free (y_var k) l = refl

  -- a part's share of the whole, of whose variables `f` are free
  share_is : (a f : ℕ) → a < n → free (type_of ys a) ≤ f → share heap f a ≡ min ceiling (occurs (pred f) (type_of ys a))
  share_is a f i h =
      ap₂ (λ g k. cond (eqb g f) k 0) (F.free_is a i) (F.outer_is a i)
      ∙ either (eqb (free (type_of ys a)) f) ∙ ap (min ceiling) (sym (outer-part (type_of ys a) f h))
    where
      either : (b : Bool) → cond b (min ceiling (outer (type_of ys a))) 0 ≡ min ceiling (cond b (outer (type_of ys a)) 0)
      either true = refl
      either false = omega arith

  shares : (a b f : ℕ) → a < n → b < n → f ≡ max (free (type_of ys a)) (free (type_of ys b))
      → min ceiling (share heap f a + share heap f b) ≡ min ceiling (occurs (pred f) (type_of ys a) + occurs (pred f) (type_of ys b))
  shares a b f i j e = omega (arith, share_is a f i (omega arith), share_is b f j (omega arith))

  both-free : (a b : ℕ) → a < n → b < n → max (free_at heap a) (free_at heap b) ≡ max (free (type_of ys a)) (free (type_of ys b))
  both-free a b i j = ap₂ max (F.free_is a i) (F.free_is b j)

  two-outer : (a b : ℕ) → a < n → b < n
      → min ceiling (share heap (max (free_at heap a) (free_at heap b)) a + share heap (max (free_at heap a) (free_at heap b)) b)
      ≡ min ceiling (occurs (pred (max (free (type_of ys a)) (free (type_of ys b)))) (type_of ys a)
      + occurs (pred (max (free (type_of ys a)) (free (type_of ys b)))) (type_of ys b))
  two-outer a b i j =
      shares a b _ i j (both-free a b i j)
      ∙ ap (λ f. min ceiling (occurs (pred f) (type_of ys a) + occurs (pred f) (type_of ys b))) (both-free a b i j)

  one_place : 1 ≡ min ceiling 1
  unfolding ceiling
  one_place = refl

  pub figure_outer : (y : TypeEntry) → below n (types_of_type y) ≡ true → (figure_of heap y).outer ≡ min ceiling (outer (T y))
  unfolding figure_of types_of_type type_tree outer occurs free
  figure_outer y_unit l = omega arith
  figure_outer (y_prod a b) l = given (below-head n a _ l) λ (i, l₁). given (below-head n b _ l₁) λ (j, l₂). two-outer a b i j
  figure_outer (y_sum a b) l = given (below-head n a _ l) λ (i, l₁). given (below-head n b _ l₁) λ (j, l₂). two-outer a b i j
  figure_outer (y_mu a) l = given (below-head n a _ l) λ (i, l₁).
      ap₂ (λ f k. cond (ltb f 2) 0 k) (F.free_is a i) (F.outer_is a i) ∙ either (ltb (free (type_of ys a)) 2) (outer (type_of ys a))
      ∙ ap (min ceiling) (sym (outer-under (type_of ys a)))
    where
      either : (b : Bool) (k : ℕ) → cond b 0 (min ceiling k) ≡ min ceiling (cond b 0 k)
      either true k = omega arith
      either false k = refl
  figure_outer (y_var k) l = one_place ∙ ap (min ceiling) (sym (outer-variable k))
