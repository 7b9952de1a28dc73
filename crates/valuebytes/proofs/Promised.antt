-- What a type's field and a value's first byte say of the value's parts, case by case as the code finds them.
use Prim.Native.Nat.{ℕ, zero, suc, ◌<◌}
use native.Mathlib.Omega.{arith}
use mathlib.Core.Path.{◌≡◌, refl, sym, ap, ap₂, ◌∙◌}
use mathlib.Core.Bool.{Bool, true, false, cond}
use mathlib.Core.List.{List}
use lib.Dec.{eqb}
use borrow.Author.Tests.{eq-eqb, ne_eqb}
use package.Rattle.rules.proofs.Basics.{given, eqb-sound}
use package.Rattle.calls.specs.Fields.{kind_at}
use package.Rattle.calls.specs.Entries.{TypeEntry, y_unit, y_prod, y_sum, y_mu, y_var, type_at}
use package.Rattle.program.specs.Parts.{first, second}
use package.Rattle.program.proofs.Shapes.{type-unit, type-prod, type-sum, type-mu, type-var}
use package.Rattle.program.specs.Kinds.{unit_type_kind, product_kind, sum_kind, recursive_kind}
use Rattle.std.specs.Prelude.{Option as Found, Some, None}
use package.Rattle.valuebytes.specs.declared.table.Parts.{Parts}
use package.Rattle.valuebytes.specs.declared.table.Parts.TheVariants as parts
use package.Rattle.program.specs.declared.kinds.TypeKind.{TypeKind}
use package.Rattle.program.specs.declared.kinds.TypeKind.TheVariants as T
use package.Rattle.program.specs.KindNumbers.{type_kind_number}
use package.Rattle.valuebytes.specs.declared.kinds.ValueKind.{ValueKind}
use package.Rattle.valuebytes.specs.declared.kinds.ValueKind.TheVariants as V
use package.Rattle.valuebytes.specs.ValueKinds.{value_kind_number}
use package.Rattle.valuebytes.specs.Stack.{parts_of}
use package.Rattle.valuebytes.proofs.ByteKinds.{kind_same}

module _ (xs : List ℕ) (at b : ℕ) where
  unit_yes : kind_at xs at ≡ unit_type_kind → b ≡ 0 → Some parts.Nothing ≡ parts_of b (type_at xs at)
  unfolding parts_of
  unit_yes k e = sym (ap (parts_of b) (type-unit xs at k) ∙ ap (λ x. cond x (Some parts.Nothing) None) (eq-eqb b 0 e))

  unit-no : kind_at xs at ≡ unit_type_kind → (b ≡ 0 → ⊥) → None ≡ parts_of b (type_at xs at)
  unfolding parts_of
  unit-no k e = sym (ap (parts_of b) (type-unit xs at k) ∙ ap (λ x. cond x (Some parts.Nothing) None) (ne_eqb b 0 e))

  pair_yes : {i j : ℕ} → kind_at xs at ≡ product_kind → b ≡ 3 → i ≡ first xs at → j ≡ second xs at → Some (parts.Two i j) ≡ parts_of b (type_at xs at)
  unfolding parts_of
  pair_yes k e p q = ap₂ (λ i j. Some (parts.Two i j)) p q ∙ sym (ap (parts_of b) (type-prod xs at k) ∙ ap (λ x. cond x (Some (parts.Two (first xs at) (second xs at))) None) (eq-eqb b 3 e))

  pair-no : kind_at xs at ≡ product_kind → (b ≡ 3 → ⊥) → None ≡ parts_of b (type_at xs at)
  unfolding parts_of
  pair-no k e = sym (ap (parts_of b) (type-prod xs at k) ∙ ap (λ x. cond x (Some (parts.Two (first xs at) (second xs at))) None) (ne_eqb b 3 e))

  -- a sum, by the tests of both tags
  sum_by : kind_at xs at ≡ sum_kind → (x y : Bool) → eqb b 1 ≡ x → eqb b 2 ≡ y
      → parts_of b (type_at xs at) ≡ cond x (Some (parts.One (first xs at))) (cond y (Some (parts.One (second xs at))) None)
  unfolding parts_of
  sum_by k x y e f = ap (parts_of b) (type-sum xs at k) ∙ ap₂ (λ x y. cond x (Some (parts.One (first xs at))) (cond y (Some (parts.One (second xs at))) None)) e f

  left_yes : {i : ℕ} → kind_at xs at ≡ sum_kind → b ≡ 1 → i ≡ first xs at → Some (parts.One i) ≡ parts_of b (type_at xs at)
  left_yes k e p = ap (λ i. Some (parts.One i)) p ∙ sym (sum_by k true (eqb b 2) (eq-eqb b 1 e) refl)

  right_yes : {i : ℕ} → kind_at xs at ≡ sum_kind → b ≡ 2 → i ≡ second xs at → Some (parts.One i) ≡ parts_of b (type_at xs at)
  right_yes k e p = ap (λ i. Some (parts.One i)) p ∙ sym (sum_by k false true (ne_eqb b 1 (λ q. omega arith)) (eq-eqb b 2 e))

  sum-no : kind_at xs at ≡ sum_kind → (b ≡ 1 → ⊥) → (b ≡ 2 → ⊥) → None ≡ parts_of b (type_at xs at)
  sum-no k e f = sym (sum_by k false false (ne_eqb b 1 e) (ne_eqb b 2 f))

  roll_yes : {i : ℕ} → kind_at xs at ≡ recursive_kind → b ≡ 4 → i ≡ first xs at → Some (parts.Body i) ≡ parts_of b (type_at xs at)
  unfolding parts_of
  roll_yes k e p = ap (λ i. Some (parts.Body i)) p ∙ sym (ap (parts_of b) (type-mu xs at k) ∙ ap (λ x. cond x (Some (parts.Body (first xs at))) None) (eq-eqb b 4 e))

  roll-no : kind_at xs at ≡ recursive_kind → (b ≡ 4 → ⊥) → None ≡ parts_of b (type_at xs at)
  unfolding parts_of
  roll-no k e = sym (ap (parts_of b) (type-mu xs at k) ∙ ap (λ x. cond x (Some (parts.Body (first xs at))) None) (ne_eqb b 4 e))

----------------------------------------------------------------
-- By the kinds of the type and of the value, as the code has them

is : (xs : List ℕ) (at : ℕ) {t u : TypeKind} → type_kind_number t ≡ kind_at xs at → t ≡ u → kind_at xs at ≡ type_kind_number u
is xs at k p = sym k ∙ ap type_kind_number p

begins : {b : ℕ} {v u : ValueKind} → value_kind_number v ≡ b → v ≡ u → b ≡ value_kind_number u
begins e q = sym e ∙ ap value_kind_number q

begins-not : {b : ℕ} {v u : ValueKind} → value_kind_number v ≡ b → (v ≡ u → ⊥) → b ≡ value_kind_number u → ⊥
begins-not {b} {v} {u} e q z = q (kind_same v u (e ∙ z))

module _ (xs : List ℕ) (at b : ℕ) (t : TypeKind) (v : ValueKind) (k : type_kind_number t ≡ kind_at xs at) (e : value_kind_number v ≡ b) where
  pub of_unit : t ≡ T.Unit → v ≡ V.Unit → Some parts.Nothing ≡ parts_of b (type_at xs at)
  of_unit p q = unit_yes xs at b (is xs at k p) (begins e q)

  pub no-unit : t ≡ T.Unit → (v ≡ V.Unit → ⊥) → None ≡ parts_of b (type_at xs at)
  no-unit p q = unit-no xs at b (is xs at k p) (begins-not e q)

  pub of_pair : {i j : ℕ} → t ≡ T.Product → v ≡ V.Pair → i ≡ first xs at → j ≡ second xs at → Some (parts.Two i j) ≡ parts_of b (type_at xs at)
  of_pair p q = pair_yes xs at b (is xs at k p) (begins e q)

  pub no-pair : t ≡ T.Product → (v ≡ V.Pair → ⊥) → None ≡ parts_of b (type_at xs at)
  no-pair p q = pair-no xs at b (is xs at k p) (begins-not e q)

  pub of_left : {i : ℕ} → t ≡ T.Sum → v ≡ V.Inl → i ≡ first xs at → Some (parts.One i) ≡ parts_of b (type_at xs at)
  of_left p q = left_yes xs at b (is xs at k p) (begins e q)

  pub of_right : {i : ℕ} → t ≡ T.Sum → v ≡ V.Inr → i ≡ second xs at → Some (parts.One i) ≡ parts_of b (type_at xs at)
  of_right p q = right_yes xs at b (is xs at k p) (begins e q)

  pub no-sum : t ≡ T.Sum → (v ≡ V.Inl → ⊥) → (v ≡ V.Inr → ⊥) → None ≡ parts_of b (type_at xs at)
  no-sum p q r = sum-no xs at b (is xs at k p) (begins-not e q) (begins-not e r)

  pub of_roll : {i : ℕ} → t ≡ T.Recursive → v ≡ V.Roll → i ≡ first xs at → Some (parts.Body i) ≡ parts_of b (type_at xs at)
  of_roll p q = roll_yes xs at b (is xs at k p) (begins e q)

  pub no-roll : t ≡ T.Recursive → (v ≡ V.Roll → ⊥) → None ≡ parts_of b (type_at xs at)
  no-roll p q = roll-no xs at b (is xs at k p) (begins-not e q)

  pub no-variable : t ≡ T.Variable → None ≡ parts_of b (type_at xs at)
  unfolding parts_of
  no-variable p = sym (ap (parts_of b) (type-var xs at (let z = is xs at k p in omega arith)))

-- what was said of a field's place, of the place in the table
pub at_place : (xs : List ℕ) (b : ℕ) {at place : ℕ} {r : Found Parts} → at ≡ place → r ≡ parts_of b (type_at xs at) → r ≡ parts_of b (type_at xs place)
at_place xs b e p = p ∙ ap (λ at. parts_of b (type_at xs at)) e

-- no value of any type begins so
pub no-value : (xs : List ℕ) (at b : ℕ) → 4 < b → None ≡ parts_of b (type_at xs at)
unfolding parts_of
no-value xs at b h = go (type_at xs at)
  where
    go : (y : TypeEntry) → None ≡ parts_of b y
    go y_unit = sym (ap (λ x. cond x (Some parts.Nothing) None) (ne_eqb b 0 (λ z. omega arith)))
    go (y_prod i j) = sym (ap (λ x. cond x (Some (parts.Two i j)) None) (ne_eqb b 3 (λ z. omega arith)))
    go (y_sum i j) = sym (ap₂ (λ x y. cond x (Some (parts.One i)) (cond y (Some (parts.One j)) None)) (ne_eqb b 1 (λ z. omega arith)) (ne_eqb b 2 (λ z. omega arith)))
    go (y_mu i) = sym (ap (λ x. cond x (Some (parts.Body i)) None) (ne_eqb b 4 (λ z. omega arith)))
    go (y_var k) = refl

----------------------------------------------------------------
-- Two parts are those of a pair, by a product

module _ (xs : List ℕ) (at b : ℕ) {r : Found Parts} {x : Parts} {i j : ℕ} (e : r ≡ parts_of b (type_at xs at)) (f : r ≡ Some x) (g : x ≡ parts.Two i j) where
  pub two-parts : (kind_at xs at ≡ product_kind) × (b ≡ 3) × (i ≡ first xs at) × (j ≡ second xs at)
  unfolding parts_of
  two-parts = go (kind_at xs at) refl
    where
      p : Some (parts.Two i j) ≡ parts_of b (type_at xs at)
      p = sym (f ∙ ap Some g) ∙ e

      by_unit : (x : Bool) → Some (parts.Two i j) ≡ cond x (Some parts.Nothing) None → ⊥
      by_unit true q = cc
      by_unit false q = cc

      by_prod : (x : Bool) → eqb b 3 ≡ x → Some (parts.Two i j) ≡ cond x (Some (parts.Two (first xs at) (second xs at))) None
          → (b ≡ 3) × (i ≡ first xs at) × (j ≡ second xs at)
      by_prod true e q = (eqb-sound b 3 e, cc, cc)
      by_prod false e q = absurd (let z : ⊥ = cc in z)

      by_sum : (x y : Bool) → Some (parts.Two i j) ≡ cond x (Some (parts.One (first xs at))) (cond y (Some (parts.One (second xs at))) None) → ⊥
      by_sum true y q = cc
      by_sum false true q = cc
      by_sum false false q = cc

      by_mu : (x : Bool) → Some (parts.Two i j) ≡ cond x (Some (parts.Body (first xs at))) None → ⊥
      by_mu true q = cc
      by_mu false q = cc

      by_var : Some (parts.Two i j) ≡ None → ⊥
      by_var q = cc

      go : (k : ℕ) → kind_at xs at ≡ k → (kind_at xs at ≡ product_kind) × (b ≡ 3) × (i ≡ first xs at) × (j ≡ second xs at)
      go zero e = absurd (by_unit (eqb b 0) (p ∙ ap (parts_of b) (type-unit xs at e)))
      go (suc zero) e = given (by_prod (eqb b 3) refl (p ∙ ap (parts_of b) (type-prod xs at e))) λ (x, y, z). (e, x, y, z)
      go (suc (suc zero)) e = absurd (by_sum (eqb b 1) (eqb b 2) (p ∙ ap (parts_of b) (type-sum xs at e)))
      go (suc (suc (suc zero))) e = absurd (by_mu (eqb b 4) (p ∙ ap (parts_of b) (type-mu xs at e)))
      go (suc (suc (suc (suc k)))) e = absurd (by_var (p ∙ ap (parts_of b) (type-var xs at (omega (arith, e)))))
