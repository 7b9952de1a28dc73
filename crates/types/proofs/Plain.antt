-- Laws of settling: the code of a type's own entry, by its number; and of the nodes of settled codes.
use Prim.Native.Nat.{ℕ, suc, ◌+◌, ◌<◌}
use native.Mathlib.Omega.{arith}
use mathlib.Core.Path.{◌≡◌, refl, sym, ap, ap₂, subst, ◌∙◌}
use mathlib.Core.Logic.{◌⊎◌, ⊎_elim}
use mathlib.Core.Bool.{Bool, true, false, cond}
use mathlib.Core.List.{List, map}
use lib.ListN.{length, get_or}
use lib.Dec.{eqb}
use borrow.Author.Tests.{eqb-true}
use Rattle.std.specs.Prelude.{Some, None}
use package.Rattle.rules.specs.Limits.{max_types}
use package.Rattle.rules.specs.Ty.{Ty, tyvar}
use package.Rattle.calls.specs.Fields.{kind_at}
use package.Rattle.calls.specs.Entries.{y_unit, y_prod, y_sum, y_mu, y_var, type_at, type_tree, type_of}
use package.Rattle.calls.specs.Figures.{free}
use package.Rattle.program.specs.Parts.{variable}
use package.Rattle.program.proofs.Shapes.{type-unit, type-prod, type-sum, type-mu, type-var}
use package.Rattle.program.specs.declared.kinds.TypeKind.{TypeKind}
use package.Rattle.program.specs.declared.kinds.TypeKind.TheVariants as T
use package.Rattle.program.specs.KindNumbers.{type_kind_number}
use package.Rattle.types.specs.declared.codes.Code.{Code}
use package.Rattle.types.specs.declared.shapes.Shape.{Shape}
use package.Rattle.types.specs.Figures.{closed_by, number_at, free_at, stand_at, alias_at, alias_for, Alias}
use package.Rattle.types.specs.Codes.{unit_code, entry_code, under_code, product_code, tree_in, Known, Sources}
use package.Rattle.types.specs.Shapes.{entry_shape, plain_shape, Settled}
use package.Rattle.types.proofs.Closing.{closed_itself, closed-variable}
use package.Rattle.types.proofs.Trees.{tree-entry, tree-under}
use package.Rattle.types.proofs.Outer.{unfolds-at, names_by, entry_known, under-known, product-known}
use package.Rattle.types.proofs.Outer.{unit-known, unit-shaped, entry-shaped, under-shaped, product-shaped}

-- an alias that is found is kept for the entry that stands
alias_found : (heap : List ℕ) (i j : ℕ) {k : ℕ} → Some k ≡ alias_for heap i j → (stand_at heap i ≡ suc j) × (k ≡ alias_at heap i)
unfolding alias_for
alias_found heap i j {k} p = go (eqb (stand_at heap i) (j + 1)) refl
  where
    go : (b : Bool) → eqb (stand_at heap i) (j + 1) ≡ b → (stand_at heap i ≡ suc j) × (k ≡ alias_at heap i)
    go true e = (
      let z : stand_at heap i ≡ suc j = omega (arith, eqb-true (stand_at heap i) (j + 1) e) in z,
      inj (p ∙ ap (λ b. cond b (Some (alias_at heap i)) None) e),
    )
      where
        inj : {a b : ℕ} → Some a ≡ Some b → a ≡ b
        inj q = cc
    go false e = absurd (none (p ∙ ap (λ b. cond b (Some (alias_at heap i)) None) e))
      where
        none : {a : ℕ} → Some a ≡ None → ⊥
        none q = let z : ◌≡◌ {A = ℕ} 0 1 = cc in omega arith

-- a field of another kind is no variable's
no-variable : (xs : List ℕ) (at : ℕ) {kind : TypeKind} → type_kind_number kind ≡ kind_at xs at → ¬ (kind ≡ T.Variable) → (k : ℕ) → ¬ (type_at xs at ≡ y_var k)
no-variable xs at {kind} g n k = by kind g n
  where
    by : (kind : TypeKind) → type_kind_number kind ≡ kind_at xs at → ¬ (kind ≡ T.Variable) → ¬ (type_at xs at ≡ y_var k)
    by T.Unit g n e = clash (sym (type-unit xs at (sym g)) ∙ e)
      where
        clash : y_unit ≡ y_var k → ⊥
        clash p = let z : ◌≡◌ {A = ℕ} 0 1 = cc in omega arith
    by T.Product g n e = clash (sym (type-prod xs at (sym g)) ∙ e)
      where
        clash : {a b : ℕ} → y_prod a b ≡ y_var k → ⊥
        clash p = let z : ◌≡◌ {A = ℕ} 0 1 = cc in omega arith
    by T.Sum g n e = clash (sym (type-sum xs at (sym g)) ∙ e)
      where
        clash : {a b : ℕ} → y_sum a b ≡ y_var k → ⊥
        clash p = let z : ◌≡◌ {A = ℕ} 0 1 = cc in omega arith
    by T.Recursive g n e = clash (sym (type-mu xs at (sym g)) ∙ e)
      where
        clash : {a : ℕ} → y_mu a ≡ y_var k → ⊥
        clash p = let z : ◌≡◌ {A = ℕ} 0 1 = cc in omega arith
    by T.Variable g n e = n refl

module _ {xs types heap : List ℕ} {top : ℕ} (S : Sources xs types heap top) where
  -- a number names an entry of the same tree, which is its own number
  pub number-there : (i : ℕ) → i < length types → number_at heap i < length types
  number-there i l = omega (arith, S.figures.number_lower i l)

  number-own : (i : ℕ) → i < length types → number_at heap (number_at heap i) ≡ number_at heap i
  number-own i l = S.figures.number_one (number_at heap i) i (number-there i l) l (S.figures.number_tree i l)

  entry_one : {i j : ℕ} → entry_code i ≡ entry_code j → i ≡ j
  entry_one p = cc

  -- a code of the type of an entry
  entry-settled : {c : Code} {i n : ℕ} → i < length types → n ≡ number_at heap i → type_of (map (type_at xs) types) i ≡ tree_in xs types heap c
      → Settled xs types heap top c (entry_code n)
  unfolding plain_shape
  entry-settled {c} {i} {n} l p t = subst (λ n. Settled xs types heap top c (entry_code n)) (sym p) (record {
    shaped = let D = entry-shaped S (number_at heap i) (number-there i l) in record { tree = D.tree ∙ tree; parts = D.parts };
    known = entry_known (number_at heap i) (number-there i l);
    tree = tree;
    own = λ m e. subst (λ m. number_at heap m ≡ m) (entry_one e) (number-own i l);
  })
    where
      tree : tree_in xs types heap (entry_code (number_at heap i)) ≡ tree_in xs types heap c
      tree = tree-entry (map (type_at xs) types) heap (entry_code (number_at heap i)) refl ∙ S.figures.number_tree i l ∙ t

  not_entry : {n : ℕ} → unit_code ≡ entry_code n → ⊥
  not_entry p = let z : ◌≡◌ {A = ℕ} 0 1 = cc in omega arith

  pub unit-settled : Settled xs types heap top unit_code unit_code
  unfolding plain_shape
  unit-settled = record { shaped = unit-shaped S; known = unit-known; tree = refl; own = λ m e. absurd (not_entry e) }

  pub product-settled : (k : ℕ) → k < top → Settled xs types heap top (product_code k) (product_code k)
  unfolding plain_shape
  product-settled k l = record { shaped = product-shaped S k l; known = product-known k l; tree = refl; own = λ m e. absurd (no e) }
    where
      no : {m : ℕ} → product_code k ≡ entry_code m → ⊥
      no p = let z : ◌≡◌ {A = ℕ} 0 1 = cc in omega arith

  pub entry-numbered : (i : ℕ) {n : ℕ} → i < length types → n ≡ number_at heap i → Settled xs types heap top (entry_code i) (entry_code n)
  entry-numbered i l p = entry-settled l p (sym (tree-entry (map (type_at xs) types) heap (entry_code i) refl))

  module _ (a b : ℕ) (la : a < length types) (lb : b < length types) {i : ℕ} (p : i ≡ number_at heap a) where
    abbrev τ : Ty
    τ = type_of (map (type_at xs) types) b

    pub under-there : (i < length types) × (i < max_types)
    under-there = (omega (arith, p, number-there a la), omega (arith, p, number-there a la, S.entries.few))

    under-tree : tree_in xs types heap (under_code a b) ≡ closed_by τ (type_of (map (type_at xs) types) a)
    under-tree = tree-under (map (type_at xs) types) heap (under_code a b) refl

    same_at : type_of (map (type_at xs) types) i ≡ type_of (map (type_at xs) types) a
    same_at = ap (type_of (map (type_at xs) types)) p ∙ S.figures.number_tree a la

    free-at : free_at heap i ≡ free (type_of (map (type_at xs) types) a)
    free-at = S.figures.free_is i under-there.0 ∙ ap free same_at

    -- a closed entry
    pub closed-settled : free_at heap i ≡ 0 → Settled xs types heap top (under_code a b) (entry_code i)
    closed-settled z = entry-settled la p (sym (under-tree ∙ closed_itself τ _ (sym free-at ∙ z)))

    module _ {j : ℕ} (s : j ≡ number_at heap b) where
      same_by : closed_by (type_of (map (type_at xs) types) j) (type_of (map (type_at xs) types) i) ≡ tree_in xs types heap (under_code a b)
      same_by = ap₂ closed_by (ap (type_of (map (type_at xs) types)) s ∙ S.figures.number_tree b lb) same_at ∙ sym under-tree

      pub stands-there : (j < length types) × (j < max_types)
      stands-there = (omega (arith, s, number-there b lb), omega (arith, s, number-there b lb, S.entries.few))

      -- an alias, for what stands
      module _ {k : ℕ} (e : Some k ≡ alias_for heap i j) where
        alias : Alias (map (type_at xs) types) heap (length types) i j
        alias = S.figures.alias_is i j under-there.0 (alias_found heap i j e).0

        pub alias-there : (k < length types) × (k < max_types)
        alias-there = (omega (arith, (alias_found heap i j e).1, alias.there), omega (arith, (alias_found heap i j e).1, alias.there, S.entries.few))

        pub alias-settled : {m : ℕ} → m ≡ number_at heap k → Settled xs types heap top (under_code a b) (entry_code m)
        alias-settled q =
            entry-settled alias-there.0 q (ap (type_of (map (type_at xs) types)) (alias_found heap i j e).1 ∙ alias.tree ∙ same_by)

      -- the variable itself
      pub variable-settled : {at : ℕ} → at ≡ get_or types i 0 → 4 ≡ kind_at xs at → Settled xs types heap top (under_code a b) (entry_code j)
      unfolding type_tree
      variable-settled {at} f k = entry-settled lb s (sym (under-tree ∙ ap (closed_by τ) is ∙ closed-variable τ _))
        where
          is : type_of (map (type_at xs) types) a ≡ tyvar (variable xs at)
          is = sym same_at ∙ sym (unfolds-at S.entries i under-there.0)
              ∙ ap (type_tree (type_of (map (type_at xs) types))) (ap (type_at xs) (sym f) ∙ type-var xs at (omega (arith, k)))

      pub under-settled : ¬ (free_at heap i ≡ 0) → {at : ℕ} → at ≡ get_or types i 0 → {kind : TypeKind} → type_kind_number kind ≡ kind_at xs at
          → ¬ (kind ≡ T.Variable) → Settled xs types heap top (under_code a b) (under_code i j)
      unfolding plain_shape
      under-settled z {at} f {kind} g v = record {
        shaped = let D = under-shaped S i j under-there.0 stands-there.0 (omega (arith, z))
            (λ k. subst (λ at. ¬ (type_at xs at ≡ y_var k)) f (no-variable xs at g v k)) in record { tree = D.tree ∙ tree; parts = D.parts };
        known = under-known i j under-there.0 stands-there.0;
        tree = tree;
        own = λ m e. absurd (no e);
      }
        where
          tree : tree_in xs types heap (under_code i j) ≡ tree_in xs types heap (under_code a b)
          tree = tree-under (map (type_at xs) types) heap (under_code i j) refl ∙ same_by

          no : {m : ℕ} → under_code i j ≡ entry_code m → ⊥
          no p = let z : ◌≡◌ {A = ℕ} 0 1 = cc in omega arith

----------------------------------------------------------------
-- By form, where two forms go one way

pub other-settled : {xs types heap : List ℕ} {top : ℕ} → Sources xs types heap top → {c : Code} → Known (length types) top c
    → (c ≡ unit_code) ⊎ ((k : ℕ) × (c ≡ product_code k)) → Settled xs types heap top c c
other-settled {xs} {types} {heap} {top} S K = ⊎_elim
    (λ e. rw e (unit-settled S))
    (λ (k, e). rw e (product-settled S k (names_by e K)))

pub plain-entry : (xs types heap : List ℕ) {c c' : Code} {i : ℕ} → c' ≡ c → (c ≡ entry_code i) ⊎ ((j : ℕ) × (c ≡ under_code i j)) → {s : Shape}
    → s ≡ entry_shape heap (type_at xs (get_or types i 0)) c' → s ≡ plain_shape xs types heap c
unfolding plain_shape
plain-entry xs types heap {i = i} p w e = e ∙ ap (entry_shape heap (type_at xs (get_or types i 0))) p ∙ ⊎_elim (λ q. rw q refl) (λ (j, q). rw q refl) w
