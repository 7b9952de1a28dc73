-- Laws of outermost nodes: which node an entry has by the kind in its field; that the node's tree is the code's; that its parts are known.
use Prim.Native.Nat.{ℕ, zero, suc, ◌+◌, ◌<◌, ◌≤◌, pred}
use native.Mathlib.Omega.{arith}
use native.Mathlib.Decide.{dec_lt}
use mathlib.Core.Path.{◌≡◌, refl, sym, ap, ap₂, subst, ◌∙◌}
use mathlib.Core.Bool.{Bool, true, false, cond}
use mathlib.Core.List.{List, [], ◌∷◌, map}
use lib.ListN.{length, get_or}
use lib.Dec.{eqb, leb}
use borrow.Author.Tests.{eq-eqb, ne_eqb}
use package.Rattle.rules.specs.Ty.{Ty, prod, sum, mu, plug}
use package.Rattle.rules.proofs.Basics.{given, and_both, eqb-sound}
use package.Rattle.rules.proofs.Typing.Tests.{leb-sound}
use package.Rattle.calls.specs.Fields.{kind_at, length_at, type_length}
use package.Rattle.calls.specs.Entries.{TypeEntry, y_unit, y_prod, y_sum, y_mu, y_var, type_at, type_tree, type_of}
use package.Rattle.calls.specs.Named.{below, types_of_type}
use package.Rattle.calls.specs.Figures.{free}
use package.Rattle.calls.proofs.Entries.{below-head, below_wider, type-unfolds}
use package.Rattle.program.specs.Parts.{TypeField, first, second, variable}
use package.Rattle.program.proofs.Formed.{type-beyond}
use package.Rattle.program.proofs.Rooms.{type-kind-room, prod-room, sum_room, mu-room, tyvar-room}
use package.Rattle.program.proofs.Shapes.{type-unit, type-prod, type-sum, type-mu, type-var}
use package.Rattle.program.specs.Kinds.{unit_type_kind, recursive_kind, type_variable_kind}
use package.Rattle.types.specs.declared.codes.Code.{Code}
use package.Rattle.types.specs.declared.codes.Code.TheVariants as code
use package.Rattle.types.specs.declared.shapes.Shape.{Shape}
use package.Rattle.types.specs.declared.shapes.Shape.TheVariants as shape
use package.Rattle.types.specs.Figures.{free_at, closed_by}
use package.Rattle.types.specs.Codes.{unit_code, entry_code, under_code, product_code, left_at, right_at, of_code, tree_of, Readable, Names, Known, Sources}
use package.Rattle.types.specs.Shapes.{shape_tree, part, entry_shape, Parts, Shaped}
use package.Rattle.types.proofs.Closing.{closed-part, closed-under}
use package.Rattle.types.proofs.Trees.{tree-product, product-parts}

----------------------------------------------------------------
-- The node of an entry, by the kind in its field at `at`

module _ (xs heap : List ℕ) {at at' : ℕ} (c : Code) (f : at ≡ at') where
  at-unit : 0 ≡ kind_at xs at → shape.Unit ≡ entry_shape heap (type_at xs at) c
  unfolding entry_shape
  at-unit e = rw (type-unit xs at (sym e))

  moved : {s : Shape} → s ≡ entry_shape heap (type_at xs at) c → s ≡ entry_shape heap (type_at xs at') c
  moved p = p ∙ ap (λ at. entry_shape heap (type_at xs at) c) f

  pub shape-unit : 0 ≡ kind_at xs at → shape.Unit ≡ entry_shape heap (type_at xs at') c
  shape-unit e = moved (at-unit e)

  module _ {x a : ℕ} {left right : Code} (p : x ≡ first xs at) (q : left ≡ part heap c x 0) (p' : a ≡ second xs at) (q' : right ≡ part heap c a 0) where
    pub shape-product : 1 ≡ kind_at xs at → shape.Product left right ≡ entry_shape heap (type_at xs at') c
    unfolding entry_shape
    shape-product e = moved (ap₂ shape.Product (q ∙ ap (λ x. part heap c x 0) p) (q' ∙ ap (λ a. part heap c a 0) p') ∙ rw (type-prod xs at (sym e)))

    pub shape-sum : 2 ≡ kind_at xs at → shape.Sum left right ≡ entry_shape heap (type_at xs at') c
    unfolding entry_shape
    shape-sum e = moved (ap₂ shape.Sum (q ∙ ap (λ x. part heap c x 0) p) (q' ∙ ap (λ a. part heap c a 0) p') ∙ rw (type-sum xs at (sym e)))

  pub shape-recursive : {x : ℕ} {body : Code} → x ≡ first xs at → body ≡ part heap c x 1 → 3 ≡ kind_at xs at
      → shape.Recursive body ≡ entry_shape heap (type_at xs at') c
  unfolding entry_shape
  shape-recursive p q e = moved (ap shape.Recursive (q ∙ ap (λ x. part heap c x 1) p) ∙ rw (type-mu xs at (sym e)))

  pub shape-variable : {x : ℕ} → x ≡ variable xs at → 4 ≡ kind_at xs at → shape.Variable x ≡ entry_shape heap (type_at xs at') c
  unfolding entry_shape
  shape-variable p e = moved (ap shape.Variable p ∙ rw (type-var xs at (omega (arith, e))))

-- there are five kinds of types
pub few_kinds : {xs : List ℕ} {at : ℕ} → TypeField xs at → kind_at xs at ≤ 4
unfolding type_length
few_kinds {xs} {at} F = go (dec_lt 4 (kind_at xs at))
  where
    go : Dec (4 < kind_at xs at) → kind_at xs at ≤ 4
    go (no n) = omega arith
    go (yes l) =
        given (and_both (leb 1 (length_at xs at)) _ F.sized) λ (x, y).
        absurd (omega (arith, leb-sound 1 (length_at xs at) x, eqb-sound (length_at xs at) _ y, type-beyond (kind_at xs at) l))

-- the entry that stands at an offset of the list
pub at_place : (xs types : List ℕ) (i : ℕ) → i < length types → get_or (map (type_at xs) types) i y_unit ≡ type_at xs (get_or types i 0)
at_place xs [] i l = absurd (omega arith)
at_place xs (t ∷ types) zero l = refl
at_place xs (t ∷ types) (suc i) l = at_place xs types i (omega arith)

-- The field at that offset is well-formed, so that it holds the parts of its kind.
module _ {xs types : List ℕ} (R : Readable xs types) {n i at : ℕ} (l : n < length types) (e : i ≡ n) (f : at ≡ get_or types i 0) where
  pub field_at_lem : TypeField xs at
  field_at_lem = subst (TypeField xs) (sym (f ∙ ap (λ i. get_or types i 0) e)) (R.field n l)

  pub kind-there : at + 4 ≤ length xs
  kind-there = type-kind-room field_at_lem

  module _ {kind : ℕ} (g : kind ≡ kind_at xs at) where
    pub mu-there : kind ≡ recursive_kind → at + 6 ≤ length xs
    mu-there k = mu-room field_at_lem (sym g ∙ k)

    pub two-there : ¬ (kind ≡ unit_type_kind) → kind < recursive_kind → at + 8 ≤ length xs
    two-there z l = by kind (sym g) z l
      where
        by : (k : ℕ) → kind_at xs at ≡ k → ¬ (k ≡ 0) → k < 3 → at + 8 ≤ length xs
        by zero q z l = absurd (z refl)
        by (suc zero) q z l = prod-room field_at_lem q
        by (suc (suc zero)) q z l = sum_room field_at_lem q
        by (suc (suc (suc k))) q z l = absurd (omega arith)

    pub var-there : 3 ≤ kind → ¬ (kind ≡ recursive_kind) → at + 5 ≤ length xs
    var-there l n = tyvar-room field_at_lem (omega (arith, g, few_kinds field_at_lem))

    entry_is : (y : TypeEntry) → type_at xs at ≡ y → below n (types_of_type y) ≡ true
    entry_is y is = subst (λ y. below n (types_of_type y) ≡ true)
        (at_place xs types n l ∙ ap (type_at xs) (sym (f ∙ ap (λ i. get_or types i 0) e)) ∙ is) (R.lower n)

    -- the parts of an entry are lower
    pub first-lower : ¬ (kind ≡ unit_type_kind) → kind < type_variable_kind → first xs at < n
    unfolding types_of_type
    first-lower z l = by kind (sym g) z l
      where
        by : (k : ℕ) → kind_at xs at ≡ k → ¬ (k ≡ 0) → k < 4 → first xs at < n
        by zero q z l = absurd (z refl)
        by (suc zero) q z l = (below-head n (first xs at) _ (entry_is _ (type-prod xs at q))).0
        by (suc (suc zero)) q z l = (below-head n (first xs at) _ (entry_is _ (type-sum xs at q))).0
        by (suc (suc (suc zero))) q z l = (below-head n (first xs at) _ (entry_is _ (type-mu xs at q))).0
        by (suc (suc (suc (suc k)))) q z l = absurd (omega arith)

    pub second-lower : ¬ (kind ≡ unit_type_kind) → kind < recursive_kind → second xs at < n
    unfolding types_of_type
    second-lower z l = by kind (sym g) z l
      where
        last : below n (first xs at ∷ second xs at ∷ []) ≡ true → second xs at < n
        last e = (below-head n (second xs at) [] (below-head n (first xs at) _ e).1).0

        by : (k : ℕ) → kind_at xs at ≡ k → ¬ (k ≡ 0) → k < 3 → second xs at < n
        by zero q z l = absurd (z refl)
        by (suc zero) q z l = last (entry_is _ (type-prod xs at q))
        by (suc (suc zero)) q z l = last (entry_is _ (type-sum xs at q))
        by (suc (suc (suc k))) q z l = absurd (omega arith)

----------------------------------------------------------------
-- A part, by whether the variable stands in it

module _ (heap : List ℕ) (i j a up : ℕ) {f g : ℕ} (p : f ≡ free_at heap a) (q : g ≡ free_at heap i) where
  pub part_open : f ≡ g + up → under_code a j ≡ part heap (under_code i j) a up
  unfolding part
  part_open s = sym (ap (λ b. cond b (under_code a j) (entry_code a)) (eq-eqb (free_at heap a) (free_at heap i + up) (omega arith)))

  pub part-closed : ¬ (f ≡ g + up) → entry_code a ≡ part heap (under_code i j) a up
  unfolding part
  part-closed s = sym (ap (λ b. cond b (under_code a j) (entry_code a))
      (ne_eqb (free_at heap a) (free_at heap i + up) λ t. s (let z : f ≡ g + up = omega arith in z)))

pub part-plain : (heap : List ℕ) (c : Code) (a up : ℕ) → ((i j : ℕ) → ¬ (c ≡ under_code i j)) → entry_code a ≡ part heap c a up
unfolding part
part-plain heap code.Unit a up n = refl
part-plain heap (code.Entry i) a up n = refl
part-plain heap (code.Under i j) a up n = absurd (n i j refl)
part-plain heap (code.Product k) a up n = refl

----------------------------------------------------------------
-- The node's tree, over the parts of an entry

module _ (ys : List TypeEntry) (heap : List ℕ) where
  -- an entry as it stands
  entry-tree : (i : ℕ) (y : TypeEntry) → shape_tree ys heap (entry_shape heap y (entry_code i)) ≡ type_tree (type_of ys) y
  unfolding shape_tree entry_shape part tree_of of_code type_tree
  entry-tree i y_unit = refl
  entry-tree i (y_prod a b) = refl
  entry-tree i (y_sum a b) = refl
  entry-tree i (y_mu a) = refl
  entry-tree i (y_var k) = refl

  -- an entry whose outermost free variable stands for another
  module _ (i j : ℕ) where
    abbrev τ : Ty
    τ = type_of ys j

    part-under : (a up : ℕ) → tree_of ys heap (part heap (under_code i j) a up)
        ≡ cond (eqb (free_at heap a) (free_at heap i + up)) (closed_by τ (type_of ys a)) (type_of ys a)
    unfolding part tree_of of_code
    part-under a up = either (eqb (free_at heap a) (free_at heap i + up))
      where
        either : (b : Bool) → tree_of ys heap (cond b (under_code a j) (entry_code a)) ≡ cond b (closed_by τ (type_of ys a)) (type_of ys a)
        either true = refl
        either false = refl

    -- in a product or a sum, of whose variables `n` are free
    part-two : (a n : ℕ) → free_at heap i ≡ n → free_at heap a ≡ free (type_of ys a) → free (type_of ys a) ≤ n
        → tree_of ys heap (part heap (under_code i j) a 0) ≡ plug τ (pred n) (type_of ys a)
    part-two a n p q h =
        part-under a 0
        ∙ ap (λ b. cond b (closed_by τ (type_of ys a)) (type_of ys a)) (ap₂ eqb q (let z : free_at heap i + 0 ≡ n = omega (arith, p) in z))
        ∙ sym (closed-part τ (type_of ys a) n h)

    part-mu : (a : ℕ) → free_at heap i ≡ pred (free (type_of ys a)) → free_at heap a ≡ free (type_of ys a) → 0 < free_at heap i
        → tree_of ys heap (part heap (under_code i j) a 1) ≡ closed_by τ (type_of ys a)
    part-mu a p q h =
        part-under a 1
        ∙ ap (λ b. cond b (closed_by τ (type_of ys a)) (type_of ys a)) (eq-eqb (free_at heap a) (free_at heap i + 1) (omega (arith, p, q, h)))

    module _ {n : ℕ} (frees : (i : ℕ) → i < n → free_at heap i ≡ free (type_of ys i)) where
      under-tree : (y : TypeEntry) → below n (types_of_type y) ≡ true → free_at heap i ≡ free (type_tree (type_of ys) y) → 0 < free_at heap i
          → ((k : ℕ) → ¬ (y ≡ y_var k)) → shape_tree ys heap (entry_shape heap y (under_code i j)) ≡ closed_by τ (type_tree (type_of ys) y)
      unfolding shape_tree entry_shape type_tree types_of_type closed_by plug free
      under-tree y_unit l p h v = refl
      under-tree (y_prod a b) l p h v = given (below-head n a _ l) λ (x, l₁). given (below-head n b _ l₁) λ (x', l₂).
          ap₂ prod (part-two a _ p (frees a x) (omega arith)) (part-two b _ p (frees b x') (omega arith))
      under-tree (y_sum a b) l p h v = given (below-head n a _ l) λ (x, l₁). given (below-head n b _ l₁) λ (x', l₂).
          ap₂ sum (part-two a _ p (frees a x) (omega arith)) (part-two b _ p (frees b x') (omega arith))
      under-tree (y_mu a) l p h v = given (below-head n a _ l) λ (x, l₁).
          ap mu (part-mu a p (frees a x) h) ∙ sym (closed-under τ (type_of ys a) (subst (λ m. 0 < m) p h))
      under-tree (y_var k) l p h v = absurd (v k refl)

----------------------------------------------------------------
-- The parts are known

module _ {n top : ℕ} where
  pub known_up : {low : ℕ} {c : Code} → low ≤ top → Known n low c → Known n top c
  known_up {low} {c} le K = record { names = by c K.names }
    where
      by : (c : Code) → Names n low c → Names n top c
      by code.Unit h = h
      by (code.Entry i) h = h
      by (code.Under i j) h = h
      by (code.Product k) h = omega arith

  pub names_by : {c d : Code} → c ≡ d → Known n top c → Names n top d
  names_by e K = (subst (Known n top) e K).names

  pub unit-known : Known n top unit_code
  unit-known = record { names = tt }

  pub entry_known : (i : ℕ) → i < n → Known n top (entry_code i)
  entry_known i h = record { names = h }

  pub under-known : (i j : ℕ) → i < n → j < n → Known n top (under_code i j)
  under-known i j h k = record { names = (h, k) }

  pub product-known : (k : ℕ) → k < top → Known n top (product_code k)
  product-known k h = record { names = h }

  part-known : (heap : List ℕ) (c : Code) → Known n top c → (a up : ℕ) → a < n → Known n top (part heap c a up)
  unfolding part
  part-known heap code.Unit K a up h = entry_known a h
  part-known heap (code.Entry i) K a up h = entry_known a h
  part-known heap (code.Under i j) K a up h = either (eqb (free_at heap a) (free_at heap i + up))
    where
      either : (b : Bool) → Known n top (cond b (under_code a j) (entry_code a))
      either true = under-known a j h K.names.1
      either false = entry_known a h
  part-known heap (code.Product k) K a up h = entry_known a h

  entry-parted : (heap : List ℕ) (c : Code) → Known n top c → (y : TypeEntry) → below n (types_of_type y) ≡ true → Parts n top (entry_shape heap y c)
  unfolding entry_shape types_of_type
  entry-parted heap c K y_unit e = tt
  entry-parted heap c K (y_prod a b) e = given (below-head n a _ e) λ (l, e₁). given (below-head n b _ e₁) λ (l', e₂).
      (part-known heap c K a 0 l, part-known heap c K b 0 l')
  entry-parted heap c K (y_sum a b) e = given (below-head n a _ e) λ (l, e₁). given (below-head n b _ e₁) λ (l', e₂).
      (part-known heap c K a 0 l, part-known heap c K b 0 l')
  entry-parted heap c K (y_mu a) e = given (below-head n a _ e) λ (l, e₁). part-known heap c K a 1 l
  entry-parted heap c K (y_var k) e = tt

----------------------------------------------------------------
-- The node of a code, by form

-- what an entry names is lower, so it is there
module _ {xs types : List ℕ} (R : Readable xs types) where
  pub lower-at : (i : ℕ) → i < length types → below i (types_of_type (type_at xs (get_or types i 0))) ≡ true
  lower-at i l = subst (λ y. below i (types_of_type y) ≡ true) (at_place xs types i l) (R.lower i)

  pub inside-at : (i : ℕ) → i < length types → below (length types) (types_of_type (type_at xs (get_or types i 0))) ≡ true
  inside-at i l = below_wider i (length types) _ (omega arith) (lower-at i l)

  pub unfolds-at : (i : ℕ) → i < length types
      → type_tree (type_of (map (type_at xs) types)) (type_at xs (get_or types i 0)) ≡ type_of (map (type_at xs) types) i
  unfolds-at i l =
      ap (type_tree (type_of (map (type_at xs) types))) (sym (at_place xs types i l)) ∙ sym (type-unfolds (map (type_at xs) types) R.lower i)

module _ {xs types heap : List ℕ} {top : ℕ} (S : Sources xs types heap top) where
  pub unit-shaped : Shaped xs types heap top unit_code shape.Unit
  unfolding shape_tree tree_of of_code
  unit-shaped = record { tree = refl; parts = tt }

  pub entry-shaped : (i : ℕ) → i < length types → Shaped xs types heap top (entry_code i) (entry_shape heap (type_at xs (get_or types i 0)) (entry_code i))
  unfolding tree_of of_code
  entry-shaped i l = record {
    tree = entry-tree (map (type_at xs) types) heap i _ ∙ unfolds-at S.entries i l;
    parts = entry-parted heap (entry_code i) (entry_known i l) _ (inside-at S.entries i l);
  }

  -- of an open entry that is no variable
  pub under-shaped : (i j : ℕ) → i < length types → j < length types → 0 < free_at heap i → ((k : ℕ) → ¬ (type_at xs (get_or types i 0) ≡ y_var k))
      → Shaped xs types heap top (under_code i j) (entry_shape heap (type_at xs (get_or types i 0)) (under_code i j))
  unfolding tree_of of_code
  under-shaped i j l m o v = record {
    tree = under-tree (map (type_at xs) types) heap i j S.figures.free_is _ (inside-at S.entries i l)
        (S.figures.free_is i l ∙ ap free (sym (unfolds-at S.entries i l))) o v
        ∙ ap (closed_by (type_of (map (type_at xs) types) j)) (unfolds-at S.entries i l);
    parts = entry-parted heap (under_code i j) (under-known i j l m) _ (inside-at S.entries i l);
  }

  pub product-shaped : (k : ℕ) → k < top → Shaped xs types heap top (product_code k) (shape.Product (left_at heap k) (right_at heap k))
  unfolding shape_tree
  product-shaped k l =
      let N = S.products.node k l in
      record {
        tree = sym (product-parts S.products k l) ∙ sym (tree-product (map (type_at xs) types) heap (product_code k) refl);
        parts = (known_up (omega (arith, l)) N.left, known_up (omega (arith, l)) N.right);
      }
