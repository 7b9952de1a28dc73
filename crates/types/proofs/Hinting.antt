-- Hints at products: what is kept where one is put, what a hint that is held to its parts tells, and the product of two types by what is found.
use Prim.Native.Nat.{ℕ, ◌+◌, ◌<◌, ◌≤◌, min}
use native.Mathlib.Omega.{arith}
use mathlib.Core.Path.{◌≡◌, refl, sym, ap, ap₂, subst, ◌∙◌}
use Rattle.std.specs.Prelude.{Some, None}
use mathlib.Core.List.{List}
use lib.ListN.{length, get_or}
use borrow.Author.Tests.{le-leb, lt-leb}
use package.Rattle.rules.specs.Limits.{max_types, max_terms, max_nodes}
use package.Rattle.rules.specs.Ty.{Ty, prod, nodes}
use package.Rattle.calls.specs.Entries.{TypeEntry}
use package.Rattle.calls.specs.Figures.{ceiling}
use package.Rattle.types.specs.declared.codes.Code.{Code}
use package.Rattle.types.specs.declared.products.Pairing.{Pairing}
use package.Rattle.types.specs.declared.shapes.Shape.TheVariants as shape
use package.Rattle.types.specs.Layout.{hints_from}
use package.Rattle.types.specs.Figures.{Figured}
use package.Rattle.types.specs.Codes.{Room, product_code, tree_in, Known, Sources}
use package.Rattle.types.specs.Shapes.{shape_tree, Shaped, Settled}
use package.Rattle.types.specs.Growth.{put_code, put_node, Agree, Noted, Hinted, Grown, Formed, Made}
use package.Rattle.types.proofs.Figuring.{figured-same}
use package.Rattle.types.proofs.Growing.{Fitting, length_code, code_low, agree_refl, agree_trans, agree-down, tree-kept, sources-kept, grown}
use package.Rattle.types.proofs.Outer.{product-known}

----------------------------------------------------------------
-- A hint that is put

pub noted-put : (heap : List ℕ) {heap' : List ℕ} (i : ℕ) (c : Code) → hints_from ≤ i → heap' ≡ put_code heap i c → Noted heap heap'
noted-put heap i c h w = record {
  same = λ j l. sym (ap (λ heap. get_or heap j 0) w ∙ code_low heap i c j (omega arith));
  lengths = sym (ap length w ∙ length_code heap i c);
}

pub noted-agree : {top : ℕ} {heap heap' : List ℕ} → top ≤ max_terms → Noted heap heap' → Agree top heap heap'
noted-agree few N = record { same = λ i h. N.same i (omega arith); behind = λ i l h. N.same i h; lengths = N.lengths }

pub noted-figured : {ys : List TypeEntry} {n : ℕ} {heap heap' : List ℕ} → n ≤ max_types → Figured ys heap n → Noted heap heap' → Figured ys heap' n
noted-figured few F N = figured-same F N.lengths λ j l h. N.same j (omega arith)

-- A hint held to the parts

pub pair-tree : {xs types heap : List ℕ} {top : ℕ} {c a b l r left right : Code} → Shaped xs types heap top c (shape.Product a b)
    → Settled xs types heap top a l → l ≡ left → Settled xs types heap top b r → r ≡ right
    → tree_in xs types heap c ≡ prod (tree_in xs types heap left) (tree_in xs types heap right)
unfolding shape_tree
pair-tree {xs} {types} {heap} S U q U' q' =
    sym S.tree ∙ ap₂ prod (sym U.tree ∙ ap (tree_in xs types heap) q) (sym U'.tree ∙ ap (tree_in xs types heap) q')

none_some : {A : Type 0} {a : A} → None ≡ Some a → ⊥
none_some p = let z : ◌≡◌ {A = ℕ} 0 1 = cc in omega arith

some_one : {A : Type 0} {a b : A} → Some a ≡ Some b → a ≡ b
some_one p = cc

pub hint_right : {xs types heap : List ℕ} {top : ℕ} {left right c : Code} → Known (length types) top c
    → tree_in xs types heap c ≡ prod (tree_in xs types heap left) (tree_in xs types heap right) → Hinted xs types heap top left right (Some c)
hint_right {xs} {types} {heap} {top} {left} {right} K e = record {
  known = λ d p. subst (Known (length types) top) (some_one p) K;
  tree = λ d p. subst (λ d. tree_in xs types heap d ≡ prod (tree_in xs types heap left) (tree_in xs types heap right)) (some_one p) e;
}

----------------------------------------------------------------
-- The product of two types

module _ {xs types heap : List ℕ} {top : ℕ} (S : Sources xs types heap top) (left right : Code) where
  abbrev a : Ty
  a = tree_in xs types heap left

  abbrev b : Ty
  b = tree_in xs types heap right

  -- by the counts of both
  module _ {x y m : ℕ} (e : x ≡ min ceiling (nodes a)) (e' : y ≡ min ceiling (nodes b)) (s : m ≡ x + y + 1) where
    both-counted : min ceiling m ≡ min ceiling (nodes (prod a b))
    unfolding nodes ceiling
    both-counted = omega arith

    pub made_large : max_nodes < m → Made xs types heap heap top left right None
    unfolding ceiling
    made_large h = record {
      answer = sym (lt-leb (nodes (prod a b)) max_nodes (omega (arith, both-counted)));
      formed = λ q e. absurd (none_some e);
      old = λ e. refl;
    }

    module _ (h : m ≤ max_nodes) {first second : Code} (T : Settled xs types heap top left first) (T' : Settled xs types heap top right second) where
      exact : m ≡ nodes (prod a b)
      unfolding ceiling
      exact = omega (arith, both-counted)

      same-tree : prod (tree_in xs types heap first) (tree_in xs types heap second) ≡ prod a b
      same-tree = ap₂ prod T.tree T'.tree

      made : {heap' : List ℕ} {c : Code} {top' : ℕ} → Formed xs types heap heap' top (prod a b) c top'
          → Made xs types heap heap' top left right (Some (record { code = c; top = top' }))
      made {heap'} F = record {
        answer = sym (le-leb (nodes (prod a b)) max_nodes (omega (arith, exact)));
        formed = λ q e. subst (λ (q : Pairing). Formed xs types heap heap' top (prod a b) q.code q.top) (some_one e) F;
        old = λ e. absurd (none_some (sym e));
      }

      pub made_found : {c : Code} → Hinted xs types heap top first second (Some c)
          → Made xs types heap heap top left right (Some (record { code = c; top = top }))
      made_found H = made (record {
        sources = S;
        agree = agree_refl top heap;
        least = omega arith;
        most = omega arith;
        known = H.known _ refl;
        tree = H.tree _ refl ∙ same-tree;
      })

      module _ (room : Room heap (top + 1)) (F : Fitting first) (F' : Fitting second) (few : top < max_terms) {heap₁ heap₂ : List ℕ}
          (w : heap₁ ≡ put_node heap top first second m) (N : Noted heap₁ heap₂) where
        node-grown : Grown xs types heap heap₁ top (prod (tree_in xs types heap first) (tree_in xs types heap second))
        node-grown = rw w (grown S T.known T'.known (exact ∙ ap nodes (sym same-tree)) room F F' h few)

        later : Agree (top + 1) heap₁ heap₂
        later = noted-agree (omega arith) N

        pub made-new : {c : Code} → c ≡ product_code top → Made xs types heap heap₂ top left right (Some (record { code = c; top = top + 1 }))
        made-new q = rw q (made (record {
          sources = sources-kept node-grown.sources later;
          agree = agree_trans node-grown.agree (agree-down top (omega arith) later);
          least = omega arith;
          most = omega arith;
          known = product-known top (omega arith);
          tree = sym (tree-kept node-grown.sources.products later (product-known top (omega arith))) ∙ node-grown.tree ∙ same-tree;
        }))
