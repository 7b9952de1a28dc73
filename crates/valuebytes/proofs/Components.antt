-- A pair's components in their parts of its bytes: each is a value, and the pair is of a product exactly if they are of its parts.
use Prim.Native.Nat.{ℕ, ◌≤◌, ◌<◌}
use native.Mathlib.Omega.{arith}
use mathlib.Core.Path.{◌≡◌, refl, sym, ap, ap₂, subst, ◌∙◌}
use mathlib.Core.Bool.{Bool, true, false, ◌&&◌}
use mathlib.Core.Option.{some}
use mathlib.Core.List.{List}
use lib.ListN.{length, get_or}
use package.Rattle.rules.specs.Val.{Val, pair, size, encode}
use package.Rattle.rules.specs.Ty.{Ty, prod, nodes}
use package.Rattle.rules.proofs.Basics.{given, and_both}
use package.Rattle.rules.proofs.Val.{length-encode}
use package.Rattle.calls.specs.Fields.{kind_at}
use package.Rattle.calls.specs.Entries.{type_of}
use package.Rattle.calls.specs.Named.{plain}
use package.Rattle.calls.specs.Tested.{closed}
use package.Rattle.calls.specs.Values.{value, has_ty}
use package.Rattle.calls.proofs.Entries.{Plain, plain_iff}
use package.Rattle.calls.proofs.Values.{size-positive}
use package.Rattle.program.specs.Parts.{first, second}
use package.Rattle.program.specs.Kinds.{product_kind}
use package.Rattle.valuebytes.specs.Ends.{is_value, part_of}
use package.Rattle.valuebytes.specs.Typing.{entries_of, TypesRead, value_has}
use package.Rattle.valuebytes.proofs.Trees.{tree-prod, prod-known}
use package.Rattle.valuebytes.proofs.Whole.{Whole, whole, whole_of, is_value_lem, is_pair, smaller}

value-has : {s : List ℕ} {v : Val} → Whole s v → (c : Ty) → value_has (value s) c ≡ has_ty v c
unfolding value_has
value-has w c = ap (λ o. value_has o c) w.is

-- a value has a byte
pub filled : (s : List ℕ) → is_value s ≡ true → 0 < length s
filled s e = given (whole s e) λ (v, w). omega (arith, ap length w.bytes, length-encode v, size-positive v)

----------------------------------------------------------------
-- A pair

module _ (s : List ℕ) (e : is_value s ≡ true) (t : get_or s 0 0 ≡ 3) where
  part_whole : (b : Bool) (v : Val) (l : List ℕ) → part_of b (some (pair (is_pair s e t).first (is_pair s e t).second)) ≡ encode v
      → size v ≤ size (pair (is_pair s e t).first (is_pair s e t).second) → l ≡ part_of b (value s) → Whole l v
  part_whole b v l p h q =
      let P = is_pair s e t in
      whole_of (q ∙ ap (part_of b) P.whole.is ∙ p) (smaller v (pair P.first P.second) h P.whole.small)

  first_whole : (l : List ℕ) → l ≡ part_of false (value s) → Whole l (is_pair s e t).first
  unfolding part_of size
  first_whole l q = part_whole false (is_pair s e t).first l refl (omega arith) q

  second_whole : (l : List ℕ) → l ≡ part_of true (value s) → Whole l (is_pair s e t).second
  unfolding part_of size
  second_whole l q = part_whole true (is_pair s e t).second l refl (omega arith) q

  pub first-value : (l : List ℕ) → l ≡ part_of false (value s) → is_value l ≡ true
  first-value l q = is_value_lem (first_whole l q)

  pub second-value : (l : List ℕ) → l ≡ part_of true (value s) → is_value l ≡ true
  second-value l q = is_value_lem (second_whole l q)

  pair-has : (l r : List ℕ) → l ≡ part_of false (value s) → r ≡ part_of true (value s) → (a b : Ty)
      → value_has (value s) (prod a b) ≡ (value_has (value l) a && value_has (value r) b)
  unfolding has_ty
  pair-has l r p q a b =
      value-has (is_pair s e t).whole (prod a b) ∙ sym (ap₂ (λ x y. x && y) (value-has (first_whole l p) a) (value-has (second_whole r q) b))

----------------------------------------------------------------
-- By a product's entry

module _ (xs os : List ℕ) (T : TypesRead xs os) (i : ℕ) (l : i < length os) (k : kind_at xs (get_or os i 0) ≡ product_kind) where
  abbrev tree : ℕ → Ty
  tree j = type_of (entries_of xs os) j

  -- a part that is known, and whose tree is plain
  part-plain : (j : ℕ) → j < length os → Plain (tree j) → plain (entries_of xs os) j ≡ true
  part-plain j h p = (plain_iff (entries_of xs os) j).1 p

  -- both parts are plain, as the product is
  pub parts-plain : plain (entries_of xs os) i ≡ true
      → ((first xs (get_or os i 0) < length os) × (plain (entries_of xs os) (first xs (get_or os i 0)) ≡ true))
      × ((second xs (get_or os i 0) < length os) × (plain (entries_of xs os) (second xs (get_or os i 0)) ≡ true))
  unfolding closed nodes
  parts-plain p =
      given (prod-known xs os T i l k) λ (h, h').
      given (subst Plain (tree-prod xs os T i l k) ((plain_iff (entries_of xs os) i).0 p)) λ (c, n).
      given (and_both _ _ c) λ (x, y). ((h, part-plain _ h (x, omega arith)), (h', part-plain _ h' (y, omega arith)))

  module _ (s : List ℕ) (e : is_value s ≡ true) where
    module _ (t : get_or s 0 0 ≡ 3) {a b : ℕ} (first_is : a ≡ first xs (get_or os i 0)) (second_is : b ≡ second xs (get_or os i 0)) (u : List ℕ) (p : u ≡ part_of false (value s))
        {x : Bool} (A : x ≡ value_has (value u) (type_of (entries_of xs os) a)) where
      both : (r : List ℕ) → r ≡ part_of true (value s) → value_has (value s) (tree i) ≡ (x && value_has (value r) (tree b))
      both r q =
          ap (value_has (value s)) (tree-prod xs os T i l k) ∙ pair-has s e t u r p q _ _
          ∙ ap₂ (λ x y. x && y) (ap (λ j. value_has (value u) (tree j)) (sym first_is) ∙ sym A) (ap (λ j. value_has (value r) (tree j)) (sym second_is))

      pub pair-no : x ≡ false → false ≡ value_has (value s) (type_of (entries_of xs os) i)
      pair-no n = sym (both (part_of true (value s)) refl ∙ ap (λ x. x && value_has (value (part_of true (value s))) (tree b)) n)

      pub pair_yes : x ≡ true → (r : List ℕ) → r ≡ part_of true (value s) → {y : Bool} → y ≡ value_has (value r) (type_of (entries_of xs os) b)
          → y ≡ value_has (value s) (type_of (entries_of xs os) i)
      pair_yes n r q A' = A' ∙ sym (both r q ∙ ap (λ x. x && value_has (value r) (tree b)) n)
