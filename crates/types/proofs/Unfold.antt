-- Laws of unfolding: which body an entry has by the kind in its field, and that it is of the unfolded type.
use Prim.Native.Nat.{ℕ, ◌<◌, ◌≤◌}
use native.Mathlib.Omega.{arith}
use mathlib.Core.Path.{◌≡◌, refl, sym, ap, ap₂, subst, ◌∙◌}
use mathlib.Core.Bool.{true}
use mathlib.Core.List.{List, [], map}
use lib.ListN.{length, get_or}
use package.Rattle.rules.specs.Ty.{Ty, mu, unfold_ty}
use package.Rattle.rules.specs.Check.{Site, Checked, bad, as_mu}
use package.Rattle.calls.specs.Fields.{kind_at}
use package.Rattle.calls.specs.Entries.{TypeEntry, y_unit, y_prod, y_sum, y_mu, y_var, type_at, type_tree, type_of}
use package.Rattle.calls.specs.Named.{below, types_of_type}
use package.Rattle.calls.specs.Figures.{free}
use package.Rattle.calls.specs.Tested.{closed}
use package.Rattle.calls.proofs.Entries.{closed_iff_free, below-head}
use package.Rattle.program.specs.Parts.{first}
use package.Rattle.program.proofs.Shapes.{type-unit, type-prod, type-sum, type-mu, type-var}
use package.Rattle.program.specs.declared.kinds.TypeKind.{TypeKind}
use package.Rattle.program.specs.declared.kinds.TypeKind.TheVariants as T
use package.Rattle.program.specs.KindNumbers.{type_kind_number}
use package.Rattle.types.specs.declared.codes.Code.{Code}
use Rattle.std.specs.Prelude.{Option, Some, None}
use package.Rattle.types.specs.Figures.{closed_by, number_at}
use package.Rattle.types.specs.Codes.{entry_code, under_code, tree_in, Sources}
use package.Rattle.types.specs.Unfolding.{body_of, Unfolds}
use package.Rattle.types.proofs.Trees.{tree-entry, tree-under}
use package.Rattle.types.proofs.Closing.{closed-unfolds}
use package.Rattle.types.proofs.Outer.{under-known, lower-at, unfolds-at}

----------------------------------------------------------------
-- By the kind in the entry's field at `at`

module _ (xs types heap : List ℕ) (i : ℕ) {at : ℕ} (f : at ≡ get_or types i 0) where
  found : {r : Option Code} → r ≡ body_of heap (type_at xs at) i → r ≡ body_of heap (type_at xs (get_or types i 0)) i
  found p = p ∙ ap (λ at. body_of heap (type_at xs at) i) f

  pub no_body : {kind : TypeKind} → type_kind_number kind ≡ kind_at xs at → ¬ (kind ≡ T.Recursive) → None ≡ body_of heap (type_at xs (get_or types i 0)) i
  unfolding body_of
  no_body {kind} g d = found (by kind g d)
    where
      by : (k : TypeKind) → type_kind_number k ≡ kind_at xs at → ¬ (k ≡ T.Recursive) → None ≡ body_of heap (type_at xs at) i
      by T.Unit g d = rw (type-unit xs at (sym g)) refl
      by T.Product g d = rw (type-prod xs at (sym g)) refl
      by T.Sum g d = rw (type-sum xs at (sym g)) refl
      by T.Recursive g d = absurd (d refl)
      by T.Variable g d = rw (type-var xs at (omega (arith, g))) refl

  pub a_body : 3 ≡ kind_at xs at → {x y z : ℕ} → x ≡ first xs at → y ≡ number_at heap x → z ≡ number_at heap i
      → Some (under_code y z) ≡ body_of heap (type_at xs (get_or types i 0)) i
  unfolding body_of
  a_body g q m m' = found (ap Some (ap₂ under_code (m ∙ ap (number_at heap) q) m') ∙ rw (type-mu xs at (sym g)))

----------------------------------------------------------------
-- What the body is

of_other : {c : Code} → Some c ≡ None → ⊥
of_other p = let z : ◌≡◌ {A = ℕ} 0 1 = cc in omega arith

of_inj : {c d : Code} → Some c ≡ Some d → c ≡ d
of_inj p = cc

module _ {xs types heap : List ℕ} {top : ℕ} (S : Sources xs types heap top) (i : ℕ) (l : i < length types)
    (shut : closed 0 (type_of (map (type_at xs) types) i) ≡ true) where
  whole_tree : (y : TypeEntry) → type_at xs (get_or types i 0) ≡ y → tree_in xs types heap (entry_code i) ≡ type_tree (type_of (map (type_at xs) types)) y
  whole_tree y e =
      tree-entry (map (type_at xs) types) heap (entry_code i) refl ∙ sym (unfolds-at S.entries i l) ∙ ap (type_tree (type_of (map (type_at xs) types))) e

  mu-unfolds : (a : ℕ) → type_at xs (get_or types i 0) ≡ y_mu a → Unfolds xs types heap top i (under_code (number_at heap a) (number_at heap i))
  unfolding type_tree types_of_type unfold_ty
  mu-unfolds a e =
      let h = (below-head i a [] (subst (λ y. below i (types_of_type y) ≡ true) e (lower-at S.entries i l))).0 in
      record {
        body = type_of (map (type_at xs) types) a;
        whole = whole_tree (y_mu a) e;
        tree = tree-under (map (type_at xs) types) heap (under_code (number_at heap a) (number_at heap i)) refl
            ∙ ap₂ closed_by (S.figures.number_tree i l ∙ is a e) (S.figures.number_tree a (omega arith))
            ∙ closed-unfolds (type_of (map (type_at xs) types) a) (sym (ap free (is a e)) ∙ none_free);
        known = under-known (number_at heap a) (number_at heap i) (omega (arith, S.figures.number_lower a (omega arith)))
            (omega (arith, S.figures.number_lower i l));
      }
    where
      none_free : free (type_of (map (type_at xs) types) i) ≡ 0
      none_free = let f : free (type_of (map (type_at xs) types) i) ≤ 0 = (closed_iff_free 0 (type_of (map (type_at xs) types) i)).0 shut in omega arith

      is : (a : ℕ) → type_at xs (get_or types i 0) ≡ y_mu a → type_of (map (type_at xs) types) i ≡ mu (type_of (map (type_at xs) types) a)
      is a e = sym (tree-entry (map (type_at xs) types) heap (entry_code i) refl) ∙ whole_tree (y_mu a) e

  pub unfolds : {c : Code} → Some c ≡ body_of heap (type_at xs (get_or types i 0)) i → Unfolds xs types heap top i c
  unfolding body_of
  unfolds {c} p = by (type_at xs (get_or types i 0)) refl p
    where
      by : (y : TypeEntry) → type_at xs (get_or types i 0) ≡ y → Some c ≡ body_of heap y i → Unfolds xs types heap top i c
      by y_unit e p = absurd (of_other p)
      by (y_prod a b) e p = absurd (of_other p)
      by (y_sum a b) e p = absurd (of_other p)
      by (y_mu a) e p = subst (Unfolds xs types heap top i) (sym (of_inj p)) (mu-unfolds a e)
      by (y_var k) e p = absurd (of_other p)

  ----------------------------------------------------------------
  -- For the typing of roll and unroll (rules/specs/Check)

  module _ {A : Type 0} (at : Site) (f : Ty → Checked A) where
    pub not_recursive : None ≡ body_of heap (type_at xs (get_or types i 0)) i → as_mu at (tree_in xs types heap (entry_code i)) f ≡ bad 6 at
    unfolding body_of as_mu type_tree
    not_recursive p = by (type_at xs (get_or types i 0)) refl p
      where
        by : (y : TypeEntry) → type_at xs (get_or types i 0) ≡ y → None ≡ body_of heap y i → as_mu at (tree_in xs types heap (entry_code i)) f ≡ bad 6 at
        by y_unit e p = rw (whole_tree y_unit e)
        by (y_prod a b) e p = rw (whole_tree (y_prod a b) e)
        by (y_sum a b) e p = rw (whole_tree (y_sum a b) e)
        by (y_mu a) e p = absurd (of_other (sym p))
        by (y_var k) e p = rw (whole_tree (y_var k) e)

    pub recursive : {c : Code} (U : Unfolds xs types heap top i c) → as_mu at (tree_in xs types heap (entry_code i)) f ≡ f U.body
    unfolding as_mu
    recursive U = rw U.whole
