-- Looking for aliases: what each step asks, and that what it leaves are figures still.
use Prim.Native.Nat.{ℕ, ◌+◌, ◌≤◌, ◌<◌}
use native.Mathlib.Omega.{arith}
use mathlib.Core.Path.{◌≡◌, refl, sym, ap, subst, ◌∙◌}
use mathlib.Core.Bool.{Bool, true}
use mathlib.Core.List.{List, map}
use lib.ListN.{length, get_or}
use package.Rattle.rules.specs.Ty.{same_ty}
use package.Rattle.rules.proofs.Typing.Tests.{same_ty_eq}
use package.Rattle.calls.specs.Fields.{kind_at}
use package.Rattle.calls.specs.Entries.{type_at}
use package.Rattle.program.specs.Parts.{first, second}
use Rattle.std.specs.Prelude.{Option}
use denote.Enum.Bare.{sameb, same_true}
use borrow.Author.Rules.{rules}
use mathlib.Core.Logic.{◌⊎◌, ⊎_elim}
use package.Rattle.program.specs.contracts.kinds.TypeKind.{the_type}
use package.Rattle.program.specs.declared.kinds.TypeKind.{TypeKind}
use package.Rattle.program.specs.declared.kinds.TypeKind.TheVariants as T
use package.Rattle.program.specs.KindNumbers.{type_kind_number}
use package.Rattle.types.specs.Figures.{number_at, Figured}
use package.Rattle.types.specs.Codes.{entry_code, under_code, tree_in, Known, Sources}
use package.Rattle.types.specs.Numbering.{put_alias, Traceable}
use package.Rattle.types.proofs.Figuring.{alias-more}
use package.Rattle.types.proofs.Trees.{tree-entry, tree-under}
use package.Rattle.types.proofs.Outer.{first-lower, second-lower, entry_known, under-known}
use package.Rattle.types.proofs.Beginning.{no-products}

-- a product or a sum
pub two-kinds : {k : TypeKind} → (k ≡ T.Product) ⊎ (k ≡ T.Sum) → (¬ (type_kind_number k ≡ 0)) × (type_kind_number k < 3)
two-kinds = ⊎_elim (λ e. rw e ((λ z. omega (arith, z)), omega arith)) (λ e. rw e ((λ z. omega (arith, z)), omega arith))

-- kinds that are told to be the same are
pub kind-is : {k k' : TypeKind} {r : Bool} → r ≡ sameb the_type k k' → r ≡ true → k ≡ k'
kind-is {k} {k'} p q = same_true the_type (search rules) k k' (sym p ∙ q)

module _ {xs types heap keys : List ℕ} {index : List (Option ℕ)} (T : Traceable xs types heap keys index) where
  pub still : {heap' : List ℕ} → Figured (map (type_at xs) types) heap' (length types) → Traceable xs types heap' keys index
  still F = record { entries = T.entries; figured = F; keys_held = T.keys_held; index_held = T.index_held; taken = T.taken }

  pub number-there : {k n alias : ℕ} → k < length types → n ≡ k → alias ≡ number_at heap n → alias < length types
  number-there {k} l e q = omega (arith, q, ap (number_at heap) e, T.figured.number_lower k l)

  ----------------------------------------------------------------
  -- An alias kept

  module _ {i j k : ℕ} (li : i < length types) (lj : j < length types) (lk : k < length types) where
    pub codes_known : Known (length types) 0 (under_code i j) × Known (length types) 0 (entry_code k)
    codes_known = (under-known i j li lj, entry_known k lk)

    pub alias-figured : {r : Bool} → r ≡ same_ty (tree_in xs types heap (under_code i j)) (tree_in xs types heap (entry_code k)) → r ≡ true
        → {heap' : List ℕ} → heap' ≡ put_alias heap i j k → Figured (map (type_at xs) types) heap' (length types)
    alias-figured e t w = subst (λ heap. Figured (map (type_at xs) types) heap (length types)) (sym w)
        (alias-more T.figured T.entries.few li lj lk
        (sym (tree-entry (map (type_at xs) types) heap (entry_code k) refl) ∙ sym (same_ty_eq _ _ (sym e ∙ t))
        ∙ tree-under (map (type_at xs) types) heap (under_code i j) refl))

  ----------------------------------------------------------------
  -- A part traced: its number `i`, whose field is at `at`

  module _ {part i : ℕ} (l : part < length types) (q : i ≡ number_at heap part) where
    pub own-there : (i < length types) × (i ≤ part)
    own-there = omega (arith, q, T.figured.number_lower part l)

    -- its field, and the parts of it, which are lower
    module _ {at : ℕ} (f : at ≡ get_or types i 0) where
      pub recursive-part : 3 ≡ kind_at xs at → {x : ℕ} → x ≡ first xs at → (x < part) × (x < length types)
      recursive-part g p = omega (arith, p, own-there, first-lower T.entries own-there.0 refl f g (λ z. omega (arith, z)) (omega arith))

      module _ {kind : ℕ} (g : kind ≡ kind_at xs at) (z : ¬ (kind ≡ 0)) (few : kind < 3) where
        pub first-part : {x : ℕ} → x ≡ first xs at → (x < part) × (x < length types)
        first-part p = omega (arith, p, own-there, first-lower T.entries own-there.0 refl f g z (omega arith))

        pub second-part : {x : ℕ} → x ≡ second xs at → (x < part) × (x < length types)
        second-part p = omega (arith, p, own-there, second-lower T.entries own-there.0 refl f g z few)

  -- the body of a recursive type, in which its variable is free
  pub body-asked : {m : ℕ} → m < length types → {at : ℕ} → at ≡ get_or types m 0 → 3 ≡ kind_at xs at → {x : ℕ} → x ≡ first xs at
      → (x < length types) × (m < length types) × (1 + x ≤ 512)
  body-asked {m} l f g p =
      let low : first xs _ < m = first-lower T.entries l refl f g (λ z. omega (arith, z)) (omega arith) in
      (omega (arith, low, p), l, omega (arith, low, p, T.entries.few))
