-- The parts of a value by the entry of its type: what they are, they are closed, and their types are the type's.
use Prim.Native.Nat.{ℕ, zero, suc, ◌+◌, ◌<◌}
use native.Mathlib.Omega.{arith}
use mathlib.Core.Path.{◌≡◌, refl, sym, ap, ap₂, subst, ◌∙◌}
use mathlib.Core.Bool.{Bool, true, false, cond}
use mathlib.Core.Option.{none, some}
use mathlib.Core.List.{List, [], ◌∷◌}
use lib.ListN.{length, get_or, set}
use lib.Dec.{eqb}
use package.Rattle.rules.specs.Ty.{Ty, one, prod, sum, mu, unfold_ty}
use package.Rattle.rules.proofs.Basics.{given, and_both}
use package.Rattle.calls.specs.Fields.{kind_at}
use package.Rattle.calls.specs.Entries.{type_at, type_of}
use package.Rattle.calls.specs.Tested.{closed}
use package.Rattle.program.specs.Parts.{first, second}
use package.Rattle.program.proofs.Shapes.{type-unit, type-prod, type-sum, type-mu}
use package.Rattle.program.specs.Kinds.{unit_type_kind, product_kind, sum_kind, recursive_kind, type_variable_kind}
use Rattle.std.specs.Prelude.{Option as Found, Some, None}
use package.Rattle.valuebytes.specs.declared.table.Parts.{Parts}
use package.Rattle.valuebytes.specs.declared.table.Parts.TheVariants as parts
use package.Rattle.valuebytes.specs.Scopes.{plugs, scope_of, type_under}
use package.Rattle.valuebytes.specs.Typing.{entries_of, TypesRead, Cells, Bound}
use package.Rattle.valuebytes.specs.Stack.{part_types, parts_of}
use package.Rattle.valuebytes.proofs.Plugs.{unfold_plugs}
use package.Rattle.valuebytes.proofs.Scopes.{scope-closed}
use package.Rattle.valuebytes.proofs.Trees.{tree-unit, tree-prod, tree-sum, tree-mu, prod-known, sum-known, mu-known}
use package.Rattle.valuebytes.proofs.Cells.{scope-push}

module _ (xs os binders outer : List ℕ) (top cell entry b : ℕ) where
  abbrev under : ℕ → Ty
  under i = type_under (entries_of xs os) binders outer cell i

  abbrev Part : ℕ → Type 0
  Part i = Bound xs os binders outer top cell i

  -- what the parts are, for a value of the type that the entry is under the cell
  pub data Split : Found Parts → Type 0 where
    nothing : part_types b (type_under (entries_of xs os) binders outer cell entry) ≡ some [] → Split (Some parts.Nothing)
    single : {i : ℕ} → part_types b (type_under (entries_of xs os) binders outer cell entry) ≡ some (under i ∷ []) → Part i → Split (Some (parts.One i))
    double : {i j : ℕ} → part_types b (type_under (entries_of xs os) binders outer cell entry) ≡ some (under i ∷ under j ∷ []) → Part i → Part j → Split (Some (parts.Two i j))
    body : {i : ℕ} → part_types b (type_under (entries_of xs os) binders outer cell entry)
        ≡ some (unfold_ty (plugs 1 (scope_of (entries_of xs os) binders outer cell) (type_of (entries_of xs os) i)) ∷ [])
        → kind_at xs (get_or os entry 0) ≡ recursive_kind → i ≡ first xs (get_or os entry 0) → Split (Some (parts.Body i))
    wrong : part_types b (type_under (entries_of xs os) binders outer cell entry) ≡ none → Split None

  module _ (T : TypesRead xs os) (B : Bound xs os binders outer top cell entry) where
    -- the type, from the tree of the entry
    under-tree : {c : Ty} → type_of (entries_of xs os) entry ≡ c → under entry ≡ plugs 0 (scope_of (entries_of xs os) binders outer cell) c
    unfolding type_under
    under-tree e = ap (plugs 0 (scope_of (entries_of xs os) binders outer cell)) e

    closes-tree : {c : Ty} → type_of (entries_of xs os) entry ≡ c → closed (length (scope_of (entries_of xs os) binders outer cell)) c ≡ true
    closes-tree e = subst (λ c. closed (length (scope_of (entries_of xs os) binders outer cell)) c ≡ true) e B.closes

    part : (i : ℕ) → i < length os → closed (length (scope_of (entries_of xs os) binders outer cell)) (type_of (entries_of xs os) i) ≡ true → Part i
    part i l c = record { known = l; within = B.within; closes = c }

    ----------------------------------------------------------------
    -- By kind

    under_one : kind_at xs (get_or os entry 0) ≡ unit_type_kind → under entry ≡ one
    unfolding plugs
    under_one k = under-tree (tree-unit xs os T entry B.known k)

    by_unit : kind_at xs (get_or os entry 0) ≡ unit_type_kind → Split (parts_of b (type_at xs (get_or os entry 0)))
    unfolding parts_of part_types
    by_unit k = subst (λ y. Split (parts_of b y)) (sym (type-unit xs (get_or os entry 0) k)) (go (eqb b 0) refl)
      where
        go : (x : Bool) → eqb b 0 ≡ x → Split (cond x (Some parts.Nothing) None)
        go true e = nothing (ap (part_types b) (under_one k) ∙ ap (λ x. cond x (some []) none) e)
        go false e = wrong (ap (part_types b) (under_one k) ∙ ap (λ x. cond x (some []) none) e)

    under-prod : kind_at xs (get_or os entry 0) ≡ product_kind → under entry ≡ prod (under (first xs (get_or os entry 0))) (under (second xs (get_or os entry 0)))
    unfolding type_under plugs
    under-prod k = under-tree (tree-prod xs os T entry B.known k)

    by_prod : kind_at xs (get_or os entry 0) ≡ product_kind → Split (parts_of b (type_at xs (get_or os entry 0)))
    unfolding parts_of part_types closed
    by_prod k = subst (λ y. Split (parts_of b y)) (sym (type-prod xs (get_or os entry 0) k)) (go (eqb b 3) refl)
      where
        left : ℕ
        left = first xs (get_or os entry 0)

        right : ℕ
        right = second xs (get_or os entry 0)

        types : (x : Bool) → eqb b 3 ≡ x → part_types b (under entry) ≡ cond x (some (under left ∷ under right ∷ [])) none
        types x e = ap (part_types b) (under-prod k) ∙ ap (λ x. cond x (some (under left ∷ under right ∷ [])) none) e

        go : (x : Bool) → eqb b 3 ≡ x → Split (cond x (Some (parts.Two left right)) None)
        go true e =
            given (prod-known xs os T entry B.known k) λ (l, r).
            given (and_both _ _ (closes-tree (tree-prod xs os T entry B.known k))) λ (x, y). double (types true e) (part left l x) (part right r y)
        go false e = wrong (types false e)

    under-sum : kind_at xs (get_or os entry 0) ≡ sum_kind → under entry ≡ sum (under (first xs (get_or os entry 0))) (under (second xs (get_or os entry 0)))
    unfolding type_under plugs
    under-sum k = under-tree (tree-sum xs os T entry B.known k)

    by_sum : kind_at xs (get_or os entry 0) ≡ sum_kind → Split (parts_of b (type_at xs (get_or os entry 0)))
    unfolding parts_of part_types closed
    by_sum k = subst (λ y. Split (parts_of b y)) (sym (type-sum xs (get_or os entry 0) k)) (go (eqb b 1) (eqb b 2) refl refl)
      where
        left : ℕ
        left = first xs (get_or os entry 0)

        right : ℕ
        right = second xs (get_or os entry 0)

        types : (x y : Bool) → eqb b 1 ≡ x → eqb b 2 ≡ y → part_types b (under entry) ≡ cond x (some (under left ∷ [])) (cond y (some (under right ∷ [])) none)
        types x y e f = ap (part_types b) (under-sum k) ∙ ap₂ (λ x y. cond x (some (under left ∷ [])) (cond y (some (under right ∷ [])) none)) e f

        sides : Part left × Part right
        sides =
            given (sum-known xs os T entry B.known k) λ (l, r).
            given (and_both _ _ (closes-tree (tree-sum xs os T entry B.known k))) λ (x, y). (part _ l x, part _ r y)

        go : (x y : Bool) → eqb b 1 ≡ x → eqb b 2 ≡ y → Split (cond x (Some (parts.One left)) (cond y (Some (parts.One right)) None))
        go true y e f = single (types true y e f) sides.0
        go false true e f = single (types false true e f) sides.1
        go false false e f = wrong (types false false e f)

    under-mu : kind_at xs (get_or os entry 0) ≡ recursive_kind
        → under entry ≡ mu (plugs 1 (scope_of (entries_of xs os) binders outer cell) (type_of (entries_of xs os) (first xs (get_or os entry 0))))
    unfolding plugs
    under-mu k = under-tree (tree-mu xs os T entry B.known k)

    by_mu : kind_at xs (get_or os entry 0) ≡ recursive_kind → Split (parts_of b (type_at xs (get_or os entry 0)))
    unfolding parts_of part_types
    by_mu k = subst (λ y. Split (parts_of b y)) (sym (type-mu xs (get_or os entry 0) k)) (go (eqb b 4) refl)
      where
        inner : Ty
        inner = unfold_ty (plugs 1 (scope_of (entries_of xs os) binders outer cell) (type_of (entries_of xs os) (first xs (get_or os entry 0))))

        types : (x : Bool) → eqb b 4 ≡ x → part_types b (under entry) ≡ cond x (some (inner ∷ [])) none
        types x e = ap (part_types b) (under-mu k) ∙ ap (λ x. cond x (some (inner ∷ [])) none) e

        go : (x : Bool) → eqb b 4 ≡ x → Split (cond x (Some (parts.Body (first xs (get_or os entry 0)))) None)
        go true e = body (types true e) k refl
        go false e = wrong (types false e)

    -- of an entry that is no variable
    pub split : kind_at xs (get_or os entry 0) < type_variable_kind → Split (parts_of b (type_at xs (get_or os entry 0)))
    split h = go (kind_at xs (get_or os entry 0)) refl h
      where
        go : (k : ℕ) → kind_at xs (get_or os entry 0) ≡ k → k < 4 → Split (parts_of b (type_at xs (get_or os entry 0)))
        go zero e l = by_unit e
        go (suc zero) e l = by_prod e
        go (suc (suc zero)) e l = by_sum e
        go (suc (suc (suc zero))) e l = by_mu e
        go (suc (suc (suc (suc k)))) e l = absurd (omega arith)

    -- the body of a recursive type under one more cell is what the type unfolds to
    module _ (C : Cells xs os binders outer top) (lb : top + 1 < length binders) (lo : top + 1 < length outer) (k : kind_at xs (get_or os entry 0) ≡ recursive_kind) where
      body-scope : scope_of (entries_of xs os) (set binders (top + 1) entry) (set outer (top + 1) cell) (top + 1) ≡ under entry ∷ scope_of (entries_of xs os) binders outer cell
      body-scope = scope-push xs os binders outer top cell entry C B lb lo k

      pub body-type : unfold_ty (plugs 1 (scope_of (entries_of xs os) binders outer cell) (type_of (entries_of xs os) (first xs (get_or os entry 0))))
          ≡ type_under (entries_of xs os) (set binders (top + 1) entry) (set outer (top + 1) cell) (top + 1) (first xs (get_or os entry 0))
      unfolding type_under
      body-type =
          let σ = scope_of (entries_of xs os) binders outer cell in
          unfold_plugs σ (scope-closed (entries_of xs os) binders outer cell) (type_of (entries_of xs os) (first xs (get_or os entry 0)))
          ∙ ap (λ c. plugs 0 (c ∷ σ) (type_of (entries_of xs os) (first xs (get_or os entry 0)))) (sym (under-mu k))
          ∙ ap (λ σ. plugs 0 σ (type_of (entries_of xs os) (first xs (get_or os entry 0)))) (sym body-scope)

      pub body-bound : Bound xs os (set binders (top + 1) entry) (set outer (top + 1) cell) (top + 1) (top + 1) (first xs (get_or os entry 0))
      unfolding closed
      body-bound = record {
        known = mu-known xs os T entry B.known k;
        within = omega arith;
        closes = subst (λ σ. closed (length σ) (type_of (entries_of xs os) (first xs (get_or os entry 0))) ≡ true) (sym body-scope) (closes-tree (tree-mu xs os T entry B.known k));
      }
