-- The tests of a function once its body is typed: the type is the result's (6), and the dynamic parameter is used (8).
use Prim.Native.Nat.{ℕ, ◌-◌, ◌<◌}
use mathlib.Core.Path.{◌≡◌, refl, sym, ap, subst, ◌∙◌}
use mathlib.Core.Bool.{Bool, true, false}
use mathlib.Core.List.{List, map}
use lib.ListN.{length, get_or}
use package.Rattle.rules.specs.Ty.{Ty, is_unit, same_ty}
use package.Rattle.rules.proofs.Basics.{or_right}
use package.Rattle.calls.specs.Answer.{accepted, refused, ◌>>=◌, require}
use package.Rattle.calls.specs.Fields.{parameters_at}
use package.Rattle.calls.specs.Entries.{type_at, type_of, function_at}
use package.Rattle.program.specs.Parts.{result_of}
use package.Rattle.program.proofs.Shapes.{function-result}
use package.Rattle.types.specs.declared.codes.Code.{Code}
use package.Rattle.types.specs.Codes.{entry_code, tree_in, Known}
use package.Rattle.types.proofs.Trees.{tree-entry}
use package.Rattle.types.proofs.Outer.{entry_known}
use package.Rattle.varsets.specs.declared.Uses.{Uses}
use package.Rattle.varsets.specs.Sets.{has}
use package.Rattle.typing.specs.Checked.{Signed, end_answer}
use package.Rattle.typing.proofs.Parameters.{row-dynamic, parameter_there, result-there}

pub entry-tree : (xs types heap : List ℕ) {n : ℕ} {c : Code} → c ≡ entry_code n → tree_in xs types heap c ≡ type_of (map (type_at xs) types) n
entry-tree xs types heap {n} e = ap (tree_in xs types heap) e ∙ tree-entry (map (type_at xs) types) heap (entry_code n) refl

module _ {xs types row : List ℕ} {at : ℕ} (S : Signed xs types at row) where
  -- the codes of the result and of a parameter
  pub result-known : (top : ℕ) {n : ℕ} {c : Code} → n ≡ result_of xs at → c ≡ entry_code n → Known (length types) top c
  result-known top s e = subst (Known (length types) top) (sym e) (entry_known _ (subst (λ k. k < length types) (sym s) (result-there S.formed S.there)))

  pub parameter_known : (top : ℕ) {i : ℕ} {c : Code} → i < parameters_at xs at → c ≡ entry_code (get_or row i 0) → Known (length types) top c
  parameter_known top {i} l e = subst (Known (length types) top) (sym e) (entry_known _ (parameter_there S.formed S.signature S.there i l))

  module _ (heap : List ℕ) (τ : Ty) where
    -- what the code compares with, and what it asks about
    result_compared : {n : ℕ} {c : Code} {r : Bool} → n ≡ result_of xs at → c ≡ entry_code n → r ≡ same_ty τ (tree_in xs types heap c)
        → same_ty τ (type_of (map (type_at xs) types) (function_at xs at).result) ≡ r
    result_compared s e d = sym (d ∙ ap (same_ty τ) (entry-tree xs types heap e ∙ ap (type_of (map (type_at xs) types)) (s ∙ sym (function-result xs at))))

    dynamic-asked : {i : ℕ} {c : Code} {r : Bool} → i ≡ parameters_at xs at - 1 → c ≡ entry_code (get_or row i 0) → r ≡ is_unit (tree_in xs types heap c)
        → is_unit (type_of (map (type_at xs) types) (function_at xs at).dynamic) ≡ r
    dynamic-asked s e d = sym (d ∙ ap is_unit (entry-tree xs types heap e
        ∙ ap (type_of (map (type_at xs) types)) (ap (λ i. get_or row i 0) s ∙ row-dynamic S.formed S.signature)))

    pub result-differs : {n : ℕ} {c : Code} {r : Bool} (used : Bool) → n ≡ result_of xs at → c ≡ entry_code n
        → r ≡ same_ty τ (tree_in xs types heap c) → r ≡ false
        → refused 6 at ≡ end_answer xs types at τ used
    unfolding end_answer require ◌>>=◌
    result-differs used s e d f = rw (result_compared s e d ∙ f)

    module _ {n i : ℕ} {c c' : Code} {r r' : Bool} (s : n ≡ result_of xs at) (e : c ≡ entry_code n) (d : r ≡ same_ty τ (tree_in xs types heap c)) (t : r ≡ true)
        (s' : i ≡ parameters_at xs at - 1) (e' : c' ≡ entry_code (get_or row i 0)) (d' : r' ≡ is_unit (tree_in xs types heap c')) where
      pub dynamic-unit : (used : Bool) → r' ≡ true → accepted tt ≡ end_answer xs types at τ used
      unfolding end_answer require ◌>>=◌
      dynamic-unit used f = rw (result_compared s e d ∙ t, dynamic-asked s' e' d' ∙ f)

      module _ (u : Uses) {v : Bool} (h : v ≡ has u i) where
        -- the parameter that the code looks for
        found : has u (parameters_at xs at - 1) ≡ v
        found = ap (has u) (sym s') ∙ sym h

        pub dynamic-used : v ≡ true → accepted tt ≡ end_answer xs types at τ (has u (parameters_at xs at - 1))
        unfolding end_answer require ◌>>=◌
        dynamic-used f = rw (result_compared s e d ∙ t, or_right (is_unit (type_of (map (type_at xs) types) (function_at xs at).dynamic)) (found ∙ f))

        pub dynamic-unused : r' ≡ false → v ≡ false → refused 8 at ≡ end_answer xs types at τ (has u (parameters_at xs at - 1))
        unfolding end_answer require ◌>>=◌
        dynamic-unused f g = rw (result_compared s e d ∙ t, dynamic-asked s' e' d' ∙ f, found ∙ g)
