-- The set of a case's row decides whether the case chooses by an ancilla (02, F-3), whatever the types are.
use Prim.Native.Nat.{ℕ, zero, suc, ◌<◌}
use native.Mathlib.Omega.{arith}
use native.Mathlib.Decide.{dec_lt}
use mathlib.Core.Path.{◌≡◌, refl, sym, subst, ◌∙◌}
use mathlib.Core.Bool.{Bool, true}
use mathlib.Core.List.{List, []}
use lib.ListN.{length, get_or, get_or-eq_default}
use lib.Dec.{ltb}
use borrow.Author.Tests.{lt-ltb}
use package.Rattle.octets.specs.Runs.{Decides}
use package.Rattle.rules.specs.Limits.{max_variables}
use package.Rattle.rules.specs.Term.{inside, by_ancilla, within}
use package.Rattle.rules.proofs.Basics.{given}
use package.Rattle.calls.specs.Entries.{TypeEntry, n_var, n_unit, term_of_kind}
use package.Rattle.program.specs.Kinds.{variable_kind, case_kind}
use package.Rattle.varsets.specs.declared.Uses.{Uses}
use package.Rattle.varsets.specs.Sets.{Holds, AllInside}
use package.Rattle.decoded.specs.Rows.{kind_in, first_in, term_count, entry_in, terms_in, tree_in, names_in, named, Rows}
use package.Rattle.decoded.proofs.Agreeing.{length-listed, listed-entry}
use package.Rattle.decoded.proofs.Named.{set-decides, within-any, entries-within}

no-unit : {i : ℕ} → n_unit ≡ n_var i → ⊥
no-unit e = let z : ◌≡◌ {A = ℕ} 0 1 = cc in omega arith

-- the entry of a variable is of its kind
variable-entry : (kind a b c n t i : ℕ) (ts : List ℕ) → term_of_kind kind a b c n ts t ≡ n_var i → (kind ≡ variable_kind) × (n ≡ i)
unfolding term_of_kind
variable-entry zero a b c n t i ts e = (refl, cc)
variable-entry (suc zero) a b c n t i ts e = absurd (let z : ◌≡◌ {A = ℕ} 0 1 = cc in omega arith)
variable-entry (suc (suc zero)) a b c n t i ts e = absurd (let z : ◌≡◌ {A = ℕ} 0 1 = cc in omega arith)
variable-entry (suc (suc (suc zero))) a b c n t i ts e = absurd (let z : ◌≡◌ {A = ℕ} 0 1 = cc in omega arith)
variable-entry (suc (suc (suc (suc zero)))) a b c n t i ts e = absurd (let z : ◌≡◌ {A = ℕ} 0 1 = cc in omega arith)
variable-entry (suc (suc (suc (suc (suc zero))))) a b c n t i ts e = absurd (let z : ◌≡◌ {A = ℕ} 0 1 = cc in omega arith)
variable-entry (suc (suc (suc (suc (suc (suc zero)))))) a b c n t i ts e = absurd (let z : ◌≡◌ {A = ℕ} 0 1 = cc in omega arith)
variable-entry (suc (suc (suc (suc (suc (suc (suc zero))))))) a b c n t i ts e = absurd (let z : ◌≡◌ {A = ℕ} 0 1 = cc in omega arith)
variable-entry (suc (suc (suc (suc (suc (suc (suc (suc zero)))))))) a b c n t i ts e = absurd (let z : ◌≡◌ {A = ℕ} 0 1 = cc in omega arith)
variable-entry (suc (suc (suc (suc (suc (suc (suc (suc (suc zero))))))))) a b c n t i ts e = absurd (let z : ◌≡◌ {A = ℕ} 0 1 = cc in omega arith)
variable-entry (suc (suc (suc (suc (suc (suc (suc (suc (suc (suc k)))))))))) a b c n t i ts e = absurd (let z : ◌≡◌ {A = ℕ} 0 1 = cc in omega arith)

module _ {code : List ℕ} (R : Rows code) where
  small-entry : (t i : ℕ) → entry_in code t ≡ n_var i → t < term_count code → i < max_variables
  unfolding entry_in
  small-entry t i e l =
      given (variable-entry (kind_in code t) _ _ _ (first_in code t) _ i _ e) λ (kind, same). subst (λ i. i < max_variables) same (R.variables t l kind)

  -- every variable of a tree has a number that a set has room for
  pub small-variables : (ys : List TypeEntry) (t : ℕ) → within (λ i. ltb i max_variables) (tree_in code ys t) ≡ true
  unfolding terms_in
  small-variables ys t = entries-within (λ i. ltb i max_variables) ys (terms_in code) (λ k i e. lt-ltb i max_variables (go k i e (dec_lt k (term_count code)))) t
    where
      go : (k i : ℕ) → get_or (terms_in code) k n_unit ≡ n_var i → Dec (k < term_count code) → i < max_variables
      go k i e (yes l) = small-entry k i (sym (listed-entry code (term_count code) k l) ∙ e) l
      go k i e (no l) =
          absurd (no-unit (sym (get_or-eq_default (terms_in code) n_unit {n = k}
          (let z : length (terms_in code) ≡ term_count code = length-listed (entry_in code) 0 (term_count code) in omega arith)) ∙ e))

  pub chosen : {t : ℕ} {u : Uses} {r : Bool} → t < term_count code → kind_in code t ≡ case_kind → (q n : ℕ) → u ≡ names_in code t
      → Decides r (AllInside u q n) → (ys : List TypeEntry) → r ≡ by_ancilla q n (tree_in code ys (first_in code t))
  unfolding by_ancilla
  chosen {t} l e q n same D ys =
      set-decides q n (tree_in code [] (first_in code t)) (subst (λ u. Holds u (λ i. named i (tree_in code [] (first_in code t)))) (sym same) (R.names t l e))
      (small-variables [] (first_in code t)) D
      ∙ within-any (inside q n) [] ys (terms_in code) (first_in code t)
