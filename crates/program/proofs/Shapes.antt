-- Which entry the field at `at` is, by its kind, with the parts that the view reads (specs/Parts). Kinds above the last are none of
-- section 1's; the definitions take them as the last.
use Prim.Native.Nat.{ℕ, suc, ◌+◌, ◌*◌, ◌-◌, ◌≤◌}
use native.Mathlib.Omega.{arith}
use mathlib.Core.Path.{◌≡◌, refl, ap}
use mathlib.Core.List.{List}
use package.Rattle.octets.specs.Numbers.{get16}
use package.Rattle.calls.specs.Fields.{call_kind, kind_at, length_at, parameters_at}
use package.Rattle.calls.specs.Entries.{y_unit, y_prod, y_sum, y_mu, y_var, type_of_kind, type_at, n_var, n_unit, n_inl, n_inr, n_roll, n_unroll, n_pair, n_let, n_letp, n_case, n_call, term_of_kind, term_at, call_ancillae, references, function_at}
use package.Rattle.program.specs.Parts.{variable, first, second, third, listed, result_of, body}
use package.Rattle.program.specs.Kinds.{unit_type_kind, product_kind, sum_kind, recursive_kind, type_variable_kind, variable_kind, unit_kind, inl_kind, inr_kind, pair_kind, let_kind, let_pair_kind, case_kind, roll_kind}

module _ (xs : List ℕ) (at : ℕ) where
  ----------------------------------------------------------------
  -- Types

  type_by : {k : ℕ} → kind_at xs at ≡ k → type_at xs at ≡ type_of_kind k (first xs at) (second xs at) (variable xs at)
  unfolding type_at
  type_by e = ap (λ k. type_of_kind k (first xs at) (second xs at) (variable xs at)) e

  pub type-unit : kind_at xs at ≡ unit_type_kind → type_at xs at ≡ y_unit
  unfolding type_of_kind
  type-unit e = type_by e

  pub type-prod : kind_at xs at ≡ product_kind → type_at xs at ≡ y_prod (first xs at) (second xs at)
  unfolding type_of_kind
  type-prod e = type_by e

  pub type-sum : kind_at xs at ≡ sum_kind → type_at xs at ≡ y_sum (first xs at) (second xs at)
  unfolding type_of_kind
  type-sum e = type_by e

  pub type-mu : kind_at xs at ≡ recursive_kind → type_at xs at ≡ y_mu (first xs at)
  unfolding type_of_kind
  type-mu e = type_by e

  pub type-var : type_variable_kind ≤ kind_at xs at → type_at xs at ≡ y_var (variable xs at)
  unfolding type_of_kind
  type-var h = type_by (let e : kind_at xs at ≡ suc (suc (suc (suc (kind_at xs at - 4)))) = omega arith in e)

  ----------------------------------------------------------------
  -- Terms

  pub term_by : {k : ℕ} → kind_at xs at ≡ k
      → term_at xs at ≡ term_of_kind k (first xs at) (second xs at) (third xs at) (variable xs at) (references xs (at + 6) (call_ancillae (length_at xs at))) (listed xs at (call_ancillae (length_at xs at)))
  unfolding term_at
  term_by e =
      ap (λ k. term_of_kind k (first xs at) (second xs at) (third xs at) (variable xs at) (references xs (at + 6) (call_ancillae (length_at xs at))) (listed xs at (call_ancillae (length_at xs at)))) e

  pub term-var : kind_at xs at ≡ variable_kind → term_at xs at ≡ n_var (variable xs at)
  unfolding term_of_kind
  term-var e = term_by e

  pub term-unit : kind_at xs at ≡ unit_kind → term_at xs at ≡ n_unit
  unfolding term_of_kind
  term-unit e = term_by e

  pub term_inl : kind_at xs at ≡ inl_kind → term_at xs at ≡ n_inl (first xs at) (second xs at)
  unfolding term_of_kind
  term_inl e = term_by e

  pub term_inr : kind_at xs at ≡ inr_kind → term_at xs at ≡ n_inr (first xs at) (second xs at)
  unfolding term_of_kind
  term_inr e = term_by e

  pub term-pair : kind_at xs at ≡ pair_kind → term_at xs at ≡ n_pair (first xs at) (second xs at)
  unfolding term_of_kind
  term-pair e = term_by e

  pub term_let : kind_at xs at ≡ let_kind → term_at xs at ≡ n_let (first xs at) (second xs at)
  unfolding term_of_kind
  term_let e = term_by e

  pub term_letp : kind_at xs at ≡ let_pair_kind → term_at xs at ≡ n_letp (first xs at) (second xs at)
  unfolding term_of_kind
  term_letp e = term_by e

  pub term_case : kind_at xs at ≡ case_kind → term_at xs at ≡ n_case (first xs at) (second xs at) (third xs at)
  unfolding term_of_kind
  term_case e = term_by e

  pub term-call : kind_at xs at ≡ call_kind
      → term_at xs at ≡ n_call (first xs at) (references xs (at + 6) (call_ancillae (length_at xs at))) (listed xs at (call_ancillae (length_at xs at)))
  unfolding term_of_kind
  term-call e = term_by e

  pub term-roll : kind_at xs at ≡ roll_kind → term_at xs at ≡ n_roll (first xs at) (second xs at)
  unfolding term_of_kind
  term-roll e = term_by e

  pub term_unroll : 10 ≤ kind_at xs at → term_at xs at ≡ n_unroll (first xs at) (second xs at)
  unfolding term_of_kind
  term_unroll h = term_by (let e : kind_at xs at ≡ suc (suc (suc (suc (suc (suc (suc (suc (suc (suc (kind_at xs at - 10)))))))))) = omega arith in e)

----------------------------------------------------------------
-- Functions

module _ (xs : List ℕ) (at : ℕ) where
  pub function-result : (function_at xs at).result ≡ result_of xs at
  unfolding function_at
  function-result = refl

  pub function-ancillae : (function_at xs at).ancillae ≡ references xs (at + 6) (parameters_at xs at - 1)
  unfolding function_at
  function-ancillae = refl

  -- the last parameter
  pub function-dynamic : 1 ≤ parameters_at xs at → (function_at xs at).dynamic ≡ listed xs at (parameters_at xs at - 1)
  unfolding function_at
  function-dynamic h = ap (get16 xs) (let e : at + 4 + 2 * parameters_at xs at ≡ at + 6 + 2 * (parameters_at xs at - 1) = omega arith in e)

  pub function-body : (function_at xs at).body ≡ body xs at
  unfolding function_at
  function-body = refl
