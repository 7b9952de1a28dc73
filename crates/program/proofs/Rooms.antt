-- How many bytes a well-formed field has, by its kind: what the view of an entry asks for.
use Prim.Native.Nat.{ℕ, ◌+◌, ◌*◌, ◌%◌, ◌≤◌, ◌<◌}
use native.Mathlib.Omega.{arith}
use mathlib.Core.Path.{◌≡◌, refl, sym, ap, subst, ◌∙◌}
use mathlib.Core.Bool.{true, false, cond}
use mathlib.Core.List.{List}
use native.Mathlib.Decide.{dec_lt}
use lib.ListN.{length, get_or, get_or-eq_default}
use lib.Dec.{eqb, leb}
use package.Rattle.rules.proofs.Basics.{given, and_both, eqb-sound, eqb-differs}
use package.Rattle.rules.proofs.Typing.Tests.{leb-sound}
use package.Rattle.calls.specs.Fields.{call_kind, length_at, next_at, kind_at, parameters_at, type_lengths, term_lengths, type_length, term_length, call_length, function_length}
use package.Rattle.calls.specs.Entries.{call_ancillae}
use package.Rattle.program.specs.Parts.{TypeField, TermField, FunctionField}
use package.Rattle.program.specs.Kinds.{product_kind, sum_kind, recursive_kind, type_variable_kind, type_kinds, variable_kind, case_kind, term_kinds}

-- the body is as long as the table of lengths says
type-length : (k n : ℕ) → type_length k n ≡ true → (1 ≤ n) × (n ≡ get_or type_lengths k 0)
unfolding type_length
type-length k n e = given (and_both (leb 1 n) _ e) λ (x, y). (leb-sound 1 n x, eqb-sound n _ y)

module _ {xs : List ℕ} {at : ℕ} (F : TypeField xs at) where
  -- there is no sixth kind
  pub type-kind : kind_at xs at < type_kinds
  unfolding type_lengths
  type-kind = go (dec_lt (kind_at xs at) 5)
    where
      go : Dec (kind_at xs at < type_kinds) → kind_at xs at < type_kinds
      go (yes l) = l
      go (no l) =
          given (type-length (kind_at xs at) (length_at xs at) F.sized) λ (some, same).
          absurd (omega (arith, some, same, get_or-eq_default type_lengths 0 {n = kind_at xs at} (let z : 5 ≤ kind_at xs at = omega arith in z)))

  pub type-kind-room : at + 4 ≤ length xs
  unfolding next_at
  type-kind-room = omega (arith, F.inside, (type-length (kind_at xs at) (length_at xs at) F.sized).0)

  type-room : {k : ℕ} → kind_at xs at ≡ k → at + 3 + get_or type_lengths k 0 ≤ length xs
  unfolding next_at
  type-room e = omega (arith, F.inside, (type-length (kind_at xs at) (length_at xs at) F.sized).1, ap (λ k. get_or type_lengths k 0) e)

  pub prod-room : kind_at xs at ≡ product_kind → at + 8 ≤ length xs
  unfolding type_lengths
  prod-room e = omega (arith, type-room e)

  pub sum_room : kind_at xs at ≡ sum_kind → at + 8 ≤ length xs
  unfolding type_lengths
  sum_room e = omega (arith, type-room e)

  pub mu-room : kind_at xs at ≡ recursive_kind → at + 6 ≤ length xs
  unfolding type_lengths
  mu-room e = omega (arith, type-room e)

  pub tyvar-room : kind_at xs at ≡ type_variable_kind → at + 5 ≤ length xs
  unfolding type_lengths
  tyvar-room e = omega (arith, type-room e)

----------------------------------------------------------------
-- Terms

-- the body is as long as the table of lengths says; a call's has two references at least
term-length : (k n : ℕ) → term_length k n ≡ true → (1 ≤ n) × (cond (eqb k call_kind) (call_length n) (eqb n (get_or term_lengths k 0)) ≡ true)
unfolding term_length
term-length k n e = given (and_both (leb 1 n) _ e) λ (x, y). (leb-sound 1 n x, y)

plain-length : (k n : ℕ) → eqb k call_kind ≡ false → term_length k n ≡ true → n ≡ get_or term_lengths k 0
plain-length k n d e = eqb-sound n _ (subst (λ b. cond b (call_length n) (eqb n (get_or term_lengths k 0)) ≡ true) d (term-length k n e).1)

call_length_lem : (n : ℕ) → term_length call_kind n ≡ true → (5 ≤ n) × (n % 2 ≡ 1)
unfolding call_length
call_length_lem n e = given (and_both (leb 5 n) _ (term-length call_kind n e).1) λ (x, y). (leb-sound 5 n x, eqb-sound _ 1 y)

module _ {xs : List ℕ} {at : ℕ} (F : TermField xs at) where
  -- there is no twelfth kind
  pub term-kind : kind_at xs at < term_kinds
  unfolding term_lengths
  term-kind = go (dec_lt (kind_at xs at) 11)
    where
      go : Dec (kind_at xs at < term_kinds) → kind_at xs at < term_kinds
      go (yes l) = l
      go (no l) =
          let beyond : 11 ≤ kind_at xs at = omega arith in
          given (term-length (kind_at xs at) (length_at xs at) F.sized) λ (some, same).
          absurd (omega (arith, some, plain-length (kind_at xs at) (length_at xs at) (eqb-differs (kind_at xs at) call_kind λ e. omega arith) F.sized, get_or-eq_default term_lengths 0 beyond))

  pub term-kind-room : at + 4 ≤ length xs
  unfolding next_at
  term-kind-room = omega (arith, F.inside, (term-length (kind_at xs at) (length_at xs at) F.sized).0)

  -- of a kind that is no call
  pub term-room : {k : ℕ} → kind_at xs at ≡ k → eqb k call_kind ≡ false → at + 3 + get_or term_lengths k 0 ≤ length xs
  unfolding next_at
  term-room {k} e d =
      omega (arith, F.inside, plain-length k (length_at xs at) d (subst (λ k. term_length k (length_at xs at) ≡ true) e F.sized))

  pub var-room : kind_at xs at ≡ variable_kind → at + 5 ≤ length xs
  unfolding term_lengths
  var-room e = omega (arith, term-room e refl)

  -- a type and a term, or two terms
  pub two-room : {k : ℕ} → kind_at xs at ≡ k → get_or term_lengths k 0 ≡ 5 → at + 8 ≤ length xs
  unfolding term_lengths
  two-room {k} e l = omega (arith, term-room e (two-no-call k l), l)
    where
      two-no-call : (k : ℕ) → get_or term_lengths k 0 ≡ 5 → eqb k call_kind ≡ false
      two-no-call k l = eqb-differs k call_kind λ e. let z : ◌≡◌ {A = ℕ} 0 5 = ap (λ k. get_or term_lengths k 0) (sym e) ∙ l in omega arith

  pub case_room : kind_at xs at ≡ case_kind → at + 10 ≤ length xs
  unfolding term_lengths
  case_room e = omega (arith, term-room e refl)

  -- a call's function, and as many terms as its length says
  pub call-sized : kind_at xs at ≡ call_kind → 5 ≤ length_at xs at
  call-sized e = (call_length_lem (length_at xs at) (subst (λ k. term_length k (length_at xs at) ≡ true) e F.sized)).0

  pub call-room : kind_at xs at ≡ call_kind → at + 8 + 2 * call_ancillae (length_at xs at) ≤ length xs
  unfolding next_at call_ancillae
  call-room e = omega (arith, F.inside, call-sized e)

----------------------------------------------------------------
-- Functions

module _ {xs : List ℕ} {at : ℕ} (F : FunctionField xs at) where
  pub function-room : at + 8 + 2 * parameters_at xs at ≤ length xs
  unfolding next_at function_length
  function-room = omega (arith, F.inside, eqb-sound (length_at xs at) (5 + 2 * parameters_at xs at) F.sized)
