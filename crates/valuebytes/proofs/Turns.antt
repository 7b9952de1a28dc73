-- Bytes read by types: each byte takes the next pending type and leaves those of its value's parts. So the bytes of values of given types,
-- one after another, are found without a tree, as the reader of the calls and the test of a value's type find them.
use Prim.Native.Nat.{ℕ, zero, suc, ◌+◌, ◌≤◌, ◌<◌}
use native.Mathlib.Omega.{arith}
use mathlib.Core.Path.{◌≡◌, refl, sym, ap, ◌∙◌}
use mathlib.Core.Bool.{Bool, true, false, cond, ◌&&◌}
use mathlib.Core.Option.{Option, none, some}
use mathlib.Core.List.{List, [], ◌∷◌}
use lib.ListN.{length}
use lib.Dec.{eqb}
use borrow.Author.Tests.{ne_eqb}
use package.Rattle.rules.specs.Val.{Val, inl, inr, pair, roll, size}
use package.Rattle.rules.specs.Ty.{Ty, one, prod, sum, mu, tyvar, unfold_ty}
use package.Rattle.calls.specs.Values.{Read, got, malformed, then, read, has_ty}
use package.Rattle.valuebytes.specs.Stack.{part_types, before, behind}
use package.Rattle.valuebytes.proofs.Pending.{more, more-more, read_shorter}

-- how many bytes the values of the types `cs` take, if the bytes begin with such values
unfoldable pub bytes_for : List ℕ → List Ty → Option ℕ
unfolding more behind
bytes_for [] [] = some 0
bytes_for [] (c ∷ cs) = none
bytes_for (x ∷ xs) [] = some 0
bytes_for (x ∷ xs) (c ∷ cs) = elim (behind x (c ∷ cs)) [ none ↦ none | some ds ↦ more 1 (bytes_for xs ds) ]

pub bytes_none : (xs : List ℕ) → bytes_for xs [] ≡ some 0
unfolding bytes_for
bytes_none [] = refl
bytes_none (x ∷ xs) = refl

----------------------------------------------------------------
-- One byte

pub bytes_on : (x : ℕ) (xs : List ℕ) (c : Ty) (cs : List Ty) {ds : List Ty} → behind x (c ∷ cs) ≡ some ds → bytes_for (x ∷ xs) (c ∷ cs) ≡ more 1 (bytes_for xs ds)
unfolding bytes_for
bytes_on x xs c cs e = rw (bytes_for, e)

pub bytes-off : (x : ℕ) (xs : List ℕ) (c : Ty) (cs : List Ty) → behind x (c ∷ cs) ≡ none → bytes_for (x ∷ xs) (c ∷ cs) ≡ none
unfolding bytes_for
bytes-off x xs c cs e = rw (bytes_for, e)

-- a byte that begins no value
part-over : (b : ℕ) → 4 < b → (c : Ty) → part_types b c ≡ none
unfolding part_types
part-over b h one = ap (λ x. cond x (some []) none) (ne_eqb b 0 (λ e. omega arith))
part-over b h (prod c d) = ap (λ x. cond x (some (c ∷ d ∷ [])) none) (ne_eqb b 3 (λ e. omega arith))
part-over b h (sum c d) =
    ap (λ x. cond x (some (c ∷ [])) (cond (eqb b 2) (some (d ∷ [])) none)) (ne_eqb b 1 (λ e. omega arith)) ∙ ap (λ x. cond x (some (d ∷ [])) none) (ne_eqb b 2 (λ e. omega arith))
part-over b h (mu c) = ap (λ x. cond x (some (unfold_ty c ∷ [])) none) (ne_eqb b 4 (λ e. omega arith))
part-over b h (tyvar i) = refl

----------------------------------------------------------------
-- What was read, and values of the types `cs` behind it

unfoldable pub typed_behind : Read → Ty → List Ty → Option ℕ
typed_behind (got v xs) c cs = cond (has_ty v c) (more (size v) (bytes_for xs cs)) none
typed_behind malformed c cs = none

-- a value under a constructor that adds `a` bytes, of a type whose part is of type `d`
typed-under : (con : Val → Val) (a : ℕ) (c d : Ty) (cs : List Ty) → ((v : Val) → size (con v) ≡ a + size v) → ((v : Val) → has_ty (con v) c ≡ has_ty v d) → (r : Read)
    → more a (typed_behind r d cs) ≡ typed_behind (then r λ v xs. got (con v) xs) c cs
unfolding typed_behind then more
typed-under con a c d cs s h (got v xs) = go (has_ty v d) (h v)
  where
    go : (b : Bool) → has_ty (con v) c ≡ b → more a (cond b (more (size v) (bytes_for xs cs)) none) ≡ cond (has_ty (con v) c) (more (size (con v)) (bytes_for xs cs)) none
    go true e = more-more a (size v) (size (con v)) (bytes_for xs cs) (sym (s v)) ∙ ap (λ b. cond b (more (size (con v)) (bytes_for xs cs)) none) (sym e)
    go false e = ap (λ b. cond b (more (size (con v)) (bytes_for xs cs)) none) (sym e)
typed-under con a c d cs s h malformed = refl

-- or of a type that has no such value
typed_wrong : (con : Val → Val) (c : Ty) (cs : List Ty) → ((v : Val) → has_ty (con v) c ≡ false) → (r : Read)
    → none ≡ typed_behind (then r λ v xs. got (con v) xs) c cs
unfolding typed_behind then
typed_wrong con c cs h (got v xs) = ap (λ b. cond b (more (size (con v)) (bytes_for xs cs)) none) (sym (h v))
typed_wrong con c cs h malformed = refl

pair-wrong : (k : ℕ) (c : Ty) (cs : List Ty) → ((v w : Val) → has_ty (pair v w) c ≡ false) → (r : Read)
    → none ≡ typed_behind (then r λ v xs. then (read k xs) λ w xs. got (pair v w) xs) c cs
unfolding typed_behind then
pair-wrong k c cs h (got v xs) = typed_wrong (pair v) c cs (h v) (read k xs)
pair-wrong k c cs h malformed = refl

-- the two values of a pair; `rest` is the law for the second
pair_typed : (k : ℕ) (xs : List ℕ) (c d : Ty) (cs : List Ty) → length xs ≤ k
    → ((ys : List ℕ) → length ys ≤ k → bytes_for ys (d ∷ cs) ≡ typed_behind (read k ys) d cs)
    → (r : Read) → read k xs ≡ r → more 1 (typed_behind r c (d ∷ cs)) ≡ typed_behind (then r λ v xs. then (read k xs) λ w xs. got (pair v w) xs) (prod c d) cs
unfolding typed_behind then more size has_ty
pair_typed k xs c d cs h rest (got v ys) e = go (has_ty v c) refl
  where
    go : (b : Bool) → has_ty v c ≡ b
        → more 1 (cond b (more (size v) (bytes_for ys (d ∷ cs))) none) ≡ typed_behind (then (read k ys) λ w xs. got (pair v w) xs) (prod c d) cs
    go true t =
        more-more 1 (size v) (suc (size v)) (bytes_for ys (d ∷ cs)) (omega arith)
        ∙ ap (more (suc (size v))) (rest ys (omega (arith, read_shorter k xs e)))
        ∙ typed-under (pair v) (suc (size v)) (prod c d) d cs (λ w. omega arith) (λ w. ap (λ b. b && has_ty w d) t) (read k ys)
    go false t = typed_wrong (pair v) (prod c d) cs (λ w. ap (λ b. b && has_ty w d) t) (read k ys)
pair_typed k xs c d cs h rest malformed e = refl

----------------------------------------------------------------
-- The law

pub bytes-typed : (k : ℕ) (xs : List ℕ) (c : Ty) (cs : List Ty) → length xs ≤ k → bytes_for xs (c ∷ cs) ≡ typed_behind (read k xs) c cs
unfolding read bytes_for typed_behind behind part_types size has_ty
bytes-typed zero [] c cs h = refl
bytes-typed zero (x ∷ xs) c cs h = absurd (omega arith)
bytes-typed (suc k) [] c cs h = refl
bytes-typed (suc k) (zero ∷ xs) one cs h = refl
bytes-typed (suc k) (zero ∷ xs) (prod c d) cs h = refl
bytes-typed (suc k) (zero ∷ xs) (sum c d) cs h = refl
bytes-typed (suc k) (zero ∷ xs) (mu c) cs h = refl
bytes-typed (suc k) (zero ∷ xs) (tyvar i) cs h = refl
bytes-typed (suc k) (suc zero ∷ xs) one cs h = typed_wrong inl one cs (λ v. refl) (read k xs)
bytes-typed (suc k) (suc zero ∷ xs) (prod c d) cs h = typed_wrong inl (prod c d) cs (λ v. refl) (read k xs)
bytes-typed (suc k) (suc zero ∷ xs) (sum c d) cs h =
    ap (more 1) (bytes-typed k xs c cs (omega arith)) ∙ typed-under inl 1 (sum c d) c cs (λ v. omega arith) (λ v. refl) (read k xs)
bytes-typed (suc k) (suc zero ∷ xs) (mu c) cs h = typed_wrong inl (mu c) cs (λ v. refl) (read k xs)
bytes-typed (suc k) (suc zero ∷ xs) (tyvar i) cs h = typed_wrong inl (tyvar i) cs (λ v. refl) (read k xs)
bytes-typed (suc k) (suc (suc zero) ∷ xs) one cs h = typed_wrong inr one cs (λ v. refl) (read k xs)
bytes-typed (suc k) (suc (suc zero) ∷ xs) (prod c d) cs h = typed_wrong inr (prod c d) cs (λ v. refl) (read k xs)
bytes-typed (suc k) (suc (suc zero) ∷ xs) (sum c d) cs h =
    ap (more 1) (bytes-typed k xs d cs (omega arith)) ∙ typed-under inr 1 (sum c d) d cs (λ v. omega arith) (λ v. refl) (read k xs)
bytes-typed (suc k) (suc (suc zero) ∷ xs) (mu c) cs h = typed_wrong inr (mu c) cs (λ v. refl) (read k xs)
bytes-typed (suc k) (suc (suc zero) ∷ xs) (tyvar i) cs h = typed_wrong inr (tyvar i) cs (λ v. refl) (read k xs)
bytes-typed (suc k) (suc (suc (suc zero)) ∷ xs) one cs h = pair-wrong k one cs (λ v w. refl) (read k xs)
bytes-typed (suc k) (suc (suc (suc zero)) ∷ xs) (prod c d) cs h =
    ap (more 1) (bytes-typed k xs c (d ∷ cs) (omega arith)) ∙ pair_typed k xs c d cs (omega arith) (λ ys l. bytes-typed k ys d cs l) (read k xs) refl
bytes-typed (suc k) (suc (suc (suc zero)) ∷ xs) (sum c d) cs h = pair-wrong k (sum c d) cs (λ v w. refl) (read k xs)
bytes-typed (suc k) (suc (suc (suc zero)) ∷ xs) (mu c) cs h = pair-wrong k (mu c) cs (λ v w. refl) (read k xs)
bytes-typed (suc k) (suc (suc (suc zero)) ∷ xs) (tyvar i) cs h = pair-wrong k (tyvar i) cs (λ v w. refl) (read k xs)
bytes-typed (suc k) (suc (suc (suc (suc zero))) ∷ xs) one cs h = typed_wrong roll one cs (λ v. refl) (read k xs)
bytes-typed (suc k) (suc (suc (suc (suc zero))) ∷ xs) (prod c d) cs h = typed_wrong roll (prod c d) cs (λ v. refl) (read k xs)
bytes-typed (suc k) (suc (suc (suc (suc zero))) ∷ xs) (sum c d) cs h = typed_wrong roll (sum c d) cs (λ v. refl) (read k xs)
bytes-typed (suc k) (suc (suc (suc (suc zero))) ∷ xs) (mu c) cs h =
    ap (more 1) (bytes-typed k xs (unfold_ty c) cs (omega arith)) ∙ typed-under roll 1 (mu c) (unfold_ty c) cs (λ v. omega arith) (λ v. refl) (read k xs)
bytes-typed (suc k) (suc (suc (suc (suc zero))) ∷ xs) (tyvar i) cs h = typed_wrong roll (tyvar i) cs (λ v. refl) (read k xs)
bytes-typed (suc k) (suc (suc (suc (suc (suc b)))) ∷ xs) c cs h = bytes-off (suc (suc (suc (suc (suc b))))) xs c cs (ap (λ o. before o cs) (part-over (suc (suc (suc (suc (suc b))))) (omega arith) c))
