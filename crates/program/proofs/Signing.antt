-- The table of signatures while the fields are read: each function's field adds a row, every other field adds none.
use Prim.Native.Nat.{ℕ, zero, suc, ◌+◌, ◌<◌, ◌≤◌}
use native.Mathlib.Omega.{arith}
use mathlib.Core.Path.{◌≡◌, refl, sym, ap, subst, ◌∙◌}
use mathlib.Core.Bool.{Bool, true, false, cond}
use mathlib.Core.List.{List, [], ◌∷◌, ◌++◌}
use lib.ListN.{length, get_or, set, take, length-append, get_or-append}
use lib.Seq.{get_or-append_seam, length-take-le}
use lib.Dec.{eqb}
use borrow.Author.Tests.{eqb-true, eqb-false, eq-eqb}
use package.Rattle.rules.proofs.Basics.{given}
use package.Rattle.rules.specs.Limits.{max_functions}
use package.Rattle.calls.specs.Fields.{function_tag, tag_at, well_formed, with_field}
use package.Rattle.calls.specs.Entries.{function_at}
use package.Rattle.program.specs.declared.fields.Counts.{Counts}
use package.Rattle.program.specs.Places.{fronts_of, Within, Buffers, Added}
use package.Rattle.program.specs.Signatures.{SignatureIs, unsigned, SignaturesAre, Signable, Signs}
use package.Rattle.program.proofs.Inside.{function-field}
use package.Rattle.program.proofs.Rows.{Tabled, none_tabled, one_tabled, all_tabled}

-- the rows of the functions whose fields are at the offsets `fs` stand in the table
abbrev pub Signing : List ℕ → List ℕ → List (List ℕ) → Type 0
Signing xs fs table = Tabled xs fs (length fs) table

pub signing-starts : (xs : List ℕ) {table : List (List ℕ)} → table ≡ unsigned → Signing xs [] table
signing-starts xs e = subst (Tabled xs [] 0) (sym e) (none_tabled xs [])

pub signing-ends : {xs fs : List ℕ} {table : List (List ℕ)} → Signing xs fs table → SignaturesAre xs fs table
signing-ends S = all_tabled refl S

take-le : (n : ℕ) (l : List ℕ) → length (take n l) ≤ n
take-le zero l = omega arith
take-le (suc n) [] = omega arith
take-le (suc n) (x ∷ l) = let h = take-le n l in omega arith

-- one offset more behind those that count
tabled_front : {xs fs : List ℕ} {table : List (List ℕ)} (at : ℕ) → Signing xs fs table → Tabled xs (fs ++ (at ∷ [])) (length fs) table
tabled_front {xs} {fs} {table} at S = record {
  sized = S.sized;
  front = λ j h. subst (λ a. SignatureIs (function_at xs a) (get_or table j [])) (sym (get_or-append fs (at ∷ []) 0 j h)) (S.front j h);
  back = S.back;
}

-- one row more
signing-one : {xs fs : List ℕ} {table : List (List ℕ)} {row : List ℕ} (at : ℕ) → length fs < max_functions → SignatureIs (function_at xs at) row → Signing xs fs table
    → Signing xs (fs ++ (at ∷ [])) (set table (length fs) row)
signing-one {xs} {fs} {table} {row} at h s S =
    subst (λ n. Tabled xs (fs ++ (at ∷ [])) n (set table (length fs) row)) (sym (length-append fs (at ∷ [])))
    (one_tabled h (subst (λ a. SignatureIs (function_at xs a) row) (sym (get_or-append_seam fs at [] 0)) s) (tabled_front at S))

----------------------------------------------------------------
-- A field that was placed

module _ {xs types terms functions types' terms' functions' : List ℕ} {at tag : ℕ} {c more : Counts} (last : ℕ) (B : Buffers types terms functions) (W : Within c)
    (w : well_formed xs at last ≡ true) (A : Added more xs at (fronts_of types terms functions c) types' terms' functions') (t : tag ≡ tag_at xs at) where
  abbrev fs : List ℕ
  fs = take c.functions functions

  so_many : length fs ≡ c.functions
  so_many = length-take-le c.functions functions (omega (arith, W.functions, B.for_functions))

  is_function : tag ≡ function_tag → eqb (tag_at xs at) function_tag ≡ true
  is_function e = eq-eqb (tag_at xs at) function_tag (sym t ∙ e)

  fronts_are : take more.functions functions' ≡ cond (eqb (tag_at xs at) function_tag) (fs ++ (at ∷ [])) fs
  unfolding with_field
  fronts_are = ap (λ L. L.functions) A.fronts

  row-there : eqb (tag_at xs at) function_tag ≡ true → length fs < max_functions
  row-there e =
      let long : length (take more.functions functions') ≡ length fs + 1 =
      ap length (fronts_are ∙ ap (λ b. cond b (fs ++ (at ∷ [])) fs) e) ∙ length-append fs (at ∷ []) in
      omega (arith, long, take-le more.functions functions', A.within.functions)

  pub signable : Signable xs at tag c.functions
  signable = record {
    field = λ e. function-field xs at last (fronts_of types terms functions c) w A.allowed (is_function e);
    few = λ e. omega (arith, so_many, row-there (is_function e));
  }

  pub signing-more : {table table' : List (List ℕ)} → Signs xs at tag c.functions table table' → Signing xs (take c.functions functions) table
      → Signing xs (take more.functions functions') table'
  signing-more {table} {table'} s S = subst (λ l. Signing xs l table') (sym fronts_are) (go (eqb (tag_at xs at) function_tag) refl)
    where
      go : (b : Bool) → eqb (tag_at xs at) function_tag ≡ b → Signing xs (cond b (fs ++ (at ∷ [])) fs) table'
      go true e = given (s.written (t ∙ eqb-true (tag_at xs at) function_tag e)) λ (row, r, q).
          subst (Signing xs (fs ++ (at ∷ []))) (ap (λ g. set table g row) so_many ∙ sym q) (signing-one at (row-there e) r S)
      go false e = subst (Signing xs fs) (sym (s.kept (λ q. eqb-false (tag_at xs at) function_tag e (sym t ∙ q)))) S
