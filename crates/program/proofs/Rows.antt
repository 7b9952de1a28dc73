-- Laws of the table of signatures: references in order, the parameters of a function, loops that store one element after another,
-- and the turns of the two loops that fill a row and the table.
use Prim.Native.Nat.{ℕ, zero, suc, ◌+◌, ◌*◌, ◌<◌, ◌≤◌}
use native.Mathlib.Omega.{arith}
use native.Mathlib.Decide.{dec_lt}
use mathlib.Core.Path.{◌≡◌, refl, sym, ap, subst, ◌∙◌}
use mathlib.Core.List.{List, []}
use lib.ListN.{length, get_or, set, drop, replicate, length-set, get_or-replicate, get_or-eq_default}
use lib.Seq.{get_or-set_same, get_or-set_other}
use package.Rattle.octets.specs.Numbers.{get16}
use package.Rattle.rules.specs.Limits.{max_functions, max_parameters}
use package.Rattle.calls.specs.Fields.{parameters_at}
use package.Rattle.calls.specs.Entries.{references, function_at}
use package.Rattle.calls.specs.Named.{types_of_function}
use package.Rattle.program.specs.Places.{Placed}
use package.Rattle.program.specs.Parts.{FunctionField, listed}
use package.Rattle.program.specs.Signatures.{parameter_types, SignatureIs, FunctionFields, unsigned, SignaturesAre}
use package.Rattle.program.proofs.Inside.{formed}
use package.Rattle.program.proofs.Lists.{length-references, types-of-function}

----------------------------------------------------------------
-- References

get_d_references : (xs : List ℕ) (i n k : ℕ) → k < n → get_or (references xs i n) k 0 ≡ get16 xs (i + 2 * k)
unfolding references
get_d_references xs i zero k h = absurd (omega arith)
get_d_references xs i (suc n) zero h = ap (get16 xs) (let e : i ≡ i + 2 * 0 = omega arith in e)
get_d_references xs i (suc n) (suc k) h =
    get_d_references xs (i + 2) n k (omega arith) ∙ ap (get16 xs) (let e : i + 2 + 2 * k ≡ i + 2 * suc k = omega arith in e)

----------------------------------------------------------------
-- The parameters of a function

module _ {xs : List ℕ} {at : ℕ} (F : FunctionField xs at) where
  parameters_are : parameter_types (function_at xs at) ≡ references xs (at + 6) (parameters_at xs at)
  unfolding types_of_function references
  parameters_are = ap (drop 1) (types-of-function F)

  parameter_count : length (parameter_types (function_at xs at)) ≡ parameters_at xs at
  parameter_count = ap length parameters_are ∙ length-references xs (at + 6) (parameters_at xs at)

  pub parameter_at : (k : ℕ) → k < parameters_at xs at → listed xs at k ≡ get_or (parameter_types (function_at xs at)) k 0
  parameter_at k h = sym (ap (λ l. get_or l k 0) parameters_are ∙ get_d_references xs (at + 6) (parameters_at xs at) k h)

  no_parameter_at : (k : ℕ) → parameters_at xs at ≤ k → 0 ≡ get_or (parameter_types (function_at xs at)) k 0
  no_parameter_at k h = sym (get_or-eq_default (parameter_types (function_at xs at)) 0 (omega (arith, parameter_count)))

-- the function fields of a program that was read
pub function-fields : {xs types terms functions : List ℕ} → Placed xs types terms functions → FunctionFields xs functions
function-fields p = record { few = (formed _ p.read).few_functions; each = (formed _ p.read).functions }

----------------------------------------------------------------
-- Stores, one after another

-- the elements before the next place
pub stored_more {ℓ} : {A : Type ℓ} (d : A) (P : ℕ → A → Type 0) (xs : List A) (k : ℕ) (v : A) → k < length xs → ((j : ℕ) → j < k → P j (get_or xs j d)) → P k v
    → (j : ℕ) → j < k + 1 → P j (get_or (set xs k v) j d)
stored_more d P xs k v lt old new j h = by (dec_lt j k)
  where
    by : Dec (j < k) → P j (get_or (set xs k v) j d)
    by (yes l) = rw (get_or-set_other xs k j v d (λ w. omega arith)) (old j l)
    by (no g) = subst (λ (i : ℕ). P i (get_or (set xs k v) i d)) (let e : k ≡ j = omega arith in e) (rw (get_or-set_same xs k v d lt) new)

-- and those from it on
pub kept-beyond {ℓ} : {A : Type ℓ} (d : A) (P : ℕ → A → Type 0) (xs : List A) (k : ℕ) (v : A) → ((j : ℕ) → k ≤ j → P j (get_or xs j d))
    → (j : ℕ) → k + 1 ≤ j → P j (get_or (set xs k v) j d)
kept-beyond d P xs k v old j h = rw (get_or-set_other xs k j v d (λ w. omega arith)) (old j (omega arith))

-- zeros
pub zeros-at : (n j : ℕ) → ◌≡◌ {A = ℕ} (get_or (replicate n 0) j 0) 0
zeros-at zero j = refl
zeros-at (suc n) zero = refl
zeros-at (suc n) (suc j) = zeros-at n j

----------------------------------------------------------------
-- A row, as it is filled

-- `k` of the parameters stand in the row, and zeros after them
pub record Filled (xs : List ℕ) (at k : ℕ) (row : List ℕ) : Type 0 where
  pub sized : length row ≡ max_parameters
  pub front : (j : ℕ) → j < k → get_or row j 0 ≡ listed xs at j
  pub back : (j : ℕ) → k ≤ j → get_or row j 0 ≡ 0

pub none_filled : (xs : List ℕ) (at : ℕ) → Filled xs at 0 (replicate max_parameters 0)
unfolding max_parameters
none_filled xs at = record { sized = refl; front = λ j h. absurd (omega arith); back = λ j h. zeros-at max_parameters j }

pub one-filled : {xs : List ℕ} {at k : ℕ} {row : List ℕ} {x : ℕ} → k < max_parameters → x ≡ listed xs at k → Filled xs at k row → Filled xs at (k + 1) (set row k x)
one-filled {xs} {at} {k} {row} {x} h e f = record {
  sized = length-set row k x ∙ f.sized;
  front = stored_more 0 (λ j y. y ≡ listed xs at j) row k x (omega (arith, f.sized)) f.front e;
  back = kept-beyond 0 (λ j y. y ≡ 0) row k x f.back;
}

pub all-filled : {xs : List ℕ} {at k : ℕ} {row : List ℕ} → FunctionField xs at → k ≡ parameters_at xs at → Filled xs at k row → SignatureIs (function_at xs at) row
unfolding max_parameters
all-filled {xs} {at} {k} {row} F e f = record {
  sized = f.sized;
  few = omega (arith, parameter_count F, F.few);
  each = λ j. by j (dec_lt j (parameters_at xs at));
}
  where
    by : (j : ℕ) → Dec (j < parameters_at xs at) → get_or row j 0 ≡ get_or (parameter_types (function_at xs at)) j 0
    by j (yes lt) = f.front j (omega arith) ∙ parameter_at F j lt
    by j (no ge) = f.back j (omega arith) ∙ no_parameter_at F j (omega arith)

----------------------------------------------------------------
-- The table, as it is filled

-- the rows of `g` functions stand in the table, and rows of zeros after them
pub record Tabled (xs functions : List ℕ) (g : ℕ) (table : List (List ℕ)) : Type 0 where
  pub sized : length table ≡ max_functions
  pub front : (j : ℕ) → j < g → SignatureIs (function_at xs (get_or functions j 0)) (get_or table j [])
  pub back : (j : ℕ) → g ≤ j → j < max_functions → get_or table j [] ≡ replicate max_parameters 0

pub none_tabled : (xs functions : List ℕ) → Tabled xs functions 0 unsigned
none_tabled xs functions = record { sized = refl; front = λ j h. absurd (omega arith); back = λ j h l. get_or-replicate max_functions j (replicate max_parameters 0) [] l }

pub one_tabled : {xs functions : List ℕ} {g : ℕ} {table : List (List ℕ)} {row : List ℕ} → g < max_functions → SignatureIs (function_at xs (get_or functions g 0)) row
    → Tabled xs functions g table → Tabled xs functions (g + 1) (set table g row)
one_tabled {xs} {functions} {g} {table} {row} h s t = record {
  sized = length-set table g row ∙ t.sized;
  front = stored_more [] (λ j y. SignatureIs (function_at xs (get_or functions j 0)) y) table g row (omega (arith, t.sized)) t.front s;
  back = kept-beyond [] (λ j y. j < max_functions → y ≡ replicate max_parameters 0) table g row t.back;
}

pub all_tabled : {xs functions : List ℕ} {g : ℕ} {table : List (List ℕ)} → g ≡ length functions → Tabled xs functions g table → SignaturesAre xs functions table
all_tabled e t = record { sized = t.sized; rows = λ j h. t.front j (omega arith); beyond = λ j h l. t.back j (omega arith) l }
