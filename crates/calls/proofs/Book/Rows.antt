-- Rows that stand: each was accepted in its turn. What the book writes out for them, and what the newest of them is.
use Prim.Native.Nat.{ℕ, ◌*◌, ◌-◌, ◌≤◌, ◌<◌}
use native.Mathlib.Omega.{arith}
use mathlib.Core.Path.{◌≡◌, refl, ap, ap₂, ◌∙◌}
use mathlib.Core.Bool.{true}
use mathlib.Core.Option.{some}
use mathlib.Core.List.{List, [], ◌∷◌, ◌++◌}
use lib.ListN.{length}
use package.Rattle.rules.specs.Limits.{max_ancilla_bytes, fits, max_height, max_fuel}
use package.Rattle.rules.specs.Val.{Val}
use package.Rattle.rules.specs.Ty.{HasTy, HasTys}
use package.Rattle.rules.specs.Term.{Fun, Program, nth}
use package.Rattle.calls.specs.Claims.{CarriedThrough, no_rows, one_row, Met}
use package.Rattle.rules.specs.Claims.{Carries}
use package.Rattle.calls.specs.Book.{Row, or_stays, carry_by, carry, through, entries_of, journal_of}
use package.Rattle.calls.specs.Conversions.{behind, newest}
use package.Rattle.calls.specs.Journal.{Entry, Journal, fields, write_out}
use package.Rattle.calls.specs.Runs.{Ran, ran}
use package.Rattle.calls.specs.Values.{encode_all}
use package.Rattle.calls.proofs.Journal.Entries.{WritableEntries, no_entries, entries_snoc}
use package.Rattle.rules.proofs.Theorems.{tree-forward_iff_rules}

----------------------------------------------------------------
-- Rows in order, the newest last

pub through_snoc : (P : Program) (rows : List Row) (row : Row) (v : Val) → through P (rows ++ (row ∷ [])) v ≡ (carry P row (through P rows v)).value
unfolding through
through_snoc P [] row v = refl
through_snoc P (r ∷ rows) row v = through_snoc P rows row (carry P r v).value

-- the entry of a row that took so many steps
abbrev pub entry_of : Row → ℕ → Entry
entry_of row n = record { function = row.function; steps = n; ancillae = row.ancillae }

pub entries_of_snoc : (P : Program) (rows : List Row) (row : Row) (v : Val)
    → entries_of P (rows ++ (row ∷ [])) v ≡ entries_of P rows v ++ (entry_of row (carry P row (through P rows v)).steps ∷ [])
unfolding entries_of through
entries_of_snoc P [] row v = refl
entries_of_snoc P (r ∷ rows) row v = ap (λ es. entry_of r (carry P r v).steps ∷ es) (entries_of_snoc P rows row (carry P r v).value)

pub newest_snoc : {A : Type 0} (es : List A) (e : A) → newest (es ++ (e ∷ [])) ≡ some (record { older = es; newest = e })
unfolding newest behind
newest_snoc [] e = refl
newest_snoc (x ∷ es) e = ap (behind x) (newest_snoc es e)

pub carried_snoc : {P : Program} {rows : List Row} {es : List Entry} {first v : Val} (row : Row) (w : Val) (n : ℕ) (h : Fun) → CarriedThrough P rows es first v
    → nth P row.function ≡ some h → Carries fits P max_height h row.ancillae v w n
    → CarriedThrough P (rows ++ (row ∷ [])) (es ++ (entry_of row n ∷ [])) first w
carried_snoc row w n h no_rows p d = one_row p d no_rows
carried_snoc row w n h (one_row q c s) p d = one_row q c (carried_snoc row w n h s p d)

----------------------------------------------------------------
-- Standing rows

abbrev pub journal : Val → List Entry → Journal
journal v es = record { held = v; entries = es }

-- A row that record `v` was carried through, to `w` in `n` steps, on a buffer of `k` bytes.
pub record Passed (P : Program) (row : Row) (es : List Entry) (v w : Val) (n k : ℕ) : Type 0 where
  pub fun : Fun
  pub named : nth P row.function ≡ some fun
  pub ancillae_typed : HasTys row.ancillae fun.ancillae
  pub value_typed : HasTy v fun.dynamic
  pub value_fits : fits v ≡ true
  pub result_typed : HasTy w fun.result
  pub carried : Carries fits P max_height fun row.ancillae v w n
  pub steps : n ≤ max_fuel
  pub number : row.function < 65536
  pub short : length (encode_all row.ancillae) ≤ max_ancilla_bytes
  pub older_fits : length (fields (journal v es)) ≤ k
  pub newer_fits : length (fields (journal w (es ++ (entry_of row n ∷ [])))) ≤ k

-- rows, oldest first, with their entries, the record that they carry the first one to, and what each conversion met, newest first
pub data Standing (P : Program) (first : Val) : List Row → List Entry → Val → List Met → Type 0 where
  empty : Standing P first [] [] first []
  next : {rows : List Row} {es : List Entry} {v : Val} {ms : List Met} (row : Row) (w : Val) (n k : ℕ) → Standing P first rows es v ms → Passed P row es v w n k
      → Standing P first (rows ++ (row ∷ [])) (es ++ (entry_of row n ∷ [])) w (record { journal = write_out k (journal v es); steps = n } ∷ ms)

-- a run's steps fit into four bytes
fuel-below : (n : ℕ) → n ≤ max_fuel → n < 65536 * 65536
unfolding max_fuel
fuel-below n l = omega arith

-- a value and steps, as a run's answer
abbrev pub answered : Val → ℕ → Ran
answered w n = record { value = w; steps = n }

pub carry-ran : {P : Program} {row : Row} {es : List Entry} {v w : Val} {n k : ℕ} → Passed P row es v w n k → carry P row v ≡ answered w n
unfolding carry carry_by or_stays ran
carry-ran {P} {row} {es} {v} {w} {n} R =
    ap (λ o. carry_by P o row v) R.named
    ∙ ap (λ x. or_stays v (ran max_fuel x)) ((tree-forward_iff_rules P fits max_height R.fun row.ancillae v w max_fuel (max_fuel - n)).1 (n, R.carried, omega (arith, R.steps)))
    ∙ ap (answered w) (let z : max_fuel - (max_fuel - n) ≡ n = omega (arith, R.steps) in z)

-- the record that the rows carry the first one to
pub standing-held : {P : Program} {origin v : Val} {rows : List Row} {es : List Entry} {ms : List Met} → Standing P origin rows es v ms → through P rows origin ≡ v
unfolding through
standing-held empty = refl
standing-held {P} {origin} (next {rows = rows} row w n k S R) =
    through_snoc P rows row origin ∙ ap (λ u. (carry P row u).value) (standing-held S) ∙ ap (λ (r : Ran). r.value) (carry-ran R)

-- the entries that the book writes out for them
pub standing-entries : {P : Program} {origin v : Val} {rows : List Row} {es : List Entry} {ms : List Met} → Standing P origin rows es v ms → entries_of P rows origin ≡ es
unfolding entries_of
standing-entries empty = refl
standing-entries {P} {origin} (next {rows = rows} row w n k S R) =
    entries_of_snoc P rows row origin ∙ ap₂ (λ es m. es ++ (entry_of row m ∷ [])) (standing-entries S)
    (ap (λ u. (carry P row u).steps) (standing-held S) ∙ ap (λ (r : Ran). r.steps) (carry-ran R))

pub standing-journal : {P : Program} {origin v : Val} {rows : List Row} {es : List Entry} {ms : List Met} → Standing P origin rows es v ms
    → journal_of P (record { first = origin; rows = rows }) ≡ journal v es
unfolding journal_of
standing-journal S = ap₂ journal (standing-held S) (standing-entries S)

pub standing-carried : {P : Program} {origin v : Val} {rows : List Row} {es : List Entry} {ms : List Met} → Standing P origin rows es v ms → CarriedThrough P rows es origin v
standing-carried empty = no_rows
standing-carried (next row w n k S R) = carried_snoc row w n R.fun (standing-carried S) R.named R.carried

-- entries within the limits of the journal's form
pub standing-writable : {P : Program} {origin v : Val} {rows : List Row} {es : List Entry} {ms : List Met} → Standing P origin rows es v ms → WritableEntries es
standing-writable empty = no_entries
standing-writable (next row w n k S R) =
    entries_snoc (standing-writable S) (record { function_below = R.number; steps_below = fuel-below n R.steps; ancillae_within = R.short })
