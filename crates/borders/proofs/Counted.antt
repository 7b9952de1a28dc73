-- A program of unit terms alone, by a law over how many there are: computing the reading of 1,024 fields takes the prover too many steps.
use Prim.Native.Nat.{ℕ, zero, suc, ◌+◌, ◌*◌, ◌≤◌}
use native.Mathlib.Omega.{arith}
use mathlib.Core.Path.{◌≡◌, refl, sym, ap, ◌∙◌}
use mathlib.Core.Bool.{Bool, true, false, ◌&&◌}
use mathlib.Core.List.{List, [], ◌∷◌, ◌++◌, append_assoc, append-nil}
use lib.ListN.{length, get_or, length-append}
use lib.Seq.{get_or-append_seam, get_or-append-add}
use lib.Dec.{leb}
use borrow.Author.Tests.{le-leb, lt-leb, eq-eqb, ne_eqb}
use package.Rattle.octets.specs.Numbers.{get16, bytes16}
use package.Rattle.rules.specs.Limits.{max_terms, max_program_bytes, workspace_base, workspace_per_fuel}
use package.Rattle.calls.specs.Answer.{accepted, refused}
use package.Rattle.calls.specs.Fields.{tag_at, length_at, next_at, kind_at, term_lengths, type_length, term_length, body_fits, well_formed, Layout, with_field, within_counts, read_fields, no_fields, layout}
use package.Rattle.calls.specs.Load.{load}
use package.Rattle.calls.specs.Runs.{workspace_for, prepared, check_call}
use package.Rattle.calls.specs.Journal.{field}
use package.Rattle.calls.specs.Cases.{refs, term_field, ample}
use package.Rattle.calls.specs.Borders.{copies}
use package.Rattle.borders.specs.Borders.{offsets}
use package.Rattle.calls.proofs.Answer.{via, stops, require_yes, require-no}

-- the field of a unit term
abbrev pub unit_term : List ℕ
unit_term = 2 ∷ 0 ∷ 1 ∷ 1 ∷ []

-- terms alone have been read
abbrev only : List ℕ → Layout
only ts = record { types = []; terms = ts; functions = [] }

and_true : (t : Bool) → (true && t && true && true) ≡ t
and_true true = refl
and_true false = refl

----------------------------------------------------------------
-- One field, behind others

module _ (front rest : List ℕ) where
  abbrev xs : List ℕ
  xs = front ++ 2 ∷ 0 ∷ 1 ∷ 1 ∷ rest

  behind : (k : ℕ) → get_or xs (length front + k) 0 ≡ get_or (2 ∷ 0 ∷ 1 ∷ 1 ∷ rest) k 0
  behind k = get_or-append-add front (2 ∷ 0 ∷ 1 ∷ 1 ∷ rest) k 0

  longer : length xs ≡ length front + (4 + length rest)
  longer = omega (arith, length-append front (2 ∷ 0 ∷ 1 ∷ 1 ∷ rest))

  tag_is : tag_at xs (length front) ≡ 2
  unfolding tag_at
  tag_is = get_or-append_seam front 2 (0 ∷ 1 ∷ 1 ∷ rest) 0

  length_is : length_at xs (length front) ≡ 1
  unfolding length_at get16
  length_is = ap (λ i. get_or xs (length front + 1) 0 * 256 + get_or xs i 0) (let z : length front + 1 + 1 ≡ length front + 2 = omega arith in z)
      ∙ ap (λ b. b * 256 + get_or xs (length front + 2) 0) (behind 1) ∙ ap (λ b. 0 * 256 + b) (behind 2)

  next_is : next_at xs (length front) ≡ length front + 4
  unfolding next_at
  next_is = ap (λ n. length front + 3 + n) length_is ∙ omega arith

  kind_is : kind_at xs (length front) ≡ 1
  unfolding kind_at
  kind_is = behind 3

  body-fits : body_fits xs (length front) ≡ true
  unfolding body_fits type_length term_length term_lengths
  body-fits = rw (tag_is, length_is, kind_is)

  formed : (last : ℕ) → last ≤ 2 → well_formed xs (length front) last ≡ true
  unfolding well_formed
  formed last h =
      rw (
        le-leb (length front + 3) (length xs) (omega (arith, longer)),
        tag_is,
        le-leb last 2 h,
        next_is,
        le-leb (length front + 4) (length xs) (omega (arith, longer)),
        body-fits,
      )

  with_term : (ts : List ℕ) → with_field xs (length front) (only ts) ≡ only (ts ++ (length front ∷ []))
  unfolding with_field
  with_term ts = rw tag_is

  within : (ts : List ℕ) → within_counts xs (length front) (only ts) ≡ leb (length ts) max_terms
  unfolding within_counts
  within ts = rw tag_is (and_true (leb (length ts) max_terms))

  -- a term more, if it is within the count
  one_more : (m last : ℕ) (ts : List ℕ) → last ≤ 2 → length ts + 1 ≤ 1024
      → read_fields (suc m) xs (length front) last (only ts) ≡ read_fields m xs (length front + 4) 2 (only (ts ++ (length front ∷ [])))
  unfolding read_fields
  one_more m last ts h few =
      rw (read_fields, ne_eqb (length front) (length xs) (λ e. omega (arith, longer, e)))
      (via _ (require_yes 2 (length front) (formed last h))
      (via _ (require_yes 3 (length front)
      (ap (within_counts xs (length front)) (with_term ts) ∙ within (ts ++ (length front ∷ []))
      ∙ le-leb (length (ts ++ (length front ∷ []))) max_terms (omega (arith, length-append ts (length front ∷ [])))))
      (rw (next_is, tag_is, with_term ts))))

  -- or 3
  one-over : (m last : ℕ) (ts : List ℕ) → last ≤ 2 → length ts ≡ 1024 → read_fields (suc m) xs (length front) last (only ts) ≡ refused 3 (length front)
  unfolding read_fields
  one-over m last ts h full =
      rw (read_fields, ne_eqb (length front) (length xs) (λ e. omega (arith, longer, e)))
      (via _ (require_yes 2 (length front) (formed last h))
      (stops _ (require-no 3 (length front)
      (ap (within_counts xs (length front)) (with_term ts) ∙ within (ts ++ (length front ∷ []))
      ∙ lt-leb (length (ts ++ (length front ∷ []))) max_terms (omega (arith, length-append ts (length front ∷ []), full))))))

----------------------------------------------------------------
-- All fields

-- the first of many stands in front of the rest
split : (front rest : List ℕ) → front ++ (unit_term ++ rest) ≡ (front ++ unit_term) ++ rest
split front rest = sym (append_assoc front unit_term rest)

four : (front : List ℕ) → length front + 4 ≡ length (front ++ unit_term)
four front = sym (length-append front unit_term)

-- as many as are within the count, given `m` no lower
reads : (n m : ℕ) → n ≤ m → (front ts : List ℕ) (last : ℕ) → last ≤ 2 → length ts + n ≤ 1024
    → read_fields m (front ++ copies n unit_term) (length front) last (only ts) ≡ accepted (only (ts ++ offsets n (length front)))
unfolding read_fields copies offsets
reads zero zero l front ts last h few = ap (λ l. accepted (only l)) (sym (append-nil ts))
reads zero (suc m) l front ts last h few =
    rw (read_fields, eq-eqb (length front) (length (front ++ [])) (ap length (sym (append-nil front)))) (ap (λ l. accepted (only l)) (sym (append-nil ts)))
reads (suc n) zero l front ts last h few = absurd (omega (arith, l))
reads (suc n) (suc m) l front ts last h few =
    one_more front (copies n unit_term) m last ts h (omega (arith, few))
    ∙ ap (λ l. read_fields m l (length front + 4) 2 (only (ts ++ (length front ∷ [])))) (split front (copies n unit_term))
    ∙ ap (λ k. read_fields m ((front ++ unit_term) ++ copies n unit_term) k 2 (only (ts ++ (length front ∷ [])))) (four front)
    ∙ reads n m (omega (arith, l)) (front ++ unit_term) (ts ++ (length front ∷ [])) 2 (omega arith) (omega (arith, length-append ts (length front ∷ []), few))
    ∙ ap (λ l. accepted (only l))
    (append_assoc ts (length front ∷ []) (offsets n (length (front ++ unit_term))) ∙ ap (λ k. ts ++ length front ∷ offsets n k) (sym (four front)))

-- and one more
overflows : (n m : ℕ) → n ≤ m → (front ts : List ℕ) (last : ℕ) → last ≤ 2 → length ts + n ≡ 1024
    → read_fields (suc m) (front ++ copies (suc n) unit_term) (length front) last (only ts) ≡ refused 3 (length front + 4 * n)
unfolding copies
overflows zero m l front ts last h full =
    one-over front [] m last ts h (omega (arith, full)) ∙ ap (refused 3) (let z : length front ≡ length front + 4 * 0 = omega arith in z)
overflows (suc n) zero l front ts last h full = absurd (omega (arith, l))
overflows (suc n) (suc m) l front ts last h full =
    one_more front (copies (suc n) unit_term) (suc m) last ts h (omega (arith, full))
    ∙ ap (λ l. read_fields (suc m) l (length front + 4) 2 (only (ts ++ (length front ∷ [])))) (split front (copies (suc n) unit_term))
    ∙ ap (λ k. read_fields (suc m) ((front ++ unit_term) ++ copies (suc n) unit_term) k 2 (only (ts ++ (length front ∷ [])))) (four front)
    ∙ overflows n m (omega (arith, l)) (front ++ unit_term) (ts ++ (length front ∷ [])) 2 (omega arith) (omega (arith, length-append ts (length front ∷ []), full))
    ∙ ap (refused 3) (let z : length (front ++ unit_term) + 4 * n ≡ length front + 4 * suc n = omega (arith, four front) in z)

full-terms : layout (copies 1024 unit_term) ≡ accepted (only (offsets 1024 0))
unfolding layout no_fields max_program_bytes copies
full-terms = via _ (require_yes 3 0 refl) (reads 1024 4096 (omega arith) [] [] 1 (omega arith) (omega arith))

over-terms : layout (copies 1025 unit_term) ≡ refused 3 4096
unfolding layout no_fields max_program_bytes copies
over-terms = via _ (require_yes 3 0 refl) (overflows 1024 4099 (omega arith) [] [] 1 (omega arith) refl)

-- what the reading refuses, a call refuses
layout-refused : (ws : ℕ) (program : List ℕ) {n p : ℕ} → leb (workspace_for 0) ws ≡ true → layout program ≡ refused n p → check_call program ws ≡ refused n p
unfolding check_call prepared load
layout-refused ws program h e = stops _ (via _ (require_yes 1 0 h) (stops _ e))

ample-enough : leb (workspace_for 0) ample ≡ true
unfolding workspace_for workspace_base workspace_per_fuel
ample-enough = refl

written_out : term_field 1 [] ≡ unit_term
unfolding term_field field refs bytes16
written_out = refl

-- Borders' `terms` and `terms-past`
pub most-terms : layout (copies 1024 (term_field 1 [])) ≡ accepted (only (offsets 1024 0))
most-terms = ap (λ t. layout (copies 1024 t)) written_out ∙ full-terms

pub terms-over : check_call (copies 1025 (term_field 1 [])) ample ≡ refused 3 4096
terms-over = layout-refused ample (copies 1025 (term_field 1 [])) ample-enough (ap (λ t. layout (copies 1025 t)) written_out ∙ over-terms)
