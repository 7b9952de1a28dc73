-- The fields of an accepted layout are well-formed and within the counts: whatever the view of an entry reads is inside the program.
use Prim.Native.Nat.{ℕ, zero, suc, ◌+◌, ◌≤◌, ◌<◌}
use native.Mathlib.Omega.{arith}
use native.Mathlib.Decide.{dec_lt}
use mathlib.Core.Path.{◌≡◌, refl, sym, subst}
use mathlib.Core.Bool.{Bool, true, false, ◌&&◌, ◌||◌, cond}
use mathlib.Core.List.{List, [], ◌∷◌, ◌++◌}
use lib.ListN.{length, get_or, length-append, get_or-append}
use lib.Seq.{get_or-append_seam}
use lib.Dec.{eqb, leb}
use package.Rattle.rules.specs.Limits.{max_types, max_terms, max_functions, max_parameters}
use package.Rattle.rules.proofs.Basics.{given, and_both, eqb-sound}
use package.Rattle.rules.proofs.Typing.Tests.{leb-sound}
use package.Rattle.calls.specs.Answer.{Answer, accepted}
use package.Rattle.calls.specs.Fields.{type_tag, term_tag, function_tag, Layout, tag_at, length_at, next_at, kind_at, parameters_at, type_length, term_length, function_length, body_fits, well_formed, no_fields, with_field, within_counts, read_fields, layout}
use package.Rattle.calls.proofs.Answer.{accepted_inj, unbind, required}
use package.Rattle.program.specs.Parts.{TypeField, TermField, FunctionField, Formed}

-- one more offset, if the field has the tag
holds_more : (P : ℕ → Type 0) (b : Bool) (l : List ℕ) (at : ℕ) → (b ≡ true → P at) → ((i : ℕ) → i < length l → P (get_or l i 0))
    → (i : ℕ) → i < length (cond b (l ++ (at ∷ [])) l) → P (get_or (cond b (l ++ (at ∷ [])) l) i 0)
holds_more P false l at new old i h = old i h
holds_more P true l at new old i h = go (dec_lt i (length l))
  where
    go : Dec (i < length l) → P (get_or (l ++ (at ∷ [])) i 0)
    go (yes lt) = subst P (sym (get_or-append l (at ∷ []) 0 i lt)) (old i lt)
    go (no ge) = subst (λ i. P (get_or (l ++ (at ∷ [])) i 0)) (sym last) (subst P (sym (get_or-append_seam l at [] 0)) (new refl))
      where
        last : i ≡ length l
        last = omega (arith, length-append l (at ∷ []))

only : (b : Bool) → (b || false) ≡ true → b ≡ true
only true e = refl
only false e = e

-- of a body that fits its tag
module _ (xs : List ℕ) (at : ℕ) (fits : body_fits xs at ≡ true) where
  abbrev by_tag_lem : ℕ → Bool
  by_tag_lem tag =
      (eqb tag 1 && type_length (kind_at xs at) (length_at xs at))
      || (eqb tag 2 && term_length (kind_at xs at) (length_at xs at))
      || (eqb tag 3 && function_length (parameters_at xs at) (length_at xs at))

  fits_tag : (tag : ℕ) → eqb (tag_at xs at) tag ≡ true → by_tag_lem tag ≡ true
  unfolding body_fits
  fits_tag tag e = subst (λ t. by_tag_lem t ≡ true) (eqb-sound _ tag e) fits

  fits-type : eqb (tag_at xs at) type_tag ≡ true → type_length (kind_at xs at) (length_at xs at) ≡ true
  fits-type e = only _ (only _ (fits_tag 1 e))

  fits-term : eqb (tag_at xs at) term_tag ≡ true → term_length (kind_at xs at) (length_at xs at) ≡ true
  fits-term e = only _ (fits_tag 2 e)

  fits-function : eqb (tag_at xs at) function_tag ≡ true → function_length (parameters_at xs at) (length_at xs at) ≡ true
  fits-function e = fits_tag 3 e

-- a field that was accepted: inside the program, with a body that fits
pub well_formed_lem : (xs : List ℕ) (at last : ℕ) → well_formed xs at last ≡ true → (next_at xs at ≤ length xs) × (body_fits xs at ≡ true)
unfolding well_formed
well_formed_lem xs at last e =
    given (and_both (begins && leb (next_at xs at) (length xs)) (body_fits xs at) e) λ (e₁, fits).
    given (and_both begins (leb (next_at xs at) (length xs)) e₁) λ (e₂, inside). (leb-sound _ _ inside, fits)
  where
    begins : Bool
    begins = leb (at + 3) (length xs) && leb last (tag_at xs at)

-- the counts of a layout, and of the parameters of a function
record Counted (xs : List ℕ) (at : ℕ) (L : Layout) : Type 0 where
  few_types : length L.types ≤ max_types
  few_terms : length L.terms ≤ max_terms
  few_functions : length L.functions ≤ max_functions
  parameters : eqb (tag_at xs at) function_tag ≡ true → (1 ≤ parameters_at xs at) × (parameters_at xs at ≤ max_parameters)

counted : (xs : List ℕ) (at : ℕ) (L : Layout) → within_counts xs at L ≡ true → Counted xs at L
unfolding within_counts
counted xs at L e =
    given (and_both _ (cond (eqb (tag_at xs at) function_tag) (leb 1 (parameters_at xs at) && leb (parameters_at xs at) max_parameters) true) e) λ (e₁, d).
    given (and_both _ (leb (length L.functions) max_functions) e₁) λ (e₂, functions).
    given (and_both _ (leb (length L.terms) max_terms) e₂) λ (types, terms). record {
      few_types = leb-sound _ _ types;
      few_terms = leb-sound _ _ terms;
      few_functions = leb-sound _ _ functions;
      parameters = λ t.
          given (and_both (leb 1 (parameters_at xs at)) _ (subst (λ b. cond b (leb 1 (parameters_at xs at) && leb (parameters_at xs at) max_parameters) true ≡ true) t d)) λ (x, y).
          (leb-sound _ _ x, leb-sound _ _ y);
    }

-- a function's field that was accepted
pub function-field : (xs : List ℕ) (at last : ℕ) (L : Layout) → well_formed xs at last ≡ true → within_counts xs at (with_field xs at L) ≡ true
    → eqb (tag_at xs at) function_tag ≡ true → FunctionField xs at
function-field xs at last L w n t =
    given (well_formed_lem xs at last w) λ (inside, fits).
    given ((counted xs at (with_field xs at L) n).parameters t) λ (x, y). record { inside = inside; sized = fits-function xs at fits t; some = x; few = y }

formed-more : (xs : List ℕ) (at last : ℕ) (L : Layout) → well_formed xs at last ≡ true → within_counts xs at (with_field xs at L) ≡ true → Formed xs L
    → Formed xs (with_field xs at L)
unfolding with_field
formed-more xs at last L w n F =
    given (well_formed_lem xs at last w) λ (inside, fits).
    given (counted xs at (with_field xs at L) n) λ N. record {
      types = holds_more (TypeField xs) (eqb (tag_at xs at) type_tag) L.types at (λ t. record { inside = inside; sized = fits-type xs at fits t }) F.types;
      terms = holds_more (TermField xs) (eqb (tag_at xs at) term_tag) L.terms at (λ t. record { inside = inside; sized = fits-term xs at fits t }) F.terms;
      functions = holds_more (FunctionField xs) (eqb (tag_at xs at) function_tag) L.functions at
          (function-field xs at last L w n) F.functions;
      few_types = N.few_types;
      few_terms = N.few_terms;
      few_functions = N.few_functions;
    }

-- by a test
either : {A C : Type 0} (b : Bool) {x y : Answer A} {a : A} → (x ≡ accepted a → C) → (y ≡ accepted a → C) → elim b [ true ↦ x | false ↦ y ] ≡ accepted a → C
either true f g e = f e
either false f g e = g e

read-formed : (n : ℕ) (xs : List ℕ) (at last : ℕ) (L : Layout) {M : Layout} → Formed xs L → read_fields n xs at last L ≡ accepted M → Formed xs M
unfolding read_fields
read-formed zero xs at last L F e = subst (Formed xs) (accepted_inj e) F
read-formed (suc n) xs at last L F e = either (eqb at (length xs)) (λ e. subst (Formed xs) (accepted_inj e) F) (λ e.
    given (unbind _ _ e) λ (form, p, e₁).
    given (unbind _ _ e₁) λ (within, q, e₂).
    read-formed n xs (next_at xs at) (tag_at xs at) (with_field xs at L) (formed-more xs at last L (required _ 2 at p) (required _ 3 at q) F) e₂) e

no_fields_lem : (xs : List ℕ) → Formed xs no_fields
unfolding no_fields
no_fields_lem xs = record {
  types = λ i h. absurd (omega arith);
  terms = λ i h. absurd (omega arith);
  functions = λ i h. absurd (omega arith);
  few_types = omega arith;
  few_terms = omega arith;
  few_functions = omega arith;
}

pub formed : (xs : List ℕ) {L : Layout} → layout xs ≡ accepted L → Formed xs L
unfolding layout
formed xs e = given (unbind _ _ e) λ (within, p, q). read-formed (length xs) xs 0 1 no_fields (no_fields_lem xs) q
