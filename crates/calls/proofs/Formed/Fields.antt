-- Reading the fields accepts exactly a program whose fields stand in order, within the counts; and its layout has the places by tag.
use Prim.Native.Nat.{ℕ, zero, suc, ◌+◌, ◌≤◌}
use native.Mathlib.Omega.{arith}
use mathlib.Core.Path.{◌≡◌, refl, sym, ap, subst, ◌∙◌}
use mathlib.Core.Bool.{Bool, true, false, ◌&&◌, cond, false≢true}
use mathlib.Core.List.{List, [], ◌∷◌, ◌++◌, append_assoc, append-nil}
use mathlib.Core.Logic.{◌↔◌, ◌⊎◌, inl as left, inr as right, ⊎_elim}
use lib.ListN.{length, length-append}
use lib.Dec.{eqb, leb}
use package.Rattle.rules.specs.Limits.{max_types, max_terms, max_functions, max_parameters, max_program_bytes}
use package.Rattle.rules.proofs.Basics.{given, and_both, eqb-sound, eqb_yes, eqb-differs, or_elim}
use package.Rattle.rules.proofs.Typing.Tests.{leb_yes, leb-sound}
use package.Rattle.calls.specs.Answer.{accepted, require}
use package.Rattle.calls.specs.Fields.{function_tag, tag_at, next_at, parameters_at, body_fits, well_formed, Layout, no_fields, with_field, within_counts, read_fields, layout}
use package.Rattle.calls.specs.Named.{member}
use package.Rattle.calls.specs.Formed.{FieldsAt, no_more, one_more, tagged, by_tag, Few}
use package.Rattle.calls.proofs.Answer.{accepted_inj, via, unbind, require_yes, required}
use package.Rattle.calls.proofs.Entries.{member-middle}

-- one answer or the other, by a test
either_way : {A : Type 0} (b : Bool) (x y : A) {z : A} → elim b as (λ b. A) [ true ↦ x | false ↦ y ] ≡ z → ((b ≡ true) × (x ≡ z)) ⊎ ((b ≡ false) × (y ≡ z))
either_way true x y e = left (refl, e)
either_way false x y e = right (refl, e)

----------------------------------------------------------------
-- The layout, field by field

module _ (xs : List ℕ) where
  -- the places of one more field
  with_tag : (tag at : ℕ) (is places : List ℕ)
      → cond (eqb (tag_at xs at) tag) (is ++ (at ∷ [])) is ++ tagged xs tag places ≡ is ++ tagged xs tag (at ∷ places)
  unfolding tagged
  with_tag tag at is places = by_test (eqb (tag_at xs at) tag)
    where
      by_test : (b : Bool) → cond b (is ++ (at ∷ [])) is ++ tagged xs tag places ≡ is ++ cond b (at ∷ tagged xs tag places) (tagged xs tag places)
      by_test true = append_assoc is (at ∷ []) (tagged xs tag places)
      by_test false = refl

  abbrev laid : List ℕ → List ℕ → List ℕ → Layout
  laid types terms functions = record { types = types; terms = terms; functions = functions }

  -- a layout with the fields at these places
  abbrev extended : Layout → List ℕ → Layout
  extended L places = laid (L.types ++ tagged xs 1 places) (L.terms ++ tagged xs 2 places) (L.functions ++ tagged xs 3 places)

  laid_same : {a a' b b' c c' : List ℕ} → a ≡ a' → b ≡ b' → c ≡ c' → laid a b c ≡ laid a' b' c'
  laid_same p q r = rw (p, q, r)

  extended_none : (L : Layout) → extended L [] ≡ L
  unfolding tagged
  extended_none L = laid_same (append-nil L.types) (append-nil L.terms) (append-nil L.functions)

  extended-more : (L : Layout) (at : ℕ) (places : List ℕ) → extended (with_field xs at L) places ≡ extended L (at ∷ places)
  unfolding with_field
  extended-more L at places =
      laid_same (with_tag 1 at L.types places) (with_tag 2 at L.terms places) (with_tag 3 at L.functions places)

  ----------------------------------------------------------------
  -- Within the counts

  -- a function with its field at this place has as many parameters as it may
  abbrev Parameters : ℕ → Type 0
  Parameters at = (1 ≤ parameters_at xs at) × (parameters_at xs at ≤ max_parameters)

  parameters_iff : (at : ℕ) → ((leb 1 (parameters_at xs at) && leb (parameters_at xs at) max_parameters) ≡ true) ↔ Parameters at
  parameters_iff at = (
    λ e. given (and_both _ _ e) λ (x, y). (leb-sound 1 _ x, leb-sound _ max_parameters y),
    λ (x, y). rw (leb_yes 1 (parameters_at xs at) x, leb_yes (parameters_at xs at) max_parameters y),
  )

  few-more : (at : ℕ) (L : Layout) → Few xs L → within_counts xs at (with_field xs at L) ≡ true → Few xs (with_field xs at L)
  unfolding within_counts with_field
  few-more at L F e =
      given (and_both _ _ e) λ (e₁, p). given (and_both _ _ e₁) λ (e₂, f). given (and_both _ _ e₂) λ (y, t). record {
        bytes = F.bytes;
        types = leb-sound _ max_types y;
        terms = leb-sound _ max_terms t;
        functions = leb-sound _ max_functions f;
        parameters = of (eqb (tag_at xs at) function_tag) p;
      }
    where
      of : (b : Bool) → cond b (leb 1 (parameters_at xs at) && leb (parameters_at xs at) max_parameters) true ≡ true
          → (j : ℕ) → member j (cond b (L.functions ++ (at ∷ [])) L.functions) ≡ true → Parameters j
      of true p j m = or_elim (eqb j at) (member j (L.functions ++ [])) (λ q. subst Parameters (sym (eqb-sound j at q)) ((parameters_iff at).0 p))
          (λ q. F.parameters j (ap (member j) (sym (append-nil L.functions)) ∙ q)) (sym (member-middle j at L.functions []) ∙ m)
      of false p j m = F.parameters j m

  few-counts : (at : ℕ) (L : Layout) (places : List ℕ) → Few xs (extended L (at ∷ places)) → within_counts xs at (with_field xs at L) ≡ true
  unfolding within_counts tagged
  few-counts at L places F = given (subst (Few xs) (sym (extended-more L at places)) F) λ G. rw (
    leb_yes (length (with_field xs at L).types) max_types (omega (arith, G.types, length-append (with_field xs at L).types (tagged xs 1 places))),
    leb_yes (length (with_field xs at L).terms) max_terms (omega (arith, G.terms, length-append (with_field xs at L).terms (tagged xs 2 places))),
    leb_yes (length (with_field xs at L).functions) max_functions
        (omega (arith, G.functions, length-append (with_field xs at L).functions (tagged xs 3 places))),
    of (eqb (tag_at xs at) function_tag) (F.parameters at),
  )
    where
      of : (b : Bool) → (member at (L.functions ++ cond b (at ∷ tagged xs 3 places) (tagged xs 3 places)) ≡ true → Parameters at)
          → cond b (leb 1 (parameters_at xs at) && leb (parameters_at xs at) max_parameters) true ≡ true
      of true p = (parameters_iff at).1 (p (member-middle at at L.functions (tagged xs 3 places) ∙ rw (eqb_yes at) refl))
      of false p = refl

  ----------------------------------------------------------------
  -- Field by field

  -- one field, as the test and as the propositions have it
  formed_iff : (at last : ℕ) → (well_formed xs at last ≡ true)
      ↔ ((at + 3 ≤ length xs) × (last ≤ tag_at xs at) × (next_at xs at ≤ length xs) × (body_fits xs at ≡ true))
  unfolding well_formed
  formed_iff at last = (
    λ e.
        given (and_both _ _ e) λ (e₁, b). given (and_both _ _ e₁) λ (e₂, n). given (and_both _ _ e₂) λ (h, t).
        (leb-sound (at + 3) (length xs) h, leb-sound last (tag_at xs at) t, leb-sound (next_at xs at) (length xs) n, b),
    λ (h, t, n, b). rw (leb_yes (at + 3) (length xs) h, leb_yes last (tag_at xs at) t, leb_yes (next_at xs at) (length xs) n, b),
  )

  -- the next field is three bytes further, at least
  next_past : (at : ℕ) → at + 3 ≤ next_at xs at
  unfolding next_at
  next_past at = omega arith

  -- what reading from offset `at` on finds
  abbrev Found : ℕ → ℕ → Layout → Layout → Type 0
  Found at last L L' = (places : List ℕ) × FieldsAt xs at last places × (extended L places ≡ L') × Few xs L'

  found : (n at last : ℕ) (L : Layout) {L' : Layout} → at ≤ length xs → length xs ≤ at + n → Few xs L
      → read_fields n xs at last L ≡ accepted L' → Found at last L L'
  unfolding read_fields
  found zero at last L l m F e = ([], no_more {at = at} (omega arith), extended_none L ∙ accepted_inj e, subst (Few xs) (accepted_inj e) F)
  found (suc n) at last L l m F e = ⊎_elim
      (λ (p, q). ([], no_more {at = at} (eqb-sound at (length xs) p), extended_none L ∙ accepted_inj q, subst (Few xs) (accepted_inj q) F))
      (λ (p, q).
      given (unbind (require (well_formed xs at last) 2 at) _ q) λ (formed, x, q₁).
      given (unbind (require (within_counts xs at (with_field xs at L)) 3 at) _ q₁) λ (within, y, q₂).
      given ((formed_iff at last).0 (required _ 2 at x)) λ (h, t, w, b).
      given (found n (next_at xs at) (tag_at xs at) (with_field xs at L) w (omega (arith, next_past at))
      (few-more at L F (required _ 3 at y)) q₂) λ (places, D, z, G).
      (at ∷ places, one_more h t w b D, sym (extended-more L at places) ∙ z, G))
      (either_way (eqb at (length xs)) _ _ e)

  reads : (n at last : ℕ) (L : Layout) (places : List ℕ) → length xs ≤ at + n → FieldsAt xs at last places → Few xs (extended L places)
      → read_fields n xs at last L ≡ accepted (extended L places)
  unfolding read_fields
  reads zero at last L places m (no_more z) F = ap accepted (sym (extended_none L))
  reads zero at last L places m (one_more h t w b D) F = absurd (omega arith)
  reads (suc n) at last L places m (no_more z) F = rw (subst (λ k. eqb at k ≡ true) z (eqb_yes at), read_fields) (ap accepted (sym (extended_none L)))
  reads (suc n) at last L places m (one_more {places = later} h t w b D) F =
      rw (eqb-differs at (length xs) (λ z. omega arith), read_fields)
      (via _ (require_yes 2 at ((formed_iff at last).1 (h, t, w, b)))
      (via _ (require_yes 3 at (few-counts at L later F))
      (reads n (next_at xs at) (tag_at xs at) (with_field xs at L) later (omega (arith, next_past at)) D (subst (Few xs) (sym (extended-more L at later)) F)
      ∙ ap accepted (extended-more L at later))))

----------------------------------------------------------------
-- The whole program

none_yet : (xs : List ℕ) → length xs ≤ max_program_bytes → Few xs no_fields
unfolding no_fields member
none_yet xs l = record { bytes = l; types = omega arith; terms = omega arith; functions = omega arith; parameters = λ at e. absurd (false≢true e) }

pub layout_iff : (xs : List ℕ) (L : Layout)
    → (layout xs ≡ accepted L) ↔ ((places : List ℕ) × FieldsAt xs 0 1 places × Few xs (by_tag xs places) × (by_tag xs places ≡ L))
unfolding layout no_fields
layout_iff xs L = (
  λ e.
      given (unbind (require (leb (length xs) max_program_bytes) 3 0) _ e) λ (within, p, q).
      given (found xs (length xs) 0 1 no_fields (omega arith) (omega arith)
      (none_yet xs (leb-sound _ max_program_bytes (required _ 3 0 p))) q) λ (places, D, z, G).
      (places, D, subst (Few xs) (sym z) G, z),
  λ (places, D, F, z).
      via _ (require_yes 3 0 (leb_yes (length xs) max_program_bytes F.bytes)) (reads xs (length xs) 0 1 no_fields places (omega arith) D F ∙ ap accepted z),
)
