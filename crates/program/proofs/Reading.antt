-- Laws of the pass over a program's fields: where it starts, a turn of it, where it stops.
use Prim.Native.Nat.{ℕ, zero, suc, ◌+◌, ◌<◌, ◌≤◌}
use native.Mathlib.Omega.{arith}
use mathlib.Core.Path.{◌≡◌, refl, sym, ap, ◌∙◌}
use mathlib.Core.Bool.{true, false}
use mathlib.Core.List.{List}
use lib.ListN.{length, take}
use borrow.Author.Tests.{le-leb, lt-leb, eq-eqb, ne_eqb}
use package.Rattle.rules.specs.Limits.{max_program_bytes}
use package.Rattle.calls.specs.Answer.{Answer, accepted, refused, ◌>>=◌, require}
use package.Rattle.calls.specs.Fields.{Layout, no_fields, tag_at, next_at, well_formed, with_field, within_counts, read_fields, layout}
use package.Rattle.program.specs.declared.fields.Counts.{Counts}
use package.Rattle.program.proofs.Inside.{well_formed_lem}
use Rattle.std.specs.Prelude.{Ok}
use package.Rattle.program.specs.Places.{Placed, fronts_of, Within, Buffers, Placeable, Added, FieldsMean}

----------------------------------------------------------------
-- A well-formed field: where it ends

pub next-after : (xs : List ℕ) (at : ℕ) → at + 3 ≤ next_at xs at
unfolding next_at
next-after xs at = omega arith

module _ (xs : List ℕ) (at last : ℕ) (e : well_formed xs at last ≡ true) where
  pub next-inside : next_at xs at ≤ length xs
  next-inside = (well_formed_lem xs at last e).0

  pub field-inside : at + 3 ≤ length xs
  field-inside = omega (arith, next-after xs at, next-inside)

----------------------------------------------------------------
-- One turn of the definition

module _ (n : ℕ) (xs : List ℕ) (at last : ℕ) (L : Layout) where
  read-end : at ≡ length xs → read_fields n xs at last L ≡ accepted L
  unfolding read_fields
  read-end e = at-end n
    where
      at-end : (n : ℕ) → read_fields n xs at last L ≡ accepted L
      at-end zero = refl
      at-end (suc n) = rw (eq-eqb at (length xs) e, read_fields)

  module _ (here : at ≡ length xs → ⊥) where
    read-malformed : well_formed xs at last ≡ false → read_fields (suc n) xs at last L ≡ refused 2 at
    unfolding read_fields require ◌>>=◌
    read-malformed e = rw (ne_eqb at (length xs) here, read_fields) (rw e)

    read-over : well_formed xs at last ≡ true → within_counts xs at (with_field xs at L) ≡ false → read_fields (suc n) xs at last L ≡ refused 3 at
    unfolding read_fields require ◌>>=◌
    read-over e f = rw (ne_eqb at (length xs) here, read_fields) (rw (e, f))

    read_more : well_formed xs at last ≡ true → within_counts xs at (with_field xs at L) ≡ true
        → read_fields (suc n) xs at last L ≡ read_fields n xs (next_at xs at) (tag_at xs at) (with_field xs at L)
    unfolding read_fields require ◌>>=◌
    read_more e f = rw (ne_eqb at (length xs) here, read_fields) (rw (e, f))

pub layout-over : (xs : List ℕ) → max_program_bytes < length xs → layout xs ≡ refused 3 0
unfolding layout require ◌>>=◌
layout-over xs h = rw (lt-leb (length xs) max_program_bytes h)

layout-starts : (xs : List ℕ) → length xs ≤ max_program_bytes → layout xs ≡ read_fields (length xs) xs 0 1 no_fields
unfolding layout require ◌>>=◌
layout-starts xs h = rw (le-leb (length xs) max_program_bytes h)

----------------------------------------------------------------
-- The pass

-- Before the field at `at`: what the buffers hold is the layout so far, and from here the definition reads on.
pub record Reading (xs types terms functions : List ℕ) (c : Counts) (at last : ℕ) : Type 0 where
  pub inside : at ≤ length xs
  pub small : length xs ≤ max_program_bytes
  pub within : Within c
  pub buffers : Buffers types terms functions
  -- a bound of the fields to come
  pub left : ℕ
  pub enough : length xs ≤ at + left
  pub same : layout xs ≡ read_fields left xs at last (fronts_of types terms functions c)

pub reading_starts : (xs types terms functions : List ℕ) → length xs ≤ max_program_bytes → Buffers types terms functions
    → Reading xs types terms functions (record { types = 0; terms = 0; functions = 0 }) 0 1
unfolding no_fields
reading_starts xs types terms functions h b = record {
  inside = omega arith;
  small = h;
  within = record { types = omega arith; terms = omega arith; functions = omega arith };
  buffers = b;
  left = length xs;
  enough = omega arith;
  same = layout-starts xs h;
}

module _ {xs types terms functions : List ℕ} {c : Counts} {at last : ℕ} (r : Reading xs types terms functions c at last) where
  pub reading_ends : length xs ≤ at → layout xs ≡ accepted (fronts_of types terms functions c)
  reading_ends h = r.same ∙ read-end r.left xs at last _ (omega arith)

  module _ (here : at < length xs) where
    -- a field is to come
    onward : {y : Answer Layout} → ((n : ℕ) → (at ≡ length xs → ⊥) → read_fields (suc n) xs at last (fronts_of types terms functions c) ≡ y) → layout xs ≡ y
    onward {y} k = r.same ∙ some r.left r.enough
      where
        some : (n : ℕ) → length xs ≤ at + n → read_fields n xs at last (fronts_of types terms functions c) ≡ y
        some zero e = absurd (omega arith)
        some (suc n) e = k n (λ e. omega arith)

    pub reading_malformed : well_formed xs at last ≡ false → layout xs ≡ refused 2 at
    reading_malformed e = onward (λ n h. read-malformed n xs at last _ h e)

    pub reading_over : well_formed xs at last ≡ true → within_counts xs at (with_field xs at (fronts_of types terms functions c)) ≡ false → layout xs ≡ refused 3 at
    reading_over e f = onward (λ n h. read-over n xs at last _ h e f)

    pub reading_placeable : well_formed xs at last ≡ true → Placeable xs at c types terms functions
    reading_placeable e = record { whole = field-inside xs at last e; small = r.small; within = r.within; buffers = r.buffers }

    -- one field more
    pub reading_more : {types' terms' functions' : List ℕ} {c' : Counts} {at' last' : ℕ} → well_formed xs at last ≡ true
        → Added c' xs at (fronts_of types terms functions c) types' terms' functions' → Buffers types' terms' functions'
        → last' ≡ tag_at xs at → at' ≡ next_at xs at → Reading xs types' terms' functions' c' at' last'
    reading_more {types'} {terms'} {functions'} {c'} {at'} {last'} e a b p q = record {
      inside = rw q (next-inside xs at last e);
      small = r.small;
      within = a.within;
      buffers = b;
      left = fields-left.0;
      enough = fields-left.1;
      same = fields-left.2;
    }
      where
        goes : (n : ℕ) → length xs ≤ at + n → layout xs ≡ read_fields n xs at last (fronts_of types terms functions c)
            → (m : ℕ) × (length xs ≤ at' + m) × (layout xs ≡ read_fields m xs at' last' (fronts_of types' terms' functions' c'))
        goes zero h s = absurd (omega arith)
        goes (suc n) h s = (
          n,
          omega (arith, next-after xs at),
          s ∙ read_more n xs at last _ (λ w. omega arith) e a.allowed
              ∙ ap (read_fields n xs (next_at xs at) (tag_at xs at)) (sym a.fronts)
              ∙ ap (λ l. read_fields n xs (next_at xs at) l (fronts_of types' terms' functions' c')) (sym p)
              ∙ ap (λ i. read_fields n xs i last' (fronts_of types' terms' functions' c')) (sym q),
        )

        fields-left : (m : ℕ) × (length xs ≤ at' + m) × (layout xs ≡ read_fields m xs at' last' (fronts_of types' terms' functions' c'))
        fields-left = goes r.left r.enough r.same

----------------------------------------------------------------
-- What a caller has of a program that is read: its layout is the fronts, and the buffers hold them

module _ {xs types terms functions : List ℕ} {c : Counts} (m : FieldsMean (Ok c) xs types terms functions) where
  pub read-placed : Placed xs (take c.types types) (take c.terms terms) (take c.functions functions)
  read-placed = record { read = m.answer }

  pub read-types : c.types ≤ length types
  read-types = omega (arith, m.counted.types, m.buffers.for_types)

  pub read-terms : c.terms ≤ length terms
  read-terms = omega (arith, m.counted.terms, m.buffers.for_terms)

  pub read-functions : c.functions ≤ length functions
  read-functions = omega (arith, m.counted.functions, m.buffers.for_functions)
