use native.Mathlib.Omega.{arith}
use mathlib.Core.Path.{refl, ◌∙◌}
use Rattle.rules.specs.Limits.{max_program_bytes}
use Rattle.program.proofs.Found.{none_formed, whole_formed, whole_tag, whole_next}
use Rattle.program.proofs.Placing.{buffers-kept}
use Rattle.program.proofs.Reading.{next-after, next-inside, layout-over, reading_starts, reading_ends, reading_malformed, reading_over, reading_placeable, reading_more}
use Rattle.program.proofs.Signing.{signing-starts, signing-ends, signable, signing-more}
use Rattle.program.proofs.fields.layout.Goals as goal

pub returns-then-p-gt-MAX_PROGRAM_BYTES-clause-fields : goal.returns-then-p-gt-MAX_PROGRAM_BYTES-clause-fields
unfolding max_program_bytes
returns-then-p-gt-MAX_PROGRAM_BYTES-clause-fields c =
    record { answer = layout-over _ c.if-p-gt-MAX_PROGRAM_BYTES.true; counted = tt; buffers = c.requires.buffers }

pub returns-then-p-gt-MAX_PROGRAM_BYTES-clause-signed : goal.returns-then-p-gt-MAX_PROGRAM_BYTES-clause-signed
unfolding max_program_bytes
returns-then-p-gt-MAX_PROGRAM_BYTES-clause-signed c =
    tt

pub loop-at-init : goal.loop-at-init
unfolding max_program_bytes
loop-at-init c =
    (reading_starts _ _ _ _ c.if-p-gt-MAX_PROGRAM_BYTES.false c.requires.buffers, refl, refl, refl, signing-starts _ c.requires.table_value)

pub read_field-requires : goal.read_field-requires
read_field-requires c =
    c.loop-at.invariant.0.inside

pub shape_of-types-in_default : goal.shape_of-types-in_default
shape_of-types-in_default c =
    c.loop-at.invariant.1

pub shape_of-terms-in_default : goal.shape_of-terms-in_default
shape_of-terms-in_default c =
    c.loop-at.invariant.2

pub shape_of-functions-in_default : goal.shape_of-functions-in_default
shape_of-functions-in_default c =
    c.loop-at.invariant.3

pub returns-in_default-clause-fields : goal.returns-in_default-clause-fields
returns-in_default-clause-fields c =
    record {
      answer = reading_malformed c.loop-at.invariant.0 c.loop-at-test.true
          (none_formed _ _ _ (rw c.in_default.is at (rw c.from.ensures at c.read_field.ensures)));
      counted = tt;
      buffers = c.loop-at.invariant.0.buffers;
    }

pub returns-in_default-clause-signed : goal.returns-in_default-clause-signed
returns-in_default-clause-signed c =
    tt

pub place-requires : goal.place-requires
place-requires c =
    let whole = rw c.in-Some.is at (rw c.from.ensures at c.read_field.ensures) in
    record { placeable = reading_placeable c.loop-at.invariant.0 c.loop-at-test.true (whole_formed _ _ _ _ _ whole); tag_value = whole_tag _ _ _ _ _ whole }

pub shape_of-types-in_default-place : goal.shape_of-types-in_default-place
shape_of-types-in_default-place c =
    c.place.auto.types ∙ c.loop-at.invariant.1

pub shape_of-terms-in_default-place : goal.shape_of-terms-in_default-place
shape_of-terms-in_default-place c =
    c.place.auto.terms ∙ c.loop-at.invariant.2

pub shape_of-functions-in_default-place : goal.shape_of-functions-in_default-place
shape_of-functions-in_default-place c =
    c.place.auto.functions ∙ c.loop-at.invariant.3

pub returns-in_default-place-clause-fields : goal.returns-in_default-place-clause-fields
returns-in_default-place-clause-fields c =
    let formed = whole_formed _ _ _ _ _ (rw c.in-Some.is at (rw c.from.ensures at c.read_field.ensures)) in
    record {
      answer = reading_over c.loop-at.invariant.0 c.loop-at-test.true formed
          (rw c.in_default-place.is at c.place.ensures);
      counted = tt;
      buffers = buffers-kept c.loop-at.invariant.0.buffers c.place.auto.types c.place.auto.terms
          c.place.auto.functions;
    }

pub returns-in_default-place-clause-signed : goal.returns-in_default-place-clause-signed
returns-in_default-place-clause-signed c =
    let formed = whole_formed _ _ _ _ _ (rw c.in-Some.is at (rw c.from.ensures at c.read_field.ensures)) in
    tt

pub sign-requires : goal.sign-requires
sign-requires c =
    let whole = rw c.in-Some.is at (rw c.from.ensures at c.read_field.ensures) in
    signable _ c.loop-at.invariant.0.buffers c.loop-at.invariant.0.within (whole_formed _ _ _ _ _ whole) (rw c.in-Some-place.is at c.place.ensures)
    (whole_tag _ _ _ _ _ whole)

pub loop-at-smaller : goal.loop-at-smaller
loop-at-smaller c =
    let whole = rw c.in-Some.is at (rw c.from.ensures at c.read_field.ensures) in
    omega (
      arith,
      whole_next _ _ _ _ _ whole,
      next-after c.args.p.now c.loop-at.at,
      next-inside _ _ _ (whole_formed _ _ _ _ _ whole),
    )

pub loop-at-preserved : goal.loop-at-preserved
loop-at-preserved c =
    let whole = rw c.in-Some.is at (rw c.from.ensures at c.read_field.ensures) in (
      reading_more c.loop-at.invariant.0 c.loop-at-test.true (whole_formed _ _ _ _ _ whole)
          (rw c.in-Some-place.is at c.place.ensures) (buffers-kept c.loop-at.invariant.0.buffers c.place.auto.types c.place.auto.terms c.place.auto.functions)
          (whole_tag _ _ _ _ _ whole) (whole_next _ _ _ _ _ whole),
      c.place.auto.types ∙ c.loop-at.invariant.1,
      c.place.auto.terms ∙ c.loop-at.invariant.2,
      c.place.auto.functions ∙ c.loop-at.invariant.3,
      signing-more _
          c.loop-at.invariant.0.buffers c.loop-at.invariant.0.within (whole_formed _ _ _ _ _ whole) (rw c.in-Some-place.is at c.place.ensures)
          (whole_tag _ _ _ _ _ whole) c.sign.ensures c.loop-at.invariant.4,
    )

pub shape_of-types : goal.shape_of-types
shape_of-types c =
    c.loop-at.invariant.1

pub shape_of-terms : goal.shape_of-terms
shape_of-terms c =
    c.loop-at.invariant.2

pub shape_of-functions : goal.shape_of-functions
shape_of-functions c =
    c.loop-at.invariant.3

pub returns-clause-fields : goal.returns-clause-fields
returns-clause-fields c =
    record { answer = reading_ends c.loop-at.invariant.0 c.loop-at-test.false; counted = c.loop-at.invariant.0.within; buffers = c.loop-at.invariant.0.buffers }

pub returns-clause-signed : goal.returns-clause-signed
returns-clause-signed c =
    signing-ends c.loop-at.invariant.4
