use mathlib.Core.Path.{ap₂, sym, ◌∙◌}
use Rattle.calls.specs.Fields.{type_length, term_length, function_length}
use Rattle.program.proofs.Formed.{fits-type, fits-term, fits-function, fits_nothing}
use Rattle.program.proofs.fields.body_fits.Goals as goal

pub returns-in-Ok-Type : goal.returns-in-Ok-Type
returns-in-Ok-Type c =
    let e = sym ((rw c.in-Ok-Type.field-0-is at c.in-Ok-Type.ensures) ∙ c.tag_at.ensures) in
    c.type_length.ensures ∙ ap₂ type_length c.kind_at.ensures c.length_at-n.ensures ∙ fits-type _ _ e

pub returns-in-Ok-Term : goal.returns-in-Ok-Term
returns-in-Ok-Term c =
    let e = sym ((rw c.in-Ok-Term.field-0-is at c.in-Ok-Term.ensures) ∙ c.tag_at.ensures) in
    c.term_length.ensures ∙ ap₂ term_length c.kind_at-in-Ok-Term.ensures c.length_at-n.ensures ∙ fits-term _ _ e

pub returns-in-Ok-Function : goal.returns-in-Ok-Function
returns-in-Ok-Function c =
    let e = sym ((rw c.in-Ok-Function.field-0-is at c.in-Ok-Function.ensures) ∙ c.tag_at.ensures) in
    c.function_length.ensures ∙ ap₂ function_length c.parameters_at.ensures c.length_at-n.ensures ∙ fits-function _ _ e

pub returns-in-Err : goal.returns-in-Err
returns-in-Err c =
    let h = c.in-Err.ensures in
    fits_nothing _ _ (λ e. h.1 (c.tag_at.ensures ∙ e)) (λ e. h.2 (c.tag_at.ensures ∙ e)) (λ e. h.3 (c.tag_at.ensures ∙ e))
