use native.Mathlib.Omega.{arith}
use mathlib.Core.Path.{sym, ap, ◌∙◌}
use lib.ListN.{get_or}
use Prim.Native.Nat.{◌+◌}
use Rattle.program.specs.Lists.{term_terms}
use Rattle.program.proofs.KindCases.{call_alone}
use Rattle.program.proofs.Rooms.{term-kind-room, call-sized, call-room}
use Rattle.program.proofs.Lists.{terms_in-call, terms_by_kind}
use Rattle.program.proofs.views.terms_in_term.Goals as goal

pub call_ancillae-requires : goal.call_ancillae-requires
call_ancillae-requires c =
    (omega (arith, term-kind-room c.requires), call-sized c.requires (sym (rw c.in-Call.is at c.term_kind-kind.ensures)))

pub overflow_add-result : goal.overflow_add-result
overflow_add-result c =
    omega (arith, call-room c.requires (sym (rw c.in-Call.is at c.term_kind-kind.ensures)), c.call_ancillae.ensures)

pub returns-in-Call : goal.returns-in-Call
returns-in-Call c =
    ap (λ n. n + 1) c.call_ancillae.ensures ∙ terms_in-call _ _ (sym (rw c.in-Call.is at c.term_kind-kind.ensures))

pub returns-in_default : goal.returns-in_default
unfolding term_terms
returns-in_default c =
    c.terms.ensures ∙ ap (λ k. get_or term_terms k 0) c.term_kind-kind.ensures ∙ terms_by_kind _ _
    (λ e. call_alone _ c.in_default.not-Call (c.term_kind-kind.ensures ∙ e))
