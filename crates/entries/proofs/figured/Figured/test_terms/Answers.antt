use Prim.Native.Nat.{◌+◌}
use native.Mathlib.Omega.{arith}
use mathlib.Core.Path.{ap, refl, subst, sym, ◌∙◌}
use Rattle.std.proofs.lemmas.Result.{err_from_is_err_and}
use Rattle.std.specs.Prelude.{Err}
use Rattle.program.specs.Parts.{TermField}
use Rattle.entries.proofs.Verdicts.{going_start, going_more, going_stops, going_end}
use Rattle.entries.proofs.Terms.{terms_from_entry, terms-step, terms-over}
use Rattle.entries.proofs.figured.Figured.test_terms.Goals as goal

pub loop-k-init : goal.loop-k-init
loop-k-init c =
    (refl, going_start _ _)

pub bounds-self-k : goal.bounds-self-k
bounds-self-k c =
    omega arith

pub test_term-requires-clause-term_field : goal.test_term-requires-clause-term_field
test_term-requires-clause-term_field c =
    subst (TermField _) (sym c.from-at.ensures) (c.args.self.now.formed.terms c.loop-k.k (omega arith))

pub test_term-requires-clause-room : goal.test_term-requires-clause-room
test_term-requires-clause-room c =
    omega (arith, c.requires, c.loop-k.invariant.0)

pub loop-k-preserved : goal.loop-k-preserved
loop-k-preserved c = (
  c.test_term.auto.used ∙ c.loop-k.invariant.0,
  going_more _ _
      (terms_from_entry c.args.self.now.program.now c.args.self.now.types.now c.args.self.now.terms.now c.args.self.now.functions.now c.args.self.now.nodes.now
      c.args.self.now.free.now (c.loop-k.k + 1)) _ _ _ _ _
      (terms-step c.args.self.now.program.now c.args.self.now.types.now c.args.self.now.terms.now c.args.self.now.functions.now c.args.self.now.nodes.now
      c.args.self.now.free.now c.args.self.now.measured c.loop-k.k _ (omega arith) c.from-at.ensures)
      c.loop-k.invariant.1 _ c.test_term.ensures c.in_ok-test_term.was,
)

pub shape_of-used-in_err-test_term : goal.shape_of-used-in_err-test_term
shape_of-used-in_err-test_term c =
    c.test_term.auto.used ∙ c.loop-k.invariant.0

pub returns-in_err-test_term : goal.returns-in_err-test_term
returns-in_err-test_term c =
    let e = err_from_is_err_and c.from_residual.result c.from_residual.ensures.1 in
    rw (e.1 ∙ ap Err e.2) (going_stops _ _ (terms_from_entry c.args.self.now.program.now c.args.self.now.types.now c.args.self.now.terms.now c.args.self.now.functions.now
    c.args.self.now.nodes.now c.args.self.now.free.now (c.loop-k.k + 1)) _ _ _ _ _
    (terms-step c.args.self.now.program.now c.args.self.now.types.now c.args.self.now.terms.now c.args.self.now.functions.now c.args.self.now.nodes.now
    c.args.self.now.free.now c.args.self.now.measured c.loop-k.k _ (omega arith) c.from-at.ensures)
    c.loop-k.invariant.1 _ c.test_term.ensures _ c.in_err-test_term.was)

pub returns : goal.returns
returns c =
    going_end _ _ _ _ (terms-over c.args.self.now.program.now c.args.self.now.types.now c.args.self.now.terms.now c.args.self.now.functions.now
    c.args.self.now.nodes.now c.args.self.now.free.now c.loop-k.k (omega arith)) c.loop-k.invariant.1
