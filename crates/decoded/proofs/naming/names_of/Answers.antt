use Prim.Native.Nat.{◌+◌, ◌*◌}
use native.Mathlib.Omega.{arith}
use mathlib.Core.Path.{sym, ap, ◌∙◌}
use Rattle.program.specs.KindNumbers.{term_kind_number}
use Rattle.decoded.proofs.Sets as sets
use Rattle.decoded.proofs.naming.names_of.Goals.{In-Inl, In-Pair, In-Case, After-from-ancillae}
use Rattle.decoded.proofs.naming.names_of.Goals as goal

-- the terms of a row, by its kind
parts-one : (c : In-Inl) → sets.Parts c.args.code.now c.args.t (12 * c.from-row.result + 2) 1
parts-one c = sets.parts-one c.args.code.now c.args.t (omega arith) c.row_kind.ensures c.in-Inl.is

parts-two : (c : In-Pair) → sets.Parts c.args.code.now c.args.t (12 * c.from-row.result + 1) 2
parts-two c = sets.parts-two c.args.code.now c.args.t (omega arith) c.row_kind.ensures c.in-Pair.is

parts-three : (c : In-Case) → sets.Parts c.args.code.now c.args.t (12 * c.from-row.result + 1) 3
parts-three c = sets.parts_case c.args.code.now c.args.t (omega arith) (sym c.row_kind.ensures ∙ ap term_kind_number c.in-Case.is)

parts-called : (c : After-from-ancillae) → sets.Parts c.args.code.now c.args.t (12 * c.from-row.result + 4) (c.from-ancillae.result + 1)
parts-called c = sets.parts-call c.args.code.now c.args.t (omega arith) (omega (arith, c.from-ancillae.ensures, c.third_of.ensures)) c.requires.1
    (sym c.row_kind.ensures ∙ ap term_kind_number c.in-Call.is)

pub union_of-requires-clause-n_value : goal.union_of-requires-clause-n_value
union_of-requires-clause-n_value c =
    sets.parts_below (parts-one (goal.at.union_of-requires-clause-n_value c).In-Inl) c.requires.1 c.requires.0

pub union_of-requires-in-Pair-clause-n_value : goal.union_of-requires-in-Pair-clause-n_value
union_of-requires-in-Pair-clause-n_value c =
    sets.parts_below (parts-two (goal.at.union_of-requires-in-Pair-clause-n_value c).In-Pair) c.requires.1 c.requires.0

pub union_of-requires-in-Case-clause-n_value : goal.union_of-requires-in-Case-clause-n_value
union_of-requires-in-Case-clause-n_value c =
    sets.parts_below (parts-three (goal.at.union_of-requires-in-Case-clause-n_value c).In-Case) c.requires.1 c.requires.0

pub union_of-requires-in-Call-clause-n_value : goal.union_of-requires-in-Call-clause-n_value
union_of-requires-in-Call-clause-n_value c =
    sets.parts_below (parts-called (goal.at.union_of-requires-in-Call-clause-n_value c).After-from-ancillae) c.requires.1 c.requires.0

pub returns-in-Variable : goal.returns-in-Variable
returns-in-Variable c =
    sets.named_variable c.args.code.now c.args.t c.args.sets.now (sym c.row_kind.ensures ∙ ap term_kind_number c.in-Variable.is)
    c.first_of.ensures c.only.ensures

pub returns-in-Unit : goal.returns-in-Unit
returns-in-Unit c =
    sets.named_unit c.args.code.now c.args.t c.args.sets.now (sym c.row_kind.ensures ∙ ap term_kind_number c.in-Unit.is) c.none.ensures

pub returns-in-Inl : goal.returns-in-Inl
returns-in-Inl c =
    sets.parts_named (parts-one (goal.at.returns-in-Inl c).In-Inl) c.args.sets.now c.union_of.ensures

pub returns-in-Pair : goal.returns-in-Pair
returns-in-Pair c =
    sets.parts_named (parts-two (goal.at.returns-in-Pair c).In-Pair) c.args.sets.now c.union_of-in-Pair.ensures

pub returns-in-Case : goal.returns-in-Case
returns-in-Case c =
    sets.parts_named (parts-three (goal.at.returns-in-Case c).In-Case) c.args.sets.now c.union_of-in-Case.ensures

pub returns-in-Call : goal.returns-in-Call
returns-in-Call c =
    sets.parts_named (parts-called (goal.at.returns-in-Call c).After-from-ancillae) c.args.sets.now c.union_of-in-Call.ensures
