use mathlib.Core.Path.{◌∙◌}
use borrow.Author.Rules.{rules}
use Rattle.journal.proofs.Stands.{standing, in_order, newest_within, function_is, steps_are, ancillae_are}
use Rattle.journal.proofs.parts.Standing.newest.Goals as goal

pub returns-clause-function : goal.returns-clause-function
returns-clause-function c =
    c.read16.ensures ∙ function_is (standing _ _ c.args.self.now.in_form) c.requires

pub returns-clause-steps : goal.returns-clause-steps
returns-clause-steps c =
    c.read32.ensures ∙ steps_are (standing _ _ c.args.self.now.in_form) c.requires

pub returns-clause-ancillae : goal.returns-clause-ancillae
returns-clause-ancillae c =
    ancillae_are (standing _ _ c.args.self.now.in_form) c.requires

pub read16-requires : goal.read16-requires
read16-requires c =
    let h = in_order c.args.self.now in
    let r = newest_within c.args.self.now c.requires in
    search rules

pub read32-requires : goal.read32-requires
read32-requires c =
    let h = in_order c.args.self.now in
    let r = newest_within c.args.self.now c.requires in
    search rules

pub slice_bounds-result-count : goal.slice_bounds-result-count
slice_bounds-result-count c =
    let h = in_order c.args.self.now in
    let r = newest_within c.args.self.now c.requires in
    search rules

pub slice_bounds-result-start : goal.slice_bounds-result-start
slice_bounds-result-start c =
    let h = in_order c.args.self.now in
    let r = newest_within c.args.self.now c.requires in
    search rules
