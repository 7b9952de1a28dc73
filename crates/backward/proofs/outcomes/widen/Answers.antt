use mathlib.Core.Path.{ap, ◌∙◌}
use lib.ListN.{set}
use Rattle.scopes.specs.Slots.{unknown, slots_of}
use Rattle.backward.proofs.outcomes.widen.Goals as goal

pub returns : goal.returns
unfolding unknown
returns c =
    record {
      lengths = c.bind.ensures.lengths;
      slots = c.bind.ensures.slots ∙ ap (λ at. set (slots_of c.args.st.now) at unknown) c.end_of.ensures;
      machine = c.bind.ensures.machine;
      scope_is = c.wider.ensures;
    }
