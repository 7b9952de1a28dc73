use mathlib.Core.Path.{refl, ap, ◌∙◌}
use Rattle.std.specs.Prelude.{Ok, Err}
use Rattle.backward.specs.Outcomes.{too_long}
use Rattle.backward.specs.declared.outcomes.Next.TheVariants.{On}
use Rattle.backward.proofs.LastPart.{made_only, long_only}
use Rattle.backward.proofs.outcomes.entering.Goals as goal

pub returns-then-made : goal.returns-then-made
returns-then-made c =
    record {
      lengths = c.grow.ensures.lengths;
      slots = c.grow.ensures.slots;
      new = λ _. (c.grow.ensures.machine, ap (λ n. Ok (On c.args.t n c.args.b)) c.top-top.ensures);
      long = made_only c.if-made.true;
    }

pub returns : goal.returns
returns c =
    record {
      lengths = refl;
      slots = refl;
      new = long_only c.if-made.false;
      long = λ _. (refl, ap Err (c.long.ensures ∙ ap (λ fuel. too_long fuel c.args.room c.args.t) c.fuel.ensures));
    }
