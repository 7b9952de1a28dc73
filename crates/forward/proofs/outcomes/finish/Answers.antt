use Prim.Native.Nat.{◌+◌}
use native.Mathlib.Omega.{arith}
use mathlib.Core.Path.{refl, ap, ◌∙◌}
use Rattle.scopes.specs.Slots.{machine_of}
use Rattle.forward.specs.Outcomes.{status_of}
use Rattle.forward.proofs.Making.{finish_new, finish_old}
use Rattle.forward.proofs.outcomes.finish.Goals as goal

pub grow-requires : goal.grow-requires
grow-requires c =
    (c.requires.0, omega (arith, c.requires.1))

pub returns-then-made : goal.returns-then-made
returns-then-made c =
    record {
      lengths = c.grow.ensures.lengths;
      slots = c.grow.ensures.slots;
      out = ap (λ m. record { status = status_of c.top-top.result; state = m }) c.grow.ensures.machine ∙ ap
          (λ n. record {
            status = status_of n;
            state = record {
              top = (machine_of c.args.st.now).top + 1;
              fuel = (machine_of
                  c.args.st.now).fuel;
            };
          }) c.top-top.ensures ∙ finish_new (machine_of c.args.st.now) _ c.if-made.true
          c.requires.1;
    }

pub returns : goal.returns
returns c =
    record { lengths = refl; slots = refl; out = finish_old (machine_of c.args.st.now) _ c.if-made.false c.refuse.ensures.status }
