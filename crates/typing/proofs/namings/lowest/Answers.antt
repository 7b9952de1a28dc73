use mathlib.Core.Path.{sym, ap, ◌∙◌}
use Rattle.std.specs.Prelude.{Some}
use Rattle.typing.specs.Waiting.{met}
use Rattle.typing.proofs.Settling.{met-least}
use Rattle.typing.proofs.namings.lowest.Goals as goal

pub returns-in-Some : goal.returns-in-Some
returns-in-Some c =
    ap Some c.min.ensures ∙ met-least _ _ ∙ sym (ap (λ l. met l c.args.place) c.in-Some.is)

pub returns-in-None : goal.returns-in-None
unfolding met
returns-in-None c =
    sym (ap (λ l. met l c.args.place) c.in-None.is)
