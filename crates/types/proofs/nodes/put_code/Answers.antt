use native.Mathlib.Omega.{arith}
use mathlib.Core.Path.{◌≡◌, ap, ◌∙◌}
use Rattle.types.specs.Codes.{code_at}
use Rattle.types.specs.Growth.{put_code}
use Rattle.types.proofs.Growing.{fitting, code_put}
use Rattle.types.proofs.nodes.put_code.Goals as goal

pub returns : goal.returns
unfolding put_code
returns c =
    let h = c.from-numbers.type_inv in
    let F = fitting c.from-numbers.ensures (record { form = omega (arith, h); at = omega (arith, h); stands = omega (arith, h) }) in
    let e : c.write16-3.new.s ≡ put_code c.args.ws.now c.args.at c.args.c = cc in
    (e, ap (λ heap. code_at heap c.args.at) e ∙ code_put c.args.ws.now c.args.at c.args.c F c.requires)
