use Prim.Native.Nat.{ℕ, ◌-◌, ◌<◌}
use native.Mathlib.Omega.{arith}
use mathlib.Core.Path.{◌≡◌, ap, ◌∙◌}
use mathlib.Core.List.{[], ◌∷◌, ◌++◌, reverse}
use lib.ListN.{length, get_or, length-append}
use Rattle.std.proofs.lemmas.List.{get_or-reverse, length-reverse}
use Rattle.std.proofs.lemmas.Iterator.Adapters.{YieldsList-from_rev_slice}
use Rattle.std.proofs.lemmas.Iterator.Consumers.{YieldsList-turn}
use Rattle.std.proofs.lemmas.Grind.{get_or_default_zero}
use Rattle.valuegraph.specs.Nodes.{kind_number, kind_named}
use Rattle.valuegraph.proofs.Numbered.{number_named}
use Rattle.valuegraph.proofs.Loading.{Turn, turn, turn-ready, turn-next}
use Rattle.valuegraph.proofs.nodes.load.Goals.{After-named}
use Rattle.valuegraph.proofs.nodes.load.Goals as goal

-- `load` goes from the last byte to the first. What is loaded so far is a record of specs/Loads, and each answer is a law of proofs/Loading.

-- the place of the byte at hand
abbrev place_of : After-named → ℕ
place_of c = length c.args.s.now - length c.loop-byte.yielded - 1

byte-there : (c : After-named) → (length c.loop-byte.yielded < length c.args.s.now) × (c.in-Some.byte.now ≡ get_or c.args.s.now (place_of c) 0)
byte-there c =
    let s = c.args.s.now in
    let k = length c.loop-byte.yielded in
    let m = YieldsList-turn (YieldsList-from_rev_slice s cc) c.loop-byte.yielded c.loop-byte.byte-iterator c.loop-byte.yielded_by
    c.next.result c.next.new.self c.in-Some.byte c.in-Some.is c.next.ensures.steps in
    let l : k < length s = omega (arith, m.0, length-reverse s) in
    let e : length s - 1 - k ≡ place_of c = omega arith in
    (l, m.1 ∙ get_or_default_zero (reverse s) k _ m.0 ∙ get_or-reverse s k 0 l ∙ ap (λ i. get_or s i 0) e)

turn-there : (c : After-named) → Turn c.args.ws.now c.loop-byte.ws c.args.top c.args.s.now (place_of c) c.loop-byte.free
turn-there c = turn c.requires c.loop-byte.invariant (omega (arith, (byte-there c).0))

kind-there : (c : After-named) → kind_number c.named.result ≡ get_or c.args.s.now (place_of c) 0
kind-there c = ap kind_number (c.named.ensures ∙ ap kind_named (byte-there c).1) ∙ number_named _ (turn-ready (turn-there c)).kind

pub place-requires : goal.place-requires
place-requires c =
    rw (kind-there c) (turn-ready (turn-there c))

pub loop-byte-preserved : goal.loop-byte-preserved
loop-byte-preserved c =
    let d = (goal.at.loop-byte-preserved c).After-named in
    let e : length c.args.s.now - length (c.loop-byte.yielded ++ (c.in-Some.byte ∷ [])) ≡ place_of d =
    omega (arith, length-append c.loop-byte.yielded (c.in-Some.byte ∷ [])) in
    rw e (turn-next (turn-there d) (rw (kind-there d) at c.place.ensures))
