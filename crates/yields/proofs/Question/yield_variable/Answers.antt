use Prim.Native.Nat.{◌+◌}
use native.Mathlib.Omega.{arith}
use mathlib.Core.Path.{ap₂, ◌∙◌}
use lib.ListN.{get_or}
use Rattle.valuegraph.specs.Nodes.{value_at}
use Rattle.scopes.specs.Slots.{slots_of, scope_in}
use Rattle.yields.proofs.Ancillae.{yields_own, yields-any}
use Rattle.yields.proofs.Question.yield_variable.Goals as goal

pub agree-requires-clause-heap : goal.agree-requires-clause-heap
agree-requires-clause-heap c =
    c.requires.heap

pub agree-requires-clause-known_bound : goal.agree-requires-clause-known_bound
agree-requires-clause-known_bound c =
    (rw (c.at-known.ensures, c.base_in.ensures) (c.requires.ancillae_in.known _ (omega arith)), c.requires.node_bound.0)

pub returns-then-v-ancillae_in : goal.returns-then-v-ancillae_in
returns-then-v-ancillae_in c =
    yields_own c.args.self.now.ws.now (slots_of c.args.self.now.st.now) (scope_in c.args.self.now.scope).base (scope_in c.args.self.now.scope).q c.args.i (value_at c.args.self.now.ws.now c.args.node)
    (omega arith)
    (c.at-known.ensures ∙ ap₂ (λ base i. get_or (slots_of c.args.self.now.st.now) (base + i) 0) c.base_in.ensures c.from-v.ensures) c.agree.ensures

pub returns : goal.returns
returns c =
    rw c.surely.ensures (yields-any c.args.self.now.ws.now (slots_of c.args.self.now.st.now) (scope_in c.args.self.now.scope).base (scope_in c.args.self.now.scope).q c.args.i (value_at c.args.self.now.ws.now c.args.node) (omega arith))
