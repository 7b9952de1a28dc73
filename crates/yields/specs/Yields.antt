-- May-yield of a term of a decoded program, and of a value in the value graph (section 3; rules/specs/Yield). Laws: proofs/.
use Rattle.std.specs.Prelude.{ℕ, zero, suc, ◌+◌, ◌≤◌, ◌<◌, ◌≡◌, ◌⊎◌, Bool, true, false, List, [], ◌∷◌, get_or}
use package.Rattle.rules.specs.Val.{Val}
use package.Rattle.rules.specs.Yield.{may_yield}
use package.Rattle.calls.specs.Entries.{TypeEntry}
use package.Rattle.valuegraph.specs.Nodes.{value_at, Heap}
use package.Rattle.scopes.specs.Slots.{unknown, slot_count, slots_of, machine_of, scope_in}
use package.Rattle.decoded.specs.Rows.{term_count, tree_in, Rows}
use Rattle.yields.specs.declared.Answer.{Answer}
use Rattle.yields.specs.declared.Answer.TheVariants.{No, Perhaps, Yes}

----------------------------------------------------------------
-- Ancilla values: the ancilla parameters are the first `q` variables of a function's scope

-- their values, the newest first
unfoldable pub ancillae_at : List ℕ → List ℕ → ℕ → ℕ → List Val
ancillae_at heap slots base zero = []
ancillae_at heap slots base (suc q) = value_at heap (get_or slots (base + q) 0) ∷ ancillae_at heap slots base q

-- The slots are there, and each holds a node below `top`.
pub record Ancillae (slots : List ℕ) (base q top : ℕ) : Type 0 where
  pub there : base + q ≤ slot_count
  pub known : (i : ℕ) → i < q → get_or slots (base + i) 0 < top

-- the same of the numbers that a run is lent
abbrev pub ancillae_in : List ℕ → List ℕ → ℕ → List Val
ancillae_in heap st scope = ancillae_at heap (slots_of st) (scope_in scope).base (scope_in scope).q

abbrev pub AncillaeIn : List ℕ → ℕ → Type 0
AncillaeIn st scope = Ancillae (slots_of st) (scope_in scope).base (scope_in scope).q (machine_of st).top

----------------------------------------------------------------
-- Terms

-- Whether term `t` may yield the value at `node` can be asked. No node has the number that marks a variable as not known.
pub record Asks (code heap st : List ℕ) (scope t node : ℕ) : Type 0 where
  pub rows : Rows code
  pub term : t < term_count code
  pub graph : Heap heap (machine_of st).top
  pub value : node < (machine_of st).top
  pub small : (machine_of st).top ≤ unknown
  pub ancillae : AncillaeIn st scope

-- The answer `r` to a question whose answer is `b`: perhaps is no answer where it is exact.
pub record Judges (exact : Bool) (r : Answer) (b : Bool) : Type 0 where
  pub never : r ≡ No → b ≡ false
  pub surely : r ≡ Yes → b ≡ true
  pub exactly : exact ≡ true → r ≡ Perhaps → ⊥

-- May-yield looks at no type, so the rules' answer is the same whatever the type entries are.
pub record YieldsIn (code heap st : List ℕ) (scope t node : ℕ) (exact : Bool) (r : Answer) : Type 0 where
  pub judges : (ys : List TypeEntry) → Judges exact r (may_yield (ancillae_in heap st scope) (tree_in code ys t) (value_at heap node))

pub record MayYield (code heap st : List ℕ) (scope t node : ℕ) (r : Bool) : Type 0 where
  pub answer : (ys : List TypeEntry) → r ≡ may_yield (ancillae_in heap st scope) (tree_in code ys t) (value_at heap node)

----------------------------------------------------------------
-- Kinds

-- a term of the first kind makes a value of the second out of one part: inl, inr, roll
abbrev pub Wraps : ℕ → ℕ → Type 0
Wraps form kind = ((form ≡ 2) × (kind ≡ 1)) ⊎ (((form ≡ 3) × (kind ≡ 2)) ⊎ ((form ≡ 9) × (kind ≡ 4)))

-- let and let pair
abbrev pub Binds : ℕ → Type 0
Binds form = (form ≡ 5) ⊎ (form ≡ 6)
