-- A variable is met, in code: what its slot's number is looked up for, and the two outcomes.
use Prim.Native.Nat.{ℕ, ◌+◌, ◌<◌}
use native.Mathlib.Omega.{arith}
use mathlib.Core.Path.{◌≡◌, sym, ap, ap₂, subst, ◌∙◌}
use mathlib.Core.List.{List}
use lib.ListN.{get_or, set}
use Rattle.std.specs.Prelude.{Option, Some, None, Ok}
use package.Rattle.scopes.specs.Slots.{unknown, Scope, machine_of, slots_of, node_or, Written}
use package.Rattle.scopes.specs.Bindings.{said, seen, Looks, Adds, EntersBound, Meetable, MeetsBy, MeetsAt}
use package.Rattle.scopes.proofs.Views.{seen_low}
use package.Rattle.scopes.proofs.Marks.{node_or_lem}
use Rattle.scopes.specs.declared.bindings.Bindings.{Bindings}

-- the number in slot base + v, where v is the variable
abbrev Number : List ℕ → ℕ → ℕ → ℕ → Type 0
Number st base v s = s ≡ get_or (slots_of st) (base + v) 0

number : (st : List ℕ) {base base' i v s : ℕ} → base ≡ base' → v ≡ i → Number st base v s → s ≡ get_or (slots_of st) (base' + i) 0
number st eb e n = n ∙ ap₂ (λ base v. get_or (slots_of st) (base + v) 0) eb e

module _ {heap st : List ℕ} {b : Bindings} {sc : Scope} {i : ℕ} (M : Meetable heap st b sc i) {base v s top : ℕ} (eb : base ≡ sc.base) (e : v ≡ i)
    (n : Number st base v s) (t : top ≡ (machine_of st).top) where
  pub looks : Looks heap b s top
  unfolding unknown
  looks = rw (t, number st eb e n) (record {
    graph = M.cell.graph;
    slot = M.slot;
    small = omega (arith, M.cell.small);
    within = M.cell.within;
  })

  -- a node that is seen is there
  pub old-low : {f : Option ℕ} {old : ℕ} → f ≡ seen heap b s → f ≡ Some old → old < top
  unfolding node_or
  old-low q z =
      let low : node_or (seen heap b s) < top = seen_low b looks.slot looks.small (omega (arith, looks.within)) in
      subst (λ x. x < top) (node_or_lem (sym q ∙ z)) low

module _ (heap st : List ℕ) (b : Bindings) (sc : Scope) (i node : ℕ) (M : Meetable heap st b sc i) {base v s : ℕ} (eb : base ≡ sc.base)
    (e : v ≡ i) (n : Number st base v s)
    {f : Option ℕ} (q : f ≡ seen heap b s) where
  said-there : {g : Option ℕ} → f ≡ g → g ≡ said heap (slots_of st) b sc i
  said-there z = sym z ∙ q ∙ ap (seen heap b) (number st eb e n) ∙ M.reads

  pub met-bound : {heap' st₁ st' : List ℕ} {top : ℕ} → top ≡ (machine_of st).top → f ≡ None → {r : Bindings} → Adds heap heap' st st₁ b node i r
      → Written st₁ st' (base + v) (unknown + top) → MeetsAt heap heap' st st' b sc i node (Ok r)
  met-bound {heap'} {st₁} {st'} {top} t z {r} A W = record {
    met = subst (MeetsBy heap heap' st st' b sc.base i node (Ok r)) (said-there z) (record {
      agrees = ap (λ h. Ok (record { head = h })) A.head;
      linked = A.linked;
      lengths = W.lengths ∙ A.moved.lengths;
      slots = W.slots ∙ ap (λ s. set s (base + v) (unknown + top)) A.moved.slots ∙ rw (eb, e, t);
      machine = W.machine ∙ A.moved.machine;
    });
  }

-- a variable comes into scope bound, by a cell and its slot
pub entered_it : {heap heap' st st₁ st' : List ℕ} {b r : Bindings} (sc : Scope) {node n at top : ℕ} → n ≡ sc.n → top ≡ (machine_of st).top
    → at ≡ sc.base + sc.n → Adds heap heap' st st₁ b node n r → Written st₁ st' at (unknown + top) → EntersBound heap heap' st st' b sc node r
entered_it {st = st} {b = b} {r = r} sc {node} {n} {at} {top} qn qt qa A W = record {
  linked = rw (← qn) A.linked;
  lengths = W.lengths ∙ A.moved.lengths;
  slots = W.slots ∙ ap (λ s. set s at (unknown + top)) A.moved.slots ∙ rw (qa, qt);
  machine = W.machine ∙ A.moved.machine;
  head = A.head;
}
