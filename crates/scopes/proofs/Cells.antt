-- Laws of cells: a state by its newest cell, older states stay what they were, and what a new cell says.
use Prim.Native.Nat.{ℕ, zero, suc, ◌+◌, ◌*◌, ◌/◌, ◌%◌, ◌<◌, ◌≤◌}
use native.Mathlib.Omega.{arith}
use native.Mathlib.Decide.{dec_lt}
use mathlib.Core.Path.{◌≡◌, refl, sym, ap, ap₂, ◌∙◌}
use mathlib.Core.Bool.{Bool, true, false, cond}
use mathlib.Core.List.{List}
use lib.Dec.{eqb, ltb}
use borrow.Author.Tests.{eq-eqb, ne_eqb, lt-ltb, le-ltb}
use package.Rattle.valuegraph.specs.Nodes.{left_at, right_at, Agree}
use package.Rattle.valuegraph.proofs.Places.{agree_left, agree_right}
use package.Rattle.scopes.specs.Slots.{unknown}
use package.Rattle.scopes.specs.Cells.{cell_count, Linked, variable_at, before_at, cell_step, cell_within, cell_at}

----------------------------------------------------------------
-- A state, by its newest cell

cond-le : (b : Bool) (x y n : ℕ) → x ≤ n → y ≤ n → cond b x y ≤ n
cond-le true x y n p q = p
cond-le false x y n p q = q

pub before-lower : (heap : List ℕ) (c : ℕ) → 0 < c → before_at heap c < c
unfolding before_at
before-lower heap c z = go (dec_lt (right_at heap c % cell_count) c)
  where
    go : Dec (right_at heap c % cell_count < c) → cond (ltb (right_at heap c % cell_count) c) (right_at heap c % cell_count) 0 < c
    go (yes l) = rw (lt-ltb (right_at heap c % cell_count) c l) l
    go (no l) = rw (le-ltb (right_at heap c % cell_count) c (omega arith)) z

within-empty : (d : ℕ) (heap : List ℕ) (i : ℕ) → cell_within d heap 0 i ≡ 0
unfolding cell_within
within-empty zero heap i = refl
within-empty (suc d) heap i = refl

-- the empty state binds nothing
pub cell-empty : (heap : List ℕ) (i : ℕ) → cell_at heap 0 i ≡ 0
unfolding cell_at
cell-empty heap i = within-empty 0 heap i

module _ (heap : List ℕ) (i : ℕ) where
  -- more depth than the number of the newest cell changes nothing
  enough : (d e c : ℕ) → c ≤ d → c ≤ e → cell_within d heap c i ≡ cell_within e heap c i
  unfolding cell_within
  enough zero e zero p q = sym (within-empty e heap i)
  enough zero e (suc c) p q = absurd (omega arith)
  enough (suc d) e zero p q = sym (within-empty e heap i)
  enough (suc d) zero (suc c) p q = absurd (omega arith)
  enough (suc d) (suc e) (suc c) p q =
      let l = before-lower heap (suc c) (omega arith) in
      ap (cell_step heap (suc c) i) (enough d e (before_at heap (suc c)) (omega arith) (omega arith))

  step-le : (c older n : ℕ) → c ≤ n → older ≤ n → cell_step heap c i older ≤ n
  unfolding cell_step
  step-le c older n p q =
      cond-le (eqb (left_at heap c) unknown) _ _ n (cond-le (ltb i (variable_at heap c)) older 0 n q (omega arith))
      (cond-le (eqb i (variable_at heap c)) c older n p q)

  within-le : (d c : ℕ) → cell_within d heap c i ≤ c
  unfolding cell_within
  within-le zero c = omega arith
  within-le (suc d) zero = omega arith
  within-le (suc d) (suc c) =
      let l = before-lower heap (suc c) (omega arith) in
      step-le (suc c) _ (suc c) (omega arith) (omega (arith, within-le d (before_at heap (suc c))))

  -- a cell of a state is not newer than the state
  pub cell-le : (c : ℕ) → cell_at heap c i ≤ c
  unfolding cell_at
  cell-le c = within-le c c

  pub cell-step : (c : ℕ) → 0 < c → cell_at heap c i ≡ cell_step heap c i (cell_at heap (before_at heap c) i)
  unfolding cell_at cell_within
  cell-step zero z = absurd (omega arith)
  cell-step (suc c) z =
      let l = before-lower heap (suc c) (omega arith) in
      ap (cell_step heap (suc c) i) (enough c (before_at heap (suc c)) (before_at heap (suc c)) (omega arith) (omega arith))

----------------------------------------------------------------
-- Older states

module _ {heap heap' : List ℕ} {top : ℕ} (p : Agree top heap heap') where
  before-kept : (c : ℕ) → c < top → before_at heap c ≡ before_at heap' c
  unfolding before_at
  before-kept c l = ap (λ r. cond (ltb (r % cell_count) c) (r % cell_count) 0) (agree_right p c l)

  step_kept : (c i older : ℕ) → c < top → cell_step heap c i older ≡ cell_step heap' c i older
  unfolding cell_step variable_at
  step_kept c i older l =
      ap₂ (λ x r. cond (eqb x unknown) (cond (ltb i (r / cell_count)) older 0) (cond (eqb i (r / cell_count)) c older))
      (agree_left p c l) (agree_right p c l)

  within-kept : (d c i : ℕ) → c < top → cell_within d heap c i ≡ cell_within d heap' c i
  unfolding cell_within
  within-kept zero c i l = refl
  within-kept (suc d) zero i l = refl
  within-kept (suc d) (suc c) i l =
      let low = before-lower heap (suc c) (omega arith) in
      ap (cell_step heap (suc c) i) (within-kept d (before_at heap (suc c)) i (omega arith))
      ∙ step_kept (suc c) i _ l
      ∙ ap (λ b. cell_step heap' (suc c) i (cell_within d heap' b i)) (before-kept (suc c) l)

  -- an older state stays what it was
  pub cell-kept : (c i : ℕ) → c < top → cell_at heap c i ≡ cell_at heap' c i
  unfolding cell_at
  cell-kept c i l = within-kept c c i l

----------------------------------------------------------------
-- A new cell

module _ {heap heap' : List ℕ} {top x i head : ℕ} (C : Linked heap heap' top x i head) (within : head < top) (few : head < cell_count) where
  new-variable : variable_at heap' top ≡ i
  unfolding variable_at
  new-variable = ap (λ r. r / cell_count) C.made.right_is ∙ (let z : (262144 * i + head) / 262144 ≡ i = omega arith in z)

  new-before : before_at heap' top ≡ head
  unfolding before_at
  new-before =
      let z : (262144 * i + head) % 262144 ≡ head = omega arith in
      rw (C.made.right_is, z, lt-ltb head top within) refl

  new-step : (j : ℕ) → cell_at heap' top j ≡ cell_step heap' top j (cell_at heap head j)
  new-step j =
      cell-step heap' j top (omega arith)
      ∙ ap (λ b. cell_step heap' top j (cell_at heap' b j)) new-before
      ∙ ap (cell_step heap' top j) (sym (cell-kept C.made.grown.agree head j within))

  -- by the left part of the cell
  told : (j : ℕ) → cell_step heap' top j (cell_at heap head j)
      ≡ cond (eqb x unknown) (cond (ltb j i) (cell_at heap head j) 0) (cond (eqb j i) top (cell_at heap head j))
  unfolding cell_step
  told j =
      ap₂ (λ x i. cond (eqb x unknown) (cond (ltb j i) (cell_at heap head j) 0) (cond (eqb j i) top (cell_at heap head j))) C.made.left_is new-variable

  -- the variable is bound
  module _ (node : x ≡ unknown → ⊥) where
    binds : (j : ℕ) → cell_at heap' top j ≡ cond (eqb j i) top (cell_at heap head j)
    binds j =
        new-step j ∙ told j
        ∙ ap (λ b. cond b (cond (ltb j i) (cell_at heap head j) 0) (cond (eqb j i) top (cell_at heap head j))) (ne_eqb x unknown node)

    pub binds_it : cell_at heap' top i ≡ top
    binds_it = binds i ∙ ap (λ b. cond b top (cell_at heap head i)) (eq-eqb i i refl)

    pub binds-no-other : (j : ℕ) → (j ≡ i → ⊥) → cell_at heap' top j ≡ cell_at heap head j
    binds-no-other j d = binds j ∙ ap (λ b. cond b top (cell_at heap head j)) (ne_eqb j i d)

  -- all variables from that one on are not known
  module _ (mark : x ≡ unknown) where
    leaves : (j : ℕ) → cell_at heap' top j ≡ cond (ltb j i) (cell_at heap head j) 0
    leaves j =
        new-step j ∙ told j
        ∙ ap (λ b. cond b (cond (ltb j i) (cell_at heap head j) 0) (cond (eqb j i) top (cell_at heap head j))) (eq-eqb x unknown mark)

    pub leaves-older : (j : ℕ) → j < i → cell_at heap' top j ≡ cell_at heap head j
    leaves-older j l = leaves j ∙ ap (λ b. cond b (cell_at heap head j) 0) (lt-ltb j i l)

    pub leaves_none : (j : ℕ) → i ≤ j → cell_at heap' top j ≡ 0
    leaves_none j l = leaves j ∙ ap (λ b. cond b (cell_at heap head j) 0) (le-ltb j i l)
