-- Laws that the making of nodes cites: lengths of new values, and the two answers.
use Prim.Native.Nat.{ℕ, ◌+◌, ◌<◌, ◌≤◌}
use native.Mathlib.Omega.{arith}
use mathlib.Core.Path.{◌≡◌, refl, sym, ap, ap₂, ◌∙◌}
use mathlib.Core.Logic.{inl as left, inr as right}
use mathlib.Core.Bool.{true, false, false≢true}
use mathlib.Core.List.{List}
use borrow.Author.Tests.{le-leb, lt-leb}
use package.Rattle.rules.specs.Limits.{fits, max_value_bytes}
use package.Rattle.rules.specs.Val.{Val, size}
use package.Rattle.valuegraph.specs.Nodes.{print_at, length_at, Room, unit_print, mixed, of_kind, Single, value_at, Heap, NodeReady, Grown, Made}
use package.Rattle.valuegraph.proofs.Shapes.{single-kind, size-unit, size-single, size-pair, print-unit, print-single, print-pair}

----------------------------------------------------------------
-- The two answers

pub fits_true : (v : Val) → size v ≤ max_value_bytes → fits v ≡ true
unfolding fits
fits_true v h = le-leb (size v) max_value_bytes h

pub fits_false : (v : Val) → max_value_bytes < size v → fits v ≡ false
unfolding fits
fits_false v h = lt-leb (size v) max_value_bytes h

pub made-new : {heap heap' : List ℕ} {top : ℕ} {v : Val} → Grown heap heap' top v → size v ≤ max_value_bytes → Made heap heap' top v true
made-new {v = v} g h = record { answer = sym (fits_true v h); new = λ e. g; old = λ e. absurd (false≢true (sym e)) }

pub made-old : (heap : List ℕ) (top : ℕ) (v : Val) → max_value_bytes < size v → Made heap heap top v false
made-old heap top v h = record { answer = sym (fits_false v h); new = λ e. absurd (false≢true e); old = λ e. refl }

----------------------------------------------------------------
-- Nodes that may be put

module _ (heap : List ℕ) (top : ℕ) (h : Heap heap top) (room : Room heap (top + 1)) where
  pub unit-ready : (a b : ℕ) → NodeReady heap top 0 unit_print 1 a b
  unit-ready a b =
      record {
        right = h;
        room = room;
        parts = left refl;
        kind = omega arith;
        print = sym (print-unit (value_at heap a) (value_at heap b));
        len = sym (size-unit (value_at heap a) (value_at heap b));
      }

  pub unit-fits : (a b : ℕ) → fits (of_kind 0 (value_at heap a) (value_at heap b)) ≡ true
  unfolding max_value_bytes
  unit-fits a b = fits_true (of_kind 0 (value_at heap a) (value_at heap b)) (omega (arith, size-unit (value_at heap a) (value_at heap b)))

  pub single-ready : {k p q n a : ℕ} → a < top → Single k → q ≡ print_at heap a → p ≡ mixed k q 0 → n ≡ length_at heap a
      → NodeReady heap top k p (n + 1) a a
  single-ready {k} {p} {q} {n} {a} t s pq pk e =
      record {
        right = h;
        room = room;
        parts = right (t, t);
        kind = single-kind k s;
        print = pk ∙ ap (λ r. mixed k r 0) (pq ∙ (h.node a t).print) ∙ sym (print-single k (value_at heap a) (value_at heap a) s);
        len = omega (arith, (h.node a t).len, size-single k (value_at heap a) (value_at heap a) s);
      }

  pub pair-ready : {p q q' n m a b : ℕ} → a < top → b < top → q ≡ print_at heap a → q' ≡ print_at heap b → p ≡ mixed 3 q q'
      → n ≡ length_at heap a → m ≡ length_at heap b → NodeReady heap top 3 p (n + m + 1) a b
  pair-ready {p} {q} {q'} {n} {m} {a} {b} t u pq pq' pk e f =
      record {
        right = h;
        room = room;
        parts = right (t, u);
        kind = omega arith;
        print = pk ∙ ap₂ (mixed 3) (pq ∙ (h.node a t).print) (pq' ∙ (h.node b u).print) ∙ sym (print-pair (value_at heap a) (value_at heap b));
        len = omega (arith, (h.node a t).len, (h.node b u).len, size-pair (value_at heap a) (value_at heap b));
      }
