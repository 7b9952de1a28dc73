-- Reading a script to its end before any call is made finds what hinders its playing.
use Prim.Native.Nat.{ℕ, suc, ◌+◌, ◌*◌, ◌-◌, ◌≤◌}
use native.Mathlib.Omega.{arith}
use mathlib.Core.Path.{◌≡◌, sym, ap, ap₂, ◌∙◌}
use mathlib.Core.Option.{Option, none, some}
use mathlib.Core.List.{List}
use lib.ListN.{length}
use borrow.Author.Tests.{eq-eqb}
use package.Rattle.replay.specs.Scripts.{step_at, parse_from, parse}
use package.Rattle.replay.specs.Playing.{Reply, malformed, hindrance}
use package.Rattle.replay.specs.Inner.Steps.{Next, halts, on, hinders, room_for}
use package.Rattle.replay.specs.declared.scripts.Part.{Part}
use package.Rattle.replay.specs.Scripts as steps
use package.Rattle.replay.proofs.Parts.{Within, within}
use package.Rattle.replay.proofs.Turns.{Roomy, roomy}
use package.Rattle.replay.proofs.Parsed.{parse-ends, parse_breaks, parse-goes, or_else, call-hinders}

module _ (s : List ℕ) (width room : ℕ) where
  -- what hinders the script
  abbrev whole : Option Reply
  whole = hinders width room (parse 0 s)

  -- what hinders its calls from `at` on, of which there are fewer than `left`, `count` calls being read
  abbrev from : ℕ → ℕ → ℕ → Option Reply
  from left at count = hinders width (room - 7 * count) (parse_from left 0 s at)

  pub record Reading (at count : ℕ) : Type 0 where
    pub inside : at ≤ length s
    pub few : count ≤ at
    pub line : 7 * count ≤ room
    pub same : from (suc (length s) - count) at count ≡ whole

  pub reading_starts : Reading 0 0
  unfolding parse
  reading_starts = record {
    inside = omega arith;
    few = omega arith;
    line = omega arith;
    same = ap₂ (λ l r. hinders width r (parse_from l 0 s 0)) (let z : suc (length s) - 0 ≡ suc (length s) = omega arith in z)
        (let z : room - 7 * 0 ≡ room = omega arith in z);
  }

  module _ (at count : ℕ) (R : Reading at count) where
    again : from (suc (length s - count)) at count ≡ whole
    again = ap (λ l. from l at count) (let z : suc (length s - count) ≡ suc (length s) - count = omega (arith, R.few, R.inside) in z) ∙ R.same

    pub reading_ends : steps.End ≡ step_at s at → none ≡ whole
    unfolding hindrance
    reading_ends e = sym (ap (hinders width (room - 7 * count)) (parse-ends 0 s (length s - count) at (sym e))) ∙ again

    pub reading_over : length s ≤ at → none ≡ whole
    unfolding step_at
    reading_over h = reading_ends (let z : length s - at ≡ 0 = omega arith in simp (eq-eqb (length s - at) 0 z))

    pub reading_breaks : steps.Malformed ≡ step_at s at → some (malformed at) ≡ whole
    unfolding hindrance
    reading_breaks e = sym (ap (hinders width (room - 7 * count)) (parse_breaks 0 s (length s - count) at (sym e))) ∙ again

    -- a call, by its tests
    tests : (p : Part) (m : Next) → steps.Play p ≡ step_at s at → m ≡ room_for p.n at p.next count width room
        → or_else m (from (length s - count) p.next (count + 1)) ≡ whole
    tests p m e g =
        ap (λ m. or_else m (from (length s - count) p.next (count + 1))) g ∙ sym (call-hinders 0 width room s at count p _ _ R.line)
        ∙ sym (ap (hinders width (room - 7 * count)) (parse-goes 0 s (length s - count) at p (sym e))) ∙ again

    pub reading_stops : (p : Part) (r : Reply) → steps.Play p ≡ step_at s at → halts r ≡ room_for p.n at p.next count width room → some r ≡ whole
    reading_stops p r e g = tests p (halts r) e g

    module _ (p : Part) (to : ℕ) (e : steps.Play p ≡ step_at s at) (g : on to ≡ room_for p.n at p.next count width room) where
      stands : Within s at p
      stands = within s at (sym e)

      fits : Roomy p.n p.next to count width room
      fits = roomy p.n at p.next to count width room (sym g)

      pub reading_further : at + 7 ≤ to
      reading_further = omega (arith, stands.further, fits.place)

      pub reading_inside : to ≤ length s
      reading_inside = omega (arith, stands.inside, fits.place)

      pub reading_goes : Reading to (count + 1)
      reading_goes = record {
        inside = reading_inside;
        few = omega (arith, reading_further, R.few);
        line = omega (arith, fits.line);
        same = ap (λ l. from l to (count + 1)) (let z : suc (length s) - (count + 1) ≡ length s - count = omega arith in z)
            ∙ ap (λ k. from (length s - count) k (count + 1)) (sym fits.place) ∙ tests p (on to) e g;
      }
