-- A script parsed: its calls one by one, and what hinders their playing.
use Prim.Native.Nat.{ℕ, zero, suc, ◌+◌, ◌*◌, ◌-◌, ◌≤◌, ◌<◌}
use native.Mathlib.Omega.{arith}
use mathlib.Core.Path.{◌≡◌, refl, sym, ap, ap₂, subst, ◌∙◌}
use mathlib.Core.Bool.{Bool, true, false}
use mathlib.Core.Option.{Option, none, some}
use mathlib.Core.List.{List, [], ◌∷◌}
use lib.ListN.{length}
use lib.Dec.{ltb}
use borrow.Author.Tests.{ltb-true, ltb-false, lt-ltb, le-ltb}
use package.Rattle.rules.specs.Limits.{max_fuel}
use package.Rattle.calls.specs.Book.{buffer}
use package.Rattle.calls.specs.Claims.{Sized}
use package.Rattle.replay.specs.Scripts.{pick, step_at, call_as, call_of, Placed, parse_from, parse}
use package.Rattle.replay.specs.Playing.{Reply, too_wide, short_answers, hindrance}
use package.Rattle.replay.specs.Inner.Steps.{Next, halts, on, hinders, room_for, Ahead}
use package.Rattle.replay.specs.declared.scripts.Part.{Part}
use package.Rattle.replay.specs.Scripts as steps
use package.Rattle.replay.specs.Scripts.{Step}
use package.Rattle.replay.specs.declared.scripts.Kind.{Kind}
use package.Rattle.replay.specs.declared.scripts.Kind.TheVariants.{Open, Convert, Rollback}
use package.Rattle.replay.proofs.Parts.{Small, within}

----------------------------------------------------------------
-- A call of a script

pub buffer_is : (ws : ℕ) (s : List ℕ) (p : Part) → buffer (call_of ws s p) ≡ p.n
unfolding call_of call_as buffer
buffer_is ws s p = by p.kind
  where
    by : (k : Kind) → buffer (call_as k ws s p) ≡ p.n
    by Open = refl
    by (Convert fuel function) = refl
    by (Rollback fuel) = refl

pub sized_is : (ws : ℕ) (s : List ℕ) (p : Part) → Small p.kind → Sized (call_of ws s p)
unfolding call_of call_as max_fuel
sized_is ws s p h = by p.kind h
  where
    by : (k : Kind) → Small k → Sized (call_as k ws s p)
    by Open h = tt
    by (Convert fuel function) h = (omega (arith, h.0), h.1)
    by (Rollback fuel) h = omega (arith, h)

abbrev pub placed_at : ℕ → ℕ → List ℕ → Part → Placed
placed_at at ws s p = record { place = at; call = call_of ws s p }

module _ (ws : ℕ) (s : List ℕ) (left at : ℕ) where
  pub parse-ends : step_at s at ≡ steps.End → parse_from (suc left) ws s at ≡ record { calls = []; broken = none }
  unfolding parse_from
  parse-ends e = rw (e, parse_from)

  pub parse_breaks : step_at s at ≡ steps.Malformed → parse_from (suc left) ws s at ≡ record { calls = []; broken = some at }
  unfolding parse_from
  parse_breaks e = rw (e, parse_from)

  pub parse-goes : (p : Part) → step_at s at ≡ steps.Play p → parse_from (suc left) ws s at
      ≡ record { calls = placed_at at ws s p ∷ (parse_from left ws s p.next).calls; broken = (parse_from left ws s p.next).broken }
  unfolding parse_from
  parse-goes p e = rw (e, parse_from)

----------------------------------------------------------------
-- What hinders the playing

some≢none : {A : Type 0} {a : A} → some a ≡ none → ⊥
some≢none e = let z : ◌≡◌ {A = ℕ} 0 1 = cc in omega arith

-- by the test that picked
passes : {R : Type 0} (b : Bool) (r : Reply) (m : Option Reply) → pick b (some r) m ≡ none → (b ≡ false → m ≡ none → R) → R
passes true r m e k = absurd (some≢none e)
passes false r m e k = k refl e

-- nothing hinders the playing of a call and those behind it
pub record Unhindered (width room n : ℕ) (cs : List Placed) (broken : Option ℕ) : Type 0 where
  pub narrow : n ≤ width
  pub line : 7 ≤ room
  pub behind : hindrance width (room - 7) cs broken ≡ none

pub unhindered : (width room : ℕ) (c : Placed) (cs : List Placed) (broken : Option ℕ) → hindrance width room (c ∷ cs) broken ≡ none
    → Unhindered width room (buffer c.call) cs broken
unfolding hindrance
unhindered width room c cs broken e =
    passes (ltb width (buffer c.call)) (too_wide c.place) _ e λ t₁ e₁. passes (ltb room 7) short_answers _ e₁ λ t₂ e₂.
    record { narrow = ltb-false width (buffer c.call) t₁; line = ltb-false room 7 t₂; behind = e₂ }

pub unbroken : (width room : ℕ) (at : ℕ) → hindrance width room [] (some at) ≡ none → ⊥
unfolding hindrance
unbroken width room at e = some≢none e

----------------------------------------------------------------
-- The tests of a call in code

-- what hinders, by the tests of a call and the calls behind it
abbrev pub or_else : Next → Option Reply → Option Reply
or_else (halts r) behind = some r
or_else (on next) behind = behind

-- the room behind `k` bytes
room-behind : (room k : ℕ) → k ≤ room → (b : Bool) → ltb room (k + 7) ≡ b → ltb (room - k) 7 ≡ b
room-behind room k h true e = let z : room < k + 7 = ltb-true room (k + 7) e in lt-ltb (room - k) 7 (omega arith)
room-behind room k h false e = let z : k + 7 ≤ room = ltb-false room (k + 7) e in le-ltb (room - k) 7 (omega arith)

by_tests : (a b : Bool) (at next : ℕ) (x : Option Reply)
    → pick a (some (too_wide at)) (pick b (some short_answers) x) ≡ or_else (pick a (halts (too_wide at)) (pick b (halts short_answers) (on next))) x
by_tests true b at next x = refl
by_tests false true at next x = refl
by_tests false false at next x = refl

pub call-hinders : (ws width room : ℕ) (s : List ℕ) (at count : ℕ) (p : Part) (cs : List Placed) (broken : Option ℕ) → 7 * count ≤ room
    → hindrance width (room - 7 * count) (placed_at at ws s p ∷ cs) broken
    ≡ or_else (room_for p.n at p.next count width room) (hindrance width (room - 7 * (count + 1)) cs broken)
unfolding hindrance room_for
call-hinders ws width room s at count p cs broken h =
    ap₂ (λ n b. pick (ltb width n) (some (too_wide at)) (pick b (some short_answers) (hindrance width (room - 7 * count - 7) cs broken)))
    (buffer_is ws s p) (room-behind room (7 * count) h (ltb room (7 * count + 7)) refl)
    ∙ by_tests (ltb width p.n) (ltb room (7 * count + 7)) at p.next (hindrance width (room - 7 * count - 7) cs broken)
    ∙ ap (λ r. or_else (room_for p.n at p.next count width room) (hindrance width r cs broken))
    (let z : room - 7 * count - 7 ≡ room - 7 * (count + 1) = omega arith in z)

----------------------------------------------------------------
-- The workspace's length, which calls carry, makes no difference there

module _ (ws ws' width : ℕ) (s : List ℕ) where
  abbrev Same : ℕ → Type 0
  Same left = (room at : ℕ) → hinders width room (parse_from left ws s at) ≡ hinders width room (parse_from left ws' s at)

  step_same : (left : ℕ) → Same left → (room at : ℕ) (x : Step) → step_at s at ≡ x
      → hinders width room (parse_from (suc left) ws s at) ≡ hinders width room (parse_from (suc left) ws' s at)
  unfolding hindrance
  step_same left rec room at steps.End q = ap (hinders width room) (parse-ends ws s left at q ∙ sym (parse-ends ws' s left at q))
  step_same left rec room at steps.Malformed q = ap (hinders width room) (parse_breaks ws s left at q ∙ sym (parse_breaks ws' s left at q))
  step_same left rec room at (steps.Play p) q =
      ap (hinders width room) (parse-goes ws s left at p q)
      ∙ ap₂ (λ n x. pick (ltb width n) (some (too_wide at)) (pick (ltb room 7) (some short_answers) x))
      (buffer_is ws s p ∙ sym (buffer_is ws' s p)) (rec (room - 7) p.next)
      ∙ ap (hinders width room) (sym (parse-goes ws' s left at p q))

  pub same-hindrance : (left : ℕ) → Same left
  unfolding parse_from
  same-hindrance zero room at = refl
  same-hindrance (suc left) room at = step_same left (same-hindrance left) room at (step_at s at) refl

----------------------------------------------------------------
-- Nothing hinders the calls from a place on

pub ahead-starts : (s : List ℕ) (width room : ℕ) → none ≡ hinders width room (parse 0 s) → Ahead s width room 0 0
unfolding parse
ahead-starts s width room e = record {
  inside = omega arith;
  few = omega arith;
  line = omega arith;
  free = ap₂ (λ l r. hinders width r (parse_from l 0 s 0)) (let z : suc (length s) - 0 ≡ suc (length s) = omega arith in z)
      (let z : room - 7 * 0 ≡ room = omega arith in z) ∙ sym e;
}

module _ (s : List ℕ) (width room at count : ℕ) (H : Ahead s width room at count) (p : Part) (q : step_at s at ≡ steps.Play p) where
  -- the call there has room, and so have those behind it
  ahead-free : Unhindered width (room - 7 * count) (buffer (call_of 0 s p)) (parse_from (length s - count) 0 s p.next).calls
      (parse_from (length s - count) 0 s p.next).broken
  ahead-free =
      unhindered width (room - 7 * count) (placed_at at 0 s p) _ _ (sym (ap (hinders width (room - 7 * count)) (parse-goes 0 s (length s - count) at p q))
      ∙ ap (λ l. hinders width (room - 7 * count) (parse_from l 0 s at))
      (let z : suc (length s - count) ≡ suc (length s) - count = omega (arith, H.few, H.inside) in z) ∙ H.free)

  pub ahead-narrow : p.n ≤ width
  ahead-narrow = omega (arith, ahead-free.narrow, buffer_is 0 s p)

  pub ahead-line : 7 * count + 7 ≤ room
  ahead-line = omega (arith, ahead-free.line)

  pub ahead-goes : Ahead s width room p.next (count + 1)
  ahead-goes = record {
    inside = (within s at q).inside;
    few = omega (arith, (within s at q).further, H.few);
    line = omega (arith, ahead-line);
    free = ap₂ (λ l r. hinders width r (parse_from l 0 s p.next)) (let z : suc (length s) - (count + 1) ≡ length s - count = omega arith in z)
        (let z : room - 7 * (count + 1) ≡ room - 7 * count - 7 = omega arith in z) ∙ ahead-free.behind;
  }

-- in buffers as long
pub ahead_as : (s : List ℕ) {width width' room room' at count : ℕ} → width' ≡ width → room' ≡ room → Ahead s width room at count → Ahead s width' room' at count
ahead_as s {width} {width'} {room} {room'} {at} {count} e f H =
    subst (λ w. Ahead s w room' at count) (sym e) (subst (λ r. Ahead s width r at count) (sym f) H)
