-- One turn, by what comes next; and the calls in turn.
use Prim.Native.Nat.{ℕ, suc, ◌+◌, ◌*◌, ◌-◌, ◌≤◌, ◌<◌}
use native.Mathlib.Omega.{arith}
use mathlib.Core.Path.{◌≡◌, refl, sym, ap, subst, ◌∙◌}
use mathlib.Core.Bool.{Bool, true, false}
use mathlib.Core.List.{List}
use lib.ListN.{length}
use lib.Dec.{ltb}
use borrow.Author.Tests.{ltb-false, eq-eqb, lt-ltb, le-ltb}
use package.Rattle.octets.specs.Runs.{pasted}
use package.Rattle.calls.specs.Book.{Call}
use package.Rattle.calls.specs.Claims.{last_field}
use package.Rattle.replay.specs.Scripts.{pick, step_at, call_of}
use package.Rattle.replay.specs.Playing.{Reply, too_wide, short_answers, cut, reply_of, Result, ends, ReplayMeans}
use package.Rattle.replay.specs.Inner.Steps.{Next, halts, on, room_for, tested, makes, turn_of, play, Made, Ahead, PlayMeans}
use package.Rattle.replay.specs.declared.scripts.Part.{Part}
use package.Rattle.replay.specs.Scripts as steps
use package.Rattle.replay.specs.Scripts.{Step}
use Rattle.std.specs.Prelude.{Result as Outcome, Ok, Err}
use Rattle.std.specs.Result.{IsErrAnd}
use Rattle.std.proofs.lemmas.Result.{err_from_is_err_and}
use package.Rattle.replay.specs.declared.replies.ReplayError.{ReplayError}
use package.Rattle.replay.specs.declared.replies.ReplayError.TheVariants as errors
use package.Rattle.replay.proofs.Parts.{within}
use package.Rattle.replay.proofs.Parsed.{ahead-goes, ahead_as}

----------------------------------------------------------------
-- The tests

-- a step that failed is what the function answers
pub went : {r : Outcome ℕ ReplayError} {d : ReplayError} → IsErrAnd r (λ e. e ≡ d) → r ≡ Err d
went {r} h = let t = err_from_is_err_and r h in t.1 ∙ ap Err t.2

halts≢on : {r : Reply} {k : ℕ} → halts r ≡ on k → ⊥
halts≢on e = let z : ◌≡◌ {A = ℕ} 0 1 = cc in omega arith

on_inj : {k l : ℕ} → on k ≡ on l → k ≡ l
on_inj e = cc

-- by the test that picked an end
passed : {R : Type 0} (b : Bool) (r : Reply) (m : Next) {to : ℕ} → pick b (halts r) m ≡ on to → (b ≡ false → m ≡ on to → R) → R
passed true r m e k = absurd (halts≢on e)
passed false r m e k = k refl e

-- room for a call
pub record Roomy (n next to count width room : ℕ) : Type 0 where
  pub place : next ≡ to
  pub narrow : n ≤ width
  pub line : 7 * count + 7 ≤ room

pub roomy : (n at next to count width room : ℕ) → room_for n at next count width room ≡ on to → Roomy n next to count width room
unfolding room_for
roomy n at next to count width room e =
    passed (ltb width n) (too_wide at) _ e λ t₁ e₁. passed (ltb room (7 * count + 7)) short_answers _ e₁ λ t₂ e₂.
    record { place = on_inj e₂; narrow = ltb-false width n t₁; line = ltb-false room (7 * count + 7) t₂ }

tested-on : (n at next to : ℕ) (journal : List ℕ) → tested n at next journal ≡ on to → next ≡ to
unfolding tested
tested-on n at next to journal e = passed (ltb n (last_field journal)) (cut at) (on next) e λ t m. on_inj m

-- the tests in code
pub test-cuts : (n at next end : ℕ) (journal : List ℕ) → end ≡ last_field journal → n < end → halts (cut at) ≡ tested n at next journal
unfolding tested
test-cuts n at next end journal q l = let z : n < last_field journal = omega (arith, q) in simp (lt-ltb n (last_field journal) z)

pub test-goes : (n at next end : ℕ) (journal : List ℕ) → end ≡ last_field journal → end ≤ n → on next ≡ tested n at next journal
unfolding tested
test-goes n at next end journal q l = let z : last_field journal ≤ n = omega (arith, q) in simp (le-ltb n (last_field journal) z)

----------------------------------------------------------------
-- One call

module _ (program : List ℕ) (c : Call) (count : ℕ) (J A W : List ℕ) where
  pub call-stops : (r : ReplayError) (m : Next) → halts (reply_of (Err r)) ≡ m → PlayMeans (Err r) (makes m program c count J A W) J A W
  unfolding makes
  call-stops r m e = subst (λ m. PlayMeans (Err r) (makes m program c count J A W) J A W) e (record { next_is = refl; kept = refl; told = refl; clear = refl })

  pub call-goes : (to : ℕ) (m : Next) (l J' A' W' : List ℕ) → on to ≡ m → Made program c J W l J' W' → A' ≡ pasted A (7 * count) l
      → PlayMeans (Ok to) (makes m program c count J A W) J' A' W'
  unfolding makes
  call-goes to m l J' A' W' e M a =
      subst (λ m. PlayMeans (Ok to) (makes m program c count J A W) J' A' W') e
      (record { next_is = refl; kept = M.kept; told = a ∙ ap (pasted A (7 * count)) M.told; clear = M.clear })

module _ (program s : List ℕ) (at count : ℕ) (J A W : List ℕ) where
  pub turn_breaks : (x : Step) → steps.Malformed ≡ x → PlayMeans (Err (errors.Malformed at)) (turn_of program s x at count J A W) J A W
  unfolding turn_of
  turn_breaks x e = subst (λ x. PlayMeans (Err (errors.Malformed at)) (turn_of program s x at count J A W) J A W) e
      (record { next_is = refl; kept = refl; told = refl; clear = refl })

  pub turn-plays : (m : Outcome ℕ ReplayError) (p : Part) (x : Step) (J' A' W' : List ℕ) → steps.Play p ≡ x
      → PlayMeans m (makes (tested p.n at p.next J) program (call_of (length W) s p) count J A W) J' A' W'
      → PlayMeans m (turn_of program s x at count J A W) J' A' W'
  unfolding turn_of
  turn-plays m p x J' A' W' e T = subst (λ x. PlayMeans m (turn_of program s x at count J A W) J' A' W') e T

  -- a call stands there, and the next at `to`
  pub record Onward (to : ℕ) : Type 0 where
    pub part : Part
    pub stands : step_at s at ≡ steps.Play part
    pub next : part.next ≡ to

  made-on : (m : Next) (c : Call) {to : ℕ} → (makes m program c count J A W).next ≡ on to → m ≡ on to
  unfolding makes
  made-on (halts r) c e = absurd (halts≢on e)
  made-on (on k) c e = e

  onward_by : (x : Step) {to : ℕ} → step_at s at ≡ x → (turn_of program s x at count J A W).next ≡ on to → Onward to
  unfolding turn_of
  onward_by steps.End q e = absurd (halts≢on e)
  onward_by steps.Malformed q e = absurd (halts≢on e)
  onward_by (steps.Play p) {to} q e =
      record { part = p; stands = q; next = tested-on p.n at p.next to J (made-on (tested p.n at p.next J) (call_of (length W) s p) e) }

  pub onward : {to : ℕ} → (turn_of program s (step_at s at) at count J A W).next ≡ on to → Onward to
  onward e = onward_by (step_at s at) refl e

  ----------------------------------------------------------------
  -- The calls in turn

  pub play-stops : (room : ℕ) (r : ReplayError) (J' A' W' : List ℕ) → PlayMeans (Err r) (turn_of program s (step_at s at) at count J A W) J' A' W'
      → ReplayMeans (Err r) (play (suc room) program s at count J A W) J' A' W'
  unfolding play
  play-stops room r J' A' W' T =
      let e : (turn_of program s (step_at s at) at count J A W).next ≡ halts (reply_of (Err r)) = sym T.next_is in
      rw (e, play) (record { answer = refl; kept = T.kept; told = T.told; clear = T.clear })

  pub play-goes : (room next : ℕ) (J' A' W' : List ℕ) → PlayMeans (Ok next) (turn_of program s (step_at s at) at count J A W) J' A' W'
      → play (suc room) program s at count J A W ≡ play room program s next (count + 1) J' A' W'
  unfolding play
  play-goes room next J' A' W' T =
      let e : (turn_of program s (step_at s at) at count J A W).next ≡ on next = sym T.next_is in
      rw (e, play, T.kept, T.told, T.clear)

  pub step-ends : length s ≤ at → steps.End ≡ step_at s at
  unfolding step_at
  step-ends h = let z : length s - at ≡ 0 = omega arith in simp (eq-eqb (length s - at) 0 z)

  -- what stands there, and the calls behind it
  plays_by : Step → ℕ → Result
  unfolding turn_of
  plays_by x room =
      let t = turn_of program s x at count J A W in
      elim t.next [
        | halts r ↦ ends r t.journal t.answers t.workspace
        | on next ↦ play room program s next (count + 1) t.journal t.answers t.workspace
      ]

  pub play-ends : (room : ℕ) → length s ≤ at → ReplayMeans (Ok count) (play (suc room) program s at count J A W) J A W
  unfolding play turn_of plays_by
  play-ends room h =
      subst (λ x. ReplayMeans (Ok count) (plays_by x room) J A W) (step-ends h) (record { answer = refl; kept = refl; told = refl; clear = refl })

----------------------------------------------------------------
-- The loop

-- `count` calls being made, the rest of the script is played from `at` on
module _ (program s : List ℕ) (start : ℕ) (J₀ A₀ W₀ : List ℕ) where
  pub record Going (J A W : List ℕ) (at count : ℕ) : Type 0 where
    pub ahead : Ahead s (length J) (length A) at count
    pub journal_long : length J ≡ length J₀
    pub answers_long : length A ≡ length A₀
    pub workspace_long : length W ≡ length W₀
    pub same : play (suc (length s) - count) program s at count J A W ≡ play (length s) program s start 1 J₀ A₀ W₀

  pub going-starts : Ahead s (length J₀) (length A₀) start 1 → Going J₀ A₀ W₀ start 1
  going-starts H = record {
    ahead = H;
    journal_long = refl;
    answers_long = refl;
    workspace_long = refl;
    same = ap (λ r. play r program s start 1 J₀ A₀ W₀) (let z : suc (length s) - 1 ≡ length s = omega arith in z);
  }

  module _ {J A W : List ℕ} {at count : ℕ} (G : Going J A W at count) where
    -- there is room for one call more
    one_more : suc (length s) - count ≡ suc (length s - count)
    one_more = omega (arith, G.ahead.few, G.ahead.inside)

    again : play (suc (length s - count)) program s at count J A W ≡ play (length s) program s start 1 J₀ A₀ W₀
    again = ap (λ r. play r program s at count J A W) (sym one_more) ∙ G.same

    pub going-stops : (m : Outcome ℕ ReplayError) (r : ReplayError) (J' A' W' : List ℕ) → m ≡ Err r → PlayMeans m (turn_of program s (step_at s at) at count J A W) J' A' W'
        → ReplayMeans (Err r) (play (length s) program s start 1 J₀ A₀ W₀) J' A' W'
    going-stops m r J' A' W' e T =
        subst (λ x. ReplayMeans (Err r) x J' A' W') again
        (play-stops program s at count J A W (length s - count) r J' A' W'
        (subst (λ m. PlayMeans m (turn_of program s (step_at s at) at count J A W) J' A' W') e T))

    pub going-ends : length s ≤ at → ReplayMeans (Ok count) (play (length s) program s start 1 J₀ A₀ W₀) J A W
    going-ends h = subst (λ x. ReplayMeans (Ok count) x J A W) again (play-ends program s at count J A W (length s - count) h)

    module _ (m : Outcome ℕ ReplayError) (next : ℕ) (J' A' W' : List ℕ) (e : m ≡ Ok next) (T : PlayMeans m (turn_of program s (step_at s at) at count J A W) J' A' W') where
      turned : PlayMeans (Ok next) (turn_of program s (step_at s at) at count J A W) J' A' W'
      turned = subst (λ m. PlayMeans m (turn_of program s (step_at s at) at count J A W) J' A' W') e T

      called : Onward program s at count J A W next
      called = onward program s at count J A W (sym turned.next_is)

      pub going-further : at + 7 ≤ next
      going-further = omega (arith, (within s at called.stands).further, called.next)

      pub going-ahead : Ahead s (length J) (length A) next (count + 1)
      going-ahead =
          subst (λ to. Ahead s (length J) (length A) to (count + 1)) called.next
          (ahead-goes s (length J) (length A) at count G.ahead called.part called.stands)

      pub going-goes : length J' ≡ length J → length A' ≡ length A → length W' ≡ length W → Going J' A' W' next (count + 1)
      going-goes ej ea ew = record {
        ahead = ahead_as s ej ea going-ahead;
        journal_long = ej ∙ G.journal_long;
        answers_long = ea ∙ G.answers_long;
        workspace_long = ew ∙ G.workspace_long;
        same = ap (λ r. play r program s next (count + 1) J' A' W') (let z : suc (length s) - (count + 1) ≡ length s - count = omega arith in z)
            ∙ sym (play-goes program s at count J A W (length s - count) next J' A' W' turned) ∙ again;
      }
