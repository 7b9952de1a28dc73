-- The first call of a script: an open, and what follows its answer.
use Prim.Native.Nat.{ℕ, ◌-◌, ◌≤◌}
use native.Mathlib.Omega.{arith}
use mathlib.Core.Path.{◌≡◌, refl, sym, ap, ap₂, subst, ◌∙◌}
use mathlib.Core.Bool.{cond}
use mathlib.Core.List.{List, ◌++◌}
use lib.Dec.{eqb}
use lib.ListN.{length, take, drop, replicate, length-append, length-drop, take-append-drop}
use lib.Seq.{length-take-le, take_at}
use package.Rattle.octets.specs.Runs.{pasted}
use package.Rattle.calls.specs.Answer.{Answer, accepted, refused, cleared}
use package.Rattle.calls.specs.Conversions.{open_call}
use package.Rattle.calls.specs.Book.{is_open, resized, after_open}
use package.Rattle.answers.specs.Answers.{check_answer, open_answer}
use package.Rattle.answers.specs.declared.Refusal.{Refusal}
use package.Rattle.replay.specs.Lines.{line}
use package.Rattle.replay.specs.Inner.Told.{check_line}
use package.Rattle.replay.specs.Playing.{unopened, ends, ReplayMeans}
use package.Rattle.replay.specs.Inner.Steps.{swept, play, follows, opens_to, begins_as, begins, begins_at, Ahead}
use package.Rattle.replay.specs.declared.scripts.Part.{Part}
use package.Rattle.replay.specs.declared.scripts.Kind.{Kind}
use package.Rattle.replay.specs.declared.scripts.Kind.TheVariants.{Open, Convert, Rollback}
use package.Rattle.replay.specs.Scripts as steps
use package.Rattle.replay.specs.Scripts.{Step}
use Rattle.std.specs.Prelude.{Result as Outcome, Ok, Err}
use package.Rattle.replay.specs.declared.replies.ReplayError.{ReplayError}
use package.Rattle.replay.specs.declared.replies.ReplayError.TheVariants as errors
use package.Rattle.replay.proofs.Fronts.{resized-longer}
use package.Rattle.replay.proofs.Parsed.{ahead_as}

-- the journal's buffer with a front part of the same length written anew
pub front-ahead : (s : List ℕ) (n : ℕ) (f J : List ℕ) (room at : ℕ) → n ≤ length J → length f ≡ length (take n J) → Ahead s (length J) room at 1
    → (n ≤ length (f ++ drop n J)) × Ahead s (length (f ++ drop n J)) room at 1
front-ahead s n f J room at h e H =
    let z : length (f ++ drop n J) ≡ length J = omega (arith, length-append f (drop n J), length-drop n J, e, length-take-le n J h) in
    (omega arith, ahead_as s z refl H)

module _ (program s : List ℕ) (p : Part) (J A W : List ℕ) where
  ----------------------------------------------------------------
  -- By the answer

  pub follow_refused : (answer : Outcome (Unit {0}) Refusal) (r : Refusal) → answer ≡ Err r
      → ReplayMeans (Err (errors.Unopened r)) (follows (check_answer answer) program s p J A W) J A W
  unfolding follows
  follow_refused answer r e =
      subst (λ x. ReplayMeans (Err (errors.Unopened r)) (follows (check_answer x) program s p J A W) J A W) (sym e)
      (record { answer = refl; kept = refl; told = refl; clear = refl })

  pub follow_accepted : (answer : Outcome (Unit {0}) Refusal) (a : Outcome ℕ ReplayError) (l J₁ A₁ J' A' W' : List ℕ) → answer ≡ Ok tt → p.n ≤ length J
      → J₁ ≡ take p.n J ++ replicate (length J - p.n) 0 → l ≡ check_line (check_answer (Ok tt)) → A₁ ≡ pasted A 0 l
      → ReplayMeans a (play (length s) program s p.next 1 J₁ A₁ W) J' A' W'
      → ReplayMeans a (follows (check_answer answer) program s p J A W) J' A' W'
  unfolding follows check_line
  follow_accepted answer a l J₁ A₁ J' A' W' e h ej el ea M =
      let k : length (take p.n J) ≡ p.n = length-take-le p.n J h in
      let front : J₁ ≡ resized (length J) (take p.n J) =
      ej ∙ ap (λ i. take p.n J ++ replicate (length J - i) 0) (sym k) ∙ sym (resized-longer (length J) (take p.n J) (omega arith)) in
      subst (λ x. ReplayMeans a (follows (check_answer x) program s p J A W) J' A' W') (sym e)
      (subst (λ z. ReplayMeans a z J' A' W')
      (ap₂ (λ j b. play (length s) program s p.next 1 j b W) front (ea ∙ ap (pasted A 0) el)) M)

  ----------------------------------------------------------------
  -- The open itself

  -- the buffers that the open leaves
  follows-opened : (x : Answer (List ℕ)) → p.n ≤ length J → length (after_open (take p.n J) x).journal ≡ p.n
      → follows (open_answer x) program s p ((after_open (take p.n J) x).journal ++ drop p.n J) A (cleared x W) ≡ opens_to x program s p.next J A W
  unfolding follows opens_to after_open cleared swept
  follows-opened (refused m q) h e = ap (λ j. ends (unopened m q) j A (cond (eqb m 1) W (replicate (length W) 0))) (take-append-drop p.n J)
  follows-opened (accepted xs) h e =
      ap₂ (λ k j. play (length s) program s p.next 1 (resized k j) (pasted A 0 (line is_open)) (replicate (length W) 0))
      (let z : length (xs ++ drop p.n J) ≡ length J = omega (arith, length-append xs (drop p.n J), length-drop p.n J) in z)
      (take_at xs (drop p.n J) p.n e)

  pub opened-begins : (a : Outcome ℕ ReplayError) (r : Outcome (Unit {0}) Refusal) (held f W₁ J' A' W' : List ℕ) → p.n ≤ length J → length f ≡ length (take p.n J)
      → check_answer r ≡ open_answer (open_call program held (length W) (length (take p.n J)))
      → f ≡ (after_open (take p.n J) (open_call program held (length W) (length (take p.n J)))).journal
      → W₁ ≡ cleared (open_call program held (length W) (length (take p.n J))) W
      → ReplayMeans a (follows (check_answer r) program s p (f ++ drop p.n J) A W₁) J' A' W'
      → ReplayMeans a (opens_to (open_call program held (length W) p.n) program s p.next J A W) J' A' W'
  opened-begins a r held f W₁ J' A' W' h e er ef ew M =
      let k : length (take p.n J) ≡ p.n = length-take-le p.n J h in
      subst (λ z. ReplayMeans a z J' A' W')
      (ap (λ y. follows y program s p (f ++ drop p.n J) A W₁) er
      ∙ ap₂ (λ g w. follows (open_answer (open_call program held (length W) (length (take p.n J)))) program s p (g ++ drop p.n J) A w) ef ew
      ∙ follows-opened (open_call program held (length W) (length (take p.n J))) h (ap length (sym ef) ∙ e ∙ k)
      ∙ ap (λ i. opens_to (open_call program held (length W) i) program s p.next J A W) k) M

  -- a first call of another kind
  pub begins-other : (p.kind ≡ Open → ⊥) → ReplayMeans (Err (errors.Malformed 0)) (begins program s p J A W) J A W
  unfolding begins begins_as
  begins-other h = by p.kind refl
    where
      by : (k : Kind) → p.kind ≡ k → ReplayMeans (Err (errors.Malformed 0)) (begins_as k program s p J A W) J A W
      by Open e = absurd (h e)
      by (Convert fuel function) e = record { answer = refl; kept = refl; told = refl; clear = refl }
      by (Rollback fuel) e = record { answer = refl; kept = refl; told = refl; clear = refl }

----------------------------------------------------------------
-- What stands at the start

module _ (program s J A W : List ℕ) where
  pub begins-end : (x : Step) → steps.End ≡ x → ReplayMeans (Err (errors.Malformed 0)) (begins_at x program s J A W) J A W
  unfolding begins_at
  begins-end x e = subst (λ x. ReplayMeans (Err (errors.Malformed 0)) (begins_at x program s J A W) J A W) e (record { answer = refl; kept = refl; told = refl; clear = refl })

  pub begins-malformed : (x : Step) → steps.Malformed ≡ x → ReplayMeans (Err (errors.Malformed 0)) (begins_at x program s J A W) J A W
  unfolding begins_at
  begins-malformed x e = subst (λ x. ReplayMeans (Err (errors.Malformed 0)) (begins_at x program s J A W) J A W) e (record { answer = refl; kept = refl; told = refl; clear = refl })

  pub begins-play : (p : Part) (a : Outcome ℕ ReplayError) (x : Step) (J' A' W' : List ℕ) → steps.Play p ≡ x → ReplayMeans a (begins program s p J A W) J' A' W'
      → ReplayMeans a (begins_at x program s J A W) J' A' W'
  unfolding begins_at
  begins-play p a x J' A' W' e M = subst (λ x. ReplayMeans a (begins_at x program s J A W) J' A' W') e M
