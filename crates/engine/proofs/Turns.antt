-- Laws of the calls on a journal: the workspace's test before, and its clearing after, what the crate conversions does.
use Prim.Native.Nat.{ℕ}
use mathlib.Core.Path.{◌≡◌, refl, sym, ap, ◌∙◌}
use mathlib.Core.Bool.{Bool, true, false}
use mathlib.Core.List.{List}
use Rattle.std.specs.Prelude.{Result, Ok, Err}
use lib.ListN.{length, replicate}
use lib.Dec.{leb}
use package.Rattle.rules.specs.Term.{Program}
use package.Rattle.calls.specs.Answer.{Answer, refused, ◌>>=◌, cleared}
use package.Rattle.calls.specs.Load.{load}
use package.Rattle.calls.specs.Runs.{workspace_for, prepared}
use package.Rattle.calls.specs.Conversions.{Turned, open_call, convert_call, rollback_call}
use package.Rattle.calls.specs.Book.{after_open, after_turned}
use package.Rattle.answers.specs.declared.Refusal.TheVariants.{Workspace}
use package.Rattle.answers.specs.declared.Done.{Done}
use package.Rattle.answers.specs.declared.Refusal.{Refusal}
use package.Rattle.answers.specs.Answers.{check_answer, run_answer, open_answer, held_answer}
use package.Rattle.conversions.specs.Turns.{open_of, convert_of, rollback_of, OpenMeans, TurnMeans}
use package.Rattle.engine.proofs.Beginning.{prepared-enough, prepared-short, cleared_later, cleared-held, cleared-opened}

----------------------------------------------------------------
-- After the workspace's test come the rows of the program and those of the journal

pub open_whole : (ws : ℕ) (xs bytes : List ℕ) (n : ℕ) → open_call xs bytes ws n ≡ (prepared xs 0 ws >>= λ P. open_of bytes n)
unfolding open_call open_of
open_whole ws xs bytes n = refl

pub convert_whole : (ws fuel fn : ℕ) (xs anc j : List ℕ) → convert_call xs fn anc fuel ws j ≡ (prepared xs fuel ws >>= λ P. convert_of P fuel fn anc j)
unfolding convert_call convert_of
convert_whole ws fuel fn xs anc j = refl

pub rollback_whole : (ws fuel : ℕ) (xs j : List ℕ) → rollback_call xs fuel ws j ≡ (prepared xs fuel ws >>= λ P. rollback_of P fuel j)
unfolding rollback_call rollback_of
rollback_whole ws fuel xs j = refl

module _ {A : Type 0} (then : Program → Answer A) (fuel : ℕ) (xs ws : List ℕ) {x : Answer A} (whole : x ≡ (prepared xs fuel (length ws) >>= then)) where
  whole_enough : leb (workspace_for fuel) (length ws) ≡ true → x ≡ (load xs >>= then)
  whole_enough e = whole ∙ ap (λ a. a >>= then) (prepared-enough fuel (length ws) xs e)

  whole_short : leb (workspace_for fuel) (length ws) ≡ false → x ≡ refused 1 0
  unfolding ◌>>=◌
  whole_short e = whole ∙ ap (λ a. a >>= then) (prepared-short fuel (length ws) xs e)

----------------------------------------------------------------
-- Convert and rollback

module _ (turn : Program → Answer Turned) (fuel : ℕ) (xs ws j : List ℕ) {x : Answer Turned} (whole : x ≡ (prepared xs fuel (length ws) >>= turn)) where
  pub turn-enough : leb (workspace_for fuel) (length ws) ≡ true → {r : Result Done Refusal} {j' ws' : List ℕ} → TurnMeans r (load xs >>= turn) j j'
      → ws' ≡ replicate (length ws) 0
      → (run_answer r ≡ held_answer x) × ((j' ≡ (after_turned j x).journal) × (ws' ≡ cleared x ws))
  turn-enough e {r} T w = (same, (T.journal ∙ ap (λ x. (after_turned j x).journal) (sym (whole_enough turn fuel xs ws whole e)), w ∙ sym clear))
    where
      same : run_answer r ≡ held_answer x
      same = T.answer ∙ ap held_answer (sym (whole_enough turn fuel xs ws whole e))

      clear : cleared x ws ≡ replicate (length ws) 0
      clear = sym (cleared-held x ws) ∙ ap (λ a. cleared a ws) (sym same) ∙ cleared_later ws T.later

  pub turn-short : leb (workspace_for fuel) (length ws) ≡ false
      → (run_answer (Err Workspace) ≡ held_answer x) × ((j ≡ (after_turned j x).journal) × (ws ≡ cleared x ws))
  unfolding after_turned cleared
  turn-short e = let s = sym (whole_short turn fuel xs ws whole e) in (ap held_answer s, (ap (λ x. (after_turned j x).journal) s, ap (λ x. cleared x ws) s))

  -- by the workspace's length
  pub turn-called : {r : Result Done Refusal} {j' ws' : List ℕ} → (leb (workspace_for fuel) (length ws) ≡ false → (r ≡ Err Workspace) × (j' ≡ j) × (ws' ≡ ws))
      → (leb (workspace_for fuel) (length ws) ≡ true → TurnMeans r (load xs >>= turn) j j' × (ws' ≡ replicate (length ws) 0))
      → (run_answer r ≡ held_answer x) × ((j' ≡ (after_turned j x).journal) × (ws' ≡ cleared x ws))
  turn-called {r} {j'} {ws'} short served = go (leb (workspace_for fuel) (length ws)) refl
    where
      go : (b : Bool) → leb (workspace_for fuel) (length ws) ≡ b → (run_answer r ≡ held_answer x) × ((j' ≡ (after_turned j x).journal) × (ws' ≡ cleared x ws))
      go true e = turn-enough e (served e).0 (served e).1
      go false e = let s = short e in rw s.0 (rw s.1 (rw s.2 (turn-short e)))

----------------------------------------------------------------
-- Open

module _ (bytes xs ws j : List ℕ) where
  abbrev opened : Answer (List ℕ)
  opened = open_call xs bytes (length ws) (length j)

  whole_open : opened ≡ (prepared xs 0 (length ws) >>= λ P. open_of bytes (length j))
  whole_open = open_whole (length ws) xs bytes (length j)

  pub open_enough : leb (workspace_for 0) (length ws) ≡ true → {r : Result (Unit {0}) Refusal} {j' ws' : List ℕ}
      → OpenMeans r (load xs >>= λ P. open_of bytes (length j)) j j' → ws' ≡ replicate (length ws) 0
      → (check_answer r ≡ open_answer opened) × ((j' ≡ (after_open j opened).journal) × (ws' ≡ cleared opened ws))
  open_enough e {r} O w = (same, (O.journal ∙ ap (λ x. (after_open j x).journal) (sym (whole_enough (λ P. open_of bytes (length j)) 0 xs ws whole_open e)), w ∙ sym clear))
    where
      same : check_answer r ≡ open_answer opened
      same = O.answer ∙ ap open_answer (sym (whole_enough (λ P. open_of bytes (length j)) 0 xs ws whole_open e))

      clear : cleared opened ws ≡ replicate (length ws) 0
      clear = sym (cleared-opened opened ws) ∙ ap (λ a. cleared a ws) (sym same) ∙ cleared_later ws O.later

  pub open_short : leb (workspace_for 0) (length ws) ≡ false
      → (check_answer (Err Workspace) ≡ open_answer opened) × ((j ≡ (after_open j opened).journal) × (ws ≡ cleared opened ws))
  unfolding after_open cleared
  open_short e = let s = sym (whole_short (λ P. open_of bytes (length j)) 0 xs ws whole_open e) in (ap open_answer s, (ap (λ x. (after_open j x).journal) s, ap (λ x. cleared x ws) s))

  -- by the workspace's length
  pub open_called : {r : Result (Unit {0}) Refusal} {j' ws' : List ℕ} → (leb (workspace_for 0) (length ws) ≡ false → (r ≡ Err Workspace) × (j' ≡ j) × (ws' ≡ ws))
      → (leb (workspace_for 0) (length ws) ≡ true → OpenMeans r (load xs >>= λ P. open_of bytes (length j)) j j' × (ws' ≡ replicate (length ws) 0))
      → (check_answer r ≡ open_answer opened) × ((j' ≡ (after_open j opened).journal) × (ws' ≡ cleared opened ws))
  open_called {r} {j'} {ws'} short served = go (leb (workspace_for 0) (length ws)) refl
    where
      go : (b : Bool) → leb (workspace_for 0) (length ws) ≡ b
          → (check_answer r ≡ open_answer opened) × ((j' ≡ (after_open j opened).journal) × (ws' ≡ cleared opened ws))
      go true e = open_enough e (served e).0 (served e).1
      go false e = let s = short e in rw s.0 (rw s.1 (rw s.2 (open_short e)))
