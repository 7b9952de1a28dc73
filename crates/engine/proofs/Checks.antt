-- Laws of the call check.
use Prim.Native.Nat.{ℕ}
use mathlib.Core.Path.{◌≡◌, refl, sym, ap, ◌∙◌}
use mathlib.Core.Bool.{Bool, true, false}
use mathlib.Core.List.{List}
use Rattle.std.specs.Prelude.{Result, Ok, Err}
use lib.ListN.{length, replicate}
use lib.Dec.{leb}
use package.Rattle.calls.specs.Answer.{accepted, refused, ◌>>=◌, cleared}
use package.Rattle.calls.specs.Runs.{workspace_for, check_call}
use package.Rattle.answers.specs.Answers.{check_answer}
use package.Rattle.requests.specs.Calls.{CheckMeans}
use package.Rattle.answers.specs.declared.Refusal.{Refusal}
use package.Rattle.answers.specs.declared.Refusal.TheVariants.{Workspace}
use package.Rattle.engine.proofs.Beginning.{prepared-enough, prepared-short, cleared_later}

module _ (xs ws : List ℕ) where
  pub check-enough : leb (workspace_for 0) (length ws) ≡ true → {r : Result (Unit {0}) Refusal} → CheckMeans r xs → check_answer r ≡ check_call xs (length ws)
  unfolding check_call
  check-enough e C = C.answer ∙ ap (λ a. a >>= λ P. accepted tt) (sym (prepared-enough 0 (length ws) xs e))

  pub check_clears : leb (workspace_for 0) (length ws) ≡ true → {r : Result (Unit {0}) Refusal} → CheckMeans r xs
      → replicate (length ws) 0 ≡ cleared (check_call xs (length ws)) ws
  check_clears e {r} C = sym (ap (λ a. cleared a ws) (sym (check-enough e C)) ∙ cleared_later ws C.later)

  pub check-short : leb (workspace_for 0) (length ws) ≡ false → check_call xs (length ws) ≡ refused 1 0
  unfolding check_call ◌>>=◌
  check-short e = ap (λ a. a >>= λ P. accepted tt) (prepared-short 0 (length ws) xs e)

  pub check-keeps : leb (workspace_for 0) (length ws) ≡ false → ws ≡ cleared (check_call xs (length ws)) ws
  unfolding cleared
  check-keeps e = sym (ap (λ a. cleared a ws) (check-short e))

  -- by the workspace's length
  pub check_called : {r : Result (Unit {0}) Refusal} {ws' : List ℕ} → (leb (workspace_for 0) (length ws) ≡ false → (r ≡ Err Workspace) × (ws' ≡ ws))
      → (leb (workspace_for 0) (length ws) ≡ true → CheckMeans r xs × (ws' ≡ replicate (length ws) 0))
      → (check_answer r ≡ check_call xs (length ws)) × (ws' ≡ cleared (check_call xs (length ws)) ws)
  check_called {r} {ws'} short served = go (leb (workspace_for 0) (length ws)) refl
    where
      go : (b : Bool) → leb (workspace_for 0) (length ws) ≡ b → (check_answer r ≡ check_call xs (length ws)) × (ws' ≡ cleared (check_call xs (length ws)) ws)
      go true e = (check-enough e (served e).0, (served e).1 ∙ check_clears e (served e).0)
      go false e = let s = short e in rw s.0 (rw s.1 (sym (check-short e), check-keeps e))
