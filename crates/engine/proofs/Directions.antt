-- Laws of the calls that run a function.
use Prim.Native.Nat.{ℕ}
use mathlib.Core.Path.{◌≡◌, refl, sym, ap, ◌∙◌}
use mathlib.Core.Bool.{Bool, true, false}
use mathlib.Core.List.{List}
use Rattle.std.specs.Prelude.{Result, Ok, Err}
use lib.ListN.{length, replicate}
use lib.Dec.{leb}
use package.Rattle.calls.specs.Answer.{Answer, refused, ◌>>=◌, cleared}
use package.Rattle.calls.specs.Runs.{workspace_for, prepared, Ran, forward_call, backward_call, written}
use package.Rattle.runs.specs.Ended.{finished}
use package.Rattle.answers.specs.declared.Refusal.TheVariants.{Workspace}
use package.Rattle.answers.specs.declared.Done.{Done}
use package.Rattle.answers.specs.declared.Refusal.{Refusal}
use package.Rattle.answers.specs.Answers.{run_answer, summary}
use package.Rattle.requests.specs.Runs.{run_of, called, of_program, RunMeans}
use package.Rattle.engine.specs.Runs.{run_call, CallMeans}
use package.Rattle.engine.proofs.Beginning.{prepared-enough, prepared-short, cleared-run}

module _ (xs : List ℕ) (g : ℕ) (anc bytes : List ℕ) (fuel : ℕ) (ws out : List ℕ) where
  -- after the workspace test comes the program
  whole : (back : Bool)
      → run_call back xs g anc bytes fuel (length ws) (length out) ≡ (prepared xs fuel (length ws) >>= λ P. called back P g anc bytes fuel (length out))
  unfolding run_call forward_call backward_call called finished run_of
  whole true = refl
  whole false = refl

module _ (back : Bool) (xs : List ℕ) (g : ℕ) (anc bytes : List ℕ) (fuel : ℕ) (ws out : List ℕ) where
  abbrev answer : Answer Ran
  answer = run_call back xs g anc bytes fuel (length ws) (length out)

  whole_enough : leb (workspace_for fuel) (length ws) ≡ true → answer ≡ of_program back xs g anc bytes fuel (length out)
  whole_enough e = whole xs g anc bytes fuel ws out back ∙ ap (λ a. a >>= λ P. called back P g anc bytes fuel (length out)) (prepared-enough fuel (length ws) xs e)

  whole_short : leb (workspace_for fuel) (length ws) ≡ false → answer ≡ refused 1 0
  unfolding ◌>>=◌
  whole_short e = whole xs g anc bytes fuel ws out back ∙ ap (λ a. a >>= λ P. called back P g anc bytes fuel (length out)) (prepared-short fuel (length ws) xs e)

  pub call-means : leb (workspace_for fuel) (length ws) ≡ true → {r : Result Done Refusal} {out' ws' : List ℕ}
      → RunMeans r (of_program back xs g anc bytes fuel (length out)) out out'
      → ws' ≡ replicate (length ws) 0 → CallMeans r (run_call back xs g anc bytes fuel (length ws) (length out)) out out' ws ws'
  call-means e {r} R w = record {
    answer = same;
    fills = R.output ∙ ap (λ x. written x out) (sym (whole_enough e));
    clear = w ∙ sym (cleared-run r answer ws same R.later);
  }
    where
      same : run_answer r ≡ summary answer
      same = R.answer ∙ ap summary (sym (whole_enough e))

  pub call-short : leb (workspace_for fuel) (length ws) ≡ false
      → CallMeans (Err Workspace) (run_call back xs g anc bytes fuel (length ws) (length out)) out out ws ws
  unfolding written ◌>>=◌ cleared
  call-short e = record {
    answer = ap summary (sym (whole_short e));
    fills = ap (λ x. written x out) (sym (whole_short e));
    clear = ap (λ x. cleared x ws) (sym (whole_short e));
  }
