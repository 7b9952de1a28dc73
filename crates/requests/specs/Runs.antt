-- What the rows Call, Run and Output answer (section 4), against calls/specs/Runs.
use Rattle.std.specs.Prelude.{ℕ, ◌≡◌, Bool, true, false, List, Result}
use package.Rattle.rules.specs.Term.{Program}
use package.Rattle.calls.specs.Answer.{Answer, ◌>>=◌}
use package.Rattle.calls.specs.Load.{load}
use package.Rattle.calls.specs.Values.{value, ancillae}
use package.Rattle.calls.specs.Runs.{Given, admit, Ran, goes, returns, written}
use package.Rattle.admission.specs.Admitting.{side_of}
use package.Rattle.runs.specs.Ended.{finished}
use package.Rattle.answers.specs.declared.Done.{Done}
use package.Rattle.answers.specs.declared.Refusal.{Refusal}
use package.Rattle.requests.specs.declared.running.Direction.{Direction}
use package.Rattle.requests.specs.declared.running.Direction.TheVariants.{Forward, Backward}
use package.Rattle.requests.specs.declared.running.Request.{Request}
use package.Rattle.answers.specs.Answers.{run_answer, summary, Later}

-- the run of what is given, back or forward
unfoldable pub run_of : Bool → Program → ℕ → Given → Answer Ran
run_of true = returns
run_of false = goes

-- A run of a program, from row Call on.
unfoldable pub called : Bool → Program → ℕ → List ℕ → List ℕ → ℕ → ℕ → Answer Ran
called back P g anc bytes fuel out = do
  a ← admit P g (ancillae anc) (value bytes) (side_of back)
  finished out (run_of back P fuel a)

-- the same of the program that the bytes are, if they are one
abbrev pub of_program : Bool → List ℕ → ℕ → List ℕ → List ℕ → ℕ → ℕ → Answer Ran
of_program back xs g anc bytes fuel out = load xs >>= λ P. called back P g anc bytes fuel out

-- is the run back?
abbrev pub is_back : Direction → Bool
is_back Forward = false
is_back Backward = true

-- a request of a program, and of the bytes of one
abbrev pub asked : Request → Program → ℕ → Answer Ran
asked q P out = called (is_back q.direction) P q.function q.ancillae.now q.value.now q.fuel out

abbrev pub asked_of : Request → List ℕ → ℕ → Answer Ran
asked_of q xs out = of_program (is_back q.direction) xs q.function q.ancillae.now q.value.now q.fuel out

-- An answer whose meaning is `x`, in a workspace that is long enough, and the output before and after it.
pub record RunMeans (r : Result Done Refusal) (x : Answer Ran) (out out' : List ℕ) : Type 0 where
  pub answer : run_answer r ≡ summary x
  pub later : Later (run_answer r)
  pub output : out' ≡ written x out
