-- What loading a program into arrays of its own answers, against calls/specs/Load; the same for room that is lent, and for the answer alone.
use Rattle.std.specs.Prelude.{ℕ, ◌≡◌, List, take, Result, IfOk}
use package.Rattle.rules.specs.Term.{Program}
use package.Rattle.calls.specs.Answer.{accepted, ◌>>=◌}
use package.Rattle.calls.specs.Load.{load}
use package.Rattle.answers.specs.declared.Refusal.{Refusal}
use package.Rattle.answers.specs.Answers.{check_answer, Later}
use package.Rattle.program.specs.Programs.{program_in}
use package.Rattle.loading.specs.Loading.{loaded_of}
use package.Rattle.loading.specs.declared.loaded.AcceptedProgram.{AcceptedProgram}
use package.Rattle.loading.specs.declared.loaded.Loaded.{Loaded}

-- the program that goes on
abbrev pub program_accepted : AcceptedProgram → Program
program_accepted a = program_in a.entries.program.now a.entries.types.now a.entries.terms.now a.entries.functions.now

-- the program that was loaded
abbrev pub program_loaded : Loaded → Program
program_loaded l = program_in l.program.now (take l.counts.types l.types) (take l.counts.terms l.terms) (take l.counts.functions l.functions)

-- the bytes `xs` are loaded, or refused as they are
pub record Loads (r : Result Loaded Refusal) (xs : List ℕ) : Type 0 where
  pub answer : load xs ≡ loaded_of r program_loaded
  pub later : Later (load xs)
  -- what is loaded is of these bytes
  pub bytes : IfOk r (λ l. l.program.now ≡ xs)

-- the same for room that is lent: what goes on is of these bytes
pub record LoadsInto (r : Result AcceptedProgram Refusal) (xs : List ℕ) : Type 0 where
  pub answer : load xs ≡ loaded_of r program_accepted
  pub later : Later (load xs)
  pub bytes : IfOk r (λ a. a.entries.program.now ≡ xs)

-- whether the bytes `xs` are a program that is accepted
pub record AcceptsMeans (r : Result (Unit {0}) Refusal) (xs : List ℕ) : Type 0 where
  pub answer : check_answer r ≡ (load xs >>= λ P. accepted tt)
  pub later : Later (check_answer r)
