-- Laws of the workspace: its test, which every call makes first, and what it holds afterwards.
use Prim.Native.Nat.{ℕ, ◌≤◌}
use native.Mathlib.Omega.{arith}
use mathlib.Core.Path.{◌≡◌, refl, sym, ap, ◌∙◌}
use mathlib.Core.Bool.{true, false, cond}
use mathlib.Core.List.{List}
use Rattle.std.specs.Prelude.{Result, Ok, Err}
use lib.ListN.{length, replicate}
use lib.Dec.{leb}
use package.Rattle.rules.proofs.Basics.{eqb-differs}
use package.Rattle.rules.proofs.Typing.Tests.{leb-sound}
use package.Rattle.calls.specs.Answer.{Answer, accepted, refused, ◌>>=◌, require, cleared}
use package.Rattle.calls.specs.Load.{load}
use package.Rattle.calls.specs.Runs.{Ran, workspace_for, prepared}
use package.Rattle.calls.specs.Conversions.{Turned}
use package.Rattle.types.specs.Layout.{typing_bytes}
use package.Rattle.requests.proofs.Beginning.{enough-types}
use package.Rattle.answers.specs.Answers.{run_answer, open_answer, held_answer, summary, Later, accepts, refuses}
use package.Rattle.answers.specs.declared.Done.{Done}
use package.Rattle.answers.specs.declared.Refusal.{Refusal}

----------------------------------------------------------------
-- Row Workspace

pub enough-le : (fuel n : ℕ) → leb (workspace_for fuel) n ≡ true → workspace_for fuel ≤ n
enough-le fuel n e = leb-sound (workspace_for fuel) n e

-- a workspace that is long enough has room for the types that typing makes
pub enough-room : (fuel n : ℕ) → leb (workspace_for fuel) n ≡ true → typing_bytes ≤ n
enough-room fuel n e = enough-types fuel n (enough-le fuel n e)

pub prepared-enough : (fuel n : ℕ) (xs : List ℕ) → leb (workspace_for fuel) n ≡ true → prepared xs fuel n ≡ load xs
unfolding prepared require ◌>>=◌
prepared-enough fuel n xs e = ap (λ b. require b 1 0 >>= λ u. load xs) e

pub prepared-short : (fuel n : ℕ) (xs : List ℕ) → leb (workspace_for fuel) n ≡ false → prepared xs fuel n ≡ refused 1 0
unfolding prepared require ◌>>=◌
prepared-short fuel n xs e = ap (λ b. require b 1 0 >>= λ u. load xs) e

----------------------------------------------------------------
-- The workspace after a call

pub cleared_later : {A : Type 0} {a : Answer A} (ws : List ℕ) → Later a → cleared a ws ≡ replicate (length ws) 0
unfolding cleared
cleared_later ws accepts = refl
cleared_later ws (refuses {n} l) = ap (λ b. cond b ws (replicate (length ws) 0)) (eqb-differs n 1 λ e. let z : n ≡ 1 = e in omega arith)

-- of a run's answer the number alone counts
pub cleared-summary : (a : Answer Ran) (ws : List ℕ) → cleared (summary a) ws ≡ cleared a ws
unfolding cleared
cleared-summary (accepted r) ws = refl
cleared-summary (refused n p) ws = refl

-- nor what a journal's call holds
pub cleared-held : (a : Answer Turned) (ws : List ℕ) → cleared (held_answer a) ws ≡ cleared a ws
unfolding cleared
cleared-held (accepted t) ws = refl
cleared-held (refused n p) ws = refl

pub cleared-opened : (a : Answer (List ℕ)) (ws : List ℕ) → cleared (open_answer a) ws ≡ cleared a ws
unfolding cleared
cleared-opened (accepted j) ws = refl
cleared-opened (refused n p) ws = refl

-- what a run answers tells whether its workspace is cleared
pub cleared-run : (r : Result Done Refusal) (a : Answer Ran) (ws : List ℕ) → run_answer r ≡ summary a → Later (run_answer r) → cleared a ws ≡ replicate (length ws) 0
cleared-run r a ws e l = sym (cleared-summary a ws) ∙ ap (λ s. cleared s ws) (sym e) ∙ cleared_later ws l
