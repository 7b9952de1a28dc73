-- Check, forward and backward (section 4): each call a function from its arguments to its answer, in the order of section 4's
-- table. Of the workspace and the output the length alone is an argument; what they hold after the call is given by `cleared`
-- (Answer) and `written`.
use Rattle.std.specs.Prelude.{ℕ, ◌+◌, ◌*◌, ◌-◌, ◌&&◌, List, length, eqb, leb}
use Rattle.std.proofs.Math.Option.{Option}
use package.Rattle.rules.specs.Limits.{fits, max_height, workspace_base, workspace_per_fuel}
use package.Rattle.rules.specs.Val.{Val, size, encode}
use package.Rattle.rules.specs.Ty.{Ty}
use package.Rattle.rules.specs.Term.{Fun, Program, nth}
use package.Rattle.rules.specs.Run.{Res, ok, stop, stuck}
use package.Rattle.rules.specs.Machine.{run_forward, run_backward}
use package.Rattle.calls.specs.Answer.{Answer, accepted, refused, ◌>>=◌, require, present, overwritten}
use package.Rattle.calls.specs.Load.{load}
use package.Rattle.calls.specs.Values.{value, ancillae, has_ty, has_tys}

----------------------------------------------------------------
-- Row Workspace

-- the workspace that a call with so much fuel needs (section 2)
unfoldable pub workspace_for : ℕ → ℕ
workspace_for fuel = workspace_base + workspace_per_fuel * fuel

-- refusal 1, then the rows of the program
unfoldable pub prepared : List ℕ → ℕ → ℕ → Answer Program
unfolding workspace_for
prepared program fuel ws = do
  enough ← require (leb (workspace_for fuel) ws) 1 0
  load program

----------------------------------------------------------------
-- Row Call: 9, then all of 10, then all of 11

-- what a run is given
pub record Given : Type 0 where
  pub fun : Fun
  pub ancillae : List Val
  pub value : Val

-- the side of a function that a value is held to: its dynamic parameter's type, or its result type
unfoldable pub admit : Program → ℕ → Option (List Val) → Option Val → (Fun → Ty) → Answer Given
admit P fn as? v? side = do
  h ← present (nth P fn) 9
  vs ← present as? 10
  v ← present v? 10
  number ← require (eqb (length vs) (length h.ancillae)) 10 0
  typed ← require (has_tys vs h.ancillae && has_ty v (side h)) 11 0
  accepted (record { fun = h; ancillae = vs; value = v })

----------------------------------------------------------------
-- Row Run

pub record Ran : Type 0 where
  pub value : Val
  pub steps : ℕ

-- the answer of a run that was given so much fuel; a checked program is never stuck (Claims), so the number 0 is never met
unfoldable pub ran : ℕ → Res Val → Answer Ran
ran fuel (ok v left) = accepted (record { value = v; steps = fuel - left })
ran fuel (stop n k) = refused n k
ran fuel stuck = refused 0 0

unfoldable pub goes : Program → ℕ → Given → Answer Ran
unfolding ran
goes P fuel a = ran fuel (run_forward fits P max_height a.fun a.ancillae a.value fuel)

unfoldable pub returns : Program → ℕ → Given → Answer Ran
unfolding ran
returns P fuel a = ran fuel (run_backward fits P max_height a.fun a.ancillae a.value fuel)

----------------------------------------------------------------
-- The calls

unfoldable pub check_call : List ℕ → ℕ → Answer (Unit {0})
unfolding prepared
check_call program ws = do
  P ← prepared program 0 ws
  accepted tt

unfoldable pub forward_call : List ℕ → ℕ → List ℕ → List ℕ → ℕ → ℕ → ℕ → Answer Ran
unfolding prepared admit goes
forward_call program fn anc v fuel ws out = do
  P ← prepared program fuel ws
  a ← admit P fn (ancillae anc) (value v) λ h. h.dynamic
  r ← goes P fuel a
  room ← require (leb (size r.value) out) 17 0
  accepted r

unfoldable pub backward_call : List ℕ → ℕ → List ℕ → List ℕ → ℕ → ℕ → ℕ → Answer Ran
unfolding prepared admit returns
backward_call program fn anc v fuel ws out = do
  P ← prepared program fuel ws
  a ← admit P fn (ancillae anc) (value v) λ h. h.result
  r ← returns P fuel a
  room ← require (leb (size r.value) out) 17 0
  accepted r

-- the bytes that a run writes: its value's
unfoldable pub value_bytes : Answer Ran → Answer (List ℕ)
value_bytes x = do
  r ← x
  accepted (encode r.value)

-- the output after it
unfoldable pub written : Answer Ran → List ℕ → List ℕ
unfolding value_bytes overwritten
written x out = overwritten (value_bytes x) out
