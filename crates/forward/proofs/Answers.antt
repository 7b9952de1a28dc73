-- Laws of answers, which are numbers: a node, or a refusal by its number and its term.
use Prim.Native.Nat.{ℕ, ◌+◌, ◌-◌, ◌*◌, ◌/◌, ◌%◌, ◌≤◌, ◌<◌}
use native.Mathlib.Omega.{arith}
use mathlib.Core.Path.{◌≡◌, ap₂, ◌∙◌}
use lib.Dec.{lit<}
use borrow.Author.Tests.{lt-ltb, le-ltb}
use package.Rattle.scopes.specs.Slots.{unknown}
use package.Rattle.forward.specs.Outcomes.{stopped, refusal_in, status_of, number_in, place_in, Stops}
use Rattle.forward.specs.declared.outcomes.Refusal.{Refusal}
use Rattle.forward.specs.declared.outcomes.Refusal.TheVariants.{Fuel, Height, Long, FirstMatch, Stuck}
use Rattle.std.specs.Prelude.{Ok, Err}

-- no node has the number that marks a variable as not known
pub below-mark : stopped ≤ unknown
unfolding unknown
below-mark = lit< tt

pub is_value_lem : {r : ℕ} → r < stopped → status_of r ≡ Ok r
unfolding status_of
is_value_lem {r} l = rw (status_of, lt-ltb r stopped l)

pub is_refused : {r : ℕ} → stopped ≤ r → status_of r ≡ Err (refusal_in ((r - stopped) / 65536) ((r - stopped) % 65536))
unfolding status_of
is_refused {r} l = rw (status_of, le-ltb r stopped l)

-- a refusal by its number
stop-status : (number t : ℕ) {r : ℕ} → r ≡ stopped + 65536 * number + t → t < 65536 → status_of r ≡ Err (refusal_in number t)
stop-status number t {r} e l =
    is_refused (omega arith)
    ∙ ap₂ (λ n k. Err (refusal_in n k)) (let z : (r - stopped) / 65536 ≡ number = omega arith in z) (let z : (r - stopped) % 65536 ≡ t = omega arith in z)

pub stops : {r : ℕ} (why : Refusal) → r ≡ stopped + 65536 * number_in why + place_in why → place_in why < 65536 → Stops r why
unfolding refusal_in
stops (Fuel t) e l = record { is = e; status = stop-status 12 t e l }
stops (Height t) e l = record { is = e; status = stop-status 13 t e l }
stops (Long t) e l = record { is = e; status = stop-status 14 t e l }
stops (FirstMatch t) e l = record { is = e; status = stop-status 15 t e l }
stops Stuck e l = record { is = e; status = stop-status 0 0 e l }
