-- Laws of lists: elements of mapped lists, and elements that are there or not.
use Prim.Native.Nat.{ℕ, zero, suc, ◌≤◌, ◌<◌}
use native.Mathlib.Omega.{arith}
use mathlib.Core.Path.{◌≡◌, refl, ap}
use mathlib.Core.Option.{none, some}
use mathlib.Core.List.{List, [], ◌∷◌, map}
use lib.ListN.{length, get_or}
use package.Rattle.rules.specs.Term.{nth}
use package.Rattle.rules.proofs.Basics.{none≢some, some_inj}

-- an element of a mapped list that is there
pub get_map : {A : Type 0} (f : ℕ → A) (l : List ℕ) (k : ℕ) (d : A) → k < length l → get_or (map f l) k d ≡ f (get_or l k 0)
get_map f [] k d h = absurd (omega arith)
get_map f (x ∷ l) zero d h = refl
get_map f (x ∷ l) (suc k) d h = get_map f l k d (omega arith)

pub nth-map : {A B : Type 0} (f : A → B) (l : List A) (g : ℕ) {x : A} → nth l g ≡ some x → nth (map f l) g ≡ some (f x)
unfolding nth
nth-map f [] g e = absurd (none≢some e)
nth-map f (y ∷ l) zero e = ap (λ x. some (f x)) (some_inj e)
nth-map f (y ∷ l) (suc g) e = nth-map f l g e

pub nth-there : (l : List ℕ) (g : ℕ) → g < length l → nth l g ≡ some (get_or l g 0)
unfolding nth
nth-there [] g h = absurd (omega arith)
nth-there (x ∷ l) zero h = refl
nth-there (x ∷ l) (suc g) h = nth-there l g (omega arith)

pub nth_none : {A : Type 0} (l : List A) (g : ℕ) → length l ≤ g → nth l g ≡ none
unfolding nth
nth_none [] g h = refl
nth_none (x ∷ l) zero h = absurd (omega arith)
nth_none (x ∷ l) (suc g) h = nth_none l g (omega arith)
