-- Runs: how fuel is spent, and how a run is refused (sections 2 and 4).
use Rattle.std.specs.Prelude.{ℕ, zero, suc, Bool, true, false}

-- An answer with the fuel left; a refusal with its number and its term's entry; or stuck, on a value of wrong shape. That a
-- checked program is never stuck is proved: Claims.
pub data Res (A : Type 0) : Type 0 where
  ok : A → ℕ → Res A
  stop : ℕ → ℕ → Res A
  stuck : Res A

-- a run is given fuel
abbrev pub Run : Type 0 → Type 0
Run A = ℕ → Res A

-- goes on with an answer; the first refusal met stands
unfoldable pub after : {A B : Type 0} → Res A → (A → Run B) → Res B
after (ok a f) k = k a f
after (stop n e) k = stop n e
after stuck k = stuck

infixl 20 ◌>>=◌
abbrev pub ◌>>=◌ : {A B : Type 0} → Run A → (A → Run B) → Run B
◌>>=◌ m k = λ f. after (m f) k

abbrev pub give : {A : Type 0} → A → Run A
give a = λ f. ok a f

abbrev pub refuse : {A : Type 0} → ℕ → ℕ → Run A
refuse n k = λ f. stop n k

abbrev pub lost : {A : Type 0} → Run A
lost = λ f. stuck

-- term `k` is entered: a step, or 12
unfoldable pub enter : {A : Type 0} → ℕ → Run A → Run A
enter k m zero = stop 12 k
enter k m (suc f) = m f

-- goes on if the test holds, else refusal `n` at term `k`
unfoldable pub test : {A : Type 0} → Bool → ℕ → ℕ → Run A → Run A
test true n k m = m
test false n k m = refuse n k
