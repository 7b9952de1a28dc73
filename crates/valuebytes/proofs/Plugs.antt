-- Closed types put for variables: unfolding a recursive type puts it for the nearest variable, whatever stands for the others.
use Prim.Native.Nat.{ℕ, suc, ◌-◌, ◌≤◌, ◌<◌}
use native.Mathlib.Omega.{arith}
use native.Mathlib.Decide.{dec_lt}
use mathlib.Core.Path.{◌≡◌, refl, sym, ap, ap₂, ◌∙◌}
use mathlib.Core.Bool.{true, cond}
use mathlib.Core.List.{List, [], ◌∷◌}
use lib.ListN.{get_or}
use borrow.Author.Tests.{ltb-true, lt-ltb, le-ltb, eq-eqb}
use package.Rattle.rules.specs.Ty.{Ty, one, prod, sum, mu, tyvar, plug, unfold_ty}
use package.Rattle.rules.proofs.Basics.{given, and_both, eqb_no}
use package.Rattle.calls.specs.Figures.{free}
use package.Rattle.calls.proofs.Entries.{closed_iff_free, plug-closed}
use package.Rattle.calls.specs.Tested.{closed}
use package.Rattle.valuebytes.specs.Scopes.{plugs}

----------------------------------------------------------------
-- Closed types

closed-more : (n m : ℕ) (c : Ty) → n ≤ m → closed n c ≡ true → closed m c ≡ true
closed-more n m c h e = (closed_iff_free m c).1 (let l : free c ≤ n = (closed_iff_free n c).0 e in omega arith)

-- every type of the scope is closed; past its end stands unit, which is
abbrev pub AllClosed : List Ty → Type 0
AllClosed σ = (k : ℕ) → closed 0 (get_or σ k one) ≡ true

----------------------------------------------------------------
-- One variable

module _ (σ : List Ty) (n k : ℕ) where
  plugs-low : k < n → plugs n σ (tyvar k) ≡ tyvar k
  unfolding plugs
  plugs-low h = ap (λ b. cond b (tyvar k) (get_or σ (k - n) one)) (lt-ltb k n h)

  plugs_high : n ≤ k → plugs n σ (tyvar k) ≡ get_or σ (k - n) one
  unfolding plugs
  plugs_high h = ap (λ b. cond b (tyvar k) (get_or σ (k - n) one)) (le-ltb k n h)

-- what a variable stands for
pub plugs-var : (σ : List Ty) (k : ℕ) → plugs 0 σ (tyvar k) ≡ get_or σ k one
plugs-var σ k = plugs_high σ 0 k (omega arith) ∙ ap (λ n. get_or σ n one) (let z : k - 0 ≡ k = omega arith in z)

plug-here : (c : Ty) (n k : ℕ) → k ≡ n → plug c n (tyvar k) ≡ c
unfolding plug
plug-here c n k e = ap (λ b. cond b c (tyvar k)) (eq-eqb k n e)

plug-other : (c : Ty) (n k : ℕ) → k < n → plug c n (tyvar k) ≡ tyvar k
unfolding plug
plug-other c n k h = ap (λ b. cond b c (tyvar k)) (eqb_no k n h)

module _ (σ : List Ty) (all : AllClosed σ) where
  plug-plugs-var : (c : Ty) (n k : ℕ) → plug c n (plugs (suc n) σ (tyvar k)) ≡ plugs n (c ∷ σ) (tyvar k)
  plug-plugs-var c n k = go (dec_lt k n) (dec_lt n k)
    where
      low : k < n → plug c n (plugs (suc n) σ (tyvar k)) ≡ plugs n (c ∷ σ) (tyvar k)
      low h = ap (plug c n) (plugs-low σ (suc n) k (omega arith)) ∙ plug-other c n k h ∙ sym (plugs-low (c ∷ σ) n k h)

      here : k ≡ n → plug c n (plugs (suc n) σ (tyvar k)) ≡ plugs n (c ∷ σ) (tyvar k)
      here e =
          ap (plug c n) (plugs-low σ (suc n) k (omega arith)) ∙ plug-here c n k e
          ∙ sym (plugs_high (c ∷ σ) n k (omega arith) ∙ ap (λ m. get_or (c ∷ σ) m one) (let z : k - n ≡ 0 = omega arith in z))

      high : n < k → plug c n (plugs (suc n) σ (tyvar k)) ≡ plugs n (c ∷ σ) (tyvar k)
      high h =
          ap (plug c n) (plugs_high σ (suc n) k (omega arith))
          ∙ plug-closed c n (get_or σ (k - suc n) one) (closed-more 0 n (get_or σ (k - suc n) one) (omega arith) (all (k - suc n)))
          ∙ sym (plugs_high (c ∷ σ) n k (omega arith) ∙ ap (λ m. get_or (c ∷ σ) m one) (let z : k - n ≡ suc (k - suc n) = omega arith in z))

      go : Dec (k < n) → Dec (n < k) → plug c n (plugs (suc n) σ (tyvar k)) ≡ plugs n (c ∷ σ) (tyvar k)
      go (yes h) d = low h
      go (no h) (yes l) = high l
      go (no h) (no l) = here (omega arith)

  ----------------------------------------------------------------
  -- Whole types

  -- one type more is put for the next variable
  plug-plugs : (c : Ty) (n : ℕ) (a : Ty) → plug c n (plugs (suc n) σ a) ≡ plugs n (c ∷ σ) a
  unfolding plug plugs
  plug-plugs c n one = refl
  plug-plugs c n (prod a b) = ap₂ prod (plug-plugs c n a) (plug-plugs c n b)
  plug-plugs c n (sum a b) = ap₂ sum (plug-plugs c n a) (plug-plugs c n b)
  plug-plugs c n (mu a) = ap mu (plug-plugs c (suc n) a)
  plug-plugs c n (tyvar k) = plug-plugs-var c n k

  pub unfold_plugs : (a : Ty) → unfold_ty (plugs 1 σ a) ≡ plugs 0 (mu (plugs 1 σ a) ∷ σ) a
  unfolding unfold_ty
  unfold_plugs a = plug-plugs (mu (plugs 1 σ a)) 0 a

  pub closed-plugs : (n : ℕ) (a : Ty) → closed n (plugs n σ a) ≡ true
  unfolding plugs closed
  closed-plugs n one = refl
  closed-plugs n (prod a b) = rw (closed-plugs n a, closed-plugs n b)
  closed-plugs n (sum a b) = rw (closed-plugs n a, closed-plugs n b)
  closed-plugs n (mu a) = closed-plugs (suc n) a
  closed-plugs n (tyvar k) = go (dec_lt k n)
    where
      go : Dec (k < n) → closed n (plugs n σ (tyvar k)) ≡ true
      go (yes h) = ap (closed n) (plugs-low σ n k h) ∙ lt-ltb k n h
      go (no h) = ap (closed n) (plugs_high σ n k (omega arith)) ∙ closed-more 0 n (get_or σ (k - n) one) (omega arith) (all (k - n))

-- nothing is put into a closed type
pub plugs_none : (n : ℕ) (a : Ty) → closed n a ≡ true → plugs n [] a ≡ a
unfolding plugs closed
plugs_none n one e = refl
plugs_none n (prod a b) e = given (and_both (closed n a) (closed n b) e) λ (x, y). ap₂ prod (plugs_none n a x) (plugs_none n b y)
plugs_none n (sum a b) e = given (and_both (closed n a) (closed n b) e) λ (x, y). ap₂ sum (plugs_none n a x) (plugs_none n b y)
plugs_none n (mu a) e = ap mu (plugs_none (suc n) a e)
plugs_none n (tyvar k) e = plugs-low [] n k (ltb-true k n e)
