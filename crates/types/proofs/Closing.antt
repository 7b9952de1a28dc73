-- Laws of a type's outermost free variable: where it stands, what puts a type for it, and how many nodes there are then.
use Prim.Native.Nat.{ℕ, zero, suc, ◌+◌, ◌*◌, ◌-◌, ◌<◌, ◌≤◌, pred, min}
use native.Mathlib.Omega.{arith}
use native.Mathlib.Nat.{mul-le-mul_right, zero-mul}
use native.Mathlib.Decide.{dec_lt}
use mathlib.Core.Path.{◌≡◌, refl, sym, ap, ap₂, ◌∙◌}
use mathlib.Core.Bool.{Bool, true, false, cond}
use lib.Dec.{eqb, ltb}
use borrow.Author.Tests.{eq-eqb, ne_eqb, lt-ltb, le-ltb}
use package.Rattle.rules.specs.Limits.{max_nodes}
use package.Rattle.rules.specs.Ty.{Ty, one, prod, sum, mu, tyvar, plug, unfold_ty, nodes}
use package.Rattle.calls.specs.Figures.{ceiling, free}
use package.Rattle.calls.proofs.Entries.{closed_iff_free, plug-closed}
use package.Rattle.types.specs.Figures.{occurs, outer, closed_by}

----------------------------------------------------------------
-- Where a variable does not stand

plug_none : (c : Ty) (n : ℕ) (a : Ty) → free a ≤ n → plug c n a ≡ a
plug_none c n a h = plug-closed c n a ((closed_iff_free n a).1 h)

occurs_none : (n : ℕ) (a : Ty) → free a ≤ n → occurs n a ≡ 0
unfolding occurs free
occurs_none n one h = refl
occurs_none n (prod a b) h = omega (arith, occurs_none n a (omega arith), occurs_none n b (omega arith))
occurs_none n (sum a b) h = omega (arith, occurs_none n a (omega arith), occurs_none n b (omega arith))
occurs_none n (mu a) h = occurs_none (suc n) a (let l : pred (free a) ≤ n = h in omega arith)
occurs_none n (tyvar m) h = ap (λ b. cond b 1 0) (ne_eqb m n λ e. omega arith)

pub closed_itself : (c a : Ty) → free a ≡ 0 → closed_by c a ≡ a
unfolding closed_by
closed_itself c a h = plug_none c (pred (free a)) a (omega arith)

----------------------------------------------------------------
-- Parts of a type

-- what is put for the outermost variable of the whole, of whose variables `n` are free
pub closed-part : (c a : Ty) (n : ℕ) → free a ≤ n → plug c (pred n) a ≡ cond (eqb (free a) n) (closed_by c a) a
unfolding closed_by
closed-part c a n h = go (dec_lt (free a) n)
  where
    go : Dec (free a < n) → plug c (pred n) a ≡ cond (eqb (free a) n) (plug c (pred (free a)) a) a
    go (yes l) = plug_none c (pred n) a (omega arith) ∙ ap (λ b. cond b (plug c (pred (free a)) a) a) (sym (ne_eqb (free a) n λ e. omega arith))
    go (no l) =
        let e : free a ≡ n = omega arith in
        ap (λ n. plug c (pred n) a) (sym e) ∙ ap (λ b. cond b (plug c (pred (free a)) a) a) (sym (eq-eqb (free a) n e))

-- how often the outermost variable of the whole stands in the part
module _ (a : Ty) (n : ℕ) where
  pub outer-part : free a ≤ n → occurs (pred n) a ≡ cond (eqb (free a) n) (outer a) 0
  unfolding outer
  outer-part h = go (dec_lt (free a) n)
    where
      go : Dec (free a < n) → occurs (pred n) a ≡ cond (eqb (free a) n) (occurs (pred (free a)) a) 0
      go (yes l) = occurs_none (pred n) a (omega arith) ∙ ap (λ b. cond b (occurs (pred (free a)) a) 0) (sym (ne_eqb (free a) n λ e. omega arith))
      go (no l) =
          let e : free a ≡ n = omega arith in
          ap (λ n. occurs (pred n) a) (sym e) ∙ ap (λ b. cond b (occurs (pred (free a)) a) 0) (sym (eq-eqb (free a) n e))

-- under a recursive type
pub closed-under : (c a : Ty) → 0 < pred (free a) → closed_by c (mu a) ≡ mu (closed_by c a)
unfolding closed_by plug free
closed-under c a h = ap (λ n. mu (plug c n a)) (let e : suc (pred (pred (free a))) ≡ pred (free a) = omega arith in e)

pub outer-under : (a : Ty) → outer (mu a) ≡ cond (ltb (free a) 2) 0 (outer a)
unfolding outer occurs free
outer-under a = go (dec_lt (free a) 2)
  where
    go : Dec (free a < 2) → occurs (suc (pred (pred (free a)))) a ≡ cond (ltb (free a) 2) 0 (occurs (pred (free a)) a)
    go (yes l) = occurs_none (suc (pred (pred (free a)))) a (omega arith) ∙ ap (λ b. cond b 0 (occurs (pred (free a)) a)) (sym (lt-ltb (free a) 2 l))
    go (no l) =
        ap (λ n. occurs n a) (let e : suc (pred (pred (free a))) ≡ pred (free a) = omega arith in e)
        ∙ ap (λ b. cond b 0 (occurs (pred (free a)) a)) (sym (le-ltb (free a) 2 (omega arith)))

pub outer-variable : (k : ℕ) → outer (tyvar k) ≡ 1
unfolding outer occurs free
outer-variable k = ap (λ b. cond b 1 0) (eq-eqb k k refl)

pub closed-variable : (c : Ty) (k : ℕ) → closed_by c (tyvar k) ≡ c
unfolding closed_by plug free
closed-variable c k = ap (λ b. cond b c (tyvar k)) (eq-eqb k k refl)

-- what a closed recursive type unfolds to
pub closed-unfolds : (a : Ty) → free (mu a) ≡ 0 → closed_by (mu a) a ≡ unfold_ty a
unfolding closed_by unfold_ty free
closed-unfolds a h = ap (λ n. plug (mu a) n a) h

----------------------------------------------------------------
-- Nodes

pub one-at-least : (a : Ty) → 1 ≤ nodes a
unfolding nodes
one-at-least one = omega arith
one-at-least (prod a b) = omega arith
one-at-least (sum a b) = omega arith
one-at-least (mu a) = omega arith
one-at-least (tyvar n) = omega arith

occurs-few : (n : ℕ) (a : Ty) → occurs n a ≤ nodes a
unfolding occurs nodes
occurs-few n one = omega arith
occurs-few n (prod a b) = omega (arith, occurs-few n a, occurs-few n b)
occurs-few n (sum a b) = omega (arith, occurs-few n a, occurs-few n b)
occurs-few n (mu a) = omega (arith, occurs-few (suc n) a)
occurs-few n (tyvar m) = go (eqb m n)
  where
    go : (b : Bool) → cond b 1 0 ≤ 1
    go true = omega arith
    go false = omega arith

-- each place of the variable has the nodes of what is put there in place of one
nodes-plug : (c : Ty) (n : ℕ) (a : Ty) → nodes (plug c n a) + occurs n a ≡ nodes a + occurs n a * nodes c
unfolding plug occurs nodes
nodes-plug c n one = omega arith
nodes-plug c n (prod a b) = omega (arith, nodes-plug c n a, nodes-plug c n b)
nodes-plug c n (sum a b) = omega (arith, nodes-plug c n a, nodes-plug c n b)
nodes-plug c n (mu a) = omega (arith, nodes-plug c (suc n) a)
nodes-plug c n (tyvar m) = go (eqb m n)
  where
    go : (b : Bool) → nodes (cond b c (tyvar m)) + cond b 1 0 ≡ 1 + cond b 1 0 * nodes c
    go true = omega arith
    go false = omega arith

-- the same by counts that stop one above the limit
module _ (c a : Ty) {n k m : ℕ} (p : n ≡ min ceiling (nodes a)) (q : k ≡ min ceiling (outer a)) (r : m ≡ min ceiling (nodes c)) where
  counted_by : (x y z w : ℕ) → n ≡ min ceiling x → k ≡ min ceiling y → m ≡ min ceiling z → y ≤ x → 1 ≤ x → 1 ≤ z → w + y ≡ x + y * z
      → min ceiling (n + k * (m - 1)) ≡ min ceiling w
  unfolding ceiling
  counted_by x zero z w p q r h l l' e =
      let none : k * (m - 1) ≡ 0 = ap (λ k. k * (m - 1)) (let k-none : k ≡ 0 = omega arith in k-none) ∙ zero-mul (m - 1) in
      omega (arith, none, let same : w + 0 ≡ x + 0 * z = e in same)
  counted_by x (suc y) zero w p q r h l l' e = absurd (omega arith)
  counted_by x (suc y) (suc z) w p q r h l l' e = go (dec_lt x ceiling) (dec_lt (suc z) ceiling)
    where
      -- the variable stands there once at least
      more : 1 * z ≤ suc y * z
      more = mul-le-mul_right z (let one_more : 1 ≤ suc y = omega arith in one_more)

      go : Dec (x < ceiling) → Dec (suc z < ceiling) → min ceiling (n + k * (m - 1)) ≡ min ceiling w
      go (no x-large) d = omega (arith, e)
      go (yes x-small) (no z-large) =
          omega (arith, e, more, ap₂ ◌*◌ (let k_is : k ≡ suc y = omega arith in k_is) (let m-is : m - 1 ≡ max_nodes = omega arith in m-is))
      go (yes x-small) (yes z-small) =
          omega (arith, e, ap₂ ◌*◌ (let k_is : k ≡ suc y = omega arith in k_is) (let m-is : m - 1 ≡ z = omega arith in m-is))

  pub closed-counted : min ceiling (n + k * (m - 1)) ≡ min ceiling (nodes (closed_by c a))
  unfolding closed_by outer
  closed-counted =
      counted_by (nodes a) (occurs (pred (free a)) a) (nodes c) (nodes (plug c (pred (free a)) a)) p q r
      (occurs-few (pred (free a)) a) (one-at-least a) (one-at-least c) (nodes-plug c (pred (free a)) a)
