-- With which numbers an answer may be refused, part by part.
use Prim.Native.Nat.{ℕ, zero, suc, ◌+◌, ◌≤◌, ◌<◌}
use native.Mathlib.Omega.{arith}
use native.Mathlib.Decide.{dec_lt}
use mathlib.Core.Path.{◌≡◌, refl, sym, subst, ◌∙◌}
use mathlib.Core.Bool.{Bool, true, false, ◌&&◌, ◌||◌, false≢true}
use mathlib.Core.Option.{Option, none, some}
use mathlib.Core.List.{List, [], ◌∷◌}
use lib.Dec.{eqb}
use package.Rattle.rules.proofs.Basics.{given, and_both, eqb-sound, eqb_yes, or_elim}
use package.Rattle.calls.specs.Answer.{Answer, accepted, refused, ◌>>=◌, require, present}
use package.Rattle.calls.specs.Named.{below, member}
use package.Rattle.calls.proofs.Entries.{below-head}

----------------------------------------------------------------
-- Lists of numbers

-- every number of the first list is in the second
unfoldable pub within : List ℕ → List ℕ → Bool
within [] ms = true
within (n ∷ ns) ms = member n ms && within ns ms

pub member-within : (n : ℕ) (ns ms : List ℕ) → within ns ms ≡ true → member n ns ≡ true → member n ms ≡ true
unfolding within member
member-within n [] ms e m = absurd (false≢true m)
member-within n (k ∷ ns) ms e m = given (and_both (member k ms) (within ns ms) e) λ (x, y).
    or_elim (eqb n k) (member n ns) (λ p. subst (λ n. member n ms ≡ true) (sym (eqb-sound n k p)) x) (member-within n ns ms y) m

pub member_below : (n most : ℕ) (ns : List ℕ) → below most ns ≡ true → member n ns ≡ true → n < most
unfolding member
member_below n most [] e m = absurd (false≢true m)
member_below n most (k ∷ ns) e m = given (below-head most k ns e) λ (l, e₁).
    or_elim (eqb n k) (member n ns) (λ p. subst (λ n. n < most) (sym (eqb-sound n k p)) l) (member_below n most ns e₁) m

-- `k` numbers from `low` on
unfoldable pub range : ℕ → ℕ → List ℕ
range low zero = []
range low (suc k) = low ∷ range (suc low) k

past : (low n : ℕ) → eqb n low ≡ false → low ≤ n → suc low ≤ n
past low n p l = by_order (dec_lt low n)
  where
    by_order : Dec (low < n) → suc low ≤ n
    by_order (yes h) = omega arith
    by_order (no h) = absurd (false≢true (sym p ∙ subst (λ k. eqb n k ≡ true) (let z : n ≡ low = omega arith in z) (eqb_yes n)))

pub in_range : (low k n : ℕ) → low ≤ n → n < low + k → member n (range low k) ≡ true
unfolding range member
in_range low zero n l h = absurd (omega arith)
in_range low (suc k) n l h = by_first (eqb n low) refl (λ l. in_range (suc low) k n l (omega arith))
  where
    by_first : (b : Bool) → eqb n low ≡ b → (suc low ≤ n → member n (range (suc low) k) ≡ true) → (b || member n (range (suc low) k)) ≡ true
    by_first true p s = refl
    by_first false p s = s (past low n p l)

----------------------------------------------------------------
-- Answers

-- accepted, or refused with a number of the list
pub data Numbered {A : Type 0} (ns : List ℕ) : Answer A → Type 0 where
  accepts : {a : A} → Numbered ns (accepted a)
  refuses : {n p : ℕ} → member n ns ≡ true → Numbered ns (refused n p)

module _ {A : Type 0} {ns : List ℕ} where
  -- what a refusal says
  pub number : {x : Answer A} {n p : ℕ} → Numbered ns x → x ≡ refused n p → member n ns ≡ true
  number h e = go (subst (Numbered ns) e h)
    where
      go : {n p : ℕ} → Numbered {A = A} ns (refused n p) → member n ns ≡ true
      go (refuses m) = m

  pub numbered-wider : {ms : List ℕ} {x : Answer A} → within ns ms ≡ true → Numbered ns x → Numbered ms x
  numbered-wider {ms} e accepts = accepts
  numbered-wider {ms} e (refuses {n} m) = refuses (member-within n ns ms e m)

  pub numbered-present : (o : Option A) (n : ℕ) → member n ns ≡ true → Numbered ns (present o n)
  unfolding present
  numbered-present none n m = refuses m
  numbered-present (some a) n m = accepts

  -- one answer or the other, by a test
  pub numbered-either : (b : Bool) {x y : Answer A} → Numbered ns x → Numbered ns y → Numbered {A = A} ns (elim b [ true ↦ x | false ↦ y ])
  numbered-either true h h' = h
  numbered-either false h h' = h'

  -- what follows may use that the first part was accepted
  pub numbered_bind : {B : Type 0} {x : Answer A} (k : A → Answer B) → Numbered ns x → ((a : A) → x ≡ accepted a → Numbered ns (k a)) → Numbered ns (x >>= k)
  unfolding ◌>>=◌
  numbered_bind k (accepts {a}) s = s a refl
  numbered_bind k (refuses m) s = refuses m

-- a test, then the rest
pub numbered-test : {B : Type 0} {ns : List ℕ} (b : Bool) (n p : ℕ) (k : Unit {0} → Answer B) → member n ns ≡ true
    → ((u : Unit {0}) → Numbered ns (k u)) → Numbered ns (require b n p >>= k)
unfolding require ◌>>=◌
numbered-test true n p k m s = s tt
numbered-test false n p k m s = refuses m
