-- Zeros: what the bytes of a run, joined by `or`, say of it, and a run that is cleared block by block.
use Prim.Native.Nat.{ℕ, ◌+◌, ◌-◌, ◌≤◌, ◌<◌}
use native.Mathlib.Omega.{arith}
use mathlib.Core.Path.{◌≡◌, refl, sym, ap, ap₂, ◌∙◌}
use mathlib.Core.Bool.{Bool, true, false}
use mathlib.Core.List.{List, ◌++◌, append_assoc}
use lib.ListN.{length, get_or, take, drop, replicate, length-replicate, get_or-replicate, replicate-append-replicate, length-drop, length-append}
use lib.Seq.{ext_get_or, take_at, drop_at, drop-drop, length-take-le}
use lib.Dec.{eqb}
use lib.Bits.{bit_or, or_add_and, and_le_l, and_le_r}
use borrow.Author.Count.{below_more}
use borrow.Author.Tests.{eqb-true, eqb-false}
use package.Rattle.octets.specs.Runs.{Decides}
use package.Rattle.octets.proofs.Runs.{zeroed}

-- the first `n` bytes of `xs` are zero
abbrev pub Zeros : List ℕ → ℕ → Type 0
Zeros xs n = (k : ℕ) → k < n → get_or xs k 0 ≡ 0

-- `seen` is zero exactly if the first `n` bytes are
pub record Seen (xs : List ℕ) (n seen : ℕ) : Type 0 where
  pub none : seen ≡ 0 → Zeros xs n
  pub all : Zeros xs n → seen ≡ 0

or_left : (a b : ℕ) → bit_or a b ≡ 0 → a ≡ 0
or_left a b e = omega (arith, or_add_and a b, and_le_r a b)

or_right : (a b : ℕ) → bit_or a b ≡ 0 → b ≡ 0
or_right a b e = omega (arith, or_add_and a b, and_le_l a b)

-- no byte, and one byte more
pub seen_none : (xs : List ℕ) → Seen xs 0 0
seen_none xs = record { none = λ _ k h. absurd (omega arith); all = λ _. refl }

pub seen_more : (xs : List ℕ) (n seen : ℕ) → Seen xs n seen → Seen xs (n + 1) (bit_or seen (get_or xs n 0))
seen_more xs n seen s =
    record {
      none = λ e. below_more (λ k. get_or xs k 0 ≡ 0) n (s.none (or_left seen (get_or xs n 0) e)) (or_right seen (get_or xs n 0) e);
      all = λ h. ap (λ a. bit_or a (get_or xs n 0)) (s.all (λ k l. h k (omega arith))) ∙ h n (omega arith);
    }

-- all bytes
seen_all : (xs : List ℕ) (n seen : ℕ) → length xs ≡ n → Seen xs n seen → seen ≡ 0 → xs ≡ replicate (length xs) 0
seen_all xs n seen e s z =
    ext_get_or 0 xs (replicate (length xs) 0) (sym (length-replicate (length xs) 0))
    (λ k h. s.none z k (omega arith) ∙ sym (get_or-replicate (length xs) k 0 0 h))

pub seen_decided : (xs : List ℕ) (n seen : ℕ) → length xs ≡ n → Seen xs n seen → Decides (eqb seen 0) (xs ≡ replicate (length xs) 0)
seen_decided xs n seen e s = go (eqb seen 0) refl
  where
    go : (b : Bool) → eqb seen 0 ≡ b → Decides b (xs ≡ replicate (length xs) 0)
    go true q = seen_all xs n seen e s (eqb-true seen 0 q)
    go false q = λ z. eqb-false seen 0 q (s.all (λ k h. ap (λ l. get_or l k 0) z ∙ get_or-replicate (length xs) k 0 0 (omega arith)))

-- what was decided, and holds
pub provided_true : {P : Type 0} (b : Bool) → Decides b P → b ≡ true → P
provided_true true h e = h
provided_true false h e = absurd (let z : ◌≡◌ {A = Bool} false true = e in let y : ◌≡◌ {A = ℕ} 0 1 = cc in omega arith)

-- the part from `i` to `e`, cleared
joined : (xs : List ℕ) (i k : ℕ) (fs ys rs : List ℕ) → fs ≡ replicate i 0 → ys ≡ replicate k 0 → rs ≡ drop (i + k) xs
    → fs ++ (ys ++ rs) ≡ zeroed xs (i + k)
joined xs i k fs ys rs f y r =
    ap₂ (λ a b. a ++ b) f (ap₂ (λ a b. a ++ b) y r)
    ∙ sym (append_assoc (replicate i 0) (replicate k 0) (drop (i + k) xs))
    ∙ ap (λ l. l ++ drop (i + k) xs) (replicate-append-replicate i k 0)

zeroed_rest : (xs : List ℕ) (i : ℕ) (zs : List ℕ) → zs ≡ zeroed xs i → drop i zs ≡ drop i xs
zeroed_rest xs i zs z = ap (drop i) z ∙ drop_at (replicate i 0) (drop i xs) i (length-replicate i 0)

zeroed-length : (xs : List ℕ) (e : ℕ) (zs : List ℕ) → e ≤ length xs → zs ≡ zeroed xs e → length zs ≡ length xs
zeroed-length xs e zs h z = ap length z ∙ simp (length-append, length-replicate, length-drop) (omega arith)

module _ (xs : List ℕ) (i e : ℕ) (zs ys : List ℕ) (z : zs ≡ zeroed xs i) (y : ys ≡ replicate (length (take (e - i) (drop i zs))) 0) (le : i ≤ e)
    (h : e ≤ length xs) where
  pub zeroed-part : take i zs ++ (ys ++ drop (e - i) (drop i zs)) ≡ zeroed xs e
  zeroed-part =
      joined xs i (e - i) (take i zs) ys (drop (e - i) (drop i zs))
      (ap (take i) z ∙ take_at (replicate i 0) (drop i xs) i (length-replicate i 0))
      (y ∙ ap (λ l. replicate (length (take (e - i) l)) 0) (zeroed_rest xs i zs z)
      ∙ ap (λ n. replicate n 0) (length-take-le (e - i) (drop i xs) (simp length-drop (omega arith))))
      (ap (drop (e - i)) (zeroed_rest xs i zs z) ∙ drop-drop (e - i) i xs)
      ∙ ap (zeroed xs) (let n : i + (e - i) ≡ e = omega arith in n)

  pub part_length : length (take i zs ++ (ys ++ drop (e - i) (drop i zs))) ≡ length xs
  part_length = zeroed-length xs e (take i zs ++ (ys ++ drop (e - i) (drop i zs))) h zeroed-part
