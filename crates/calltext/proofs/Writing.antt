-- Text put into a buffer: one byte, and one piece behind another.
use Prim.Native.Nat.{ℕ, suc, ◌+◌, ◌≤◌, ◌<◌}
use native.Mathlib.Omega.{arith}
use mathlib.Core.Path.{◌≡◌, refl, sym, ap, subst, ◌∙◌}
use mathlib.Core.List.{List, [], ◌∷◌, ◌++◌, append_assoc}
use lib.ListN.{length, take, drop, set, length-set, length-append, length-drop}
use lib.Seq.{take-suc-set, take_at, drop_at, drop-set-lt, drop-drop, length-take-le}
use package.Rattle.octets.specs.Runs.{pasted}
use package.Rattle.calltext.specs.Wrote.{Wrote}

pub wrote-byte : (out : List ℕ) (at b : ℕ) → at < length out → Wrote out (set out at b) at (at + 1) (b ∷ [])
wrote-byte out at b h =
    record {
      front = ap (λ k. take k (set out at b)) (let z : at + 1 ≡ suc at = omega arith in z) ∙ take-suc-set out at b h;
      ends = refl;
      kept = length-set out at b;
      behind = drop-set-lt (at + 1) out at b (omega arith);
    }

pub wrote-both : {a b c : List ℕ} {i j k : ℕ} {s t : List ℕ} → Wrote a b i j s → Wrote b c j k t → Wrote a c i k (s ++ t)
wrote-both {a} {b} {c} {i} {j} {k} {s} {t} p q =
    record {
      front = q.front ∙ ap (λ l. l ++ t) p.front ∙ append_assoc (take i a) s t;
      ends = omega (arith, p.ends, q.ends, length-append s t);
      kept = q.kept ∙ p.kept;
      behind =
          q.behind ∙ ap (λ n. drop n b) q.ends ∙ sym (drop-drop (length t) j b) ∙ ap (drop (length t)) p.behind ∙ drop-drop (length t) j a
          ∙ ap (λ n. drop n a) (sym q.ends);
    }

-- the same text by another name
pub wrote_as : {a b : List ℕ} {i j : ℕ} {s t : List ℕ} → Wrote a b i j s → s ≡ t → Wrote a b i j t
wrote_as {a} {b} {i} {j} p e = subst (λ l. Wrote a b i j l) e p

-- the same end by another name
pub wrote_to : {a b : List ℕ} {i j k : ℕ} {s : List ℕ} → Wrote a b i j s → j ≡ k → Wrote a b i k s
wrote_to {a} {b} {i} {s = s} p e = subst (λ n. Wrote a b i n s) e p

-- a copy of a text
pub wrote_copy : (out : List ℕ) (at : ℕ) (s : List ℕ) → at + length s ≤ length out → Wrote out (pasted out at s) at (at + length s) s
unfolding pasted
wrote_copy out at s h =
    record {
      front =
          take_at (take at out ++ s) (drop (at + length s) out) (at + length s)
          (length-append (take at out) s ∙ ap (λ n. n + length s) (length-take-le at out (omega arith)));
      ends = refl;
      kept =
          omega
          (arith, length-append (take at out ++ s) (drop (at + length s) out), length-append (take at out) s, length-take-le at out (omega arith), length-drop (at + length s) out);
      behind =
          drop_at (take at out ++ s) (drop (at + length s) out) (at + length s)
          (length-append (take at out) s ∙ ap (λ n. n + length s) (length-take-le at out (omega arith)));
    }

-- five pieces, one behind another
pub wrote-five : {a b c d e f : List ℕ} {i j k l m n : ℕ} {s t u v w : List ℕ}
    → Wrote a b i j s → Wrote b c j k t → Wrote c d k l u → Wrote d e l m v → Wrote e f m n w → Wrote a f i n (s ++ t ++ u ++ v ++ w)
wrote-five p q r x y = wrote-both (wrote-both (wrote-both (wrote-both p q) r) x) y
