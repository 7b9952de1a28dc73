-- Text put into the part of a buffer behind a first text.
use Prim.Native.Nat.{ℕ, ◌+◌, ◌-◌, ◌≤◌}
use native.Mathlib.Omega.{arith}
use mathlib.Core.Path.{◌≡◌, ap, ap₂, sym, ◌∙◌}
use mathlib.Core.List.{List, [], ◌++◌, append-nil, append_assoc}
use lib.ListN.{length, take, drop, length-append, length-take, length-drop, take-append-drop, drop_of_length-le}
use lib.Seq.{length-take-le, take-append-add, drop-append-add, drop-drop}
use package.Rattle.calltext.specs.Wrote.{Wrote}

-- the whole of it, where the part is what is behind the first `k` bytes
pub wrote-behind : {a b part : List ℕ} {k e : ℕ} {s t : List ℕ} → Wrote a b 0 k s → k ≤ length b
    → Wrote (take (length b - k) (drop k b)) part 0 e t
    → Wrote a (take k b ++ (part ++ drop (length b - k) (drop k b))) 0 (k + e) (s ++ t)
wrote-behind {a} {b} {part} {k} {e} {s} {t} w h v =
    let n : length (take k b) ≡ k = length-take-le k b h in
    let rest : drop (length b - k) (drop k b) ≡ [] = drop_of_length-le (drop k b) {i = length b - k} (omega (arith, length-drop k b)) in
    let whole : part ++ drop (length b - k) (drop k b) ≡ part = ap (λ r. part ++ r) rest ∙ append-nil part in
    let all : take (length b - k) (drop k b) ≡ drop k b =
    sym (append-nil (take (length b - k) (drop k b))) ∙ ap (λ r. take (length b - k) (drop k b) ++ r) (sym rest) ∙ take-append-drop (length b - k) (drop k b) in
    let left : length (take (length b - k) (drop k b)) ≡ length b - k = length-take-le (length b - k) (drop k b) (omega (arith, length-drop k b)) in
    record {
      front =
          ap₂ (λ m p. take m (take k b ++ p)) (ap (λ m. m + e) (sym n)) whole ∙ take-append-add (take k b) part e
          ∙ ap₂ (λ x y. x ++ y) w.front v.front ∙ append_assoc (take 0 a) s t;
      ends = omega (arith, w.ends, v.ends, length-append s t);
      kept = ap (λ p. length (take k b ++ p)) whole ∙ omega (arith, length-append (take k b) part, n, v.kept, left, w.kept, h);
      behind =
          ap₂ (λ m p. drop m (take k b ++ p)) (ap (λ m. m + e) (sym n)) whole ∙ drop-append-add (take k b) part e ∙ v.behind
          ∙ ap (drop e) (all ∙ w.behind) ∙ drop-drop e k a;
    }

-- text that was put at the start lies within the buffer
pub wrote-within : {a b : List ℕ} {end : ℕ} {t : List ℕ} → Wrote a b 0 end t → end ≤ length b
wrote-within {a} {b} {end} {t} w = omega (arith, ap length w.front, length-take end b, length-append (take 0 a) t, length-take 0 a, w.ends)

-- and so do both texts
pub both-within : {a b part : List ℕ} {k e : ℕ} {s t : List ℕ} → Wrote a b 0 k s → Wrote (take (length b - k) (drop k b)) part 0 e t → k + e ≤ length b
both-within {b = b} {k = k} w v =
    omega (arith, wrote-within w, wrote-within v, v.kept, length-take-le (length b - k) (drop k b) (omega (arith, length-drop k b)))
