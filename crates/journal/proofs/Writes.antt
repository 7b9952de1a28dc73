-- What the writing functions put into a buffer, as one run of bytes at a place.
use Prim.Native.Nat.{ℕ, ◌+◌, ◌-◌, ◌≤◌}
use native.Mathlib.Omega.{arith}
use mathlib.Core.Path.{◌≡◌, ap, ap₂, ◌∙◌}
use mathlib.Core.List.{List, [], ◌∷◌, ◌++◌, append-nil}
use lib.ListN.{length, take, drop, set, replicate, length-set, length-drop, drop_of_length-le}
use lib.Seq.{length-take-le}
use package.Rattle.octets.specs.Numbers.{bytes16, bytes32, put16, put32}
use package.Rattle.octets.specs.Runs.{pasted}
use package.Rattle.octets.proofs.Pastes.{length-pasted, take-pasted, pasted-behind, pasted-before, set-pasted, put16-pasted, put32-pasted}
use package.Rattle.calls.specs.Journal.{entry_head, entry_bytes, Journal, field, entry_tag, fields, write_out}
use package.Rattle.calls.proofs.Journal.Fields.{length-field}
use package.Rattle.calls.specs.Fields.{field_head}

-- a tag and a length
pub put-head : (xs : List ℕ) (at tag n : ℕ) → at + field_head ≤ length xs → put16 (set xs at tag) (at + 1) n ≡ pasted xs at (tag ∷ bytes16 n)
unfolding bytes16
put-head xs at tag n h =
    put16-pasted (set xs at tag) (at + 1) n (simp length-set (omega arith))
    ∙ ap (λ s. pasted s (at + 1) (bytes16 n)) (set-pasted xs at tag (omega arith))
    ∙ pasted-behind xs at (tag ∷ []) (omega arith) (bytes16 n)

-- a body behind them
pub put-body : (xs : List ℕ) (at tag : ℕ) (body : List ℕ) → at + field_head + length body ≤ length xs
    → pasted (pasted xs at (tag ∷ bytes16 (length body))) (at + field_head) body ≡ pasted xs at (field tag body)
unfolding field bytes16
put-body xs at tag body h = pasted-behind xs at (tag ∷ bytes16 (length body)) (omega arith) body

-- a field before a run that was moved behind it
pub put-before : (xs : List ℕ) (tag : ℕ) (body block : List ℕ) → field_head + length body + length block ≤ length xs
    → pasted (pasted xs (field_head + length body) block) 0 (field tag body) ≡ pasted xs 0 (field tag body ++ block)
put-before xs tag body block h =
    ap (λ n. pasted (pasted xs n block) 0 (field tag body)) (let z : field_head + length body ≡ 0 + length (field tag body) = omega (arith, length-field tag body) in z)
    ∙ pasted-before xs 0 (field tag body) block (omega (arith, length-field tag body))

-- the parts of a conversion's field, one behind another
pub put-entry : (xs : List ℕ) (at function steps : ℕ) (anc : List ℕ) → at + entry_bytes + length anc ≤ length xs
    → pasted (put32 (put16 (pasted xs at (entry_tag ∷ bytes16 (entry_head + length anc))) (at + field_head) function) (at + 5) steps) (at + entry_bytes) anc
    ≡ pasted xs at (field entry_tag (bytes16 function ++ bytes32 steps ++ anc))
unfolding field bytes16 bytes32
put-entry xs at function steps anc h =
    let head = entry_tag ∷ bytes16 (entry_head + length anc) in
    let one : put16 (pasted xs at head) (at + field_head) function ≡ pasted xs at (head ++ bytes16 function) =
    put16-pasted (pasted xs at head) (at + field_head) function (omega (arith, length-pasted xs at head (omega arith))) ∙ pasted-behind xs at head (omega arith) (bytes16 function) in
    let two : put32 (pasted xs at (head ++ bytes16 function)) (at + 5) steps ≡ pasted xs at (head ++ bytes16 function ++ bytes32 steps) =
    put32-pasted (pasted xs at (head ++ bytes16 function)) (at + 5) steps (omega (arith, length-pasted xs at (head ++ bytes16 function) (omega arith)))
    ∙ pasted-behind xs at (head ++ bytes16 function) (omega arith) (bytes32 steps) in
    ap (λ s. pasted s (at + entry_bytes) anc) (ap (λ s. put32 s (at + 5) steps) one ∙ two)
    ∙ pasted-behind xs at (head ++ bytes16 function ++ bytes32 steps) (omega arith) anc
    ∙ ap (λ n. pasted xs at ((entry_tag ∷ bytes16 n) ++ bytes16 function ++ bytes32 steps ++ anc))
    (let z : entry_head + length anc ≡ length (bytes16 function ++ bytes32 steps ++ anc) = omega arith in z)

-- a run at the start, and another behind it
pub put_next : (xs : List ℕ) (n : ℕ) (ys zs : List ℕ) → n ≡ length ys → length ys + length zs ≤ length xs → pasted (pasted xs 0 ys) n zs ≡ pasted xs 0 (ys ++ zs)
put_next xs n ys zs e h =
    ap (λ n. pasted (pasted xs 0 ys) n zs) (let z : n ≡ 0 + length ys = omega (arith, e) in z) ∙ pasted-behind xs 0 ys (omega arith) zs

-- the fields at the start, and zeros to the end: what is written out
pub written_out : (xs : List ℕ) (ys : List ℕ) (n : ℕ) (J : Journal) → ys ≡ fields J → length (fields J) ≤ length xs → n ≡ length ys
    → take n (pasted xs 0 ys) ++ replicate (length (pasted xs 0 ys) - n) 0 ≡ write_out (length xs) J
unfolding write_out
written_out xs ys n J e h k =
    ap₂ (λ f m. f ++ replicate m 0)
    (ap (λ m. take m (pasted xs 0 ys)) (let z : n ≡ 0 + length ys = omega (arith, k) in z) ∙ take-pasted xs 0 ys (omega (arith, ap length e)) ∙ e)
    (let z : length (pasted xs 0 ys) - n ≡ length xs - length (fields J) = omega (arith, k, ap length e, length-pasted xs 0 ys (omega (arith, ap length e))) in z)

-- zeros from a place on: the part that was cleared stands there again, and nothing behind it
pub cleared_from : (xs : List ℕ) (at : ℕ) (part : List ℕ) → at ≤ length xs → part ≡ replicate (length (take (length xs - at) (drop at xs))) 0
    → take at xs ++ (part ++ drop (length xs - at) (drop at xs)) ≡ take at xs ++ replicate (length xs - at) 0
cleared_from xs at part h e =
    ap₂ (λ p r. take at xs ++ (p ++ r))
    (e ∙ ap (λ n. replicate n 0) (length-take-le (length xs - at) (drop at xs) (omega (arith, length-drop at xs))))
    (drop_of_length-le (drop at xs) {i = length xs - at} (omega (arith, length-drop at xs)))
    ∙ ap (λ r. take at xs ++ r) (append-nil (replicate (length xs - at) 0))
