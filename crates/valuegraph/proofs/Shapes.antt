-- Laws of a value of a kind over its parts: which kind it has, how long it is, its bytes and its fingerprint.
use Prim.Native.Nat.{ℕ, zero, suc, ◌+◌, ◌<◌, ◌≤◌}
use native.Mathlib.Omega.{arith}
use mathlib.Core.Path.{◌≡◌, refl}
use mathlib.Core.Logic.{inl as left, inr as right}
use mathlib.Core.List.{◌∷◌, ◌++◌}
use package.Rattle.rules.specs.Val.{Val, unit, inl, inr, pair, roll, size, encode}
use package.Rattle.valuegraph.specs.Nodes.{of_kind, Single, unit_print, mixed, fingerprint}

-- a unit's parts mean nothing
pub unit-parts : (k : ℕ) (v w v' w' : Val) → k ≡ 0 → of_kind k v w ≡ of_kind k v' w'
unfolding of_kind
unit-parts k v w v' w' e = rw e

-- nor does a single part's second
pub single-part : (k : ℕ) (v w w' : Val) → Single k → of_kind k v w ≡ of_kind k v w'
unfolding of_kind
single-part k v w w' (left e) = rw e
single-part k v w w' (right (left e)) = rw e
single-part k v w w' (right (right e)) = rw e

----------------------------------------------------------------
-- Kinds

pub kind_of : Val → ℕ
kind_of unit = 0
kind_of (inl v) = 1
kind_of (inr v) = 2
kind_of (pair v w) = 3
kind_of (roll v) = 4

pub kind_of-of_kind : (k : ℕ) (v w : Val) → k ≤ 4 → kind_of (of_kind k v w) ≡ k
unfolding kind_of of_kind
kind_of-of_kind zero v w h = refl
kind_of-of_kind (suc zero) v w h = refl
kind_of-of_kind (suc (suc zero)) v w h = refl
kind_of-of_kind (suc (suc (suc zero))) v w h = refl
kind_of-of_kind (suc (suc (suc (suc n)))) v w h = omega arith

pub kind-single : (k : ℕ) → ¬ (k ≡ 0) → k ≤ 4 → ¬ (k ≡ 3) → Single k
kind-single zero z h t = absurd (z refl)
kind-single (suc zero) z h t = left refl
kind-single (suc (suc zero)) z h t = right (left refl)
kind-single (suc (suc (suc zero))) z h t = absurd (t refl)
kind-single (suc (suc (suc (suc zero)))) z h t = right (right refl)
kind-single (suc (suc (suc (suc (suc k))))) z h t = absurd (omega arith)

pub single-some : (k : ℕ) → Single k → ¬ (k ≡ 0)
single-some k (left e) z = omega arith
single-some k (right (left e)) z = omega arith
single-some k (right (right e)) z = omega arith

pub single-kind : (k : ℕ) → Single k → k ≤ 4
single-kind k (left e) = omega arith
single-kind k (right (left e)) = omega arith
single-kind k (right (right e)) = omega arith

----------------------------------------------------------------
-- Lengths

pub size-unit : (v w : Val) → size (of_kind 0 v w) ≡ 1
unfolding of_kind size
size-unit v w = refl

pub size-single : (k : ℕ) (v w : Val) → Single k → size (of_kind k v w) ≡ size v + 1
unfolding of_kind size
size-single k v w (left e) = rw e (omega arith)
size-single k v w (right (left e)) = rw e (omega arith)
size-single k v w (right (right e)) = rw e (omega arith)

pub size-pair : (v w : Val) → size (of_kind 3 v w) ≡ size v + size w + 1
unfolding of_kind size
size-pair v w = omega arith

----------------------------------------------------------------
-- Bytes

pub encode-single : (k : ℕ) (v w : Val) → Single k → encode (of_kind k v w) ≡ k ∷ encode v
unfolding of_kind encode
encode-single k v w (left e) = rw e
encode-single k v w (right (left e)) = rw e
encode-single k v w (right (right e)) = rw e

pub encode-pair : (v w : Val) → encode (of_kind 3 v w) ≡ 3 ∷ (encode v ++ encode w)
unfolding of_kind encode
encode-pair v w = refl

----------------------------------------------------------------
-- Fingerprints

pub print-unit : (v w : Val) → fingerprint (of_kind 0 v w) ≡ unit_print
unfolding of_kind fingerprint
print-unit v w = refl

pub print-single : (k : ℕ) (v w : Val) → Single k → fingerprint (of_kind k v w) ≡ mixed k (fingerprint v) 0
unfolding of_kind fingerprint
print-single k v w (left e) = rw e
print-single k v w (right (left e)) = rw e
print-single k v w (right (right e)) = rw e

pub print-pair : (v w : Val) → fingerprint (of_kind 3 v w) ≡ mixed 3 (fingerprint v) (fingerprint w)
unfolding of_kind fingerprint
print-pair v w = refl

mixed-byte : (k p q : ℕ) → mixed k p q < 256
unfolding mixed
mixed-byte k p q = omega arith

pub print-byte : (v : Val) → fingerprint v < 256
unfolding fingerprint unit_print
print-byte unit = omega arith
print-byte (inl v) = mixed-byte 1 (fingerprint v) 0
print-byte (inr v) = mixed-byte 2 (fingerprint v) 0
print-byte (pair v w) = mixed-byte 3 (fingerprint v) (fingerprint w)
print-byte (roll v) = mixed-byte 4 (fingerprint v) 0
