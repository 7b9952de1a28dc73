-- Laws of values: `same` decides equality, and the size is the number of bytes.
use Prim.Native.Nat.{suc}
use mathlib.Core.Path.{◌≡◌, refl, ap, ap₂}
use mathlib.Core.Bool.{true, false≢true, and-eq-true_iff}
use lib.ListN.{length, length-append}
use package.Rattle.rules.specs.Val.{Val, unit, inl, inr, pair, roll, size, encode, same}

pub same_refl : (v : Val) → same v v ≡ true
unfolding same
same_refl unit = refl
same_refl (inl v) = same_refl v
same_refl (inr v) = same_refl v
same_refl (pair v w) = rw (same_refl v, same_refl w)
same_refl (roll v) = same_refl v

pub same_eq : (v w : Val) → same v w ≡ true → v ≡ w
unfolding same
same_eq unit unit p = refl
same_eq unit (inl w) p = absurd (false≢true p)
same_eq unit (inr w) p = absurd (false≢true p)
same_eq unit (pair w w') p = absurd (false≢true p)
same_eq unit (roll w) p = absurd (false≢true p)
same_eq (inl v) unit p = absurd (false≢true p)
same_eq (inl v) (inl w) p = ap inl (same_eq v w p)
same_eq (inl v) (inr w) p = absurd (false≢true p)
same_eq (inl v) (pair w w') p = absurd (false≢true p)
same_eq (inl v) (roll w) p = absurd (false≢true p)
same_eq (inr v) unit p = absurd (false≢true p)
same_eq (inr v) (inl w) p = absurd (false≢true p)
same_eq (inr v) (inr w) p = ap inr (same_eq v w p)
same_eq (inr v) (pair w w') p = absurd (false≢true p)
same_eq (inr v) (roll w) p = absurd (false≢true p)
same_eq (pair v v') unit p = absurd (false≢true p)
same_eq (pair v v') (inl w) p = absurd (false≢true p)
same_eq (pair v v') (inr w) p = absurd (false≢true p)
same_eq (pair v v') (pair w w') p = let h = (and-eq-true_iff (same v w) (same v' w')).0 p in ap₂ pair (same_eq v w h.0) (same_eq v' w' h.1)
same_eq (pair v v') (roll w) p = absurd (false≢true p)
same_eq (roll v) unit p = absurd (false≢true p)
same_eq (roll v) (inl w) p = absurd (false≢true p)
same_eq (roll v) (inr w) p = absurd (false≢true p)
same_eq (roll v) (pair w w') p = absurd (false≢true p)
same_eq (roll v) (roll w) p = ap roll (same_eq v w p)

pub length-encode : (v : Val) → length (encode v) ≡ size v
unfolding encode size
length-encode unit = refl
length-encode (inl v) = ap suc (length-encode v)
length-encode (inr v) = ap suc (length-encode v)
length-encode (pair v w) = ap suc (rw (length-append, length-encode v, length-encode w))
length-encode (roll v) = ap suc (length-encode v)
