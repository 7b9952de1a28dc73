-- Values (section 1; Fig. 5 of the source, its canonical forms): how many bytes each has, which they are, and equality as a test.
-- Laws: proofs/Val.
use Rattle.std.specs.Prelude.{ℕ, suc, ◌+◌, Bool, true, false, ◌&&◌, List, [], ◌∷◌, ◌++◌}

-- Roll's type is left out, as in the bytes.
pub data Val : Type 0 where
  unit : Val
  inl inr : Val → Val
  pair : Val → Val → Val
  roll : Val → Val

-- how many bytes a value has
unfoldable pub size : Val → ℕ
size unit = 1
size (inl v) = suc (size v)
size (inr v) = suc (size v)
size (pair v w) = suc (size v + size w)
size (roll v) = suc (size v)

-- the bytes of a value: prefix order
unfoldable pub encode : Val → List ℕ
encode unit = 0 ∷ []
encode (inl v) = 1 ∷ encode v
encode (inr v) = 2 ∷ encode v
encode (pair v w) = 3 ∷ (encode v ++ encode w)
encode (roll v) = 4 ∷ encode v

-- Are two values the same?
unfoldable pub same : Val → Val → Bool
same unit w = elim w [ unit ↦ true | inl w ↦ false | inr w ↦ false | pair w w' ↦ false | roll w ↦ false ]
same (inl v) w = elim w [ unit ↦ false | inl w ↦ same v w | inr w ↦ false | pair w w' ↦ false | roll w ↦ false ]
same (inr v) w = elim w [ unit ↦ false | inl w ↦ false | inr w ↦ same v w | pair w w' ↦ false | roll w ↦ false ]
same (pair v v') w = elim w [ unit ↦ false | inl w ↦ false | inr w ↦ false | pair w w' ↦ same v w && same v' w' | roll w ↦ false ]
same (roll v) w = elim w [ unit ↦ false | inl w ↦ false | inr w ↦ false | pair w w' ↦ false | roll w ↦ same v w ]
