-- What a decoded word leaves in a buffer.
use Rattle.std.specs.Prelude.{ℕ, ◌≤◌, ◌≡◌, List, length, take, Option, IfSome, option_map}
use package.Rattle.calltext.specs.Hexadecimal.{filled}

-- the bytes at the start of the buffer, if the word is any
abbrev pub decoded_of : Option ℕ → List ℕ → Option (List ℕ)
decoded_of r out = option_map (λ n. take n out) r

-- the buffer before and after, and the bytes that the word is
pub record DecodesWord (r : Option ℕ) (word before out : List ℕ) (bytes : Option (List ℕ)) : Type 0 where
  pub said : decoded_of r out ≡ bytes
  pub within : IfSome r (λ n. n ≤ length out)
  pub left : out ≡ filled word before
