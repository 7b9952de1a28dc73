-- A text's bytes.
use Rattle.std.specs.Prelude.{ℕ, Bool, List, [] as nil, ◌∷◌ as ◌then◌, bytes_eq}
use Prim.Native.Char.{code}
use Prim.Native.String.{String, [], ◌∷◌}

-- the codes of a text's characters: of an ASCII text, its bytes
abbrev pub text : String → List ℕ
text [] = nil
text (c ∷ rest) = code c then text rest

-- are the bytes the same?
abbrev pub same_bytes : List ℕ → List ℕ → Bool
same_bytes = bytes_eq
