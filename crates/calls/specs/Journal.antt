-- The journal (section 5): its form (18), what it says, and how it is written out. Laws: proofs/Journal.
use Rattle.std.specs.Prelude.{ℕ, zero, suc, ◌+◌, ◌-◌, Bool, true, false, ◌&&◌, List, [], ◌∷◌, ◌++◌, length, take, drop, replicate, eqb, leb}
use Rattle.std.proofs.Math.Option.{Option, none, some}
use package.Rattle.octets.specs.Numbers.{get16, get32, bytes16, bytes32}
use package.Rattle.rules.specs.Limits.{max_conversions}
use package.Rattle.rules.specs.Val.{Val, encode}
use package.Rattle.calls.specs.Fields.{field_head}
use package.Rattle.calls.specs.Values.{value, ancillae, encode_all}

-- a standing conversion
pub record Entry : Type 0 where
  pub function : ℕ
  pub steps : ℕ
  pub ancillae : List Val

-- the held value, and the standing conversions, oldest first
pub record Journal : Type 0 where
  pub held : Val
  pub entries : List Entry

----------------------------------------------------------------
-- Writing out

-- a field: tag, two-byte length, body
unfoldable pub field : ℕ → List ℕ → List ℕ
field tag body = tag ∷ (bytes16 (length body) ++ body)

unfoldable pub held_tag : ℕ
held_tag = 0x21

unfoldable pub entry_tag : ℕ
entry_tag = 0x22

-- the bytes of an entry's body before its ancilla values
abbrev pub entry_head : ℕ
entry_head = 6

-- and of its field
abbrev pub entry_bytes : ℕ
entry_bytes = field_head + entry_head

-- function (2 bytes), steps (4), ancilla values
unfoldable pub entry_body : Entry → List ℕ
entry_body e = bytes16 e.function ++ bytes32 e.steps ++ encode_all e.ancillae

unfoldable pub entry_fields : List Entry → List ℕ
unfolding field entry_tag entry_body
entry_fields [] = []
entry_fields (e ∷ es) = field entry_tag (entry_body e) ++ entry_fields es

unfoldable pub fields : Journal → List ℕ
unfolding field held_tag entry_fields
fields J = field held_tag (encode J.held) ++ entry_fields J.entries

-- the fields, then zeros to the end of a buffer of `n` bytes
unfoldable pub write_out : ℕ → Journal → List ℕ
write_out n J = fields J ++ replicate (n - length (fields J)) 0

----------------------------------------------------------------
-- Reading back

-- goes on with what is there
infixl 20 ◌>>=◌
unfoldable pub ◌>>=◌ : {A B : Type 0} → Option A → (A → Option B) → Option B
none >>= k = none
some a >>= k = k a

unfoldable pub provided : Bool → Option (Unit {0})
provided true = some tt
provided false = none

-- a field at the start of the bytes: its body, and what stands behind it
pub record Opened : Type 0 where
  pub body : List ℕ
  pub rest : List ℕ

-- the field of this tag at the start of the bytes, if it stands there whole
unfoldable pub opened : ℕ → List ℕ → Option Opened
opened tag [] = none
opened tag (t ∷ []) = none
opened tag (t ∷ a ∷ []) = none
opened tag (t ∷ a ∷ b ∷ xs) = do
  tagged ← provided (eqb t tag)
  whole ← provided (leb (get16 (a ∷ b ∷ []) 0) (length xs))
  some (record { body = take (get16 (a ∷ b ∷ []) 0) xs; rest = drop (get16 (a ∷ b ∷ []) 0) xs })

-- the head, and whole values
unfoldable pub read_entry : List ℕ → Option Entry
read_entry xs = do
  long ← provided (leb entry_head (length xs))
  vs ← ancillae (drop entry_head xs)
  some (record { function = get16 xs 0; steps = get32 xs 2; ancillae = vs })

unfoldable pub all_zero : List ℕ → Bool
all_zero [] = true
all_zero (x ∷ xs) = eqb x 0 && all_zero xs

-- fields 22 while the next byte is not zero, then zeros to the end; `n` bounds how many fields there are
unfoldable pub read_entries : ℕ → List ℕ → Option (List Entry)
unfolding opened read_entry
read_entries zero xs = none
read_entries (suc n) [] = some []
read_entries (suc n) (zero ∷ xs) = do
  zeros ← provided (all_zero xs)
  some []
read_entries (suc n) (suc x ∷ xs) = do
  f ← opened entry_tag (suc x ∷ xs)
  e ← read_entry f.body
  es ← read_entries n f.rest
  some (e ∷ es)

-- what a buffer says, if it has the journal's form
unfoldable pub read_journal : List ℕ → Option Journal
unfolding opened read_entries
read_journal xs = do
  f ← opened held_tag xs
  v ← value f.body
  es ← read_entries (suc max_conversions) f.rest
  some (record { held = v; entries = es })
