-- What a parsed call says, with the bytes that it leaves in the buffers.
use Rattle.std.specs.Prelude.{ℕ, ◌≤◌, ◌≡◌, eqb, cond, List, length, take, Option, Result, Ok, Err, ok_or}
use package.Rattle.calltext.specs.Calls.{Line, check_line, run_line, open_line, convert_line, rollback_line, reader_line, no_call, word_count, no_number, no_bytes}
use package.Rattle.calltext.specs.Hexadecimal.{bytes_in}
use package.Rattle.calltext.specs.Decoded.{DecodesWord}
use package.Rattle.calltext.specs.Left.{ByteWords, LeavesBuffers}
use package.Rattle.calltext.specs.declared.calls.Call.{Call}
use package.Rattle.calltext.specs.declared.calls.Call.TheVariants.{Check, Run, Open, Convert, Rollback, Read}
use package.Rattle.calltext.specs.declared.calls.ParseError.{ParseError}
use package.Rattle.calltext.specs.declared.calls.ParseError.TheVariants.{NoCall, WordCount, NoNumber, NoBytes}

-- whether a line has as many spaces as its call
abbrev pub counts_to : ℕ → ℕ → Result (Unit {0}) ParseError
counts_to call n = cond (eqb n call) (Ok tt) (Err WordCount)

-- word k as bytes at the start of a buffer, which is left as the word's decoding leaves it
pub record DecodesArgument (r : Result ℕ ParseError) (k : ℕ) (word before out : List ℕ) : Type 0 where
  pub decoded : Option ℕ
  pub said : r ≡ ok_or decoded (NoBytes k)
  pub decodes : DecodesWord decoded word before out (bytes_in word)

-- program, ancillae and value stand at the starts of their buffers; the value to be held stands where ancillae would, a journal where a
-- value would
abbrev pub line_of : Result Call ParseError → List ℕ → List ℕ → List ℕ → Line
line_of (Ok (Check c)) p anc v = check_line c.workspace (take c.program p)
line_of (Ok (Run c)) p anc v =
    run_line
    record {
      backward = c.backward;
      workspace = c.workspace;
      output = c.output;
      fuel = c.fuel;
      function = c.function;
      program = take c.program p;
      ancillae = take c.ancillae anc;
      value = take c.value v;
    }
line_of (Ok (Open c)) p anc v =
    open_line record { workspace = c.workspace; program = take c.program p; held = take c.held anc; journal = take c.journal v }
line_of (Ok (Convert c)) p anc v =
    convert_line
    record {
      workspace = c.workspace;
      fuel = c.fuel;
      function = c.function;
      program = take c.program p;
      ancillae = take c.ancillae anc;
      journal = take c.journal v;
    }
line_of (Ok (Rollback c)) p anc v =
    rollback_line record { workspace = c.workspace; fuel = c.fuel; program = take c.program p; journal = take c.journal v }
line_of (Ok (Read c)) p anc v = reader_line record { workshop = c.workshop; output = c.output; journal = take c.journal v }
line_of (Err NoCall) p anc v = no_call
line_of (Err WordCount) p anc v = word_count
line_of (Err (NoNumber k)) p anc v = no_number k
line_of (Err (NoBytes k)) p anc v = no_bytes k

-- the bytes are within the buffers
abbrev pub Within : Result Call ParseError → List ℕ → List ℕ → List ℕ → Type 0
Within (Ok (Check c)) p anc v = c.program ≤ length p
Within (Ok (Run c)) p anc v = (c.program ≤ length p) × (c.ancillae ≤ length anc) × (c.value ≤ length v)
Within (Ok (Open c)) p anc v = (c.program ≤ length p) × (c.held ≤ length anc) × (c.journal ≤ length v)
Within (Ok (Convert c)) p anc v = (c.program ≤ length p) × (c.ancillae ≤ length anc) × (c.journal ≤ length v)
Within (Ok (Rollback c)) p anc v = (c.program ≤ length p) × (c.journal ≤ length v)
Within (Ok (Read c)) p anc v = c.journal ≤ length v
Within (Err e) p anc v = Unit {0}

-- the text that was read, its words that are to be bytes, and the buffers before and after
pub record Parses (r : Result Call ParseError) (text : List ℕ) (words : ByteWords) (p₀ anc₀ v₀ p anc v : List ℕ) (line : Line) : Type 0 where
  pub said : line_of r p anc v ≡ line
  pub within : Within r p anc v
  pub left : LeavesBuffers line text words p₀ anc₀ v₀ p anc v
