-- What reading a line leaves in the buffers: the bytes of each word that is to be bytes, as far as the reading comes.
use Rattle.std.specs.Prelude.{ℕ, ◌≡◌, Bool, true, false, cond, List, leb}
use Rattle.std.specs.Prelude.{Option, Some, None}
use package.Rattle.calltext.specs.Words.{word_at}
use package.Rattle.calltext.specs.Hexadecimal.{filled}
use package.Rattle.calltext.specs.Calls.{Line, check_line, run_line, open_line, convert_line, rollback_line, reader_line, no_call, word_count, no_number, no_bytes, name_of, read_line}
use package.Rattle.calltext.specs.declared.calls.Name.{Name}
use package.Rattle.calltext.specs.declared.calls.Name.TheVariants.{Check, Forward, Backward, Open, Convert, Rollback, Nurse, Workshop, Other}

-- The words of a line that are to be bytes, by the buffer of each: the value to be held goes where ancillae would, a journal where a value
-- would. Words count from 0, the call's name.
pub record ByteWords : Type 0 where
  pub program : Option ℕ
  pub ancillae : Option ℕ
  pub value : Option ℕ

abbrev pub words_of : Name → ByteWords
words_of Check = record { program = Some 2; ancillae = None; value = None }
words_of Forward = record { program = Some 5; ancillae = Some 6; value = Some 7 }
words_of Backward = record { program = Some 5; ancillae = Some 6; value = Some 7 }
words_of Open = record { program = Some 2; ancillae = Some 3; value = Some 4 }
words_of Convert = record { program = Some 4; ancillae = Some 5; value = Some 6 }
words_of Rollback = record { program = Some 3; ancillae = None; value = Some 4 }
words_of Nurse = record { program = None; ancillae = None; value = Some 2 }
words_of Workshop = record { program = None; ancillae = None; value = Some 2 }
words_of Other = record { program = None; ancillae = None; value = None }

-- Does the reading come to word k, which is to be bytes? All numbers stand before it, and the first word that is wrong ends the reading.
abbrev pub reads : Line → ℕ → Bool
reads (check_line ws p) k = true
reads (run_line c) k = true
reads (open_line c) k = true
reads (convert_line c) k = true
reads (rollback_line c) k = true
reads (reader_line c) k = true
reads no_call k = false
reads word_count k = false
reads (no_number n) k = false
reads (no_bytes n) k = leb k n

-- a buffer afterwards
abbrev pub left_in : Line → List ℕ → Option ℕ → List ℕ → List ℕ
left_in line text None buffer = buffer
left_in line text (Some k) buffer = cond (reads line k) (filled (word_at k text) buffer) buffer

-- the three buffers before and after
pub record LeavesBuffers (line : Line) (text : List ℕ) (words : ByteWords) (p₀ anc₀ v₀ p anc v : List ℕ) : Type 0 where
  pub program : p ≡ left_in line text words.program p₀
  pub ancillae : anc ≡ left_in line text words.ancillae anc₀
  pub value : v ≡ left_in line text words.value v₀

-- the words of a line
unfoldable pub bytes_of : List ℕ → ByteWords
bytes_of text = words_of (name_of (word_at 0 text))

-- the buffers after a line is read
unfoldable pub program_left : List ℕ → List ℕ → List ℕ
unfolding bytes_of
program_left text buffer = left_in (read_line text) text (bytes_of text).program buffer

unfoldable pub ancillae_left : List ℕ → List ℕ → List ℕ
unfolding bytes_of
ancillae_left text buffer = left_in (read_line text) text (bytes_of text).ancillae buffer

unfoldable pub value_left : List ℕ → List ℕ → List ℕ
unfolding bytes_of
value_left text buffer = left_in (read_line text) text (bytes_of text).value buffer
