-- Answers as lines, each with the byte that ends it.
use Rattle.std.specs.Prelude.{ℕ, List, ◌++◌}
use package.Rattle.calltext.specs.Text.{text}
use package.Rattle.calltext.specs.Decimal.{decimal_text}
use package.Rattle.calltext.specs.Hexadecimal.{hex_text}

-- bytes behind a word, with a number and without
unfoldable pub numbered_line : List ℕ → List ℕ → ℕ → List ℕ
numbered_line word xs n = word ++ hex_text xs ++ text " " ++ decimal_text n ++ text "\n"

unfoldable pub word_line : List ℕ → List ℕ → List ℕ
word_line word xs = word ++ hex_text xs ++ text "\n"

-- two numbers, with a text before, between and behind them
unfoldable pub two_numbers : List ℕ → ℕ → List ℕ → ℕ → List ℕ → List ℕ
two_numbers before m between n behind = before ++ decimal_text m ++ between ++ decimal_text n ++ behind

-- a run's value and its steps
abbrev pub value_line : List ℕ → ℕ → List ℕ
value_line value steps = numbered_line (text "value ") value steps

-- what the nurse is told: the held value, and how many conversions stand
abbrev pub seen_line : List ℕ → ℕ → List ℕ
seen_line held standing = numbered_line (text "held ") held standing

-- bytes that a call wrote
abbrev pub bytes_line : List ℕ → List ℕ
bytes_line xs = word_line (text "bytes ") xs

-- a refusal's number and its place
abbrev pub refused_line : ℕ → ℕ → List ℕ
refused_line number place = two_numbers (text "refused ") number (text " ") place (text "\n")

-- an opened journal, the whole buffer
abbrev pub opened_line : List ℕ → List ℕ
opened_line journal = word_line (text "ok ") journal

-- the held value's length and the steps, in front of the journal
abbrev pub counts_text : ℕ → ℕ → List ℕ
counts_text len steps = two_numbers (text "held ") len (text " ") steps (text " ")

unfoldable pub held_line : ℕ → ℕ → List ℕ → List ℕ
held_line len steps journal = counts_text len steps ++ hex_text journal ++ text "\n"
