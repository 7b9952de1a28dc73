-- The call that a line says.
use Rattle.std.specs.Prelude.{ℕ, Bool, true, false, cond, List, eqb}
use Rattle.std.specs.Prelude.{Option, Some, None}
use package.Rattle.rules.specs.Limits.{max_fuel}
use package.Rattle.calltext.specs.Text.{text, same_bytes}
use package.Rattle.calltext.specs.Words.{word_at, spaces}
use package.Rattle.calltext.specs.Decimal.{number_in}
use package.Rattle.calltext.specs.Hexadecimal.{bytes_in}
use package.Rattle.calltext.specs.declared.calls.Name.{Name}
use package.Rattle.calltext.specs.declared.calls.Name.TheVariants.{Check, Forward, Backward, Open, Convert, Rollback, Nurse, Workshop, Other}

pub record RunLine : Type 0 where
  pub backward : Bool
  pub workspace : ℕ
  pub output : ℕ
  pub fuel : ℕ
  pub function : ℕ
  pub program : List ℕ
  pub ancillae : List ℕ
  pub value : List ℕ

-- `held` is the value to be held; `journal` is the whole buffer before the call
pub record OpenLine : Type 0 where
  pub workspace : ℕ
  pub program : List ℕ
  pub held : List ℕ
  pub journal : List ℕ

pub record ConvertLine : Type 0 where
  pub workspace : ℕ
  pub fuel : ℕ
  pub function : ℕ
  pub program : List ℕ
  pub ancillae : List ℕ
  pub journal : List ℕ

pub record RollbackLine : Type 0 where
  pub workspace : ℕ
  pub fuel : ℕ
  pub program : List ℕ
  pub journal : List ℕ

-- the workshop's reader, or the nurse's
pub record ReaderLine : Type 0 where
  pub workshop : Bool
  pub output : ℕ
  pub journal : List ℕ

-- A call, or what is wrong with the line: its first word is no call's name, it has too few or too many words, or word k is no number
-- in its range, or no bytes.
pub data Line : Type 0 where
  check_line : ℕ → List ℕ → Line
  run_line : RunLine → Line
  open_line : OpenLine → Line
  convert_line : ConvertLine → Line
  rollback_line : RollbackLine → Line
  reader_line : ReaderLine → Line
  no_call : Line
  word_count : Line
  no_number : ℕ → Line
  no_bytes : ℕ → Line

unfoldable pub with_number : ℕ → Option ℕ → (ℕ → Line) → Line
with_number k None f = no_number k
with_number k (Some n) f = f n

unfoldable pub with_bytes : ℕ → Option (List ℕ) → (List ℕ → Line) → Line
with_bytes k None f = no_bytes k
with_bytes k (Some xs) f = f xs

-- A length is below a thousand millions, and a function's number has two bytes.
abbrev pub most_length : ℕ
most_length = 999999999

abbrev pub most_short : ℕ
most_short = 65535

-- the calls of three words: a length and a byte string
unfoldable pub read_pair : (ℕ → List ℕ → Line) → List ℕ → Line
unfolding with_number with_bytes
read_pair says line =
    with_number 1 (number_in most_length (word_at 1 line)) λ n.
    with_bytes 2 (bytes_in (word_at 2 line)) λ xs.
    says n xs

-- check WS PROGRAM
unfoldable pub read_check : List ℕ → Line
unfolding read_pair
read_check line = read_pair check_line line

-- nurse OUTLEN JOURNAL, and workshop the same
unfoldable pub read_reader : Bool → List ℕ → Line
unfolding read_pair
read_reader workshop line = read_pair (λ out j. reader_line record { workshop = workshop; output = out; journal = j }) line

-- forward WS OUTLEN FUEL FN PROGRAM ANCILLAE VALUE, and backward the same
unfoldable pub read_run : Bool → List ℕ → Line
unfolding with_number with_bytes
read_run backward line =
    with_number 1 (number_in most_length (word_at 1 line)) λ ws.
    with_number 2 (number_in most_length (word_at 2 line)) λ out.
    with_number 3 (number_in max_fuel (word_at 3 line)) λ fuel.
    with_number 4 (number_in most_short (word_at 4 line)) λ fn.
    with_bytes 5 (bytes_in (word_at 5 line)) λ p.
    with_bytes 6 (bytes_in (word_at 6 line)) λ anc.
    with_bytes 7 (bytes_in (word_at 7 line)) λ v.
    run_line record { backward = backward; workspace = ws; output = out; fuel = fuel; function = fn; program = p; ancillae = anc; value = v }

-- open WS PROGRAM RECORD JOURNAL
unfoldable pub read_open : List ℕ → Line
unfolding with_number with_bytes
read_open line =
    with_number 1 (number_in most_length (word_at 1 line)) λ ws.
    with_bytes 2 (bytes_in (word_at 2 line)) λ p.
    with_bytes 3 (bytes_in (word_at 3 line)) λ v.
    with_bytes 4 (bytes_in (word_at 4 line)) λ j.
    open_line record { workspace = ws; program = p; held = v; journal = j }

-- convert WS FUEL FN PROGRAM ANCILLAE JOURNAL
unfoldable pub read_convert : List ℕ → Line
unfolding with_number with_bytes
read_convert line =
    with_number 1 (number_in most_length (word_at 1 line)) λ ws.
    with_number 2 (number_in max_fuel (word_at 2 line)) λ fuel.
    with_number 3 (number_in most_short (word_at 3 line)) λ fn.
    with_bytes 4 (bytes_in (word_at 4 line)) λ p.
    with_bytes 5 (bytes_in (word_at 5 line)) λ anc.
    with_bytes 6 (bytes_in (word_at 6 line)) λ j.
    convert_line record { workspace = ws; fuel = fuel; function = fn; program = p; ancillae = anc; journal = j }

-- rollback WS FUEL PROGRAM JOURNAL
unfoldable pub read_rollback : List ℕ → Line
unfolding with_number with_bytes
read_rollback line =
    with_number 1 (number_in most_length (word_at 1 line)) λ ws.
    with_number 2 (number_in max_fuel (word_at 2 line)) λ fuel.
    with_bytes 3 (bytes_in (word_at 3 line)) λ p.
    with_bytes 4 (bytes_in (word_at 4 line)) λ j.
    rollback_line record { workspace = ws; fuel = fuel; program = p; journal = j }

-- the calls on a journal
unfoldable pub journal_name : List ℕ → Name
journal_name w =
    cond (same_bytes w (text "open")) Open
    (cond (same_bytes w (text "convert")) Convert
    (cond (same_bytes w (text "rollback")) Rollback
    (cond (same_bytes w (text "nurse")) Nurse
    (cond (same_bytes w (text "workshop")) Workshop Other))))

unfoldable pub name_of : List ℕ → Name
unfolding journal_name
name_of w =
    cond (same_bytes w (text "check")) Check
    (cond (same_bytes w (text "forward")) Forward
    (cond (same_bytes w (text "backward")) Backward (journal_name w)))

-- how many spaces a call's line has
unfoldable pub of_length : ℕ → ℕ → Line → Line
of_length n m line = cond (eqb n m) line word_count

unfoldable pub read_named : Name → List ℕ → Line
unfolding of_length read_check read_run read_open read_convert read_rollback read_reader
read_named Check line = of_length (spaces line) 2 (read_check line)
read_named Forward line = of_length (spaces line) 7 (read_run false line)
read_named Backward line = of_length (spaces line) 7 (read_run true line)
read_named Open line = of_length (spaces line) 4 (read_open line)
read_named Convert line = of_length (spaces line) 6 (read_convert line)
read_named Rollback line = of_length (spaces line) 4 (read_rollback line)
read_named Nurse line = of_length (spaces line) 2 (read_reader false line)
read_named Workshop line = of_length (spaces line) 2 (read_reader true line)
read_named Other line = no_call

unfoldable pub read_line : List ℕ → Line
unfolding name_of read_named
read_line line = read_named (name_of (word_at 0 line)) line
