-- What each number of section 4's table means, in words, by the table's rows: workspace, fields and entries (1 to 5), typing (6 to 8), the call
-- (9 to 11), the run (12 to 16), output and journal (17 to 20).
use Rattle.std.specs.Prelude.{ℕ, cond, List, eqb, ltb}
use package.Rattle.calltext.specs.Text.{text}

unfoldable pub reading_meaning : ℕ → List ℕ
reading_meaning n =
    cond (eqb n 1) (text "the workspace is too short")
    (cond (eqb n 2) (text "a field has a bad tag, kind, length or order")
    (cond (eqb n 3) (text "too many entries, parameters or bytes")
    (cond (eqb n 4) (text "a reference is absent or not lower, or a term is not used just once")
    (text "a named type is not closed, or has over 1,024 nodes"))))

unfoldable pub typing_meaning : ℕ → List ℕ
typing_meaning n =
    cond (eqb n 6) (text "types differ, arguments are too many or too few, or a type is too large")
    (cond (eqb n 7) (text "a variable is not in scope, or over 32 are")
    (text "a variable is not used as the rules of use ask"))

unfoldable pub call_meaning : ℕ → List ℕ
call_meaning n =
    cond (eqb n 9) (text "there is no such function")
    (cond (eqb n 10) (text "value bytes are malformed, over the limit or wrong in number")
    (text "a value is not of its type"))

unfoldable pub run_meaning : ℕ → List ℕ
run_meaning n =
    cond (eqb n 12) (text "the fuel is spent")
    (cond (eqb n 13) (text "the height passes 1,024")
    (cond (eqb n 14) (text "a value is over 1,024 bytes")
    (cond (eqb n 15) (text "the left branch may yield the right branch's value")
    (text "no input leads to this value"))))

unfoldable pub keeping_meaning : ℕ → List ℕ
keeping_meaning n =
    cond (eqb n 17) (text "the output is too short")
    (cond (eqb n 18) (text "the journal is malformed")
    (cond (eqb n 19) (text "no conversion stands")
    (text "64 conversions stand already, or the bytes do not fit")))

unfoldable pub meaning_of : ℕ → List ℕ
meaning_of n =
    cond (ltb n 6) (reading_meaning n)
    (cond (ltb n 9) (typing_meaning n)
    (cond (ltb n 12) (call_meaning n)
    (cond (ltb n 17) (run_meaning n)
    (keeping_meaning n))))
