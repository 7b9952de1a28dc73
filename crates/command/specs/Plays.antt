-- What a script's playing answered, as text: the line of a call, and how the playing ended (replay/specs/Lines, replay/specs/Playing).
use Rattle.std.specs.Prelude.{ℕ, cond, List, [], ◌++◌, get_or, eqb}
use package.Rattle.octets.specs.Numbers.{get16, get32}
use package.Rattle.calltext.specs.Text.{text}
use package.Rattle.calltext.specs.Decimal.{decimal_text}
use package.Rattle.calltext.specs.Answers.{refused_line}
use package.Rattle.replay.specs.Playing.{Reply, played, malformed, too_wide, short_answers, unopened, cut}
use package.Rattle.command.specs.Reports.{held_text, refused_report}

-- the line of the call that seven bytes answer, as a line of calls and answers has it without the journal; none where they answer none
unfoldable pub told_text : List ℕ → List ℕ
told_text line =
    cond (eqb (get_or line 0 0) 0x41) (text "ok\n")
    (cond (eqb (get_or line 0 0) 0x42) (held_text (get16 line 1) (get32 line 3))
    (cond (eqb (get_or line 0 0) 0x43) (refused_line (get16 line 1) (get32 line 3)) []))

-- the first open is refused
unfoldable pub unopened_text : ℕ → ℕ → List ℕ
unopened_text number place = text "not opened: " ++ refused_report number place

-- how the playing ended
unfoldable pub ended_text : Reply → List ℕ
ended_text (played k) = text "played " ++ decimal_text k ++ text "\n"
ended_text (malformed at) = text "malformed at " ++ decimal_text at ++ text ": no call stands there\n"
ended_text (too_wide at) = text "too wide at " ++ decimal_text at ++ text ": the call's buffer is longer than 131072 bytes\n"
ended_text short_answers = text "answers do not fit\n"
ended_text (unopened number place) = unopened_text number place
ended_text (cut at) = text "cut at " ++ decimal_text at ++ text ": the call's buffer would cut the journal's fields\n"
