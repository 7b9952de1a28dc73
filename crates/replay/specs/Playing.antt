-- Playing a script on one program, one workspace, one journal's buffer and one buffer for the answers: its calls, parsed (Scripts), are those of
-- calls/specs/Book, up to the first whose buffer would cut the journal's fields. Laws: proofs/Played.
use Rattle.std.specs.Prelude.{ℕ, suc, ◌-◌, ◌≡◌, length, ltb}
use Rattle.std.proofs.Math.Option.{Option, none, some}
use mathlib.Core.List.{List, [], ◌∷◌}
use package.Rattle.octets.specs.Runs.{pasted}
use package.Rattle.calls.specs.Answer.{Answer, accepted, refused, cleared}
use package.Rattle.calls.specs.Conversions.{open_call}
use package.Rattle.calls.specs.Book.{Call, opens, converts, rolls_back, buffer, is_open, resized, call, call_run}
use package.Rattle.calls.specs.Claims.{last_field}
use package.Rattle.answers.specs.Answers.{number_of, place_of}
use package.Rattle.replay.specs.Scripts.{pick, Placed, calls_of, parse}
use package.Rattle.replay.specs.Lines.{line_length, lines}
use Rattle.std.specs.Prelude.{Result as Outcome, Ok, Err}
use package.Rattle.replay.specs.declared.replies.ReplayError.{ReplayError}
use package.Rattle.replay.specs.declared.replies.ReplayError.TheVariants as errors

----------------------------------------------------------------
-- Answers

-- The calls played, all of them; or why the playing did not start, or stopped.
pub data Reply : Type 0 where
  -- how many calls
  played : ℕ → Reply
  -- no call stands at this place of the script, or at its start no open
  malformed : ℕ → Reply
  -- the buffer of the call at this place is longer than the journal's
  too_wide : ℕ → Reply
  -- there is no room for the next answer
  short_answers : Reply
  -- the first open is refused, with this number and place
  unopened : ℕ → ℕ → Reply
  -- the buffer of the call at this place would cut the journal's fields; the calls before it stand played
  cut : ℕ → Reply

abbrev pub reply_of : Outcome ℕ ReplayError → Reply
reply_of (Ok k) = played k
reply_of (Err (errors.Malformed at)) = malformed at
reply_of (Err (errors.TooWide at)) = too_wide at
reply_of (Err errors.ShortAnswers) = short_answers
reply_of (Err (errors.Unopened r)) = unopened (number_of r) (place_of r)
reply_of (Err (errors.Cut at)) = cut at

----------------------------------------------------------------
-- Before a call is made

-- Why a script is not played in a journal's buffer of `width` bytes, with `room` bytes for the lines, if so: the first of these, from its
-- start on: a call with a wider buffer, a line without room, the place where the script is broken.
unfoldable pub hindrance : ℕ → ℕ → List Placed → Option ℕ → Option Reply
unfolding buffer
hindrance width room [] none = none
hindrance width room [] (some at) = some (malformed at)
hindrance width room (c ∷ cs) broken =
    pick (ltb width (buffer c.call)) (some (too_wide c.place))
    (pick (ltb room line_length) (some short_answers) (hindrance width (room - line_length) cs broken))

----------------------------------------------------------------
-- The calls behind the first open

-- those before the first whose buffer would cut the journal's fields, and that one with those behind it
pub record Split : Type 0 where
  pub made : List Placed
  pub rest : List Placed

unfoldable pub split : List ℕ → List Placed → List ℕ → Split
unfolding buffer last_field call resized
split program [] journal = record { made = []; rest = [] }
split program (c ∷ cs) journal =
    pick (ltb (buffer c.call) (last_field journal)) (record { made = []; rest = c ∷ cs })
    (let behind = split program cs (call program c.call (resized (buffer c.call) journal)).journal in
    record { made = c ∷ behind.made; rest = behind.rest })

-- `k` calls are made, and these are not
unfoldable pub reply_to : ℕ → List Placed → Reply
reply_to k [] = played k
reply_to k (c ∷ cs) = cut c.place

----------------------------------------------------------------
-- A script

-- the answer, and the buffers
pub record Result : Type 0 where
  pub reply : Reply
  pub journal : List ℕ
  pub answers : List ℕ
  pub workspace : List ℕ

abbrev pub ends : Reply → List ℕ → List ℕ → List ℕ → Result
ends r journal answers workspace = record { reply = r; journal = journal; answers = answers; workspace = workspace }

module _ (program journal answers workspace : List ℕ) where
  -- The first open's answer, and the calls `cs` behind it. If it leaves `xs` in its buffer, they are `call_run` up to a cut; in the whole buffer
  -- zeros stand behind.
  unfoldable pub opened : Answer (List ℕ) → List Placed → Result
  unfolding cleared split call_run calls_of resized pasted lines reply_to
  opened (refused n p) cs = ends (unopened n p) journal answers (cleared {A = List ℕ} (refused n p) workspace)
  opened (accepted xs) cs =
      let x = split program cs xs in
      let run = call_run program (calls_of x.made) xs in
      record {
        reply = reply_to (suc (length x.made)) x.rest;
        journal = resized (length journal) run.journal;
        answers = pasted answers 0 (lines (is_open ∷ run.answers));
        workspace = cleared (accepted xs) workspace;
      }

  -- the first call is an open
  unfoldable pub starts_with : Call → List Placed → Result
  unfolding opened open_call
  starts_with (opens v ws n) cs = opened (open_call program v ws n) cs
  starts_with (converts fn anc fuel ws n) cs = ends (malformed 0) journal answers workspace
  starts_with (rolls_back fuel ws n) cs = ends (malformed 0) journal answers workspace

  -- all calls, unless something hinders their playing: then nothing is touched
  unfoldable pub plays_unless : Option Reply → List Placed → Result
  unfolding starts_with
  plays_unless (some r) cs = ends r journal answers workspace
  plays_unless none [] = ends (malformed 0) journal answers workspace
  plays_unless none (c ∷ cs) = starts_with c.call cs

-- what playing a script answers and leaves
unfoldable pub replayed : List ℕ → List ℕ → List ℕ → List ℕ → List ℕ → Result
unfolding parse hindrance plays_unless
replayed program script journal answers workspace =
    let s = parse (length workspace) script in
    plays_unless program journal answers workspace (hindrance (length journal) (length answers) s.calls s.broken) s.calls

-- a script was played: the answer, and what the buffers are afterwards
pub record ReplayMeans (a : Outcome ℕ ReplayError) (r : Result) (journal' answers' workspace' : List ℕ) : Type 0 where
  pub answer : reply_of a ≡ r.reply
  pub kept : journal' ≡ r.journal
  pub told : answers' ≡ r.answers
  pub clear : workspace' ≡ r.workspace
