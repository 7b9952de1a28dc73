-- A script that was read, played step by step as the code does: what functions below the public one promise. It is `replayed` (Playing):
-- proofs/Played. Laws: proofs/Turns, proofs/Scans, proofs/Beginnings.
use Rattle.std.specs.Prelude.{ℕ, zero, suc, ◌+◌, ◌*◌, ◌-◌, ◌≤◌, ◌≡◌, cond, List, length, take, replicate, eqb, ltb}
use Rattle.std.proofs.Math.Option.{Option, none, some}
use package.Rattle.octets.specs.Runs.{pasted}
use package.Rattle.calls.specs.Answer.{Answer, accepted, refused}
use package.Rattle.calls.specs.Conversions.{open_call}
use package.Rattle.calls.specs.Book.{Call, buffer, Told, is_open, holds, refuses, Left, resized, call}
use package.Rattle.calls.specs.Claims.{last_field}
use package.Rattle.replay.specs.Scripts.{pick, Step, End, Malformed, Play, step_at, given_of, call_of, Script, parse_from}
use package.Rattle.replay.specs.Lines.{line_length, line}
use package.Rattle.replay.specs.Playing.{Reply, played, malformed, too_wide, short_answers, unopened, cut, reply_of, hindrance, Result, ends}
use package.Rattle.replay.specs.declared.scripts.Part.{Part}
use package.Rattle.replay.specs.declared.scripts.Kind.{Kind}
use package.Rattle.replay.specs.declared.scripts.Kind.TheVariants.{Open, Convert, Rollback}
use package.Rattle.replay.specs.declared.replies.ReplayError.{ReplayError}
use Rattle.std.specs.Prelude.{Result as Outcome, Ok, Err}

-- what comes next: an end, or the call at a place
pub data Next : Type 0 where
  halts : Reply → Next
  on : ℕ → Next

abbrev pub next_of : Outcome ℕ ReplayError → Next
next_of (Err e) = halts (reply_of (Err e))
next_of (Ok at) = on at

-- what reading a script answers: why it is not played, if so
abbrev pub stop_of : Outcome ℕ ReplayError → Option Reply
stop_of (Err e) = some (reply_of (Err e))
stop_of (Ok count) = none

-- what hinders a script (`hindrance`)
abbrev pub hinders : ℕ → ℕ → Script → Option Reply
hinders width room s = hindrance width room s.calls s.broken

----------------------------------------------------------------
-- One call

-- the workspace after a call: all zero, but unchanged after refusal 1 (section 4)
unfoldable pub swept : Told → List ℕ → List ℕ
swept is_open ws = replicate (length ws) 0
swept (holds l s) ws = replicate (length ws) 0
swept (refuses n p) ws = cond (eqb n 1) ws (replicate (length ws) 0)

-- the call on the front part of the journal's buffer
unfoldable pub leaves : List ℕ → Call → List ℕ → Left
leaves program c journal = call program c (resized (buffer c) journal)

-- Is there room for the call at `at`, with a buffer of `n` bytes, in a journal's buffer of `width` bytes, and for its line in `room` bytes?
unfoldable pub room_for : ℕ → ℕ → ℕ → ℕ → ℕ → ℕ → Next
room_for n at next count width room =
    pick (ltb width n) (halts (too_wide at)) (pick (ltb room (line_length * count + line_length)) (halts short_answers) (on next))

-- Does the call's buffer leave the journal's fields whole?
unfoldable pub tested : ℕ → ℕ → ℕ → List ℕ → Next
tested n at next journal = pick (ltb n (last_field journal)) (halts (cut at)) (on next)

-- what comes next, and the buffers
pub record PlayedTurn : Type 0 where
  pub next : Next
  pub journal : List ℕ
  pub answers : List ℕ
  pub workspace : List ℕ

abbrev pub unplayed : Reply → List ℕ → List ℕ → List ℕ → PlayedTurn
unplayed r journal answers workspace = record { next = halts r; journal = journal; answers = answers; workspace = workspace }

-- the call, if it may be made, as the call number `count` from 0 on
unfoldable pub makes : Next → List ℕ → Call → ℕ → List ℕ → List ℕ → List ℕ → PlayedTurn
unfolding swept leaves line
makes (halts r) program c count journal answers workspace = unplayed r journal answers workspace
makes (on next) program c count journal answers workspace = record {
  next = on next;
  journal = resized (length journal) (leaves program c journal).journal;
  answers = pasted answers (line_length * count) (line (leaves program c journal).told);
  workspace = swept (leaves program c journal).told workspace;
}

-- what stands at a place, played
unfoldable pub turn_of : List ℕ → List ℕ → Step → ℕ → ℕ → List ℕ → List ℕ → List ℕ → PlayedTurn
unfolding makes tested call_of
turn_of program script End at count journal answers workspace = unplayed (played count) journal answers workspace
turn_of program script Malformed at count journal answers workspace = unplayed (malformed at) journal answers workspace
turn_of program script (Play p) at count journal answers workspace =
    makes (tested p.n at p.next journal) program (call_of (length workspace) script p) count journal answers workspace

----------------------------------------------------------------
-- All calls

-- The calls from a place on, `count` calls being made; `left` bounds how many there are. That all have room was tested before.
unfoldable pub play : ℕ → List ℕ → List ℕ → ℕ → ℕ → List ℕ → List ℕ → List ℕ → Result
unfolding turn_of
play zero program script at count journal answers workspace = ends (malformed at) journal answers workspace
play (suc left) program script at count journal answers workspace =
    let t = turn_of program script (step_at script at) at count journal answers workspace in
    elim t.next [
      | halts r ↦ ends r t.journal t.answers t.workspace
      | on next ↦ play left program script next (count + 1) t.journal t.answers t.workspace
    ]

----------------------------------------------------------------
-- A script

-- the calls behind the first open, which left the buffers so, if it is accepted
unfoldable pub follows : Answer (Unit {0}) → List ℕ → List ℕ → Part → List ℕ → List ℕ → List ℕ → Result
unfolding line play
follows (refused n p) program script part journal answers workspace = ends (unopened n p) journal answers workspace
follows (accepted a) program script part journal answers workspace =
    play (length script) program script part.next 1 (resized (length journal) (take part.n journal)) (pasted answers 0 (line is_open)) workspace

-- the first open, and the calls behind it
unfoldable pub opens_to : Answer (List ℕ) → List ℕ → List ℕ → ℕ → List ℕ → List ℕ → List ℕ → Result
unfolding swept line play
opens_to (refused n p) program script next journal answers workspace = ends (unopened n p) journal answers (swept (refuses n p) workspace)
opens_to (accepted xs) program script next journal answers workspace =
    play (length script) program script next 1 (resized (length journal) xs) (pasted answers 0 (line is_open)) (swept is_open workspace)

-- the first call: an open
unfoldable pub begins_as : Kind → List ℕ → List ℕ → Part → List ℕ → List ℕ → List ℕ → Result
unfolding opens_to
begins_as Open program script p journal answers workspace =
    opens_to (open_call program (given_of script p) (length workspace) p.n) program script p.next journal answers workspace
begins_as (Convert fuel function) program script p journal answers workspace = ends (malformed 0) journal answers workspace
begins_as (Rollback fuel) program script p journal answers workspace = ends (malformed 0) journal answers workspace

unfoldable pub begins : List ℕ → List ℕ → Part → List ℕ → List ℕ → List ℕ → Result
unfolding begins_as
begins program script p journal answers workspace = begins_as p.kind program script p journal answers workspace

-- what stands at the start
unfoldable pub begins_at : Step → List ℕ → List ℕ → List ℕ → List ℕ → List ℕ → Result
unfolding begins
begins_at End program script journal answers workspace = ends (malformed 0) journal answers workspace
begins_at Malformed program script journal answers workspace = ends (malformed 0) journal answers workspace
begins_at (Play p) program script journal answers workspace = begins program script p journal answers workspace

----------------------------------------------------------------
-- What the functions ask and promise

-- nothing hinders the calls from `at` on, `count` calls being made
pub record Ahead (script : List ℕ) (width room at count : ℕ) : Type 0 where
  pub inside : at ≤ length script
  pub few : count ≤ at
  pub line : line_length * count ≤ room
  pub free : hinders width (room - line_length * count) (parse_from (suc (length script) - count) 0 script at) ≡ none

-- a call was made, its line is `l`
pub record Made (program : List ℕ) (c : Call) (journal workspace l journal' workspace' : List ℕ) : Type 0 where
  pub told : l ≡ line (leaves program c journal).told
  pub kept : journal' ≡ resized (length journal) (leaves program c journal).journal
  pub clear : workspace' ≡ swept (leaves program c journal).told workspace

-- a turn was played
pub record PlayMeans (m : Outcome ℕ ReplayError) (t : PlayedTurn) (journal' answers' workspace' : List ℕ) : Type 0 where
  pub next_is : next_of m ≡ t.next
  pub kept : journal' ≡ t.journal
  pub told : answers' ≡ t.answers
  pub clear : workspace' ≡ t.workspace
