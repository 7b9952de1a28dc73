-- Demand 3 (section 5) of a script: what playing it leaves is what the plain book writes out and answers, fed the calls of the script that
-- were played; and where none was, journal and answers are as they were. Proof: proofs/Demand.
use Rattle.std.specs.Prelude.{ℕ, suc, ◌<◌, ◌≡◌, List, [], ◌∷◌, ◌++◌, length, replicate}
use Rattle.std.proofs.Math.Option.{none, some}
use package.Rattle.octets.specs.Runs.{pasted}
use package.Rattle.rules.specs.Val.{Val}
use package.Rattle.rules.specs.Term.{Program}
use package.Rattle.calls.specs.Answer.{accepted}
use package.Rattle.calls.specs.Load.{load}
use package.Rattle.calls.specs.Values.{value}
use package.Rattle.calls.specs.Journal.{write_out}
use package.Rattle.calls.specs.Book.{opens, buffer, is_open, journal_of, BookRun, book_run}
use package.Rattle.calls.specs.Claims.{last_field, CarriedThrough, begun}
use package.Rattle.replay.specs.Scripts.{Placed, calls_of, parse}
use package.Rattle.replay.specs.Lines.{lines}
use package.Rattle.replay.specs.Playing.{Reply, played, malformed, too_wide, short_answers, unopened, cut}

-- The call that stands at `at` is the first of `rest`, and its buffer would cut the fields of the journal as it stands.
pub record CutAt (at : ℕ) (rest : List Placed) (journal : List ℕ) : Type 0 where
  pub next : Placed
  pub behind : List Placed
  pub stands : rest ≡ next ∷ behind
  pub place : next.place ≡ at
  pub cuts : buffer next.call < last_field journal

module _ (program script journal answers workspace journal' answers' workspace' : List ℕ) where
  -- The script is an open of a journal for the program `P` with the record `first`, the calls `made`, and `rest`. It was played up to `rest`:
  -- the answers' buffer starts with the book's answers, the journal's is what the book writes out there, and the workspace is clear.
  pub record ByTheBook (Ends : List Placed → List Placed → Type 0) : Type 0 where
    pub P : Program
    pub loads : load program ≡ accepted P
    pub bytes : List ℕ
    pub n : ℕ
    pub first : Val
    pub reads : value bytes ≡ some first
    pub made : List Placed
    pub rest : List Placed
    pub stands : parse (length workspace) script
        ≡ record { calls = record { place = 0; call = opens bytes (length workspace) n } ∷ (made ++ rest); broken = none }
    pub ended : Ends made rest
    pub book : BookRun
    pub books : book ≡ book_run program P (calls_of made) (begun first)
    pub told : answers' ≡ pasted answers 0 (lines (is_open ∷ book.answers))
    pub kept : journal' ≡ write_out (length journal) (journal_of P book.book)
    pub clear : workspace' ≡ replicate (length workspace) 0
    pub carried : CarriedThrough P book.book.rows (journal_of P book.book).entries book.book.first (journal_of P book.book).held

  pub record Untouched : Type 0 where
    pub kept : journal' ≡ journal
    pub told : answers' ≡ answers
    pub clear : workspace' ≡ workspace

  -- by the answer; an open that is refused clears the workspace, but not after refusal 1 (`replayed`)
  abbrev pub Booked : Reply → Type 0
  Booked (played k) = ByTheBook λ made rest. (k ≡ suc (length made)) × (rest ≡ [])
  Booked (malformed at) = Untouched
  Booked (too_wide at) = Untouched
  Booked short_answers = Untouched
  Booked (unopened n p) = (journal' ≡ journal) × (answers' ≡ answers)
  Booked (cut at) = ByTheBook λ made rest. CutAt at rest journal'
