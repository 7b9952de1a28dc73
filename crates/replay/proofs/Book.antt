-- The calls of a script in turn, on a journal that the plain book keeps: they are `call_run` of the calls before the first that would cut the
-- journal's fields.
use Prim.Native.Nat.{ℕ, zero, suc, ◌+◌, ◌*◌, ◌-◌, ◌≤◌}
use native.Mathlib.Omega.{arith}
use mathlib.Core.Path.{◌≡◌, refl, sym, ap, ap₂, subst, ◌∙◌}
use mathlib.Core.Bool.{Bool, true, false}
use mathlib.Core.Option.{none}
use mathlib.Core.List.{List, [], ◌∷◌, ◌++◌, append-nil}
use lib.ListN.{length, take, drop, length-append, take-append-drop}
use lib.Dec.{ltb}
use borrow.Author.Tests.{ltb-true, ltb-false}
use package.Rattle.octets.specs.Runs.{pasted}
use package.Rattle.octets.specs.Numbers.{AreBytes}
use package.Rattle.rules.specs.Limits.{max_variables, max_nodes}
use package.Rattle.rules.specs.Term.{Program}
use package.Rattle.rules.specs.Typing.{WellTyped}
use package.Rattle.rules.proofs.Basics.{given}
use package.Rattle.calls.specs.Answer.{accepted}
use package.Rattle.calls.specs.Load.{load}
use package.Rattle.calls.specs.Journal.{fields, write_out}
use package.Rattle.calls.specs.Book.{buffer, Book, Left, book_turn, call, call_run, resized}
use package.Rattle.calls.specs.Claims.{Sized, last_field, Premises, Met}
use package.Rattle.calls.proofs.Book.Rows.{journal}
use package.Rattle.calls.proofs.Book.Turn.{Keeps, keeps-writable, Agrees}
use package.Rattle.calls.proofs.Book.List.{turn, resized-ready}
use package.Rattle.calls.proofs.Journal.Buffers.{resized-length, resized-written, last_field-written}
use package.Rattle.octets.proofs.Pastes.{length-pasted, pasted-behind}
use package.Rattle.replay.specs.Scripts.{pick, step_at, call_of, Placed, Script, calls_of, parse_from}
use package.Rattle.replay.specs.Lines.{line, lines}
use package.Rattle.replay.specs.Playing.{Reply, played, cut, reply_to, Split, split, Result, ends}
use package.Rattle.replay.specs.Inner.Steps.{hinders, halts, on, swept, leaves, tested, PlayedTurn, unplayed, makes, turn_of, play}
use package.Rattle.replay.specs.declared.scripts.Part.{Part}
use package.Rattle.replay.specs.Scripts.{Step}
use package.Rattle.replay.specs.Scripts as steps
use package.Rattle.replay.proofs.Parts.{small}
use package.Rattle.replay.proofs.Lines.{length-line, zeros, zeros-length, swept-zeros}
use package.Rattle.replay.proofs.Splits.{split_cuts, split_goes}
use package.Rattle.replay.proofs.Parsed.{buffer_is, sized_is, placed_at, parse-ends, parse_breaks, parse-goes, Unhindered, unhindered, unbroken}

----------------------------------------------------------------
-- Buffers

-- a run of no bytes
pasted_none : (xs : List ℕ) (at : ℕ) → pasted xs at [] ≡ xs
unfolding pasted
pasted_none xs at =
    ap₂ (λ ys i. ys ++ drop i xs) (append-nil (take at xs)) (let z : at + 0 ≡ at = omega arith in z) ∙ take-append-drop at xs

-- what is kept, in a buffer that is long enough
module _ {P : Program} {b : Book} {j : List ℕ} {ms : List Met} (K : Keeps P b j ms) (N : ℕ) (h : length j ≤ N) where
  fields_fit : length (fields (journal K.held K.entries)) ≤ N
  fields_fit = omega (arith, K.fit)

  pub kept-wide : resized N j ≡ write_out N (journal K.held K.entries)
  kept-wide = ap (resized N) K.bytes ∙ resized-written N (length j) (journal K.held K.entries) fields_fit K.fit

  pub last_is : last_field j ≡ length (fields (journal K.held K.entries))
  last_is = ap last_field K.bytes ∙ last_field-written (length j) (journal K.held K.entries) (keeps-writable K) K.fit

  pub last-wide : last_field (resized N j) ≡ length (fields (journal K.held K.entries))
  last-wide = ap last_field kept-wide ∙ last_field-written N (journal K.held K.entries) (keeps-writable K) fields_fit

  -- the call's own buffer is the same from the wide one
  narrowed : (n : ℕ) → length (fields (journal K.held K.entries)) ≤ n → resized n (resized N j) ≡ resized n j
  narrowed n l =
      ap (resized n) kept-wide ∙ resized-written n N (journal K.held K.entries) l fields_fit
      ∙ sym (ap (resized n) K.bytes ∙ resized-written n (length j) (journal K.held K.entries) l K.fit)

----------------------------------------------------------------
-- A turn, and the playing from there on

-- the turn of a call that was made and left `l`
abbrev went_to : ℕ → ℕ → Left → ℕ → List ℕ → List ℕ → PlayedTurn
went_to to N l count A W = record {
  next = on to;
  journal = resized N l.journal;
  answers = pasted A (7 * count) (line l.told);
  workspace = swept l.told W;
}

module _ (program s : List ℕ) (room at count : ℕ) (J A W : List ℕ) where
  halted-play : (r : Reply) → turn_of program s (step_at s at) at count J A W ≡ unplayed r J A W
      → play (suc room) program s at count J A W ≡ ends r J A W
  unfolding play
  halted-play r e =
      let n : (turn_of program s (step_at s at) at count J A W).next ≡ halts r = ap (λ (t : PlayedTurn). t.next) e in
      rw (n, play) (ap (λ (t : PlayedTurn). ends r t.journal t.answers t.workspace) e)

  went-play : (to : ℕ) (J' A' W' : List ℕ)
      → turn_of program s (step_at s at) at count J A W ≡ record { next = on to; journal = J'; answers = A'; workspace = W' }
      → play (suc room) program s at count J A W ≡ play room program s to (count + 1) J' A' W'
  unfolding play
  went-play to J' A' W' e =
      let n : (turn_of program s (step_at s at) at count J A W).next ≡ on to = ap (λ (t : PlayedTurn). t.next) e in
      rw (n, play) (ap (λ (t : PlayedTurn). play room program s to (count + 1) t.journal t.answers t.workspace) e)

----------------------------------------------------------------
-- All calls

module _ (program s : List ℕ) (ws N : ℕ) where
  -- The calls `x.made` were made on the journal `j` in a buffer of `N` bytes, and left `r`; `count` lines stood in the answers `A`.
  pub record Booking (count : ℕ) (A j : List ℕ) (r : Result) (x : Split) : Type 0 where
    pub premises : Premises program (calls_of x.made) j
    pub reply : r.reply ≡ reply_to (count + length x.made) x.rest
    pub kept : r.journal ≡ resized N (call_run program (calls_of x.made) j).journal
    pub short : length (call_run program (calls_of x.made) j).journal ≤ N
    pub told : r.answers ≡ pasted A (7 * count) (lines (call_run program (calls_of x.made) j).answers)
    pub within : 7 * count + length (lines (call_run program (calls_of x.made) j).answers) ≤ length A
    pub clear : r.workspace ≡ zeros ws

  none_made : (count : ℕ) (A j : List ℕ) (r : Reply) (rest : List Placed) → length j ≤ N → 7 * count ≤ length A → r ≡ reply_to (count + 0) rest
      → Booking count A j (ends r (resized N j) A (zeros ws)) (record { made = []; rest = rest })
  unfolding call_run calls_of lines
  none_made count A j r rest h l e =
      record { premises = tt; reply = e; kept = refl; short = h; told = sym (pasted_none A (7 * count)); within = omega arith; clear = refl }

  -- one call, and those behind it
  one-made : (count : ℕ) (A j : List ℕ) (c : Placed) (r : Result) (x : Split) → Sized c.call → last_field j ≤ buffer c.call
      → 7 * count + 7 ≤ length A
      → Booking (count + 1) (pasted A (7 * count) (line (call program c.call (resized (buffer c.call) j)).told))
      (call program c.call (resized (buffer c.call) j)).journal r x
      → Booking count A j r (record { made = c ∷ x.made; rest = x.rest })
  unfolding call_run calls_of lines
  one-made count A j c r x z l a B =
      let left = call program c.call (resized (buffer c.call) j) in
      let t = left.told in
      let ts = (call_run program (calls_of x.made) left.journal).answers in
      let n : length (line t) ≡ 7 = length-line t in
      let h : 7 * count + length (line t) ≤ length A = omega arith in
      let m : length (pasted A (7 * count) (line t)) ≡ length A = length-pasted A (7 * count) (line t) h in
      let w : 7 * (count + 1) + length (lines ts) ≤ length (pasted A (7 * count) (line t)) = B.within in
      let g : length (line t ++ lines ts) ≡ length (line t) + length (lines ts) = length-append (line t) (lines ts) in
      record {
        premises = (z, l, B.premises);
        reply = B.reply ∙ ap (λ k. reply_to k x.rest) (let y : count + 1 + length x.made ≡ count + suc (length x.made) = omega arith in y);
        kept = B.kept;
        short = B.short;
        told = B.told
            ∙ ap (λ i. pasted (pasted A (7 * count) (line t)) i (lines ts)) (let q : 7 * (count + 1) ≡ 7 * count + length (line t) = omega arith in q)
            ∙ pasted-behind A (7 * count) (line t) h (lines ts);
        within = omega arith;
        clear = B.clear;
      }

  module _ (P : Program) (loads : load program ≡ accepted P) (typed : WellTyped max_variables max_nodes P) (bytes : AreBytes s) where
    -- the turn at a place, and what is claimed of playing from there on
    abbrev turn_at : ℕ → ℕ → List ℕ → List ℕ → PlayedTurn
    turn_at at count A j = turn_of program s (step_at s at) at count (resized N j) A (zeros ws)

    abbrev Plays : ℕ → ℕ → ℕ → List ℕ → List ℕ → Type 0
    Plays room at count A j =
        Booking count A j (play room program s at count (resized N j) A (zeros ws)) (split program (parse_from room ws s at).calls j)

    -- where the book keeps the journal and nothing hinders the calls
    abbrev Books : ℕ → Type 0
    Books room = (at count : ℕ) (A j : List ℕ) (b : Book) (ms : List Met) → Keeps P b j ms → length j ≤ N → 7 * count ≤ length A
        → hinders N (length A - 7 * count) (parse_from room ws s at) ≡ none → Plays room at count A j

    halted-books : (room at count : ℕ) (A j : List ℕ) (r : Reply) (rest : List Placed) → length j ≤ N → 7 * count ≤ length A
        → turn_at at count A j ≡ unplayed r (resized N j) A (zeros ws) → r ≡ reply_to (count + 0) rest
        → split program (parse_from (suc room) ws s at).calls j ≡ record { made = []; rest = rest } → Plays (suc room) at count A j
    halted-books room at count A j r rest h l t e g =
        subst (λ x. Booking count A j (play (suc room) program s at count (resized N j) A (zeros ws)) x) (sym g)
        (subst (λ y. Booking count A j y (record { made = []; rest = rest }))
        (sym (halted-play program s room at count (resized N j) A (zeros ws) r t)) (none_made count A j r rest h l e))

    -- a call with room
    module _ (room at count : ℕ) (A j : List ℕ) (b : Book) (ms : List Met) (K : Keeps P b j ms) (h : length j ≤ N) (l : 7 * count ≤ length A)
        (p : Part) (q : step_at s at ≡ steps.Play p) (free : hinders N (length A - 7 * count) (parse_from (suc room) ws s at) ≡ none) where
      c : Placed
      c = placed_at at ws s p

      behind : Script
      behind = parse_from room ws s p.next

      calls_are : (parse_from (suc room) ws s at).calls ≡ c ∷ behind.calls
      unfolding c behind
      calls_are = ap (λ (x : Script). x.calls) (parse-goes ws s room at p q)

      may : Unhindered N (length A - 7 * count) (buffer c.call) behind.calls behind.broken
      unfolding c behind
      may =
          unhindered N (length A - 7 * count) (placed_at at ws s p) _ _ (sym (ap (hinders N (length A - 7 * count)) (parse-goes ws s room at p q)) ∙ free)

      same-buffer : buffer c.call ≡ p.n
      unfolding c
      same-buffer = buffer_is ws s p

      line-fits : 7 * count + 7 ≤ length A
      line-fits = omega (arith, may.line)

      -- in the wide buffer the fields end where they do in the narrow one
      same-last : last_field (resized N j) ≡ last_field j
      same-last = last-wide K N h ∙ sym (last_is K N h)

      tests : (t : Bool) → ltb (buffer c.call) (last_field j) ≡ t → tested p.n at p.next (resized N j) ≡ pick t (halts (cut at)) (on p.next)
      unfolding tested
      tests t e =
          ap₂ (λ n m. pick (ltb n m) (halts (cut at)) (on p.next)) (sym same-buffer) same-last ∙ ap (λ t. pick t (halts (cut at)) (on p.next)) e

      turn_is : (t : Bool) → ltb (buffer c.call) (last_field j) ≡ t → turn_at at count A j
          ≡ makes (pick t (halts (cut at)) (on p.next)) program (call_of (length (zeros ws)) s p) count (resized N j) A (zeros ws)
      unfolding turn_of
      turn_is t e =
          ap (λ x. turn_of program s x at count (resized N j) A (zeros ws)) q
          ∙ ap (λ m. makes m program (call_of (length (zeros ws)) s p) count (resized N j) A (zeros ws)) (tests t e)

      cut-books : ltb (buffer c.call) (last_field j) ≡ true → Plays (suc room) at count A j
      unfolding makes reply_to c
      cut-books e =
          halted-books room at count A j (cut at) (c ∷ behind.calls) h l (turn_is true e) refl
          (ap (λ cs. split program cs j) calls_are ∙ split_cuts program c behind.calls j (ltb-true _ _ e))

      -- a call that cuts nothing
      module _ (whole : ltb (buffer c.call) (last_field j) ≡ false) where
        fit : length (fields (journal K.held K.entries)) ≤ buffer c.call
        fit = omega (arith, ltb-false (buffer c.call) (last_field j) whole, last_is K N h)

        left : Left
        left = call program c.call (resized (buffer c.call) j)

        sized : Sized c.call
        unfolding c
        sized = sized_is ws s p (small s at bytes q)

        agrees : Agrees P c.call (resized (buffer c.call) j) ms left (book_turn program P c.call b)
        unfolding left
        agrees = turn program P loads typed c.call sized (resized-ready program P loads typed (buffer c.call) K fit)

        narrow : length left.journal ≤ N
        narrow = omega (arith, agrees.long, resized-length (buffer c.call) j, may.narrow)

        leaves_is : leaves program (call_of (length (zeros ws)) s p) (resized N j) ≡ left
        unfolding leaves left c
        leaves_is = ap (λ k. leaves program (call_of k s p) (resized N j)) (zeros-length ws)
            ∙ ap (call program c.call) (narrowed K N h (buffer c.call) fit)

        turned : turn_at at count A j ≡ went_to p.next N left count A (zeros ws)
        unfolding makes
        turned =
            turn_is false whole ∙ ap (λ (l : Left). went_to p.next (length (resized N j)) l count A (zeros ws)) leaves_is
            ∙ ap (λ n. went_to p.next n left count A (zeros ws)) (resized-length N j)

        -- the answers with its line
        A₁ : List ℕ
        A₁ = pasted A (7 * count) (line left.told)

        went : play (suc room) program s at count (resized N j) A (zeros ws)
            ≡ play room program s p.next (count + 1) (resized N left.journal) A₁ (zeros ws)
        unfolding A₁
        went =
            went-play program s room at count (resized N j) A (zeros ws) p.next _ _ _ turned
            ∙ ap (play room program s p.next (count + 1) (resized N left.journal) A₁) (swept-zeros left.told ws)

        long : length A₁ ≡ length A
        unfolding A₁
        long = length-pasted A (7 * count) (line left.told) (omega (arith, line-fits, length-line left.told))

        went-books : Books room → Plays (suc room) at count A j
        unfolding left behind A₁
        went-books rec =
            given (rec p.next (count + 1) A₁ left.journal _ _ agrees.keeps narrow (omega (arith, long, line-fits))
            (ap (λ r. hinders N r behind) (let z : length A₁ - 7 * (count + 1) ≡ length A - 7 * count - 7 = omega (arith, long) in z) ∙ may.behind)) λ B.
            subst (λ x. Booking count A j (play (suc room) program s at count (resized N j) A (zeros ws)) x)
            (sym (ap (λ cs. split program cs j) calls_are ∙ split_goes program c behind.calls j (ltb-false _ _ whole)))
            (subst (λ y. Booking count A j y (let x = split program behind.calls left.journal in record { made = c ∷ x.made; rest = x.rest }))
            (sym went) (one-made count A j c _ _ sized (ltb-false _ _ whole) line-fits B))

      call-books : Books room → (t : Bool) → ltb (buffer c.call) (last_field j) ≡ t → Plays (suc room) at count A j
      call-books rec true e = cut-books e
      call-books rec false e = went-books e rec

    -- by what stands at the place
    step-books : (room : ℕ) → Books room → (at count : ℕ) (A j : List ℕ) (b : Book) (ms : List Met) → Keeps P b j ms → length j ≤ N
        → 7 * count ≤ length A → hinders N (length A - 7 * count) (parse_from (suc room) ws s at) ≡ none → (x : Step) → step_at s at ≡ x
        → Plays (suc room) at count A j
    unfolding turn_of split reply_to c
    step-books room rec at count A j b ms K h l free steps.End q =
        halted-books room at count A j (played count) [] h l (ap (λ x. turn_of program s x at count (resized N j) A (zeros ws)) q)
        (ap played (let z : count ≡ count + 0 = omega arith in z)) (ap (λ (x : Script). split program x.calls j) (parse-ends ws s room at q))
    step-books room rec at count A j b ms K h l free steps.Malformed q =
        absurd (unbroken N (length A - 7 * count) at (sym (ap (hinders N (length A - 7 * count)) (parse_breaks ws s room at q)) ∙ free))
    step-books room rec at count A j b ms K h l free (steps.Play p) q =
        call-books room at count A j b ms K h l p q free rec (ltb (buffer (call_of ws s p)) (last_field j)) refl

    pub books : (room : ℕ) → Books room
    unfolding parse_from
    books zero at count A j b ms K h l free = absurd (unbroken N (length A - 7 * count) at free)
    books (suc room) at count A j b ms K h l free = step-books room (books room) at count A j b ms K h l free (step_at s at) refl
