-- Every call of a list, in turn: each answer is the book's, and what the book writes out is kept.
use Prim.Native.Nat.{ℕ, ◌+◌, ◌≤◌, ◌<◌}
use native.Mathlib.Omega.{arith}
use mathlib.Core.Path.{◌≡◌, refl, sym, ap, ap₂, subst, ◌∙◌}
use mathlib.Core.Bool.{true}
use mathlib.Core.Option.{none, some}
use mathlib.Core.List.{List, [], ◌∷◌, ◌++◌}
use lib.ListN.{length, length-append}
use package.Rattle.rules.specs.Limits.{max_variables, max_nodes, fits, max_fuel, max_conversions}
use package.Rattle.rules.specs.Val.{Val}
use package.Rattle.rules.specs.Term.{Program}
use package.Rattle.rules.specs.Typing.{WellTyped}
use package.Rattle.calls.specs.Claims.{Sized, last_field, Premises, last_buffer, Met, remember, standing}
use package.Rattle.calls.specs.Answer.{Answer, accepted, refused}
use package.Rattle.calls.specs.Book.{Call, opens, converts, rolls_back, buffer, refuses, Row, Book, refusal_of, refusal, or_unit, enters, turn_unless, book_turn, book_run, resized, after_turned, after_open, call, call_run}
use package.Rattle.calls.specs.Conversions.{Turned, newest, open_call, convert_call, rollback_call}
use package.Rattle.calls.specs.Journal.{Entry, fields, write_out}
use package.Rattle.calls.specs.Load.{load}
use package.Rattle.calls.specs.Values.{value}
use package.Rattle.calls.proofs.Book.Calls.{open_says, convert_says, Returns, rollback_says}
use package.Rattle.calls.proofs.Book.Rows.{entry_of, journal, Standing, empty, next, standing-journal}
use package.Rattle.calls.proofs.Book.Turn.{Keeps, keeps-writable, Agrees, written_keeps, Ready, ready-length, ready-reads, ready-keeps, convert_agrees, rollback_agrees}
use package.Rattle.calls.proofs.Journal.Buffers.{length-write_out, resized-length, resized-written, last_field-written}
use package.Rattle.calls.proofs.Values.{value-sound}
use package.Rattle.rules.proofs.Basics.{given, none≢some}

-- a refusal strikes and adds no conversion
refusal_remembers : (c : Call) (ys : List ℕ) (m p : ℕ) (ms : List Met) → remember c ys (refuses m p) ms ≡ ms
unfolding remember
refusal_remembers (opens v ws n) ys m p ms = refl
refusal_remembers (converts fn anc fuel ws n) ys m p ms = refl
refusal_remembers (rolls_back fuel ws n) ys m p ms = refl

abbrev book_of : Val → List Row → Book
book_of origin rows = record { first = origin; rows = rows }

module _ (program : List ℕ) (P : Program) (loads : load program ≡ accepted P) (typed : WellTyped max_variables max_nodes P) where
  ----------------------------------------------------------------
  -- One call, by its answer

  -- a call that section 4 refuses changes nothing
  refused-agrees : {origin : Val} {rows : List Row} {es : List Entry} {held : Val} {ms : List Met} {n : ℕ} {ys : List ℕ} (c : Call) (m p : ℕ)
      → Ready program P loads typed origin rows es held ms n ys
      → Agrees P c ys ms (record { journal = ys; told = refuses m p }) (turn_unless (some (refuses m p)) P c (book_of origin rows))
  unfolding turn_unless
  refused-agrees {origin} {rows} {ms = ms} {ys = ys} c m p R =
      record { told = refl; keeps = subst (Keeps P (book_of origin rows) ys) (sym (refusal_remembers c ys m p ms)) (ready-keeps program P loads typed R); long = refl }

  open_turn : {origin : Val} {rows : List Row} {es : List Entry} {held : Val} {ms : List Met} {n : ℕ} {ys : List ℕ} (ws : ℕ) (v : List ℕ)
      → Ready program P loads typed origin rows es held ms n ys → (x : Answer (List ℕ)) → open_call program v ws n ≡ x
      → Agrees P (opens v ws n) ys ms (after_open ys x) (turn_unless (refusal_of x) P (opens v ws n) (book_of origin rows))
  unfolding after_open turn_unless refusal_of enters remember
  open_turn {n = n} ws v R (refused m p) e = refused-agrees (opens v ws n) m p R
  open_turn {n = n} ws v R (accepted xs) e =
      given (open_says ws program v n e) λ (P', u, lp, vr, l, x).
      record {
        told = refl;
        keeps = subst (λ xs. Keeps P (book_of (or_unit (value v)) []) xs []) x
            (subst (λ o. Keeps P (book_of (or_unit o) []) (write_out n (journal u [])) []) (sym vr) (opened u l (value-sound v vr).1));
        long = ap length (sym x) ∙ length-write_out n (journal u []) l ∙ sym (ready-length program P loads typed R);
      }
    where
      opened : (u : Val) → length (fields (journal u [])) ≤ n → fits u ≡ true → Keeps P (book_of (or_unit (some u)) []) (write_out n (journal u [])) []
      opened u l f = written_keeps [] u n empty l f (omega arith)

  convert_turn : {origin : Val} {rows : List Row} {es : List Entry} {held : Val} {ms : List Met} {n : ℕ} {ys : List ℕ} (ws fuel fn : ℕ) (anc : List ℕ)
      → Ready program P loads typed origin rows es held ms n ys → fuel ≤ max_fuel → fn < 65536 → (x : Answer Turned) → convert_call program fn anc fuel ws ys ≡ x
      → Agrees P (converts fn anc fuel ws n) ys ms (after_turned ys x) (turn_unless (refusal_of x) P (converts fn anc fuel ws n) (book_of origin rows))
  unfolding refusal_of after_turned
  convert_turn {n = n} ws fuel fn anc R lf ln (refused m p) e = refused-agrees (converts fn anc fuel ws n) m p R
  convert_turn {ys = ys} ws fuel fn anc R lf ln (accepted t) e =
      convert_agrees program P loads typed R ws fuel fn anc lf ln t (convert_says ws fuel fn program anc ys loads (ready-reads program P loads typed R) e)

  -- an accepted rollback, by the rows that stand
  returns_agree : {origin : Val} {rows : List Row} {es : List Entry} {held : Val} {ms : List Met} (n : ℕ) (ys : List ℕ) (ws fuel : ℕ) (t : Turned)
      → Standing P origin rows es held ms → length es ≤ max_conversions → Returns P (journal held es) (length ys) fuel t
      → Agrees P (rolls_back fuel ws n) ys ms (after_turned ys (accepted t)) (turn_unless none P (rolls_back fuel ws n) (book_of origin rows))
  unfolding newest
  returns_agree n ys ws fuel t empty few B = absurd (none≢some B.stands)
  returns_agree n ys ws fuel t (next {es = es} row w m k S R) few B =
      rollback_agrees program P loads typed n ys row ws fuel t S R
      (let z : length (es ++ (entry_of row m ∷ [])) ≡ length es + 1 = length-append es _ in omega arith) B

  rollback_turn : {origin : Val} {rows : List Row} {es : List Entry} {held : Val} {ms : List Met} {n : ℕ} {ys : List ℕ} (ws fuel : ℕ)
      → Ready program P loads typed origin rows es held ms n ys → (x : Answer Turned) → rollback_call program fuel ws ys ≡ x
      → Agrees P (rolls_back fuel ws n) ys ms (after_turned ys x) (turn_unless (refusal_of x) P (rolls_back fuel ws n) (book_of origin rows))
  unfolding refusal_of after_turned
  rollback_turn {n = n} ws fuel R (refused m p) e = refused-agrees (rolls_back fuel ws n) m p R
  rollback_turn {n = n} {ys} ws fuel R (accepted t) e =
      returns_agree n ys ws fuel t R.standing R.few (rollback_says ws fuel program ys loads (ready-reads program P loads typed R) e)

  ----------------------------------------------------------------
  -- One turn

  pub turn : {origin : Val} {rows : List Row} {es : List Entry} {held : Val} {ms : List Met} {ys : List ℕ} (c : Call) → Sized c
      → Ready program P loads typed origin rows es held ms (buffer c) ys
      → Agrees P c ys ms (call program c ys) (book_turn program P c (book_of origin rows))
  unfolding call book_turn refusal buffer
  turn (opens v ws n) sz R = open_turn ws v R (open_call program v ws n) refl
  turn {origin} {rows} {ms = ms} {ys} (converts fn anc fuel ws n) (lf, ln) R =
      subst (λ zs. Agrees P (converts fn anc fuel ws n) ys ms (after_turned ys (convert_call program fn anc fuel ws ys))
      (turn_unless (refusal_of (convert_call program fn anc fuel ws zs)) P (converts fn anc fuel ws n) (book_of origin rows)))
      (R.bytes ∙ ap (write_out n) (sym (standing-journal R.standing)))
      (convert_turn ws fuel fn anc R lf ln (convert_call program fn anc fuel ws ys) refl)
  turn {origin} {rows} {ms = ms} {ys} (rolls_back fuel ws n) lf R =
      subst (λ zs. Agrees P (rolls_back fuel ws n) ys ms (after_turned ys (rollback_call program fuel ws ys))
      (turn_unless (refusal_of (rollback_call program fuel ws zs)) P (rolls_back fuel ws n) (book_of origin rows)))
      (R.bytes ∙ ap (write_out n) (sym (standing-journal R.standing)))
      (rollback_turn ws fuel R (rollback_call program fuel ws ys) refl)

  ----------------------------------------------------------------
  -- A list of calls

  -- what is kept, in a call's own buffer
  pub resized-ready : {b : Book} {xs : List ℕ} {ms : List Met} (n : ℕ) (K : Keeps P b xs ms) → length (fields (journal K.held K.entries)) ≤ n
      → Ready program P loads typed b.first b.rows K.entries K.held ms n (resized n xs)
  resized-ready {xs = xs} n K l = record {
    standing = K.rows;
    bytes = ap (resized n) K.bytes ∙ resized-written n (length xs) (journal K.held K.entries) l K.fit;
    fit = l;
    held_fits = K.held_fits;
    few = K.few;
  }

  last-field : {b : Book} {xs : List ℕ} {ms : List Met} (K : Keeps P b xs ms) → last_field xs ≡ length (fields (journal K.held K.entries))
  last-field {xs = xs} K = ap last_field K.bytes ∙ last_field-written (length xs) (journal K.held K.entries) (keeps-writable K) K.fit

  pub runs : (cs : List Call) (b : Book) (xs : List ℕ) (ms : List Met) → Keeps P b xs ms → Premises program cs xs
      → ((call_run program cs xs).answers ≡ (book_run program P cs b).answers)
      × Keeps P (book_run program P cs b).book (call_run program cs xs).journal (standing program cs xs ms)
      × (length (call_run program cs xs).journal ≡ last_buffer (length xs) cs)
  unfolding call_run book_run standing last_buffer
  runs [] b xs ms K h = (refl, K, refl)
  runs (c ∷ cs) b xs ms K (sz, l, h) =
      given (turn c sz (resized-ready (buffer c) K (let z : last_field xs ≡ length (fields (journal K.held K.entries)) = last-field K in omega arith))) λ A.
      given (runs cs _ _ _ A.keeps h) λ (as', K', n').
      (ap₂ ◌∷◌ A.told as', K', n' ∙ ap (λ n. last_buffer n cs) (A.long ∙ resized-length (buffer c) xs))
