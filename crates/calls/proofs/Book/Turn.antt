-- One turn: a call on the bytes that the book writes out is answered as the book answers, and leaves what the book then writes out.
use Prim.Native.Nat.{ℕ, ◌+◌, ◌≤◌, ◌<◌}
use native.Mathlib.Omega.{arith}
use mathlib.Core.Path.{◌≡◌, sym, ap, ap₂, subst, ◌∙◌}
use mathlib.Core.Bool.{true}
use mathlib.Core.Option.{Option, none, some}
use mathlib.Core.List.{List, [], ◌∷◌, ◌++◌}
use lib.ListN.{length, length-append}
use package.Rattle.rules.specs.Limits.{max_variables, max_nodes, max_ancilla_bytes, fits, max_height, max_fuel, max_conversions}
use package.Rattle.rules.specs.Val.{Val, size}
use package.Rattle.rules.specs.Ty.{HasTy, HasTys}
use package.Rattle.rules.specs.Term.{Fun, Program, nth}
use package.Rattle.rules.specs.Typing.{WellTyped}
use package.Rattle.rules.specs.Run.{ok}
use package.Rattle.rules.specs.Machine.{run_backward}
use package.Rattle.calls.specs.Claims.{Met, remember}
use package.Rattle.rules.specs.Claims.{Carries}
use package.Rattle.calls.specs.Answer.{accepted}
use package.Rattle.calls.specs.Book.{Call, converts, rolls_back, holds, Row, Book, carry, through, BookTurn, or_none, or_empty, enters, turn_unless, Left, after_turned}
use package.Rattle.calls.specs.Conversions.{Turned, Last, Newest}
use package.Rattle.calls.specs.Journal.{Entry, fields, write_out, read_journal}
use package.Rattle.calls.specs.Load.{load}
use package.Rattle.calls.specs.Runs.{Ran}
use package.Rattle.calls.proofs.Runs.Parts.{Admits}
use package.Rattle.calls.proofs.Book.Calls.{turned_to, Converts, Returns}
use package.Rattle.calls.proofs.Book.Rows.{entry_of, newest_snoc, journal, Passed, Standing, next, answered, carry-ran, standing-held, standing-writable}
use package.Rattle.calls.proofs.Journal.Buffers.{Writable, read-written, length-write_out}
use package.Rattle.calls.proofs.Values.{ancillae-sound}
use package.Rattle.rules.proofs.Backward.Outcome.{fits-of}
use package.Rattle.rules.proofs.Basics.{given, some_inj}
use package.Rattle.rules.proofs.Theorems.{tree-forward_iff_rules, keeps-types, tree-backward_iff_forward, tree-injective}
use package.Rattle.rules.proofs.Typing.ToDirected.{directed}

----------------------------------------------------------------
-- What is kept from call to call

-- The bytes `xs` are what book `b` writes out; `ms` is what its conversions met.
pub record Keeps (P : Program) (b : Book) (xs : List ℕ) (ms : List Met) : Type 0 where
  pub entries : List Entry
  pub held : Val
  pub rows : Standing P b.first b.rows entries held ms
  pub bytes : xs ≡ write_out (length xs) (journal held entries)
  pub fit : length (fields (journal held entries)) ≤ length xs
  pub held_fits : fits held ≡ true
  pub few : length entries ≤ max_conversions

pub keeps-writable : {P : Program} {b : Book} {xs : List ℕ} {ms : List Met} (K : Keeps P b xs ms) → Writable (journal K.held K.entries)
keeps-writable K = record { held_fits = K.held_fits; entries_writable = standing-writable K.rows; entries_few = K.few }

-- a call's answer and the book's turn agree
pub record Agrees (P : Program) (c : Call) (ys : List ℕ) (ms : List Met) (l : Left) (t : BookTurn) : Type 0 where
  pub told : l.told ≡ t.told
  pub keeps : Keeps P t.book l.journal (remember c ys l.told ms)
  pub long : length l.journal ≡ length ys

-- what is written out in a buffer that it fits
pub written_keeps : {P : Program} {b : Book} {ms : List Met} (es : List Entry) (v : Val) (n : ℕ) → Standing P b.first b.rows es v ms
    → length (fields (journal v es)) ≤ n → fits v ≡ true → length es ≤ max_conversions → Keeps P b (write_out n (journal v es)) ms
written_keeps es v n S l f w = record {
  entries = es;
  held = v;
  rows = S;
  bytes = ap (λ k. write_out k (journal v es)) (sym (length-write_out n (journal v es) l));
  fit = subst (λ k. length (fields (journal v es)) ≤ k) (sym (length-write_out n (journal v es) l)) l;
  held_fits = f;
  few = w;
}

module _ (program : List ℕ) (P : Program) (loads : load program ≡ accepted P) (typed : WellTyped max_variables max_nodes P) where
  -- what a turn starts from: the book's rows, and a buffer `ys` of `n` bytes that holds what it writes out
  pub record Ready (origin : Val) (rows : List Row) (es : List Entry) (held : Val) (ms : List Met) (n : ℕ) (ys : List ℕ) : Type 0 where
    pub standing : Standing P origin rows es held ms
    pub bytes : ys ≡ write_out n (journal held es)
    pub fit : length (fields (journal held es)) ≤ n
    pub held_fits : fits held ≡ true
    pub few : length es ≤ max_conversions

  module _ {origin : Val} {rows : List Row} {es : List Entry} {held : Val} {ms : List Met} {n : ℕ} {ys : List ℕ} (R : Ready origin rows es held ms n ys) where
    pub ready-length : length ys ≡ n
    ready-length = ap length R.bytes ∙ length-write_out n (journal held es) R.fit

    pub ready-reads : read_journal ys ≡ some (journal held es)
    ready-reads = ap read_journal R.bytes
        ∙ read-written n (journal held es) (record { held_fits = R.held_fits; entries_writable = standing-writable R.standing; entries_few = R.few }) R.fit

    -- a call that is refused leaves book and buffer as they are
    pub ready-keeps : Keeps P (record { first = origin; rows = rows }) ys ms
    ready-keeps = subst (λ xs. Keeps P (record { first = origin; rows = rows }) xs ms) (sym R.bytes)
        (written_keeps es held n R.standing R.fit R.held_fits R.few)

  ----------------------------------------------------------------
  -- Convert

  module _ {origin : Val} {rows : List Row} {es : List Entry} {held : Val} {ms : List Met} {n : ℕ} {ys : List ℕ} (R : Ready origin rows es held ms n ys)
      (ws fuel fn : ℕ) (anc : List ℕ) (fuel-small : fuel ≤ max_fuel) (fn-small : fn < 65536) (t : Turned)
      (C : Converts P (journal held es) (length ys) fuel fn anc t) where
    abbrev row : Row
    row = record { function = fn; ancillae = C.given.ancillae }

    value_is : C.given.value ≡ held
    value_is = sym (some_inj C.row.value_read)

    passed : Passed P row es held C.ran.value C.ran.steps n
    passed =
        given ((tree-forward_iff_rules P fits max_height C.given.fun C.given.ancillae C.given.value C.ran.value fuel C.left).0 C.runs) λ (m, d, e).
        given (let z : m ≡ C.ran.steps = omega (arith, C.steps) in z) λ m-is.
        given (ancillae-sound anc C.row.ancillae_read) λ (a-bytes, a-short).
        record {
          fun = C.given.fun;
          named = C.row.function;
          ancillae_typed = C.row.ancillae_typed;
          value_typed = subst (λ v. HasTy v C.given.fun.dynamic) value_is C.row.value_typed;
          value_fits = R.held_fits;
          result_typed = (keeps-types max_variables max_nodes P typed fn C.given.fun C.row.function C.given.ancillae C.row.ancillae_typed
              fits max_height fuel C.left C.given.value C.ran.value).0 C.row.value_typed C.runs;
          carried = subst (λ v. Carries fits P max_height C.given.fun C.given.ancillae v C.ran.value C.ran.steps) value_is
              (subst (λ m. Carries fits P max_height C.given.fun C.given.ancillae C.given.value C.ran.value m) m-is d);
          steps = omega (arith, m-is, e);
          number = fn-small;
          short = subst (λ xs. length xs ≤ max_ancilla_bytes) a-bytes a-short;
          older_fits = R.fit;
          newer_fits = subst (λ k. length (fields (journal C.ran.value (es ++ (entry_of row C.ran.steps ∷ [])))) ≤ k) (ready-length R) C.fit;
        }

    carry_is : carry P row (through P rows origin) ≡ answered C.ran.value C.ran.steps
    carry_is = ap (carry P row) (standing-held R.standing) ∙ carry-ran passed

    result_fits : fits C.ran.value ≡ true
    result_fits = fits-of fits fits P (directed max_variables max_nodes P typed) max_height _ _ _ _ _ passed.carried

    converted-keeps : Keeps P (record { first = origin; rows = rows ++ (row ∷ []) })
        (write_out (length ys) (journal C.ran.value (es ++ (entry_of row C.ran.steps ∷ [])))) (record { journal = ys; steps = C.ran.steps } ∷ ms)
    converted-keeps =
        written_keeps (es ++ (entry_of row C.ran.steps ∷ [])) C.ran.value (length ys)
        (subst (λ xs. Standing P origin (rows ++ (row ∷ [])) (es ++ (entry_of row C.ran.steps ∷ [])) C.ran.value (record { journal = xs; steps = C.ran.steps } ∷ ms))
        (sym R.bytes) (next row C.ran.value C.ran.steps n R.standing passed))
        C.fit result_fits (let z : length (es ++ (entry_of row C.ran.steps ∷ [])) ≡ length es + 1 = length-append es _ in omega (arith, C.few))

    pub convert_agrees : Agrees P (converts fn anc fuel ws n) ys ms (after_turned ys (accepted t))
        (turn_unless none P (converts fn anc fuel ws n) (record { first = origin; rows = rows }))
    unfolding after_turned turn_unless enters remember or_none
    convert_agrees =
        subst (λ t. Agrees P (converts fn anc fuel ws n) ys ms (after_turned ys (accepted t)) (turn_unless none P (converts fn anc fuel ws n) (record { first = origin; rows = rows })))
        C.turned
        (subst (λ o. Agrees P (converts fn anc fuel ws n) ys ms
        (after_turned ys (accepted (turned_to (length ys) C.ran (journal C.ran.value (es ++ (entry_of row C.ran.steps ∷ []))))))
        (converted o))
        (sym C.row.ancillae_read)
        (record {
          told = ap (λ (r : Ran). holds (size r.value) r.steps) (sym carry_is);
          keeps = converted-keeps;
          long = length-write_out (length ys) (journal C.ran.value (es ++ (entry_of row C.ran.steps ∷ []))) C.fit;
        }))
      where
        converted : Option (List Val) → BookTurn
        converted o = record {
          book = record { first = origin; rows = rows ++ (record { function = fn; ancillae = or_none o } ∷ []) };
          told = holds (size (carry P (record { function = fn; ancillae = or_none o }) (through P rows origin)).value)
              (carry P (record { function = fn; ancillae = or_none o }) (through P rows origin)).steps;
        }

  ----------------------------------------------------------------
  -- Rollback

  -- the newest row, rolled back on a value that the rules carried it to, gives the record that it was given
  came_from : {row : Row} {es : List Entry} {v w u : Val} {m k : ℕ} (fuel left : ℕ) → Passed P row es v w m k → (h : Fun) → nth P row.function ≡ some h
      → HasTy w h.result → run_backward fits P max_height h row.ancillae w fuel ≡ ok u left → u ≡ v
  came_from {row} {es} {v} {w} {u} {m} {k} fuel left R h p hw run =
      given (some_inj (sym R.named ∙ p)) λ same.
      given (subst (λ (h : Fun). HasTys row.ancillae h.ancillae) same R.ancillae_typed) λ hs.
      given ((tree-backward_iff_forward max_variables max_nodes P typed row.function h p row.ancillae hs fits max_height u w fuel left hw).0 run) λ (hu, forth).
      given ((tree-forward_iff_rules P fits max_height h row.ancillae u w fuel left).0 forth) λ (m', d, e).
      tree-injective max_variables max_nodes P typed row.function h p row.ancillae hs fits fits max_height max_height u v w m' m hu
      (subst (λ (h : Fun). HasTy v h.dynamic) same R.value_typed) d (subst (λ (h : Fun). Carries fits P max_height h row.ancillae v w m) same R.carried)

  -- an accepted rollback, where the newest row is `row` and the older ones are `rows`
  module _ {origin : Val} {rows : List Row} {es : List Entry} {v w : Val} {ms : List Met} {m k : ℕ} (n : ℕ) (ys : List ℕ) (row : Row) (ws fuel : ℕ) (t : Turned)
      (S : Standing P origin rows es v ms) (R : Passed P row es v w m k) (few : length es ≤ max_conversions)
      (B : Returns P (journal w (es ++ (entry_of row m ∷ []))) (length ys) fuel t) where
    newer_is : B.newer ≡ record { older = es; newest = entry_of row m }
    newer_is = some_inj (sym B.stands ∙ newest_snoc es (entry_of row m))

    -- the call row held the newest entry to its function
    admitted : Admits P row.function (some row.ancillae) (some w) (λ h. h.result) B.given
    admitted = subst (λ (s : Newest). Admits P s.newest.function (some s.newest.ancillae) (some w) (λ h. h.result) B.given) newer_is B.row

    returned : B.ran.value ≡ v
    returned =
        given (some_inj admitted.ancillae_read) λ a-is. given (some_inj admitted.value_read) λ w-is.
        came_from fuel B.left R B.given.fun admitted.function (subst (λ x. HasTy x B.given.fun.result) (sym w-is) admitted.value_typed)
        (ap₂ (λ vs x. run_backward fits P max_height B.given.fun vs x fuel) a-is w-is ∙ B.runs)

    steps_are : B.ran.steps ≡ m
    steps_are = B.same ∙ ap (λ (s : Newest). s.newest.steps) newer_is

    returned_to : turned_to (length ys) (answered v m) (journal v es) ≡ t
    returned_to =
        ap₂ (λ x s. turned_to (length ys) (answered x s) (journal x es)) (sym returned) (sym steps_are)
        ∙ ap (λ (s : Newest). turned_to (length ys) B.ran (journal B.ran.value s.older)) (sym newer_is) ∙ B.turned

    returned-fits : length (fields (journal v es)) ≤ length ys
    returned-fits = subst (λ x. length (fields (journal x es)) ≤ length ys) returned (subst (λ (s : Newest). length (fields (journal B.ran.value s.older)) ≤ length ys) newer_is B.fit)

    pub rollback_agrees : Agrees P (rolls_back fuel ws n) ys (record { journal = write_out k (journal v es); steps = m } ∷ ms) (after_turned ys (accepted t))
        (turn_unless none P (rolls_back fuel ws n) (record { first = origin; rows = rows ++ (row ∷ []) }))
    unfolding after_turned turn_unless enters remember or_empty
    rollback_agrees =
        subst (λ t. Agrees P (rolls_back fuel ws n) ys (record { journal = write_out k (journal v es); steps = m } ∷ ms) (after_turned ys (accepted t))
        (turn_unless none P (rolls_back fuel ws n) (record { first = origin; rows = rows ++ (row ∷ []) }))) returned_to
        (subst (λ o. Agrees P (rolls_back fuel ws n) ys (record { journal = write_out k (journal v es); steps = m } ∷ ms)
        (after_turned ys (accepted (turned_to (length ys) (answered v m) (journal v es)))) (struck o))
        (sym (newest_snoc rows row))
        (record {
          told = ap₂ (λ x s. holds (size x) s) (sym (standing-held S)) (ap (λ (r : Ran). r.steps) (sym (ap (carry P row) (standing-held S) ∙ carry-ran R)));
          keeps = written_keeps es v (length ys) S returned-fits R.value_fits few;
          long = length-write_out (length ys) (journal v es) returned-fits;
        }))
      where
        struck : Option (Last Row) → BookTurn
        struck o = record {
          book = record { first = origin; rows = (or_empty o).older };
          told = holds (size (through P (or_empty o).older origin)) (carry P (or_empty o).newest (through P (or_empty o).older origin)).steps;
        }
