-- Demand 3: after any list of calls answers, bytes and held record are the book's; and the newest standing conversion rolls back.
use Prim.Native.Nat.{ℕ, ◌+◌, ◌-◌, ◌≤◌}
use native.Mathlib.Omega.{arith}
use mathlib.Core.Path.{◌≡◌, refl, sym, ap, ap₂, subst, ◌∙◌}
use mathlib.Core.Bool.{true}
use mathlib.Core.Option.{some}
use mathlib.Core.List.{List, [], ◌∷◌, ◌++◌}
use lib.ListN.{length, length-append, replicate}
use package.Rattle.rules.specs.Limits.{max_variables, max_nodes, fits, max_height, max_conversions}
use package.Rattle.rules.specs.Val.{Val, size}
use package.Rattle.rules.specs.Term.{Program}
use package.Rattle.rules.specs.Typing.{WellTyped}
use package.Rattle.rules.specs.Run.{ok}
use package.Rattle.rules.specs.Machine.{run_backward}
use package.Rattle.calls.specs.Claims.{CarriedThrough, begun, Demand3, Met, NewestRollsBack, last_buffer}
use package.Rattle.calls.specs.Answer.{accepted}
use package.Rattle.calls.specs.Book.{Row, book_run, resized, call_run}
use package.Rattle.calls.specs.Conversions.{open_call, rollback_call}
use package.Rattle.calls.specs.Journal.{Entry, Journal, fields, write_out, read_journal}
use package.Rattle.calls.specs.Load.{load}
use package.Rattle.calls.specs.Runs.{workspace_for}
use package.Rattle.calls.specs.Values.{value}
use package.Rattle.calls.proofs.Book.Calls.{open_says, rollback_so}
use package.Rattle.calls.proofs.Book.List.{runs}
use package.Rattle.calls.proofs.Book.Rows.{entry_of, newest_snoc, journal, Passed, Standing, empty, next, standing-journal, standing-carried, standing-writable}
use package.Rattle.calls.proofs.Book.Turn.{Keeps, keeps-writable, written_keeps}
use package.Rattle.calls.proofs.Journal.Buffers.{length-write_out, written-longer, resized-written, read-written}
use package.Rattle.calls.proofs.Journal.Entries.{WritableEntries}
use package.Rattle.calls.proofs.Load.{load_iff}
use package.Rattle.calls.proofs.Values.{value-sound}
use package.Rattle.rules.proofs.Basics.{given, some_inj}
use package.Rattle.rules.proofs.Theorems.{tree-forward_iff_rules, tree-backward_iff_forward}

-- the book right after the open before the list
opened-keeps : (program bytes : List ℕ) (ws n : ℕ) {xs : List ℕ} {P : Program} {origin : Val} → value bytes ≡ some origin → open_call program bytes ws n ≡ accepted xs
    → Keeps P (begun origin) xs []
opened-keeps program bytes ws n {xs} {P} {origin} vr op =
    given (open_says ws program bytes n op) λ (P', u, lp, vu, l, x).
    given (some_inj (sym vu ∙ vr)) λ u-is.
    subst (λ xs. Keeps P (begun origin) xs []) (ap (λ v. write_out n (journal v [])) (sym u-is) ∙ x)
    (written_keeps [] origin n empty (subst (λ v. length (fields (journal v [])) ≤ n) u-is l) (value-sound bytes vr).1 (omega arith))

-- it fills its buffer
opened-length : (program bytes : List ℕ) (ws n : ℕ) {xs : List ℕ} → open_call program bytes ws n ≡ accepted xs → length xs ≡ n
opened-length program bytes ws n op = given (open_says ws program bytes n op) λ (P, u, lp, vu, l, x). ap length (sym x) ∙ length-write_out n (journal u []) l

pub demand3 : Demand3
demand3 program P ws n bytes xs origin lp vr op cs pr =
    given (runs program P lp ((load_iff program P).0 lp).1 cs (begun origin) xs [] (opened-keeps program bytes ws n vr op) pr) λ (as', K, long).
    given (standing-journal K.rows) λ J-is.
    record {
      answers = as';
      bytes = K.bytes ∙ ap₂ write_out (long ∙ ap (λ k. last_buffer k cs) (opened-length program bytes ws n op)) (sym J-is);
      held = ap read_journal K.bytes ∙ read-written (length (call_run program cs xs).journal) (journal K.held K.entries) (keeps-writable K) K.fit ∙ ap some (sym J-is);
      carried = subst (λ (J : Journal). CarriedThrough P (book_run program P cs (begun origin)).book.rows J.entries (book_run program P cs (begun origin)).book.first J.held)
          (sym J-is) (standing-carried K.rows);
    }

module _ (program : List ℕ) (P : Program) (loads : load program ≡ accepted P) (typed : WellTyped max_variables max_nodes P) where
  -- a row, run backward with fuel for its steps, gives the record that it was given
  row_returns : {row : Row} {es : List Entry} {v w : Val} {s k : ℕ} (R : Passed P row es v w s k) (fuel g : ℕ) → fuel ≡ s + g
      → run_backward fits P max_height R.fun row.ancillae w fuel ≡ ok v g
  row_returns {row} {es} {v} {w} {s} R fuel g e =
      (tree-backward_iff_forward max_variables max_nodes P typed row.function R.fun R.named row.ancillae R.ancillae_typed fits max_height v w fuel g R.result_typed).1
      (R.value_typed, (tree-forward_iff_rules P fits max_height R.fun row.ancillae v w fuel g).1 (s, R.carried, e))

  rolls_back_lem : {origin held : Val} {rows : List Row} {es : List Entry} {m : Met} {ms : List Met} → Standing P origin rows es held (m ∷ ms)
      → (xs : List ℕ) → xs ≡ write_out (length xs) (journal held es) → length (fields (journal held es)) ≤ length xs → fits held ≡ true → length es ≤ max_conversions
      → (ws fuel n : ℕ) → workspace_for fuel ≤ ws → m.steps ≤ fuel → length m.journal ≤ n
      → (J : Journal) × (read_journal m.journal ≡ some J)
      × (rollback_call program fuel ws (resized n xs)
      ≡ accepted (record { held = size J.held; steps = m.steps; journal = m.journal ++ replicate (n - length m.journal) 0 }))
  rolls_back_lem (next {es = es} {v = v} row w s k S R) xs b l f few ws fuel n wl sl nl =
      let k_is : length (write_out k (journal v es)) ≡ k = length-write_out k (journal v es) R.older_fits in
      let k-le : k ≤ n = omega arith in
      given (let z : length (fields (journal w (es ++ (entry_of row s ∷ [])))) ≤ n = omega (arith, R.newer_fits) in z) λ newer.
      given (let z : length (fields (journal v es)) ≤ n = omega (arith, R.older_fits) in z) λ older.
      given (ap (resized n) b ∙ resized-written n (length xs) (journal w (es ++ (entry_of row s ∷ []))) newer l) λ buffer_is.
      given (ap length buffer_is ∙ length-write_out n (journal w (es ++ (entry_of row s ∷ []))) newer) λ length_is. (
        journal v es,
        read-written k (journal v es) (record { held_fits = R.value_fits; entries_writable = standing-writable S; entries_few = fewer }) R.older_fits,
        rollback_so ws fuel program (resized n xs) P (journal w (es ++ (entry_of row s ∷ []))) (record { older = es; newest = entry_of row s })
            (record { fun = R.fun; ancillae = row.ancillae; value = w }) v (fuel - s) wl loads
            (ap read_journal buffer_is ∙ read-written n (journal w (es ++ (entry_of row s ∷ []))) (record { held_fits = f; entries_writable = writable; entries_few = few }) newer)
            (newest_snoc es (entry_of row s))
            (record { function = R.named; ancillae_read = refl; value_read = refl; ancillae_typed = R.ancillae_typed; value_typed = R.result_typed })
            (row_returns R fuel (fuel - s) (omega arith)) (omega arith) (subst (λ i. length (fields (journal v es)) ≤ i) (sym length_is) older)
            ∙ ap (λ ys. accepted (record { held = size v; steps = s; journal = ys }))
            (ap (λ i. write_out i (journal v es)) length_is ∙ written-longer k n (journal v es) R.older_fits k-le ∙ ap (λ i. write_out k (journal v es) ++ replicate (n - i) 0) (sym k_is)),
      )
    where
      fewer : length es ≤ max_conversions
      fewer = let z : length (es ++ (entry_of row s ∷ [])) ≡ length es + 1 = length-append es _ in omega arith

      writable : WritableEntries (es ++ (entry_of row s ∷ []))
      writable = standing-writable (next row w s k S R)

pub newest_rolls_back : NewestRollsBack
newest_rolls_back program ws n bytes xs op cs pr m ms st ws' fuel n' wl sl nl =
    given (open_says ws program bytes n op) λ (P, origin, lp, vr, l, x).
    given ((load_iff program P).0 lp).1 λ typed.
    given (runs program P lp typed cs (begun origin) xs [] (opened-keeps program bytes ws n vr op) pr) λ (as', K, long).
    rolls_back_lem program P lp typed (subst (Standing P _ _ K.entries K.held) st K.rows) (call_run program cs xs).journal K.bytes K.fit K.held_fits K.few
    ws' fuel n' wl sl nl
