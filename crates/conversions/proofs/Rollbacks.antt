-- Laws of rollback: the run of the newest conversion, what is answered after it, and what is refused before it.
use Prim.Native.Nat.{ℕ, ◌≤◌, ◌<◌}
use native.Mathlib.Omega.{arith}
use mathlib.Core.Path.{◌≡◌, refl, sym, ap, ap₂, subst, ◌∙◌}
use mathlib.Core.Bool.{Bool, true, false}
use mathlib.Core.Option.{some}
use Rattle.std.specs.Prelude.{Option, Result, Ok, Err}
use Rattle.std.specs.Option.{ok_or}
use mathlib.Core.List.{List}
use lib.ListN.{length, take}
use lib.Dec.{eqb, leb}
use package.Rattle.rules.specs.Limits.{fits, max_value_bytes}
use package.Rattle.rules.specs.Val.{Val, encode}
use package.Rattle.rules.specs.Term.{Program}
use package.Rattle.rules.proofs.Basics.{given, eqb_yes, eqb-differs}
use package.Rattle.rules.proofs.Typing.Tests.{leb-sound}
use package.Rattle.rules.proofs.Val.{length-encode}
use package.Rattle.calls.specs.Answer.{Answer, accepted, refused, ◌>>=◌}
use package.Rattle.calls.specs.Values.{value, ancillae, encode_all}
use package.Rattle.calls.specs.Runs.{admit, Ran, returns}
use package.Rattle.calls.specs.Journal.{Journal, fields, write_out}
use package.Rattle.calls.specs.Conversions.{Turned, turned}
use package.Rattle.calls.proofs.Answer.{via, stops, unbind, require_yes, require-no, present_some, present_none}
use package.Rattle.calls.proofs.Values.{value-encode, ancillae-encode}
use package.Rattle.calls.proofs.Journal.Fields.{WritableEntry}
use package.Rattle.calls.proofs.Journal.Entries.{WritableEntries, entries_unsnoc}
use package.Rattle.valuebytes.specs.Ends.{is_value, value_in}
use package.Rattle.admission.specs.Admitting.{side_of}
use package.Rattle.runs.specs.Ended.{finished}
use package.Rattle.journal.specs.declared.places.Places.{Places}
use package.Rattle.journal.specs.Places.{newest_of, journal_in, Surveyed, Stands}
use package.Rattle.journal.specs.Turns.{rolled_back}
use package.Rattle.journal.proofs.Stands.{standing, count-place, newest_split, newest_none, newest_some}
use package.Rattle.journal.proofs.Turns.{is_value_lem}
use package.Rattle.answers.specs.declared.Done.{Done}
use package.Rattle.answers.specs.declared.Refusal.{Refusal}
use package.Rattle.answers.specs.declared.Refusal.TheVariants.{Journal as Unread, Standing, Full}
use package.Rattle.answers.specs.Answers.{refuses}
use package.Rattle.requests.specs.Runs.{run_of, called, RunMeans}
use package.Rattle.conversions.specs.Turns.{rollback_of, TurnMeans}
use package.Rattle.conversions.specs.Rollbacks.{ran_to, taken_back, struck}
use package.Rattle.conversions.proofs.Forms.{not_read}
use package.Rattle.conversions.proofs.Values.{run_fits, finished_whole, Into, ran-into, refused-into, front_is_value, front-value_in, turn-refused, turn-full, turn-written}

----------------------------------------------------------------
-- Answers that go on

module _ {A B : Type 0} where
  goes-alike : (x : Answer A) (k l : A → Answer B) → ((a : A) → k a ≡ l a) → (x >>= k) ≡ (x >>= l)
  unfolding ◌>>=◌
  goes-alike (accepted a) k l e = e a
  goes-alike (refused n p) k l e = refl

  goes_further : {C : Type 0} (x : Answer A) (k : A → Answer B) (l : B → Answer C) → (x >>= k >>= l) ≡ (x >>= λ a. k a >>= l)
  unfolding ◌>>=◌
  goes_further (accepted a) k l = refl
  goes_further (refused n p) k l = refl

----------------------------------------------------------------
-- The newest conversion's run

-- in an output as long as a value may be row Output refuses nothing
back_whole : (P : Program) (g fuel : ℕ) (anc bytes : List ℕ) (vs : List Val) (v : Val) → ancillae anc ≡ some vs → value bytes ≡ some v
    → called true P g anc bytes fuel max_value_bytes ≡ (admit P g (some vs) (some v) (λ h. h.result) >>= returns P fuel)
unfolding called run_of
back_whole P g fuel anc bytes vs v p q =
    ap₂ (λ a b. admit P g a b (side_of true) >>= λ a. finished max_value_bytes (run_of true P fuel a)) p q
    ∙ goes-alike _ _ _ λ a. finished_whole (returns P fuel a) λ r e. run_fits true P fuel a e

-- its value fits
taken-fits : (P : Program) (fuel : ℕ) (J : Journal) {r : Ran} → taken_back P fuel J ≡ accepted r → fits r.value ≡ true
unfolding taken_back run_of
taken-fits P fuel J e = given (unbind (admit P (newest_of J.entries).newest.function (some (newest_of J.entries).newest.ancillae) (some J.held) λ h. h.result) _ e) λ (a, p, q).
    run_fits true P fuel a q

module _ (pl : Places) (j : List ℕ) (s : Stands pl j) (stood : 0 < pl.count) where
  some_stand : 0 < length (journal_in j).entries
  some_stand = omega (arith, stood, count-place (standing pl j s))

  -- what the journal says is read back from the bytes that it has
  newest-writable : WritableEntry (newest_of (journal_in j).entries).newest
  newest-writable = (entries_unsnoc (newest_of (journal_in j).entries).older
      (subst WritableEntries (newest_split (journal_in j).entries some_stand) (standing pl j s).writable.entries_writable)).1

  newest-read : ancillae (encode_all (newest_of (journal_in j).entries).newest.ancillae) ≡ some (newest_of (journal_in j).entries).newest.ancillae
  newest-read = ancillae-encode _ newest-writable.ancillae_within

  held-read : value (encode (journal_in j).held) ≡ some (journal_in j).held
  held-read = value-encode _ (standing pl j s).writable.held_fits

  module _ (P : Program) (fuel : ℕ) where
    called-back : {g : ℕ} {anc bytes : List ℕ} (out : List ℕ) → g ≡ (newest_of (journal_in j).entries).newest.function
        → anc ≡ encode_all (newest_of (journal_in j).entries).newest.ancillae → bytes ≡ encode (journal_in j).held → length out ≡ max_value_bytes
        → called true P g anc bytes fuel (length out) ≡ taken_back P fuel (journal_in j)
    unfolding taken_back max_value_bytes
    called-back {g} {anc} {bytes} out p q r l =
        ap (called true P g anc bytes fuel) l ∙ back_whole P g fuel anc bytes _ _ (ap ancillae q ∙ newest-read) (ap value r ∙ held-read)
        ∙ ap (λ g. admit P g (some (newest_of (journal_in j).entries).newest.ancillae) (some (journal_in j).held) (λ h. h.result) >>= returns P fuel) p

    pub taken_back_lem : {g : ℕ} {anc bytes out out' : List ℕ} {r : Result Done Refusal} → g ≡ (newest_of (journal_in j).entries).newest.function
        → anc ≡ encode_all (newest_of (journal_in j).entries).newest.ancillae → bytes ≡ encode (journal_in j).held → length out ≡ max_value_bytes
        → RunMeans r (called true P g anc bytes fuel (length out)) out out' → RunMeans r (taken_back P fuel (journal_in j)) out out'
    taken_back_lem {out = out} {out' = out'} {r = r} p q b l R = subst (λ x. RunMeans r x out out') (called-back out p q b l) R

    ----------------------------------------------------------------
    -- The rows behind it

    rollback_is : rollback_of P fuel j ≡ (taken_back P fuel (journal_in j) >>= struck (length j) (journal_in j))
    unfolding rollback_of taken_back struck
    rollback_is =
        via _ (present_some 18 (standing pl j s).read) (via _ (present_some 19 (newest_some (journal_in j).entries some_stand))
        (sym (goes_further (admit P (newest_of (journal_in j).entries).newest.function (some (newest_of (journal_in j).entries).newest.ancillae) (some (journal_in j).held) λ h. h.result)
        (returns P fuel) (struck (length j) (journal_in j)))))

    module _ {out out' : List ℕ} where
      -- a run that is refused
      pub not_taken : {why : Refusal} → RunMeans (Err why) (taken_back P fuel (journal_in j)) out out' → {r : Result Done Refusal} → r ≡ Err why
          → TurnMeans r (rollback_of P fuel j) j j
      not_taken {why} R e = rw e (turn-refused why j (rollback_is ∙ stops _ (refused-into R)) R.later)

      -- one that is not: its value is the front of the output
      module _ {d : Done} (R : RunMeans (Ok d) (taken_back P fuel (journal_in j)) out out') {n : ℕ} (e : n ≡ d.len) where
        into : Into (taken_back P fuel (journal_in j)) out' d
        into = ran-into R

        front : take n out' ≡ encode into.ran.value
        front = ap (λ n. take n out') e ∙ into.front

        fitting : fits into.ran.value ≡ true
        fitting = taken-fits P fuel (journal_in j) into.is

        pub inside : n ≤ length out'
        inside = omega (arith, e, into.inside)

        pub front-one : is_value (take n out') ≡ true
        front-one = front_is_value into.ran.value front fitting

        pub front_long : d.len ≡ length (take n out')
        front_long = into.len ∙ sym (ap length front ∙ length-encode into.ran.value)

        pub taken : {r : Result Done Refusal} {j' : List ℕ} → TurnMeans r (struck (length j) (journal_in j) (ran_to (value_in (take n out')) d.steps)) j j'
            → TurnMeans r (rollback_of P fuel j) j j'
        taken {r} {j'} T = subst (λ x. TurnMeans r x j j')
            (sym (rollback_is ∙ via _ into.is
            (ap₂ (λ v k. struck (length j) (journal_in j) (ran_to v k)) (sym (front-value_in into.ran.value front fitting)) (sym into.steps)))) T

----------------------------------------------------------------
-- The steps, and the journal without the newest conversion

module _ (j h : List ℕ) (d : Done) {m k : ℕ} (t : is_value h ≡ true) (long : d.len ≡ length h) (same : m ≡ d.steps) (noted : k ≡ (newest_of (journal_in j).entries).newest.steps) where
  abbrev after : Answer Turned
  after = struck (length j) (journal_in j) (ran_to (value_in h) d.steps)

  pub other-steps : ¬ (m ≡ k) → TurnMeans (Err Unread) after j j
  unfolding struck
  other-steps o = turn-refused Unread j (stops _ (require-no 18 0 (eqb-differs _ _ λ z. o (same ∙ z ∙ sym noted)))) (refuses {n = 18} (omega arith))

  module _ (e : m ≡ k) where
    counted : after ≡ turned (length j) (ran_to (value_in h) d.steps) (rolled_back (journal_in j) (value_in h))
    unfolding struck
    counted = via _ (require_yes 18 0 (ap (eqb d.steps) (sym (sym same ∙ e ∙ noted)) ∙ eqb_yes d.steps)) refl

    module _ {fit : Bool} (f : fit ≡ leb (length (fields (rolled_back (journal_in j) (value_in h)))) (length j)) where
      pub room : fit ≡ true → length (fields (rolled_back (journal_in j) (value_in h))) ≤ length j
      room y = leb-sound _ _ (sym f ∙ y)

      pub no_room : fit ≡ false → TurnMeans (Err Full) after j j
      no_room y = subst (λ x. TurnMeans (Err Full) x j j) (sym counted) (turn-full (value_in h) d.steps (rolled_back (journal_in j) (value_in h)) j (sym f ∙ y))

      pub rolled : fit ≡ true → {j' : List ℕ} → j' ≡ write_out (length j) (rolled_back (journal_in j) (value_in h)) → TurnMeans (Ok d) after j j'
      rolled y {j'} w = subst (λ x. TurnMeans (Ok d) x j j') (sym counted)
          (turn-written (value_in h) d.steps (rolled_back (journal_in j) (value_in h)) j d (sym f ∙ y) (long ∙ (is_value_lem h t).long) refl w)

----------------------------------------------------------------
-- Before the run

module _ (P : Program) (fuel : ℕ) (j : List ℕ) where
  pub unread : {o : Option Places} → Surveyed o j → {e : Refusal} → ok_or o Unread ≡ Err e → {r : Result Done Refusal} → r ≡ Err e
      → TurnMeans r (rollback_of P fuel j) j j
  unfolding rollback_of
  unread {o} S is w = let u = not_read Unread o S is in rw w (rw u.0 (turn-refused Unread j (stops _ (present_none 18 u.1)) (refuses {n = 18} (omega arith))))

  pub none_stands : {pl : Places} → Stands pl j → pl.count ≡ 0 → TurnMeans (Err Standing) (rollback_of P fuel j) j j
  unfolding rollback_of
  none_stands {pl} s z = turn-refused Standing j
      (via _ (present_some 18 (standing pl j s).read) (stops _ (present_none 19 (newest_none (journal_in j).entries (sym (count-place (standing pl j s)) ∙ z)))))
      (refuses {n = 19} (omega arith))

pub some_count : {n : ℕ} → ¬ (n ≡ 0) → 0 < n
some_count h = omega arith
