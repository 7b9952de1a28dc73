-- Convert: what each of its answers says of the journal and of the run.
use Prim.Native.Nat.{ℕ, ◌≤◌, ◌<◌}
use native.Mathlib.Omega.{arith}
use borrow.Author.Tests.{lt-ltb, le-ltb, leb-true}
use mathlib.Core.Path.{◌≡◌, refl, sym, ap, ap₂, subst, ◌∙◌}
use mathlib.Core.Bool.{Bool, true, false}
use mathlib.Core.Option.{some}
use Rattle.std.specs.Prelude.{Option, Result, Ok, Err}
use Rattle.std.specs.Option.{ok_or}
use mathlib.Core.List.{List}
use lib.ListN.{length, take}
use lib.Dec.{ltb, leb}
use lib.Seq.{length-take-le}
use package.Rattle.rules.specs.Limits.{max_value_bytes, max_conversions}
use package.Rattle.rules.specs.Val.{encode}
use package.Rattle.rules.specs.Term.{Program}
use package.Rattle.calls.specs.Values.{value, ancillae}
use package.Rattle.calls.specs.Journal.{fields, read_journal, write_out}
use package.Rattle.calls.specs.Conversions.{turned}
use package.Rattle.calls.proofs.Answer.{via, stops, require_yes, require-no, present_some, present_none}
use package.Rattle.calls.proofs.Values.{value-encode}
use package.Rattle.valuebytes.specs.Ends.{is_some, is_value, value_in, values_in}
use package.Rattle.journal.specs.declared.places.Places.{Places}
use package.Rattle.journal.specs.Places.{journal_in, Surveyed, Stands}
use package.Rattle.journal.specs.Turns.{are_values, conversion, converted}
use package.Rattle.journal.proofs.Stands.{standing, count-place}
use package.Rattle.journal.proofs.Turns.{values_in_is, is_value_lem}
use package.Rattle.answers.specs.declared.Done.{Done}
use package.Rattle.answers.specs.declared.Refusal.{Refusal}
use package.Rattle.answers.specs.declared.Refusal.TheVariants.{Journal, Full}
use package.Rattle.answers.specs.Answers.{refuses}
use package.Rattle.requests.specs.Runs.{run_of, called, RunMeans}
use package.Rattle.conversions.specs.Turns.{convert_of, TurnMeans}
use package.Rattle.conversions.specs.Converting.{converted_to}
use package.Rattle.conversions.proofs.Forms.{not_read}
use package.Rattle.conversions.proofs.Values.{Carried, carried, not_carried, Into, ran-into, refused-into, front_is_value, front-value_in, turn-refused, turn-full, turn-written}

----------------------------------------------------------------
-- After the run

module _ (j held anc : List ℕ) {b : Bool} (fit : (f s : ℕ) → b ≡ leb (length (fields (converted (journal_in j) (value_in held) (conversion f s (values_in anc))))) (length j)) where
  -- the new journal fits
  pub convert_room : b ≡ true → (f s : ℕ) → length (fields (converted (journal_in j) (value_in held) (conversion f s (values_in anc)))) ≤ length j
  convert_room t f s = leb-true _ _ (sym (fit f s) ∙ t)

  -- and is written
  pub convert_kept : b ≡ true → is_value held ≡ true → (d : Done) → d.len ≡ length held → (fn : ℕ) {n : ℕ} → n ≡ d.steps
      → {j' : List ℕ} → j' ≡ write_out (length j) (converted (journal_in j) (value_in held) (conversion fn n (values_in anc)))
      → TurnMeans (Ok d) (converted_to j held d.steps fn anc) j j'
  convert_kept t is d long fn e w = turn-written _ _ _ j d (sym (fit fn d.steps) ∙ t) (long ∙ (is_value_lem held is).long) refl
      (w ∙ ap (λ n. write_out (length j) (converted (journal_in j) (value_in held) (conversion fn n (values_in anc)))) e)

  -- or it does not fit
  pub convert_unfit : b ≡ false → (s fn : ℕ) → TurnMeans (Err Full) (converted_to j held s fn anc) j j
  convert_unfit t s fn = turn-full _ _ _ j (sym (fit fn s) ∙ t)

----------------------------------------------------------------
-- Before it, and what it gives

module _ (P : Program) (fuel fn : ℕ) (anc j : List ℕ) where
  -- 18
  pub convert_malformed : {o : Option Places} → Surveyed o j → {e : Refusal} → ok_or o Journal ≡ Err e → {r : Result Done Refusal} → r ≡ Err e
      → TurnMeans r (convert_of P fuel fn anc j) j j
  unfolding convert_of
  convert_malformed {o} S is w = let u = not_read Journal o S is in rw w (rw u.0 (turn-refused Journal j (stops _ (present_none 18 u.1)) (refuses {n = 18} (omega arith))))

  module _ {pl : Places} (s : Stands pl j) where
    there : read_journal j ≡ some (journal_in j)
    there = (standing pl j s).read

    -- 20: as many conversions stand as may
    pub convert_many : max_conversions ≤ pl.count → TurnMeans (Err Full) (convert_of P fuel fn anc j) j j
    unfolding convert_of max_conversions
    convert_many l = turn-refused Full j
        (via _ (present_some 18 there) (stops _ (require-no 20 0 (le-ltb (length (journal_in j).entries) max_conversions (omega (arith, count-place (standing pl j s)))))))
        (refuses {n = 20} (omega arith))

    module _ (less : pl.count < max_conversions) {bytes : List ℕ} (held_is : bytes ≡ encode (journal_in j).held) (out out' : List ℕ) (room : length out ≡ max_value_bytes) where
      few : ltb (length (journal_in j).entries) max_conversions ≡ true
      unfolding max_conversions
      few = lt-ltb (length (journal_in j).entries) max_conversions (omega (arith, count-place (standing pl j s)))

      held-read : value bytes ≡ some (journal_in j).held
      held-read = ap value held_is ∙ value-encode (journal_in j).held (standing pl j s).writable.held_fits

      whole : called false P fn anc bytes fuel max_value_bytes ≡ called false P fn anc bytes fuel (length out)
      whole = ap (called false P fn anc bytes fuel) (sym room)

      -- the run is refused
      pub convert_refused : {why : Refusal} → RunMeans (Err why) (called false P fn anc bytes fuel (length out)) out out' → {r : Result Done Refusal} → r ≡ Err why
          → TurnMeans r (convert_of P fuel fn anc j) j j
      unfolding convert_of run_of
      convert_refused {why} R e = rw e (turn-refused why j
          (via _ (present_some 18 there) (via _ (require_yes 20 0 few)
          (not_carried false P fn fuel anc bytes (ancillae anc) (some (journal_in j).held) refl held-read _ (whole ∙ refused-into R))))
          R.later)

      module _ {d : Done} (R : RunMeans (Ok d) (called false P fn anc bytes fuel (length out)) out out') where
        into : Into (called false P fn anc bytes fuel (length out)) out' d
        into = ran-into R

        ran : Carried false P fn fuel anc bytes (ancillae anc) (some (journal_in j).held) refl held-read into.ran
        ran = carried false P fn fuel anc bytes (ancillae anc) (some (journal_in j).held) refl held-read (whole ∙ into.is)

        -- the run's value stands at the output's front, and the ancillae were read
        pub convert_keeps : {n : ℕ} → n ≡ d.len → ((is_value (take n out') ≡ true) × (are_values anc ≡ true)) × (n ≡ length (take n out')) × (n ≤ length out')
        convert_keeps {n} e = (
          (ap (λ n. is_value (take n out')) e ∙ front_is_value into.ran.value into.front ran.fitting, ap is_some ran.ancillae_read),
          sym (length-take-le n out' (omega (arith, e, into.inside))),
          omega (arith, e, into.inside),
        )

        converted_is : converted_to j (take d.len out') d.steps fn anc
            ≡ turned (length j) into.ran (converted (journal_in j) into.ran.value (conversion fn into.ran.steps ran.given.ancillae))
        converted_is =
            ap (λ v. turned (length j) (record { value = v; steps = d.steps }) (converted (journal_in j) v (conversion fn d.steps (values_in anc))))
            (front-value_in into.ran.value into.front ran.fitting)
            ∙ ap₂ (λ n vs. turned (length j) (record { value = into.ran.value; steps = n }) (converted (journal_in j) into.ran.value (conversion fn n vs)))
            into.steps (values_in_is anc ran.ancillae_read)

        -- what is answered after the run is what convert answers
        pub convert_ran : {n : ℕ} → n ≡ d.len → {r : Result Done Refusal} {j' : List ℕ} → TurnMeans r (converted_to j (take n out') d.steps fn anc) j j'
            → TurnMeans r (convert_of P fuel fn anc j) j j'
        unfolding convert_of run_of
        convert_ran {n} e {r} {j'} M = subst (λ x. TurnMeans r x j j')
            (ap (λ n. converted_to j (take n out') d.steps fn anc) e ∙ converted_is
            ∙ sym (via _ (present_some 18 there) (via _ (require_yes 20 0 few) (via _ ran.admits (via _ ran.runs refl))))) M
