-- The tally of a check (02, F-4), where the fields are read and where they are refused.
use Prim.Native.Nat.{ℕ}
use mathlib.Core.Path.{◌≡◌, sym, ap, subst, ◌∙◌}
use mathlib.Core.List.{List}
use Rattle.std.specs.Prelude.{Result, Err}
use package.Rattle.rules.specs.Term.{Program}
use package.Rattle.rules.proofs.Basics.{given}
use package.Rattle.calls.specs.Answer.{accepted, refused}
use package.Rattle.calls.specs.Fields.{Layout, layout}
use package.Rattle.calls.specs.Entries.{entries_at}
use package.Rattle.calls.specs.Named.{test_entries}
use package.Rattle.calls.specs.Load.{load}
use package.Rattle.calls.proofs.Answer.{refused≢accepted, accepted_inj, unbind}
use package.Rattle.answers.specs.declared.Refusal.{Refusal}
use package.Rattle.program.specs.Places.{Placed, FieldsMean, answer_of}
use package.Rattle.program.specs.declared.fields.FieldError.{FieldError}
use package.Rattle.program.specs.declared.fields.Counts.{Counts}
use package.Rattle.entries.specs.Tally.{Tallied, NamedCounted}
use package.Rattle.entries.specs.Tested.{EntriesTested}
use package.Rattle.entries.specs.declared.testing.Tested.{Tested}
use package.Rattle.entries.proofs.Tallies.{tallied_none}
use package.Rattle.loading.specs.Loading.{Refuses, LoadMeans}
use package.Rattle.loading.specs.Tally.{Untallied, types_read, TallyMeans}
use package.Rattle.loading.specs.declared.TalliedLoad.{TalliedLoad}
use package.Rattle.loading.proofs.Loading.{fields-refused}

-- the entries of an accepted program are sound
loaded-tested : (xs : List ℕ) {L : Layout} {P : Program} → layout xs ≡ accepted L → load xs ≡ accepted P → test_entries L (entries_at xs L) ≡ accepted tt
unfolding load
loaded-tested xs {L} e a = given (unbind (layout xs) _ a) λ (L', e', a₁).
    given (unbind (test_entries L' (entries_at xs L')) _ a₁) λ (u, tested, a₂).
    subst (λ L. test_entries L (entries_at xs L) ≡ accepted tt) (accepted_inj (sym e' ∙ e)) tested

-- fields that are read, whatever follows
module _ {xs types terms functions nodes : List ℕ} (P : Placed xs types terms functions) {t : Tested}
    (E : EntriesTested xs types terms functions nodes t) where
  pub tally-counted : (l : Result Counts Refusal) → TallyMeans (record { loaded = l; tally = t.tally; counts = nodes }) xs
  tally-counted l = record {
    tallied = subst (λ a. Tallied xs (types_read a) nodes t.tally) (sym P.read) E.tallied;
    named = λ L Q e a. subst (λ L. NamedCounted (entries_at xs L) nodes) (accepted_inj (sym P.read ∙ e)) (E.named (E.answer ∙ loaded-tested xs P.read a));
  }

-- fields that are refused
module _ {xs types terms functions : List ℕ} {table : List (List ℕ)} {r : TalliedLoad} where
  refused-tallied : {l : Result Counts Refusal} {n p : ℕ} → Untallied r l → layout xs ≡ refused n p → LoadMeans l xs types terms functions table
      → LoadMeans r.loaded xs types terms functions table × TallyMeans r xs
  refused-tallied U e M = (
    subst (λ l. LoadMeans l xs types terms functions table) (sym U.answer) M,
    record {
      tallied = tallied_none xs (types_read (layout xs)) r.counts r.tally U.counts_none U.tally_zero;
      named = λ L P a l. absurd (refused≢accepted (sym e ∙ a));
    },
  )

  pub fields-tallied : (v : Result Counts FieldError) → FieldsMean v xs types terms functions → {e : FieldError} {why : Refusal} → v ≡ Err e
      → Refuses why (answer_of (Err e) types terms functions) → Untallied r (Err why) → LoadMeans r.loaded xs types terms functions table × TallyMeans r xs
  fields-tallied v F e R U = refused-tallied U (F.answer ∙ ap (λ v. answer_of v types terms functions) e ∙ R.answer) (fields-refused v F e R)
