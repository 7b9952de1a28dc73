-- All tests on entries, one tag after another.
use Prim.Native.Nat.{ℕ, ◌≤◌}
use native.Mathlib.Omega.{arith}
use mathlib.Core.Path.{◌≡◌, sym, ap, subst, ◌∙◌}
use mathlib.Core.List.{List, [], map}
use lib.ListN.{length, take, replicate, length-replicate, get_or-replicate, length-map}
use lib.Dec.{ltb}
use Rattle.std.specs.Prelude.{Result, Ok, Err}
use package.Rattle.rules.specs.Limits.{max_types}
use package.Rattle.calls.specs.Answer.{Answer, refused, ◌>>=◌}
use package.Rattle.calls.specs.Entries.{type_at, entries_at}
use package.Rattle.calls.specs.Named.{member, test_entries}
use package.Rattle.calls.specs.Figures.{nodes_of, figures}
use package.Rattle.calls.proofs.Answer.{refused≢accepted}
use package.Rattle.calls.proofs.Trees.{entries-good}
use package.Rattle.program.specs.Places.{places_of, Placed}
use package.Rattle.program.specs.Parts.{Formed}
use package.Rattle.entries.specs.Marks.{Marks, Measured}
use package.Rattle.entries.specs.Tested.{verdict_of, entries_of, TypesTested, Ends, uses_answer, EntriesTested}
use package.Rattle.entries.specs.declared.testing.Tested.{Tested}
use package.Rattle.entries.specs.declared.testing.EntryError.{EntryError}
use package.Rattle.entries.specs.declared.testing.EntryError.TheVariants.{BadReference, BadType}
use package.Rattle.program.proofs.Inside.{formed}
use package.Rattle.entries.proofs.Tallies.{named_counted}

----------------------------------------------------------------
-- What follows tests that end

module _ (v : Result (Unit {0}) EntryError) (us : List ℕ) (a : Answer (List ℕ)) (k : List ℕ → Answer (Unit {0})) (e : Ends v us a) where
  pub ends-sound : v ≡ Ok tt → (r : Result (Unit {0}) EntryError) → ((used : List ℕ) → Marks us used → verdict_of r ≡ k used) → verdict_of r ≡ (a >>= k)
  unfolding ◌>>=◌
  ends-sound s r follows = go (subst (λ v. Ends v us a) s e)
    where
      go : Ends (Ok tt) us a → verdict_of r ≡ (a >>= k)
      go (used, p, M) = follows used M ∙ ap (λ a. a >>= k) (sym p)

  pub ends_stops : (d : EntryError) → v ≡ Err d → verdict_of (Err d) ≡ (a >>= k)
  unfolding ◌>>=◌
  ends_stops (BadReference at) s = ap (λ a. a >>= k) (sym (subst (λ v. Ends v us a) s e))
  ends_stops (BadType at) s = ap (λ a. a >>= k) (sym (subst (λ v. Ends v us a) s e))

-- no term is used at first
pub marks_none : (n : ℕ) → Marks (replicate n 0) []
unfolding member
marks_none n = record { marked = λ t l. ap (λ u. ltb 0 u) (sym (get_or-replicate n t 0 0 (omega (arith, length-replicate {A = ℕ} n 0)))) }

----------------------------------------------------------------
-- All tests

module _ {xs types terms functions : List ℕ} (P : Placed xs types terms functions) where
  pub placed-formed : Formed xs (places_of types terms functions)
  placed-formed = formed xs P.read

  pub types-few : length types ≤ max_types
  types-few = placed-formed.few_types

pub types-sound : (xs types nodes free : List ℕ) (r : Tested) → TypesTested xs types nodes free r → r.verdict ≡ Ok tt
    → Measured (map (type_at xs) types) nodes free
types-sound xs types nodes free r T s = T.measured (ap verdict_of s)

module _ (xs types terms functions nodes free : List ℕ) (r : Tested) (T : TypesTested xs types nodes free r) where
  -- the types' tally stands
  pub entries-sound : r.verdict ≡ Ok tt → (v : Result (Unit {0}) EntryError) → verdict_of v ≡ uses_answer xs types terms functions
      → EntriesTested xs types terms functions nodes (record { verdict = v; tally = r.tally })
  unfolding test_entries entries_at ◌>>=◌
  entries-sound s v a = record {
    answer = answered;
    counted = λ e. ap (λ n. take n nodes) (sym (length-map types (type_at xs))) ∙ fronts;
    tallied = T.tallied;
    named = λ e. named_counted (entries_of xs types terms functions) nodes (entries-good _ _ (sym answered ∙ e)) fronts;
  }
    where
      answered : verdict_of v ≡ test_entries (places_of types terms functions) (entries_of xs types terms functions)
      answered = a ∙ ap (λ t. t >>= λ lower. uses_answer xs types terms functions) (ap verdict_of (sym s) ∙ T.answer terms functions)

      fronts : take (length (map (type_at xs) types)) nodes ≡ figures nodes_of [] (map (type_at xs) types)
      fronts = (types-sound xs types nodes free r T s).nodes_front

  refuses : (n at : ℕ) → verdict_of r.verdict ≡ refused n at → EntriesTested xs types terms functions nodes r
  unfolding test_entries entries_at ◌>>=◌
  refuses n at e = record {
    answer = e ∙ ap (λ t. t >>= λ lower. uses_answer xs types terms functions) (sym e ∙ T.answer terms functions);
    counted = λ q. absurd (refused≢accepted (sym e ∙ q));
    tallied = T.tallied;
    named = λ q. absurd (refused≢accepted (sym e ∙ q));
  }

  pub entries_stop : (d : EntryError) → r.verdict ≡ Err d → EntriesTested xs types terms functions nodes r
  entries_stop (BadReference at) s = refuses 4 at (ap verdict_of s)
  entries_stop (BadType at) s = refuses 5 at (ap verdict_of s)
