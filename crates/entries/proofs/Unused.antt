-- Terms that nothing uses: one turn of the loop that looks for the lowest.
use Prim.Native.Nat.{ℕ, suc, ◌+◌, ◌≤◌, ◌<◌}
use native.Mathlib.Omega.{arith}
use mathlib.Core.Path.{◌≡◌, refl, sym, ap, ◌∙◌}
use mathlib.Core.List.{List, map}
use lib.ListN.{length, get_or, drop, length-map, drop_of_length-le}
use borrow.Author.Tests.{lt-ltb, le-ltb}
use Rattle.std.specs.Prelude.{Ok, Err}
use package.Rattle.calls.specs.Answer.{Answer, refused, ◌>>=◌, require}
use package.Rattle.calls.specs.Entries.{term_at}
use package.Rattle.calls.specs.Named.{member, test_used}
use package.Rattle.program.specs.Places.{places_of}
use package.Rattle.entries.specs.Marks.{Marks}
use package.Rattle.entries.specs.Tested.{entries_of, UsedTested}
use package.Rattle.entries.specs.declared.testing.EntryError.TheVariants.{BadReference}
use package.Rattle.entries.proofs.Types.{entries_from}

-- what the tests from entry `k` on answer
abbrev used_from : List ℕ → List ℕ → List ℕ → List ℕ → List ℕ → ℕ → Answer (Unit {0})
used_from xs types terms functions used k = test_used (places_of types terms functions) (entries_of xs types terms functions) k used (drop k (map (term_at xs) terms))

-- the first `k` terms are used
pub record UsedSo (terms us : List ℕ) (k : ℕ) : Type 0 where
  pub rest : (xs types functions used : List ℕ) → Marks us used → used_from xs types terms functions used 0 ≡ used_from xs types terms functions used k

module _ (terms us : List ℕ) where
  pub used_start : UsedSo terms us 0
  used_start = record { rest = λ xs types functions used M. refl }

  used_turn : (xs types functions used : List ℕ) (k : ℕ) → k < length terms
      → used_from xs types terms functions used k ≡ (require (member k used) 4 (get_or terms k 0) >>= λ p. used_from xs types terms functions used (k + 1))
  unfolding test_used
  used_turn xs types functions used k l =
      ap (test_used (places_of types terms functions) (entries_of xs types terms functions) k used) (entries_from (term_at xs) terms k l)
      ∙ ap (λ n. require (member k used) 4 (get_or terms k 0)
      >>= λ p. test_used (places_of types terms functions) (entries_of xs types terms functions) n used (drop (k + 1) (map (term_at xs) terms))) (let z : suc k ≡ k + 1 = omega arith in z)

  module _ (k : ℕ) (l : k < length terms) (l' : k < length us) (S : UsedSo terms us k) where
    pub used-more : (get_or us k 0 ≡ 0 → ⊥) → UsedSo terms us (k + 1)
    unfolding ◌>>=◌ require
    used-more d = record {
      rest = λ xs types functions used M.
          S.rest xs types functions used M ∙ used_turn xs types functions used k l
          ∙ ap (λ b. require b 4 (get_or terms k 0) >>= λ p. used_from xs types terms functions used (k + 1))
          (M.marked k l' ∙ lt-ltb 0 (get_or us k 0) (some (get_or us k 0) d));
    }
      where
        some : (n : ℕ) → (n ≡ 0 → ⊥) → 0 < n
        some n d = omega arith

    pub used_stop : (at : ℕ) → at ≡ get_or terms k 0 → get_or us k 0 ≡ 0 → UsedTested terms us (Err (BadReference at))
    unfolding ◌>>=◌ require
    used_stop at e z = record {
      answer = λ xs types functions used M.
          ap (refused 4) e
          ∙ sym (S.rest xs types functions used M ∙ used_turn xs types functions used k l
          ∙ ap (λ b. require b 4 (get_or terms k 0) >>= λ p. used_from xs types terms functions used (k + 1)) (M.marked k l' ∙ le-ltb 0 (get_or us k 0) (omega arith)));
    }

  pub used-end : (k : ℕ) → length terms ≤ k → UsedSo terms us k → UsedTested terms us (Ok tt)
  unfolding test_used
  used-end k l S = record {
    answer = λ xs types functions used M.
        sym (S.rest xs types functions used M
        ∙ ap (test_used (places_of types terms functions) (entries_of xs types terms functions) k used)
        (drop_of_length-le (map (term_at xs) terms) {i = k} (omega (arith, length-map terms (term_at xs)))));
  }
