-- Verdicts on one entry after another: what one says of its entry, and how far a loop over entries has come.
use Prim.Native.Nat.{ℕ, ◌≤◌, ◌<◌}
use native.Mathlib.Omega.{arith}
use mathlib.Core.Path.{◌≡◌, refl, sym, ap, ap₂, ◌∙◌}
use mathlib.Core.Bool.{Bool, true, false, ◌&&◌}
use mathlib.Core.List.{List, [], ◌∷◌, ◌++◌, map}
use lib.ListN.{length, get_or, length-map}
use lib.Seq.{get_or-take}
use lib.Dec.{eqb, leb}
use Rattle.std.specs.Prelude.{Result, Ok, Err}
use package.Rattle.rules.specs.Limits.{max_nodes}
use package.Rattle.rules.proofs.Basics.{given}
use package.Rattle.calls.specs.Answer.{Answer, accepted, refused, ◌>>=◌, require}
use package.Rattle.calls.specs.Entries.{TypeEntry, type_at}
use package.Rattle.calls.specs.Named.{plain, all_plain, below}
use package.Rattle.calls.proofs.Entries.{below-head, plain-figures}
use package.Rattle.calls.proofs.Answer.{refused≢accepted}
use package.Rattle.entries.specs.Marks.{Marks, Measured, plain_in, all_plain_in}
use package.Rattle.entries.specs.Tested.{verdict_of, EntryTested, Ends}
use package.Rattle.entries.specs.declared.testing.EntryError.{EntryError}
use package.Rattle.entries.specs.declared.testing.EntryError.TheVariants.{BadReference, BadType}

----------------------------------------------------------------
-- One entry

module _ (answered : List ℕ → Answer (Unit {0})) (ts us us' : List ℕ) where
  pub bad_reference : (at : ℕ) → ((used : List ℕ) → Marks us used → refused 4 at ≡ answered used) → EntryTested answered ts us us' (Err (BadReference at))
  bad_reference at a = record { answer = a; marks = λ used M e. absurd (refused≢accepted e) }

  pub bad-type : (at : ℕ) → ((used : List ℕ) → Marks us used → refused 5 at ≡ answered used) → EntryTested answered ts us us' (Err (BadType at))
  bad-type at a = record { answer = a; marks = λ used M e. absurd (refused≢accepted e) }

  pub sound : ((used : List ℕ) → Marks us used → accepted tt ≡ answered used) → ((used : List ℕ) → Marks us used → Marks us' (ts ++ used))
      → EntryTested answered ts us us' (Ok tt)
  sound a m = record { answer = a; marks = λ used M e. m used M }

----------------------------------------------------------------
-- One after another

-- The tests so far are passed: `whole` is what all tests answer and `rest` what those to come do, each given the terms used before it,
-- which `us` noted at first and `us'` notes now.
pub record Going (whole rest : List ℕ → Answer (List ℕ)) (us us' : List ℕ) : Type 0 where
  pub going : (used : List ℕ) → Marks us used → (now : List ℕ) × (whole used ≡ rest now) × Marks us' now

pub going_start : (whole : List ℕ → Answer (List ℕ)) (us : List ℕ) → Going whole whole us us
going_start whole us = record { going = λ used M. (used, refl, M) }

module _ (whole rest next : List ℕ → Answer (List ℕ)) (answered : List ℕ → Answer (Unit {0})) (ts us₀ us us' : List ℕ)
    (step : (used : List ℕ) → rest used ≡ (answered used >>= λ passed. next (ts ++ used))) (G : Going whole rest us₀ us) (r : Result (Unit {0}) EntryError)
    (T : EntryTested answered ts us us' r) where
  pub going_more : r ≡ Ok tt → Going whole next us₀ us'
  unfolding ◌>>=◌
  going_more e = record {
    going = λ used₀ M₀.
        given (G.going used₀ M₀) λ (used, w, M).
        let passed : verdict_of r ≡ accepted tt = ap verdict_of e in
        (ts ++ used, w ∙ step used ∙ ap (λ a. a >>= λ p. next (ts ++ used)) (sym (T.answer used M) ∙ passed), T.marks used M passed);
  }

  stops : (n at : ℕ) → verdict_of r ≡ refused n at → (used : List ℕ) → Marks us₀ used → whole used ≡ refused n at
  unfolding ◌>>=◌
  stops n at e used₀ M₀ =
      given (G.going used₀ M₀) λ (used, w, M). w ∙ step used ∙ ap (λ a. a >>= λ p. next (ts ++ used)) (sym (T.answer used M) ∙ e)

  pub going_stops : (e : EntryError) → r ≡ Err e → (used : List ℕ) → Marks us₀ used → Ends (Err e) us' (whole used)
  going_stops (BadReference at) q = stops 4 at (ap verdict_of q)
  going_stops (BadType at) q = stops 5 at (ap verdict_of q)

pub going_end : (whole rest : List ℕ → Answer (List ℕ)) (us us' : List ℕ) → ((used : List ℕ) → rest used ≡ accepted used) → Going whole rest us us'
    → (used : List ℕ) → Marks us used → Ends (Ok tt) us' (whole used)
going_end whole rest us us' end G used₀ M₀ = given (G.going used₀ M₀) λ (used, w, M). (used, w ∙ end used, M)

----------------------------------------------------------------
-- The two tests of an entry, by noted figures

-- a type entry is plain by its noted figures
plain-noted : (ys : List TypeEntry) (nodes free : List ℕ) (i : ℕ) → Measured ys nodes free → i < length ys → plain ys i ≡ plain_in nodes free i
unfolding plain_in
plain-noted ys nodes free i N l =
    plain-figures ys N.types_lower i l
    ∙ ap₂ (λ f n. eqb f 0 && leb n max_nodes)
    (ap (λ l. get_or l i 0) (sym N.free_front) ∙ get_or-take (length ys) free i 0 l)
    (ap (λ l. get_or l i 0) (sym N.nodes_front) ∙ get_or-take (length ys) nodes i 0 l)

all-plain-noted : (ys : List TypeEntry) (nodes free is : List ℕ) → Measured ys nodes free → below (length ys) is ≡ true → all_plain ys is ≡ all_plain_in nodes free is
unfolding all_plain all_plain_in
all-plain-noted ys nodes free [] N e = refl
all-plain-noted ys nodes free (i ∷ is) N e =
    given (below-head (length ys) i is e) λ (l, e₁). ap₂ (λ a b. a && b) (plain-noted ys nodes free i N l) (all-plain-noted ys nodes free is N e₁)

-- refusal 4, then 5; the second test is asked only if the first holds
two-tests : {B : Type 0} (named a b : Bool) (at : ℕ) (next : Answer B) → (named ≡ true → a ≡ b)
    → (require named 4 at >>= λ n. require a 5 at >>= λ g. next) ≡ ((require named 4 at >>= λ n. require b 5 at) >>= λ p. next)
unfolding ◌>>=◌ require
two-tests true a b at next s = ap (λ b. require b 5 at >>= λ g. next) (s refl)
two-tests false a b at next s = refl

-- `named` has a test that the types `is` are there
pub by_figures : {B : Type 0} (ys : List TypeEntry) (nodes free is : List ℕ) (named : Bool) (at : ℕ) (next : Answer B) → Measured ys nodes free
    → (named ≡ true → below (length ys) is ≡ true)
    → (require named 4 at >>= λ n. require (all_plain ys is) 5 at >>= λ g. next) ≡ ((require named 4 at >>= λ n. require (all_plain_in nodes free is) 5 at) >>= λ p. next)
by_figures ys nodes free is named at next N s = two-tests named _ _ at next λ e. all-plain-noted ys nodes free is N (s e)

-- the arrays have room for as many types
pub measured-room : (xs types nodes free : List ℕ) → Measured (map (type_at xs) types) nodes free → (length types ≤ length nodes) × (length types ≤ length free)
measured-room xs types nodes free N = (omega (arith, N.nodes_room, length-map types (type_at xs)), omega (arith, N.free_room, length-map types (type_at xs)))
