-- What each row of the table gives the answer of loading: a refusal that stands, or a row passed.
use Prim.Native.Nat.{ℕ, ◌≤◌}
use native.Mathlib.Omega.{arith}
use mathlib.Core.Path.{◌≡◌, refl, sym, ap, subst, ◌∙◌}
use mathlib.Core.Bool.{false≢true}
use mathlib.Core.List.{List}
use Rattle.std.specs.Result.{MatchResult, IsErrAnd}
use Rattle.std.specs.Prelude.{true, [], Option as Found, Some, None, Result, Ok, Err}
use lib.ListN.{length}
use package.Rattle.rules.specs.Limits.{max_types, max_variables, max_nodes}
use package.Rattle.rules.specs.Typing.{WellTyped}
use package.Rattle.calls.specs.Answer.{Answer, accepted, refused}
use package.Rattle.calls.specs.Entries.{entries_at, program_of}
use package.Rattle.calls.specs.Load.{load, typed}
use package.Rattle.rules.specs.Check.{check}
use package.Rattle.rules.proofs.Basics.{given}
use package.Rattle.calls.specs.Fields.{Layout, layout}
use package.Rattle.calls.specs.Named.{test_entries}
use package.Rattle.calls.proofs.Answer.{via, stops, unbind}
use package.Rattle.calls.proofs.Load.{load_iff}
use package.Rattle.answers.specs.declared.Refusal.{Refusal}
use package.Rattle.answers.specs.Answers.{number_of, place_of, Later, accepts, refuses}
use package.Rattle.answers.proofs.Answers.{later_number}
use package.Rattle.program.specs.Signatures.{SignaturesAre}
use package.Rattle.program.specs.Places.{places_of, Placed, FieldsMean, answer_of}
use package.Rattle.program.specs.declared.fields.Counts.{Counts}
use package.Rattle.program.specs.declared.fields.FieldError.{FieldError}
use package.Rattle.program.proofs.Inside.{formed}
use package.Rattle.entries.specs.Tested as entries
use package.Rattle.entries.specs.declared.testing.Tested.{Tested}
use package.Rattle.types.specs.Layout.{typing_bytes}
use package.Rattle.typing.specs.Checked.{Typeable, typing_answer}
use package.Rattle.typing.specs.Checked as typing
use package.Rattle.typing.specs.declared.functions.TypingError.{TypingError}
use package.Rattle.loading.specs.Loads.{Loads}
use package.Rattle.loading.specs.Loading.{Accepted, AcceptedAs, offsets_read, is_accepted, Refuses, Examined, LoadMeans}

-- none of these rows refuses with 1
later_refused : {A : Type 0} {x : Answer A} {n p : ℕ} → x ≡ refused n p → 2 ≤ n → Later x
later_refused e l = subst Later (sym e) (refuses l)

-- a test whose error is named a refusal, by where it went
module _ {A E : Type 0} where
  mapped_err : (Q : E → Refusal → Type 0) (v : Result A E) {r : Result A Refusal} {why : Refusal}
      → MatchResult v (λ x. r ≡ Ok x) (λ e. IsErrAnd r (Q e)) → r ≡ Err why
      → (e : E) × (v ≡ Err e) × Q e why
  mapped_err Q (Ok x) m w = cc
  mapped_err Q (Err e) m w = (e, refl, subst (λ r. IsErrAnd r (Q e)) w m)

  mapped_ok : (Q : E → Refusal → Type 0) (v : Result A E) {r : Result A Refusal} {x : A} → MatchResult v (λ x. r ≡ Ok x) (λ e. IsErrAnd r (Q e))
      → r ≡ Ok x → v ≡ Ok x
  mapped_ok Q (Ok y) m w = cc
  mapped_ok Q (Err e) m w = absurd (subst (λ r. IsErrAnd r (Q e)) w m)

----------------------------------------------------------------
-- Row Typing

module _ {xs types terms functions nodes heap : List ℕ} (T : Typeable xs types terms functions nodes heap) (v : Result (Unit {0}) TypingError)
    (answered : typing.verdict_of v ≡ typing_answer xs types terms functions) where
  infer-accepted : v ≡ Ok tt → {table : List (List ℕ)} → SignaturesAre xs functions table → Accepted xs types terms functions table
  unfolding load
  infer-accepted e S = record {
    read = T.read;
    tested = T.tested;
    loads = via _ T.read.read (via _ T.tested (via _ (sym answered ∙ ap typing.verdict_of e) refl));
    signed = S;
  }

  -- the test, its error named a refusal
  module _ {m : Result (Unit {0}) Refusal} (named : MatchResult v (λ x. m ≡ Ok x) (λ e. IsErrAnd m (λ r. Refuses r (typing.verdict_of (Err e))))) where
    pub infer-typed : m ≡ Ok tt → {table : List (List ℕ)} → SignaturesAre xs functions table → {c : Counts} → Examined (Ok c) c xs types terms functions table
    infer-typed w S = let A : Accepted xs types terms functions _ = infer-accepted (mapped_ok _ v named w) S in
        record { answer = A.loads; later = subst Later (sym A.loads) accepts; ready = (refl, A) }

    pub infer-refused : {r : Refusal} → m ≡ Err r → {table : List (List ℕ)} {c : Counts} → Examined (Err r) c xs types terms functions table
    unfolding load
    infer-refused {r} w = given (mapped_err _ v named w) λ (e, was, R).
        let stopped : load xs ≡ refused (number_of r) (place_of r)
        = via _ T.read.read (via _ T.tested (stops _ (sym answered ∙ ap typing.verdict_of was ∙ R.answer))) in
        record { answer = stopped; later = later_refused stopped R.later; ready = tt }

----------------------------------------------------------------
-- Row Entries

module _ {xs types terms functions nodes : List ℕ} (P : Placed xs types terms functions) (t : Tested)
    (answered : entries.EntriesTested xs types terms functions nodes t) where
  -- the test, its error named a refusal
  module _ {m : Result (Unit {0}) Refusal}
      (named : MatchResult t.verdict (λ x. m ≡ Ok x) (λ e. IsErrAnd m (λ r. Refuses r (entries.verdict_of (Err e))))) where
    pub judge_sound : m ≡ Ok tt → length nodes ≡ max_types → {heap : List ℕ} → typing_bytes ≤ length heap → Typeable xs types terms functions nodes heap
    judge_sound w l room = record {
      read = P;
      tested = sym answered.answer ∙ ap entries.verdict_of (mapped_ok _ t.verdict named w);
      held = omega (arith, (formed xs P.read).few_types);
      counted = answered.counted (ap entries.verdict_of (mapped_ok _ t.verdict named w));
      room = room;
    }

    pub judge_refused : {r : Refusal} → m ≡ Err r → {table : List (List ℕ)} {c : Counts} → Examined (Err r) c xs types terms functions table
    unfolding load
    judge_refused {r} w = given (mapped_err _ t.verdict named w) λ (e, was, R).
        let stopped : load xs ≡ refused (number_of r) (place_of r) = via _ P.read (stops _ (sym answered.answer ∙ ap entries.verdict_of was ∙ R.answer)) in
        record { answer = stopped; later = later_refused stopped R.later; ready = tt }

----------------------------------------------------------------
-- Row Field reading

module _ {xs types terms functions : List ℕ} (v : Result Counts FieldError) (F : FieldsMean v xs types terms functions) where
  pub fields-refused : {e : FieldError} {r : Refusal} → v ≡ Err e → Refuses r (answer_of (Err e) types terms functions) → {table : List (List ℕ)}
      → LoadMeans (Err r) xs types terms functions table
  unfolding load
  fields-refused {r} e R = record { answer = stopped; later = later_refused stopped R.later; ready = tt; buffers = F.buffers }
    where
      stopped : load xs ≡ refused (number_of r) (place_of r)
      stopped = stops _ (F.answer ∙ ap (λ v. answer_of v types terms functions) e ∙ R.answer)

----------------------------------------------------------------
-- What is loaded, or why not

module _ {why : Refusal} {xs : List ℕ} (L : Loads (Err why) xs) where
  pub refused-number : 2 ≤ number_of why
  refused-number = later_number (subst Later L.answer L.later)

----------------------------------------------------------------
-- What a run may begin with

module _ {xs types terms functions : List ℕ} {table : List (List ℕ)} (A : Accepted xs types terms functions table) where
  -- the program is typed by the rules
  pub accepted-typed : WellTyped max_variables max_nodes (program_of (entries_at xs (places_of types terms functions)))
  accepted-typed = ((load_iff xs (program_of (entries_at xs (places_of types terms functions)))).0 A.loads).1

----------------------------------------------------------------
-- An accepted program, as a value keeps it

offsets_layout : Found (List ℕ × List ℕ × List ℕ) → Layout
offsets_layout (Some q) = places_of q.0 q.1 q.2
offsets_layout None = places_of [] [] []

offsets_as : (L : Layout) → offsets_layout (Some (L.types, L.terms, L.functions)) ≡ L
unfolding offsets_layout
offsets_as L = refl

accepted-some : {A : Type 0} (x : Answer A) → is_accepted x ≡ true → (a : A) × (x ≡ accepted a)
accepted-some (accepted a) e = (a, refl)
accepted-some (refused n p) e = absurd (false≢true e)

module _ {xs types terms functions : List ℕ} {table : List (List ℕ)} where
  pub as_accepted : Accepted xs types terms functions table → AcceptedAs xs types terms functions table
  as_accepted A = record { read = ap offsets_read A.read.read; loads = ap is_accepted A.loads; signed = A.signed }

  pub accepted_as : AcceptedAs xs types terms functions table → Accepted xs types terms functions table
  unfolding load offsets_layout
  accepted_as E = given (accepted-some (load xs) E.loads) λ (P, e).
      given (unbind (layout xs) _ e) λ (L, l, e₁).
      given (unbind (test_entries L (entries_at xs L)) _ e₁) λ (u, t, e₂).
      given (unbind (typed L (check max_variables max_nodes (program_of (entries_at xs L)))) _ e₂) λ (v, k, e₃).
      let same : L ≡ places_of types terms functions = sym (offsets_as L) ∙ ap offsets_layout (sym (ap offsets_read l) ∙ E.read) in
      record {
        read = record { read = l ∙ ap accepted same };
        tested = subst (λ L. test_entries L (entries_at xs L) ≡ accepted tt) same t;
        loads = e ∙ sym e₃ ∙ ap (λ L. accepted (program_of (entries_at xs L))) same;
        signed = E.signed;
      }
