-- Front parts of a buffer, the end of its last field, and one call made on a front part.
use Prim.Native.Nat.{ℕ, zero, suc, ◌-◌, ◌≤◌}
use native.Mathlib.Omega.{arith}
use mathlib.Core.Path.{◌≡◌, refl, sym, ap, ap₂, ◌∙◌}
use mathlib.Core.List.{List, [], ◌∷◌, ◌++◌, append-nil}
use lib.ListN.{length, take, drop, replicate, length-append, length-drop}
use lib.Seq.{length-take-le, take_at}
use mathlib.Core.Option.{Option, none, some}
use package.Rattle.calls.specs.Answer.{cleared}
use package.Rattle.calls.specs.Conversions.{open_call, convert_call, rollback_call}
use package.Rattle.calls.specs.Book.{Call, opens, converts, rolls_back, buffer, resized, after_open, after_turned, call}
use package.Rattle.calls.specs.Claims.{last_field}
use package.Rattle.calls.specs.Journal.{Journal, read_journal}
use package.Rattle.journal.specs.Places.{places_of, survey_of}
use package.Rattle.journal.specs.declared.places.Places.{Places}
use package.Rattle.answers.specs.Answers.{check_answer, run_answer, open_answer, held_answer}
use Rattle.std.specs.Prelude.{Option as Found, Some, None, Result as Outcome}
use package.Rattle.answers.specs.declared.Refusal.{Refusal}
use package.Rattle.answers.specs.declared.Done.{Done}
use package.Rattle.replay.specs.Lines.{line}
use package.Rattle.replay.specs.Inner.Told.{check_line, run_line}
use package.Rattle.replay.specs.Inner.Steps.{swept, leaves, Made}
use package.Rattle.replay.proofs.Lines.{opened-line, turned-line, opened-swept, turned-swept}

pub resized-front : (n : ℕ) (xs : List ℕ) → n ≤ length xs → resized n xs ≡ take n xs
unfolding resized
resized-front n xs h =
    ap (λ k. take n xs ++ replicate k 0) (let z : n - length xs ≡ 0 = omega arith in z) ∙ append-nil (take n xs)

take_all : (n : ℕ) (xs : List ℕ) → length xs ≤ n → take n xs ≡ xs
take_all zero [] h = refl
take_all zero (x ∷ xs) h = absurd (omega arith)
take_all (suc n) [] h = refl
take_all (suc n) (x ∷ xs) h = ap (λ ys. x ∷ ys) (take_all n xs (omega arith))

pub resized-longer : (n : ℕ) (xs : List ℕ) → length xs ≤ n → resized n xs ≡ xs ++ replicate (n - length xs) 0
unfolding resized
resized-longer n xs h = ap (λ ys. ys ++ replicate (n - length xs) 0) (take_all n xs h)

----------------------------------------------------------------
-- The last field's end

missing_by : (xs : List ℕ) (o : Option Journal) → read_journal xs ≡ o → None ≡ survey_of o → length xs ≡ last_field xs
unfolding last_field survey_of
missing_by xs none e p = rw (e, last_field)
missing_by xs (some J) e p = absurd (let z : ◌≡◌ {A = ℕ} 0 1 = cc in omega arith)

pub last_missing : (xs : List ℕ) → None ≡ survey_of (read_journal xs) → length xs ≡ last_field xs
last_missing xs p = missing_by xs (read_journal xs) refl p

form_inj : {p q : Places} → Some p ≡ Some q → p ≡ q
form_inj e = cc

there_by : (xs : List ℕ) (pl : Places) (o : Option Journal) → read_journal xs ≡ o → Some pl ≡ survey_of o → pl.end ≡ last_field xs
unfolding last_field survey_of places_of
there_by xs pl none e p = absurd (let z : ◌≡◌ {A = ℕ} 0 1 = cc in omega arith)
there_by xs pl (some J) e p = rw (e, last_field) (ap (λ (q : Places). q.end) (form_inj p))

pub last-there : (xs : List ℕ) (pl : Places) → Some pl ≡ survey_of (read_journal xs) → pl.end ≡ last_field xs
last-there xs pl p = there_by xs pl (read_journal xs) refl p

----------------------------------------------------------------
-- One call on the front part

-- the buffer with the front part `f`, and zeros behind
abbrev pub cleared-behind : ℕ → List ℕ → List ℕ → List ℕ
cleared-behind n f xs = take n (f ++ drop n xs) ++ replicate (length (f ++ drop n xs) - n) 0

behind : (n : ℕ) (f xs : List ℕ) → n ≤ length xs → length f ≡ n → cleared-behind n f xs ≡ resized (length xs) f
behind n f xs h e =
    ap₂ (λ ys k. ys ++ replicate k 0) (take_at f (drop n xs) n e)
    (let z : length (f ++ drop n xs) - n ≡ length xs - length f = omega (arith, length-append f (drop n xs), length-drop n xs) in z)
    ∙ sym (resized-longer (length xs) f (omega arith))

module _ (program : List ℕ) (J W f l J' W' : List ℕ) where
  made-front : (c : Call) (n : ℕ) → buffer c ≡ n → n ≤ length J → length f ≡ n → f ≡ (call program c (take n J)).journal → l ≡ line (call program c (take n J)).told
      → W' ≡ swept (call program c (take n J)).told W → J' ≡ cleared-behind n f J → Made program c J W l J' W'
  unfolding leaves
  made-front c n b h e ef el ew ej =
      let front : take n J ≡ resized (buffer c) J = sym (resized-front n J h) ∙ ap (λ k. resized k J) (sym b) in
      record {
        told = el ∙ ap (λ ys. line (call program c ys).told) front;
        kept = ej ∙ behind n f J h e ∙ ap (resized (length J)) (ef ∙ ap (λ ys. (call program c ys).journal) front);
        clear = ew ∙ ap (λ ys. swept (call program c ys).told W) front;
      }

  pub open_made : (held : List ℕ) (n : ℕ) (r : Outcome (Unit {0}) Refusal) → n ≤ length J → length f ≡ length (take n J)
      → check_answer r ≡ open_answer (open_call program held (length W) (length (take n J)))
      → f ≡ (after_open (take n J) (open_call program held (length W) (length (take n J)))).journal
      → W' ≡ cleared (open_call program held (length W) (length (take n J))) W → l ≡ check_line (check_answer r) → J' ≡ cleared-behind n f J
      → Made program (opens held (length W) n) J W l J' W'
  unfolding call buffer
  open_made held n r h e er ef ew el ej =
      let k : length (take n J) ≡ n = length-take-le n J h in
      let same : open_call program held (length W) (length (take n J)) ≡ open_call program held (length W) n = ap (open_call program held (length W)) k in
      made-front (opens held (length W) n) n refl h (e ∙ k) (ef ∙ ap (λ x. (after_open (take n J) x).journal) same)
      (el ∙ ap check_line (er ∙ ap open_answer same) ∙ opened-line (take n J) (open_call program held (length W) n))
      (ew ∙ ap (λ x. cleared x W) same ∙ opened-swept (take n J) W (open_call program held (length W) n)) ej

  pub convert_made : (fuel fn : ℕ) (anc : List ℕ) (n : ℕ) (r : Outcome Done Refusal) → n ≤ length J → length f ≡ length (take n J)
      → run_answer r ≡ held_answer (convert_call program fn anc fuel (length W) (take n J))
      → f ≡ (after_turned (take n J) (convert_call program fn anc fuel (length W) (take n J))).journal
      → W' ≡ cleared (convert_call program fn anc fuel (length W) (take n J)) W → l ≡ run_line (run_answer r) → J' ≡ cleared-behind n f J
      → Made program (converts fn anc fuel (length W) n) J W l J' W'
  unfolding call buffer
  convert_made fuel fn anc n r h e er ef ew el ej =
      made-front (converts fn anc fuel (length W) n) n refl h (e ∙ length-take-le n J h) ef
      (el ∙ ap run_line er ∙ turned-line (take n J) (convert_call program fn anc fuel (length W) (take n J)))
      (ew ∙ turned-swept (take n J) W (convert_call program fn anc fuel (length W) (take n J))) ej

  pub rollback_made : (fuel n : ℕ) (r : Outcome Done Refusal) → n ≤ length J → length f ≡ length (take n J)
      → run_answer r ≡ held_answer (rollback_call program fuel (length W) (take n J))
      → f ≡ (after_turned (take n J) (rollback_call program fuel (length W) (take n J))).journal
      → W' ≡ cleared (rollback_call program fuel (length W) (take n J)) W → l ≡ run_line (run_answer r) → J' ≡ cleared-behind n f J
      → Made program (rolls_back fuel (length W) n) J W l J' W'
  unfolding call buffer
  rollback_made fuel n r h e er ef ew el ej =
      made-front (rolls_back fuel (length W) n) n refl h (e ∙ length-take-le n J h) ef
      (el ∙ ap run_line er ∙ turned-line (take n J) (rollback_call program fuel (length W) (take n J)))
      (ew ∙ turned-swept (take n J) W (rollback_call program fuel (length W) (take n J))) ej
