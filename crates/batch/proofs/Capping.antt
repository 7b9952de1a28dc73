-- A length beyond the most that makes a difference changes no answer (specs/Capped): the workspace is held to what the fuel needs, the
-- output to what a call writes, a value, which has at most `max_value_bytes` bytes, or the entries of a journal.
use Prim.Native.Nat.{ℕ, ◌≤◌, ◌<◌, min}
use native.Mathlib.Omega.{arith}
use mathlib.Core.Path.{◌≡◌, refl, sym, ap, ap₂, subst, ◌∙◌}
use mathlib.Core.Bool.{Bool, true, false, cond}
use mathlib.Core.List.{List}
use lib.ListN.{length, take, drop, take-append-drop}
use lib.Seq.{length-take-le}
use lib.Dec.{leb}
use borrow.Author.Tests.{le-leb, lt-leb, leb-true, leb-false}
use package.Rattle.octets.specs.Numbers.{AreBytes}
use package.Rattle.octets.proofs.Numbers.{bytes_left}
use package.Rattle.rules.specs.Limits.{fits, max_value_bytes}
use package.Rattle.rules.specs.Val.{Val, size}
use package.Rattle.rules.specs.Run.{Res, ok, stop, stuck}
use package.Rattle.rules.proofs.Numbers.{Ends, answer-ends}
use package.Rattle.calls.specs.Answer.{Answer, accepted, refused, ◌>>=◌, require, present}
use package.Rattle.calls.specs.Load.{load}
use package.Rattle.calls.specs.Values.{value, ancillae}
use package.Rattle.calls.specs.Runs.{workspace_for, prepared, admit, Ran, ran, goes, returns, check_call, forward_call, backward_call}
use package.Rattle.calls.specs.Conversions.{open_call, convert_call, rollback_call}
use package.Rattle.calls.specs.Journal.{entry_fields, read_journal}
use package.Rattle.calls.specs.Readers.{nurse_of, workshop_of, nurse_call, workshop_call, held_bytes}
use package.Rattle.calls.proofs.Answer.{refused≢accepted, accepted_inj, unbind, required, presented}
use package.Rattle.calls.proofs.Readers.{held-most, entries-most}
use package.Rattle.calls.proofs.Runs.Calls.{Direction, onward, back, directed}
use package.Rattle.engine.specs.Runs.{run_call}
use package.Rattle.batch.specs.Capped.{most_workspace, most_output, capped}
use package.Rattle.batch.specs.Answering.{shown_text, listed_text, read_text, read_bytes}

----------------------------------------------------------------
-- Lengths

pub capped-most : (most n : ℕ) → capped most n ≤ most
unfolding capped
capped-most most n = by (leb n most) refl
  where
    by : (t : Bool) → leb n most ≡ t → cond t n most ≤ most
    by true e = leb-true n most e
    by false e = omega arith

-- as code brings it down
pub is_capped : (most n : ℕ) {k : ℕ} → k ≡ min n most → k ≡ capped most n
unfolding capped
is_capped most n {k} e = by (leb n most) refl
  where
    by : (t : Bool) → leb n most ≡ t → k ≡ cond t n most
    by true f = let h : n ≤ most = leb-true n most f in omega (arith, e)
    by false f = let h : most < n = leb-false n most f in omega (arith, e)

-- a buffer of the most is lent as far as the length brought down
module _ (most n : ℕ) {k : ℕ} (e : k ≡ capped most n) (buffer : List ℕ) (h : most ≤ length buffer) where
  pub lent-within : k ≤ length buffer
  lent-within = omega (arith, e, capped-most most n)

  pub lent_length : length (take k buffer) ≡ capped most n
  lent_length = length-take-le k buffer lent-within ∙ e

-- what is within the most is within a length exactly if it is within the length brought down
leb-capped : (most k n : ℕ) → k ≤ most → leb k (capped most n) ≡ leb k n
unfolding capped
leb-capped most k n h = by (leb n most) refl
  where
    by : (t : Bool) → leb n most ≡ t → leb k (cond t n most) ≡ leb k n
    by true e = refl
    by false e = le-leb k most h ∙ sym (le-leb k n (omega (arith, leb-false n most e)))

----------------------------------------------------------------
-- The workspace

most-enough : (fuel : ℕ) → fuel < 65536 → workspace_for fuel ≤ most_workspace
unfolding workspace_for most_workspace
most-enough fuel h = omega arith

pub prepared-capped : (ws fuel : ℕ) (program : List ℕ) → fuel < 65536 → prepared program fuel (capped most_workspace ws) ≡ prepared program fuel ws
unfolding prepared
prepared-capped ws fuel program h = ap (λ t. require t 1 0 >>= λ enough. load program) (leb-capped most_workspace (workspace_for fuel) ws (most-enough fuel h))

pub check-capped : (ws : ℕ) (program : List ℕ) → check_call program (capped most_workspace ws) ≡ check_call program ws
unfolding check_call
check-capped ws program = ap (λ a. a >>= λ P. accepted tt) (prepared-capped ws 0 program (omega arith))

----------------------------------------------------------------
-- The output

-- two ways to go on agree where they are gone
go_on : {A B : Type 0} (x : Answer A) (f g : A → Answer B) → ((a : A) → x ≡ accepted a → f a ≡ g a) → (x >>= f) ≡ (x >>= g)
unfolding ◌>>=◌
go_on (accepted a) f g h = h a refl
go_on (refused n p) f g h = refl

-- the test of room, of what is within the most
room-capped : {A : Type 0} (k out : ℕ) (a : A) → k ≤ most_output
    → (require (leb k (capped most_output out)) 17 0 >>= λ room. accepted a) ≡ (require (leb k out) 17 0 >>= λ room. accepted a)
room-capped k out a h = ap (λ t. require t 17 0 >>= λ room. accepted a) (leb-capped most_output k out h)

-- a value that a run answers fits
ran-fits : (fuel : ℕ) (x : Res Val) (r : Ran) → Ends (λ w. fits w ≡ true) x → ran fuel x ≡ accepted r → size r.value ≤ most_output
unfolding ran fits max_value_bytes most_output
ran-fits fuel (ok v left) r e a = omega (arith, leb-true (size v) max_value_bytes (answer-ends e refl), ap (λ r. size r.value) (accepted_inj a))
ran-fits fuel (stop n k) r e a = absurd (refused≢accepted a)
ran-fits fuel stuck r e a = absurd (refused≢accepted a)

module _ (D : Direction) (ws out fuel fn : ℕ) (program anc bytes : List ℕ) where
  directed-capped : fuel < 65536 → directed D (capped most_workspace ws) (capped most_output out) fuel fn program anc bytes ≡ directed D ws out fuel fn program anc bytes
  unfolding directed
  directed-capped h =
      ap (λ x. x >>= λ P. admit P fn (ancillae anc) (value bytes) D.side >>= λ a. ran fuel (D.run P a fuel) >>= λ r. require (leb (size r.value) (capped most_output out)) 17 0 >>= λ room. accepted r)
      (prepared-capped ws fuel program h)
      ∙ go_on (prepared program fuel ws) _ _ λ P p.
      go_on (admit P fn (ancillae anc) (value bytes) D.side) _ _ λ a q.
      go_on (ran fuel (D.run P a fuel)) _ _ λ r s.
      room-capped (size r.value) out r (ran-fits fuel (D.run P a fuel) r (D.ends P a fuel) s)

  directed-within : (r : Ran) → directed D ws out fuel fn program anc bytes ≡ accepted r → size r.value ≤ out
  unfolding directed
  directed-within r e =
      let (P, p, e₁) = unbind (prepared program fuel ws) _ e in
      let (a, q, e₂) = unbind (admit P fn (ancillae anc) (value bytes) D.side) _ e₁ in
      let (r', s, e₃) = unbind (ran fuel (D.run P a fuel)) _ e₂ in
      let (room, t, e₄) = unbind (require (leb (size r'.value) out) 17 0) _ e₃ in
      omega (arith, leb-true (size r'.value) out (required _ 17 0 t), ap (λ r. size r.value) (accepted_inj e₄))

pub run-capped : (b : Bool) (ws out fuel fn : ℕ) (program anc bytes : List ℕ) → fuel < 65536
    → run_call b program fn anc bytes fuel (capped most_workspace ws) (capped most_output out) ≡ run_call b program fn anc bytes fuel ws out
unfolding run_call forward_call backward_call goes returns directed
run-capped true ws out fuel fn program anc bytes h = directed-capped back ws out fuel fn program anc bytes h
run-capped false ws out fuel fn program anc bytes h = directed-capped onward ws out fuel fn program anc bytes h

-- an accepted value is within the output
pub run-within : (b : Bool) (ws out fuel fn : ℕ) (program anc bytes : List ℕ) (r : Ran) → run_call b program fn anc bytes fuel ws out ≡ accepted r → size r.value ≤ out
unfolding run_call forward_call backward_call goes returns directed
run-within true ws out fuel fn program anc bytes r e = directed-within back ws out fuel fn program anc bytes r e
run-within false ws out fuel fn program anc bytes r e = directed-within onward ws out fuel fn program anc bytes r e

-- a reader's output is held to what a journal in form can write
module _ (journal : List ℕ) (bytes : AreBytes journal) (out : ℕ) where
  nurse-capped : nurse_call journal (capped most_output out) ≡ nurse_call journal out
  unfolding nurse_call nurse_of max_value_bytes most_output
  nurse-capped = go_on (present (read_journal journal) 18) _ _ λ J e.
      room-capped (size J.held) out _ (omega (arith, held-most journal bytes (presented (read_journal journal) 18 e)))

  workshop-capped : workshop_call journal (capped most_output out) ≡ workshop_call journal out
  unfolding workshop_call workshop_of most_output
  workshop-capped = go_on (present (read_journal journal) 18) _ _ λ J e.
      room-capped (length (entry_fields J.entries)) out _ (entries-most journal bytes (presented (read_journal journal) 18 e))

----------------------------------------------------------------
-- Calls in what is lent

pub check-lent : (ws : ℕ) {k : ℕ} → k ≡ capped most_workspace ws → (buffer : List ℕ) → most_workspace ≤ length buffer → (program : List ℕ)
    → check_call program (length (take k buffer)) ≡ check_call program ws
check-lent ws e buffer h program = ap (λ n. check_call program n) (lent_length most_workspace ws e buffer h) ∙ check-capped ws program

pub run_lent : (b : Bool) (ws out : ℕ) {k l : ℕ} → k ≡ capped most_workspace ws → l ≡ capped most_output out
    → (buffer space : List ℕ) → most_workspace ≤ length buffer → most_output ≤ length space
    → (fuel fn : ℕ) (program anc bytes : List ℕ) → fuel < 65536
    → run_call b program fn anc bytes fuel (length (take k buffer)) (length (take l space)) ≡ run_call b program fn anc bytes fuel ws out
run_lent b ws out e f buffer space h h' fuel fn program anc bytes fuelled =
    ap₂ (λ n m. run_call b program fn anc bytes fuel n m) (lent_length most_workspace ws e buffer h) (lent_length most_output out f space h')
    ∙ run-capped b ws out fuel fn program anc bytes fuelled

-- a reader of the front of a buffer of bytes
module _ (buffer : List ℕ) (bytes : AreBytes buffer) (n out : ℕ) {l : ℕ} (e : l ≡ capped most_output out) (space : List ℕ)
    (h : most_output ≤ length space) where
  front_bytes : AreBytes (take n buffer)
  front_bytes = bytes_left (take n buffer) (drop n buffer) (subst AreBytes (sym (take-append-drop n buffer)) bytes)

  seen-lent : nurse_call (take n buffer) (length (take l space)) ≡ nurse_call (take n buffer) out
  seen-lent = ap (nurse_call (take n buffer)) (lent_length most_output out e space h) ∙ nurse-capped (take n buffer) front_bytes out

  listed-lent : workshop_call (take n buffer) (length (take l space)) ≡ workshop_call (take n buffer) out
  listed-lent = ap (workshop_call (take n buffer)) (lent_length most_output out e space h) ∙ workshop-capped (take n buffer) front_bytes out

  pub text-lent : (w : Bool) → read_text w (take n buffer) (length (take l space)) ≡ read_text w (take n buffer) out
  unfolding read_text
  text-lent true = ap listed_text listed-lent
  text-lent false = ap shown_text seen-lent

  pub bytes-lent : (w : Bool) → read_bytes w (take n buffer) (length (take l space)) ≡ read_bytes w (take n buffer) out
  unfolding read_bytes
  bytes-lent true = listed-lent
  bytes-lent false = ap held_bytes seen-lent

-- the program comes after the workspace, in every call
first-same : {A B : Type 0} {x y : Answer A} (f : A → Answer B) → x ≡ y → (x >>= f) ≡ (y >>= f)
first-same f e = ap (λ x. x >>= f) e

module _ (ws : ℕ) {k : ℕ} (e : k ≡ capped most_workspace ws) (buffer : List ℕ) (h : most_workspace ≤ length buffer) (program : List ℕ) where
  prepared-lent : (fuel : ℕ) → fuel < 65536 → prepared program fuel (length (take k buffer)) ≡ prepared program fuel ws
  prepared-lent fuel fuelled = ap (λ n. prepared program fuel n) (lent_length most_workspace ws e buffer h) ∙ prepared-capped ws fuel program fuelled

  pub open_lent : (held : List ℕ) (n : ℕ) → open_call program held (length (take k buffer)) n ≡ open_call program held ws n
  unfolding open_call
  open_lent held n = first-same _ (prepared-lent 0 (omega arith))

  pub convert_lent : (fuel fn : ℕ) (anc journal : List ℕ) → fuel < 65536
      → convert_call program fn anc fuel (length (take k buffer)) journal ≡ convert_call program fn anc fuel ws journal
  unfolding convert_call
  convert_lent fuel fn anc journal fuelled = first-same _ (prepared-lent fuel fuelled)

  pub rollback_lent : (fuel : ℕ) (journal : List ℕ) → fuel < 65536
      → rollback_call program fuel (length (take k buffer)) journal ≡ rollback_call program fuel ws journal
  unfolding rollback_call
  rollback_lent fuel journal fuelled = first-same _ (prepared-lent fuel fuelled)
