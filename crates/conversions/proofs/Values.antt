-- What convert and rollback share: a run into an output as long as a value may be is the run of the definitions, its value stands at
-- the output's front, and what is answered of the journal that it leaves.
use Prim.Native.Nat.{ℕ, ◌≤◌}
use native.Mathlib.Omega.{arith}
use mathlib.Core.Path.{◌≡◌, refl, sym, ap, ap₂, subst, ◌∙◌}
use mathlib.Core.Bool.{Bool, true, false}
use mathlib.Core.Option.{Option, some}
use Rattle.std.specs.Prelude.{Result, Ok, Err}
use mathlib.Core.List.{List, ◌++◌}
use lib.ListN.{length, take, drop}
use lib.Dec.{leb}
use lib.Seq.{take_at}
use package.Rattle.rules.specs.Limits.{fits, max_height, max_value_bytes}
use package.Rattle.rules.specs.Val.{Val, size, encode}
use package.Rattle.rules.specs.Term.{Program}
use package.Rattle.rules.specs.Run.{Res}
use package.Rattle.rules.proofs.Basics.{given}
use package.Rattle.rules.proofs.Numbers.{Ends, answers, refuses, sticks, run-forward-ends}
use package.Rattle.rules.proofs.Backward.Fits.{run-backward-ends}
use package.Rattle.rules.proofs.Val.{length-encode}
use package.Rattle.calls.specs.Answer.{Answer, accepted, refused, ◌>>=◌}
use package.Rattle.calls.specs.Values.{value, ancillae}
use package.Rattle.calls.specs.Runs.{Given, admit, Ran, ran, goes, returns, written}
use package.Rattle.calls.specs.Journal.{Journal, fields, write_out}
use package.Rattle.calls.specs.Conversions.{Turned, kept, turned}
use package.Rattle.calls.specs.Book.{after_turned}
use package.Rattle.calls.proofs.Answer.{refused≢accepted, accepted_inj, via, stops, unbind, first, later, unstop, require_yes, require-no}
use package.Rattle.calls.proofs.Values.{value-encode, length-encode-append}
use package.Rattle.calls.proofs.Runs.Parts.{admit_iff}
use package.Rattle.calls.proofs.Runs.Calls.{unit-fits}
use package.Rattle.valuebytes.specs.Ends.{is_some, is_value, value_in}
use package.Rattle.admission.specs.Admitting.{side_of}
use package.Rattle.runs.specs.Ended.{finished}
use package.Rattle.journal.proofs.Turns.{value_in_is}
use package.Rattle.answers.specs.declared.Done.{Done}
use package.Rattle.answers.specs.declared.Refusal.{Refusal}
use package.Rattle.answers.specs.declared.Refusal.TheVariants.{Full}
use package.Rattle.answers.specs.Answers.{number_of, place_of, summary, Later, accepts, refuses as rejects}
use package.Rattle.requests.specs.Runs.{run_of, called, RunMeans}
use package.Rattle.conversions.specs.Turns.{TurnMeans}

----------------------------------------------------------------
-- Values of runs fit

ran-fits : (fuel : ℕ) {x : Res Val} → Ends (λ w. fits w ≡ true) x → {r : Ran} → ran fuel x ≡ accepted r → fits r.value ≡ true
unfolding ran
ran-fits fuel (answers q) e = subst (λ (r : Ran). fits r.value ≡ true) (accepted_inj e) q
ran-fits fuel (refuses l) e = absurd (refused≢accepted e)
ran-fits fuel sticks e = absurd (refused≢accepted e)

pub run_fits : (back : Bool) (P : Program) (fuel : ℕ) (a : Given) {r : Ran} → run_of back P fuel a ≡ accepted r → fits r.value ≡ true
unfolding run_of goes returns
run_fits true P fuel a e = ran-fits fuel (run-backward-ends fits P unit-fits max_height a.fun a.ancillae a.value fuel) e
run_fits false P fuel a e = ran-fits fuel (run-forward-ends fits P max_height a.fun a.ancillae a.value fuel) e

-- so an output of `max_value_bytes` is long enough
pub finished_whole : (x : Answer Ran) → ((r : Ran) → x ≡ accepted r → fits r.value ≡ true) → finished max_value_bytes x ≡ x
unfolding finished ◌>>=◌ fits max_value_bytes
finished_whole (accepted r) f = via _ (require_yes 17 0 (f r refl)) refl
finished_whole (refused n p) f = refl

run_whole : (back : Bool) (P : Program) (fuel : ℕ) (a : Given) → finished max_value_bytes (run_of back P fuel a) ≡ run_of back P fuel a
run_whole back P fuel a = finished_whole (run_of back P fuel a) λ r e. run_fits back P fuel a e

----------------------------------------------------------------
-- A run into an output of `max_value_bytes`, as convert and rollback go on from it

module _ (back : Bool) (P : Program) (g fuel : ℕ) (anc bytes : List ℕ) (as? : Option (List Val)) (v? : Option Val) (as_read : ancillae anc ≡ as?) (v-read : value bytes ≡ v?) where
  pub record Carried (r : Ran) : Type 0 where
    pub given : Given
    pub admits : admit P g as? v? (side_of back) ≡ accepted given
    pub runs : run_of back P fuel given ≡ accepted r
    pub fitting : fits r.value ≡ true
    pub ancillae_read : as? ≡ some given.ancillae

  admitted-so : admit P g (ancillae anc) (value bytes) (side_of back) ≡ admit P g as? v? (side_of back)
  admitted-so = ap₂ (λ a v. admit P g a v (side_of back)) as_read v-read

  -- its value, with what it was given
  pub carried : {r : Ran} → called back P g anc bytes fuel max_value_bytes ≡ accepted r → Carried r
  unfolding called
  carried {r} e =
      given (unbind (admit P g (ancillae anc) (value bytes) (side_of back)) _ e) λ (a, p, q).
      given (sym (run_whole back P fuel a) ∙ q) λ s.
      record {
        given = a;
        admits = sym admitted-so ∙ p;
        runs = s;
        fitting = run_fits back P fuel a s;
        ancillae_read = ((admit_iff P g as? v? (side_of back) a).0 (sym admitted-so ∙ p)).ancillae_read;
      }

  -- its refusal is the call's
  pub not_carried : {B : Type 0} {n p : ℕ} (k : Given → Ran → Answer B) → called back P g anc bytes fuel max_value_bytes ≡ refused n p
      → (admit P g as? v? (side_of back) >>= λ a. run_of back P fuel a >>= k a) ≡ refused n p
  unfolding called
  not_carried {B} {n} {p} k e = elim (unstop (admit P g (ancillae anc) (value bytes) (side_of back)) _ e) [
    | first q ↦ stops _ (sym admitted-so ∙ q)
    | later a q s ↦ via _ (sym admitted-so ∙ q) (stops (k a) (sym (run_whole back P fuel a) ∙ s))
  ]

----------------------------------------------------------------
-- What the code of a run leaves

told : {k l m n : ℕ} → ◌≡◌ {A = Answer (ℕ × ℕ)} (accepted (k, l)) (accepted (m, n)) → (k ≡ m) × (l ≡ n)
told e = (ap (λ (p : ℕ × ℕ). p.0) (accepted_inj e), ap (λ (p : ℕ × ℕ). p.1) (accepted_inj e))

refused-same : {A B : Type 0} {n p m q : ℕ} → ◌≡◌ {A = Answer A} (refused m q) (refused n p) → ◌≡◌ {A = Answer B} (refused n p) (refused m q)
refused-same e = cc

pub record Into (x : Answer Ran) (out' : List ℕ) (d : Done) : Type 0 where
  pub ran : Ran
  pub is : x ≡ accepted ran
  pub len : d.len ≡ size ran.value
  pub steps : d.steps ≡ ran.steps
  -- the value stands at the output's front
  pub inside : d.len ≤ length out'
  pub front : take d.len out' ≡ encode ran.value

module _ {x : Answer Ran} {out out' : List ℕ} where
  pub ran-into : {d : Done} → RunMeans (Ok d) x out out' → Into x out' d
  unfolding written ◌>>=◌
  ran-into {d} R = go x refl
    where
      go : (y : Answer Ran) → x ≡ y → Into x out' d
      go (accepted r) e =
          let z : (d.len ≡ size r.value) × (d.steps ≡ r.steps) = told (R.answer ∙ ap summary e) in
          let o : out' ≡ encode r.value ++ drop (length (encode r.value)) out = R.output ∙ ap (λ y. written y out) e in
          record {
            ran = r;
            is = e;
            len = z.0;
            steps = z.1;
            inside = omega (arith, z.0, ap length o, length-encode-append r.value (drop (length (encode r.value)) out));
            front = ap (take d.len) o ∙ take_at (encode r.value) _ d.len (length-encode r.value ∙ sym z.0);
          }
      go (refused n p) e = absurd (refused≢accepted (sym (R.answer ∙ ap summary e)))

  pub refused-into : {r : Refusal} → RunMeans (Err r) x out out' → x ≡ refused (number_of r) (place_of r)
  refused-into {r} R = go x refl
    where
      go : (y : Answer Ran) → x ≡ y → x ≡ refused (number_of r) (place_of r)
      go (accepted s) e = absurd (refused≢accepted (R.answer ∙ ap summary e))
      go (refused n p) e = e ∙ refused-same (R.answer ∙ ap summary e)

-- the bytes of a value that fits are read as that value
module _ (v : Val) {h : List ℕ} (e : h ≡ encode v) (f : fits v ≡ true) where
  pub front-value : value h ≡ some v
  front-value = ap value e ∙ value-encode v f

  pub front_is_value : is_value h ≡ true
  front_is_value = ap is_some front-value

  pub front-value_in : value_in h ≡ v
  front-value_in = value_in_is h front-value

----------------------------------------------------------------
-- What convert and rollback answer

-- a refusal leaves the journal as it was
pub turn-refused : (r : Refusal) (j : List ℕ) {x : Answer Turned} → x ≡ refused (number_of r) (place_of r) → Later {A = ℕ × ℕ} (refused (number_of r) (place_of r))
    → TurnMeans (Err r) x j j
unfolding after_turned
turn-refused r j e l = rw e (record { answer = refl; later = l; journal = refl })

module _ (v : Val) (s : ℕ) (J : Journal) (j : List ℕ) where
  -- the journal does not fit
  pub turn-full : leb (length (fields J)) (length j) ≡ false → TurnMeans (Err Full) (turned (length j) (record { value = v; steps = s }) J) j j
  unfolding turned kept
  turn-full e = turn-refused Full j (stops _ (stops _ (require-no 20 0 e))) (rejects {n = 20} (omega arith))

  -- it fits, and is written
  pub turn-written : (d : Done) {j' : List ℕ} → leb (length (fields J)) (length j) ≡ true → d.len ≡ size v → d.steps ≡ s → j' ≡ write_out (length j) J
      → TurnMeans (Ok d) (turned (length j) (record { value = v; steps = s }) J) j j'
  unfolding turned kept after_turned
  turn-written d {j'} e l n w = subst (λ x. TurnMeans (Ok d) x j j')
      (sym (via _ (via _ (require_yes 20 0 e) refl) refl))
      (record { answer = ap₂ (λ l n. accepted (l, n)) l n; later = accepts; journal = w })
