-- The answers of admission, each as the definition has it: rows 9, 10 and 11 in their order.
use Prim.Native.Nat.{ℕ, ◌≤◌, ◌<◌}
use native.Mathlib.Omega.{arith}
use mathlib.Core.Path.{◌≡◌, refl, sym, ap, ◌∙◌}
use mathlib.Core.Bool.{Bool, true, false, ◌&&◌}
use mathlib.Core.Option.{Option, none, some}
use mathlib.Core.List.{List, map}
use lib.ListN.{length, get_or, length-map}
use lib.Dec.{eqb}
use package.Rattle.rules.specs.Val.{Val}
use package.Rattle.rules.specs.Term.{Fun, nth}
use package.Rattle.rules.proofs.Basics.{eqb_yes}
use package.Rattle.calls.specs.Answer.{Answer, accepted, refused, ◌>>=◌, require, present}
use package.Rattle.calls.specs.Entries.{type_of, term_at, FunctionEntry, function_at, function_of}
use package.Rattle.calls.specs.Values.{value, ancillae, has_ty, has_tys}
use package.Rattle.calls.specs.Runs.{Given, admit}
use package.Rattle.calls.proofs.Answer.{via, present_some, require_yes}
use package.Rattle.answers.specs.declared.Refusal.TheVariants.{Function, Values, ValueType}
use package.Rattle.answers.specs.Answers.{accepts}
use package.Rattle.answers.proofs.Answers.{refused_later}
use package.Rattle.valuebytes.specs.Typing.{entries_of}
use package.Rattle.valuebytes.specs.Ends.{value_in, values_in}
use Rattle.std.specs.Prelude.{Ok, Err}
use package.Rattle.admission.specs.Given.{given_in}
use package.Rattle.admission.specs.Admitting.{in_number, right_in, side_number, side_of, all_typed, AdmitMeans}
use package.Rattle.admission.proofs.Right.{right-values}
use package.Rattle.program.proofs.Programs.{function-there, function_none}
use package.Rattle.program.specs.Programs.{program_in, function_in}

----------------------------------------------------------------
-- Tests that fail

module _ {A : Type 0} where
  absent : {B : Type 0} (n : ℕ) (k : B → Answer A) {o : Option B} → o ≡ none → (present o n >>= k) ≡ refused n 0
  unfolding ◌>>=◌ present
  absent n k e = ap (λ o. present o n >>= k) e

  untrue : (n : ℕ) (k : Unit {0} → Answer A) {b : Bool} → b ≡ false → (require b n 0 >>= k) ≡ refused n 0
  unfolding ◌>>=◌ require
  untrue n k e = ap (λ b. require b n 0 >>= k) e

----------------------------------------------------------------
-- All of 10

-- values that are not right: malformed, over the limit, or wrong in number
wrong : (h : Fun) (as? : Option (List Val)) (v? : Option Val) (k : List Val → Val → Unit {0} → Answer Given) → in_number as? v? (length h.ancillae) ≡ false
    → (present as? 10 >>= λ vs. present v? 10 >>= λ v. require (eqb (length vs) (length h.ancillae)) 10 0 >>= k vs v) ≡ refused 10 0
unfolding in_number ◌>>=◌ present
wrong h none v? k e = refl
wrong h (some vs) none k e = refl
wrong h (some vs) (some v) k e = untrue 10 (k vs v) e

module _ (xs types functions : List ℕ) (g : ℕ) (anc bytes : List ℕ) (back : Bool) where
  pub no-function : length functions ≤ g → AdmitMeans (Err Function) xs types functions g anc bytes back
  unfolding admit
  no-function l = record {
    answer = λ terms. sym (absent 9 _ (function_none xs functions g types terms l));
    later = λ terms. refused_later Function (omega arith);
  }

  -- the function is there, its field at `at`
  module _ (l : g < length functions) {at : ℕ} (q : at ≡ get_or functions g 0) where
    abbrev h : FunctionEntry
    h = function_at xs at

    function_is : (terms : List ℕ) → function_in xs types terms (get_or functions g 0) ≡ function_of (entries_of xs types) (map (term_at xs) terms) h
    function_is terms = ap (λ at. function_of (entries_of xs types) (map (term_at xs) terms) (function_at xs at)) (sym q)

    there : (terms : List ℕ) → nth (program_in xs types terms functions) g ≡ some (function_in xs types terms (get_or functions g 0))
    there terms = function-there xs functions g types terms l

    -- as many ancillae as the tree of the function has
    count_same : (terms : List ℕ) → length h.ancillae ≡ length (function_in xs types terms (get_or functions g 0)).ancillae
    unfolding function_of
    count_same terms = sym (ap (λ h. length h.ancillae) (function_is terms) ∙ length-map h.ancillae (type_of (entries_of xs types)))

    pub bad-values : {b : Bool} → b ≡ right_in anc bytes h → b ≡ false → AdmitMeans (Err Values) xs types functions g anc bytes back
    unfolding admit
    bad-values e f = record {
      answer = λ terms. sym (via _ (present_some 9 (there terms)) (wrong (function_in xs types terms (get_or functions g 0)) (ancillae anc) (value bytes) _
          (ap (in_number (ancillae anc) (value bytes)) (sym (count_same terms)) ∙ sym e ∙ f)));
      later = λ terms. refused_later Values (omega arith);
    }

    module _ (right : right_in anc bytes h ≡ true) where
      -- what is left to test
      abbrev last : (terms : List ℕ) → Answer Given
      last terms = require (has_tys (values_in anc) (function_in xs types terms (get_or functions g 0)).ancillae && has_ty (value_in bytes)
          (side_of back (function_in xs types terms (get_or functions g 0)))) 11 0
          >>= λ typed. accepted (given_in xs types terms functions g anc bytes)

      reached : (terms : List ℕ) → admit (program_in xs types terms functions) g (ancillae anc) (value bytes) (side_of back) ≡ last terms
      unfolding admit
      reached terms =
          via _ (present_some 9 (there terms))
          (via _ (present_some 10 (right-values anc bytes xs at right).ancillae_read)
          (via _ (present_some 10 (right-values anc bytes xs at right).value_read)
          (via _ (require_yes 10 0 (ap (eqb (length (values_in anc))) (sym ((right-values anc bytes xs at right).number ∙ count_same terms))
          ∙ eqb_yes (length (values_in anc)))) refl)))

      side_same : (back : Bool) (terms : List ℕ) → side_of back (function_of (entries_of xs types) (map (term_at xs) terms) h) ≡ type_of (entries_of xs types)
          (side_number back h)
      unfolding function_of side_number
      side_same true terms = refl
      side_same false terms = refl

      typed-same : (terms : List ℕ) → (has_tys (values_in anc) (function_in xs types terms (get_or functions g 0)).ancillae && has_ty (value_in bytes)
          (side_of back (function_in xs types terms (get_or functions g 0))))
          ≡ all_typed (entries_of xs types) h back anc bytes
      unfolding function_of
      typed-same terms =
          ap (λ h. has_tys (values_in anc) h.ancillae && has_ty (value_in bytes) (side_of back h)) (function_is terms)
          ∙ ap (λ c. has_tys (values_in anc) (map (type_of (entries_of xs types)) h.ancillae) && has_ty (value_in bytes) c) (side_same back terms)

      module _ {b : Bool} (e : b ≡ all_typed (entries_of xs types) h back anc bytes) where
        pub wrong_type : b ≡ false → AdmitMeans (Err ValueType) xs types functions g anc bytes back
        wrong_type f = record {
          answer = λ terms. sym (reached terms ∙ untrue 11 _ (typed-same terms ∙ sym e ∙ f));
          later = λ terms. refused_later ValueType (omega arith);
        }

        pub all_given : b ≡ true → AdmitMeans (Ok tt) xs types functions g anc bytes back
        all_given y = record {
          answer = λ terms. sym (reached terms ∙ via _ (require_yes 11 0 (typed-same terms ∙ sym e ∙ y)) refl);
          later = λ terms. accepts;
        }

-- a number that was widened
pub index-there : {i g n : ℕ} → i ≡ g → i < n → g < n
index-there e l = omega arith

pub index-beyond : {i g n : ℕ} → i ≡ g → n ≤ i → n ≤ g
index-beyond e l = omega arith
