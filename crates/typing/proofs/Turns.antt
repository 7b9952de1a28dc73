-- The functions in order: one turn of the loop over them.
use Prim.Native.Nat.{ℕ, suc, ◌+◌, ◌<◌, ◌≤◌}
use native.Mathlib.Omega.{arith}
use native.Mathlib.Numerals.{add-one}
use mathlib.Core.Path.{◌≡◌, refl, sym, ap, ◌∙◌}
use mathlib.Core.List.{List, ◌∷◌, map}
use lib.ListN.{length, get_or, drop, length-map, get_or-map, drop_of_length-le}
use lib.Seq.{drop-cons}
use Rattle.std.specs.Prelude.{Err}
use package.Rattle.rules.specs.Limits.{max_variables, max_nodes}
use package.Rattle.rules.specs.Check.{Checked, good, bad, ◌>>◌, check_funs, check}
use package.Rattle.calls.specs.Answer.{Answer, accepted, refused}
use package.Rattle.calls.specs.Fields.{Layout}
use package.Rattle.calls.specs.Entries.{type_at, term_at, function_at, function_of, entries_at, program_of}
use package.Rattle.calls.specs.Load.{typed}
use package.Rattle.calls.proofs.Answer.{refused≢accepted}
use package.Rattle.program.specs.Places.{places_of}
use package.Rattle.program.specs.Programs.{program_in, function_in}
use package.Rattle.typing.specs.declared.subject.Subject.{Subject}
use package.Rattle.typing.specs.declared.functions.TypingError.{TypingError}
use package.Rattle.typing.specs.declared.functions.TypingError.TheVariants.{Differ, Unscoped, Misused}
use package.Rattle.typing.specs.Checked.{verdict_of, Typeable, function_answer, typing_answer}

----------------------------------------------------------------
-- Answers one after another

after : (L : Layout) (c d : Checked (Unit {0})) → typed L c ≡ accepted tt → typed L (c >> d) ≡ typed L d
unfolding typed ◌>>◌
after L (good u) d e = refl
after L (bad n p) d e = absurd (refused≢accepted e)

before : (L : Layout) (c d : Checked (Unit {0})) {n at : ℕ} → typed L c ≡ refused n at → typed L (c >> d) ≡ refused n at
unfolding typed ◌>>◌
before L (good u) d e = absurd (refused≢accepted (sym e))
before L (bad n p) d e = e

----------------------------------------------------------------
-- From a function on

-- the answer for the functions from entry `g` on
abbrev pub from_function : List ℕ → List ℕ → List ℕ → List ℕ → ℕ → Answer (Unit {0})
from_function xs types terms functions g =
    typed (places_of types terms functions) (check_funs max_variables max_nodes (program_in xs types terms functions) g
    (drop g (program_in xs types terms functions)))

-- the same over what is typed
abbrev pub from_by : Subject → ℕ → Answer (Unit {0})
from_by x g = from_function x.entries.program.now x.entries.types.now x.entries.terms.now x.entries.functions.now g

module _ (xs types terms functions : List ℕ) where
  pub from_first : typing_answer xs types terms functions ≡ from_function xs types terms functions 0
  unfolding check
  from_first = refl

  as_many : length (program_in xs types terms functions) ≡ length functions
  unfolding program_of entries_at
  as_many = length-map (map (function_at xs) functions) (function_of (map (type_at xs) types) (map (term_at xs) terms)) ∙ length-map functions (function_at xs)

  next : (g : ℕ) → g < length functions
      → drop g (program_in xs types terms functions) ≡ function_in xs types terms (get_or functions g 0) ∷ drop (suc g) (program_in xs types terms functions)
  unfolding program_of entries_at
  next g l = drop-cons (program_in xs types terms functions) g (function_in xs types terms 0) (omega (arith, as_many))
      ∙ ap (λ h. h ∷ drop (suc g) (program_in xs types terms functions))
      (get_or-map (function_of (map (type_at xs) types) (map (term_at xs) terms)) (map (function_at xs) functions) g (function_at xs 0)
      ∙ ap (function_of (map (type_at xs) types) (map (term_at xs) terms)) (get_or-map (function_at xs) functions g 0))

  module _ (g : ℕ) (l : g < length functions) where
    pub function-typed : function_answer xs types terms functions g ≡ accepted tt
        → from_function xs types terms functions g ≡ from_function xs types terms functions (g + 1)
    unfolding check_funs
    function-typed e =
        ap (λ hs. typed (places_of types terms functions) (check_funs max_variables max_nodes (program_in xs types terms functions) g hs)) (next g l)
        ∙ after (places_of types terms functions) _ _ e
        ∙ ap (from_function xs types terms functions) (sym (add-one g))

    function-refused : {n at : ℕ} → function_answer xs types terms functions g ≡ refused n at → from_function xs types terms functions g ≡ refused n at
    unfolding check_funs
    function-refused e =
        ap (λ hs. typed (places_of types terms functions) (check_funs max_variables max_nodes (program_in xs types terms functions) g hs)) (next g l)
        ∙ before (places_of types terms functions) _ _ e

    pub function-failed : (e : TypingError) → verdict_of (Err e) ≡ function_answer xs types terms functions g
        → verdict_of (Err e) ≡ from_function xs types terms functions g
    function-failed (Differ at) h = sym (function-refused (sym h))
    function-failed (Unscoped at) h = sym (function-refused (sym h))
    function-failed (Misused at) h = sym (function-refused (sym h))

  pub from_last : (g : ℕ) → length functions ≤ g → from_function xs types terms functions g ≡ accepted tt
  unfolding check_funs typed
  from_last g l = ap (λ hs. typed (places_of types terms functions) (check_funs max_variables max_nodes (program_in xs types terms functions) g hs))
      (drop_of_length-le (program_in xs types terms functions) {i = g} (omega (arith, as_many)))

-- the bytes for product nodes matter by their length alone
pub typeable_kept : {xs types terms functions nodes heap heap' : List ℕ} → length heap' ≡ length heap → Typeable xs types terms functions nodes heap
    → Typeable xs types terms functions nodes heap'
typeable_kept e Y = record { read = Y.read; tested = Y.tested; held = Y.held; counted = Y.counted; room = omega (arith, Y.room) }
