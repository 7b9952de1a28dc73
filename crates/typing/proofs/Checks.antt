-- Typing one function: what typing its body asks for holds, and what it answers makes the answer for the function.
use Prim.Native.Nat.{ℕ, ◌-◌, ◌<◌, ◌≤◌}
use native.Mathlib.Omega.{arith}
use mathlib.Core.Path.{◌≡◌, refl, sym, ap, ap₂, subst, ◌∙◌}
use mathlib.Core.Bool.{Bool, true, false}
use mathlib.Core.Option.{some}
use mathlib.Core.List.{List, [], ◌∷◌, map}
use lib.ListN.{length, get_or, take, length-map}
use package.Rattle.rules.specs.Limits.{max_variables, max_nodes, max_parameters}
use package.Rattle.rules.specs.Ty.{Ty, same_ty}
use package.Rattle.rules.specs.Term.{Fun, Program, nth, used_in}
use package.Rattle.rules.specs.Typing.{dynamic, Context}
use package.Rattle.rules.specs.Check.{function, Checked, ◌>>=◌, ◌>>◌, need, spent, statics, infer, check_fun}
use package.Rattle.calls.specs.Answer.{Answer, refused, require}
use package.Rattle.calls.specs.Answer as answer
use package.Rattle.calls.specs.Fields.{Layout, parameters_at}
use package.Rattle.calls.specs.Entries.{type_at, type_of, term_at, function_at, function_of, entries_at}
use package.Rattle.calls.specs.Named.{types_of_function, below}
use package.Rattle.calls.specs.Load.{offset, typed}
use package.Rattle.calls.proofs.Trees.{entries-good}
use package.Rattle.calls.specs.Tested.{Good}
use package.Rattle.program.specs.Parts.{TermField, FunctionField, Formed, body}
use package.Rattle.program.specs.Places.{places_of}
use package.Rattle.program.specs.Signatures.{SignatureIs}
use package.Rattle.program.proofs.Inside.{formed}
use package.Rattle.program.proofs.Shapes.{function-body}
use package.Rattle.program.specs.Programs.{program_in, function_in}
use package.Rattle.program.proofs.Lists.{ancillae-count}
use package.Rattle.types.specs.Figures.{Figured}
use package.Rattle.types.specs.Codes.{tree_in, Readable, Sources}
use package.Rattle.types.specs.Counts.{Counted}
use package.Rattle.types.proofs.Beginning.{readable, no-products, counted}
use package.Rattle.varsets.specs.Sets.{has}
use package.Rattle.typing.specs.declared.outcomes.Scope.{Scope}
use package.Rattle.typing.specs.declared.outcomes.Found.{Found}
use package.Rattle.typing.specs.declared.outcomes.Fault.{Fault}
use package.Rattle.typing.specs.declared.outcomes.Fault.TheVariants.{Differ, Unscoped, Misused}
use Rattle.std.specs.Prelude.{Ok, Err}
use package.Rattle.typing.specs.Outcomes.{Out}
use package.Rattle.typing.specs.Sizes.{terms_in}
use package.Rattle.typing.specs.Outcomes.{fault_of, status_of, meaning}
use package.Rattle.typing.specs.Ready.{term_in, typing_of, Entered, Ready}
use package.Rattle.typing.specs.Asked.{Infers}
use package.Rattle.typing.specs.Checked.{Typeable, Signed, Started, function_answer, end_answer, fault_answer}
use package.Rattle.typing.proofs.Sizes.{body-size}
use package.Rattle.typing.proofs.Called.{entry-there, function-field}

----------------------------------------------------------------
-- The answer for a function

-- the tests after the body, at the function's field
ends_at : (L : Layout) (g : ℕ) {at : ℕ} → at ≡ offset L (function g) → (a b : Bool)
    → typed L (need a 6 (function g) >> need b 8 (function g)) ≡ answer.◌>>=◌ (require a 6 at) λ same. require b 8 at
unfolding typed need ◌>>◌ require answer.◌>>=◌
ends_at L g s true true = refl
ends_at L g s true false = ap (refused 8) (sym s)
ends_at L g s false b = ap (refused 6) (sym s)

fault_at : (types terms functions : List ℕ) (why : Fault) (k : Ty → Checked (Unit {0}))
    → typed (places_of types terms functions) (fault_of why >>= k) ≡ fault_answer terms why
unfolding typed offset fault_of ◌>>=◌
fault_at types terms functions (Differ t) k = refl
fault_at types terms functions (Unscoped t) k = refl
fault_at types terms functions (Misused t) k = refl

-- the context that the rules type the body in
abbrev start_of : Fun → Context
start_of h = dynamic false h.dynamic ∷ statics h.ancillae []

-- the tests after the body, which has the type `τ`
abbrev rest_of : ℕ → Fun → Ty → Checked (Unit {0})
rest_of g h τ = need (same_ty τ h.result) 6 (function g) >> need (spent (length h.ancillae) h.dynamic h.body) 8 (function g)

check_by : (L : Layout) (P : Program) (g : ℕ) (h : Fun) {m : Checked Ty} → m ≡ infer max_variables max_nodes P (start_of h) h.body
    → typed L (check_fun max_variables max_nodes P g h) ≡ typed L (m >>= rest_of g h)
unfolding check_fun
check_by L P g h e = ap (λ m. typed L (m >>= rest_of g h)) (sym e)

----------------------------------------------------------------
-- A function of a program that is tested

module _ {xs types terms functions nodes heap : List ℕ} (Y : Typeable xs types terms functions nodes heap) where
  fields : Formed xs (places_of types terms functions)
  fields = formed xs Y.read.read

  tested : Good (entries_at xs (places_of types terms functions))
  tested = entries-good (places_of types terms functions) (entries_at xs (places_of types terms functions)) Y.tested

  read : Readable xs types
  unfolding entries_at
  read = readable fields tested.types_lower

  pub readable-types : Readable xs types
  readable-types = read

  pub term-fields : (t : ℕ) → t < length terms → TermField xs (get_or terms t 0)
  term-fields = fields.terms

  pub sources : Figured (map (type_at xs) types) heap (length types) → Sources xs types heap 0
  sources F = no-products read F

  entered : Entered xs types terms functions nodes
  entered = record { formed = fields; tested = tested; counted = counts }
    where
      size : length (map (type_at xs) types) ≡ length types
      size = length-map types (type_at xs)

      counts : Counted xs types nodes
      counts = counted read (omega (arith, size, Y.held)) (ap (λ n. take n nodes) size ∙ Y.counted)

  module _ {g at : ℕ} (l : g < length functions) (s : at ≡ get_or functions g 0) where
    there : nth (map (function_at xs) functions) g ≡ some (function_at xs at)
    there = entry-there entered l s

    pub field : FunctionField xs at
    field = function-field entered l s

    pub signed : {row : List ℕ} → SignatureIs (function_at xs (get_or functions g 0)) row → Signed xs types at row
    unfolding entries_at
    signed {row} S = record {
      formed = field;
      signature = subst (λ at. SignatureIs (function_at xs at) row) (sym s) S;
      there = subst (λ n. below n (types_of_function (function_at xs at)) ≡ true) (length-map types (type_at xs))
          (tested.function g (function_at xs at) there).types_there;
    }

    pub body_there : {b : ℕ} → b ≡ body xs at → b < length terms
    unfolding entries_at
    body_there e =
        let h : (function_at xs at).body < length (map (term_at xs) terms) = (tested.function g (function_at xs at) there).body_there in
        omega (arith, length-map terms (term_at xs), e, function-body xs at)

    pub ready : {vars : List ℕ} {sc : Scope} {b : ℕ} → Started xs types heap vars at sc → b ≡ body xs at
        → Ready (terms_in (term_in xs types terms b)) xs types terms functions nodes heap vars sc 0
    unfolding entries_at
    ready {b = b} S e =
        let bounded : terms_in (term_in xs types terms (function_at xs at).body) ≤ length (map (term_at xs) terms) =
        body-size (places_of types terms functions) (entries_at xs (places_of types terms functions)) Y.tested g (function_at xs at) there in
        let same : terms_in (term_in xs types terms b) ≡ terms_in (term_in xs types terms (function_at xs at).body) =
        ap (λ t. terms_in (term_in xs types terms t)) (e ∙ sym (function-body xs at)) in
        record {
          entries = entered;
          scoped = S.scoped;
          room = omega (arith, Y.room);
          small = omega (arith, length-map terms (term_at xs), fields.few_terms);
          waiting = omega (arith, S.none_wait, length-map terms (term_at xs), fields.few_terms);
        }

    -- the function's answer, by its offset
    by_offset : function_answer xs types terms functions g
        ≡ typed (places_of types terms functions) (check_fun max_variables max_nodes (program_in xs types terms functions) g (function_in xs types terms at))
    by_offset = ap (λ at. typed (places_of types terms functions)
        (check_fun max_variables max_nodes (program_in xs types terms functions) g (function_in xs types terms at))) (sym s)

    module _ {vars vars' heap' : List ℕ} {sc : Scope} {b : ℕ} {out : Out} (S : Started xs types heap vars at sc) (e : b ≡ body xs at)
        (I : Infers xs types terms functions heap heap' vars vars' sc 0 b out) where
      the_body : term_in xs types terms b ≡ (function_in xs types terms at).body
      unfolding function_of
      the_body = ap (term_in xs types terms) (e ∙ sym (function-body xs at))

      answered : meaning xs types heap' out ≡ typing_of xs types terms functions (start_of (function_in xs types terms at)) (function_in xs types terms at).body
      unfolding function_of
      answered = I.answer ∙ ap₂ (typing_of xs types terms functions) S.context the_body

      pub typed-answer : {f : Found} {a : Answer (Unit {0})} → out.status ≡ Ok f
          → a ≡ end_answer xs types at (tree_in xs types heap' f.code) (has f.uses (parameters_at xs at - 1)) → a ≡ function_answer xs types terms functions g
      unfolding end_answer spent status_of offset function_of ◌>>=◌ max_parameters
      typed-answer {f} t r = r ∙ sym (by_offset
          ∙ check_by (places_of types terms functions) (program_in xs types terms functions) g (function_in xs types terms at)
          (sym (ap (status_of (tree_in xs types heap')) t) ∙ answered)
          ∙ ends_at (places_of types terms functions) g s _ _
          ∙ ap (λ u. end_answer xs types at (tree_in xs types heap' f.code) u) used)
        where
          n : ℕ
          n = length (function_in xs types terms at).ancillae

          count : n ≡ parameters_at xs at - 1
          count = length-map (function_at xs at).ancillae (type_of (map (type_at xs) types)) ∙ ancillae-count xs at

          used : used_in n (function_in xs types terms at).body ≡ has f.uses (parameters_at xs at - 1)
          used = ap (used_in n) (sym the_body) ∙ sym ((I.uses f t).each n (omega (arith, count, field.few))) ∙ ap (has f.uses) count

      pub refused-answer : {why : Fault} {a : Answer (Unit {0})} → out.status ≡ Err why → a ≡ fault_answer terms why
          → a ≡ function_answer xs types terms functions g
      unfolding status_of
      refused-answer {why} t r = r ∙ sym (by_offset
          ∙ check_by (places_of types terms functions) (program_in xs types terms functions) g (function_in xs types terms at)
          (sym (ap (status_of (tree_in xs types heap')) t) ∙ answered)
          ∙ fault_at types terms functions why (rest_of g (function_in xs types terms at)))
