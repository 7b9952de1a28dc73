-- What decoding asks for, and what is known of the rows, holds of every program that is accepted: fields read, entries tested, typed.
use Prim.Native.Nat.{ℕ, ◌+◌, ◌≤◌, ◌<◌}
use native.Mathlib.Omega.{arith}
use native.Mathlib.Decide.{dec_lt}
use mathlib.Core.Path.{◌≡◌, sym, ap, ap₂, subst, ◌∙◌}
use mathlib.Core.Option.{some}
use mathlib.Core.List.{List, map}
use lib.ListN.{length, get_or, length-map}
use package.Rattle.rules.specs.Limits.{max_parameters, max_variables}
use package.Rattle.rules.specs.Term.{Term, Fun, Program, nth}
use package.Rattle.rules.specs.Typing.{WellTyped}
use package.Rattle.rules.proofs.Basics.{none≢some, some_inj}
use package.Rattle.rules.proofs.Lists.{get_map, nth-map}
use package.Rattle.rules.proofs.Typing.Functions.{length-parameters, body_typed}
use package.Rattle.calls.specs.Answer.{accepted}
use package.Rattle.calls.specs.Fields.{kind_at, length_at}
use package.Rattle.calls.specs.Entries.{TypeEntry, type_at, type_of, TermEntry, n_unit, term_at, term_tree, term_of, call_ancillae, FunctionEntry, function_at, function_of, Entries, entries_at, program_of}
use package.Rattle.calls.specs.Named.{test_entries}
use package.Rattle.calls.specs.Tested.{Good, TermGood}
use package.Rattle.calls.proofs.Trees.{entries-good, good-lower, term-unfolds}
use package.Rattle.program.specs.Parts.{body, variable, Formed}
use package.Rattle.program.specs.Places.{places_of, Placed}
use package.Rattle.program.specs.Programs.{program_in as programAt}
use package.Rattle.program.proofs.Inside.{formed}
use package.Rattle.program.proofs.Lists.{ancillae-count, count-trees}
use package.Rattle.program.proofs.Programs.{entry-there, function-there, function_none}
use package.Rattle.program.proofs.Rooms.{term-kind}
use package.Rattle.program.proofs.Shapes.{term-var, term-call, function-body}
use package.Rattle.program.specs.Kinds.{variable_kind, call_kind}
use package.Rattle.decoded.specs.Rows.{room_for, body_in, function_in, term_count, program_in, Rows}
use package.Rattle.decoded.specs.Decoding.{FieldsOfTerms, FieldsOfFunctions, TermRow, Decodes}
use package.Rattle.decoded.proofs.Used.{every_term}
use package.Rattle.decoded.proofs.Fitting.{Fitting, fitting-typed, fitting-parts, few-ancillae, small-variable}

----------------------------------------------------------------
-- The program that the rows are

module _ {code p terms functions : List ℕ} (D : Decodes code p terms functions) where
  pub decoded-program : (ys : List TypeEntry)
      → program_in code ys ≡ program_of (record { types = ys; terms = map (term_at p) terms; functions = map (function_at p) functions })
  decoded-program ys = ap₂ (λ ts fs. program_of (record { types = ys; terms = ts; functions = fs })) D.terms_are D.functions_are

  pub decoded-body : (g : ℕ) → g < length functions → body_in code g ≡ body p (get_or functions g 0)
  unfolding function_in
  decoded-body g l = ap (λ (h : FunctionEntry). h.body) (D.function g l).entry ∙ function-body p (get_or functions g 0)

----------------------------------------------------------------
-- Fields read

module _ {p types terms functions : List ℕ} (read : Placed p types terms functions) where
  abbrev entries : Entries
  entries = entries_at p (places_of types terms functions)

  fields : Formed p (places_of types terms functions)
  fields = formed p read.read

  pub accepted-functions : FieldsOfFunctions p functions
  accepted-functions = record { field = fields.functions; few = fields.few_functions }

  ----------------------------------------------------------------
  -- Entries tested

  module _ (tested : test_entries (places_of types terms functions) (entries_at p (places_of types terms functions)) ≡ accepted tt) where
    good : Good entries
    good = entries-good (places_of types terms functions) entries tested

    as_many_terms : length entries.terms ≡ length terms
    unfolding entries_at
    as_many_terms = length-map terms (term_at p)

    as_many_functions : length entries.functions ≡ length functions
    unfolding entries_at
    as_many_functions = length-map functions (function_at p)

    term-good : (t : ℕ) → t < length terms → TermGood entries t (term_at p (get_or terms t 0))
    unfolding entries_at
    term-good t l = subst (TermGood entries t) (get_map (term_at p) terms t n_unit l) (good.term t (omega (arith, as_many_terms)))

    body_there : (g : ℕ) → g < length functions → body p (get_or functions g 0) < length terms
    unfolding entries_at
    body_there g l =
        omega (arith, (good.function g _ (entry-there p functions g l)).body_there, function-body p (get_or functions g 0), as_many_terms)

    pub accepted-rows : {code : List ℕ} → Decodes code p terms functions → Rows code
    accepted-rows {code} D = record {
      few_terms = rw D.as_many_terms fields.few_terms;
      few_functions = rw D.as_many_functions fields.few_functions;
      known = λ t l. rw (row t l).kind (term-kind (fields.terms t (there l)));
      few = λ t l. (row t l).few;
      lower = λ t l. rw (row t l).entry (term-good t (there l)).terms_lower;
      called = λ t l. rw ((row t l).entry, D.as_many_functions, sym as_many_functions) (term-good t (there l)).functions_there;
      bodies = λ g l. let h : g < length functions = omega (arith, D.as_many_functions) in rw (decoded-body D g h, D.as_many_terms) (body_there g h);
      variables = λ t l. (row t l).variables;
      names = λ t l. D.names t (there l);
    }
      where
        there : {t : ℕ} → t < term_count code → t < length terms
        there l = omega (arith, D.as_many_terms)

        row : (t : ℕ) → t < term_count code → TermRow code t p (get_or terms t 0)
        row t l = D.row t (there l)

    ----------------------------------------------------------------
    -- Typed

    module _ (variables most : ℕ) (most-variables : variables ≤ max_variables)
        (typed : WellTyped variables most (program_of (entries_at p (places_of types terms functions)))) where
      abbrev program : Program
      program = programAt p types terms functions

      -- the tree of a term entry, and the same by the trees of the terms that the entry names
      abbrev tree : ℕ → Term
      tree = term_of entries.types entries.terms

      abbrev tree_by : ℕ → TermEntry → Term
      tree_by = term_tree (type_of entries.types) tree

      -- a function has at most eight parameters, one of them dynamic
      short : (g : ℕ) (h : Fun) → nth program g ≡ some h → length h.ancillae ≤ room_for
      unfolding function_of max_parameters
      short g h e = go (dec_lt g (length functions))
        where
          go : Dec (g < length functions) → length h.ancillae ≤ room_for
          go (yes l) =
              subst (λ (h : Fun). length h.ancillae ≤ room_for) (some_inj (sym (function-there p functions g types terms l) ∙ e))
              (omega (
                arith,
                (fields.functions g l).few,
                ancillae-count p (get_or functions g 0),
                length-map (function_at p (get_or functions g 0)).ancillae (type_of (map (type_at p) types)),
              ))
          go (no l) = absurd (none≢some (sym (function_none p functions g types terms (omega arith)) ∙ e))

      -- a body is typed with its parameters in scope
      fitting-body : (g : ℕ) (h : FunctionEntry) → nth entries.functions g ≡ some h → Fitting (tree h.body)
      unfolding program_of function_of
      fitting-body g h e =
          fitting-typed variables most most-variables program short (body_typed variables most program (typed g called there))
          (omega (arith, length-parameters called.ancillae, short g called there))
        where
          called : Fun
          called = function_of entries.types entries.terms h

          there : nth program g ≡ some called
          there = nth-map _ entries.functions g e

      fitting_unfolded : (k : ℕ) → Fitting (tree k) → Fitting (tree_by k (get_or entries.terms k n_unit))
      fitting_unfolded k f = subst Fitting (term-unfolds entries.types entries.terms (good-lower good) k) f

      fitting-term : (k : ℕ) → k < length entries.terms → Fitting (tree k)
      fitting-term =
          every_term (places_of types terms functions) entries (λ k. Fitting (tree k)) tested fitting-body
          (λ u l f. fitting-parts (type_of entries.types) tree u (get_or entries.terms u n_unit) (fitting_unfolded u f))

      fitting-entry : (t : ℕ) → t < length terms → Fitting (tree_by t (get_or entries.terms t n_unit))
      fitting-entry t l = fitting_unfolded t (fitting-term t (omega (arith, as_many_terms)))

      few-call : (t : ℕ) → t < length terms → kind_at p (get_or terms t 0) ≡ call_kind → call_ancillae (length_at p (get_or terms t 0)) ≤ room_for
      unfolding entries_at
      few-call t l e =
          rw (count-trees tree p (get_or terms t 0 + 6) (call_ancillae (length_at p (get_or terms t 0)))) at
          (few-ancillae (type_of entries.types) tree t (get_map (term_at p) terms t n_unit l ∙ term-call p (get_or terms t 0) e) (fitting-entry t l))

      small : (t : ℕ) → t < length terms → kind_at p (get_or terms t 0) ≡ variable_kind → variable p (get_or terms t 0) < max_variables
      unfolding entries_at
      small t l e =
          small-variable (type_of entries.types) tree t (get_map (term_at p) terms t n_unit l ∙ term-var p (get_or terms t 0) e) (fitting-entry t l)

      pub accepted-terms : FieldsOfTerms p terms
      accepted-terms = record {
        row = λ t l. record { field = fields.terms t l; few = few-call t l; variables = small t l };
        lower = λ t l. (term-good t l).terms_lower;
        few = fields.few_terms;
      }
