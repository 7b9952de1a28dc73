-- The function that a call names, and lists of references from a number on.
use Prim.Native.Nat.{ℕ, suc, ◌+◌, ◌*◌, ◌-◌, ◌≤◌, ◌<◌}
use native.Mathlib.Omega.{arith}
use mathlib.Core.Path.{◌≡◌, sym, ap, ap₂, subst, ◌∙◌}
use mathlib.Core.Bool.{true}
use mathlib.Core.Option.{some}
use mathlib.Core.List.{List, [], ◌∷◌, ◌++◌, map}
use lib.ListN.{length, get_or, length-map}
use package.Rattle.rules.specs.Term.{end, more, Fun, nth}
use package.Rattle.rules.specs.Limits.{max_functions, max_parameters}
use package.Rattle.rules.proofs.Lists.{nth-map, nth-there}
use package.Rattle.calls.specs.Fields.{parameters_at}
use package.Rattle.calls.specs.Entries.{type_at, type_of, term_at, term_trees, references, function_at, function_of, entries_at, program_of}
use package.Rattle.calls.specs.Named.{types_of_function, below}
use package.Rattle.calls.proofs.Entries.{below-head}
use package.Rattle.program.specs.Parts.{listed, result_of, FunctionField}
use package.Rattle.program.specs.Signatures.{parameter_types, SignaturesAre}
use package.Rattle.program.proofs.Rooms.{function-room}
use package.Rattle.program.proofs.Rows.{parameter_at}
use package.Rattle.program.proofs.Shapes.{function-dynamic}
use package.Rattle.program.specs.Programs.{program_in}
use package.Rattle.program.proofs.Lists.{below_last, below_each}
use package.Rattle.typing.specs.Ready.{term_in, terms_from, types_from, Entered}

----------------------------------------------------------------
-- The function that is called

module _ {p types terms functions nodes : List ℕ} (E : Entered p types terms functions nodes) {g h : ℕ} (there : g < length functions)
    (q : h ≡ get_or functions g 0) where
  pub entry-there : nth (map (function_at p) functions) g ≡ some (function_at p h)
  entry-there = nth-map (function_at p) functions g (nth-there functions g there ∙ ap some (sym q))

  abbrev pub called : Fun
  called = function_of (map (type_at p) types) (map (term_at p) terms) (function_at p h)

  pub called_in : nth (program_in p types terms functions) g ≡ some called
  unfolding program_of entries_at
  called_in = nth-map (function_of (map (type_at p) types) (map (term_at p) terms)) (map (function_at p) functions) g entry-there

  pub function-field : FunctionField p h
  function-field = subst (FunctionField p) (sym q) (E.formed.functions g there)

  pub read-function : h + 8 + 2 * parameters_at p h ≤ length p
  read-function = function-room function-field

  pub some_parameters : (1 ≤ parameters_at p h) × (parameters_at p h ≤ 8)
  unfolding max_parameters
  some_parameters = (function-field.some, function-field.few)

  -- its row of the table of signatures: it is there, and has the types of the parameters
  pub row-there : g < max_functions
  row-there = omega (arith, there, E.formed.few_functions)

  pub row_parameter : {table : List (List ℕ)} → SignaturesAre p functions table → (k : ℕ) → k < parameters_at p h
      → get_or (get_or table g []) k 0 ≡ listed p h k
  row_parameter S k l =
      (S.rows g there).each k ∙ ap (λ h. get_or (parameter_types (function_at p h)) k 0) (sym q) ∙ sym (parameter_at function-field k l)

  -- the types that it names are there
  types_named_lem : below (length types) (result_of p h ∷ (references p (h + 6) (parameters_at p h - 1) ++ ((function_at p h).dynamic ∷ []))) ≡ true
  unfolding entries_at types_of_function function_at
  types_named_lem = subst (λ n. below n (types_of_function (function_at p h)) ≡ true) (length-map types (type_at p))
      (E.tested.function g (function_at p h) entry-there).types_there

  pub result-there : result_of p h < length types
  result-there = (below-head (length types) (result_of p h) _ types_named_lem).0

  pub parameter_there : (k : ℕ) → k < parameters_at p h - 1 → listed p h k < length types
  parameter_there k l = below_each (length types) p (h + 6) (parameters_at p h - 1) _ (below-head (length types) (result_of p h) _ types_named_lem).1 k l

  pub dynamic-there : listed p h (parameters_at p h - 1) < length types
  dynamic-there = rw (← function-dynamic p h function-field.some)
      (below_last (length types) p (h + 6) (parameters_at p h - 1) _ (below-head (length types) (result_of p h) _ types_named_lem).1)

----------------------------------------------------------------
-- Lists of references

module _ (p types : List ℕ) (at k n : ℕ) where
  -- from number `k` on there is one, and then those from the next on
  references-next : k < n → references p (at + 6 + 2 * k) (n - k) ≡ listed p at k ∷ references p (at + 6 + 2 * (k + 1)) (n - (k + 1))
  unfolding references
  references-next l =
      ap (references p (at + 6 + 2 * k)) (let z : n - k ≡ suc (n - (k + 1)) = omega arith in z)
      ∙ ap (λ i. listed p at k ∷ references p i (n - (k + 1))) (let z : at + 6 + 2 * k + 2 ≡ at + 6 + 2 * (k + 1) = omega arith in z)

  references_none : k ≡ n → references p (at + 6 + 2 * k) (n - k) ≡ []
  unfolding references
  references_none e = ap (references p (at + 6 + 2 * k)) (let z : n - k ≡ 0 = omega arith in z)

  pub terms-next : (terms : List ℕ) → k < n → terms_from p types terms at k n ≡ more (term_in p types terms (listed p at k))
      (terms_from p types terms at (k + 1) n)
  unfolding term_trees
  terms-next terms l = ap (term_trees (term_in p types terms)) (references-next l)

  pub terms_none : (terms : List ℕ) → k ≡ n → terms_from p types terms at k n ≡ end
  unfolding term_trees
  terms_none terms e = ap (term_trees (term_in p types terms)) (references_none e)

  pub types-next : k < n → types_from p types at k n ≡ type_of (map (type_at p) types) (listed p at k) ∷ types_from p types at (k + 1) n
  types-next l = ap (map (type_of (map (type_at p) types))) (references-next l)

  pub types_none : k ≡ n → types_from p types at k n ≡ []
  types_none e = ap (map (type_of (map (type_at p) types))) (references_none e)

-- all of them
pub references-all : (p : List ℕ) (at n : ℕ) → references p (at + 6 + 2 * 0) (n - 0) ≡ references p (at + 6) n
references-all p at n = ap₂ (references p) (let z : at + 6 + 2 * 0 ≡ at + 6 = omega arith in z) (let z : n - 0 ≡ n = omega arith in z)
