-- What backward evaluation asks of a program's variables holds of one that is accepted: typing counts the variables in scope, and the
-- arguments of each call.
use Prim.Native.Nat.{ℕ, zero, suc, ◌+◌, ◌≤◌, ◌<◌}
use native.Mathlib.Omega.{arith}
use native.Mathlib.Numerals.{add-one}
use mathlib.Core.Path.{◌≡◌, refl, sym, ap, subst, ◌∙◌}
use mathlib.Core.Option.{some}
use mathlib.Core.List.{List, [], ◌∷◌, map}
use lib.ListN.{length, get_or, length-map}
use package.Rattle.rules.specs.Ty.{Ty}
use package.Rattle.rules.specs.Term.{Term, count, Fun, Program, nth, used_in}
use package.Rattle.rules.specs.Typing.{Context, Vars, mark, Subject, ◌∶◌, arguments, Types, WellTyped}
use package.Rattle.rules.specs.Typing.{t_var1, t_var2, t_var3, t_unit, t_unit_elm, t_inl, t_inr, t_prod, t_let1, t_let2, t_sum, t_app1, t_app2, t_app2_end}
use package.Rattle.rules.specs.Typing.{t_roll, t_unroll}
use package.Rattle.rules.specs.Check.{statics}
use package.Rattle.rules.specs.Limits.{max_parameters, max_variables}
use package.Rattle.rules.proofs.Basics.{given}
use package.Rattle.rules.proofs.Scope.{look_lt}
use package.Rattle.rules.proofs.Typing.Contexts.{length-mark}
use package.Rattle.rules.proofs.Typing.Functions.{length-parameters, body_typed}
use package.Rattle.calls.specs.Fields.{parameters_at}
use package.Rattle.calls.specs.Entries.{TypeEntry, type_at, type_of, TermEntry, n_var, n_unit, n_inl, n_inr, n_roll, n_unroll, n_pair, n_let, n_letp, n_case, n_call, term_trees, term_tree, term_below}
use package.Rattle.calls.specs.Entries.{term_of, function_at, function_of, entries_at, program_of}
use package.Rattle.program.specs.Parts.{FunctionField}
use package.Rattle.program.specs.Places.{places_of, Placed}
use package.Rattle.program.proofs.Inside.{formed}
use package.Rattle.program.proofs.Lists.{ancillae-count}
use package.Rattle.decoded.specs.Decoding.{Decodes, FunctionRow}
use package.Rattle.decoded.specs.Rows.{body_in, function_count, parameters_in, program_in, terms_in}
use package.Rattle.decoded.proofs.Trees.{called-body, called-only, called-there, called-tree}
use package.Rattle.decoded.proofs.Accepted.{decoded-program}
use package.Rattle.backward.specs.Scoped.{Scoped, ScopedAt, Bodies}

----------------------------------------------------------------
-- Typed terms are in scope

module _ (variables most : ℕ) (most-variables : variables ≤ max_variables) (P : Program) (arity : ℕ → ℕ)
    (parameters : (g : ℕ) (h : Fun) → nth P g ≡ some h → length h.ancillae + 1 ≡ arity g) where
  abbrev ScopedAs : Context → Subject → Type 0
  ScopedAs Δ (t ∶ τ) = Scoped arity (length Δ) t
  ScopedAs Δ (arguments ts τs) = count ts ≡ length τs

  -- one variable more
  more : (n : ℕ) (b : Term) → Scoped arity (suc n) b → Scoped arity (n + 1) b
  more n b s = subst (λ n. Scoped arity n b) (sym (add-one n)) s

  -- marks leave the scope as it is
  unmarked : (N : Vars) (Δ : Context) (e : Term) → Scoped arity (length (mark N Δ)) e → Scoped arity (length Δ) e
  unmarked N Δ e s = subst (λ n. Scoped arity n e) (length-mark N Δ) s

  scopes : {Δ : Context} {U : Vars} {s : Subject} → Types variables most P Δ U s → ScopedAs Δ s
  unfolding Scoped count
  scopes (t_var1 {i = i} {Δ = Δ} p) = look_lt Δ i p
  scopes (t_var2 {i = i} {Δ = Δ} p) = look_lt Δ i p
  scopes (t_var3 {i = i} {Δ = Δ} p) = look_lt Δ i p
  scopes t_unit = tt
  scopes (t_unit_elm i p d) = scopes d
  scopes (t_inl d) = scopes d
  scopes (t_inr d) = scopes d
  scopes (t_prod d d' n) = (scopes d, scopes d')
  scopes (t_let1 {Δ = Δ} {e = e} {b = b} U' r d d' z) = (omega (arith, r), unmarked (λ i. used_in i b) Δ e (scopes d), more (length Δ) b (scopes d'))
  scopes (t_let2 {Δ = Δ} {e = e} {b = b} U' r d d' u u') =
      let z : suc (suc (length Δ)) ≡ length Δ + 1 + 1 = omega arith in
      (omega (arith, r), unmarked (λ i. used_in i b) Δ e (scopes d), subst (λ n. Scoped arity n b) z (scopes d'))
  scopes (t_sum {Δ = Δ} {b = b} {b' = b'} U' r d d₁ d₂ z) = (omega (arith, r), scopes d, more (length Δ) b (scopes d₁), more (length Δ) b' (scopes d₂))
  scopes (t_app1 {g = g} {h = h} n a d) = (ap (λ n. n + 1) (scopes a) ∙ parameters g h n, scopes d)
  scopes (t_app2 d a) = ap suc (scopes a)
  scopes t_app2_end = refl
  scopes (t_roll d) = scopes d
  scopes (t_unroll d n) = scopes d

----------------------------------------------------------------
-- Whatever the types

count_same : (go go' : ℕ → Term) (is : List ℕ) → count (term_trees go is) ≡ count (term_trees go' is)
unfolding term_trees count
count_same go go' [] = refl
count_same go go' (i ∷ is) = ap suc (count_same go go' is)

module _ (arity : ℕ → ℕ) where
  module _ (ty ty' : ℕ → Ty) (go go' : ℕ → Term) (same : (n i : ℕ) → Scoped arity n (go i) → Scoped arity n (go' i)) where
    scoped-tree : (n k : ℕ) (x : TermEntry) → Scoped arity n (term_tree ty go k x) → Scoped arity n (term_tree ty' go' k x)
    unfolding term_tree Scoped
    scoped-tree n k (n_var i) f = f
    scoped-tree n k n_unit f = tt
    scoped-tree n k (n_inl c e) f = same n e f
    scoped-tree n k (n_inr c e) f = same n e f
    scoped-tree n k (n_roll c e) f = same n e f
    scoped-tree n k (n_unroll c e) f = same n e f
    scoped-tree n k (n_pair e e') (f, f') = (same n e f, same n e' f')
    scoped-tree n k (n_let e b) (l, f, f') = (l, same n e f, same (n + 1) b f')
    scoped-tree n k (n_letp e b) (l, f, f') = (l, same n e f, same (n + 1 + 1) b f')
    scoped-tree n k (n_case e b b') (l, f, f₁, f₂) = (l, same n e f, same (n + 1) b f₁, same (n + 1) b' f₂)
    scoped-tree n k (n_call g ts e) (m, f) = (ap (λ n. n + 1) (sym (count_same go go' ts)) ∙ m, same n e f)

  scoped-below : (ys ys' : List TypeEntry) (ts : List TermEntry) (m n k : ℕ) → Scoped arity n (term_below m ys ts k) → Scoped arity n (term_below m ys' ts k)
  unfolding term_below Scoped
  scoped-below ys ys' ts zero n k f = tt
  scoped-below ys ys' ts (suc m) n k f = scoped-tree _ _ (term_below m ys ts) (term_below m ys' ts) (scoped-below ys ys' ts m) n k (get_or ts k n_unit) f

  scoped-any : (ys ys' : List TypeEntry) (ts : List TermEntry) (n k : ℕ) → Scoped arity n (term_of ys ts k) → Scoped arity n (term_of ys' ts k)
  unfolding term_of
  scoped-any ys ys' ts n k f = scoped-below ys ys' ts (suc k) n k f

----------------------------------------------------------------
-- Accepted programs

-- the dynamic parameter comes after the ancilla parameters
parameter_count : {p : List ℕ} {at : ℕ} (ys : List TypeEntry) (ts : List TermEntry) → FunctionField p at
    → length (function_of ys ts (function_at p at)).ancillae + 1 ≡ parameters_at p at
unfolding function_of
parameter_count {p} {at} ys ts F =
    omega (arith, F.some, length-map (function_at p at).ancillae (type_of ys), ancillae-count p at)

module _ {p types terms functions : List ℕ} (read : Placed p types terms functions) (variables most : ℕ) (most-variables : variables ≤ max_variables)
    (typed : WellTyped variables most (program_of (entries_at p (places_of types terms functions)))) {code : List ℕ} (D : Decodes code p terms functions) where
  abbrev types-read : List TypeEntry
  types-read = map (type_at p) types

  abbrev program : Program
  program = program_in code types-read

  program-typed : WellTyped variables most program
  unfolding entries_at
  program-typed = subst (WellTyped variables most) (sym (decoded-program D types-read)) typed

  field : (g : ℕ) → g < function_count code → FunctionField p (get_or functions g 0)
  field g l = (formed p read.read).functions g (omega (arith, D.as_many_functions))

  row : (g : ℕ) → g < function_count code → FunctionRow code g p (get_or functions g 0)
  row g l = D.function g (omega (arith, D.as_many_functions))

  -- what a function's row says of its parameters is what the program has
  parameters_are : (g : ℕ) → g < function_count code → length (called-tree code types-read g).ancillae + 1 ≡ parameters_in code g
  parameters_are g l =
      ap (λ x. length (function_of types-read (terms_in code) x).ancillae + 1) (row g l).entry
      ∙ parameter_count types-read (terms_in code) (field g l) ∙ sym (row g l).parameters

  parameters : (g : ℕ) (h : Fun) → nth program g ≡ some h → length h.ancillae + 1 ≡ parameters_in code g
  parameters g h e =
      given (called-only code types-read g e) λ (l, same).
      subst (λ (h : Fun). length h.ancillae + 1 ≡ parameters_in code g) same (parameters_are g l)

  scoped-body : (g : ℕ) → g < function_count code → ScopedAt code (parameters_in code g) (body_in code g)
  scoped-body g l =
      scoped-any (parameters_in code) types-read [] (terms_in code) (parameters_in code g) (body_in code g)
      (subst (λ T. Scoped (parameters_in code) (parameters_in code g) T) (called-body code types-read g)
      (subst (λ n. Scoped (parameters_in code) n h.body) (let z : suc (length (statics h.ancillae [])) ≡ parameters_in code g = omega
      (arith, length-parameters h.ancillae, parameters_are g l) in z)
      (scopes variables most most-variables program (parameters_in code) parameters
      (body_typed variables most program (program-typed g h (called-there code types-read g l))))))
    where
      h : Fun
      h = called-tree code types-read g

  pub accepted-bodies : Bodies code
  unfolding max_parameters
  accepted-bodies = record { few = λ g l. rw (row g l).parameters (omega (arith, (field g l).few)); scoped = scoped-body }
