-- The terms that are run next: a part of a term is ready where the term is, with the variables that its binders add; and what was ready
-- stays so after a run.
use Prim.Native.Nat.{ℕ, ◌+◌, ◌-◌, ◌≤◌, ◌<◌}
use native.Mathlib.Omega.{arith}
use mathlib.Core.Path.{◌≡◌, sym, ap, subst, ◌∙◌}
use mathlib.Core.Logic.{⊎_elim}
use mathlib.Core.List.{List, []}
use package.Rattle.rules.specs.Limits.{max_variables}
use package.Rattle.program.specs.Kinds.{variable_kind, pair_kind, let_kind, let_pair_kind, case_kind, call_kind, unroll_kind}
use package.Rattle.rules.specs.Term.{Term}
use package.Rattle.decoded.specs.Rows.{argument_in, first_in, kind_in, parameters_in, second_in, third_in, tree_in}
use package.Rattle.decoded.proofs.Trees.{count-arguments, tree-call, tree_case, tree_inl, tree_inr, tree_let, tree_letp, tree-pair, tree-roll, tree_unroll, tree-var}
use package.Rattle.scopes.specs.Bindings.{View}
use package.Rattle.scopes.specs.Slots.{Machine}
use package.Rattle.yields.specs.Yields.{Wraps}
use package.Rattle.backward.specs.Scoped.{Scoped, ScopedAt}
use package.Rattle.backward.specs.Ready.{Ready, Follows, Moves, ancillae_of}
use package.Rattle.backward.proofs.Runs.{binds_follow, ancillae_follow, ancillae_later, held_later, held-less, small_top}

----------------------------------------------------------------
-- What stays ready

module _ {k h : ℕ} {code heap slots : List ℕ} {st : Machine} {b : View} {q n t room : ℕ} (rd : Ready k h code heap slots st b q n t room)
    {j : ℕ} {heap' slots' : List ℕ} {st' : Machine} (M : Moves j heap heap' slots slots' st st') {b' : View} (F : Follows heap' b b' st'.top) where
  pub later : (k' : ℕ) → k' + j ≤ k → Ready k' h code heap' slots' st' b' q n t room
  later k' le = record {
    machine = held_later rd.machine k' le M;
    binds = binds_follow rd.binds F M.grows (small_top rd.machine);
    term = rd.term;
    scoped = rd.scoped;
    tall = rd.tall;
  }

  pub ancillae-after : ancillae_of heap b q ≡ ancillae_of heap' b' q
  ancillae-after =
      ancillae_later rd.machine.graph M.agree b q rd.binds
      ∙ ancillae_follow rd.binds F M.grows (small_top rd.machine) heap'

-- with fewer nodes owed
pub owing : {k h : ℕ} {code heap slots : List ℕ} {st : Machine} {b : View} {q n t room : ℕ} (k' : ℕ) → k' ≤ k → Ready k h code heap slots st b q n t room
    → Ready k' 0 code heap slots st b q n t room
owing {room = room} k' le rd = record {
  machine = held-less rd.machine k' room le (omega arith);
  binds = rd.binds;
  term = rd.term;
  scoped = rd.scoped;
  tall = omega arith;
}

pub owing_none : {k h : ℕ} {code heap slots : List ℕ} {st : Machine} {b : View} {q n t room : ℕ} → Ready k h code heap slots st b q n t room
    → Ready 0 0 code heap slots st b q n t room
owing_none rd = owing 0 (omega arith) rd

-- with as many variables in scope
pub in_scope : {k h : ℕ} {code heap slots : List ℕ} {st : Machine} {b : View} {q n t room : ℕ} (m : ℕ) → n ≡ m → Ready k h code heap slots st b q n t room
    → Ready k h code heap slots st b q m t room
in_scope {code = code} {t = t} m e rd = record {
  machine = rd.machine;
  binds = rd.binds;
  term = rd.term;
  scoped = subst (λ n. ScopedAt code n t) e rd.scoped;
  tall = rd.tall;
}

-- a part of the term
pub part : {code heap slots : List ℕ} {st : Machine} {b : View} {q n t room : ℕ} → Ready 2 1 code heap slots st b q n t room
    → (u m : ℕ) → u < t → ScopedAt code m u → Ready 2 0 code heap slots st b q m u (room - 1)
part {room = room} rd u m l S = record {
  machine = held-less rd.machine 2 (room - 1) (omega arith) (omega arith);
  binds = rd.binds;
  term = omega (arith, rd.term);
  scoped = S;
  tall = omega arith;
}

----------------------------------------------------------------
-- Variables of the parts, by kind

module _ {k h : ℕ} {code heap slots : List ℕ} {st : Machine} {b : View} {q n t room : ℕ} (rd : Ready k h code heap slots st b q n t room) where
  abbrev In : ℕ → ℕ → Type 0
  In m u = ScopedAt code m u

  scoped_of : {x : Term} → tree_in code [] t ≡ x → Scoped (parameters_in code) n x
  scoped_of e = subst (Scoped (parameters_in code) n) e rd.scoped

  pub scoped-var : kind_in code t ≡ variable_kind → first_in code t < n
  unfolding Scoped
  scoped-var e = scoped_of (tree-var rd.machine.rows t rd.term [] e)

  pub scoped_wrap : {kind : ℕ} → Wraps (kind_in code t) kind → In n (second_in code t)
  unfolding Scoped
  scoped_wrap w =
      ⊎_elim (λ x. scoped_of (tree_inl rd.machine.rows t rd.term [] x.0))
      (λ y. ⊎_elim (λ x. scoped_of (tree_inr rd.machine.rows t rd.term [] x.0))
      (λ x. scoped_of (tree-roll rd.machine.rows t rd.term [] x.0)) y) w

  pub scoped-pair : kind_in code t ≡ pair_kind → In n (first_in code t) × In n (second_in code t)
  unfolding Scoped
  scoped-pair e = scoped_of (tree-pair rd.machine.rows t rd.term [] e)

  pub scoped_let : kind_in code t ≡ let_kind → (n < max_variables) × In n (first_in code t) × In (n + 1) (second_in code t)
  unfolding Scoped
  scoped_let e = scoped_of (tree_let rd.machine.rows t rd.term [] e)

  pub scoped_letp : kind_in code t ≡ let_pair_kind → (n + 1 < max_variables) × In n (first_in code t) × In (n + 1 + 1) (second_in code t)
  unfolding Scoped
  scoped_letp e = scoped_of (tree_letp rd.machine.rows t rd.term [] e)

  pub scoped_case : kind_in code t ≡ case_kind → (n < max_variables) × In n (first_in code t) × In (n + 1) (second_in code t) × In (n + 1) (third_in code t)
  unfolding Scoped
  scoped_case e = scoped_of (tree_case rd.machine.rows t rd.term [] e)

  pub scoped-call : kind_in code t ≡ call_kind → (third_in code t + 1 ≡ parameters_in code (first_in code t)) × In n (argument_in code t (third_in code t))
  unfolding Scoped
  scoped-call e = (
    ap (λ m. m + 1) (sym (count-arguments (tree_in code []) code t 0 (third_in code t))) ∙ (scoped_of (tree-call rd.machine.rows t rd.term [] e)).0,
    (scoped_of (tree-call rd.machine.rows t rd.term [] e)).1,
  )

  pub scoped_unroll : kind_in code t ≡ unroll_kind → In n (second_in code t)
  unfolding Scoped
  scoped_unroll e = scoped_of (tree_unroll rd.machine.rows t rd.term [] e)
