-- Rows and sets have room for every typed term: a call has as many ancilla terms as a row has room for, since a function has so many parameters
-- at most, and a variable has a number that a set has room for, since so many are in scope at most; and so in the parts of such a term.
use Prim.Native.Nat.{ℕ, suc, ◌≤◌, ◌<◌}
use native.Mathlib.Omega.{arith}
use mathlib.Core.Path.{◌≡◌, refl, ap, subst}
use mathlib.Core.Option.{some}
use mathlib.Core.List.{List, [], ◌∷◌}
use lib.ListN.{length}
use package.Rattle.rules.specs.Limits.{max_variables}
use package.Rattle.rules.specs.Ty.{Ty}
use package.Rattle.rules.specs.Term.{Term, Terms, var, tunit, tinl, tinr, tpair, tlet, tletp, tcase, tcall, troll, tunroll, end, more, count, Fun}
use package.Rattle.rules.specs.Term.{Program, nth, used_in}
use package.Rattle.rules.specs.Typing.{Context, Vars, Subject, ◌∶◌, arguments, Types}
use package.Rattle.rules.specs.Typing.{t_var1, t_var2, t_var3, t_unit, t_unit_elm, t_inl, t_inr, t_prod, t_let1, t_let2, t_sum, t_app1, t_app2, t_app2_end}
use package.Rattle.rules.specs.Typing.{t_roll, t_unroll}
use package.Rattle.rules.proofs.Basics.{given}
use package.Rattle.rules.proofs.Scope.{look_lt}
use package.Rattle.rules.proofs.Typing.Contexts.{length-mark, length-bar}
use package.Rattle.calls.specs.Entries.{TermEntry, n_var, n_unit, n_inl, n_inr, n_roll, n_unroll, n_pair, n_let, n_letp, n_case, n_call, term_trees, term_tree}
use package.Rattle.calls.specs.Named.{terms_of_term}
use package.Rattle.decoded.specs.Rows.{room_for}
use package.Rattle.decoded.proofs.Used.{All, all_none, all_more, all_both}

-- every call in the term has at most as many ancilla terms as a row has room for, and every variable a number that a set has room for
unfoldable mutual
  pub Fitting : Term → Type 0
  Fitting (var k i) = i < max_variables
  Fitting (tunit k) = Unit {0}
  Fitting (tinl k c e) = Fitting e
  Fitting (tinr k c e) = Fitting e
  Fitting (tpair k e e') = Fitting e × Fitting e'
  Fitting (tlet k e b) = Fitting e × Fitting b
  Fitting (tletp k e b) = Fitting e × Fitting b
  Fitting (tcase k e b b') = Fitting e × Fitting b × Fitting b'
  Fitting (tcall k g ts e) = (count ts ≤ room_for) × FittingAll ts × Fitting e
  Fitting (troll k c e) = Fitting e
  Fitting (tunroll k c e) = Fitting e

  pub FittingAll : Terms → Type 0
  FittingAll end = Unit {0}
  FittingAll (more t ts) = Fitting t × FittingAll ts

----------------------------------------------------------------
-- Typed terms

module _ (variables most : ℕ) (most-variables : variables ≤ max_variables) (P : Program)
    (short : (g : ℕ) (h : Fun) → nth P g ≡ some h → length h.ancillae ≤ room_for) where
  abbrev FittingAs : Subject → Type 0
  FittingAs (t ∶ τ) = Fitting t
  FittingAs (arguments ts τs) = (count ts ≡ length τs) × FittingAll ts

  -- in a scope that a set has room for
  pub fitting-typed : {Δ : Context} {U : Vars} {s : Subject} → Types variables most P Δ U s → length Δ ≤ max_variables → FittingAs s
  unfolding Fitting count
  fitting-typed (t_var1 {i = i} {Δ = Δ} p) l = omega (arith, look_lt Δ i p)
  fitting-typed (t_var2 {i = i} {Δ = Δ} p) l = omega (arith, look_lt Δ i p)
  fitting-typed (t_var3 {i = i} {Δ = Δ} p) l = omega (arith, look_lt Δ i p)
  fitting-typed t_unit l = tt
  fitting-typed (t_unit_elm i p d) l = fitting-typed d l
  fitting-typed (t_inl d) l = fitting-typed d l
  fitting-typed (t_inr d) l = fitting-typed d l
  fitting-typed (t_prod d d' n) l = (fitting-typed d l, fitting-typed d' l)
  fitting-typed (t_let1 {Δ = Δ} {b = b} U' r d d' z) l =
      (fitting-typed d (omega (arith, length-mark (λ i. used_in i b) Δ)), fitting-typed d' (omega (arith, r)))
  fitting-typed (t_let2 {Δ = Δ} {b = b} U' r d d' u u') l =
      (fitting-typed d (omega (arith, length-mark (λ i. used_in i b) Δ)), fitting-typed d' (omega (arith, r)))
  fitting-typed (t_sum U' r d d₁ d₂ z) l = (fitting-typed d l, fitting-typed d₁ (omega (arith, r)), fitting-typed d₂ (omega (arith, r)))
  fitting-typed (t_app1 {g = g} {Δ = Δ} {h = h} n a d) l =
      given (fitting-typed a (omega (arith, length-bar Δ))) λ (counted, all). (omega (arith, short g h n, counted), all, fitting-typed d l)
  fitting-typed (t_app2 d a) l = given (fitting-typed a l) λ (counted, all). (ap suc counted, (fitting-typed d l, all))
  fitting-typed t_app2_end l = (refl, tt)
  fitting-typed (t_roll d) l = fitting-typed d l
  fitting-typed (t_unroll d n) l = fitting-typed d l

----------------------------------------------------------------
-- Parts

module _ (ty : ℕ → Ty) (go : ℕ → Term) where
  -- the tree of an entry
  abbrev Fits : ℕ → Type 0
  Fits j = Fitting (go j)

  one-part : (i : ℕ) → Fits i → All Fits (i ∷ [])
  one-part i f = all_more Fits i [] f (all_none Fits)

  two-parts : (i j : ℕ) → Fits i × Fits j → All Fits (i ∷ j ∷ [])
  two-parts i j (f, f') = all_more Fits i (j ∷ []) f (one-part j f')

  all-parts : (ts : List ℕ) → FittingAll (term_trees go ts) → All Fits ts
  unfolding term_trees FittingAll
  all-parts [] f = all_none Fits
  all-parts (t ∷ ts) (f, fs) = all_more Fits t ts f (all-parts ts fs)

  -- the terms that an entry names, if there is room for its tree
  pub fitting-parts : (k : ℕ) (x : TermEntry) → Fitting (term_tree ty go k x) → All Fits (terms_of_term x)
  unfolding term_tree Fitting terms_of_term
  fitting-parts k (n_var i) f = all_none Fits
  fitting-parts k n_unit f = all_none Fits
  fitting-parts k (n_inl c e) f = one-part e f
  fitting-parts k (n_inr c e) f = one-part e f
  fitting-parts k (n_roll c e) f = one-part e f
  fitting-parts k (n_unroll c e) f = one-part e f
  fitting-parts k (n_pair e e') f = two-parts e e' f
  fitting-parts k (n_let e b) f = two-parts e b f
  fitting-parts k (n_letp e b) f = two-parts e b f
  fitting-parts k (n_case e b b') (f, f₁, f₂) = all_more Fits e (b ∷ b' ∷ []) f (two-parts b b' (f₁, f₂))
  fitting-parts k (n_call g ts e) (n, fs, f) = all_both Fits ts (e ∷ []) (all-parts ts fs) (one-part e f)

  -- the ancilla terms of the call itself
  pub few-ancillae : (k : ℕ) {x : TermEntry} {g : ℕ} {ts : List ℕ} {e : ℕ} → x ≡ n_call g ts e → Fitting (term_tree ty go k x)
      → count (term_trees go ts) ≤ room_for
  unfolding term_tree Fitting
  few-ancillae k same f = (subst (λ x. Fitting (term_tree ty go k x)) same f).0

  -- the variable itself
  pub small-variable : (k : ℕ) {x : TermEntry} {i : ℕ} → x ≡ n_var i → Fitting (term_tree ty go k x) → i < max_variables
  unfolding term_tree Fitting
  small-variable k same f = subst (λ x. Fitting (term_tree ty go k x)) same f
