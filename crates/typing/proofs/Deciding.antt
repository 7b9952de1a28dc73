-- Laws of the tests that typing makes once a part is typed: a refusal stands, and after a type the answer is picked by a test.
use Prim.Native.Nat.{ℕ}
use native.Mathlib.Omega.{arith}
use mathlib.Core.Path.{◌≡◌, refl, sym, ap, subst, ◌∙◌}
use mathlib.Core.Bool.{Bool, true, false, cond, ◌&&◌, ◌||◌, false≢true}
use mathlib.Core.List.{List}
use package.Rattle.octets.specs.Runs.{Decides}
use package.Rattle.rules.specs.Ty.{same_ty}
use package.Rattle.types.specs.declared.codes.Code.{Code}
use package.Rattle.types.specs.Codes.{tree_in}
use package.Rattle.types.specs.declared.products.Pairing.{Pairing}
use package.Rattle.types.specs.Growth.{Made}
use package.Rattle.varsets.specs.declared.Uses.{Uses}
use package.Rattle.varsets.specs.Sets.{Holds, has, joined, AgreeOn}
use package.Rattle.typing.specs.Ready.{Joins, Picks, spent_by, Closes, Meets, Paired}
use package.Rattle.typing.specs.Waiting.{Settles}
use Rattle.typing.specs.declared.outcomes.Scope.{Scope}
use Rattle.typing.specs.declared.outcomes.Found.{Found}
use Rattle.typing.specs.declared.outcomes.Fault.{Fault}
use Rattle.typing.specs.declared.outcomes.Fault.TheVariants.{Differ, Unscoped, Misused}
use package.Rattle.typing.specs.Outcomes.{Status}
use Rattle.std.specs.Prelude.{Option, Some, None, Result, Ok, Err}
use Rattle.std.specs.Result.{IsErr, IsErrAnd}
use Rattle.std.proofs.lemmas.Result.{err_from_is_err_and}
use package.Rattle.typing.specs.Outcomes.{Out}

pub typed_inj : {f g : Found} → ◌≡◌ {A = Status} (Ok f) (Ok g) → f ≡ g
typed_inj p = cc

pub typed-refused : {f : Found} {w : Fault} → ◌≡◌ {A = Status} (Ok f) (Err w) → ⊥
typed-refused p = let z : ◌≡◌ {A = ℕ} 0 1 = cc in omega arith

some-inj : {j k : ℕ} → ◌≡◌ {A = Option ℕ} (Some j) (Some k) → j ≡ k
some-inj p = cc

some-none : {k : ℕ} → ◌≡◌ {A = Option ℕ} (Some k) None → ⊥
some-none p = let z : ◌≡◌ {A = ℕ} 0 1 = cc in omega arith

pairing_inj : {q q' : Pairing} → ◌≡◌ {A = Option Pairing} (Some q) (Some q') → q ≡ q'
pairing_inj p = cc

pairing-none : {q : Pairing} → ◌≡◌ {A = Option Pairing} (Some q) None → ⊥
pairing-none p = let z : ◌≡◌ {A = ℕ} 0 1 = cc in omega arith

-- a refusal of a term, whose number is widened
pub differs : {A : Type 0} {n t : ℕ} → n ≡ t → ◌≡◌ {A = Result A Fault} (Err (Differ n)) (Err (Differ t))
differs e = ap (λ n. Err (Differ n)) e

pub unscopes : {A : Type 0} {n t : ℕ} → n ≡ t → ◌≡◌ {A = Result A Fault} (Err (Unscoped n)) (Err (Unscoped t))
unscopes e = ap (λ n. Err (Unscoped n)) e

pub misuses : {A : Type 0} {n t : ℕ} → n ≡ t → ◌≡◌ {A = Result A Fault} (Err (Misused n)) (Err (Misused t))
misuses e = ap (λ n. Err (Misused n)) e

-- what the exit of a `?` returns
pub stands : {A B : Type 0} {r : Result A Fault} {q : Result B Fault} {w : Fault} → r ≡ Err w → IsErr q × IsErrAnd q (λ v. v ≡ w) → q ≡ Err w
stands {q = q} e s = let z = err_from_is_err_and q s.1 in z.1 ∙ ap Err z.2

pub stood : {r q : Status} {w : Fault} → r ≡ Err w → IsErr q × IsErrAnd q (λ v. v ≡ w) → q ≡ r
stood e s = stands e s ∙ sym e

-- what is not there
pub none_of : {A : Type 0} {o : Option A} → ((x : A) → ¬ (o ≡ Some x)) → o ≡ None
none_of {o = None} n = refl
none_of {o = Some x} n = absurd (n x refl)

----------------------------------------------------------------
-- Picked by a test

module _ {b : Bool} {Yes No : Status → Type 0} {s : Status} where
  pub picks_yes : b ≡ true → Yes s → Picks b Yes No s
  picks_yes e y = record { yes = λ q. y; no = λ q. absurd (false≢true (sym q ∙ e)) }

  pub picks_no : b ≡ false → No s → Picks b Yes No s
  picks_no e n = record { yes = λ q. absurd (false≢true (sym e ∙ q)); no = λ q. n }

pub joins : {f g : Found} {u : Uses} {s : Status} → s ≡ Ok g → g.code ≡ f.code → Holds g.uses (joined (has u) (has f.uses)) → Joins f u s
joins {g = g} s e h = record { found = g; is = s; code = e; uses = h }

----------------------------------------------------------------
-- One test, two tests

module _ (a b : Bool) {r : Bool} (e : r ≡ a) where
  pub spent-unit : r ≡ true → true ≡ (a || b)
  spent-unit t = sym (ap (λ a. a || b) (sym e ∙ t))

  pub spent-used : {r' : Bool} → r ≡ false → r' ≡ b → r' ≡ (a || b)
  spent-used t q = q ∙ sym (ap (λ a. a || b) (sym e ∙ t))

  pub both_first : r ≡ false → false ≡ (a && b)
  both_first t = sym (ap (λ a. a && b) (sym e ∙ t))

  pub both-second : {r' : Bool} → r ≡ true → r' ≡ b → r' ≡ (a && b)
  both-second t q = q ∙ sym (ap (λ a. a && b) (sym e ∙ t))

decided_not : {A : Type 0} (r : Bool) → Decides r A → r ≡ false → A → ⊥
decided_not true d e = absurd (false≢true (sym e))
decided_not false d e = d

decided : {A : Type 0} (r : Bool) → Decides r A → r ≡ true → A
decided true d e = d
decided false d e = absurd (false≢true e)

----------------------------------------------------------------
-- Both branches of a case

module _ {p types heap : List ℕ} {l : Found} {u : Uses} {i : ℕ} {d : Code} {owed : Uses} {t : ℕ} {f : Found} {s : Status} {same : Bool}
    (q : same ≡ same_ty (tree_in p types heap l.code) (tree_in p types heap f.code)) where
  pub meets_differ : same ≡ false → s ≡ Err (Differ t) → Meets p types heap l u i d owed t f s
  meets_differ e n = record {
    differ = λ x. n;
    unused = λ x y. absurd (false≢true (sym e ∙ q ∙ x));
    apart = λ x y. absurd (false≢true (sym e ∙ q ∙ x));
    both = λ x y z. absurd (false≢true (sym e ∙ q ∙ x));
  }

  module _ (e : same ≡ true) where
    pub meets_unused : {b : Bool} → b ≡ spent_by p types heap d i f.uses → b ≡ false → s ≡ Err (Misused t) → Meets p types heap l u i d owed t f s
    meets_unused g h n = record {
      differ = λ x. absurd (false≢true (sym x ∙ sym q ∙ e));
      unused = λ x y. n;
      apart = λ x y. n;
      both = λ x y z. absurd (false≢true (sym h ∙ g ∙ y));
    }

    pub meets_apart : {b : Bool} → b ≡ spent_by p types heap d i f.uses → b ≡ true → (r : Bool) → Decides r (AgreeOn l.uses f.uses owed) → r ≡ false
        → s ≡ Err (Misused t) → Meets p types heap l u i d owed t f s
    meets_apart g h r D k n = record {
      differ = λ x. absurd (false≢true (sym x ∙ sym q ∙ e));
      unused = λ x y. absurd (false≢true (sym y ∙ sym g ∙ h));
      apart = λ x y. n;
      both = λ x y z. absurd (decided_not r D k z);
    }

    -- the uses of both branches
    pub meets_both : {b : Bool} → b ≡ spent_by p types heap d i f.uses → b ≡ true → (r : Bool) → Decides r (AgreeOn l.uses f.uses owed) → r ≡ true
        → {v : Uses} → Holds v (joined (has l.uses) (has f.uses)) → Joins (record { code = l.code; uses = v }) u s
        → Meets p types heap l u i d owed t f s
    meets_both g h r D k H J = record {
      differ = λ x. absurd (false≢true (sym x ∙ sym q ∙ e));
      unused = λ x y. absurd (false≢true (sym y ∙ sym g ∙ h));
      apart = λ x y. absurd (y (decided r D k));
      both = λ x y z. record {
        found = J.found;
        is = J.is;
        code = J.code;
        uses = record { each = λ i l. J.uses.each i l ∙ ap (λ b. has u i || b) (H.each i l) };
      };
    }

----------------------------------------------------------------
-- The body of a let

module _ {vars vars' : List ℕ} {sc : Scope} {u : Uses} {b : Bool} {t from to : ℕ} {f : Found} {s : Status} {low : Option ℕ}
    (S : Settles sc f.uses vars vars' from to (cond b None (Some t)) low) where
  pub closes-refused : {k : ℕ} → low ≡ Some k → s ≡ Err (Misused k) → Closes vars vars' sc u b t from to f s
  closes-refused {k} e q = record {
    low = low;
    settles = S;
    yes = λ x. absurd (some-none (sym e ∙ x));
    no = λ j x. q ∙ ap (λ k. Err (Misused k)) (some-inj (sym e ∙ x));
  }

  pub closes-typed : low ≡ None → Joins f u s → Closes vars vars' sc u b t from to f s
  closes-typed e J = record { low = low; settles = S; yes = λ x. J; no = λ k x. absurd (some-none (sym x ∙ e)) }

-- by another test that is the same
pub closes_by : {vars vars' : List ℕ} {sc : Scope} {u : Uses} {a b : Bool} {t from to : ℕ} {f : Found} {s : Status} → a ≡ b
    → Closes vars vars' sc u a t from to f s → Closes vars vars' sc u b t from to f s
closes_by {vars} {vars'} {sc} {u} {t = t} {from} {to} {f} {s} e C = subst (λ b. Closes vars vars' sc u b t from to f s) e C

----------------------------------------------------------------
-- Pairs

module _ {p types heap heap' : List ℕ} {l f : Found} {top t : ℕ} {r : Out} {m : Option Pairing} (M : Made p types heap heap' top l.code f.code m) where
  pub paired-made : {q : Pairing} → m ≡ Some q → r.top ≡ q.top → Joins (record { code = q.code; uses = f.uses }) l.uses r.status
      → Paired p types heap heap' l f top t r
  paired-made {q} k e J = record {
    pairing = m;
    made = M;
    yes = λ q' x. subst (λ (q : Pairing). (r.top ≡ q.top) × Joins (record { code = q.code; uses = f.uses }) l.uses r.status)
        (pairing_inj (sym k ∙ x)) (e, J);
    no = λ x. absurd (pairing-none (sym k ∙ x));
  }

  pub paired-large : m ≡ None → r.top ≡ top → r.status ≡ Err (Differ t) → Paired p types heap heap' l f top t r
  paired-large k e q = record { pairing = m; made = M; yes = λ q' x. absurd (pairing-none (sym x ∙ k)); no = λ x. (e, q) }
