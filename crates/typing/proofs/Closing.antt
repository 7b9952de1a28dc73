-- What a let has around its parts: room in the scope, the scope of its bound term, and its end, where the namings of the bound term are settled
-- (02, F-2).
use Prim.Native.Nat.{ℕ, suc, ◌+◌, ◌-◌, ◌≤◌, ◌<◌}
use native.Mathlib.Omega.{arith}
use mathlib.Core.Path.{◌≡◌, refl, sym, ap, ap₂, subst, ◌∙◌, fun_ext}
use mathlib.Core.Bool.{Bool, true, false, not, ◌&&◌, ◌||◌, cond}
use mathlib.Core.List.{List, [], ◌∷◌, ◌++◌}
use lib.ListN.{length}
use lib.Dec.{leb, ltb, ltb→lt}
use borrow.Author.Tests.{le-leb, lt-leb, le-ltb}
use package.Rattle.rules.specs.Limits.{max_variables}
use package.Rattle.rules.specs.Ty.{Ty, is_unit}
use package.Rattle.rules.specs.Term.{Term, used_in}
use package.Rattle.rules.specs.Typing.{Context, Vars, mark}
use package.Rattle.rules.specs.Check.{Naming, Site, term, Checked, good, bad, ◌>>=◌, ◌>>◌, spent, dynamics}
use package.Rattle.rules.specs.Check.{marks, helps, onward, late, waits_in, unhelped, unless, need_none}
use package.Rattle.rules.proofs.Basics.{and_both}
use package.Rattle.rules.proofs.Typing.Namings.{no-places}
use package.Rattle.types.specs.declared.codes.Code.{Code}
use package.Rattle.types.specs.Codes.{tree_in, Known}
use package.Rattle.varsets.specs.declared.Uses.{Uses}
use package.Rattle.varsets.specs.Sets.{has, ranged, joined}
use package.Rattle.typing.specs.Contexts.{context_at, UsedBy, must_use_at}
use package.Rattle.typing.specs.Waiting.{count_at, count_in, namings, added, Waited, lower, told_by, dynamic_in, marked_in, helps_in, Settled, Settleable}
use package.Rattle.typing.specs.Sizes.{terms_in}
use package.Rattle.typing.specs.Outcomes.{fault_of}
use package.Rattle.typing.specs.Ready.{variable_at, context_in, spent_by, Ready, Kept, Inferred, MarkedScope, Closes}
use package.Rattle.typing.proofs.Contexts.{length-context, context-same, context-mark, dynamics-context, marks-context, must_use-mark}
use package.Rattle.typing.proofs.Waiting.{get16-at, bytes_same, namings-then, first_part}
use package.Rattle.typing.proofs.Settling.{told_is, settled-onward}
use package.Rattle.typing.proofs.Answers.{part-refused, ends-refused, ends-typed, inferred, refusing, good-then, answered}
use package.Rattle.typing.proofs.Pairing.{named_both}
use Rattle.typing.specs.declared.outcomes.Scope.{Scope}
use Rattle.typing.specs.declared.outcomes.Found.{Found}
use package.Rattle.typing.specs.Outcomes.{Status}
use Rattle.std.specs.Prelude.{Option, Some, None, Ok, Err}
use Rattle.typing.specs.declared.outcomes.Fault.{Fault}
use package.Rattle.typing.specs.Outcomes.{Out}

----------------------------------------------------------------
-- Room in the scope, and variables used

-- as many variables as the scope says
pub as_many : (p types heap vars : List ℕ) (sc : Scope) → length (context_in p types heap vars sc) ≡ sc.n
as_many p types heap vars sc = length-context (λ i. tree_in p types heap (variable_at vars i)) sc.q sc.lo (has sc.marks) sc.n

module _ (k n : ℕ) {m : ℕ} (e : m ≡ n) where
  pub fits : k + n ≤ max_variables → leb (k + m) max_variables ≡ true
  fits h = le-leb (k + m) max_variables (omega arith)

  pub over : max_variables < k + n → leb (k + m) max_variables ≡ false
  over h = lt-leb (k + m) max_variables (omega arith)

-- the test in code, on the heap after the body, is that of the rules
pub spent_is : (p types heap : List ℕ) (c : Code) (i : ℕ) (u : Uses) (B : Term) {m : ℕ} {τ : Ty}
    → i < max_variables → m ≡ i → τ ≡ tree_in p types heap c → UsedBy u B
    → spent_by p types heap c i u ≡ spent m τ B
unfolding spent
spent_is p types heap c i u B h e t N = ap₂ ◌||◌ (ap is_unit (sym t)) (N.each i h ∙ ap (λ i. used_in i B) (sym e))

----------------------------------------------------------------
-- The scope of a bound term, and the end of a let

-- parts of a scope that are those of another
scope-context : (p types heap vars : List ℕ) (r : Scope) {q lo n : ℕ} → r.q ≡ q → r.lo ≡ lo → r.n ≡ n
    → context_in p types heap vars r ≡ context_at (λ i. tree_in p types heap (variable_at vars i)) q lo (has r.marks) n
scope-context p types heap vars r {q} {lo} {n} a b c =
    ap (λ q. context_at (λ i. tree_in p types heap (variable_at vars i)) q r.lo (has r.marks) r.n) a
    ∙ ap₂ (λ lo n. context_at (λ i. tree_in p types heap (variable_at vars i)) q lo (has r.marks) n) b c

module _ {size : ℕ} {p types terms functions nodes heap vars : List ℕ} {sc : Scope} {top : ℕ}
    (rd : Ready size p types terms functions nodes heap vars sc top) {lent : Scope} (L : MarkedScope sc lent) where
  abbrev Γ : Context
  Γ = context_in p types heap vars sc

  pub lent-context : context_in p types heap vars lent ≡ mark (λ i. true) Γ
  lent-context =
      scope-context p types heap vars lent L.q L.lo L.n
      ∙ context-same _ _ sc.q sc.lo (has lent.marks) (joined (has sc.marks) (ranged sc.lo sc.n)) sc.n (λ i l. refl)
      (λ i l. L.marks.each i (omega (arith, rd.scoped.few)))
      ∙ sym (context-mark _ sc.q sc.lo (has sc.marks) sc.n)

  -- a bound term can be typed in its scope
  pub lent-ready : (size' : ℕ) → size' ≤ size → Ready size' p types terms functions nodes heap vars lent top
  lent-ready size' le = record {
    entries = rd.entries;
    scoped = record {
      sources = rd.scoped.sources;
      slots = rd.scoped.slots;
      static = omega (arith, rd.scoped.static, L.q, L.n);
      low = omega (arith, rd.scoped.low, L.lo, L.n);
      few = omega (arith, rd.scoped.few, L.n);
      known = λ i l. rd.scoped.known i (omega (arith, L.n));
      owed = record {
        each = λ i l. ap (λ u. has u i) L.owed ∙ rd.scoped.owed.each i l
            ∙ sym (must_use-mark (λ i. true) Γ i) ∙ ap (λ Δ. must_use_at Δ i) (sym lent-context);
      };
      unmarked = λ i l h. L.marks.each i h ∙ ap₂ ◌||◌ (rd.scoped.unmarked i (omega (arith, L.n)) h)
          (ap (λ b. b && not (ltb i sc.lo)) (le-ltb i sc.n (omega (arith, L.n))));
    };
    room = rd.room;
    small = omega (arith, rd.small);
    waiting = omega (arith, rd.waiting);
  }

-- as many variables are in the scope of a bound term
pub in_scope : {size : ℕ} {E : Term} {W : List Naming} {p types heap heap₁ : List ℕ} {m n : ℕ} {vars vars₁ : List ℕ} {top : ℕ} {r : Out} {part : Checked Ty}
    → m ≡ n → Inferred size E W p types heap heap₁ m vars vars₁ top r part → Inferred size E W p types heap heap₁ n vars vars₁ top r part
in_scope {size} {E} {W} {p} {types} {heap} {heap₁} {vars = vars} {vars₁} {top} {r} {part} e d =
    subst (λ n. Inferred size E W p types heap heap₁ n vars vars₁ top r part) e d

-- what the let helps, and what a let further out could, in code and in the rules
module _ (p types heap vars : List ℕ) (sc : Scope) (few : sc.n ≤ max_variables) where
  helps_is : (u : Uses) (B : Term) → UsedBy u B → helps_in sc u ≡ helps (dynamics (context_in p types heap vars sc)) B
  helps_is u B N = fun_ext λ i. go i (dynamic_in sc i) refl
      ∙ sym (ap (λ (D : Vars). D i && used_in i B) (dynamics-context (λ i. tree_in p types heap (variable_at vars i)) sc))
    where
      in_scope : (i : ℕ) → dynamic_in sc i ≡ true → i < sc.n
      in_scope i e =
          let z : ltb i sc.n ≡ true =
          (and_both (leb sc.lo i) (ltb i sc.n) (and_both (leb sc.q i) (leb sc.lo i && ltb i sc.n) e).1).1 in
          ltb→lt i sc.n (rw z tt)

      go : (i : ℕ) (b : Bool) → dynamic_in sc i ≡ b → (dynamic_in sc i && has u i) ≡ (dynamic_in sc i && used_in i B)
      go i true e = ap (λ v. dynamic_in sc i && v) (N.each i (omega (arith, in_scope i e)))
      go i false e = ap (λ b. b && has u i) e ∙ sym (ap (λ b. b && used_in i B) e)

  marked_is : marked_in sc ≡ marks (context_in p types heap vars sc)
  marked_is = sym (marks-context (λ i. tree_in p types heap (variable_at vars i)) sc)

-- no place for 8 is there
none_needed : (ks : List ℕ) → need_none ks ≡ good tt → ks ≡ []
unfolding need_none
none_needed [] e = refl
none_needed (k ∷ ks) e = absurd (bad≢good e)
  where
    bad≢good : {n : ℕ} {p : Site} → ◌≡◌ {A = Checked (Unit {0})} (bad n p) (good tt) → ⊥
    bad≢good q = let z : ◌≡◌ {A = ℕ} 0 1 = cc in omega arith

-- A let in scope `sc`: its bound term `E` was typed, and then its body `B`, from bytes `vars₁` to `vars₂`, and its namings were settled.
module _ (E B T : Term) {p types terms functions nodes heap vars : List ℕ} {sc : Scope} {top : ℕ}
    (rd : Ready (terms_in T) p types terms functions nodes heap vars sc top) (size_is : suc (terms_in E + terms_in B) ≡ terms_in T)
    (uses-are : (i : ℕ) → used_in i T ≡ (used_in i E || used_in i B)) where
  abbrev Δ₀ : Context
  Δ₀ = context_in p types heap vars sc

  abbrev bound : List Naming
  bound = waits_in (mark (λ i. true) Δ₀) E

  module _ {vars₁ heap₂ vars₂ : List ℕ} {o₂ : Out} {Wb : List Naming} {part : Checked Ty} (waited₁ : Waited (terms_in E) vars vars₁)
      (new₁ : added vars vars₁ ≡ bound) (waited₂ : Waited (terms_in B) vars₁ vars₂)
      (whole : Inferred (terms_in E + terms_in B) B (bound ++ Wb) p types heap heap₂ sc.n vars vars₂ top o₂ part)
      (body : (g : Found) → o₂.status ≡ Ok g → added vars₁ vars₂ ≡ Wb) where
    -- the namings of the bound term, as the body left them
    bound-left : namings vars₂ (count_in vars) (count_in vars₁ - count_in vars) ≡ bound
    bound-left = first_part waited₁ waited₂ ∙ new₁

    pub let_settleable : Settleable sc vars₂ (count_in vars) (count_in vars₁)
    let_settleable = record {
      slots = omega (arith, rd.scoped.slots, whole.kept.lengths);
      few = rd.scoped.few;
      order = waited₁.grows;
      there = omega (arith, rd.waiting, waited₁.few, size_is);
    }

    module _ {vars₃ : List ℕ} (H : Vars) (S : Settled H vars₂ vars₃ (count_in vars) (count_in vars₁)) where
      settled-count : count_in vars₂ ≡ count_in vars₃
      settled-count = get16-at vars₂ vars₃ count_at (S.low count_at (omega arith)) (S.low (count_at + 1) (omega arith))

      settled-kept : Kept (terms_in T) p types heap heap₂ sc.n vars vars₃ top o₂.top
      settled-kept = record {
        agree = whole.kept.agree;
        sources = whole.kept.sources;
        grows = whole.kept.grows;
        few = omega (arith, whole.kept.few, size_is);
        below = λ j l. whole.kept.below j l ∙ S.low j (omega (arith, rd.scoped.few));
        lengths = whole.kept.lengths ∙ S.lengths;
        waited = record {
          grows = omega (arith, whole.kept.waited.grows, settled-count);
          few = omega (arith, whole.kept.waited.few, settled-count, size_is);
          older = λ j a b. whole.kept.waited.older j a b ∙ S.low j b;
        };
      }

      -- what waits after the let
      settled-added : (M : Vars) (g : Found) → o₂.status ≡ Ok g → late H M bound ≡ [] → added vars vars₃ ≡ (onward H M bound ++ Wb)
      settled-added M g q e =
          ap (λ n. namings vars₃ (count_in vars) (n - count_in vars)) (sym settled-count)
          ∙ namings-then vars₃ waited₁.grows waited₂.grows
          ∙ ap₂ ◌++◌
          (settled-onward H M vars₂ vars₃ (count_in vars) (count_in vars₁ - count_in vars) (λ j a b. S.within j a (omega (arith, waited₁.grows)))
          (ap (late H M) bound-left ∙ e) ∙ ap (onward H M) bound-left)
          (sym (bytes_same vars₂ vars₃ (count_in vars₁) (count_in vars₂ - count_in vars₁) λ k a b. S.high k a) ∙ body g q)

    module _ {vars₃ : List ℕ} {t : ℕ} {st : Status} {u : Uses} {g : Found} {b : Bool} (x : o₂.status ≡ Ok g)
        (C : Closes vars₂ vars₃ sc u b t (count_in vars) (count_in vars₁) g st) where
      abbrev refusals : List ℕ
      refusals = unhelped Δ₀ E B

      late_is : late (helps_in sc g.uses) (marked_in sc) (namings vars₂ (count_in vars) (count_in vars₁ - count_in vars)) ≡ refusals
      late_is = ap (late (helps_in sc g.uses) (marked_in sc)) bound-left
          ∙ ap₂ (λ H M. late H M bound) (helps_is p types heap vars sc rd.scoped.few g.uses B (whole.uses g x))
          (marked_is p types heap vars sc rd.scoped.few)

      -- the lowest place, as the rules have it
      lowest_is : told_by C.low ≡ need_none (unless b t ++ refusals)
      lowest_is = ap told_by (C.settles.lowest ∙ ap (lower (cond b None (Some t))) late_is) ∙ told_is b t refusals

      pub let_refuses : {k : ℕ} → C.low ≡ Some k → (need_none (unless b t ++ refusals) >> good (tree_in p types heap₂ g.code)) ≡ bad 8 (term k)
      unfolding told_by ◌>>◌
      let_refuses y = ap (λ m. m >> good (tree_in p types heap₂ g.code)) (sym lowest_is ∙ ap told_by y)

      none_refused : C.low ≡ None → need_none (unless b t ++ refusals) ≡ good tt
      unfolding told_by
      none_refused y = sym lowest_is ∙ ap told_by y

      pub let_accepts : C.low ≡ None
          → (need_none (unless b t ++ refusals) >> good (tree_in p types heap₂ g.code)) ≡ good (tree_in p types heap₂ g.code)
      unfolding ◌>>◌
      let_accepts y = ap (λ m. m >> good (tree_in p types heap₂ g.code)) (none_refused y)

      pub let_kept : Kept (terms_in T) p types heap heap₂ sc.n vars vars₃ top o₂.top
      let_kept = settled-kept (helps_in sc g.uses) C.settles.settled

      pub let_waits : C.low ≡ None → added vars vars₃ ≡ (onward (helps (dynamics Δ₀) B) (marks Δ₀) bound ++ Wb)
      let_waits y = settled-added (helps_in sc g.uses) C.settles.settled (marked_in sc) g x
          (sym (ap (late (helps_in sc g.uses) (marked_in sc)) bound-left) ∙ late_is ∙ (no-places b t refusals (none_needed _ (none_refused y))).1)
          ∙ ap₂ (λ H M. onward H M bound ++ Wb)
          (helps_is p types heap vars sc rd.scoped.few g.uses B (whole.uses g x)) (marked_is p types heap vars sc rd.scoped.few)

    -- The body is refused.
    pub let_stops : {w : Fault} (s : Bool) (t : ℕ) {res : Checked Ty} → o₂.status ≡ Err w
        → res ≡ (part >>= λ τ. need_none (unless s t ++ unhelped Δ₀ E B) >> good τ)
        → Inferred (terms_in T) T (onward (helps (dynamics Δ₀) B) (marks Δ₀) bound ++ Wb) p types heap heap₂ sc.n vars vars₂ top o₂ res
    let_stops s t x rule = part-refused whole _ _ x rule (omega (arith, size_is))

    -- The end of a let: of the places for 8, the let's own and those of namings, the lowest, else the body's type.
    pub let_ends : {vars₃ : List ℕ} {t : ℕ} {st : Status} {g : Found} {u : Uses} {s : Bool} {used : Bool} {res : Checked Ty} → UsedBy u E
        → o₂.status ≡ Ok g → Closes vars₂ vars₃ sc u used t (count_in vars) (count_in vars₁) g st
        → (UsedBy g.uses B → used ≡ s) → res ≡ (part >>= λ τ. need_none (unless s t ++ unhelped Δ₀ E B) >> good τ)
        → Inferred (terms_in T) T (onward (helps (dynamics Δ₀) B) (marks Δ₀) bound ++ Wb) p types heap heap₂ sc.n vars vars₃ top
        (record { status = st; top = o₂.top }) res
    unfolding fault_of
    let_ends {vars₃} {t} {st} {g} {u} {s} {used} {res} N x C same rule = closed C.low refl
      where
        -- the rule, once the body has its type
        typed : res ≡ (need_none (unless used t ++ unhelped Δ₀ E B) >> good (tree_in p types heap₂ g.code))
        typed = rule ∙ good-then _ (answered whole x)
            ∙ ap (λ v. need_none (unless v t ++ unhelped Δ₀ E B) >> good (tree_in p types heap₂ g.code)) (sym (same (whole.uses g x)))

        closed : (v : Option ℕ) → C.low ≡ v
            → Inferred (terms_in T) T (onward (helps (dynamics Δ₀) B) (marks Δ₀) bound ++ Wb) p types heap heap₂ sc.n vars vars₃ top
            (record { status = st; top = o₂.top }) res
        closed (Some k) y = inferred (let_kept x C) (ends-refused (C.no k y) (typed ∙ let_refuses x C y)) (refusing (C.no k y))
        closed None y = let J = C.yes y in inferred (let_kept x C)
            (ends-typed J.is (subst (Known (length types) o₂.top) (sym J.code) (whole.known g x))
            (named_both T E B uses-are N (whole.uses g x) J.uses)
            (typed ∙ let_accepts x C y ∙ ap (λ c. good (tree_in p types heap₂ c)) (sym J.code)))
            (λ h q. let_waits x C y)
