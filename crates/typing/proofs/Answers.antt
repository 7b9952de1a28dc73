-- Laws of outcomes: what one says, one after another, and what stays ready.
use Prim.Native.Nat.{ℕ, ◌+◌, ◌≤◌}
use native.Mathlib.Omega.{arith}
use mathlib.Core.Path.{◌≡◌, refl, sym, ap, subst, ◌∙◌}
use mathlib.Core.Bool.{Bool, true, false}
use mathlib.Core.List.{List, ◌++◌}
use lib.ListN.{length}
use package.Rattle.rules.specs.Ty.{Ty}
use package.Rattle.rules.specs.Term.{Term, used_in}
use package.Rattle.rules.specs.Check.{Naming, Site, Checked, good, bad, ◌>>=◌, ◌>>◌, need}
use package.Rattle.types.specs.declared.codes.Code.{Code}
use package.Rattle.types.specs.Codes.{tree_in, Known, Sources}
use package.Rattle.types.specs.Growth.{Formed}
use package.Rattle.types.proofs.Growing.{agree_refl, agree_trans, agree-down, tree-kept}
use package.Rattle.types.proofs.Outer.{known_up}
use package.Rattle.typing.specs.Contexts.{UsedBy, Owed}
use package.Rattle.typing.specs.Outcomes.{fault_of, status_of}
use package.Rattle.typing.specs.Ready.{context_in, Ready, Kept, Inferred, Widened}
use package.Rattle.typing.proofs.Contexts.{context-same}
use package.Rattle.typing.proofs.Naming.{variable-same}
use package.Rattle.varsets.specs.Sets.{has}
use package.Rattle.typing.specs.Waiting.{added}
use package.Rattle.typing.proofs.Deciding.{typed_inj, typed-refused}
use package.Rattle.typing.proofs.Waiting.{waited_none, waited-then, added_then, waited-more}
use Rattle.typing.specs.declared.outcomes.Scope.{Scope}
use Rattle.typing.specs.declared.outcomes.Found.{Found}
use Rattle.typing.specs.declared.outcomes.Fault.{Fault}
use Rattle.typing.specs.declared.outcomes.Fault.TheVariants.{Differ, Unscoped, Misused}
use package.Rattle.typing.specs.Outcomes.{Status}
use Rattle.std.specs.Prelude.{Ok, Err}
use package.Rattle.typing.specs.Outcomes.{Out}

----------------------------------------------------------------
-- What an outcome says

-- a refusal stands
pub fault_then : {A B : Type 0} (w : Fault) (k : A → Checked B) → (fault_of w >>= k) ≡ fault_of w
unfolding fault_of ◌>>=◌
fault_then (Differ t) k = refl
fault_then (Unscoped t) k = refl
fault_then (Misused t) k = refl

-- an answer that is a type, and one that is a refusal
pub good-then : {A B : Type 0} {m : Checked A} {a : A} (k : A → Checked B) → m ≡ good a → (m >>= k) ≡ k a
unfolding ◌>>=◌
good-then k e = ap (λ m. m >>= k) e

pub bad-then : {A B : Type 0} {m : Checked A} (w : Fault) (k : A → Checked B) → m ≡ fault_of w → (m >>= k) ≡ fault_of w
bad-then w k e = ap (λ m. m >>= k) e ∙ fault_then w k

-- the end of an outcome: its status means `res`, as `Inferred` says of all but the namings
pub record Ends (T : Term) (p types heap : List ℕ) (top : ℕ) (s : Status) (res : Checked Ty) : Type 0 where
  pub known : (f : Found) → s ≡ Ok f → Known (length types) top f.code
  pub uses : (f : Found) → s ≡ Ok f → UsedBy f.uses T
  pub answer : status_of (tree_in p types heap) s ≡ res

module _ {T : Term} {p types heap : List ℕ} {top : ℕ} {s : Status} {res : Checked Ty} where
  pub ends-refused : {w : Fault} → s ≡ Err w → res ≡ fault_of w → Ends T p types heap top s res
  unfolding status_of
  ends-refused e a = record {
    known = λ f q. absurd (typed-refused (sym q ∙ e));
    uses = λ f q. absurd (typed-refused (sym q ∙ e));
    answer = ap (status_of (tree_in p types heap)) e ∙ sym a;
  }

  pub ends-typed : {f : Found} → s ≡ Ok f → Known (length types) top f.code → UsedBy f.uses T → res ≡ good (tree_in p types heap f.code)
      → Ends T p types heap top s res
  unfolding status_of
  ends-typed e k n a = record {
    known = λ g q. subst (λ (g : Found). Known (length types) top g.code) (typed_inj (sym e ∙ q)) k;
    uses = λ g q. subst (λ (g : Found). UsedBy g.uses T) (typed_inj (sym e ∙ q)) n;
    answer = ap (status_of (tree_in p types heap)) e ∙ sym a;
  }

pub inferred : {size : ℕ} {T : Term} {W : List Naming} {p types heap heap' : List ℕ} {m : ℕ} {vars vars' : List ℕ} {top : ℕ} {out : Out} {res : Checked Ty}
    → Kept size p types heap heap' m vars vars' top out.top → Ends T p types heap' out.top out.status res
    → ((f : Found) → out.status ≡ Ok f → added vars vars' ≡ W) → Inferred size T W p types heap heap' m vars vars' top out res
inferred K E w = record { kept = K; known = E.known; uses = E.uses; waits = w; answer = E.answer }

-- of a refusal no namings are asked for
pub refusing : {s : Status} {w : Fault} {A : Type 0} → s ≡ Err w → (f : Found) → s ≡ Ok f → A
refusing e f q = absurd (typed-refused (sym q ∙ e))

----------------------------------------------------------------
-- What is kept

module _ {p types : List ℕ} where
  pub kept-still : (size m : ℕ) {heap : List ℕ} {top : ℕ} (vars : List ℕ) → Sources p types heap top → Kept size p types heap heap m vars vars top top
  kept-still size m vars S = record {
    agree = agree_refl _ _;
    sources = S;
    grows = omega arith;
    few = omega arith;
    below = λ j h. refl;
    lengths = refl;
    waited = waited_none size vars;
  }

  pub kept_then : {a b : ℕ} (size : ℕ) {heap heap₁ heap₂ : List ℕ} {m m' : ℕ} {vars vars₁ vars₂ : List ℕ} {top top₁ top₂ : ℕ}
      → Kept a p types heap heap₁ m vars vars₁ top top₁ → Kept b p types heap₁ heap₂ m' vars₁ vars₂ top₁ top₂ → m ≤ m' → a + b ≤ size
      → Kept size p types heap heap₂ m vars vars₂ top top₂
  kept_then size K L le s = record {
    agree = agree_trans K.agree (agree-down _ K.grows L.agree);
    sources = L.sources;
    grows = omega (arith, K.grows, L.grows);
    few = omega (arith, K.few, L.few);
    below = λ j h. K.below j h ∙ L.below j (omega arith);
    lengths = K.lengths ∙ L.lengths;
    waited = waited-then K.waited L.waited size s;
  }

  pub kept_more : {a : ℕ} (size : ℕ) {heap heap₁ : List ℕ} {m : ℕ} {vars vars₁ : List ℕ} {top top₁ : ℕ}
      → Kept a p types heap heap₁ m vars vars₁ top top₁ → a ≤ size → Kept size p types heap heap₁ m vars vars₁ top top₁
  kept_more size K s = record {
    agree = K.agree;
    sources = K.sources;
    grows = K.grows;
    few = omega (arith, K.few);
    below = K.below;
    lengths = K.lengths;
    waited = waited-more size K.waited s;
  }

  pub kept-formed : (m : ℕ) (vars : List ℕ) {heap heap' : List ℕ} {top : ℕ} {τ : Ty} {c : Code} {top' : ℕ} → Formed p types heap heap' top τ c top'
      → Kept 1 p types heap heap' m vars vars top top'
  kept-formed m vars G = record {
    agree = G.agree;
    sources = G.sources;
    grows = G.least;
    few = G.most;
    below = λ j h. refl;
    lengths = refl;
    waited = waited_none 1 vars;
  }

  pub kept-opened : {heap vars vars' : List ℕ} {sc : Scope} {top : ℕ} {c : Code} {r : Scope} → Widened p types heap vars vars' sc top c r
      → Kept 0 p types heap heap sc.n vars vars' top top
  kept-opened O = record {
    agree = agree_refl _ _;
    sources = O.scoped.sources;
    grows = omega arith;
    few = omega arith;
    below = O.below;
    lengths = O.lengths;
    waited = O.waited;
  }

  module _ {size : ℕ} {heap heap' : List ℕ} {m : ℕ} {vars vars' : List ℕ} {top top' : ℕ} (S : Sources p types heap top)
      (K : Kept size p types heap heap' m vars vars' top top') where
    pub tree_later : {c : Code} → Known (length types) top c → tree_in p types heap c ≡ tree_in p types heap' c
    tree_later k = tree-kept S.products K.agree k

    pub known_later : {c : Code} → Known (length types) top c → Known (length types) top' c
    known_later k = known_up K.grows k

----------------------------------------------------------------
-- Refusals, tests and parts

pub stopped : (size : ℕ) {T : Term} {W : List Naming} {p types heap : List ℕ} (m : ℕ) (vars : List ℕ) {top : ℕ} {r : Out} {w : Fault} {res : Checked Ty}
    → Sources p types heap top
    → r.status ≡ Err w → r.top ≡ top → res ≡ fault_of w → Inferred size T W p types heap heap m vars vars top r res
stopped size {p = p} {types} {heap} m vars {top} S e q a =
    inferred (subst (λ x. Kept size p types heap heap m vars vars top x) (sym q) (kept-still size m vars S)) (ends-refused e a) (refusing e)

module _ {A : Type 0} (b : Bool) (n : ℕ) (place : Site) (next : Checked A) where
  pub need_yes : b ≡ true → (need b n place >> next) ≡ next
  unfolding need ◌>>◌
  need_yes e = ap (λ b. need b n place >> next) e

  pub need-no : b ≡ false → (need b n place >> next) ≡ bad n place
  unfolding need ◌>>◌
  need-no e = ap (λ b. need b n place >> next) e

module _ {size : ℕ} {E : Term} {W : List Naming} {p types heap heap₁ : List ℕ} {m : ℕ} {vars vars₁ : List ℕ} {top : ℕ} {r : Out} {part : Checked Ty}
    (d : Inferred size E W p types heap heap₁ m vars vars₁ top r part) where
  pub answered : {f : Found} → r.status ≡ Ok f → part ≡ good (tree_in p types heap₁ f.code)
  unfolding status_of
  answered e = sym d.answer ∙ ap (status_of (tree_in p types heap₁)) e

  pub refused : {w : Fault} → r.status ≡ Err w → part ≡ fault_of w
  unfolding status_of
  refused e = sym d.answer ∙ ap (status_of (tree_in p types heap₁)) e

  -- the same, said to mean other things that are equal
  pub says : {part' : Checked Ty} {W' : List Naming} → part ≡ part' → W ≡ W' → Inferred size E W' p types heap heap₁ m vars vars₁ top r part'
  says e e' = record { kept = d.kept; known = d.known; uses = d.uses; waits = λ f q. d.waits f q ∙ e'; answer = d.answer ∙ e }

  -- a part is refused, and so is the whole
  pub part-refused : (size' : ℕ) {T : Term} {W' : List Naming} {w : Fault} {res : Checked Ty} (next : Ty → Checked Ty) → r.status ≡ Err w
      → res ≡ (part >>= next) → size ≤ size'
      → Inferred size' T W' p types heap heap₁ m vars vars₁ top r res
  part-refused size' {w = w} next e a s = inferred (kept_more size' d.kept s) (ends-refused e (a ∙ bad-then w next (refused e))) (refusing e)

  -- a term around it uses the same variables, and has the same namings
  pub around : (size' : ℕ) {T : Term} {W' : List Naming} {res : Checked Ty} → ((i : ℕ) → used_in i T ≡ used_in i E) → W' ≡ W → size ≤ size' → res ≡ part
      → Inferred size' T W' p types heap heap₁ m vars vars₁ top r res
  around size' n x s e = record {
    kept = kept_more size' d.kept s;
    known = d.known;
    uses = λ f q. record { each = λ i l. (d.uses f q).each i l ∙ sym (n i) };
    waits = λ f q. d.waits f q ∙ sym x;
    answer = d.answer ∙ sym e;
  }

  -- it begins earlier, after other namings
  pub earlier : {a : ℕ} (size' : ℕ) {heap₀ : List ℕ} {m₀ : ℕ} {vars₀ : List ℕ} {top₀ : ℕ} {W₀ : List Naming}
      → Kept a p types heap₀ heap m₀ vars₀ vars top₀ top → added vars₀ vars ≡ W₀ → m₀ ≤ m → a + size ≤ size'
      → Inferred size' E (W₀ ++ W) p types heap₀ heap₁ m₀ vars₀ vars₁ top₀ r part
  earlier size' K x le s = record {
    kept = kept_then size' K d.kept le s;
    known = d.known;
    uses = d.uses;
    waits = λ f q. added_then K.waited d.kept.waited x (d.waits f q);
    answer = d.answer;
  }

  -- a test comes after it, once it is typed
  pub part-tested : (size' : ℕ) {T : Term} {f : Found} {s : Status} {res : Checked Ty} (next : Ty → Checked Ty)
      → r.status ≡ Ok f → res ≡ (part >>= next) → size ≤ size' → Ends T p types heap₁ r.top s (next (tree_in p types heap₁ f.code))
      → Inferred size' T W p types heap heap₁ m vars vars₁ top (record { status = s; top = r.top }) res
  part-tested size' {T} {f} {s} next x e h ends = inferred (kept_more size' d.kept h)
      (subst (Ends T p types heap₁ r.top s) (sym (e ∙ good-then next (answered x))) ends) (λ g q. d.waits f x)

----------------------------------------------------------------
-- What stays ready

module _ {size : ℕ} {p types terms functions nodes heap vars : List ℕ} {sc : Scope} {top : ℕ}
    (rd : Ready size p types terms functions nodes heap vars sc top) where
  pub ready-less : (size' : ℕ) → size' ≤ size → Ready size' p types terms functions nodes heap vars sc top
  ready-less size' le = record {
    entries = rd.entries;
    scoped = rd.scoped;
    room = rd.room;
    small = omega (arith, rd.small);
    waiting = omega (arith, rd.waiting);
  }

  pub ready-opened : {vars' : List ℕ} {c : Code} {r : Scope} → Widened p types heap vars vars' sc top c r
      → Ready size p types terms functions nodes heap vars' r top
  ready-opened O = record {
    entries = rd.entries;
    scoped = O.scoped;
    room = rd.room;
    small = rd.small;
    waiting = omega (arith, rd.waiting, O.waited.few);
  }

  module _ {a : ℕ} {heap' vars' : List ℕ} {top' : ℕ} (K : Kept a p types heap heap' sc.n vars vars' top top') where
    pub context_later : context_in p types heap' vars' sc ≡ context_in p types heap vars sc
    context_later = context-same _ _ sc.q sc.lo (has sc.marks) (has sc.marks) sc.n
        (λ i l. ap (tree_in p types heap') (sym (variable-same vars vars' sc.n K.below i l))
        ∙ sym (tree_later rd.scoped.sources K (rd.scoped.known i l))) λ i l. refl

    pub ready_later : (size' : ℕ) → a + size' ≤ size → Ready size' p types terms functions nodes heap' vars' sc top'
    ready_later size' le = record {
      entries = rd.entries;
      scoped = record {
        sources = K.sources;
        slots = omega (arith, rd.scoped.slots, K.lengths);
        static = rd.scoped.static;
        low = rd.scoped.low;
        few = rd.scoped.few;
        known = λ i l. subst (Known (length types) top') (variable-same vars vars' sc.n K.below i l)
            (known_later rd.scoped.sources K (rd.scoped.known i l));
        owed = subst (Owed sc.owed) (sym context_later) rd.scoped.owed;
        unmarked = rd.scoped.unmarked;
      };
      room = omega (arith, rd.room, K.agree.lengths);
      small = omega (arith, rd.small, K.few);
      waiting = omega (arith, rd.waiting, K.waited.few);
    }
