-- Laws of variables in lent bytes: what a variable is as a term, and a variable more.
use Prim.Native.Nat.{ℕ, ◌+◌, ◌*◌, ◌≤◌, ◌<◌}
use native.Mathlib.Omega.{arith}
use native.Mathlib.Decide.{dec_lt}
use native.Mathlib.Nat.{eq-or-lt_of_le}
use native.Mathlib.Numerals.{add-one}
use mathlib.Core.Path.{◌≡◌, refl, sym, ap, ap₂, subst, ◌∙◌}
use mathlib.Core.Logic.{◌⊎◌, inl, inr}
use mathlib.Core.Option.{Option, some}
use mathlib.Core.Bool.{Bool, true, false, not, ◌&&◌, ◌||◌, cond}
use mathlib.Core.List.{List, [], ◌∷◌}
use lib.ListN.{length, get_or}
use borrow.Author.Tests.{eq-eqb, ne_eqb, lt-ltb, lt-leb, le-leb}
use package.Rattle.rules.specs.Ty.{Ty, is_unit}
use package.Rattle.rules.specs.Term.{var, look}
use package.Rattle.rules.specs.Typing.{Binding, dynamic, barred, Context}
use package.Rattle.rules.specs.Check.{term, good, visible, waits}
use package.Rattle.rules.specs.Limits.{max_variables}
use package.Rattle.rules.proofs.Basics.{and-false}
use package.Rattle.types.specs.declared.codes.Code.{Code}
use package.Rattle.types.specs.Codes.{code_at, tree_in, Known}
use package.Rattle.types.specs.Growth.{put_code}
use package.Rattle.types.proofs.Growing.{length_code, code_low, code_high, code_same}
use package.Rattle.varsets.specs.declared.Uses.{Uses}
use package.Rattle.varsets.specs.Sets.{Holds, has, alone, ranged, joined}
use package.Rattle.typing.specs.Contexts.{standing, context_at, must_use_at, Owed}
use package.Rattle.typing.specs.Outcomes.{Status, status_of, fault_of}
use package.Rattle.typing.specs.Ready.{variable_at, context_in, Scoped, Reads, Seen, Widened, MarkedScope}
use package.Rattle.typing.specs.Waiting.{variable_bytes, count_at, added, Waited, Waits, dynamic_in, marked_in}
use package.Rattle.typing.proofs.Contexts.{stands-static, stands-barred, stands-dynamic, length-context, look_context, look_outside, context_bind}
use package.Rattle.typing.proofs.Contexts.{must_use-newest, must_use-older, must_use-outside}
use package.Rattle.typing.proofs.Deciding.{typed_inj, typed-refused}
use package.Rattle.typing.proofs.Waiting.{waited_none, added_none, waited-below}
use Rattle.typing.specs.declared.outcomes.Scope.{Scope}
use Rattle.typing.specs.declared.outcomes.Found.{Found}
use Rattle.typing.specs.declared.outcomes.Fault.{Fault}
use Rattle.typing.specs.declared.outcomes.Fault.TheVariants.{Unscoped, Misused}
use Rattle.std.specs.Prelude.{Ok, Err}

----------------------------------------------------------------
-- A variable as a term

-- codes of variables that agree
pub variable-same : (vars vars' : List ℕ) (m : ℕ) → ((j : ℕ) → j < variable_bytes * m → get_or vars j 0 ≡ get_or vars' j 0) → (i : ℕ) → i < m
    → variable_at vars i ≡ variable_at vars' i
variable-same vars vars' m s i l = code_same vars vars' (variable_bytes * i) λ j h. s j (omega arith)

-- which namings wait in it
waits_none : (sc : Scope) (t i : ℕ) → (marked_in sc i && not (dynamic_in sc i)) ≡ false → waits (dynamic_in sc) (marked_in sc) sc.n (var t i) ≡ []
unfolding waits
waits_none sc t i e = ap (λ b. cond b (record { variable = i; place = t } ∷ []) []) e

module _ (vars : List ℕ) (sc : Scope) (t i : ℕ) where
  abbrev binding_of : (Code → Ty) → Option Binding
  binding_of T = look (context_at (λ j. T (variable_at vars j)) sc.q sc.lo (has sc.marks) sc.n) i

  -- as a variable in scope stands
  stands : (T : Code → Ty) → i < sc.n → {x : Binding} → standing sc.q sc.lo (has sc.marks) i (T (variable_at vars i)) ≡ x
      → visible (term t) (binding_of T) ≡ visible (term t) (some x)
  stands T l e = ap (visible (term t)) (look_context _ sc.q sc.lo (has sc.marks) sc.n i l ∙ ap some e)

module _ (vars : List ℕ) (sc : Scope) (t i : ℕ) {r : Status} where
  refused-seen : {w : Fault} → r ≡ Err w → ((T : Code → Ty) → fault_of w ≡ visible (term t) (binding_of vars sc t i T))
      → Seen vars vars sc t i r
  unfolding status_of
  refused-seen s a = record {
    there = λ f q. absurd (typed-refused (sym q ∙ s));
    code = λ f q. absurd (typed-refused (sym q ∙ s));
    uses = λ f q. absurd (typed-refused (sym q ∙ s));
    answer = λ T. ap (status_of T) s ∙ a T;
    waits = λ f q. absurd (typed-refused (sym q ∙ s));
    waited = waited_none 1 vars;
    below = λ j l. refl;
    lengths = refl;
  }

  pub seen-outside : sc.n ≤ i → r ≡ Err (Unscoped t) → Seen vars vars sc t i r
  unfolding fault_of visible
  seen-outside l s = refused-seen s λ T. sym (ap (visible (term t)) (look_outside _ sc.q sc.lo (has sc.marks) sc.n i l))

  pub seen-barred : i < sc.n → sc.q ≤ i → i < sc.lo → has sc.marks i ≡ false → r ≡ Err (Misused t)
      → Seen vars vars sc t i r
  unfolding fault_of visible
  seen-barred l h h' m s = refused-seen s λ T.
      sym (stands vars sc t i T l (stands-barred sc.q sc.lo (has sc.marks) i _ h h' ∙ ap (λ b. barred b (T (variable_at vars i))) m))

  module _ {vars' : List ℕ} {g : Found} (is : r ≡ Ok g) (R : Reads vars' i g) (l : i < sc.n) where
    is_that : (f : Found) → r ≡ Ok f → g ≡ f
    is_that f q = typed_inj (sym is ∙ q)

    read-seen : variable_at vars' i ≡ variable_at vars i → Waited 1 vars vars' → ((j : ℕ) → j < count_at → get_or vars j 0 ≡ get_or vars' j 0)
        → length vars ≡ length vars' → added vars vars' ≡ waits (dynamic_in sc) (marked_in sc) sc.n (var t i)
        → ((T : Code → Ty) → good (T (variable_at vars i)) ≡ visible (term t) (binding_of vars sc t i T)) → Seen vars vars' sc t i r
    unfolding status_of
    read-seen v w b n x a = record {
      there = λ f q. l;
      code = λ f q. subst (λ (f : Found). f.code ≡ variable_at vars i) (is_that f q) (R.code ∙ v);
      uses = λ f q. subst (λ (f : Found). Holds f.uses (alone i)) (is_that f q) R.uses;
      answer = λ T. ap (status_of T) is ∙ ap (λ c. good (T c)) (R.code ∙ v) ∙ a T;
      waits = λ f q. x;
      waited = w;
      below = b;
      lengths = n;
    }

  module _ {g : Found} (is : r ≡ Ok g) (R : Reads vars i g) (l : i < sc.n) where
    -- no naming
    used-seen : (marked_in sc i && not (dynamic_in sc i)) ≡ false → ((T : Code → Ty)
        → good (T (variable_at vars i)) ≡ visible (term t) (binding_of vars sc t i T))
        → Seen vars vars sc t i r
    used-seen e a = read-seen is R l refl (waited_none 1 vars) (λ j l. refl) refl (added_none vars ∙ sym (waits_none sc t i e)) a

    seen-static : i < sc.q → Seen vars vars sc t i r
    unfolding visible
    seen-static h = used-seen (rw (lt-leb sc.q i h)) λ T. sym (stands vars sc t i T l (stands-static sc.q sc.lo (has sc.marks) i _ h))

    seen-dynamic : sc.q ≤ i → sc.lo ≤ i → Seen vars vars sc t i r
    unfolding visible
    seen-dynamic h h' = used-seen
        (ap (λ b. marked_in sc i && not b) (let z : dynamic_in sc i ≡ true = rw (le-leb sc.q i h, le-leb sc.lo i h', lt-ltb i sc.n l) in z)
        ∙ and-false (marked_in sc i))
        λ T. sym (stands vars sc t i T l (stands-dynamic sc.q sc.lo (has sc.marks) i _ h h'))

    pub seen-free : (i < sc.q) ⊎ (sc.lo ≤ i) → Seen vars vars sc t i r
    seen-free (inl h) = seen-static h
    seen-free (inr h) = by (dec_lt i sc.q)
      where
        by : Dec (i < sc.q) → Seen vars vars sc t i r
        by (yes k) = seen-static k
        by (no k) = seen-dynamic (omega arith) h

  -- a naming that waits
  pub seen-waits : {vars' : List ℕ} {g : Found} → r ≡ Ok g → Reads vars' i g → Waits vars vars' i t → i < sc.n → sc.n ≤ max_variables → sc.q ≤ i → i < sc.lo
      → has sc.marks i ≡ true → Seen vars vars' sc t i r
  unfolding visible waits
  seen-waits is R W l few h h' m = read-seen is R l
      (sym (variable-same vars _ sc.n (λ j k. W.below j (omega arith)) i l)) W.waited W.below W.lengths
      (W.new ∙ sym (ap (λ b. cond b (record { variable = i; place = t } ∷ []) [])
      (ap₂ (λ a b. a && not b) (is_marked ∙ m) (let z : dynamic_in sc i ≡ false = rw (le-leb sc.q i h, lt-leb sc.lo i h') in z))))
      λ T. sym (stands vars sc t i T l (stands-barred sc.q sc.lo (has sc.marks) i _ h h' ∙ ap (λ b. barred b (T (variable_at vars i))) m))
    where
      is_marked : marked_in sc i ≡ has sc.marks i
      is_marked = rw (le-leb sc.q i h, lt-ltb i sc.n l)

----------------------------------------------------------------
-- A variable more

module _ {p types heap vars : List ℕ} {sc : Scope} {top : ℕ} (S : Scoped p types heap vars sc top) (c : Code) (K : Known (length types) top c)
    (h : sc.n < max_variables)
    {at : ℕ} (a : at ≡ variable_bytes * sc.n) {vars' : List ℕ} (e : vars' ≡ put_code vars at c) (b : code_at vars' at ≡ c) where
  put : vars' ≡ put_code vars (variable_bytes * sc.n) c
  put = e ∙ ap (λ at. put_code vars at c) a

  put-below : (j : ℕ) → j < variable_bytes * sc.n → get_or vars j 0 ≡ get_or vars' j 0
  put-below j l = rw put (sym (code_low vars (variable_bytes * sc.n) c j l))

  put-above : (j : ℕ) → count_at ≤ j → get_or vars j 0 ≡ get_or vars' j 0
  put-above j l = rw put (sym (code_high vars (variable_bytes * sc.n) c j (omega arith)))

  put-length : length vars ≡ length vars'
  put-length = rw put (sym (length_code vars (variable_bytes * sc.n) c))

  older : (i : ℕ) → i < sc.n → variable_at vars i ≡ variable_at vars' i
  older = variable-same vars vars' sc.n put-below

  newest : variable_at vars' sc.n ≡ c
  newest = ap (code_at vars') (sym a) ∙ b

  abbrev Δ : Context
  Δ = context_in p types heap vars sc

  abbrev τ : Ty
  τ = tree_in p types heap c

  module _ (u : Uses) (owed : Owed u (dynamic false τ ∷ Δ)) where
    abbrev inner : Scope
    inner = record { q = sc.q; lo = sc.lo; n = sc.n + 1; owed = u; marks = sc.marks }

    inner-context : context_in p types heap vars' inner ≡ dynamic false τ ∷ Δ
    inner-context =
        ap (context_at (λ i. tree_in p types heap (variable_at vars' i)) sc.q sc.lo (has sc.marks)) (add-one sc.n)
        ∙ context_bind (λ i. tree_in p types heap (variable_at vars i)) (λ i. tree_in p types heap (variable_at vars' i)) sc.q sc.lo (has sc.marks) sc.n
        S.static S.low (S.unmarked sc.n (omega arith) h)
        (ap (tree_in p types heap) newest) (λ i l. ap (tree_in p types heap) (sym (older i l)))

    pub opened : Widened p types heap vars vars' sc top c inner
    opened = record {
      scoped = record {
        sources = S.sources;
        slots = omega (arith, S.slots, put-length);
        static = omega (arith, S.static);
        low = omega (arith, S.low);
        few = omega arith;
        known = λ i l. known i (eq-or-lt_of_le (let z : i ≤ sc.n = omega arith in z));
        owed = subst (Owed u) (sym inner-context) owed;
        unmarked = λ i l. S.unmarked i (omega arith);
      };
      one_more = refl;
      context = inner-context;
      below = put-below;
      lengths = put-length;
      waited = waited-below put-above;
    }
      where
        known : (i : ℕ) → (i ≡ sc.n) ⊎ (i < sc.n) → Known (length types) top (variable_at vars' i)
        known i (inl q) = subst (Known (length types) top) (sym newest ∙ ap (variable_at vars') (sym q)) K
        known i (inr l) = subst (Known (length types) top) (older i l) (S.known i l)

  abbrev as_many : length Δ ≡ sc.n
  as_many = length-context (λ i. tree_in p types heap (variable_at vars i)) sc.q sc.lo (has sc.marks) sc.n

  -- the newest, an older one, or none
  owed_by : (u : Uses) → ((i : ℕ) → i < max_variables → i < sc.n → has u i ≡ must_use_at Δ i) → has u sc.n ≡ not (is_unit τ)
      → ((i : ℕ) → i < max_variables → sc.n < i → has u i ≡ false) → Owed u (dynamic false τ ∷ Δ)
  owed_by u low here high = record { each = λ i l. go i l (dec_lt i sc.n) (dec_lt sc.n i) }
    where
      go : (i : ℕ) → i < max_variables → Dec (i < sc.n) → Dec (sc.n < i) → has u i ≡ must_use_at (dynamic false τ ∷ Δ) i
      go i l (yes x) y = low i l x ∙ sym (must_use-older Δ (dynamic false τ) i (omega (arith, as_many)))
      go i l (no x) (yes y) = high i l y ∙ sym (must_use-outside (dynamic false τ ∷ Δ) i (omega (arith, as_many)))
      go i l (no x) (no y) =
          let q : i ≡ sc.n = omega arith in ap (has u) q ∙ here ∙ sym (must_use-newest Δ τ i (q ∙ sym as_many))

  outside : (i : ℕ) → i < max_variables → sc.n ≤ i → has sc.owed i ≡ false
  outside i l q = S.owed.each i l ∙ must_use-outside Δ i (omega (arith, as_many))

  -- of the unit type, it need not be used
  pub opened-unit : {b : Bool} → b ≡ is_unit τ → b ≡ true → Widened p types heap vars vars' sc top c
      (record { q = sc.q; lo = sc.lo; n = sc.n + 1; owed = sc.owed; marks = sc.marks })
  opened-unit q k = opened sc.owed
      (owed_by sc.owed (λ i l x. S.owed.each i l) (outside sc.n h (omega arith) ∙ sym (ap not (sym q ∙ k))) (λ i l x. outside i l (omega arith)))

  pub opened-used : {b : Bool} → b ≡ is_unit τ → b ≡ false → {mine u : Uses} → Holds mine (alone sc.n) → Holds u (joined (has sc.owed) (has mine))
      → Widened p types heap vars vars' sc top c (record { q = sc.q; lo = sc.lo; n = sc.n + 1; owed = u; marks = sc.marks })
  opened-used q k {mine} {u} M U = opened u (owed_by u
      (λ i l x. U.each i l ∙ ap₂ ◌||◌ (S.owed.each i l) (M.each i l ∙ ne_eqb i sc.n (λ e. omega arith)) ∙ or_false (must_use_at Δ i))
      (U.each sc.n h ∙ ap₂ ◌||◌ (outside sc.n h (omega arith)) (M.each sc.n h ∙ eq-eqb sc.n sc.n refl) ∙ sym (ap not (sym q ∙ k)))
      (λ i l x. U.each i l ∙ ap₂ ◌||◌ (outside i l (omega arith)) (M.each i l ∙ ne_eqb i sc.n (λ e. omega arith))))
    where
      or_false : (b : Bool) → (b || false) ≡ b
      or_false true = refl
      or_false false = refl

----------------------------------------------------------------
-- The scope of a bound term

pub marked-scope : {sc : Scope} {d m : Uses} → Holds d (ranged sc.lo sc.n) → Holds m (joined (has sc.marks) (has d))
    → MarkedScope sc (record { q = sc.q; lo = sc.lo; n = sc.n; owed = sc.owed; marks = m })
marked-scope {sc} D U = record {
  q = refl;
  lo = refl;
  n = refl;
  owed = refl;
  marks = record { each = λ i l. U.each i l ∙ ap (λ b. has sc.marks i || b) (D.each i l) };
}
