-- The tests on entries accept exactly entries that name as section 1 says: lower ones, ones that are there, each term once, plain types.
use Prim.Native.Nat.{ℕ, zero, suc, ◌+◌, ◌≤◌, ◌<◌}
use native.Mathlib.Omega.{arith}
use native.Mathlib.Decide.{dec_lt}
use mathlib.Core.Path.{◌≡◌, refl, sym, subst}
use mathlib.Core.Bool.{true, false≢true}
use mathlib.Core.List.{List, [], ◌∷◌, ◌++◌}
use mathlib.Core.Logic.{◌↔◌}
use lib.ListN.{length, get_or}
use lib.Dec.{eqb}
use package.Rattle.rules.proofs.Basics.{given, and_both, eqb-sound, eqb_yes, or_elim, or_left, or_right}
use package.Rattle.calls.specs.Answer.{accepted}
use package.Rattle.calls.specs.Fields.{Layout}
use package.Rattle.calls.specs.Entries.{TypeEntry, y_unit, type_of, TermEntry, n_unit, FunctionEntry, Entries}
use package.Rattle.calls.specs.Named.{types_of_type, types_of_term, terms_of_term, functions_of_term, types_of_function, below, member, plain, all_plain, test_types, test_terms, test_functions, test_used, test_entries}
use package.Rattle.calls.specs.Closed.{Plain, Lower}
use package.Rattle.calls.specs.Formed.{gathered, types_named, terms_used, times, WellNamed}
use package.Rattle.calls.proofs.Answer.{accepted_inj, via, unbind, require_yes, required}
use package.Rattle.calls.proofs.Entries.{below-head, below_wider, lower, plain_iff}
use package.Rattle.calls.proofs.Formed.Uses.{times-append, member-times, times-past, Once, fresh-once, once-fresh, below-append}

----------------------------------------------------------------
-- Plain types, in a list of references that are there

all-plain-append : (ys : List TypeEntry) (is js : List ℕ) → (all_plain ys (is ++ js) ≡ true) ↔ ((all_plain ys is ≡ true) × (all_plain ys js ≡ true))
unfolding all_plain
all-plain-append ys [] js = (λ e. (refl, e), λ (p, e). e)
all-plain-append ys (i ∷ is) js = (
  λ e. given (and_both (plain ys i) (all_plain ys (is ++ js)) e) λ (x, y). given ((all-plain-append ys is js).0 y) λ (p, q). (rw (x, p), q),
  λ (p, q). given (and_both (plain ys i) (all_plain ys is) p) λ (x, y). rw (x, (all-plain-append ys is js).1 (y, q)),
)

module _ (ys : List TypeEntry) (low : Lower ys) where
  all-plain_iff : (is : List ℕ) → below (length ys) is ≡ true → (all_plain ys is ≡ true) ↔ ((i : ℕ) → member i is ≡ true → Plain (type_of ys i))
  unfolding all_plain member
  all-plain_iff [] b = (λ e i m. absurd (false≢true m), λ h. refl)
  all-plain_iff (j ∷ js) b = given (below-head (length ys) j js b) λ (l, b₁). (
    λ e i m. given (and_both (plain ys j) (all_plain ys js) e) λ (x, y).
        or_elim (eqb i j) (member i js) (λ p. subst (λ i. Plain (type_of ys i)) (sym (eqb-sound i j p)) ((plain_iff ys j).0 x))
        ((all-plain_iff js b₁).0 y i) m,
    λ h. rw ((plain_iff ys j).1 (h j (or_left (member j js) (same j))), (all-plain_iff js b₁).1 λ i m. h i (or_right (eqb i j) m)),
  )
    where
      same : (j : ℕ) → eqb j j ≡ true
      same j = eqb_yes j

----------------------------------------------------------------
-- Types

types-pass : (L : Layout) (k : ℕ) (ys : List TypeEntry) → ((i : ℕ) → below (k + i) (types_of_type (get_or ys i y_unit)) ≡ true) → test_types L k ys ≡ accepted tt
unfolding test_types
types-pass L k [] h = refl
types-pass L k (y ∷ ys) h =
    via _ (require_yes 4 _ (subst (λ n. below n (types_of_type y) ≡ true) (let z : k + 0 ≡ k = omega arith in z) (h 0)))
    (types-pass L (suc k) ys λ i. subst (λ n. below n (types_of_type (get_or ys i y_unit)) ≡ true) (let z : k + suc i ≡ suc k + i = omega arith in z) (h (suc i)))

-- for every number, from the first and the others
from_head : (Q : ℕ → Type 0) → Q 0 → ((i : ℕ) → Q (suc i)) → (i : ℕ) → Q i
from_head Q q s zero = q
from_head Q q s (suc i) = s i

-- before any entry
times_none : (i : ℕ) → times i [] ≡ 0
unfolding times
times_none i = refl

none_used : (i : ℕ) → times i [] ≤ 1
none_used i = omega (arith, times_none i)

-- what terms from number `k` on name is there, if each names lower ones
lower-there : (k n : ℕ) (ts : List TermEntry) → ((i : ℕ) → below (k + i) (terms_of_term (get_or ts i n_unit)) ≡ true) → k + length ts ≤ n
    → below n (gathered terms_of_term ts) ≡ true
unfolding gathered below
lower-there k n [] h l = refl
lower-there k n (t ∷ ts) h l = (below-append n (terms_of_term t) (gathered terms_of_term ts)).1 (
  below_wider (k + 0) n (terms_of_term t) (omega arith) (h 0),
  lower-there (suc k) n ts
      (λ i. subst (λ n. below n (terms_of_term (get_or ts i n_unit)) ≡ true) (let z : k + suc i ≡ suc k + i = omega arith in z) (h (suc i))) (omega arith),
)

-- what a function uses
abbrev body_of : FunctionEntry → List ℕ
body_of h = h.body ∷ []

----------------------------------------------------------------
-- Terms and functions: what is named, and what is used after them

module _ (L : Layout) (E : Entries) where
  -- what the tests ask of terms, from number `k` on
  pub record TermsNamed (k : ℕ) (ts : List TermEntry) : Type 0 where
    pub lower : (i : ℕ) → below (k + i) (terms_of_term (get_or ts i n_unit)) ≡ true
    pub types : below (length E.types) (gathered types_of_term ts) ≡ true
    pub functions : below (length E.functions) (gathered functions_of_term ts) ≡ true
    pub plain : all_plain E.types (gathered types_of_term ts) ≡ true

  -- `used` and what entries use besides
  abbrev After : List ℕ → List ℕ → List ℕ → Type 0
  After now used after = (i : ℕ) → times i after ≡ times i now + times i used

  terms_named : (k : ℕ) (used : List ℕ) (ts : List TermEntry) {after : List ℕ} → test_terms L E k used ts ≡ accepted after → ((i : ℕ) → times i used ≤ 1)
      → TermsNamed k ts × After (gathered terms_of_term ts) used after × ((i : ℕ) → times i after ≤ 1)
  unfolding test_terms gathered below all_plain times terms_of_term
  terms_named k used [] e h =
      given (accepted_inj e) λ same. (
        record { lower = λ i. refl; types = refl; functions = refl; plain = refl },
        λ i. subst (λ us. times i us ≡ 0 + times i used) same (omega arith),
        λ i. subst (λ us. times i us ≤ 1) same (h i),
      )
  terms_named k used (t ∷ ts) e h =
      given (unbind _ _ e) λ (u, p, e₁). given (unbind _ _ e₁) λ (u', p', e₂).
      given (and_both _ _ (required _ 4 _ p)) λ (x, new). given (and_both _ _ x) λ (y, fs). given (and_both _ _ y) λ (tys, ls).
      given (fresh-once used (terms_of_term t) new h) λ once.
      given (terms_named (suc k) (terms_of_term t ++ used) ts e₂ λ i. omega (arith, once i, times-append i (terms_of_term t) used)) λ (N, A, B). (
        record {
          lower = from_head (λ i. below (k + i) (terms_of_term (get_or (t ∷ ts) i n_unit)) ≡ true)
              (subst (λ n. below n (terms_of_term t) ≡ true) (let z : k ≡ k + 0 = omega arith in z) ls) λ i.
              subst (λ n. below n (terms_of_term (get_or ts i n_unit)) ≡ true) (let z : suc k + i ≡ k + suc i = omega arith in z) (N.lower i);
          types = (below-append _ (types_of_term t) _).1 (tys, N.types);
          functions = (below-append _ (functions_of_term t) _).1 (fs, N.functions);
          plain = (all-plain-append E.types (types_of_term t) _).1 (required _ 5 _ p', N.plain);
        },
        λ i. omega (arith, A i, times-append i (terms_of_term t) used, times-append i (terms_of_term t) (gathered terms_of_term ts)),
        B,
      )

  terms-pass : (k : ℕ) (used : List ℕ) (ts : List TermEntry) → TermsNamed k ts → Once (gathered terms_of_term ts) used
      → (after : List ℕ) × (test_terms L E k used ts ≡ accepted after) × After (gathered terms_of_term ts) used after
  unfolding test_terms gathered times
  terms-pass k used [] N o = (used, refl, λ i. omega arith)
  terms-pass k used (t ∷ ts) N o =
      given ((below-append _ (types_of_term t) _).0 N.types) λ (tys, types). given ((below-append _ (functions_of_term t) _).0 N.functions) λ (fs, functions).
      given ((all-plain-append E.types (types_of_term t) _).0 N.plain) λ (pl, plain).
      given (terms-pass (suc k) (terms_of_term t ++ used) ts
      (record {
        lower = λ i. subst (λ n. below n (terms_of_term (get_or ts i n_unit)) ≡ true) (let z : k + suc i ≡ suc k + i = omega arith in z) (N.lower (suc i));
        types = types;
        functions = functions;
        plain = plain;
      }) λ i. omega (arith, o i, times-append i (terms_of_term t) used, times-append i (terms_of_term t) (gathered terms_of_term ts))) λ (after, p, A). (
        after,
        via _ (require_yes 4 _ (rw (
          tys,
          subst (λ n. below n (terms_of_term t) ≡ true) (let z : k + 0 ≡ k = omega arith in z) (N.lower 0),
          fs,
          once-fresh used (terms_of_term t) λ i. omega (arith, o i, times-append i (terms_of_term t) (gathered terms_of_term ts)),
        ))) (via _ (require_yes 5 _ pl) p),
        λ i. omega (arith, A i, times-append i (terms_of_term t) used, times-append i (terms_of_term t) (gathered terms_of_term ts)),
      )

  -- what the tests ask of functions
  pub record FunctionsNamed (hs : List FunctionEntry) : Type 0 where
    pub types : below (length E.types) (gathered types_of_function hs) ≡ true
    pub bodies : below (length E.terms) (gathered body_of hs) ≡ true
    pub plain : all_plain E.types (gathered types_of_function hs) ≡ true

  functions_named : (g : ℕ) (used : List ℕ) (hs : List FunctionEntry) {after : List ℕ} → test_functions L E g used hs ≡ accepted after
      → ((i : ℕ) → times i used ≤ 1)
      → FunctionsNamed hs × After (gathered body_of hs) used after × ((i : ℕ) → times i after ≤ 1)
  unfolding test_functions gathered below all_plain times
  functions_named g used [] e h =
      given (accepted_inj e) λ same. (
        record { types = refl; bodies = refl; plain = refl },
        λ i. subst (λ us. times i us ≡ 0 + times i used) same (omega arith),
        λ i. subst (λ us. times i us ≤ 1) same (h i),
      )
  functions_named g used (x ∷ hs) e h =
      given (unbind _ _ e) λ (u, p, e₁). given (unbind _ _ e₁) λ (u', p', e₂).
      given (and_both _ _ (required _ 4 _ p)) λ (y, new). given (and_both _ _ y) λ (tys, b).
      given (fresh-once used (body_of x) new h) λ once.
      given (functions_named (suc g) (body_of x ++ used) hs e₂ λ i. omega (arith, once i, times-append i (body_of x) used)) λ (N, A, B). (
        record {
          types = (below-append _ (types_of_function x) _).1 (tys, N.types);
          bodies = (below-append (length E.terms) (body_of x) (gathered body_of hs)).1 (b, N.bodies);
          plain = (all-plain-append E.types (types_of_function x) _).1 (required _ 5 _ p', N.plain);
        },
        λ i. omega (arith, A i, times-append i (body_of x) used, times-append i (body_of x) (gathered body_of hs)),
        B,
      )

  functions-pass : (g : ℕ) (used : List ℕ) (hs : List FunctionEntry) → FunctionsNamed hs → Once (gathered body_of hs) used
      → (after : List ℕ) × (test_functions L E g used hs ≡ accepted after) × After (gathered body_of hs) used after
  unfolding test_functions gathered times
  functions-pass g used [] N o = (used, refl, λ i. omega arith)
  functions-pass g used (x ∷ hs) N o =
      given ((below-append _ (types_of_function x) _).0 N.types) λ (tys, types). given ((below-append _ (body_of x) _).0 N.bodies) λ (b, bodies).
      given ((all-plain-append E.types (types_of_function x) _).0 N.plain) λ (pl, plain).
      given (functions-pass (suc g) (body_of x ++ used) hs (record { types = types; bodies = bodies; plain = plain })
      λ i. omega (arith, o i, times-append i (body_of x) used, times-append i (body_of x) (gathered body_of hs))) λ (after, p, A). (
        after,
        via _ (require_yes 4 _ (rw (tys, b, once-fresh used (body_of x) λ i. omega (arith, o i, times-append i (body_of x) (gathered body_of hs)))))
            (via _ (require_yes 5 _ pl) p),
        λ i. omega (arith, A i, times-append i (body_of x) used, times-append i (body_of x) (gathered body_of hs)),
      )

  ----------------------------------------------------------------
  -- Terms that nothing uses

  all-used : (k : ℕ) (used : List ℕ) (ts : List TermEntry) → test_used L E k used ts ≡ accepted tt → (i : ℕ) → i < length ts → 1 ≤ times (k + i) used
  unfolding test_used
  all-used k used [] e i l = absurd (omega arith)
  all-used k used (t ∷ ts) e zero l =
      given (unbind _ _ e) λ (u, p, e₁). subst (λ n. 1 ≤ times n used) (let z : k ≡ k + 0 = omega arith in z) ((member-times k used).0 (required _ 4 _ p))
  all-used k used (t ∷ ts) e (suc i) l =
      given (unbind _ _ e) λ (u, p, e₁).
      subst (λ n. 1 ≤ times n used) (let z : suc k + i ≡ k + suc i = omega arith in z) (all-used (suc k) used ts e₁ i (omega arith))

  used-pass : (k : ℕ) (used : List ℕ) (ts : List TermEntry) → ((i : ℕ) → i < length ts → 1 ≤ times (k + i) used) → test_used L E k used ts ≡ accepted tt
  unfolding test_used
  used-pass k used [] h = refl
  used-pass k used (t ∷ ts) h =
      via _ (require_yes 4 _ ((member-times k used).1 (subst (λ n. 1 ≤ times n used) (let z : k + 0 ≡ k = omega arith in z) (h 0 (omega arith)))))
      (used-pass (suc k) used ts λ i l. subst (λ n. 1 ≤ times n used) (let z : k + suc i ≡ suc k + i = omega arith in z) (h (suc i) (omega arith)))

----------------------------------------------------------------
-- All entries

module _ (L : Layout) (E : Entries) where
  -- parts and bodies
  both : (i : ℕ) → times i (terms_used E) ≡ times i (gathered terms_of_term E.terms) + times i (gathered body_of E.functions)
  both i = times-append i (gathered terms_of_term E.terms) (gathered body_of E.functions)

  entries_named : test_entries L E ≡ accepted tt → WellNamed E
  unfolding test_entries
  entries_named e =
      given (unbind (test_types L 0 E.types) _ e) λ (u, p, e₁).
      given (unbind (test_terms L E 0 [] E.terms) _ e₁) λ (inTerms, p₂, e₂).
      given (unbind (test_functions L E 0 inTerms E.functions) _ e₂) λ (inAll, p₃, e₃).
      given (terms_named L E 0 [] E.terms p₂ none_used) λ (T, A, B).
      given (functions_named L E 0 inTerms E.functions p₃ B) λ (F, A', B').
      given (lower L E.types p) λ low.
      given ((below-append _ (gathered types_of_term E.terms) _).1 (T.types, F.types)) λ there.
      record {
        types_lower = low;
        terms_lower = λ k. subst (λ n. below n (terms_of_term (get_or E.terms k n_unit)) ≡ true) (let z : 0 + k ≡ k = omega arith in z) (T.lower k);
        types_there = there;
        terms_there = (below-append _ (gathered terms_of_term E.terms) _).1 (lower-there 0 (length E.terms) E.terms T.lower (omega arith), F.bodies);
        functions_there = T.functions;
        used_once = λ k l. omega (
          arith,
          A k,
          A' k,
          B' k,
          times_none k,
          subst (λ n. 1 ≤ times n inAll) (let z : 0 + k ≡ k = omega arith in z) (all-used L E 0 inAll E.terms e₃ k l),
          both k,
        );
        types_plain = (all-plain_iff E.types low (types_named E) there).0
            ((all-plain-append E.types (gathered types_of_term E.terms) _).1 (T.plain, F.plain));
      }

  -- no term is used twice, be it there or not
  at-most-once : WellNamed E → (i : ℕ) → times i (terms_used E) ≤ 1
  at-most-once N i = by_range (dec_lt i (length E.terms))
    where
      by_range : Dec (i < length E.terms) → times i (terms_used E) ≤ 1
      by_range (yes l) = omega (arith, N.used_once i l)
      by_range (no l) = omega (arith, times-past (length E.terms) i (terms_used E) N.terms_there (omega arith))

  named_entries : WellNamed E → test_entries L E ≡ accepted tt
  unfolding test_entries
  named_entries N =
      given ((below-append _ (gathered types_of_term E.terms) _).0 N.types_there) λ (ty, ty').
      given ((all-plain-append E.types (gathered types_of_term E.terms) _).0
      ((all-plain_iff E.types N.types_lower (types_named E) N.types_there).1 N.types_plain)) λ (pl, pl').
      given ((below-append _ (gathered terms_of_term E.terms) _).0 N.terms_there) λ (parts, bodies).
      given (terms-pass L E 0 [] E.terms
      (record {
        lower = λ i. subst (λ n. below n (terms_of_term (get_or E.terms i n_unit)) ≡ true) (let z : i ≡ 0 + i = omega arith in z) (N.terms_lower i);
        types = ty;
        functions = N.functions_there;
        plain = pl;
      })
      λ i. omega (arith, at-most-once N i, both i, times_none i)) λ (inTerms, p₂, A).
      given (functions-pass L E 0 inTerms E.functions (record { types = ty'; bodies = bodies; plain = pl' })
      λ i. omega (arith, at-most-once N i, both i, A i, times_none i)) λ (inAll, p₃, A').
      via _ (types-pass L 0 E.types λ i.
      subst (λ n. below n (types_of_type (get_or E.types i y_unit)) ≡ true) (let z : i ≡ 0 + i = omega arith in z) (N.types_lower i))
      (via _ p₂ (via _ p₃ (used-pass L E 0 inAll E.terms λ i l.
      subst (λ n. 1 ≤ times n inAll) (let z : i ≡ 0 + i = omega arith in z) (omega (arith, N.used_once i l, both i, A i, A' i, times_none i)))))

  pub entries_iff : (test_entries L E ≡ accepted tt) ↔ WellNamed E
  entries_iff = (entries_named, named_entries)
