-- One turn of each loop over a run of references: all below a limit, all of plain types, terms that were unused.
use Prim.Native.Nat.{ℕ, ◌+◌, ◌*◌, ◌-◌, ◌<◌, ◌≤◌}
use native.Mathlib.Omega.{arith}
use mathlib.Core.Path.{◌≡◌, refl, sym, ap, ap₂, subst, ◌∙◌}
use mathlib.Core.Bool.{Bool, true, false, ◌&&◌, ◌||◌, not, and_assoc, and-false, false≢true}
use mathlib.Core.List.{List, [], ◌∷◌, ◌++◌, append_assoc}
use lib.ListN.{length, get_or, set, length-set}
use lib.Seq.{get_or-set_same, get_or-set_other}
use lib.Dec.{eqb, ltb, leb}
use borrow.Author.Tests.{lt-ltb, le-ltb, le-leb, lt-leb, eq-eqb, ne_eqb, eqb-true, eqb-false}
use package.Rattle.octets.specs.Numbers.{get16}
use package.Rattle.rules.specs.Limits.{max_nodes}
use package.Rattle.rules.proofs.Basics.{given, and_both}
use package.Rattle.calls.specs.Entries.{references}
use package.Rattle.calls.specs.Named.{below, member, fresh}
use package.Rattle.calls.proofs.Entries.{below-head, member-middle}
use package.Rattle.entries.specs.Marks.{Marks, Used, plain_in, all_plain_in}
use package.Rattle.program.proofs.Lists.{references_snoc, references-at}

-- a loop that counts has come to its end
ended : (P : ℕ → Type 0) (i n : ℕ) → i ≤ n → n ≤ i → P i → P n
ended P i n l l' = subst P (let e : i ≡ n = omega arith in e)

----------------------------------------------------------------
-- Below a limit

pub below-append : (n : ℕ) (is js : List ℕ) → below n (is ++ js) ≡ (below n is && below n js)
unfolding below
below-append n [] js = refl
below-append n (i ∷ is) js = ap (λ b. ltb i n && b) (below-append n is js) ∙ sym (and_assoc (ltb i n) (below n is) (below n js))

module _ (xs : List ℕ) (from limit : ℕ) where
  pub below_none : below limit (references xs from 0) ≡ true
  unfolding references below
  below_none = refl

  below_parts : (i n : ℕ) → i < n
      → below limit (references xs from n) ≡ (below limit (references xs from i) && (ltb (get16 xs (from + 2 * i)) limit && below limit (references xs (from + 2 * i + 2) (n - (i + 1)))))
  unfolding below
  below_parts i n h = ap (below limit) (references-at xs from i n h) ∙ below-append limit (references xs from i) _

  pub below_more : (i : ℕ) → below limit (references xs from i) ≡ true → get16 xs (from + 2 * i) < limit → below limit (references xs from (i + 1)) ≡ true
  unfolding below
  below_more i e h =
      ap (below limit) (references_snoc xs from i) ∙ below-append limit (references xs from i) (get16 xs (from + 2 * i) ∷ [])
      ∙ ap₂ (λ a b. a && (b && true)) e (lt-ltb (get16 xs (from + 2 * i)) limit h)

  pub below_all : (i n : ℕ) → i ≤ n → n ≤ i → below limit (references xs from i) ≡ true → true ≡ below limit (references xs from n)
  below_all i n l l' e = sym (ended (λ n. below limit (references xs from n) ≡ true) i n l l' e)

  pub below-stops : (i n : ℕ) → i < n → limit ≤ get16 xs (from + 2 * i) → false ≡ below limit (references xs from n)
  below-stops i n h l =
      sym (below_parts i n h ∙ ap (λ b. below limit (references xs from i) && (b && below limit (references xs (from + 2 * i + 2) (n - (i + 1))))) (le-ltb (get16 xs (from + 2 * i)) limit l)
      ∙ and-false (below limit (references xs from i)))

  pub below_at : (i n : ℕ) → i < n → below limit (references xs from n) ≡ true → get16 xs (from + 2 * i) < limit
  unfolding below
  below_at i n h e =
      given (and_both (below limit (references xs from i)) _ (sym (below_parts i n h) ∙ e)) λ (a, b).
      (below-head limit (get16 xs (from + 2 * i)) (references xs (from + 2 * i + 2) (n - (i + 1))) b).0

----------------------------------------------------------------
-- Plain types

module _ (nodes free : List ℕ) where
  pub plain-append : (is js : List ℕ) → all_plain_in nodes free (is ++ js) ≡ (all_plain_in nodes free is && all_plain_in nodes free js)
  unfolding all_plain_in
  plain-append [] js = refl
  plain-append (i ∷ is) js = ap (λ b. plain_in nodes free i && b) (plain-append is js) ∙ sym (and_assoc (plain_in nodes free i) (all_plain_in nodes free is) (all_plain_in nodes free js))

  pub plain_none : (xs : List ℕ) (from : ℕ) → all_plain_in nodes free (references xs from 0) ≡ true
  unfolding references all_plain_in
  plain_none xs from = refl

  pub plain_yes : (i : ℕ) → get_or free i 0 ≤ 0 → get_or nodes i 0 ≤ max_nodes → plain_in nodes free i ≡ true
  unfolding plain_in
  plain_yes i f n = ap₂ (λ a b. a && b) (eq-eqb (get_or free i 0) 0 (omega arith)) (le-leb (get_or nodes i 0) max_nodes n)

  pub plain_open : (i : ℕ) → 0 < get_or free i 0 → plain_in nodes free i ≡ false
  unfolding plain_in
  plain_open i f = ap (λ b. b && leb (get_or nodes i 0) max_nodes) (ne_eqb (get_or free i 0) 0 λ e. omega arith)

  pub plain_large : (i : ℕ) → max_nodes < get_or nodes i 0 → plain_in nodes free i ≡ false
  unfolding plain_in
  plain_large i n = ap (λ b. eqb (get_or free i 0) 0 && b) (lt-leb (get_or nodes i 0) max_nodes n) ∙ and-false (eqb (get_or free i 0) 0)

  pub plain_more : (xs : List ℕ) (from i t : ℕ) → t ≡ get16 xs (from + 2 * i) → all_plain_in nodes free (references xs from i) ≡ true → plain_in nodes free t ≡ true
      → all_plain_in nodes free (references xs from (i + 1)) ≡ true
  unfolding all_plain_in
  plain_more xs from i t r e h =
      ap (all_plain_in nodes free) (references_snoc xs from i) ∙ plain-append (references xs from i) (get16 xs (from + 2 * i) ∷ [])
      ∙ ap₂ (λ a b. a && (b && true)) e (ap (plain_in nodes free) (sym r) ∙ h)

  pub plain-all : (xs : List ℕ) (from i n : ℕ) → i ≤ n → n ≤ i → all_plain_in nodes free (references xs from i) ≡ true → true ≡ all_plain_in nodes free (references xs from n)
  plain-all xs from i n l l' e = sym (ended (λ n. all_plain_in nodes free (references xs from n) ≡ true) i n l l' e)

  pub plain-stops : (xs : List ℕ) (from i n t : ℕ) → t ≡ get16 xs (from + 2 * i) → i < n → plain_in nodes free t ≡ false → false ≡ all_plain_in nodes free (references xs from n)
  unfolding all_plain_in
  plain-stops xs from i n t r h e =
      sym (ap (all_plain_in nodes free) (references-at xs from i n h) ∙ plain-append (references xs from i) _
      ∙ ap (λ b. all_plain_in nodes free (references xs from i) && (b && all_plain_in nodes free (references xs (from + 2 * i + 2) (n - (i + 1))))) (ap (plain_in nodes free) (sym r) ∙ e)
      ∙ and-false (all_plain_in nodes free (references xs from i)))

----------------------------------------------------------------
-- Terms that were unused

-- the terms used by the time that `ts` were tested
onto : List ℕ → List ℕ → List ℕ
onto [] used = used
onto (t ∷ ts) used = onto ts (t ∷ used)

onto-member : (k : ℕ) (ts used : List ℕ) → member k (onto ts used) ≡ member k (ts ++ used)
unfolding member onto
onto-member k [] used = refl
onto-member k (t ∷ ts) used = onto-member k ts (t ∷ used) ∙ member-middle k t ts used

fresh-append : (used ts us : List ℕ) → fresh used (ts ++ us) ≡ (fresh used ts && fresh (onto ts used) us)
unfolding fresh onto
fresh-append used [] us = refl
fresh-append used (t ∷ ts) us = ap (λ b. not (member t used) && b) (fresh-append (t ∷ used) ts us) ∙ sym (and_assoc (not (member t used)) (fresh (t ∷ used) ts) (fresh (onto ts (t ∷ used)) us))

fresh-next : (used ts us : List ℕ) (t : ℕ) → fresh used (ts ++ (t ∷ us)) ≡ (fresh used ts && (not (member t (ts ++ used)) && fresh (t ∷ onto ts used) us))
unfolding fresh
fresh-next used ts us t = fresh-append used ts (t ∷ us) ∙ ap (λ b. fresh used ts && (not b && fresh (t ∷ onto ts used) us)) (onto-member t ts used)

-- a term is noted as used
marks-more : (us used : List ℕ) (t : ℕ) → t < length us → Marks us used → (k : ℕ) → k < length us → (eqb k t || member k used) ≡ ltb 0 (get_or (set us t 1) k 0)
marks-more us used t l M k lk = go (eqb k t) refl
  where
    go : (b : Bool) → eqb k t ≡ b → (b || member k used) ≡ ltb 0 (get_or (set us t 1) k 0)
    go true e = ap (λ n. ltb 0 n) (sym (get_or-set_same us t 1 0 l) ∙ ap (λ k. get_or (set us t 1) k 0) (sym (eqb-true k t e)))
    go false e = M.marked k lk ∙ ap (λ n. ltb 0 n) (sym (get_or-set_other us t k 1 0 (eqb-false k t e)))

-- the terms `ts` are found unused, and noted: `us` before, `us'` now
pub record Using (us us' ts : List ℕ) : Type 0 where
  pub unused : (used : List ℕ) → Marks us used → fresh used ts ≡ true
  pub noted : (used : List ℕ) → Marks us used → Marks us' (ts ++ used)

pub using_none : (xs : List ℕ) (from : ℕ) (us : List ℕ) → Using us us (references xs from 0)
unfolding references fresh
using_none xs from us = record { unused = λ used M. refl; noted = λ used M. M }

module _ (xs : List ℕ) (from : ℕ) (us us' : List ℕ) where
  pub using_more : (i t : ℕ) → t ≡ get16 xs (from + 2 * i) → t < length us' → get_or us' t 0 ≤ 0 → Using us us' (references xs from i)
      → Using us (set us' t 1) (references xs from (i + 1))
  unfolding fresh
  using_more i t e l z U = subst (λ ts. Using us (set us' t 1) ts) (sym (references_snoc xs from i ∙ ap (λ t. references xs from i ++ (t ∷ [])) (sym e)))
      (record {
        unused = λ used M.
            fresh-next used (references xs from i) [] t
            ∙ ap₂ (λ a b. a && (not b && true)) (U.unused used M) ((U.noted used M).marked t l ∙ le-ltb 0 (get_or us' t 0) z);
        noted = λ used M. record {
          marked = λ k lk.
              let lk' : k < length us' = omega (arith, length-set us' t 1) in
              ap (member k) (append_assoc (references xs from i) (t ∷ []) used) ∙ member-middle k t (references xs from i) used
              ∙ marks-more us' (references xs from i ++ used) t l (U.noted used M) k lk';
        };
      })

  pub using_stops : (i n t : ℕ) → t ≡ get16 xs (from + 2 * i) → i < n → t < length us' → 0 < get_or us' t 0 → Using us us' (references xs from i)
      → Used us us' (references xs from n) false
  unfolding fresh
  using_stops i n t e h l z U = record {
    answer = λ used M.
        sym (ap (fresh used) (references-at xs from i n h ∙ ap (λ t. references xs from i ++ (t ∷ references xs (from + 2 * i + 2) (n - (i + 1)))) (sym e))
        ∙ fresh-next used (references xs from i) (references xs (from + 2 * i + 2) (n - (i + 1))) t
        ∙ ap (λ b. fresh used (references xs from i) && (not b && fresh (t ∷ onto (references xs from i) used) (references xs (from + 2 * i + 2) (n - (i + 1)))))
        ((U.noted used M).marked t l ∙ lt-ltb 0 (get_or us' t 0) z)
        ∙ and-false (fresh used (references xs from i)));
    marks = λ used M e. absurd (false≢true e);
  }

  pub using_all : (i n : ℕ) → i ≤ n → n ≤ i → Using us us' (references xs from i) → Used us us' (references xs from n) true
  using_all i n l l' U =
      ended (λ n. Used us us' (references xs from n) true) i n l l' (record { answer = λ used M. sym (U.unused used M); marks = λ used M e. U.noted used M })
