-- Testing the type entries: one entry, and one turn of the loop over them.
use Prim.Native.Nat.{ℕ, suc, ◌+◌, ◌≤◌, ◌<◌, pred, min, max}
use native.Mathlib.Omega.{arith}
use native.Mathlib.Numerals.{add-one}
use mathlib.Core.Path.{◌≡◌, refl, sym, ap, ap₂, subst, ◌∙◌}
use mathlib.Core.Bool.{Bool, true, false}
use mathlib.Core.List.{List, [], ◌∷◌, ◌++◌, map}
use lib.ListN.{length, get_or, set, take, drop, length-map, get_or-map, drop_of_length-le}
use lib.Seq.{take-suc, take-suc-set, take_all, drop-cons, get_or-take}
use Rattle.std.specs.Prelude.{Ok, Err}
use package.Rattle.rules.proofs.Basics.{given}
use package.Rattle.calls.specs.Answer.{accepted, refused, ◌>>=◌, require}
use package.Rattle.calls.specs.Entries.{TypeEntry, y_unit, y_prod, y_sum, y_mu, y_var, type_at, references}
use package.Rattle.calls.specs.Named.{types_of_type, below, test_types}
use package.Rattle.calls.specs.Figures.{ceiling, nodes_of, free_of, figures}
use package.Rattle.calls.proofs.Answer.{refused≢accepted}
use package.Rattle.calls.proofs.Entries.{below-head, lower}
use package.Rattle.program.specs.Places.{places_of}
use package.Rattle.program.specs.Parts.{TypeField}
use package.Rattle.program.specs.Lists.{types_in_type}
use package.Rattle.entries.specs.Tally.{no_counts, CountMade}
use package.Rattle.entries.specs.Tested.{TypesTested}
use package.Rattle.entries.specs.declared.measures.Tally.{Tally}
use package.Rattle.entries.specs.declared.testing.EntryError.TheVariants.{BadReference}
use package.Rattle.program.proofs.Lists.{types-of-type}
use package.Rattle.entries.proofs.Tallies.{CountsSo, counts_start, counts-more, counts-tallied}

----------------------------------------------------------------
-- One entry

module _ {xs : List ℕ} {at : ℕ} (F : TypeField xs at) where
  -- the test of the run is the test of the entry
  pub type-answer : (i n : ℕ) (r : Bool) → n ≡ types_in_type xs at → r ≡ below i (references xs (at + 4) n) → r ≡ below i (types_of_type (type_at xs at))
  type-answer i n r e a = a ∙ ap (λ n. below i (references xs (at + 4) n)) e ∙ ap (below i) (sym (types-of-type F))

----------------------------------------------------------------
-- Figures that are noted one after another

figures_snoc : (of : List ℕ → TypeEntry → ℕ) (ns : List ℕ) (ys : List TypeEntry) (y : TypeEntry)
    → figures of ns (ys ++ (y ∷ [])) ≡ figures of ns ys ++ (of (figures of ns ys) y ∷ [])
unfolding figures
figures_snoc of ns [] y = refl
figures_snoc of ns (z ∷ ys) y = figures_snoc of (ns ++ (of ns z ∷ [])) ys y

-- a figure goes by those of lower entries alone
Lowers : (List ℕ → TypeEntry → ℕ) → Type 0
Lowers of = (i : ℕ) (ns : List ℕ) (y : TypeEntry) → below i (types_of_type y) ≡ true → of ns y ≡ of (take i ns) y

one_lower : (i : ℕ) (ns : List ℕ) (a : ℕ) → below i (a ∷ []) ≡ true → get_or ns a 0 ≡ get_or (take i ns) a 0
one_lower i ns a e = sym (get_or-take i ns a 0 (below-head i a [] e).0)

nodes-lowers : Lowers nodes_of
unfolding Lowers nodes_of types_of_type
nodes-lowers i ns y_unit e = refl
nodes-lowers i ns (y_prod a b) e =
    given (below-head i a (b ∷ []) e) λ (l, e₁). ap₂ (λ m n. min ceiling (suc (m + n))) (sym (get_or-take i ns a 0 l)) (one_lower i ns b e₁)
nodes-lowers i ns (y_sum a b) e =
    given (below-head i a (b ∷ []) e) λ (l, e₁). ap₂ (λ m n. min ceiling (suc (m + n))) (sym (get_or-take i ns a 0 l)) (one_lower i ns b e₁)
nodes-lowers i ns (y_mu a) e = ap (λ m. min ceiling (suc m)) (one_lower i ns a e)
nodes-lowers i ns (y_var k) e = refl

free-lowers : Lowers free_of
unfolding Lowers free_of types_of_type
free-lowers i ns y_unit e = refl
free-lowers i ns (y_prod a b) e = given (below-head i a (b ∷ []) e) λ (l, e₁). ap₂ max (sym (get_or-take i ns a 0 l)) (one_lower i ns b e₁)
free-lowers i ns (y_sum a b) e = given (below-head i a (b ∷ []) e) λ (l, e₁). ap₂ max (sym (get_or-take i ns a 0 l)) (one_lower i ns b e₁)
free-lowers i ns (y_mu a) e = ap pred (one_lower i ns a e)
free-lowers i ns (y_var k) e = refl

-- one more figure
noted_more : (of : List ℕ → TypeEntry → ℕ) → Lowers of → (i : ℕ) (ns ns' : List ℕ) (ys : List TypeEntry) (y : TypeEntry) → i < length ns → below i (types_of_type y) ≡ true
    → take i ns ≡ figures of [] ys → ns' ≡ set ns i (of ns y) → take (suc i) ns' ≡ figures of [] (ys ++ (y ∷ []))
unfolding Lowers
noted_more of low i ns ns' ys y l b e n =
    ap (take (suc i)) n ∙ take-suc-set ns i (of ns y) l
    ∙ ap₂ (λ front x. front ++ (x ∷ [])) e (low i ns y b ∙ ap (λ front. of front y) e)
    ∙ sym (figures_snoc of [] ys y)

----------------------------------------------------------------
-- All entries

-- the entry of the field at offset `i`, and the entries from it on
module _ {A : Type 0} (f : ℕ → A) (offsets : List ℕ) (i : ℕ) (l : i < length offsets) where
  pub entries_from : drop i (map f offsets) ≡ f (get_or offsets i 0) ∷ drop (i + 1) (map f offsets)
  entries_from =
      drop-cons (map f offsets) i (f 0) (subst (λ n. i < n) (sym (length-map offsets f)) l)
      ∙ ap₂ (λ x n. x ∷ drop n (map f offsets)) (get_or-map f offsets i 0) (let z : suc i ≡ i + 1 = omega arith in z)

  pub entries_to : take (i + 1) (map f offsets) ≡ take i (map f offsets) ++ (f (get_or offsets i 0) ∷ [])
  entries_to =
      ap (λ n. take n (map f offsets)) (add-one i)
      ∙ take-suc (map f offsets) i (f 0) (subst (λ n. i < n) (sym (length-map offsets f)) l)
      ∙ ap (λ x. take i (map f offsets) ++ (x ∷ [])) (get_or-map f offsets i 0)

-- the first `i` entries are sound, and their figures noted; of the others no count is made
pub record TypesSo (xs types : List ℕ) (i : ℕ) (nodes free : List ℕ) (t : Tally) : Type 0 where
  pub rest : (terms functions : List ℕ)
      → test_types (places_of types terms functions) 0 (map (type_at xs) types) ≡ test_types (places_of types terms functions) i (drop i (map (type_at xs) types))
  pub nodes_front : take i nodes ≡ figures nodes_of [] (take i (map (type_at xs) types))
  pub free_front : take i free ≡ figures free_of [] (take i (map (type_at xs) types))
  pub counts : CountsSo xs types i nodes t

module _ (xs types : List ℕ) where
  pub types-start : (nodes free : List ℕ) (t : Tally) → nodes ≡ no_counts → t.counted ≡ 0 → TypesSo xs types 0 nodes free t
  unfolding figures
  types-start nodes free t e z =
      record { rest = λ terms functions. refl; nodes_front = refl; free_front = refl; counts = counts_start xs types nodes t e z }

  -- the test of entry `i`
  types-turn : (i : ℕ) (terms functions : List ℕ) → i < length types
      → test_types (places_of types terms functions) i (drop i (map (type_at xs) types))
      ≡ (require (below i (types_of_type (type_at xs (get_or types i 0)))) 4 (get_or types i 0)
      >>= λ lower. test_types (places_of types terms functions) (i + 1) (drop (i + 1) (map (type_at xs) types)))
  unfolding test_types
  types-turn i terms functions l =
      ap (test_types (places_of types terms functions) i) (entries_from (type_at xs) types i l)
      ∙ ap (λ n. require (below i (types_of_type (type_at xs (get_or types i 0)))) 4 (get_or types i 0)
      >>= λ lower. test_types (places_of types terms functions) n (drop (i + 1) (map (type_at xs) types))) (let z : suc i ≡ i + 1 = omega arith in z)

  module _ (i at : ℕ) (l : i < length types) (e : at ≡ get_or types i 0) (nodes free : List ℕ) (t : Tally) (S : TypesSo xs types i nodes free t) where
    pub types_more : (nodes' free' : List ℕ) (t' : Tally) → i < length nodes → i < length free → below i (types_of_type (type_at xs at)) ≡ true
        → CountMade xs at i nodes nodes' t t' → free' ≡ set free i (free_of free (type_at xs at)) → TypesSo xs types (i + 1) nodes' free' t'
    unfolding ◌>>=◌ require
    types_more nodes' free' t' ln lf b C f = record {
      rest = λ terms functions.
          S.rest terms functions ∙ types-turn i terms functions l
          ∙ ap (λ b. require b 4 (get_or types i 0) >>= λ lower. test_types (places_of types terms functions) (i + 1) (drop (i + 1) (map (type_at xs) types)))
          (ap (λ at. below i (types_of_type (type_at xs at))) (sym e) ∙ b);
      nodes_front = ap (λ n. take n nodes') (add-one i)
          ∙ noted_more nodes_of nodes-lowers i nodes nodes' (take i (map (type_at xs) types)) (type_at xs at) ln b S.nodes_front C.keeps
          ∙ ap (λ at. figures nodes_of [] (take i (map (type_at xs) types) ++ (type_at xs at ∷ []))) e
          ∙ ap (figures nodes_of []) (sym (entries_to (type_at xs) types i l));
      free_front = ap (λ n. take n free') (add-one i)
          ∙ noted_more free_of free-lowers i free free' (take i (map (type_at xs) types)) (type_at xs at) lf b S.free_front f
          ∙ ap (λ at. figures free_of [] (take i (map (type_at xs) types) ++ (type_at xs at ∷ []))) e
          ∙ ap (figures free_of []) (sym (entries_to (type_at xs) types i l));
      counts = counts-more xs types i at l e S.counts b C;
    }

    pub types_stop : (r : Bool) → r ≡ below i (types_of_type (type_at xs at)) → r ≡ false
        → TypesTested xs types nodes free (record { verdict = Err (BadReference at); tally = t })
    unfolding ◌>>=◌ require
    types_stop r a q = record {
      answer = λ terms functions.
          sym (S.rest terms functions ∙ types-turn i terms functions l
          ∙ ap (λ b. require b 4 (get_or types i 0) >>= λ lower. test_types (places_of types terms functions) (i + 1) (drop (i + 1) (map (type_at xs) types)))
          (ap (λ at. below i (types_of_type (type_at xs at))) (sym e) ∙ sym a ∙ q)
          ∙ ap (refused 4) (sym e));
      measured = λ q. absurd (refused≢accepted q);
      tallied = counts-tallied xs types i nodes t (omega arith) S.nodes_front S.counts;
    }

  pub types-end : (i : ℕ) (nodes free : List ℕ) (t : Tally) → i ≤ length types → length types ≤ i → length types ≤ length nodes → length types ≤ length free
      → TypesSo xs types i nodes free t → TypesTested xs types nodes free (record { verdict = Ok tt; tally = t })
  unfolding test_types
  types-end i nodes free t l l' ln lf S = record {
    answer = λ terms functions. sym (passed terms functions);
    measured = λ q. record {
      types_lower = lower (places_of types [] []) ys (passed [] []);
      nodes_front = ap (λ n. take n nodes) all ∙ S.nodes_front ∙ ap (figures nodes_of []) (take_all i ys (omega (arith, same)));
      free_front = ap (λ n. take n free) all ∙ S.free_front ∙ ap (figures free_of []) (take_all i ys (omega (arith, same)));
      nodes_room = omega (arith, same);
      free_room = omega (arith, same);
    };
    tallied = counts-tallied xs types i nodes t l S.nodes_front S.counts;
  }
    where
      ys : List TypeEntry
      ys = map (type_at xs) types

      same : length (map (type_at xs) types) ≡ length types
      same = length-map types (type_at xs)

      all : length (map (type_at xs) types) ≡ i
      all = omega (arith, same)

      passed : (terms functions : List ℕ) → test_types (places_of types terms functions) 0 ys ≡ accepted tt
      passed terms functions = S.rest terms functions ∙ ap (test_types (places_of types terms functions) i) (drop_of_length-le ys {i = i} (omega (arith, same)))
