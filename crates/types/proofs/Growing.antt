-- Laws of new product nodes: what was put is there, what is below stays, and so do the trees of older codes.
use Prim.Native.Nat.{ℕ, zero, suc, ◌+◌, ◌*◌, ◌<◌, ◌≤◌}
use native.Mathlib.Omega.{arith}
use native.Mathlib.Nat.{eq-or-lt_of_le}
use mathlib.Core.Path.{◌≡◌, refl, sym, ap, ap₂, subst, ◌∙◌}
use mathlib.Core.Logic.{◌⊎◌, ⊎_elim}
use mathlib.Core.List.{List, map}
use lib.ListN.{length, get_or}
use package.Rattle.octets.specs.Numbers.{put16}
use package.Rattle.octets.proofs.Puts.{length-put16, put16-low, put16-other, get16-same, get16-put16}
use package.Rattle.rules.specs.Limits.{max_types, max_terms, max_nodes}
use package.Rattle.rules.specs.Ty.{Ty, prod, nodes}
use package.Rattle.calls.specs.Entries.{TypeEntry, type_at}
use package.Rattle.types.specs.declared.codes.Code.{Code}
use package.Rattle.types.specs.declared.nodes.Numbers.{Numbers}
use package.Rattle.types.specs.declared.codes.Code.TheVariants as code
use package.Rattle.types.specs.Numbers.{numbers_of, code_of, no_product}
use package.Rattle.types.specs.Codes.{Room, node_bytes, product_code, code_at, left_at, right_at, count_at, of_code}
use package.Rattle.types.specs.Codes.{product_within, product_at, tree_of, tree_in, Names, Known, Right, Products, Sources}
use package.Rattle.types.specs.Figures.{Figured}
use package.Rattle.types.proofs.Figuring.{figured-same}
use package.Rattle.types.specs.Growth.{put_code, put_node, Agree, Grown}
use package.Rattle.types.proofs.Trees.{tree-product, code_agrees, enough}

----------------------------------------------------------------
-- A code that is put

pub length_code : (heap : List ℕ) (i : ℕ) (c : Code) → length (put_code heap i c) ≡ length heap
unfolding put_code
length_code heap i c = simp length-put16

pub code_low : (heap : List ℕ) (i : ℕ) (c : Code) (j : ℕ) → j < i → get_or (put_code heap i c) j 0 ≡ get_or heap j 0
unfolding put_code
code_low heap i c j h =
    put16-low _ (i + 4) (numbers_of c).stands j (omega arith)
    ∙ put16-low _ (i + 2) (numbers_of c).at j (omega arith)
    ∙ put16-low heap i (numbers_of c).form j h

-- what is above stays too
pub code_high : (heap : List ℕ) (i : ℕ) (c : Code) (j : ℕ) → i + 6 ≤ j → get_or (put_code heap i c) j 0 ≡ get_or heap j 0
unfolding put_code
code_high heap i c j h =
    put16-other _ (i + 4) (numbers_of c).stands j (λ e. omega arith) (λ e. omega arith)
    ∙ put16-other _ (i + 2) (numbers_of c).at j (λ e. omega arith) (λ e. omega arith)
    ∙ put16-other heap i (numbers_of c).form j (λ e. omega arith) (λ e. omega arith)

same_read : {f f' a a' s s' : ℕ} → f ≡ f' → a ≡ a' → s ≡ s' → code_of f a s ≡ code_of f' a' s'
same_read p q r = λ i. code_of (p i) (q i) (r i)

-- a form that there is not
pub code-none : (f a s : ℕ) → ¬ (f ≡ 0) → ¬ (f ≡ 1) → ¬ (f ≡ 2) → ¬ (f ≡ 3) → code.Product no_product ≡ code_of f a s
unfolding code_of
code-none zero a s o p q r = absurd (o refl)
code-none (suc zero) a s o p q r = absurd (p refl)
code-none (suc (suc zero)) a s o p q r = absurd (q refl)
code-none (suc (suc (suc zero))) a s o p q r = absurd (r refl)
code-none (suc (suc (suc (suc n)))) a s o p q r = refl

-- a code is read back from its numbers
read_back : (c : Code) → code_of (numbers_of c).form (numbers_of c).at (numbers_of c).stands ≡ c
unfolding code_of
read_back code.Unit = refl
read_back (code.Entry i) = refl
read_back (code.Under i j) = refl
read_back (code.Product n) = refl

-- codes from bytes that agree
pub code_same : (heap heap' : List ℕ) (i : ℕ) → ((j : ℕ) → j < i + 6 → get_or heap j 0 ≡ get_or heap' j 0) → code_at heap i ≡ code_at heap' i
unfolding code_at
code_same heap heap' i s =
    same_read
    (get16-same _ _ i λ j l. s j (omega arith))
    (get16-same _ _ (i + 2) λ j l. s j (omega arith))
    (get16-same _ _ (i + 4) λ j l. s j (omega arith))

-- The numbers of a code fit their bytes.
pub record Fitting (c : Code) : Type 0 where
  pub form : (numbers_of c).form < 65536
  pub at : (numbers_of c).at < 65536
  pub stands : (numbers_of c).stands < 65536

pub record Fits (n : Numbers) : Type 0 where
  pub form : n.form < 65536
  pub at : n.at < 65536
  pub stands : n.stands < 65536

pub fitting : {c : Code} {n : Numbers} → n ≡ numbers_of c → Fits n → Fitting c
fitting e F = let G = subst Fits e F in record { form = G.form; at = G.at; stands = G.stands }

-- those of a code that is known do
pub known-fits : {n top : ℕ} {c : Code} → n ≤ 65536 → top ≤ 65536 → Known n top c → Fitting c
known-fits {n} {top} {c} few low K = by c K.names
  where
    by : (c : Code) → Names n top c → Fitting c
    by code.Unit h = record { form = omega arith; at = omega arith; stands = omega arith }
    by (code.Entry i) h = record { form = omega arith; at = omega arith; stands = omega arith }
    by (code.Under i j) h = record { form = omega arith; at = omega arith; stands = omega arith }
    by (code.Product k) h = record { form = omega arith; at = omega arith; stands = omega arith }

module _ (heap : List ℕ) (i : ℕ) (c : Code) (F : Fitting c) (room : i + 6 ≤ length heap) where
  formed : List ℕ
  formed = put16 heap i (numbers_of c).form

  length-formed : length formed ≡ length heap
  unfolding formed
  length-formed = length-put16 heap i (numbers_of c).form

  pub code_put : code_at (put_code heap i c) i ≡ c
  unfolding code_at put_code formed
  code_put =
      same_read
      (get16-same _ formed i (λ j h. put16-low _ (i + 4) (numbers_of c).stands j (omega arith) ∙ put16-low _ (i + 2) (numbers_of c).at j (omega arith))
      ∙ get16-put16 heap i (numbers_of c).form (omega arith) F.form)
      (get16-same _ (put16 formed (i + 2) (numbers_of c).at) (i + 2) (λ j h. put16-low _ (i + 4) (numbers_of c).stands j (omega arith))
      ∙ get16-put16 formed (i + 2) (numbers_of c).at (omega (arith, length-formed)) F.at)
      (get16-put16 (put16 formed (i + 2) (numbers_of c).at) (i + 4) (numbers_of c).stands (simp length-put16 (omega (arith, length-formed))) F.stands)
      ∙ read_back c

----------------------------------------------------------------
-- A node that is put

pub length-node : (heap : List ℕ) (n : ℕ) (left right : Code) (count : ℕ) → length (put_node heap n left right count) ≡ length heap
unfolding put_node
length-node heap n left right count = simp (length-put16, length_code)

module _ (heap : List ℕ) (n : ℕ) (left right : Code) (count : ℕ) where
  placed : List ℕ
  placed = put_code heap (node_bytes * n) left

  length-placed : length placed ≡ length heap
  unfolding placed
  length-placed = length_code heap (node_bytes * n) left

  node-low : (j : ℕ) → j < node_bytes * n → get_or (put_node heap n left right count) j 0 ≡ get_or heap j 0
  unfolding put_node placed
  node-low j h =
      put16-low (put_code placed (node_bytes * n + 6) right) (node_bytes * n + 12) count j (omega arith)
      ∙ code_low placed (node_bytes * n + 6) right j (omega arith)
      ∙ code_low heap (node_bytes * n) left j h

  -- what is behind the node stays too
  node_high : (j : ℕ) → node_bytes * (n + 1) ≤ j → get_or (put_node heap n left right count) j 0 ≡ get_or heap j 0
  unfolding put_node placed
  node_high j h =
      put16-other (put_code placed (node_bytes * n + 6) right) (node_bytes * n + 12) count j (λ e. omega arith) (λ e. omega arith)
      ∙ code_high placed (node_bytes * n + 6) right j (omega arith)
      ∙ code_high heap (node_bytes * n) left j (omega arith)

  module _ (room : Room heap (n + 1)) where
    left-put : Fitting left → left_at (put_node heap n left right count) n ≡ left
    unfolding left_at put_node placed
    left-put F =
        code_same (put_node heap n left right count) placed (node_bytes * n)
        (λ j h. put16-low (put_code placed (node_bytes * n + 6) right) (node_bytes * n + 12) count j (omega arith) ∙ code_low placed (node_bytes * n + 6) right j (omega arith))
        ∙ code_put heap (node_bytes * n) left F (omega arith)

    right-put : Fitting right → right_at (put_node heap n left right count) n ≡ right
    unfolding right_at put_node placed
    right-put F =
        code_same (put_node heap n left right count) (put_code placed (node_bytes * n + 6) right) (node_bytes * n + 6)
        (λ j h. put16-low (put_code placed (node_bytes * n + 6) right) (node_bytes * n + 12) count j (omega arith))
        ∙ code_put placed (node_bytes * n + 6) right F (omega (arith, length-placed))

    count-put : count < 65536 → count_at (put_node heap n left right count) n ≡ count
    unfolding count_at put_node placed
    count-put small =
        get16-put16 (put_code placed (node_bytes * n + 6) right) (node_bytes * n + 12) count
        (omega (arith, length_code placed (node_bytes * n + 6) right, length-placed)) small

pub agree-put : (heap : List ℕ) (n : ℕ) (left right : Code) (count : ℕ) → n < max_terms → Agree n heap (put_node heap n left right count)
agree-put heap n left right count few = record {
  same = λ j h. sym (node-low heap n left right count j h);
  behind = λ j h l. sym (node_high heap n left right count j (omega arith));
  lengths = sym (length-node heap n left right count);
}

----------------------------------------------------------------
-- Heaps that agree

pub agree_refl : (top : ℕ) (heap : List ℕ) → Agree top heap heap
agree_refl top heap = record { same = λ i h. refl; behind = λ i h l. refl; lengths = refl }

pub agree_trans : {top : ℕ} {heap heap' heap'' : List ℕ} → Agree top heap heap' → Agree top heap' heap'' → Agree top heap heap''
agree_trans p q = record {
  same = λ i h. p.same i h ∙ q.same i h;
  behind = λ i h l. p.behind i h l ∙ q.behind i h l;
  lengths = p.lengths ∙ q.lengths;
}

pub agree-down : {top : ℕ} (low : ℕ) {heap heap' : List ℕ} → low ≤ top → Agree top heap heap' → Agree low heap heap'
agree-down low le p = record { same = λ i h. p.same i (omega arith); behind = p.behind; lengths = p.lengths }

module _ {top : ℕ} {heap heap' : List ℕ} (A : Agree top heap heap') (k : ℕ) (l : k < top) where
  agree_left : left_at heap k ≡ left_at heap' k
  unfolding left_at
  agree_left = code_same heap heap' (node_bytes * k) λ j h. A.same j (omega arith)

  agree_right : right_at heap k ≡ right_at heap' k
  unfolding right_at
  agree_right = code_same heap heap' (node_bytes * k + 6) λ j h. A.same j (omega arith)

  agree-count : count_at heap k ≡ count_at heap' k
  unfolding count_at
  agree-count = get16-same heap heap' (node_bytes * k + 12) λ j h. A.same j (omega arith)

module _ {ys : List TypeEntry} {n : ℕ} {heap heap' : List ℕ} {top : ℕ} (P : Products ys n heap top) (A : Agree top heap heap') where
  within-kept : (d k : ℕ) → k < top → product_within d ys heap k ≡ product_within d ys heap' k
  unfolding product_within
  within-kept zero k l = refl
  within-kept (suc d) k l =
      ap₂ prod
      (code_agrees ys _ _ (P.node k l).left (λ j h. within-kept d j (omega arith)) ∙ ap (of_code ys (product_within d ys heap')) (agree_left A k l))
      (code_agrees ys _ _ (P.node k l).right (λ j h. within-kept d j (omega arith)) ∙ ap (of_code ys (product_within d ys heap')) (agree_right A k l))

  product-kept : (k : ℕ) → k < top → product_at ys heap k ≡ product_at ys heap' k
  unfolding product_at
  product-kept k l = within-kept (suc k) k l

  -- older codes keep their trees
  pub tree-kept : {c : Code} → Known n top c → tree_of ys heap c ≡ tree_of ys heap' c
  unfolding tree_of
  tree-kept K = code_agrees ys _ _ K product-kept

  right_kept : (k : ℕ) → k < top → Right ys n heap' k
  right_kept k l =
      let N = P.node k l in
      record {
        left = subst (Known n k) (agree_left A k l) N.left;
        right = subst (Known n k) (agree_right A k l) N.right;
        count = sym (agree-count A k l) ∙ N.count ∙ ap nodes (product-kept k l);
        small = subst (λ m. m ≤ max_nodes) (agree-count A k l) N.small;
      }

  pub products-kept : Products ys n heap' top
  products-kept = record { held = omega (arith, P.held, A.lengths); node = right_kept }

pub figures-kept : {ys : List TypeEntry} {n top : ℕ} {heap heap' : List ℕ} → n ≤ max_types → Figured ys heap n → Agree top heap heap' → Figured ys heap' n
figures-kept few F A = figured-same F A.lengths λ j l h. A.behind j l (omega arith)

pub sources-kept : {xs types heap heap' : List ℕ} {top : ℕ} → Sources xs types heap top → Agree top heap heap' → Sources xs types heap' top
sources-kept S A = record { entries = S.entries; figures = figures-kept S.entries.few S.figures A; products = products-kept S.products A }

----------------------------------------------------------------
-- A new node, whose parts are known and whose nodes are counted

module _ {xs types heap : List ℕ} {top : ℕ} (S : Sources xs types heap top) {left right : Code} (K : Known (length types) top left)
    (K' : Known (length types) top right) where
  abbrev a : Ty
  a = tree_in xs types heap left

  abbrev b : Ty
  b = tree_in xs types heap right

  module _ {m : ℕ} (exact : m ≡ nodes (prod a b)) (room : Room heap (top + 1)) (F : Fitting left) (F' : Fitting right) (h : m ≤ max_nodes)
      (few : top < max_terms) where
    new : List ℕ
    new = put_node heap top left right m

    agree : Agree top heap new
    unfolding new
    agree = agree-put heap top left right m few

    -- an older code under the new node
    part-kept : {c : Code} → Known (length types) top c
        → of_code (map (type_at xs) types) (product_within top (map (type_at xs) types) new) c ≡ tree_in xs types heap c
    unfolding tree_of product_at
    part-kept K = code_agrees (map (type_at xs) types) _ _ K λ k l.
        sym (within-kept S.products agree top k l) ∙ enough S.products top (suc k) k l l (omega arith)

    new-tree : product_at (map (type_at xs) types) new top ≡ prod a b
    unfolding product_at product_within new
    new-tree =
        let under : Code → Ty = of_code (map (type_at xs) types) (product_within top (map (type_at xs) types) new) in
        ap₂ prod
        (ap under (left-put heap top left right m room F) ∙ part-kept K)
        (ap under (right-put heap top left right m room F') ∙ part-kept K')

    count_is : count_at new top ≡ m
    unfolding new
    count_is = count-put heap top left right m room (omega arith)

    new-right : Right (map (type_at xs) types) (length types) new top
    unfolding new
    new-right = record {
      left = subst (Known (length types) top) (sym (left-put heap top left right m room F)) K;
      right = subst (Known (length types) top) (sym (right-put heap top left right m room F')) K';
      count = count_is ∙ exact ∙ ap nodes (sym new-tree);
      small = omega (arith, count_is);
    }

    pub grown : Grown xs types heap (put_node heap top left right m) top (prod a b)
    unfolding new
    grown = record {
      sources = record {
        entries = S.entries;
        figures = figures-kept S.entries.few S.figures agree;
        products = record {
          held = omega (arith, room, length-node heap top left right m);
          node = λ k l. ⊎_elim
              (λ e. subst (Right (map (type_at xs) types) (length types) new) (sym e) new-right)
              (λ lt. right_kept S.products agree k lt)
              (at_or_below k (omega arith));
        };
      };
      agree = agree;
      tree = tree-product (map (type_at xs) types) new (product_code top) refl ∙ new-tree;
    }
      where
        at_or_below : (k : ℕ) → k ≤ top → (k ≡ top) ⊎ (k < top)
        at_or_below k le = eq-or-lt_of_le le
