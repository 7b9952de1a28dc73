-- What a term may yield, by the kinds of its row and of the value's node: the questions about parts, and the answers.
use Prim.Native.Nat.{ℕ, ◌+◌, ◌<◌}
use native.Mathlib.Omega.{arith}
use mathlib.Core.Path.{◌≡◌, refl, sym, ap, ◌∙◌}
use mathlib.Core.Bool.{Bool, true, false, cond}
use mathlib.Core.Logic.{⊎_elim}
use mathlib.Core.List.{List}
use lib.Dec.{eqb}
use package.Rattle.rules.specs.Limits.{max_terms}
use package.Rattle.program.specs.Kinds.{variable_kind, unit_kind, inl_kind, inr_kind, pair_kind, case_kind, call_kind, roll_kind, unroll_kind}
use package.Rattle.rules.specs.Val.{Val}
use package.Rattle.rules.specs.Term.{Term, look}
use package.Rattle.rules.specs.Yield.{may_be, may_yield}
use package.Rattle.calls.specs.Entries.{TypeEntry, type_of, TermEntry, term_tree}
use package.Rattle.valuegraph.specs.Nodes.{kind_at, left_at, right_at, Room, value_within, value_at}
use package.Rattle.valuegraph.proofs.Heaps.{lower as lower_node, value_inl, value_inr, value-pair, value-roll}
use package.Rattle.scopes.specs.Slots.{machine_of}
use package.Rattle.decoded.specs.Rows.{kind_in, first_in, second_in, third_in, entry_in, tree_in}
use package.Rattle.decoded.proofs.Trees as rows
use package.Rattle.yields.specs.Yields.{ancillae_in, Asks, Judges, YieldsIn, MayYield, Wraps, Binds}
use package.Rattle.yields.proofs.Shapes.{unit-only, inl_only, inr_only, pair-only, roll-only}
use package.Rattle.yields.proofs.Judging.{judged, judged-no, judged_yes, judged_as, first-no, first_yes, lower, higher, both, either}
use Rattle.yields.specs.declared.Answer.{Answer}
use Rattle.yields.specs.declared.Answer.TheVariants.{No, Yes}

module _ {code heap st : List ℕ} {scope t node : ℕ} (Y : Asks code heap st scope t node) (exact : Bool) where
  abbrev top : ℕ
  top = (machine_of st).top

  -- a row is one of the table's
  pub row_read : t < max_terms
  row_read = omega (arith, Y.term, Y.rows.few_terms)

  pub node-read : Room heap (node + 1)
  node-read = omega (arith, Y.graph.held, Y.value)

  -- the question about a lower term, and a node that is there
  asks : (e x : ℕ) → e < t → x < top → Asks code heap st scope e x
  asks e x le lx = record { rows = Y.rows; term = omega (arith, Y.term); graph = Y.graph; value = lx; small = Y.small; ancillae = Y.ancillae }

  abbrev Told : Answer → Type 0
  Told r = YieldsIn code heap st scope t node exact r

  abbrev Part : ℕ → ℕ → Answer → Type 0
  Part e x r = YieldsIn code heap st scope e x exact r

  abbrev asked : Term → Val → Bool
  asked = may_yield (ancillae_in heap st scope)

  -- by the term's tree
  by_tree : {x : TermEntry} → entry_in code t ≡ x → {r : Answer}
      → ((ys : List TypeEntry) → Judges exact r (asked (term_tree (type_of ys) (tree_in code ys) t x) (value_at heap node))) → Told r
  by_tree e h = record { judges = λ ys. judged_as (h ys) (ap (λ s. asked s (value_at heap node)) (sym (rows.tree_is Y.rows t Y.term e ys))) }

  ----------------------------------------------------------------
  -- Terms without parts; call and unroll

  pub variable-answer : {i : ℕ} → kind_in code t ≡ variable_kind → i ≡ first_in code t → {r : Answer}
      → Judges exact r (may_be (look (ancillae_in heap st scope) i) (value_at heap node)) → Told r
  unfolding may_yield term_tree
  variable-answer f e h = by_tree (rows.entry-var code t f) λ ys. judged_as h (rw e refl)

  pub unit-answer : {k : ℕ} {r : Answer} → kind_in code t ≡ unit_kind → k ≡ kind_at heap node → r ≡ cond (eqb k 0) Yes No → Told r
  unfolding term_tree value_at value_within
  unit-answer {k = k} f e q = by_tree (rows.entry-unit code t f) λ ys. judged {yes = eqb k 0} q (rw e (unit-only (ancillae_in heap st scope) t _ _ (kind_at heap node)))

  pub call-answer : kind_in code t ≡ call_kind → Told Yes
  unfolding may_yield term_tree
  call-answer f = by_tree (rows.entry-call code t f (Y.rows.few t Y.term f)) λ ys. judged_yes refl

  pub unroll_answer : kind_in code t ≡ unroll_kind → Told Yes
  unfolding may_yield term_tree
  unroll_answer f = by_tree (rows.entry_unroll code t f) λ ys. judged_yes refl

  pub no_kind : {k : ℕ} {A : Type 0} → k ≡ kind_in code t → rows.NoKind k → A
  no_kind {k} e o = absurd (rows.none_left k (rw e (Y.rows.known t Y.term)) o)

  ----------------------------------------------------------------
  -- inl, inr, roll

  module _ {kind : ℕ} (w : Wraps (kind_in code t) kind) where
    -- by the three forms
    by_wrap : {C : Type 0} → (kind_in code t ≡ inl_kind → kind ≡ 1 → C) → (kind_in code t ≡ inr_kind → kind ≡ 2 → C) → (kind_in code t ≡ roll_kind → kind ≡ 4 → C) → C
    by_wrap f g h = ⊎_elim (λ (x, y). f x y) (λ w. ⊎_elim (λ (x, y). g x y) (λ (x, y). h x y) w) w

    pub part_fails : {n : ℕ} → n ≡ kind_at heap node → ¬ (n ≡ kind) → Told No
    unfolding term_tree value_at value_within
    part_fails e d =
        by_wrap
        (λ f k. by_tree (rows.entry_inl code t f) λ ys. judged-no (sym (inl_only _ t _ _ _ _ (kind_at heap node) (λ z. d (e ∙ z ∙ sym k)))))
        (λ f k. by_tree (rows.entry_inr code t f) λ ys. judged-no (sym (inr_only _ t _ _ _ _ (kind_at heap node) (λ z. d (e ∙ z ∙ sym k)))))
        (λ f k. by_tree (rows.entry-roll code t f) λ ys. judged-no
        (sym (roll-only _ t _ _ _ _ (kind_at heap node) (λ z. d (e ∙ z ∙ sym k)) (Y.graph.node node Y.value).kind)))

    module _ {n e x : ℕ} (en : n ≡ kind_at heap node) (one : n ≡ kind) (ee : e ≡ second_in code t) (ex : x ≡ left_at heap node) where
      pub part-asks : (e < t) × Asks code heap st scope e x
      part-asks =
          let le : e < t = rw ee (by_wrap (λ f k. rows.part_inl Y.rows t Y.term f) (λ f k. rows.part_inr Y.rows t Y.term f)
          (λ f k. rows.part-roll Y.rows t Y.term f)) in
          let lx = (lower_node heap top Y.graph node Y.value (λ z. by_wrap (λ f k. omega arith) (λ f k. omega arith) (λ f k. omega arith))).0 in
          (le, asks e x le (omega (arith, Y.value)))

      pub part-yields : {r : Answer} → Part e x r → Told r
      unfolding may_yield term_tree
      part-yields M =
          by_wrap
          (λ f k. by_tree (rows.entry_inl code t f) λ ys. judged_as (M.judges ys)
          (rw (ee, ex, (value_inl heap top Y.graph node Y.value (sym en ∙ one ∙ k)).0) refl))
          (λ f k. by_tree (rows.entry_inr code t f) λ ys. judged_as (M.judges ys)
          (rw (ee, ex, (value_inr heap top Y.graph node Y.value (sym en ∙ one ∙ k)).0) refl))
          (λ f k. by_tree (rows.entry-roll code t f) λ ys. judged_as (M.judges ys)
          (rw (ee, ex, (value-roll heap top Y.graph node Y.value (sym en ∙ one ∙ k)).0) refl))

  ----------------------------------------------------------------
  -- A pair

  module _ (f : kind_in code t ≡ pair_kind) where
    pub pair_fails : {n : ℕ} → n ≡ kind_at heap node → ¬ (n ≡ 3) → Told No
    unfolding term_tree value_at value_within
    pair_fails e d = by_tree (rows.entry-pair code t f) λ ys. judged-no (sym (pair-only _ t _ _ _ _ (kind_at heap node) (λ z. d (e ∙ z))))

    module _ {n e x : ℕ} (en : n ≡ kind_at heap node) (three : n ≡ 3) (ee : e ≡ first_in code t) (ex : x ≡ left_at heap node) where
      pub left-asks : (e < t) × Asks code heap st scope e x
      left-asks =
          let le : e < t = rw ee (rows.parts-pair Y.rows t Y.term f).0 in
          let lx = (value-pair heap top Y.graph node Y.value (sym en ∙ three)).1 in
          (le, asks e x le (omega (arith, Y.value)))

      pub left_fails : {m : Answer} → Part e x m → m ≡ No → Told No
      unfolding may_yield term_tree
      left_fails M z =
          by_tree (rows.entry-pair code t f) λ ys.
          rw (value-pair heap top Y.graph node Y.value (sym en ∙ three)).0
          (first-no (rw (ee, ex) at (M.judges ys)) (asked (tree_in code ys (second_in code t)) (value_at heap (right_at heap node))) z)

      module _ {e' x' : ℕ} (ee' : e' ≡ second_in code t) (ex' : x' ≡ right_at heap node) where
        pub right-asks : (e' < t) × Asks code heap st scope e' x'
        right-asks =
            let le : e' < t = rw ee' (rows.parts-pair Y.rows t Y.term f).1 in
            let lx = (value-pair heap top Y.graph node Y.value (sym en ∙ three)).2 in
            (le, asks e' x' le (omega (arith, Y.value)))

        abbrev right-asked : List TypeEntry → Bool
        right-asked ys = asked (tree_in code ys (second_in code t)) (value_at heap (right_at heap node))

        -- the lower answer of both
        pub both-told : {m m' r : Answer} → Part e x m → Part e' x' m' → r ≡ lower m m' → Told r
        unfolding may_yield term_tree
        both-told {m} {m'} M M' q =
            by_tree (rows.entry-pair code t f) λ ys.
            rw (q, (value-pair heap top Y.graph node Y.value (sym en ∙ three)).0)
            (both m m' _ (right-asked ys) (rw (ee, ex) at (M.judges ys)) (rw (ee', ex') at (M'.judges ys)))

  ----------------------------------------------------------------
  -- let, let pair

  module _ (w : Binds (kind_in code t)) {e : ℕ} (ee : e ≡ second_in code t) where
    pub body-asks : (e < t) × Asks code heap st scope e node
    body-asks =
        let le : e < t = rw ee (⊎_elim (λ f. (rows.parts_let Y.rows t Y.term f).1) (λ f. (rows.parts_letp Y.rows t Y.term f).1) w) in
        (le, asks e node le Y.value)

    pub body-yields : {r : Answer} → Part e node r → Told r
    unfolding may_yield term_tree
    body-yields M =
        ⊎_elim
        (λ f. by_tree (rows.entry_let code t f) λ ys. judged_as (M.judges ys) (rw ee refl))
        (λ f. by_tree (rows.entry_letp code t f) λ ys. judged_as (M.judges ys) (rw ee refl))
        w

  ----------------------------------------------------------------
  -- case

  module _ (f : kind_in code t ≡ case_kind) {e : ℕ} (ee : e ≡ second_in code t) where
    pub left-branch : (e < t) × Asks code heap st scope e node
    left-branch = let le : e < t = rw ee (rows.parts_case Y.rows t Y.term f).1 in (le, asks e node le Y.value)

    pub left-yields : {m : Answer} → Part e node m → m ≡ Yes → Told Yes
    unfolding may_yield term_tree
    left-yields M o = by_tree (rows.entry_case code t f) λ ys. first_yes (rw ee at (M.judges ys))
        (asked (tree_in code ys (third_in code t)) (value_at heap node)) o

    module _ {e' : ℕ} (ee' : e' ≡ third_in code t) where
      pub right-branch : (e' < t) × Asks code heap st scope e' node
      right-branch = let le : e' < t = rw ee' (rows.parts_case Y.rows t Y.term f).2 in (le, asks e' node le Y.value)

      -- the higher answer of either
      pub either-told : {m m' r : Answer} → Part e node m → Part e' node m' → r ≡ higher m m' → Told r
      unfolding may_yield term_tree
      either-told {m} {m'} M M' q =
          by_tree (rows.entry_case code t f) λ ys.
          rw q
          (either m m' (asked (tree_in code ys (second_in code t)) (value_at heap node)) (asked (tree_in code ys (third_in code t)) (value_at heap node))
          (rw ee at (M.judges ys)) (rw ee' at (M'.judges ys)))

----------------------------------------------------------------
-- At a glance, then exactly

-- the glance is not perhaps
pub glance_no : {code heap st : List ℕ} {scope t node : ℕ} {exact : Bool} {r : Answer} {told : Bool} → YieldsIn code heap st scope t node exact r → r ≡ No → told ≡ false
    → MayYield code heap st scope t node told
glance_no M e q = record { answer = λ ys. q ∙ sym ((M.judges ys).never e) }

pub glance_yes : {code heap st : List ℕ} {scope t node : ℕ} {exact : Bool} {r : Answer} {told : Bool} → YieldsIn code heap st scope t node exact r → r ≡ Yes → told ≡ true
    → MayYield code heap st scope t node told
glance_yes M e q = record { answer = λ ys. q ∙ sym ((M.judges ys).surely e) }
