-- The tree of a term entry, by the kind of its field, and what its parts are: lower entries, and types and functions that are there.
use Prim.Native.Nat.{ℕ, zero, suc, ◌+◌, ◌*◌, ◌≤◌, ◌<◌}
use native.Mathlib.Omega.{arith}
use mathlib.Core.Path.{◌≡◌, refl, sym, ap, subst, ◌∙◌}
use mathlib.Core.Bool.{true}
use package.Rattle.rules.proofs.Basics.{and_both}
use mathlib.Core.List.{List, [], ◌∷◌, ◌++◌, map}
use lib.ListN.{length, get_or, length-map}
use package.Rattle.rules.specs.Term.{var, tunit, tinl, tinr, tpair, tlet, tletp, tcase, tcall, troll, tunroll}
use package.Rattle.rules.proofs.Lists.{get_map}
use package.Rattle.calls.specs.Fields.{kind_at, length_at, term_lengths}
use package.Rattle.calls.specs.Entries.{type_at, type_of, TermEntry, n_unit, term_at, term_trees, term_tree, call_ancillae, references, entries_at, function_at}
use package.Rattle.calls.specs.Named.{closed, plain, types_of_term, terms_of_term, functions_of_term, below, all_plain}
use package.Rattle.calls.proofs.Entries.{below-head, plain_iff}
use package.Rattle.calls.proofs.Trees.{good-lower, term-unfolds}
use package.Rattle.program.specs.Parts.{variable, first, second, third, listed, TermField}
use package.Rattle.program.proofs.Rooms.{term-kind, term-kind-room, var-room, two-room, case_room, call-sized, call-room}
use package.Rattle.program.proofs.Shapes.{term-var, term-unit, term_inl, term_inr, term-pair, term_let, term_letp, term_case, term-call, term-roll, term_unroll}
use package.Rattle.program.proofs.Lists.{below_last, below_each}
use package.Rattle.program.specs.Kinds.{variable_kind, unit_kind, pair_kind, let_kind, let_pair_kind, call_kind, roll_kind, unroll_kind, inl_kind}
use package.Rattle.program.specs.Kinds.{inr_kind, case_kind}
use package.Rattle.typing.specs.Ready.{term_in, Entered, Here}

-- the kind that was read
pub here : {p terms : List ℕ} {t at kind k : ℕ} → t < length terms → at ≡ get_or terms t 0 → kind ≡ kind_at p at → kind ≡ k → Here p terms t at k
here l e g q = record { there = l; place = e; form = sym g ∙ q }

-- inl and inr, which one function takes
injected : {p terms : List ℕ} {t at k : ℕ} → Here p terms t at k → 2 ≤ k → k ≤ 3
    → Here p terms t at (kind_at p at) × (inl_kind ≤ kind_at p at) × (kind_at p at ≤ inr_kind)
injected h lo hi = (record { there = h.there; place = h.place; form = refl }, omega (arith, h.form), omega (arith, h.form))

pub here_inl : {p terms : List ℕ} {t at : ℕ} → Here p terms t at inl_kind
    → Here p terms t at (kind_at p at) × (inl_kind ≤ kind_at p at) × (kind_at p at ≤ inr_kind)
here_inl h = injected h (omega arith) (omega arith)

pub here_inr : {p terms : List ℕ} {t at : ℕ} → Here p terms t at inr_kind
    → Here p terms t at (kind_at p at) × (inl_kind ≤ kind_at p at) × (kind_at p at ≤ inr_kind)
here_inr h = injected h (omega arith) (omega arith)

-- there is no twelfth kind
pub from_five : {k : ℕ} → ¬ (k ≡ 0) → ¬ (k ≡ 1) → ¬ (k ≡ 2) → ¬ (k ≡ 3) → ¬ (k ≡ 4) → 5 ≤ k
from_five a b c d e = omega arith

pub no_twelfth : {k n : ℕ} → 5 ≤ k → ¬ (k ≡ 5) → ¬ (k ≡ 6) → ¬ (k ≡ 7) → ¬ (k ≡ 8) → ¬ (k ≡ 9) → ¬ (k ≡ 10) → k ≡ n → n < 11 → ⊥
no_twelfth l a b c d e f q h = omega arith

module _ {p types terms functions nodes : List ℕ} (E : Entered p types terms functions nodes) where
  -- the kind can be read, and is one of eleven
  pub kind-there : {t at : ℕ} → t < length terms → at ≡ get_or terms t 0 → (at + 4 ≤ length p) × (kind_at p at < 11)
  kind-there {t} l e = rw e (term-kind-room (E.formed.terms t l), term-kind (E.formed.terms t l))

  module _ {t at kind : ℕ} (H : Here p terms t at kind) where
    field-here : TermField p at
    field-here = subst (TermField p) (sym H.place) (E.formed.terms t H.there)

    module _ {x : TermEntry} (e : term_at p at ≡ x) where
      entry_is : get_or (map (term_at p) terms) t n_unit ≡ x
      entry_is = get_map (term_at p) terms t n_unit H.there ∙ ap (term_at p) (sym H.place) ∙ e

      tree_is : term_in p types terms t ≡ term_tree (type_of (map (type_at p) types)) (term_in p types terms) t x
      unfolding entries_at
      tree_is =
          term-unfolds (map (type_at p) types) (map (term_at p) terms) (good-lower E.tested) t
          ∙ ap (term_tree (type_of (map (type_at p) types)) (term_in p types terms) t) entry_is

      lower_is : below t (terms_of_term x) ≡ true
      unfolding entries_at
      lower_is = subst (λ x. below t (terms_of_term x) ≡ true) entry_is (good-lower E.tested t)

      types_are : below (length types) (types_of_term x) ≡ true
      unfolding entries_at
      types_are =
          subst (λ n. below n (types_of_term x) ≡ true) (length-map types (type_at p))
          (subst (λ x. below (length (map (type_at p) types)) (types_of_term x) ≡ true) entry_is
          (E.tested.term t (subst (λ n. t < n) (sym (length-map terms (term_at p))) H.there)).types_there)

      plain_are : all_plain (map (type_at p) types) (types_of_term x) ≡ true
      unfolding entries_at
      plain_are =
          subst (λ x. all_plain (map (type_at p) types) (types_of_term x) ≡ true) entry_is
          (E.tested.term t (subst (λ n. t < n) (sym (length-map terms (term_at p))) H.there)).types_plain

      functions_are : below (length functions) (functions_of_term x) ≡ true
      unfolding entries_at
      functions_are =
          subst (λ n. below n (functions_of_term x) ≡ true) (length-map functions (function_at p))
          (subst (λ x. below (length (map (function_at p) functions)) (functions_of_term x) ≡ true) entry_is
          (E.tested.term t (subst (λ n. t < n) (sym (length-map terms (term_at p))) H.there)).functions_there)

  -- a part: a lower entry, and so one that is there
  abbrev pub Part : ℕ → ℕ → Type 0
  Part t u = (u < t) × (u < length terms)

  ----------------------------------------------------------------
  -- Variables and unit

  module _ {t at : ℕ} (H : Here p terms t at variable_kind) where
    pub tree-var : term_in p types terms t ≡ var t (variable p at)
    unfolding term_tree
    tree-var = tree_is H (term-var p at H.form)

    pub read-var : at + 5 ≤ length p
    read-var = var-room (field-here H) H.form

  pub tree-unit : {t at : ℕ} → Here p terms t at unit_kind → term_in p types terms t ≡ tunit t
  unfolding term_tree
  tree-unit {t} {at} H = tree_is H (term-unit p at H.form)

  ----------------------------------------------------------------
  -- A type and a term

  module _ {t at kind : ℕ} (H : Here p terms t at kind) {x : TermEntry} (e : term_at p at ≡ x) (q : types_of_term x ≡ first p at ∷ [])
      (q' : terms_of_term x ≡ second p at ∷ []) where
    typed-part : (first p at < length types) × Part t (second p at)
    typed-part =
        let l : second p at < t = (below-head t (second p at) [] (subst (λ is. below t is ≡ true) q' (lower_is H e))).0 in
        ((below-head (length types) (first p at) [] (subst (λ is. below (length types) is ≡ true) q (types_are H e))).0, (l, omega (arith, H.there)))

    -- a type that a term names is closed (section 1)
    closed-type : closed 0 (type_of (map (type_at p) types) (first p at)) ≡ true
    unfolding all_plain
    closed-type =
        ((plain_iff (map (type_at p) types) (first p at)).0
        (and_both (plain (map (type_at p) types) (first p at)) true (subst (λ is. all_plain (map (type_at p) types) is ≡ true) q (plain_are H e))).0).0

  module _ {t at : ℕ} (H : Here p terms t at inl_kind) where
    pub tree_inl : term_in p types terms t ≡ tinl t (type_of (map (type_at p) types) (first p at)) (term_in p types terms (second p at))
    unfolding term_tree
    tree_inl = tree_is H (term_inl p at H.form)

    parts_inl : (first p at < length types) × Part t (second p at)
    unfolding types_of_term terms_of_term
    parts_inl = typed-part H (term_inl p at H.form) refl refl

  module _ {t at : ℕ} (H : Here p terms t at inr_kind) where
    pub tree_inr : term_in p types terms t ≡ tinr t (type_of (map (type_at p) types) (first p at)) (term_in p types terms (second p at))
    unfolding term_tree
    tree_inr = tree_is H (term_inr p at H.form)

    parts_inr : (first p at < length types) × Part t (second p at)
    unfolding types_of_term terms_of_term
    parts_inr = typed-part H (term_inr p at H.form) refl refl

  -- of both kinds
  pub parts_inject : {t at : ℕ} (kind : ℕ) → Here p terms t at kind → 2 ≤ kind → kind ≤ 3 → (first p at < length types) × Part t (second p at)
  parts_inject zero H l u = absurd (omega arith)
  parts_inject (suc zero) H l u = absurd (omega arith)
  parts_inject (suc (suc zero)) H l u = parts_inl H
  parts_inject (suc (suc (suc zero))) H l u = parts_inr H
  parts_inject (suc (suc (suc (suc k)))) H l u = absurd (omega arith)

  pub read_inject : {t at : ℕ} (kind : ℕ) → Here p terms t at kind → 2 ≤ kind → kind ≤ 3 → at + 8 ≤ length p
  unfolding term_lengths
  read_inject zero H l u = absurd (omega arith)
  read_inject (suc zero) H l u = absurd (omega arith)
  read_inject (suc (suc zero)) H l u = two-room (field-here H) H.form refl
  read_inject (suc (suc (suc zero))) H l u = two-room (field-here H) H.form refl
  read_inject (suc (suc (suc (suc k)))) H l u = absurd (omega arith)

  module _ {t at : ℕ} (H : Here p terms t at roll_kind) where
    pub tree-roll : term_in p types terms t ≡ troll t (type_of (map (type_at p) types) (first p at)) (term_in p types terms (second p at))
    unfolding term_tree
    tree-roll = tree_is H (term-roll p at H.form)

    pub parts-roll : (first p at < length types) × Part t (second p at)
    unfolding types_of_term terms_of_term
    parts-roll = typed-part H (term-roll p at H.form) refl refl

    pub closed-roll : closed 0 (type_of (map (type_at p) types) (first p at)) ≡ true
    unfolding types_of_term terms_of_term
    closed-roll = closed-type H (term-roll p at H.form) refl refl

    pub read-roll : at + 8 ≤ length p
    unfolding term_lengths
    read-roll = two-room (field-here H) H.form refl

  module _ {t at : ℕ} (H : Here p terms t at unroll_kind) where
    ten : 10 ≤ kind_at p at
    ten = omega (arith, H.form)

    pub tree_unroll : term_in p types terms t ≡ tunroll t (type_of (map (type_at p) types) (first p at)) (term_in p types terms (second p at))
    unfolding term_tree
    tree_unroll = tree_is H (term_unroll p at ten)

    pub parts_unroll : (first p at < length types) × Part t (second p at)
    unfolding types_of_term terms_of_term
    parts_unroll = typed-part H (term_unroll p at ten) refl refl

    pub closed_unroll : closed 0 (type_of (map (type_at p) types) (first p at)) ≡ true
    unfolding types_of_term terms_of_term
    closed_unroll = closed-type H (term_unroll p at ten) refl refl

    pub read_unroll : at + 8 ≤ length p
    unfolding term_lengths
    read_unroll = two-room (field-here H) H.form refl

  ----------------------------------------------------------------
  -- Two terms

  module _ {t at kind : ℕ} (H : Here p terms t at kind) {x : TermEntry} (e : term_at p at ≡ x) {is : List ℕ}
      (q : terms_of_term x ≡ first p at ∷ second p at ∷ is) where
    lower-two : below t (first p at ∷ second p at ∷ is) ≡ true
    lower-two = subst (λ is. below t is ≡ true) q (lower_is H e)

    two-parts : Part t (first p at) × Part t (second p at)
    two-parts =
        let l : first p at < t = (below-head t (first p at) _ lower-two).0 in
        let l' : second p at < t = (below-head t (second p at) is (below-head t (first p at) _ lower-two).1).0 in
        ((l, omega (arith, H.there)), (l', omega (arith, H.there)))

  module _ {t at : ℕ} (H : Here p terms t at pair_kind) where
    pub tree-pair : term_in p types terms t ≡ tpair t (term_in p types terms (first p at)) (term_in p types terms (second p at))
    unfolding term_tree
    tree-pair = tree_is H (term-pair p at H.form)

    pub parts-pair : Part t (first p at) × Part t (second p at)
    unfolding terms_of_term
    parts-pair = two-parts H (term-pair p at H.form) refl

    pub read-pair : at + 8 ≤ length p
    unfolding term_lengths
    read-pair = two-room (field-here H) H.form refl

  module _ {t at : ℕ} (H : Here p terms t at let_kind) where
    pub tree_let : term_in p types terms t ≡ tlet t (term_in p types terms (first p at)) (term_in p types terms (second p at))
    unfolding term_tree
    tree_let = tree_is H (term_let p at H.form)

    pub parts_let : Part t (first p at) × Part t (second p at)
    unfolding terms_of_term
    parts_let = two-parts H (term_let p at H.form) refl

    pub read_let : at + 8 ≤ length p
    unfolding term_lengths
    read_let = two-room (field-here H) H.form refl

  module _ {t at : ℕ} (H : Here p terms t at let_pair_kind) where
    pub tree_letp : term_in p types terms t ≡ tletp t (term_in p types terms (first p at)) (term_in p types terms (second p at))
    unfolding term_tree
    tree_letp = tree_is H (term_letp p at H.form)

    pub parts_letp : Part t (first p at) × Part t (second p at)
    unfolding terms_of_term
    parts_letp = two-parts H (term_letp p at H.form) refl

    pub read_letp : at + 8 ≤ length p
    unfolding term_lengths
    read_letp = two-room (field-here H) H.form refl

  ----------------------------------------------------------------
  -- Case

  module _ {t at : ℕ} (H : Here p terms t at case_kind) where
    pub tree_case : term_in p types terms t ≡ tcase t (term_in p types terms (first p at)) (term_in p types terms (second p at))
        (term_in p types terms (third p at))
    unfolding term_tree
    tree_case = tree_is H (term_case p at H.form)

    pub parts_case : Part t (first p at) × Part t (second p at) × Part t (third p at)
    unfolding terms_of_term
    parts_case =
        let low : below t (first p at ∷ second p at ∷ third p at ∷ []) ≡ true = lower_is H (term_case p at H.form) in
        let two = two-parts H (term_case p at H.form) refl in
        let l : third p at < t = (below-head t (third p at) [] (below-head t (second p at) _ (below-head t (first p at) _ low).1).1).0 in
        (two.0, two.1, (l, omega (arith, H.there)))

    pub read_case : at + 10 ≤ length p
    read_case = case_room (field-here H) H.form

  ----------------------------------------------------------------
  -- Calls

  module _ {t at : ℕ} (H : Here p terms t at call_kind) where
    pub tree-call : term_in p types terms t
        ≡ tcall t (first p at) (term_trees (term_in p types terms) (references p (at + 6) (call_ancillae (length_at p at))))
        (term_in p types terms (listed p at (call_ancillae (length_at p at))))
    unfolding term_tree
    tree-call = tree_is H (term-call p at H.form)

    pub called-there : first p at < length functions
    unfolding functions_of_term
    called-there = (below-head (length functions) (first p at) [] (functions_are H (term-call p at H.form))).0

    pub read-call : (at + 8 + 2 * call_ancillae (length_at p at) ≤ length p) × (5 ≤ length_at p at)
    read-call = (call-room (field-here H) H.form, call-sized (field-here H) H.form)

    lower_call : below t (references p (at + 6) (call_ancillae (length_at p at)) ++ (listed p at (call_ancillae (length_at p at)) ∷ [])) ≡ true
    unfolding terms_of_term
    lower_call = lower_is H (term-call p at H.form)

    -- an ancilla argument, and the dynamic one
    pub part-argument : {k : ℕ} → k < call_ancillae (length_at p at) → Part t (listed p at k)
    part-argument {k} h = let l : listed p at k < t = below_each t p (at + 6) _ _ lower_call k h in (l, omega (arith, H.there))

    pub part-dynamic : Part t (listed p at (call_ancillae (length_at p at)))
    part-dynamic = let l : listed p at (call_ancillae (length_at p at)) < t =
        below_last t p (at + 6) (call_ancillae (length_at p at)) _ lower_call in (l, omega (arith, H.there))
