-- What each kind of term that binds nothing does, from what the calls before it ensure: variables, unit, a part whose type is demanded,
-- inl and inr, roll, unroll.
use Prim.Native.Nat.{ℕ, zero, suc, ◌≤◌, ◌<◌}
use native.Mathlib.Omega.{arith}
use mathlib.Core.Path.{◌≡◌, refl, sym, ap, ap₂, subst, ◌∙◌}
use mathlib.Core.Logic.{◌⊎◌, ⊎_elim, inl as left, inr as right}
use mathlib.Core.Bool.{Bool, true, false}
use mathlib.Core.List.{List, map}
use lib.ListN.{length, get_or}
use lib.Dec.{leb}
use package.Rattle.rules.specs.Limits.{max_nodes}
use package.Rattle.rules.specs.Ty.{Ty, nodes as nodesIn, same_ty}
use package.Rattle.rules.specs.Term.{Term, var, tunit, tinl, tinr, troll, tunroll, used_in}
use package.Rattle.rules.specs.Check.{Naming, term, Checked, good, ◌>>◌, need, waits, waits_in, small, infer}
use package.Rattle.calls.specs.Fields.{kind_at}
use package.Rattle.calls.specs.Entries.{type_at, type_of}
use package.Rattle.calls.specs.Named.{closed}
use package.Rattle.program.specs.Parts.{variable, first, second}
use package.Rattle.program.specs.Kinds.{inl_kind, inr_kind, variable_kind, unit_kind, roll_kind, unroll_kind}
use package.Rattle.types.specs.declared.codes.Code.{Code}
use package.Rattle.types.specs.declared.shapes.Shape.{Shape}
use package.Rattle.types.specs.declared.shapes.Shape.TheVariants as shape
use package.Rattle.types.specs.Codes.{unit_code, entry_code, tree_in, Known, Sources}
use package.Rattle.types.specs.Shapes.{Shaped}
use package.Rattle.types.specs.Unfolding.{body_of, Unfolds}
use package.Rattle.types.proofs.Trees.{tree-unit as unit-tree, tree-entry}
use package.Rattle.types.proofs.Outer.{unit-known, entry_known}
use package.Rattle.types.proofs.Asked.{sum-tree, a_sum, no-sum}
use package.Rattle.types.proofs.Growing.{agree_refl}
use package.Rattle.types.proofs.Unfold.{unfolds, recursive, not_recursive}
use package.Rattle.typing.specs.Sizes.{terms_in}
use package.Rattle.typing.specs.Outcomes.{fault_of}
use package.Rattle.typing.specs.Ready.{term_in, variable_at, context_in, typing_of, type_in, demanded, Ready, Here, Inferred, Seen, Bare, Expects}
use package.Rattle.typing.specs.Waiting.{Waited}
use package.Rattle.typing.specs.Asked.{ReadyAt, ReadyInject, Infers}
use package.Rattle.typing.proofs.Contexts.{waits-context}
use package.Rattle.typing.proofs.Waiting.{added_none}
use package.Rattle.typing.proofs.Answers.{Ends, ends-refused, ends-typed, inferred, kept-still, tree_later, known_later, stopped, need_yes, need-no}
use package.Rattle.typing.proofs.Answers.{part-refused}
use package.Rattle.typing.proofs.Answers.{around, part-tested, ready-less}
use package.Rattle.typing.proofs.Trees.{tree-var, tree-unit, tree_inl, tree_inr, parts_inject, tree-roll, parts-roll, closed-roll, tree_unroll}
use package.Rattle.typing.proofs.Trees.{parts_unroll, closed_unroll}
use Rattle.typing.specs.declared.outcomes.Scope.{Scope}
use Rattle.typing.specs.declared.outcomes.Found.{Found}
use Rattle.typing.specs.declared.outcomes.Fault.{Fault}
use Rattle.typing.specs.declared.outcomes.Fault.TheVariants.{Differ}
use Rattle.std.specs.Prelude.{Option, Some, None, Ok, Err}
use package.Rattle.typing.specs.Outcomes.{Status, Out}

----------------------------------------------------------------
-- A part whose type is demanded

module _ {p types heap heap₁ : List ℕ} {size m : ℕ} {vars vars₁ : List ℕ} {top : ℕ} {E : Term} {W : List Naming} {r : Out} {part : Checked Ty}
    (d : Inferred size E W p types heap heap₁ m vars vars₁ top r part) (S : Sources p types heap top)
    {want answer : Code} (K : Known (length types) top want) (K' : Known (length types) top answer) where
  pub demand_done : {t : ℕ} {f : Found} {s : Status} → r.status ≡ Ok f → Expects p types heap₁ want answer t f s
      → Inferred size E W p types heap heap₁ m vars vars₁ top (record { status = s; top = r.top })
      (demanded part (tree_in p types heap want) (tree_in p types heap answer) t)
  unfolding fault_of
  demand_done {t} {f} {s} x P = part-tested d size next x refl (omega arith)
      (by (same_ty (tree_in p types heap₁ f.code) (tree_in p types heap₁ want)) refl)
    where
      next : Ty → Checked Ty
      next τ = need (same_ty τ (tree_in p types heap want)) 6 (term t) >> good (tree_in p types heap answer)

      wanted : tree_in p types heap want ≡ tree_in p types heap₁ want
      wanted = tree_later S d.kept K

      by : (b : Bool) → same_ty (tree_in p types heap₁ f.code) (tree_in p types heap₁ want) ≡ b
          → Ends E p types heap₁ r.top s (next (tree_in p types heap₁ f.code))
      by true q = ends-typed (P.yes q) (known_later S d.kept K') (d.uses f x)
          (need_yes _ _ _ _ (ap (same_ty (tree_in p types heap₁ f.code)) wanted ∙ q) ∙ ap good (tree_later S d.kept K'))
      by false q = ends-refused (P.no q) (need-no _ _ _ _ (ap (same_ty (tree_in p types heap₁ f.code)) wanted ∙ q))

-- a refusal of the part stands
pub demand-refused : {p types heap heap₁ : List ℕ} {size m : ℕ} {vars vars₁ : List ℕ} {top : ℕ} {E : Term} {W : List Naming} {r : Out} {part : Checked Ty}
    → Inferred size E W p types heap heap₁ m vars vars₁ top r part → (want answer : Ty) (t : ℕ) {w : Fault} → r.status ≡ Err w
    → Inferred size E W p types heap heap₁ m vars vars₁ top r (demanded part want answer t)
demand-refused {size = size} d want answer t x =
    part-refused d size (λ τ. need (same_ty τ want) 6 (term t) >> good answer) x refl (omega arith)

----------------------------------------------------------------
-- Variables and unit

module _ {p types terms functions nodes heap vars : List ℕ} {sc : Scope} {top t at : ℕ}
    (rd : Ready (terms_in (term_in p types terms t)) p types terms functions nodes heap vars sc top) where
  pub var_done : Here p terms t at variable_kind → {i : ℕ} → i ≡ variable p at → {r : Status} {vars' : List ℕ} → Seen vars vars' sc t i r
      → Infers p types terms functions heap heap vars vars' sc top t (record { status = r; top = top })
  unfolding infer terms_in
  var_done H {i} e {r} {vars'} N = inferred
      (record {
        agree = agree_refl _ _;
        sources = rd.scoped.sources;
        grows = omega arith;
        few = omega arith;
        below = λ j l. N.below j (omega (arith, rd.scoped.few));
        lengths = N.lengths;
        waited = subst (λ n. Waited n vars vars') (sym (ap terms_in is)) N.waited;
      })
      (record {
        known = λ f q. subst (Known (length types) top) (sym (N.code f q)) (rd.scoped.known i (N.there f q));
        uses = λ f q. record { each = λ j l. (N.uses f q).each j l ∙ sym (ap (used_in j) is) };
        answer = N.answer (tree_in p types heap) ∙ sym (ap (typing_of p types terms functions (context_in p types heap vars sc)) is);
      })
      (λ f q. N.waits f q ∙ sym (ap (waits_in (context_in p types heap vars sc)) is
      ∙ waits-context (λ i. tree_in p types heap (variable_at vars i)) sc (var t i)))
    where
      is : term_in p types terms t ≡ var t i
      is = tree-var rd.entries H ∙ ap (var t) (sym e)

  pub unit_done : Here p terms t at unit_kind → {f : Found} → Bare f
      → Infers p types terms functions heap heap vars vars sc top t (record { status = Ok f; top = top })
  unfolding infer waits
  unit_done H {f} B = inferred (kept-still _ sc.n vars rd.scoped.sources)
      (ends-typed refl (subst (Known (length types) top) (sym B.code) unit-known)
      (record { each = λ j l. B.uses.each j l ∙ sym (ap (used_in j) is) })
      (ap (typing_of p types terms functions (context_in p types heap vars sc)) is
      ∙ ap good (sym (ap (tree_in p types heap) B.code ∙ unit-tree (map (type_at p) types) heap unit_code refl))))
      (λ f q. added_none vars ∙ sym (ap (waits_in (context_in p types heap vars sc)) is))
    where
      is : term_in p types terms t ≡ tunit t
      is = tree-unit rd.entries H

----------------------------------------------------------------
-- inl and inr

-- the whole type, as it is named
module _ (p types heap : List ℕ) {i : ℕ} (at : ℕ) (q : i ≡ first p at) {whole : Code} (w : whole ≡ entry_code i) where
  whole_tree : tree_in p types heap whole ≡ type_of (map (type_at p) types) (first p at)
  whole_tree = ap (tree_in p types heap) w ∙ tree-entry (map (type_at p) types) heap (entry_code i) refl ∙ ap (type_of (map (type_at p) types)) q

  pub whole_known : {top : ℕ} → first p at < length types → Known (length types) top whole
  whole_known l = subst (Known (length types) _) (sym w) (entry_known i (omega arith))

module _ {p types terms functions : List ℕ} {table : List (List ℕ)} {nodes heap vars : List ℕ} {sc : Scope} {top t at : ℕ}
    (asked : ReadyInject p types terms functions table nodes heap vars sc top t at) {i part : ℕ} (q : i ≡ first p at) (q' : part ≡ second p at) {whole : Code}
    (w : whole ≡ entry_code i) where
  abbrev rule : Checked Ty
  rule = type_in p types terms functions heap vars sc t

  abbrev E : Term
  E = term_in p types terms part

  -- inl over its part, inr over its part
  tree-left : kind_at p at ≡ inl_kind → term_in p types terms t ≡ tinl t (tree_in p types heap whole) E
  tree-left e = tree_inl asked.ready.entries (subst (Here p terms t at) e asked.here)
      ∙ ap₂ (tinl t) (sym (whole_tree p types heap at q w)) (ap (term_in p types terms) (sym q'))

  tree-right : kind_at p at ≡ inr_kind → term_in p types terms t ≡ tinr t (tree_in p types heap whole) E
  tree-right e = tree_inr asked.ready.entries (subst (Here p terms t at) e asked.here)
      ∙ ap₂ (tinr t) (sym (whole_tree p types heap at q w)) (ap (term_in p types terms) (sym q'))

  two_or_three : (kind_at p at ≡ inl_kind) ⊎ (kind_at p at ≡ inr_kind)
  two_or_three = by (kind_at p at) asked.least asked.most
    where
      by : (k : ℕ) → 2 ≤ k → k ≤ 3 → (k ≡ 2) ⊎ (k ≡ 3)
      by zero l u = absurd (omega arith)
      by (suc zero) l u = absurd (omega arith)
      by (suc (suc zero)) l u = left refl
      by (suc (suc (suc zero))) l u = right refl
      by (suc (suc (suc (suc k)))) l u = absurd (omega arith)

  size-left : kind_at p at ≡ inl_kind → suc (terms_in E) ≡ terms_in (term_in p types terms t)
  unfolding terms_in
  size-left e = sym (ap terms_in (tree-left e))

  size-right : kind_at p at ≡ inr_kind → suc (terms_in E) ≡ terms_in (term_in p types terms t)
  unfolding terms_in
  size-right e = sym (ap terms_in (tree-right e))

  size_inject : suc (terms_in E) ≡ terms_in (term_in p types terms t)
  size_inject = ⊎_elim size-left size-right two_or_three

  pub inject_ready : Ready (terms_in (term_in p types terms part)) p types terms functions nodes heap vars sc top
  inject_ready = ready-less asked.ready _ (omega (arith, size_inject))

  pub inject_part : (part < t) × (part < length terms)
  inject_part = rw q' (parts_inject asked.ready.entries (kind_at p at) asked.here asked.least asked.most).1

  pub inject_whole : Known (length types) top whole
  inject_whole = whole_known p types heap at q w (parts_inject asked.ready.entries (kind_at p at) asked.here asked.least asked.most).0

  module _ {s : Shape} (S : Shaped p types heap top whole s) where
    pub inject_no : {r : Out} → ((a b : Code) → ¬ (s ≡ shape.Sum a b)) → r.status ≡ Err (Differ t) → r.top ≡ top
        → Infers p types terms functions heap heap vars vars sc top t r
    unfolding infer fault_of
    inject_no n e x = stopped _ sc.n vars asked.ready.scoped.sources e x (⊎_elim
        (λ k. ap (typing_of p types terms functions (context_in p types heap vars sc)) (tree-left k) ∙ no-sum S (term t) _ n)
        (λ k. ap (typing_of p types terms functions (context_in p types heap vars sc)) (tree-right k) ∙ no-sum S (term t) _ n)
        two_or_three)

    pub inject_parts : {a b : Code} → s ≡ shape.Sum a b → Known (length types) top a × Known (length types) top b
    inject_parts e = (subst (Shaped p types heap top whole) e S).parts

    sum_is : {a b : Code} → s ≡ shape.Sum a b → Shaped p types heap top whole (shape.Sum a b)
    sum_is e = subst (Shaped p types heap top whole) e S

    module _ {a b : Code} (is : s ≡ shape.Sum a b) {heap' vars' : List ℕ} {out : Out} where
      -- a refusal of the part stands
      pub inject-refused : Infers p types terms functions heap heap' vars vars' sc top part out
          → {w : Fault} → out.status ≡ Err w → Infers p types terms functions heap heap' vars vars' sc top t out
      unfolding infer
      inject-refused d x = ⊎_elim
          (λ e. part-refused d _ _ x (ap (typing_of p types terms functions (context_in p types heap vars sc)) (tree-left e) ∙ a_sum (term t) _ (sum_is is))
          (omega (arith, size_inject)))
          (λ e. part-refused d _ _ x (ap (typing_of p types terms functions (context_in p types heap vars sc)) (tree-right e) ∙ a_sum (term t) _ (sum_is is))
          (omega (arith, size_inject)))
          two_or_three

      pub inject_left : kind_at p at ≡ inl_kind
          → Inferred (terms_in E) E (waits_in (context_in p types heap vars sc) E) p types heap heap' sc.n vars vars' top out
          (demanded (type_in p types terms functions heap vars sc part) (tree_in p types heap a) (tree_in p types heap whole) t)
          → Infers p types terms functions heap heap' vars vars' sc top t out
      unfolding infer waits
      inject_left k d = around d _ (λ i. ap (used_in i) (tree-left k)) (ap (waits_in (context_in p types heap vars sc)) (tree-left k)) (omega (
        arith,
        size_inject,
      ))
          (ap (typing_of p types terms functions (context_in p types heap vars sc)) (tree-left k) ∙ a_sum (term t) _ (sum_is is)
          ∙ ap (λ c. demanded (type_in p types terms functions heap vars sc part) (tree_in p types heap a) c t) (sym (sum-tree (sum_is is))))

      pub inject_right : ¬ (kind_at p at ≡ inl_kind)
          → Inferred (terms_in E) E (waits_in (context_in p types heap vars sc) E) p types heap heap' sc.n vars vars' top out
          (demanded (type_in p types terms functions heap vars sc part) (tree_in p types heap b) (tree_in p types heap whole) t)
          → Infers p types terms functions heap heap' vars vars' sc top t out
      unfolding infer waits
      inject_right n d = let k : kind_at p at ≡ inr_kind = omega arith in
          around d _ (λ i. ap (used_in i) (tree-right k)) (ap (waits_in (context_in p types heap vars sc)) (tree-right k)) (omega (arith, size_inject))
          (ap (typing_of p types terms functions (context_in p types heap vars sc)) (tree-right k) ∙ a_sum (term t) _ (sum_is is)
          ∙ ap (λ c. demanded (type_in p types terms functions heap vars sc part) (tree_in p types heap b) c t) (sym (sum-tree (sum_is is))))

----------------------------------------------------------------
-- roll and unroll

module _ {p types terms functions : List ℕ} {table : List (List ℕ)} {nodes heap vars : List ℕ} {sc : Scope} {top t at : ℕ}
    (asked : ReadyAt p types terms functions table nodes heap vars sc top t at roll_kind) {i part : ℕ} (q : i ≡ first p at) (q' : part ≡ second p at) where
  rolled : term_in p types terms t ≡ troll t (tree_in p types heap (entry_code i)) (term_in p types terms part)
  rolled = tree-roll asked.ready.entries asked.here ∙ ap₂ (troll t) (sym (whole_tree p types heap at q refl)) (ap (term_in p types terms) (sym q'))

  size_roll : suc (terms_in (term_in p types terms part)) ≡ terms_in (term_in p types terms t)
  unfolding terms_in
  size_roll = sym (ap terms_in rolled)

  pub roll-ready : Ready (terms_in (term_in p types terms part)) p types terms functions nodes heap vars sc top
  roll-ready = ready-less asked.ready _ (omega (arith, size_roll))

  pub roll-part : (part < t) × (part < length terms)
  roll-part = rw q' (parts-roll asked.ready.entries asked.here).1

  pub roll_type : i < length types
  roll_type = rw q (parts-roll asked.ready.entries asked.here).0

  roll-closed : closed 0 (type_of (map (type_at p) types) i) ≡ true
  roll-closed = rw q (closed-roll asked.ready.entries asked.here)

  pub roll_whole : {whole : Code} → whole ≡ entry_code i → Known (length types) top whole
  roll_whole w = subst (Known (length types) top) (sym w) (entry_known i roll_type)

  module _ {b : Option Code} (e : b ≡ body_of heap (type_at p (get_or types i 0)) i) where
    pub roll-no : {r : Out} → b ≡ None → r.status ≡ Err (Differ t) → r.top ≡ top
        → Infers p types terms functions heap heap vars vars sc top t r
    unfolding infer fault_of
    roll-no n s x = stopped _ sc.n vars asked.ready.scoped.sources s x
        (ap (typing_of p types terms functions (context_in p types heap vars sc)) rolled
        ∙ not_recursive asked.ready.scoped.sources i roll_type roll-closed (term t) _ (sym n ∙ e))

    module _ {c : Code} (o : b ≡ Some c) where
      roll-unfolds : Unfolds p types heap top i c
      roll-unfolds = unfolds asked.ready.scoped.sources i roll_type roll-closed (sym o ∙ e)

      pub roll-known : Known (length types) top c
      roll-known = roll-unfolds.known

      pub roll_done : {whole : Code} → whole ≡ entry_code i → {heap' vars' : List ℕ} {out : Out}
          → Inferred (terms_in (term_in p types terms part)) (term_in p types terms part) (waits_in (context_in p types heap vars sc) (term_in p
          types terms part))
          p types heap heap' sc.n vars vars' top out
          (demanded (type_in p types terms functions heap vars sc part) (tree_in p types heap c) (tree_in p types heap whole) t)
          → Infers p types terms functions heap heap' vars vars' sc top t out
      unfolding infer waits
      roll_done w d = around d _ (λ i. ap (used_in i) rolled) (ap (waits_in (context_in p types heap vars sc)) rolled) (omega (arith, size_roll))
          (ap (typing_of p types terms functions (context_in p types heap vars sc)) rolled
          ∙ recursive asked.ready.scoped.sources i roll_type roll-closed (term t) _ roll-unfolds
          ∙ ap₂ (λ c τ. demanded (type_in p types terms functions heap vars sc part) c τ t) (sym roll-unfolds.tree)
          (sym (ap (tree_in p types heap) w ∙ roll-unfolds.whole)))

      -- a refusal of the part stands
      pub roll-refused : {heap' vars' : List ℕ} {out : Out} → Infers p types terms functions heap heap' vars vars' sc top part out
          → {w : Fault} → out.status ≡ Err w → Infers p types terms functions heap heap' vars vars' sc top t out
      roll-refused d x = roll_done {whole = entry_code i} refl (demand-refused d _ _ t x)

module _ {p types terms functions : List ℕ} {table : List (List ℕ)} {nodes heap vars : List ℕ} {sc : Scope} {top t at : ℕ}
    (asked : ReadyAt p types terms functions table nodes heap vars sc top t at unroll_kind) {i part : ℕ} (q : i ≡ first p at) (q' : part ≡ second p at) where
  unrolled : term_in p types terms t ≡ tunroll t (tree_in p types heap (entry_code i)) (term_in p types terms part)
  unrolled = tree_unroll asked.ready.entries asked.here ∙ ap₂ (tunroll t) (sym (whole_tree p types heap at q refl)) (ap (term_in p types terms) (sym q'))

  size_unroll : suc (terms_in (term_in p types terms part)) ≡ terms_in (term_in p types terms t)
  unfolding terms_in
  size_unroll = sym (ap terms_in unrolled)

  pub unroll_ready : Ready (terms_in (term_in p types terms part)) p types terms functions nodes heap vars sc top
  unroll_ready = ready-less asked.ready _ (omega (arith, size_unroll))

  pub unroll_part : (part < t) × (part < length terms)
  unroll_part = rw q' (parts_unroll asked.ready.entries asked.here).1

  pub unroll_type : i < length types
  unroll_type = rw q (parts_unroll asked.ready.entries asked.here).0

  unroll_closed : closed 0 (type_of (map (type_at p) types) i) ≡ true
  unroll_closed = rw q (closed_unroll asked.ready.entries asked.here)

  pub unroll_whole : {whole : Code} → whole ≡ entry_code i → Known (length types) top whole
  unroll_whole w = subst (Known (length types) top) (sym w) (entry_known i unroll_type)

  module _ {b : Option Code} (e : b ≡ body_of heap (type_at p (get_or types i 0)) i) where
    pub unroll_no : {r : Out} → b ≡ None → r.status ≡ Err (Differ t) → r.top ≡ top
        → Infers p types terms functions heap heap vars vars sc top t r
    unfolding infer fault_of
    unroll_no n s x = stopped _ sc.n vars asked.ready.scoped.sources s x
        (ap (typing_of p types terms functions (context_in p types heap vars sc)) unrolled
        ∙ not_recursive asked.ready.scoped.sources i unroll_type unroll_closed (term t) _ (sym n ∙ e))

    module _ {c : Code} (o : b ≡ Some c) where
      unroll_unfolds : Unfolds p types heap top i c
      unroll_unfolds = unfolds asked.ready.scoped.sources i unroll_type unroll_closed (sym o ∙ e)

      pub unroll_known : Known (length types) top c
      unroll_known = unroll_unfolds.known

      unroll_rule : type_in p types terms functions heap vars sc t
          ≡ (need (leb (nodesIn (tree_in p types heap c)) max_nodes) 6 (term t)
          >> demanded (type_in p types terms functions heap vars sc part) (tree_in p types heap (entry_code i)) (tree_in p types heap c) t)
      unfolding infer small
      unroll_rule =
          ap (typing_of p types terms functions (context_in p types heap vars sc)) unrolled
          ∙ recursive asked.ready.scoped.sources i unroll_type unroll_closed (term t) _ unroll_unfolds
          ∙ ap₂ (λ τ c. need (leb (nodesIn τ) max_nodes) 6 (term t) >> demanded (type_in p types terms functions heap vars sc part) c τ t)
          (sym unroll_unfolds.tree) (sym unroll_unfolds.whole)

      module _ {ok : Bool} (within : ok ≡ leb (nodesIn (tree_in p types heap c)) max_nodes) where
        pub unroll_large : {r : Out} → ok ≡ false → r.status ≡ Err (Differ t) → r.top ≡ top
            → Infers p types terms functions heap heap vars vars sc top t r
        unfolding fault_of
        unroll_large n s x = stopped _ sc.n vars asked.ready.scoped.sources s x (unroll_rule ∙ need-no _ _ _ _ (sym within ∙ n))

        pub unroll_done : {whole : Code} → ok ≡ true → whole ≡ entry_code i → {heap' vars' : List ℕ} {out : Out}
            → Inferred (terms_in (term_in p types terms part)) (term_in p types terms part) (waits_in (context_in p types heap vars sc) (term_in p
            types terms part))
            p types heap heap' sc.n vars vars' top out
            (demanded (type_in p types terms functions heap vars sc part) (tree_in p types heap whole) (tree_in p types heap c) t)
            → Infers p types terms functions heap heap' vars vars' sc top t out
        unfolding waits
        unroll_done y w d = around d _ (λ i. ap (used_in i) unrolled) (ap (waits_in (context_in p types heap vars sc)) unrolled) (omega (arith, size_unroll))
            (unroll_rule ∙ need_yes _ _ _ _ (sym within ∙ y)
            ∙ ap (λ w. demanded (type_in p types terms functions heap vars sc part) (tree_in p types heap w) (tree_in p types heap c) t) (sym w))

        -- a refusal of the part stands
        pub unroll_refused : ok ≡ true → {heap' vars' : List ℕ} {out : Out} → Infers p types terms functions heap heap' vars vars' sc top part out
            → {w : Fault} → out.status ≡ Err w → Infers p types terms functions heap heap' vars vars' sc top t out
        unroll_refused y d x = unroll_done {whole = entry_code i} y refl (demand-refused d _ _ t x)
