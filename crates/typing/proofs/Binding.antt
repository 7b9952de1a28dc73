-- What let and let pair do: the bound term in its scope, the body, and the end (Closing).
use Prim.Native.Nat.{ℕ, suc, ◌+◌, ◌≤◌, ◌<◌}
use native.Mathlib.Omega.{arith}
use mathlib.Core.Path.{◌≡◌, refl, sym, ap, ap₂, subst, ◌∙◌}
use mathlib.Core.Bool.{true, false, ◌&&◌}
use mathlib.Core.List.{List, ◌∷◌, ◌++◌}
use lib.ListN.{length}
use lib.Dec.{leb}
use package.Rattle.rules.specs.Limits.{max_variables}
use package.Rattle.rules.specs.Ty.{Ty}
use package.Rattle.rules.specs.Term.{Term, tlet, tletp, used_in}
use package.Rattle.rules.specs.Typing.{dynamic, Context, mark}
use package.Rattle.rules.specs.Check.{term, Checked, good, ◌>>=◌, ◌>>◌, need, as_prod, spent, waits_in, unhelped, onward, helps, dynamics, marks}
use package.Rattle.rules.specs.Check.{unless, need_none, room, infer}
use package.Rattle.rules.proofs.Typing.Waiting.{waits_let, waits_letp}
use package.Rattle.program.specs.Parts.{first, second}
use package.Rattle.program.specs.Kinds.{let_kind, let_pair_kind}
use package.Rattle.types.specs.declared.codes.Code.{Code}
use package.Rattle.types.specs.declared.shapes.Shape.{Shape}
use package.Rattle.types.specs.declared.shapes.Shape.TheVariants as shape
use package.Rattle.types.specs.Codes.{tree_in, Known}
use package.Rattle.types.specs.Shapes.{Shaped}
use package.Rattle.types.proofs.Asked.{a-product, no-product}
use package.Rattle.typing.specs.Waiting.{count_in, added, Waited, Settleable}
use package.Rattle.typing.specs.Sizes.{terms_in}
use package.Rattle.typing.specs.Outcomes.{fault_of}
use package.Rattle.typing.specs.Ready.{term_in, context_in, typing_of, type_in, Ready, Kept}
use package.Rattle.typing.specs.Ready.{Inferred, Widened, MarkedScope, ClosesOne, ClosesTwo}
use package.Rattle.typing.specs.Asked.{ReadyAt, Infers}
use package.Rattle.typing.proofs.Answers.{ends-refused, inferred, refusing, kept_then, kept_more, kept-opened, tree_later, known_later}
use package.Rattle.typing.proofs.Answers.{stopped, need_yes, need-no, answered, part-refused, earlier, says, good-then}
use package.Rattle.typing.proofs.Answers.{context_later, ready_later}
use package.Rattle.typing.proofs.Trees.{tree_let, parts_let, tree_letp, parts_letp}
use package.Rattle.typing.proofs.Waiting.{waited-then, added_then, added-still, added-after}
use package.Rattle.typing.proofs.Closing.{as_many, fits, over, spent_is, lent-context, lent-ready, in_scope, let_settleable, let_stops, let_ends}
use Rattle.typing.specs.declared.outcomes.Scope.{Scope}
use Rattle.typing.specs.declared.outcomes.Found.{Found}
use Rattle.typing.specs.declared.outcomes.Fault.{Fault}
use Rattle.typing.specs.declared.outcomes.Fault.TheVariants.{Differ, Unscoped}
use package.Rattle.typing.specs.Outcomes.{Status}
use Rattle.std.specs.Prelude.{Ok, Err}
use package.Rattle.typing.specs.Outcomes.{Out}

----------------------------------------------------------------
-- let

module _ {p types terms functions : List ℕ} {table : List (List ℕ)} {nodes heap vars : List ℕ} {sc : Scope} {top t at : ℕ}
    (asked : ReadyAt p types terms functions table nodes heap vars sc top t at let_kind) where
  abbrev goal : Checked Ty
  goal = type_in p types terms functions heap vars sc t

  abbrev Δ : Context
  Δ = context_in p types heap vars sc

  -- the rule, over the parts
  rule_let : (e b : ℕ) → e ≡ first p at → b ≡ second p at → goal
      ≡ (need (leb (1 + length Δ) max_variables) 7 (term t) >> (typing_of p types terms functions (mark (λ i. true) Δ) (term_in p types terms e) >>= λ c.
      typing_of p types terms functions (dynamic false c ∷ Δ) (term_in p types terms b) >>= λ τ.
      need_none (unless (spent (length Δ) c (term_in p types terms b)) t ++ unhelped Δ (term_in p types terms e) (term_in p types terms b)) >> good τ))
  unfolding infer room
  rule_let e b q q' = ap (typing_of p types terms functions Δ)
      (tree_let asked.ready.entries asked.here ∙ ap₂ (tlet t) (ap (term_in p types terms) (sym q)) (ap (term_in p types terms) (sym q')))

  pub let_full : {r : Out} → sc.n ≡ max_variables → r.status ≡ Err (Unscoped t) → r.top ≡ top
      → Infers p types terms functions heap heap vars vars sc top t r
  unfolding fault_of
  let_full x s z = stopped _ sc.n vars asked.ready.scoped.sources s z
      (rule_let _ _ refl refl ∙ need-no _ _ _ _ (over 1 sc.n (as_many p types heap vars sc) (omega arith)))

  module _ (free : ¬ (sc.n ≡ max_variables)) {e b : ℕ} (q : e ≡ first p at) (q' : b ≡ second p at) where
    abbrev E : Term
    E = term_in p types terms e

    abbrev B : Term
    B = term_in p types terms b

    abbrev T : Term
    T = term_in p types terms t

    pub let_free : sc.n < max_variables
    let_free = omega (arith, asked.ready.scoped.few)

    let_tree : T ≡ tlet t E B
    let_tree = tree_let asked.ready.entries asked.here ∙ ap₂ (tlet t) (ap (term_in p types terms) (sym q)) (ap (term_in p types terms) (sym q'))

    size_let : suc (terms_in E + terms_in B) ≡ terms_in T
    unfolding terms_in
    size_let = sym (ap terms_in let_tree)

    rule : goal ≡ (typing_of p types terms functions (mark (λ i. true) Δ) E >>= λ c.
        typing_of p types terms functions (dynamic false c ∷ Δ) B >>= λ τ. need_none (unless (spent (length Δ) c B) t ++ unhelped Δ E B) >> good τ)
    rule = rule_let e b q q' ∙ need_yes _ _ _ _ (fits 1 sc.n (as_many p types heap vars sc) (omega (arith, let_free)))

    pub let_bound : (e < t) × (e < length terms)
    let_bound = rw q (parts_let asked.ready.entries asked.here).0

    pub let_body : (b < t) × (b < length terms)
    let_body = rw q' (parts_let asked.ready.entries asked.here).1

    module _ {lent : Scope} (M : MarkedScope sc lent) where
      pub let_ready : Ready (terms_in E) p types terms functions nodes heap vars lent top
      let_ready = lent-ready asked.ready M (terms_in E) (omega (arith, size_let))

      module _ {heap₁ vars₁ : List ℕ} {o : Out} (d₀ : Infers p types terms functions heap heap₁ vars vars₁ lent top e o) where
        -- the bound term, by the let's scope
        d : Inferred (terms_in E) E (waits_in (mark (λ i. true) Δ) E) p types heap heap₁ sc.n vars vars₁ top o
            (typing_of p types terms functions (mark (λ i. true) Δ) E)
        d = in_scope M.n (says d₀ (ap (λ Γ. typing_of p types terms functions Γ E) (lent-context asked.ready M)) (ap (λ Γ. waits_in Γ E) (lent-context asked.ready M)))

        pub let_refused : {w : Fault} → o.status ≡ Err w → Infers p types terms functions heap heap₁ vars vars₁ sc top t o
        let_refused x = part-refused d _ _ x rule (omega (arith, size_let))

        pub let_later : Ready (terms_in B) p types terms functions nodes heap₁ vars₁ sc o.top
        let_later = ready_later asked.ready d.kept _ (omega (arith, size_let))

        module _ {f : Found} (x : o.status ≡ Ok f) {vars₂ : List ℕ} {inner : Scope} (O : Widened p types heap₁ vars₁ vars₂ sc o.top f.code inner)
            {heap₂ vars₃ : List ℕ} {o₂ : Out} (d₂ : Infers p types terms functions heap₁ heap₂ vars₂ vars₃ inner o.top b o₂) where
          abbrev τ : Ty
          τ = tree_in p types heap₁ f.code

          body-context : context_in p types heap₁ vars₂ inner ≡ dynamic false τ ∷ Δ
          body-context = O.context ∙ ap (λ Γ. dynamic false τ ∷ Γ) (context_later asked.ready d.kept)

          pub let_known : Known (length types) o₂.top f.code
          let_known = known_later d.kept.sources d₂.kept (d.known f x)

          -- the body, from the start
          whole_let : Inferred (terms_in E + terms_in B) B (waits_in (mark (λ i. true) Δ) E ++ waits_in (dynamic false τ ∷ Δ) B)
              p types heap heap₂ sc.n vars vars₃ top o₂ (typing_of p types terms functions (dynamic false τ ∷ Δ) B)
          whole_let = earlier (says d₂ (ap (λ Γ. typing_of p types terms functions Γ B) body-context) (ap (λ Γ. waits_in Γ B) body-context)) _
              (kept_then (terms_in E) d.kept (kept-opened O) (omega arith) (omega arith))
              (added-after d.kept.waited O.waited (d.waits f x)) (omega (arith, O.one_more)) (omega arith)

          -- what came to wait in the body
          body-waited : Waited (terms_in B) vars₁ vars₃
          body-waited = waited-then O.waited d₂.kept.waited (terms_in B) (omega arith)

          body-waits : (g : Found) → o₂.status ≡ Ok g → added vars₁ vars₃ ≡ waits_in (dynamic false τ ∷ Δ) B
          body-waits g y = added_then O.waited d₂.kept.waited (added-still O.waited) (d₂.waits g y) ∙ ap (λ Γ. waits_in Γ B) body-context

          abbrev Closed : ℕ → ℕ → List ℕ → Found → Status → Type 0
          Closed from to vars₄ = ClosesOne p types heap₂ vars₃ vars₄ sc f.uses f.code t from to

          let_waits : (onward (helps (dynamics Δ) B) (marks Δ) (waits_in (mark (λ i. true) Δ) E) ++ waits_in (dynamic false τ ∷ Δ) B) ≡ waits_in Δ T
          let_waits = sym (ap (waits_in Δ) let_tree ∙ waits_let τ Δ t E B)

          -- a refusal of the body stands
          pub let_stopped : {w : Fault} → o₂.status ≡ Err w → Infers p types terms functions heap heap₂ vars vars₃ sc top t o₂
          let_stopped y = says (let_stops E B T asked.ready size_let (λ i. ap (used_in i) let_tree) d.kept.waited (d.waits f x) body-waited whole_let body-waits
              _ _ y (rule ∙ good-then _ (answered d x)))
              refl let_waits

          let_closed : {vars₄ : List ℕ} {g : Found} {s : Status} → o₂.status ≡ Ok g → Closed (count_in vars) (count_in vars₁) vars₄ g s
              → Infers p types terms functions heap heap₂ vars vars₄ sc top t (record { status = s; top = o₂.top })
          let_closed {g = g} y C = says (let_ends E B T asked.ready size_let (λ i. ap (used_in i) let_tree) d.kept.waited (d.waits f x) body-waited whole_let
              body-waits (d.uses f x) y C
              (λ N. spent_is p types heap₂ f.code sc.n g.uses B let_free (as_many p types heap vars sc)
              (tree_later d.kept.sources d₂.kept (d.known f x)) N)
              (rule ∙ good-then _ (answered d x)))
              refl let_waits

          -- the let's namings begin at `from` and end at `to`
          module _ {from to : ℕ} (qf : from ≡ count_in vars) (qt : to ≡ count_in vars₁) where
            pub let_can_settle : Settleable sc vars₃ from to
            let_can_settle = rw (qf, qt)
                (let_settleable E B T asked.ready size_let (λ i. ap (used_in i) let_tree) d.kept.waited (d.waits f x) body-waited whole_let body-waits)

            pub let_done : {vars₄ : List ℕ} {g : Found} {s : Status} → o₂.status ≡ Ok g
                → ClosesOne p types heap₂ vars₃ vars₄ sc f.uses f.code t from to g s
                → Infers p types terms functions heap heap₂ vars vars₄ sc top t (record { status = s; top = o₂.top })
            let_done {vars₄} {g} {s} y C = let_closed y (subst (λ to. Closed (count_in vars) to vars₄ g s) qt
                (subst (λ from. Closed from to vars₄ g s) qf C))

----------------------------------------------------------------
-- let pair

module _ {p types terms functions : List ℕ} {table : List (List ℕ)} {nodes heap vars : List ℕ} {sc : Scope} {top t at : ℕ}
    (asked : ReadyAt p types terms functions table nodes heap vars sc top t at let_pair_kind) where
  abbrev goal₂ : Checked Ty
  goal₂ = type_in p types terms functions heap vars sc t

  abbrev Δ₂ : Context
  Δ₂ = context_in p types heap vars sc

  -- the rule, over the parts
  rule_letp : (e b : ℕ) → e ≡ first p at → b ≡ second p at → goal₂
      ≡ (need (leb (2 + length Δ₂) max_variables) 7 (term t) >> (typing_of p types terms functions (mark (λ i. true) Δ₂) (term_in p types terms e) >>= λ τ.
      as_prod (term t) τ λ c d. typing_of p types terms functions (dynamic false d ∷ dynamic false c ∷ Δ₂) (term_in p types terms b) >>= λ τ.
      need_none (unless (spent (length Δ₂) c (term_in p types terms b) && spent (suc (length Δ₂)) d (term_in p types terms b)) t
      ++ unhelped Δ₂ (term_in p types terms e) (term_in p types terms b)) >> good τ))
  unfolding infer room
  rule_letp e b q q' = ap (typing_of p types terms functions Δ₂)
      (tree_letp asked.ready.entries asked.here ∙ ap₂ (tletp t) (ap (term_in p types terms) (sym q)) (ap (term_in p types terms) (sym q')))

  pub letp_full : {r : Out} → max_variables < sc.n + 2 → r.status ≡ Err (Unscoped t) → r.top ≡ top
      → Infers p types terms functions heap heap vars vars sc top t r
  unfolding fault_of
  letp_full x s z = stopped _ sc.n vars asked.ready.scoped.sources s z
      (rule_letp _ _ refl refl ∙ need-no _ _ _ _ (over 2 sc.n (as_many p types heap vars sc) (omega arith)))

  module _ (free : sc.n + 2 ≤ max_variables) {e b : ℕ} (q : e ≡ first p at) (q' : b ≡ second p at) where
    abbrev E₂ : Term
    E₂ = term_in p types terms e

    abbrev B₂ : Term
    B₂ = term_in p types terms b

    abbrev T₂ : Term
    T₂ = term_in p types terms t

    letp_tree : T₂ ≡ tletp t E₂ B₂
    letp_tree = tree_letp asked.ready.entries asked.here ∙ ap₂ (tletp t) (ap (term_in p types terms) (sym q)) (ap (term_in p types terms) (sym q'))

    size_letp : suc (terms_in E₂ + terms_in B₂) ≡ terms_in T₂
    unfolding terms_in
    size_letp = sym (ap terms_in letp_tree)

    rule₂ : goal₂ ≡ (typing_of p types terms functions (mark (λ i. true) Δ₂) E₂ >>= λ τ.
        as_prod (term t) τ λ c d. typing_of p types terms functions (dynamic false d ∷ dynamic false c ∷ Δ₂) B₂ >>= λ τ.
        need_none (unless (spent (length Δ₂) c B₂ && spent (suc (length Δ₂)) d B₂) t ++ unhelped Δ₂ E₂ B₂) >> good τ)
    rule₂ = rule_letp e b q q' ∙ need_yes _ _ _ _ (fits 2 sc.n (as_many p types heap vars sc) (omega arith))

    pub letp_bound : (e < t) × (e < length terms)
    letp_bound = rw q (parts_letp asked.ready.entries asked.here).0

    pub letp_body : (b < t) × (b < length terms)
    letp_body = rw q' (parts_letp asked.ready.entries asked.here).1

    module _ {lent : Scope} (M : MarkedScope sc lent) where
      pub letp_ready : Ready (terms_in E₂) p types terms functions nodes heap vars lent top
      letp_ready = lent-ready asked.ready M (terms_in E₂) (omega (arith, size_letp))

      module _ {heap₁ vars₁ : List ℕ} {o : Out} (d₀ : Infers p types terms functions heap heap₁ vars vars₁ lent top e o) where
        -- the bound term, by the let's scope
        d₁ : Inferred (terms_in E₂) E₂ (waits_in (mark (λ i. true) Δ₂) E₂) p types heap heap₁ sc.n vars vars₁ top o
            (typing_of p types terms functions (mark (λ i. true) Δ₂) E₂)
        d₁ = in_scope M.n
            (says d₀ (ap (λ Γ. typing_of p types terms functions Γ E₂) (lent-context asked.ready M)) (ap (λ Γ. waits_in Γ E₂) (lent-context asked.ready M)))

        pub letp_refused : {w : Fault} → o.status ≡ Err w → Infers p types terms functions heap heap₁ vars vars₁ sc top t o
        letp_refused x = part-refused d₁ _ _ x rule₂ (omega (arith, size_letp))

        pub letp_later : Ready (terms_in B₂) p types terms functions nodes heap₁ vars₁ sc o.top
        letp_later = ready_later asked.ready d₁.kept _ (omega (arith, size_letp))

        module _ {f : Found} (x : o.status ≡ Ok f) {s : Shape} (S : Shaped p types heap₁ o.top f.code s) where
          pub letp_no : {r : Out} → ((a b : Code) → ¬ (s ≡ shape.Product a b)) → r.status ≡ Err (Differ t) → r.top ≡ o.top
              → Infers p types terms functions heap heap₁ vars vars₁ sc top t r
          unfolding fault_of
          letp_no n y z = inferred
              (subst (λ u. Kept (terms_in T₂) p types heap heap₁ sc.n vars vars₁ top u) (sym z) (kept_more _ d₁.kept (omega (arith, size_letp))))
              (ends-refused y (rule₂ ∙ good-then _ (answered d₁ x) ∙ no-product S (term t) _ n)) (refusing y)

          module _ {a₁ a₂ : Code} (product : s ≡ shape.Product a₁ a₂) where
            product_is : Shaped p types heap₁ o.top f.code (shape.Product a₁ a₂)
            product_is = subst (Shaped p types heap₁ o.top f.code) product S

            pub letp_parts : Known (length types) o.top a₁ × Known (length types) o.top a₂
            letp_parts = product_is.parts

          module _ {a₁ a₂ : Code} (product : s ≡ shape.Product a₁ a₂) {vars₂ : List ℕ} {inner : Scope} (O : Widened p types heap₁ vars₁ vars₂ sc
              o.top a₁ inner) where
            -- the second variable can be bound
            pub letp_second : inner.n < max_variables
            letp_second = omega (arith, O.one_more)

            module _ {vars₃ : List ℕ} {inner₂ : Scope} (O₂ : Widened p types heap₁ vars₂ vars₃ inner o.top a₂ inner₂)
                {heap₂ vars₄ : List ℕ} {o₂ : Out} (d₂ : Infers p types terms functions heap₁ heap₂ vars₃ vars₄ inner₂ o.top b o₂) where
              abbrev α : Ty
              α = tree_in p types heap₁ a₁

              abbrev β : Ty
              β = tree_in p types heap₁ a₂

              body_context₂ : context_in p types heap₁ vars₃ inner₂ ≡ dynamic false β ∷ dynamic false α ∷ Δ₂
              body_context₂ = O₂.context ∙ ap (λ Γ. dynamic false β ∷ Γ) (O.context ∙ ap (λ Γ. dynamic false α ∷ Γ) (context_later asked.ready d₁.kept))

              pub letp_first_known : Known (length types) o₂.top a₁
              letp_first_known = known_later d₁.kept.sources d₂.kept (letp_parts product).0

              pub letp_second_known : Known (length types) o₂.top a₂
              letp_second_known = known_later d₁.kept.sources d₂.kept (letp_parts product).1

              -- both variables are bound
              both-bound : Waited 0 vars₁ vars₃
              both-bound = waited-then O.waited O₂.waited 0 (omega arith)

              -- the body, from the start
              whole_letp : Inferred (terms_in E₂ + terms_in B₂) B₂ (waits_in (mark (λ i. true) Δ₂) E₂ ++ waits_in (dynamic false β ∷ dynamic false α ∷ Δ₂) B₂)
                  p types heap heap₂ sc.n vars vars₄ top o₂ (typing_of p types terms functions (dynamic false β ∷ dynamic false α ∷ Δ₂) B₂)
              whole_letp = earlier (says d₂ (ap (λ Γ. typing_of p types terms functions Γ B₂) body_context₂) (ap (λ Γ. waits_in Γ B₂) body_context₂)) _
                  (kept_then (terms_in E₂) (kept_then (terms_in E₂) d₁.kept (kept-opened O) (omega arith) (omega arith)) (kept-opened O₂)
                  (omega (arith, O.one_more)) (omega arith))
                  (added-after d₁.kept.waited both-bound (d₁.waits f x)) (omega (arith, O.one_more, O₂.one_more)) (omega arith)

              -- what came to wait in the body
              body_waited₂ : Waited (terms_in B₂) vars₁ vars₄
              body_waited₂ = waited-then both-bound d₂.kept.waited (terms_in B₂) (omega arith)

              body_waits₂ : (g : Found) → o₂.status ≡ Ok g → added vars₁ vars₄ ≡ waits_in (dynamic false β ∷ dynamic false α ∷ Δ₂) B₂
              body_waits₂ g y = added_then both-bound d₂.kept.waited (added-still both-bound) (d₂.waits g y) ∙ ap (λ Γ. waits_in Γ B₂) body_context₂

              abbrev Closed₂ : ℕ → ℕ → List ℕ → Found → Status → Type 0
              Closed₂ from to vars₅ = ClosesTwo p types heap₂ vars₄ vars₅ sc f.uses a₁ a₂ t from to

              letp_waits : (onward (helps (dynamics Δ₂) B₂) (marks Δ₂) (waits_in (mark (λ i. true) Δ₂) E₂)
                  ++ waits_in (dynamic false β ∷ dynamic false α ∷ Δ₂) B₂) ≡ waits_in Δ₂ T₂
              letp_waits = sym (ap (waits_in Δ₂) letp_tree ∙ waits_letp α β Δ₂ t E₂ B₂)

              -- a refusal of the body stands
              pub letp_stopped : {w : Fault} → o₂.status ≡ Err w → Infers p types terms functions heap heap₂ vars vars₄ sc top t o₂
              letp_stopped y = says (let_stops E₂ B₂ T₂ asked.ready size_letp (λ i. ap (used_in i) letp_tree) d₁.kept.waited (d₁.waits f x) body_waited₂
                  whole_letp body_waits₂ _ _ y (rule₂ ∙ good-then _ (answered d₁ x) ∙ a-product (term t) _ (product_is product)))
                  refl letp_waits

              letp_closed : {vars₅ : List ℕ} {g : Found} {st : Status} → o₂.status ≡ Ok g → Closed₂ (count_in vars) (count_in vars₁) vars₅ g st
                  → Infers p types terms functions heap heap₂ vars vars₅ sc top t (record { status = st; top = o₂.top })
              letp_closed {g = g} y C = says (let_ends E₂ B₂ T₂ asked.ready size_letp (λ i. ap (used_in i) letp_tree) d₁.kept.waited (d₁.waits f x) body_waited₂
                  whole_letp body_waits₂ (d₁.uses f x) y C
                  (λ N. ap₂ ◌&&◌
                  (spent_is p types heap₂ a₁ sc.n g.uses B₂ (omega arith) (as_many p types heap vars sc)
                  (tree_later d₁.kept.sources d₂.kept (letp_parts product).0) N)
                  (spent_is p types heap₂ a₂ (sc.n + 1) g.uses B₂ (omega arith) (omega (arith, as_many p types heap vars sc))
                  (tree_later d₁.kept.sources d₂.kept (letp_parts product).1) N))
                  (rule₂ ∙ good-then _ (answered d₁ x) ∙ a-product (term t) _ (product_is product)))
                  refl letp_waits

              -- the let's namings begin at `from` and end at `to`
              module _ {from to : ℕ} (qf : from ≡ count_in vars) (qt : to ≡ count_in vars₁) where
                pub letp_can_settle : Settleable sc vars₄ from to
                letp_can_settle = rw (qf, qt)
                    (let_settleable E₂ B₂ T₂ asked.ready size_letp (λ i. ap (used_in i) letp_tree) d₁.kept.waited (d₁.waits f x) body_waited₂ whole_letp
                    body_waits₂)

                pub letp_done : {vars₅ : List ℕ} {g : Found} {st : Status} → o₂.status ≡ Ok g
                    → ClosesTwo p types heap₂ vars₄ vars₅ sc f.uses a₁ a₂ t from to g st
                    → Infers p types terms functions heap heap₂ vars vars₅ sc top t (record { status = st; top = o₂.top })
                letp_done {vars₅} {g} {st} y C = letp_closed y (subst (λ to. Closed₂ (count_in vars) to vars₅ g st) qt
                    (subst (λ from. Closed₂ from to vars₅ g st) qf C))
