-- What a pair does: both parts, then their product.
use Prim.Native.Nat.{ℕ, suc, ◌+◌, ◌≤◌, ◌<◌}
use native.Mathlib.Omega.{arith}
use mathlib.Core.Path.{◌≡◌, refl, sym, ap, ap₂, subst, ◌∙◌}
use mathlib.Core.Bool.{◌||◌}
use mathlib.Core.List.{List, ◌++◌}
use lib.ListN.{length}
use lib.Dec.{leb}
use package.Rattle.rules.specs.Limits.{max_terms, max_nodes}
use package.Rattle.rules.specs.Ty.{Ty, prod, nodes as nodesIn}
use package.Rattle.rules.specs.Term.{Term, tpair, used_in}
use package.Rattle.rules.specs.Check.{term, good, ◌>>=◌, ◌>>◌, need, waits, waits_in, small, infer}
use package.Rattle.rules.specs.Typing.{Context}
use package.Rattle.program.specs.Parts.{first, second}
use package.Rattle.program.specs.Kinds.{pair_kind}
use package.Rattle.types.specs.Codes.{Room, tree_in, Known}
use package.Rattle.types.specs.declared.products.Pairing.{Pairing}
use package.Rattle.varsets.specs.declared.Uses.{Uses}
use package.Rattle.varsets.specs.Sets.{Holds, has, joined}
use package.Rattle.typing.specs.Contexts.{UsedBy}
use package.Rattle.typing.specs.Sizes.{terms_in}
use package.Rattle.typing.specs.Outcomes.{fault_of}
use package.Rattle.typing.specs.Ready.{term_in, context_in, typing_of, type_in, Ready, Kept, Inferred, Paired}
use package.Rattle.typing.specs.Asked.{ReadyAt, Infers}
use package.Rattle.typing.proofs.Answers.{ends-refused, ends-typed, inferred, refusing, kept_then}
use package.Rattle.typing.proofs.Answers.{kept_more, kept-formed, tree_later, known_later, need_yes}
use package.Rattle.typing.proofs.Answers.{need-no, answered, part-refused, earlier, says, good-then, ready-less, context_later, ready_later}
use package.Rattle.typing.proofs.Trees.{tree-pair, parts-pair}
use Rattle.typing.specs.declared.outcomes.Scope.{Scope}
use Rattle.typing.specs.declared.outcomes.Found.{Found}
use Rattle.typing.specs.declared.outcomes.Fault.{Fault}
use Rattle.std.specs.Prelude.{Option, Some, None, is_some, Ok, Err}
use package.Rattle.typing.specs.Outcomes.{Out}

-- the uses of two parts are those of the whole
pub named_both : (T L R : Term) {u v w : Uses} → ((i : ℕ) → used_in i T ≡ (used_in i L || used_in i R)) → UsedBy u L → UsedBy v R
    → Holds w (joined (has u) (has v)) → UsedBy w T
named_both T L R e N N' J = record { each = λ i l. J.each i l ∙ ap₂ ◌||◌ (N.each i l) (N'.each i l) ∙ sym (e i) }

module _ {p types terms functions : List ℕ} {table : List (List ℕ)} {nodes heap vars : List ℕ} {sc : Scope} {top t at : ℕ}
    (asked : ReadyAt p types terms functions table nodes heap vars sc top t at pair_kind) {l r : ℕ} (q : l ≡ first p at) (q' : r ≡ second p at) where
  abbrev L : Term
  L = term_in p types terms l

  abbrev R : Term
  R = term_in p types terms r

  paired : term_in p types terms t ≡ tpair t L R
  paired = tree-pair asked.ready.entries asked.here ∙ ap₂ (tpair t) (ap (term_in p types terms) (sym q)) (ap (term_in p types terms) (sym q'))

  size-pair : suc (terms_in L + terms_in R) ≡ terms_in (term_in p types terms t)
  unfolding terms_in
  size-pair = sym (ap terms_in paired)

  pub pair-ready : Ready (terms_in L) p types terms functions nodes heap vars sc top
  pair-ready = ready-less asked.ready _ (omega (arith, size-pair))

  pub pair_left : (l < t) × (l < length terms)
  pair_left = rw q (parts-pair asked.ready.entries asked.here).0

  pub pair-right : (r < t) × (r < length terms)
  pair-right = rw q' (parts-pair asked.ready.entries asked.here).1

  abbrev Δ : Context
  Δ = context_in p types heap vars sc

  waits-pair : waits_in Δ (term_in p types terms t) ≡ (waits_in Δ L ++ waits_in Δ R)
  unfolding waits
  waits-pair = ap (waits_in Δ) paired

  module _ {heap₁ vars₁ : List ℕ} {o : Out} (d : Infers p types terms functions heap heap₁ vars vars₁ sc top l o) where
    rule-pair : type_in p types terms functions heap vars sc t ≡ (type_in p types terms functions heap vars sc l >>= λ a.
        type_in p types terms functions heap vars sc r >>= λ b. need (leb (nodesIn (prod a b)) max_nodes) 6 (term t) >> good (prod a b))
    unfolding infer small
    rule-pair = ap (typing_of p types terms functions (context_in p types heap vars sc)) paired

    pub pair-refused : {w : Fault} → o.status ≡ Err w
        → Infers p types terms functions heap heap₁ vars vars₁ sc top t o
    pair-refused e = part-refused d _ _ e rule-pair (omega (arith, size-pair))

    pub pair_later : Ready (terms_in R) p types terms functions nodes heap₁ vars₁ sc o.top
    pair_later = ready_later asked.ready d.kept _ (omega (arith, size-pair))

    module _ {f : Found} (e : o.status ≡ Ok f) {heap₂ vars₂ : List ℕ} {o₂ : Out}
        (d₂ : Infers p types terms functions heap₁ heap₂ vars₁ vars₂ sc o.top r o₂) where
      left-kept : Known (length types) o.top f.code
      left-kept = d.known f e

      -- the left part's type, and room for a product
      pub pair_up_left : Known (length types) o₂.top f.code
      pair_up_left = known_later d.kept.sources d₂.kept left-kept

      pub pair-room : Room heap₂ (o₂.top + 1) × (o₂.top < max_terms)
      pair-room = (
        omega (arith, asked.ready.room, asked.ready.small, size-pair, d.kept.few, d₂.kept.few, d.kept.agree.lengths, d₂.kept.agree.lengths),
        omega
            (arith, asked.ready.small, size-pair, d.kept.few, d₂.kept.few),
      )

      -- both parts, from the start
      both : Inferred (terms_in L + terms_in R) R (waits_in Δ L ++ waits_in Δ R) p types heap heap₂ sc.n vars vars₂ top o₂
          (type_in p types terms functions heap vars sc r)
      both = earlier (says d₂ (ap (λ Δ. typing_of p types terms functions Δ R) (context_later asked.ready d.kept))
          (ap (λ Δ. waits_in Δ R) (context_later asked.ready d.kept)))
          _ d.kept (d.waits f e) (omega arith) (omega arith)

      abbrev a : Ty
      a = tree_in p types heap₂ f.code

      rule-right : type_in p types terms functions heap vars sc
          t ≡ (type_in p types terms functions heap vars sc r >>= λ b. need (leb (nodesIn (prod a b)) max_nodes) 6 (term t) >> good (prod a b))
      rule-right =
          rule-pair ∙ good-then _ (answered d e)
          ∙ ap (λ a. type_in p types terms functions heap vars sc r >>= λ b. need (leb (nodesIn (prod a b)) max_nodes) 6 (term t) >> good (prod a b))
          (tree_later d.kept.sources d₂.kept left-kept)

      -- a refusal of the right part stands
      pub pair-stopped : {w : Fault} → o₂.status ≡ Err w → Infers p types terms functions heap heap₂ vars vars₂ sc top t o₂
      pair-stopped y = part-refused both _ _ y rule-right (omega (arith, size-pair))

      module _ {g : Found} (e₂ : o₂.status ≡ Ok g) {heap₃ : List ℕ} {out : Out} (Q : Paired p types heap₂ heap₃ f g o₂.top t out) where
        abbrev b : Ty
        b = tree_in p types heap₂ g.code

        rule-made : type_in p types terms functions heap vars sc t ≡ (need (leb (nodesIn (prod a b)) max_nodes) 6 (term t) >> good (prod a b))
        rule-made = rule-right ∙ good-then _ (answered both e₂)

        pub pair_done : Infers p types terms functions heap heap₃ vars vars₂ sc top t out
        unfolding fault_of
        pair_done = by Q.pairing refl
          where
            by : (m : Option Pairing) → Q.pairing ≡ m → Infers p types terms functions heap heap₃ vars vars₂ sc top t out
            by (Some q) y =
                let G = Q.made.formed q y in
                let (later, J) = Q.yes q y in
                inferred
                (subst (λ x. Kept (terms_in (term_in p types terms t)) p types heap heap₃ sc.n vars vars₂ top x) (sym later)
                (kept_then _ both.kept (kept-formed sc.n vars₂ G) (omega arith)
                (let z : terms_in L + terms_in R + 1 ≤ terms_in (term_in p types terms t) = omega (arith, size-pair) in z)))
                (ends-typed J.is
                (subst (λ x. Known (length types) x J.found.code) (sym later)
                (subst (Known (length types) q.top) (sym J.code) G.known))
                (named_both (term_in p types terms t) L R (λ i. ap (used_in i) paired) (d.uses f e) (d₂.uses g e₂) J.uses)
                (rule-made ∙ need_yes _ _ _ _ (sym Q.made.answer ∙ ap is_some y) ∙ ap good (sym (ap (tree_in p types heap₃) J.code ∙ G.tree))))
                (λ h q. both.waits g e₂ ∙ sym waits-pair)
            by None y = inferred
                (subst (λ h. Kept (terms_in (term_in p types terms t)) p types heap h sc.n vars vars₂ top out.top) (sym (Q.made.old y))
                (subst (λ x. Kept (terms_in (term_in p types terms t)) p types heap heap₂ sc.n vars vars₂ top x) (sym (Q.no y).0)
                (kept_more _ both.kept (omega (arith, size-pair)))))
                (ends-refused (Q.no y).1 (rule-made ∙ need-no _ _ _ _ (sym Q.made.answer ∙ ap is_some y))) (refusing (Q.no y).1)
