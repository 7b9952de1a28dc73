-- What case does: the scrutinee, the left branch, the right branch, and the tests between them.
use Prim.Native.Nat.{ℕ, suc, ◌+◌, ◌<◌}
use native.Mathlib.Omega.{arith}
use mathlib.Core.Path.{◌≡◌, refl, sym, ap, ap₂, subst, ◌∙◌}
use mathlib.Core.Bool.{Bool, true, false, ◌&&◌, ◌||◌, false≢true}
use mathlib.Core.List.{List, ◌∷◌, ◌++◌}
use lib.ListN.{length}
use lib.Dec.{leb}
use package.Rattle.rules.specs.Limits.{max_variables}
use package.Rattle.rules.specs.Ty.{Ty, same_ty}
use package.Rattle.rules.specs.Term.{Term, tcase, used_in}
use package.Rattle.rules.specs.Typing.{dynamic, Context}
use package.Rattle.rules.specs.Check.{Naming, term, Checked, good, ◌>>=◌, ◌>>◌, need, as_sum, spent, same_use, waits_in, room, infer}
use package.Rattle.rules.proofs.Typing.Waiting.{waits_case}
use package.Rattle.program.specs.Parts.{first, second, third}
use package.Rattle.program.specs.Kinds.{case_kind}
use package.Rattle.types.specs.declared.codes.Code.{Code}
use package.Rattle.types.specs.declared.shapes.Shape.{Shape}
use package.Rattle.types.specs.declared.shapes.Shape.TheVariants as shape
use package.Rattle.types.specs.Codes.{tree_in, Known}
use package.Rattle.types.specs.Shapes.{Shaped}
use package.Rattle.types.proofs.Asked.{a_sum, no-sum}
use package.Rattle.varsets.specs.declared.Uses.{Uses}
use package.Rattle.varsets.specs.Sets.{Holds, has, joined}
use package.Rattle.typing.specs.Contexts.{UsedBy}
use package.Rattle.typing.specs.Sizes.{terms_in}
use package.Rattle.typing.specs.Asked.{ReadyAt, ReadyBranches, Infers, branch_waits, InfersBranches}
use package.Rattle.typing.specs.Outcomes.{fault_of}
use package.Rattle.typing.specs.Ready.{term_in, context_in, typing_of, type_in, branches_of, spent_by, Ready, Here, Kept, Inferred, Widened, Meets}
use package.Rattle.typing.proofs.Contexts.{same_use_iff}
use package.Rattle.typing.proofs.Answers.{Ends, ends-refused, ends-typed, inferred, refusing, kept_then, kept_more, kept-opened, tree_later, known_later}
use package.Rattle.typing.proofs.Answers.{stopped, need_yes, need-no, answered, part-refused, earlier, part-tested, says, good-then, ready-less}
use package.Rattle.typing.proofs.Answers.{context_later, ready_later}
use package.Rattle.typing.proofs.Trees.{tree_case, parts_case}
use package.Rattle.typing.proofs.Waiting.{added-still, added-after}
use package.Rattle.typing.proofs.Closing.{as_many, fits, over, spent_is}
use Rattle.typing.specs.declared.outcomes.Scope.{Scope}
use Rattle.typing.specs.declared.outcomes.Found.{Found}
use Rattle.typing.specs.declared.outcomes.Fault.{Fault}
use Rattle.typing.specs.declared.outcomes.Fault.TheVariants.{Differ, Unscoped, Misused}
use Rattle.std.specs.Prelude.{Ok, Err}
use package.Rattle.typing.specs.Outcomes.{Status, Out}

----------------------------------------------------------------
-- The scrutinee

module _ {p types terms functions : List ℕ} {table : List (List ℕ)} {nodes heap vars : List ℕ} {sc : Scope} {top t at : ℕ}
    (asked : ReadyAt p types terms functions table nodes heap vars sc top t at case_kind) where
  abbrev goal : Checked Ty
  goal = type_in p types terms functions heap vars sc t

  abbrev Δ : Context
  Δ = context_in p types heap vars sc

  abbrev B : Term
  B = term_in p types terms (second p at)

  abbrev B' : Term
  B' = term_in p types terms (third p at)

  -- the rule, over the parts
  rule_case : (e : ℕ) → e ≡ first p at → goal ≡ (need (leb (1 + length Δ) max_variables) 7 (term t) >> (type_in p types terms functions heap vars sc e >>= λ τ.
      as_sum (term t) τ λ c d. branches_of p types terms functions Δ t B B' c d))
  unfolding infer room
  rule_case e q = ap (typing_of p types terms functions Δ) (tree_case asked.ready.entries asked.here ∙ ap (λ e. tcase t e B B') (ap (term_in p types terms) (sym q)))

  pub case_full : {r : Out} → sc.n ≡ max_variables → r.status ≡ Err (Unscoped t) → r.top ≡ top
      → Infers p types terms functions heap heap vars vars sc top t r
  unfolding fault_of
  case_full x s z = stopped _ sc.n vars asked.ready.scoped.sources s z
      (rule_case _ refl ∙ need-no _ _ _ _ (over 1 sc.n (as_many p types heap vars sc) (omega arith)))

  module _ (free : ¬ (sc.n ≡ max_variables)) {e : ℕ} (q : e ≡ first p at) where
    abbrev E : Term
    E = term_in p types terms e

    pub case_free : sc.n < max_variables
    case_free = omega (arith, asked.ready.scoped.few)

    size_case : suc (terms_in E + (terms_in B + terms_in B')) ≡ terms_in (term_in p types terms t)
    unfolding terms_in
    size_case = sym (ap terms_in (tree_case asked.ready.entries asked.here ∙ ap (λ e. tcase t e B B') (ap (term_in p types terms) (sym q))))

    rule : goal ≡ (type_in p types terms functions heap vars sc e >>= λ τ. as_sum (term t) τ λ c d. branches_of p types terms functions Δ t B B' c d)
    rule = rule_case e q ∙ need_yes _ _ _ _ (fits 1 sc.n (as_many p types heap vars sc) (omega (arith, case_free)))

    pub case_ready : Ready (terms_in E) p types terms functions nodes heap vars sc top
    case_ready = ready-less asked.ready _ (omega (arith, size_case))

    pub case_part : (e < t) × (e < length terms)
    case_part = rw q (parts_case asked.ready.entries asked.here).0

    waits_is : (c d : Ty) → waits_in Δ (term_in p types terms t) ≡ (waits_in Δ E ++ branch_waits Δ B B' c d)
    waits_is c d = ap (waits_in Δ) (tree_case asked.ready.entries asked.here ∙ ap (λ e. tcase t e B B') (ap (term_in p types terms) (sym q))) ∙ waits_case c d Δ t E B B'

    module _ {heap₁ vars₁ : List ℕ} {o : Out} (d : Infers p types terms functions heap heap₁ vars vars₁ sc top e o) where
      pub case_refused : {w : Fault} → o.status ≡ Err w
          → Infers p types terms functions heap heap₁ vars vars₁ sc top t o
      case_refused x = part-refused d _ _ x rule (omega (arith, size_case))

      pub case_later : Ready (terms_in B + terms_in B') p types terms functions nodes heap₁ vars₁ sc o.top
      case_later = ready_later asked.ready d.kept _ (omega (arith, size_case))

      module _ {f : Found} (x : o.status ≡ Ok f) {s : Shape} (S : Shaped p types heap₁ o.top f.code s) where
        -- the scrutinee's uses
        pub case_named : UsedBy f.uses (term_in p types terms (first p at))
        case_named = subst (λ e. UsedBy f.uses (term_in p types terms e)) q (d.uses f x)

        pub case_no : {r : Out} → ((a b : Code) → ¬ (s ≡ shape.Sum a b)) → r.status ≡ Err (Differ t) → r.top ≡ o.top
            → Infers p types terms functions heap heap₁ vars vars₁ sc top t r
        unfolding fault_of
        case_no n y z = inferred
            (subst (λ u. Kept (terms_in (term_in p types terms t)) p types heap heap₁ sc.n vars vars₁ top u) (sym z)
            (kept_more _ d.kept (omega (arith, size_case))))
            (ends-refused y (rule ∙ good-then _ (answered d x) ∙ no-sum S (term t) _ n)) (refusing y)

        case_shaped : {a b : Code} → s ≡ shape.Sum a b → Shaped p types heap₁ o.top f.code (shape.Sum a b)
        case_shaped k = subst (Shaped p types heap₁ o.top f.code) k S

        pub case_parts : {a b : Code} → s ≡ shape.Sum a b → Known (length types) o.top a × Known (length types) o.top b
        case_parts k = (case_shaped k).parts

        pub case_done : {c d : Code} → s ≡ shape.Sum c d → {heap₂ vars₂ : List ℕ} {out : Out}
            → InfersBranches p types terms functions heap₁ heap₂ vars₁ vars₂ sc o.top t at c d out
            → Infers p types terms functions heap heap₂ vars vars₂ sc top t out
        case_done {c = c₁} {d = c₂} k b = says (earlier (says b
            (ap (λ Γ. branches_of p types terms functions Γ t B B' α β) (context_later asked.ready d.kept)
            ∙ sym (rule ∙ good-then _ (answered d x) ∙ a_sum (term t) _ (case_shaped k)))
            (ap (λ Γ. branch_waits Γ B B' α β) (context_later asked.ready d.kept))) _ d.kept (d.waits f x) (omega arith) (omega (arith, size_case)))
            refl (sym (waits_is α β))
          where
            α : Ty
            α = tree_in p types heap₁ c₁

            β : Ty
            β = tree_in p types heap₁ c₂

----------------------------------------------------------------
-- The branches

module _ {p types terms functions : List ℕ} {table : List (List ℕ)} {nodes heap vars : List ℕ} {sc : Scope} {top t at : ℕ} {u : Uses} {c d : Code}
    (asked : ReadyBranches p types terms functions table nodes heap vars sc top t at u c d) {l r : ℕ} (q : l ≡ second p at) (q' : r ≡ third p at) where
  abbrev rd : Ready (terms_in (term_in p types terms (second p at)) + terms_in (term_in p types terms (third p at)))
      p types terms functions nodes heap vars sc top
  rd = asked.ready

  abbrev H : Here p terms t at case_kind
  H = asked.here

  abbrev free : sc.n < max_variables
  free = asked.free

  abbrev K : Known (length types) top c
  K = asked.left

  abbrev K' : Known (length types) top d
  K' = asked.right

  abbrev scrutinee-uses : UsedBy u (term_in p types terms (first p at))
  scrutinee-uses = asked.used

  abbrev L : Term
  L = term_in p types terms l

  abbrev R : Term
  R = term_in p types terms r

  abbrev Γ : Context
  Γ = context_in p types heap vars sc

  abbrev γ : Ty
  γ = tree_in p types heap c

  abbrev δ : Ty
  δ = tree_in p types heap d

  abbrev size : ℕ
  size = terms_in (term_in p types terms (second p at)) + terms_in (term_in p types terms (third p at))

  abbrev aim : Checked Ty
  aim = branches_of p types terms functions Γ t (term_in p types terms (second p at)) (term_in p types terms (third p at)) γ δ

  size_is : terms_in L + terms_in R ≡ size
  size_is = ap₂ (λ l r. terms_in (term_in p types terms l) + terms_in (term_in p types terms r)) q q'

  aim_is : aim ≡ branches_of p types terms functions Γ t L R γ δ
  aim_is = ap₂ (λ l r. branches_of p types terms functions Γ t (term_in p types terms l) (term_in p types terms r) γ δ) (sym q) (sym q')

  abbrev both_wait : List Naming
  both_wait = branch_waits Γ (term_in p types terms (second p at)) (term_in p types terms (third p at)) γ δ

  waits_are : branch_waits Γ L R γ δ ≡ both_wait
  waits_are = ap₂ (λ l r. branch_waits Γ (term_in p types terms l) (term_in p types terms r) γ δ) q q'

  pub left-part : (l < t) × (l < length terms)
  left-part = rw q (parts_case rd.entries H).1

  pub right-part : (r < t) × (r < length terms)
  right-part = rw q' (parts_case rd.entries H).2

  pub left-ready : Ready (terms_in L) p types terms functions nodes heap vars sc top
  left-ready = ready-less rd _ (omega (arith, size_is))

  module _ {vars₁ : List ℕ} {inner : Scope} (O : Widened p types heap vars vars₁ sc top c inner)
      {heap₁ vars₂ : List ℕ} {o : Out} (D : Infers p types terms functions heap heap₁ vars₁ vars₂ inner top l o) where
    -- the left branch, from the start
    left_whole : Inferred (terms_in L) L (waits_in (dynamic false γ ∷ Γ) L) p types heap heap₁ sc.n vars vars₂ top o
        (typing_of p types terms functions (dynamic false γ ∷ Γ) L)
    left_whole = earlier (says D (ap (λ Δ. typing_of p types terms functions Δ L) O.context) (ap (λ Δ. waits_in Δ L) O.context)) _
        (kept-opened O) (added-still O.waited) (omega (arith, O.one_more)) (omega arith)

    pub left-refused : {w : Fault} → o.status ≡ Err w → InfersBranches p types terms functions heap heap₁ vars vars₂ sc top t at c d o
    left-refused x = part-refused left_whole _ _ x aim_is (omega (arith, size_is))

    pub left-known : Known (length types) o.top c
    left-known = known_later rd.scoped.sources left_whole.kept K

    -- what the right branch asks for
    pub right_later : Ready (terms_in R) p types terms functions nodes heap₁ vars₂ sc o.top
    right_later = ready_later rd left_whole.kept _ (omega (arith, size_is))

    pub right-known : Known (length types) o.top d
    right-known = known_later rd.scoped.sources left_whole.kept K'

    module _ {f : Found} (x : o.status ≡ Ok f) {b : Bool} (y : b ≡ spent_by p types heap₁ c sc.n f.uses) where
      abbrev τ : Ty
      τ = tree_in p types heap₁ f.code

      left-spent : b ≡ spent (length Γ) γ L
      left-spent = y ∙ spent_is p types heap₁ c sc.n f.uses L free (as_many p types heap vars sc)
          (tree_later rd.scoped.sources left_whole.kept K) (D.uses f x)

      aim-left : aim ≡ (need (spent (length Γ) γ L) 8 (term t) >> (typing_of p types terms functions (dynamic false δ ∷ Γ) R >>= λ τ'.
          need (same_ty τ τ') 6 (term t) >> (need (spent (length Γ) δ R && same_use Γ L R) 8 (term t) >> good τ)))
      aim-left = aim_is ∙ good-then _ (answered left_whole x)

      pub left-unused : {out : Out} → b ≡ false → out.status ≡ Err (Misused t) → out.top ≡ o.top
          → InfersBranches p types terms functions heap heap₁ vars vars₂ sc top t at c d out
      unfolding fault_of
      left-unused n s z = inferred
          (subst (λ v. Kept size p types heap heap₁ sc.n vars vars₂ top v) (sym z) (kept_more size left_whole.kept (omega (arith, size_is))))
          (ends-refused s (aim-left ∙ need-no _ _ _ _ (sym left-spent ∙ n))) (refusing s)

      module _ (yes : b ≡ true) {vars₃ : List ℕ} {inner₂ : Scope} (O₂ : Widened p types heap₁ vars₂ vars₃ sc o.top d inner₂)
          {heap₂ vars₄ : List ℕ} {o₂ : Out} (D₂ : Infers p types terms functions heap₁ heap₂ vars₃ vars₄ inner₂ o.top r o₂) where
        right-context : context_in p types heap₁ vars₃ inner₂ ≡ dynamic false δ ∷ Γ
        right-context = O₂.context
            ∙ ap₂ (λ τ Δ. dynamic false τ ∷ Δ) (sym (tree_later rd.scoped.sources left_whole.kept K')) (context_later rd left_whole.kept)

        -- the right branch, from the start
        right_whole : Inferred size R both_wait p types heap heap₂ sc.n vars vars₄ top o₂ (typing_of p types terms functions (dynamic false δ ∷ Γ) R)
        right_whole = says (earlier (says D₂ (ap (λ Δ. typing_of p types terms functions Δ R) right-context) (ap (λ Δ. waits_in Δ R) right-context)) size
            (kept_then (terms_in L) left_whole.kept (kept-opened O₂) (omega arith) (omega arith))
            (added-after left_whole.kept.waited O₂.waited (left_whole.waits f x)) (omega (arith, O₂.one_more)) (omega (arith, size_is)))
            refl waits_are

        -- known where both meet
        pub meet_left : Known (length types) o₂.top f.code
        meet_left = known_later D.kept.sources D₂.kept (D.known f x)

        pub meet-bound : Known (length types) o₂.top d
        meet-bound = known_later D.kept.sources D₂.kept right-known

        next : Ty → Checked Ty
        next τ' = need (same_ty τ τ') 6 (term t) >> (need (spent (length Γ) δ R && same_use Γ L R) 8 (term t) >> good τ)

        aim-right : aim ≡ (typing_of p types terms functions (dynamic false δ ∷ Γ) R >>= next)
        unfolding next
        aim-right = aim-left ∙ need_yes _ _ _ _ (sym left-spent ∙ yes)

        pub right-refused : {w : Fault} → o₂.status ≡ Err w → InfersBranches p types terms functions heap heap₂ vars vars₄ sc top t at c d o₂
        right-refused z = part-refused right_whole size next z aim-right (omega arith)

        module _ {g : Found} (z : o₂.status ≡ Ok g) {s : Status} (P : Meets p types heap₂ f u sc.n d sc.owed t g s) where
          N : UsedBy g.uses R
          N = D₂.uses g z

          abbrev Met : Type 0
          Met = Ends (term_in p types terms t) p types heap₂ o₂.top s (next (tree_in p types heap₂ g.code))

          τ-later : τ ≡ tree_in p types heap₂ f.code
          τ-later = tree_later D.kept.sources D₂.kept (D.known f x)

          abbrev alike : Bool
          alike = same_ty (tree_in p types heap₂ f.code) (tree_in p types heap₂ g.code)

          alike_is : same_ty τ (tree_in p types heap₂ g.code) ≡ alike
          alike_is = ap (λ τ. same_ty τ (tree_in p types heap₂ g.code)) τ-later

          used_is : spent_by p types heap₂ d sc.n g.uses ≡ spent (length Γ) δ R
          used_is = spent_is p types heap₂ d sc.n g.uses R free (as_many p types heap vars sc)
              (tree_later rd.scoped.sources right_whole.kept K') N

          -- the uses of case
          case_uses : {v : Uses} → Holds v (joined (has u) (joined (has f.uses) (has g.uses))) → UsedBy v (term_in p types terms t)
          case_uses J = record {
            each = λ i h. J.each i h ∙ ap₂ ◌||◌ (scrutinee-uses.each i h) (ap₂ ◌||◌ ((D.uses f x).each i h) (N.each i h))
                ∙ sym (ap (used_in i) (tree_case rd.entries H
                ∙ ap₂ (λ l r. tcase t (term_in p types terms (first p at)) (term_in p types terms l) (term_in p types terms r)) (sym q) (sym q')));
          }

          met-both : alike ≡ true → spent_by p types heap₂ d sc.n g.uses ≡ true → (v : Bool) → same_use Γ L R ≡ v → Met
          unfolding fault_of next
          met-both a m true w =
              let U = P.both a m ((same_use_iff Γ L R f.uses g.uses sc.owed (omega (arith, as_many p types heap vars sc)) (D.uses f x) N
              rd.scoped.owed).0 w) in
              ends-typed U.is (subst (Known (length types) o₂.top) (sym U.code) meet_left) (case_uses U.uses)
              (need_yes _ _ _ _ (alike_is ∙ a) ∙ need_yes _ _ _ _ (ap₂ ◌&&◌ (sym used_is ∙ m) w)
              ∙ ap good (τ-later ∙ ap (tree_in p types heap₂) (sym U.code)))
          met-both a m false w = ends-refused
              (P.apart a λ z. false≢true (sym w ∙ (same_use_iff Γ L R f.uses g.uses sc.owed (omega (arith, as_many p types heap vars sc))
              (D.uses f x) N rd.scoped.owed).1 z))
              (need_yes _ _ _ _ (alike_is ∙ a) ∙ need-no _ _ _ _ (ap₂ ◌&&◌ (sym used_is ∙ m) w))

          met-alike : alike ≡ true → (v : Bool) → spent_by p types heap₂ d sc.n g.uses ≡ v → Met
          unfolding fault_of next
          met-alike a true m = met-both a m (same_use Γ L R) refl
          met-alike a false m = ends-refused (P.unused a m)
              (need_yes _ _ _ _ (alike_is ∙ a) ∙ need-no _ _ _ _ (ap (λ v. v && same_use Γ L R) (sym used_is ∙ m)))

          met : (v : Bool) → alike ≡ v → Met
          unfolding fault_of next
          met true a = met-alike a (spent_by p types heap₂ d sc.n g.uses) refl
          met false a = ends-refused (P.differ a) (need-no _ _ _ _ (alike_is ∙ a))

          pub branches_done : InfersBranches p types terms functions heap heap₂ vars vars₄ sc top t at c d (record { status = s; top = o₂.top })
          branches_done = part-tested right_whole size next z aim-right (omega arith)
              (met (same_ty (tree_in p types heap₂ f.code) (tree_in p types heap₂ g.code)) refl)
