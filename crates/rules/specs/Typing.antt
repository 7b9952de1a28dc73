-- The typing rules: Fig. 3 and 4 of the source by their names, as section 3 reads them.
--
-- Design choices:
-- * The source's static context Σ and what may be named at all are one list of bindings, Δ, the newest first; its dynamic
--   context Γ, the dynamic variables that a term uses up, is a set of variables, U.
-- * T-UNIT-ELM is narrowed (section 3): it drops one dynamic variable whose type is exactly unit, and no other expression.
-- * T-SUM splits by union, as let does, and both branches have one set: what differs between them is unit, by T-UNIT-ELM.
-- * T-APP2: an ancilla argument has the static context and its own variables. Dynamic variables bound outside it are barred there:
--   they are counted in scope, and can be named only if they are marked. T-LET1 and T-LET2 mark, in the bound term, the dynamic
--   variables that the body uses (02, F-2); T-VAR3 names a marked variable, which is no use of it.
-- * Section 1's limits, on variables in scope and on the nodes of a type, are side conditions of the rules that meet them.
use Rattle.std.specs.Prelude.{ℕ, suc, ◌≤◌, ◌≡◌, Bool, true, false, ◌||◌, List, [], ◌∷◌, length, eqb}
use Rattle.std.proofs.Math.Option.{some}
use package.Rattle.rules.specs.Ty.{Ty, one, prod, sum, mu, unfold_ty, nodes}
use package.Rattle.rules.specs.Term.{Term, Terms, var, tunit, tinl, tinr, tpair, tlet, tletp, tcase}
use package.Rattle.rules.specs.Term.{tcall, troll, tunroll, end, more, Fun, Program, nth, look, used_in}

----------------------------------------------------------------
-- Contexts

-- How a variable stands in scope: an ancilla parameter; a dynamic variable; a dynamic variable bound outside the ancilla
-- argument at hand. Of the last two, the mark tells whether an ancilla argument may name it; to the typing function (Check), which
-- types a let's bound term before its body, whether a let could help.
pub data Binding : Type 0 where
  static : Ty → Binding
  dynamic barred : Bool → Ty → Binding

abbrev pub Context : Type 0
Context = List Binding

-- what an ancilla argument sees of a binding
unfoldable pub bar_one : Binding → Binding
bar_one (static c) = static c
bar_one (dynamic m c) = barred m c
bar_one (barred m c) = barred m c

unfoldable pub bar : Context → Context
unfolding bar_one
bar [] = []
bar (x ∷ Δ) = bar_one x ∷ bar Δ

----------------------------------------------------------------
-- Sets of variables

abbrev pub Vars : Type 0
Vars = ℕ → Bool

abbrev pub ∅ : Vars
∅ = λ i. false

-- the set of `i` alone
abbrev pub only : ℕ → Vars
only i = λ j. eqb j i

infixl 60 ◌∪◌
abbrev pub ◌∪◌ : Vars → Vars → Vars
U ∪ U' = λ i. U i || U' i

----------------------------------------------------------------
-- Marks

-- a binding in the bound term of a let, whose body uses the variable or not
unfoldable pub mark_one : Bool → Binding → Binding
mark_one u (static c) = static c
mark_one u (dynamic m c) = dynamic (m || u) c
mark_one u (barred m c) = barred m c

-- the context of the bound term of a let whose body uses the variables of `N`
unfoldable pub mark : Vars → Context → Context
unfolding mark_one
mark N [] = []
mark N (x ∷ Δ) = mark_one (N (length Δ)) x ∷ mark N Δ

----------------------------------------------------------------
-- Expressions: Fig. 3

-- What is typed: an expression e : τ, or a call's ancilla arguments in order, each with its type.
infix 50 ◌∶◌
pub data Subject : Type 0 where
  ◌∶◌ : Term → Ty → Subject
  arguments : Terms → List Ty → Subject

-- `variables` may be in scope, and a type may have `most` nodes.
module _ (variables most : ℕ) (P : Program) where
  -- Δ; U ⊢ subject
  pub data Types : Context → Vars → Subject → Type 0 where
    t_var1 : {k i : ℕ} {Δ : Context} {τ : Ty} → look Δ i ≡ some (static τ) → Types Δ ∅ (var k i ∶ τ)
    t_var2 : {k i : ℕ} {Δ : Context} {m : Bool} {τ : Ty} → look Δ i ≡ some (dynamic m τ) → Types Δ (only i) (var k i ∶ τ)
    -- a naming, which is no use (02, F-2; not a rule of the source)
    t_var3 : {k i : ℕ} {Δ : Context} {τ : Ty} → look Δ i ≡ some (barred true τ) → Types Δ ∅ (var k i ∶ τ)
    t_unit : {k : ℕ} {Δ : Context} → Types Δ ∅ (tunit k ∶ one)
    t_unit_elm : {Δ : Context} {U : Vars} {m : Bool} {e : Term} {τ : Ty} (i : ℕ)
        → look Δ i ≡ some (dynamic m one) → Types Δ U (e ∶ τ) → Types Δ (U ∪ only i) (e ∶ τ)
    t_inl : {k : ℕ} {Δ : Context} {U : Vars} {e : Term} {τ τ' : Ty} → Types Δ U (e ∶ τ) → Types Δ U (tinl k (sum τ τ') e ∶ sum τ τ')
    t_inr : {k : ℕ} {Δ : Context} {U : Vars} {e : Term} {τ τ' : Ty} → Types Δ U (e ∶ τ') → Types Δ U (tinr k (sum τ τ') e ∶ sum τ τ')
    t_prod : {k : ℕ} {Δ : Context} {U U' : Vars} {e e' : Term} {τ τ' : Ty}
        → Types Δ U (e ∶ τ) → Types Δ U' (e' ∶ τ') → nodes (prod τ τ') ≤ most → Types Δ (U ∪ U') (tpair k e e' ∶ prod τ τ')
    t_let1 : {k : ℕ} {Δ : Context} {U : Vars} {e b : Term} {τ τ' : Ty} (U' : Vars) → suc (length Δ) ≤ variables
        → Types (mark (λ i. used_in i b) Δ) U (e ∶ τ') → Types (dynamic false τ' ∷ Δ) (U' ∪ only (length Δ)) (b ∶ τ) → U' (length Δ) ≡ false
        → Types Δ (U ∪ U') (tlet k e b ∶ τ)
    t_let2 : {k : ℕ} {Δ : Context} {U : Vars} {e b : Term} {τ τ' τ'' : Ty} (U' : Vars) → suc (suc (length Δ)) ≤ variables
        → Types (mark (λ i. used_in i b) Δ) U (e ∶ prod τ' τ'')
        → Types (dynamic false τ'' ∷ dynamic false τ' ∷ Δ) (U' ∪ only (length Δ) ∪ only (suc (length Δ))) (b ∶ τ)
        → U' (length Δ) ≡ false → U' (suc (length Δ)) ≡ false → Types Δ (U ∪ U') (tletp k e b ∶ τ)
    t_sum : {k : ℕ} {Δ : Context} {U : Vars} {e b b' : Term} {τ τ' τ'' : Ty} (U' : Vars) → suc (length Δ) ≤ variables
        → Types Δ U (e ∶ sum τ' τ'') → Types (dynamic false τ' ∷ Δ) (U' ∪ only (length Δ)) (b ∶ τ)
        → Types (dynamic false τ'' ∷ Δ) (U' ∪ only (length Δ)) (b' ∶ τ) → U' (length Δ) ≡ false → Types Δ (U ∪ U') (tcase k e b b' ∶ τ)
    -- a function applied to its ancilla arguments, then to the dynamic one
    t_app1 : {k g : ℕ} {Δ : Context} {U : Vars} {ts : Terms} {e : Term} {h : Fun} → nth P g ≡ some h
        → Types (bar Δ) ∅ (arguments ts h.ancillae) → Types Δ U (e ∶ h.dynamic) → Types Δ U (tcall k g ts e ∶ h.result)
    t_app2 : {Δ : Context} {t : Term} {ts : Terms} {τ : Ty} {τs : List Ty}
        → Types Δ ∅ (t ∶ τ) → Types Δ ∅ (arguments ts τs) → Types Δ ∅ (arguments (more t ts) (τ ∷ τs))
    t_app2_end : {Δ : Context} → Types Δ ∅ (arguments end [])
    t_roll : {k : ℕ} {Δ : Context} {U : Vars} {e : Term} {τ : Ty} → Types Δ U (e ∶ unfold_ty τ) → Types Δ U (troll k (mu τ) e ∶ mu τ)
    t_unroll : {k : ℕ} {Δ : Context} {U : Vars} {e : Term} {τ : Ty}
        → Types Δ U (e ∶ mu τ) → nodes (unfold_ty τ) ≤ most → Types Δ U (tunroll k (mu τ) e ∶ unfold_ty τ)

  ----------------------------------------------------------------
  -- Functions: Fig. 4

  -- Σ ⊩ a function with these ancilla parameters still to come, then a dynamic one of type τ, result τ' and this body
  pub data Declares : Context → List Ty → Ty → Ty → Term → Type 0 where
    t_fun1 : {Δ : Context} {c τ τ' : Ty} {cs : List Ty} {b : Term} → Declares (static c ∷ Δ) cs τ τ' b → Declares Δ (c ∷ cs) τ τ' b
    t_fun2 : {Δ : Context} {τ τ' : Ty} {b : Term} → Types (dynamic false τ ∷ Δ) (only (length Δ)) (b ∶ τ') → Declares Δ [] τ τ' b

  -- every function is typed, with the signatures of all at hand
  abbrev pub WellTyped : Type 0
  WellTyped = (g : ℕ) (h : Fun) → nth P g ≡ some h → Declares [] h.ancillae h.dynamic h.result h.body
