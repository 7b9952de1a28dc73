-- What is claimed of the rules, as propositions; proofs/Theorems has a proof of each under the same name.
-- Limits are parameters: `variables` in scope, `most` nodes of a type, `fits` of a value, height `r`, fuel `f`.
use Rattle.std.specs.Prelude.{ℕ, ◌+◌, ◌≤◌, ◌≡◌, Bool, true, false, ◌||◌, List, [], ◌∷◌, ◌++◌, ◌⊎◌, ◌↔◌}
use Rattle.std.proofs.Math.Option.{some}
use package.Rattle.rules.specs.Val.{Val}
use package.Rattle.rules.specs.Ty.{Ty, is_unit, HasTy, HasTys}
use package.Rattle.rules.specs.Term.{Term, var, tcase, Fun, Program, nth, look, scope, used_in, chooses_in}
use package.Rattle.rules.specs.Yield.{may_yield}
use package.Rattle.rules.specs.Rules.{Ev}
use package.Rattle.rules.specs.Typing.{dynamic, Context, Vars, bar, mark, Types, ◌∶◌, WellTyped}
use package.Rattle.rules.specs.Check.{good, infer, check}
use package.Rattle.rules.specs.Run.{ok, stop, stuck, Run}
use package.Rattle.rules.specs.Machine.{run_forward, run_backward}

----------------------------------------------------------------
-- Typing

module _ (variables most : ℕ) (P : Program) where
  -- The typing function accepts exactly the programs that the rules type within the limits.
  abbrev pub TreeCheckIffTyped : Type 0
  TreeCheckIffTyped = (check variables most P ≡ good tt) ↔ WellTyped variables most P

  -- It gives a term a type exactly if the rules do, for some set of dynamic variables.
  abbrev pub InferIffTypes : Type 0
  InferIffTypes = (Δ : Context) (t : Term) (τ : Ty) → (infer variables most P Δ t ≡ good τ) ↔ ((U : Vars) × Types variables most P Δ U (t ∶ τ))

  -- A term has one type.
  abbrev pub TypeUnique : Type 0
  TypeUnique = (Δ : Context) (U U' : Vars) (t : Term) (τ τ' : Ty)
      → Types variables most P Δ U (t ∶ τ) → Types variables most P Δ U' (t ∶ τ') → τ ≡ τ'

  -- Section 3: both branches of a case use the same outer dynamic variables, but for units.
  abbrev pub BranchesUseTheSame : Type 0
  BranchesUseTheSame = (Δ : Context) (U : Vars) (m : Bool) (k i : ℕ) (e b b' : Term) (τ c : Ty) → Types variables most P Δ U (tcase k e b b' ∶ τ)
      → look Δ i ≡ some (dynamic m c) → is_unit c ≡ false → used_in i b ≡ used_in i b'

  -- Document 02, F-2: in the bound term of a let with body `b`, with no let between, an ancilla argument may name a dynamic variable exactly if
  -- the body uses it, or if one might name it already, because a let further out helps.
  abbrev pub NamedWhereUsed : Type 0
  NamedWhereUsed = (Δ : Context) (m : Bool) (k i : ℕ) (b : Term) (τ : Ty) → look Δ i ≡ some (dynamic m τ)
      → ((U : Vars) × Types variables most P (bar (mark (λ j. used_in j b) Δ)) U (var k i ∶ τ)) ↔ ((m || used_in i b) ≡ true)

----------------------------------------------------------------
-- Runs

-- The rules carry input `v` of function `h`, with ancillae `vs`, to `w` in `n` steps, at height at most `r`, within `fits`.
abbrev pub Carries : (Val → Bool) → Program → ℕ → Fun → List Val → Val → Val → ℕ → Type 0
Carries fits P r h vs v w n = Ev fits P r (scope vs []) (v ∷ scope vs []) h.body w n

-- one limit on values is no stricter than another
abbrev pub Wider : (Val → Bool) → (Val → Bool) → Type 0
Wider fits fits' = (v : Val) → fits v ≡ true → fits' v ≡ true

module _ (P : Program) where
  -- Forward answers `w` with `g` of its fuel left exactly if the rules carry the input to `w` in the steps between.
  abbrev pub TreeForwardIffRules : Type 0
  TreeForwardIffRules = (fits : Val → Bool) (r : ℕ) (h : Fun) (vs : List Val) (v w : Val) (f g : ℕ)
      → (run_forward fits P r h vs v f ≡ ok w g) ↔ ((n : ℕ) × Carries fits P r h vs v w n × (f ≡ n + g))

  -- The source's Theorem 1: what a term yields, it may yield. In scope are the ancilla parameters' values `a` and newer ones `vs`.
  abbrev pub Theorem1 : Type 0
  Theorem1 = (fits : Val → Bool) (r : ℕ) (a vs : List Val) (t : Term) (v : Val) (n : ℕ) → Ev fits P r a (vs ++ a) t v n → may_yield a t v ≡ true

  -- Refusal 15 forward: the rules yield nothing, at any height or size.
  abbrev pub TreeNoValue : Type 0
  TreeNoValue = (fits fits' : Val → Bool) (r r' : ℕ) (h : Fun) (vs : List Val) (v w : Val) (f k n : ℕ)
      → run_forward fits P r h vs v f ≡ stop 15 k → Carries fits' P r' h vs v w n → ⊥

  -- More fuel, height or size never changes an answer, forward or backward: neither a value with its steps, nor 15, nor 16.
  abbrev pub Steady : ((Val → Bool) → ℕ → Run Val) → Type 0
  Steady run = (fits fits' : Val → Bool) (r r' f d : ℕ) → Wider fits fits' → r ≤ r'
      → ((w : Val) (g : ℕ) → run fits r f ≡ ok w g → run fits' r' (f + d) ≡ ok w (g + d))
      × ((c k : ℕ) → (c ≡ 15) ⊎ (c ≡ 16) → run fits r f ≡ stop c k → run fits' r' (f + d) ≡ stop c k)

  abbrev pub TreeMoreNeverChanges : Type 0
  TreeMoreNeverChanges = (h : Fun) (vs : List Val) (v : Val)
      → Steady (λ fits r. run_forward fits P r h vs v) × Steady (λ fits r. run_backward fits P r h vs v)

  -- Steps depend on neither fuel nor limits: two runs forward that answer give one value in equally many steps.
  abbrev pub StepsAreTheRules : Type 0
  StepsAreTheRules = (fits fits' : Val → Bool) (r r' : ℕ) (h : Fun) (vs : List Val) (v w w' : Val) (f f' g g' : ℕ)
      → run_forward fits P r h vs v f ≡ ok w g → run_forward fits' P r' h vs v f' ≡ ok w' g' → (w ≡ w') × (f + g' ≡ f' + g)

----------------------------------------------------------------
-- Runs of typed programs

-- All the cases of the program that have entry number `k` choose by an ancilla (02, F-3).
abbrev pub ChoosesAt : Program → ℕ → Type 0
ChoosesAt P k = (j : ℕ) (h : Fun) → nth P j ≡ some h → chooses_in k h ≡ true

module _ (variables most : ℕ) (P : Program) where
  -- A claim of every function `h` of a well-typed program, with ancillae `vs` of their types.
  abbrev pub OfTyped : (Fun → List Val → Type 0) → Type 0
  OfTyped C = WellTyped variables most P → (j : ℕ) (h : Fun) → nth P j ≡ some h → (vs : List Val) → HasTys vs h.ancillae → C h vs

  -- What backward answers, forward carries to the value, in the same steps, with the same fuel and limits: half of
  -- TreeBackwardIffForward, kept by its name. Since F-2 it asks for typing: in a program that is not typed, what an ancilla argument names
  -- may come back later than it is read, and otherwise (Cases, `stray`), and so may a unit of a value that is not of the result type.
  abbrev pub BackwardThenForward : Type 0
  BackwardThenForward = OfTyped λ h vs. (fits : Val → Bool) (r : ℕ) (v w : Val) (f g : ℕ) → HasTy w h.result
      → run_backward fits P r h vs w f ≡ ok v g → run_forward fits P r h vs v f ≡ ok w g

  -- Demand 2: backward gives an input, with `g` of its fuel left, exactly if the rules carry it to the value in the steps between.
  abbrev pub TreeBackwardIffRules : Type 0
  TreeBackwardIffRules = OfTyped λ h vs. (fits : Val → Bool) (r : ℕ) (v w : Val) (f g : ℕ) → HasTy w h.result
      → (run_backward fits P r h vs w f ≡ ok v g) ↔ (HasTy v h.dynamic × ((n : ℕ) × Carries fits P r h vs v w n × (f ≡ n + g)))

  -- So it gives an input if and only if forward carries it to the value, same steps, same fuel and limits.
  abbrev pub TreeBackwardIffForward : Type 0
  TreeBackwardIffForward = OfTyped λ h vs. (fits : Val → Bool) (r : ℕ) (v w : Val) (f g : ℕ) → HasTy w h.result
      → (run_backward fits P r h vs w f ≡ ok v g) ↔ (HasTy v h.dynamic × (run_forward fits P r h vs v f ≡ ok w g))

  -- Two inputs never share a value.
  abbrev pub TreeInjective : Type 0
  TreeInjective = OfTyped λ h vs. (fits fits' : Val → Bool) (r r' : ℕ) (v v' w : Val) (n n' : ℕ) → HasTy v h.dynamic → HasTy v' h.dynamic
      → Carries fits P r h vs v w n → Carries fits' P r' h vs v' w n' → v ≡ v'

  -- Refusal 16: no input exists, at any fuel, height or size.
  abbrev pub TreeNoInput : Type 0
  TreeNoInput = OfTyped λ h vs. (fits fits' : Val → Bool) (r r' : ℕ) (v w : Val) (f k n : ℕ) → HasTy v h.dynamic
      → run_backward fits P r h vs w f ≡ stop 16 k → Carries fits' P r' h vs v w n → ⊥

  -- Document 02, F-3: 15 is never met at a case that chooses by an ancilla, either way.
  abbrev pub TreeNeverAtChoice : Type 0
  TreeNeverAtChoice = OfTyped λ h vs. (k : ℕ) → ChoosesAt P k
      → (fits : Val → Bool) (r f : ℕ) (v : Val) → (¬ (run_forward fits P r h vs v f ≡ stop 15 k)) × (¬ (run_backward fits P r h vs v f ≡ stop 15 k))

  -- Demand 1: a checked program never stops on a value of wrong shape, either way.
  abbrev pub TreeNeverStuck : Type 0
  TreeNeverStuck = OfTyped λ h vs. (fits : Val → Bool) (r f : ℕ) (v : Val)
      → (HasTy v h.dynamic → ¬ (run_forward fits P r h vs v f ≡ stuck)) × (HasTy v h.result → ¬ (run_backward fits P r h vs v f ≡ stuck))

  -- Values keep their types, either way.
  abbrev pub KeepsTypes : Type 0
  KeepsTypes = OfTyped λ h vs. (fits : Val → Bool) (r f g : ℕ) (v w : Val)
      → (HasTy v h.dynamic → run_forward fits P r h vs v f ≡ ok w g → HasTy w h.result)
      × (HasTy w h.result → run_backward fits P r h vs w f ≡ ok v g → HasTy v h.dynamic)
