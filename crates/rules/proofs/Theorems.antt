-- The claims of specs/Claims, each proved under its name from the laws of the other files.
use Prim.Native.Nat.{ℕ, ◌+◌, ◌≤◌}
use native.Mathlib.Omega.{arith}
use mathlib.Core.Path.{◌≡◌, refl, sym, ap, subst, ◌∙◌}
use mathlib.Core.Bool.{Bool, true, false, ◌||◌, false≢true}
use mathlib.Core.Option.{none, some}
use mathlib.Core.List.{List, [], ◌∷◌, map}
use mathlib.Core.Logic.{◌⊎◌, inl as left, inr as right}
use lib.ListN.{length}
use package.Rattle.rules.specs.Val.{Val}
use package.Rattle.rules.specs.Term.{Fun, Program, scope, look, used_in}
use package.Rattle.rules.specs.Ty.{Ty}
use package.Rattle.rules.specs.Typing.{barred, ∅, bar, mark, t_var3}
use package.Rattle.rules.specs.Check.{term, visible, infer}
use package.Rattle.rules.specs.Run.{Res, ok, stop, Run, give}
use package.Rattle.rules.specs.Machine.{backward, run_forward, run_backward}
use package.Rattle.rules.specs.Claims.{TreeCheckIffTyped, InferIffTypes, TypeUnique, BranchesUseTheSame, NamedWhereUsed}
use package.Rattle.rules.specs.Claims.{Carries, Wider, TreeForwardIffRules, TreeNoValue, Steady}
use package.Rattle.rules.specs.Claims.{TreeMoreNeverChanges, StepsAreTheRules, BackwardThenForward, OfTyped, TreeBackwardIffRules, TreeBackwardIffForward, TreeInjective}
use package.Rattle.rules.specs.Claims.{TreeNoInput, TreeNeverAtChoice, TreeNeverStuck, KeepsTypes}
use package.Rattle.rules.proofs.OfType.{OfType, OfTypes, of-type_iff, of-types_iff}
use package.Rattle.rules.proofs.Backward.Outcome.{back-outcome}
use package.Rattle.rules.proofs.Backward.Pop.{ready_call, call-pop}
use package.Rattle.rules.proofs.Backward.Safe.{body-safe, backward-safe}
use package.Rattle.rules.proofs.Backward.Sound.{all_known, back-sound}
use package.Rattle.rules.proofs.Basics.{given, or_left, or_right}
use package.Rattle.rules.proofs.Directed.{any, within-any, nothing, Spent, TypedFun, TypedProgram}
use package.Rattle.rules.proofs.Fine.{Fine, fine, fine_not_stuck, fine-answer}
use package.Rattle.rules.proofs.Forward.Outcome.{outcome}
use package.Rattle.rules.proofs.Forward.Safe.{forward-safe}
use package.Rattle.rules.proofs.Forward.Sound.{Yields, sound}
use package.Rattle.rules.proofs.Matching.{run-forward-spared, run-backward-spared}
use package.Rattle.rules.proofs.Monotone.{Grows, answer-grows, refusal-grows, forward-grows, run-back-grows}
use package.Rattle.rules.proofs.Outcome.{fuel_short, room_short, size_short, Good, yields, short, good-last}
use package.Rattle.rules.proofs.Preserve.{types-length, scope-ty}
use package.Rattle.rules.proofs.Scope.{length-scope}
use package.Rattle.rules.proofs.Run.{unbind, ok-value, ok-fuel}
use package.Rattle.rules.proofs.State.{full-agree, fill, agree-fill, full}
use package.Rattle.rules.proofs.StateTy.{length-full, gives-full, pop_inv, fill-typed, here-call}
use package.Rattle.rules.proofs.Typing.Contexts.{look_lent}
use package.Rattle.rules.proofs.Typing.Least.{used}
use package.Rattle.rules.proofs.Typing.Pass.{Pass, pass, fail, passed}
use package.Rattle.rules.proofs.Typing.Complete.{infer_complete, check_complete}
use package.Rattle.rules.proofs.Typing.Sound.{infer-sound, check_sound}
use package.Rattle.rules.proofs.Typing.ToDirected.{directed}
use package.Rattle.rules.proofs.Typing.Unique.{types_unique}
use package.Rattle.rules.proofs.Typing.Uses.{branches_agree}
pub use package.Rattle.rules.proofs.Yield.{theorem1}

-- where fuel, room and size are not short, a good run answers
enough : {X : Type 0} {Q : X → Type 0} (fits fits' : Val → Bool) (f n r r' : ℕ) (x : Res X) → Wider fits' fits → r' ≤ r → n ≤ f
    → Good fits fits' Q f n r r' x → (y : X) × (g : ℕ) × (x ≡ ok y g) × (f ≡ n + g) × Q y
enough fits fits' f n r r' x w l e (yields {x = y} {g = g} q e') = (y, g, refl, e', q)
enough fits fits' f n r r' x w l e (short (fuel_short y z)) = absurd (omega arith)
enough fits fits' f n r r' x w l e (short (room_short y z)) = absurd (omega arith)
enough fits fits' f n r r' x w l e (short (size_short u y z o)) = absurd (false≢true (sym o ∙ w u z))

-- what a good run that answers says
answered : {X : Type 0} {Q : X → Type 0} {fits fits' : Val → Bool} {f n r r' g : ℕ} {y : X} → Good fits fits' Q f n r r' (ok y g) → (f ≡ n + g) × Q y
answered (yields q e) = (e, q)

same-limits : (fits : Val → Bool) → Wider fits fits
same-limits fits v p = p

-- a good run is not refused with 15 or 16
not_refused : {X : Type 0} {Q : X → Type 0} {fits fits' : Val → Bool} {f n r r' c k : ℕ} → 15 ≤ c → Good fits fits' Q f n r r' (stop c k) → ⊥
not_refused l (short (fuel_short x y)) = omega arith
not_refused l (short (room_short x y)) = omega arith
not_refused l (short (size_short u x y z)) = omega arith

----------------------------------------------------------------
-- Typing

pub tree-check_iff_typed : (variables most : ℕ) (P : Program) → TreeCheckIffTyped variables most P
tree-check_iff_typed variables most P = (check_sound variables most P, check_complete variables most P)

pub infer_iff_types : (variables most : ℕ) (P : Program) → InferIffTypes variables most P
infer_iff_types variables most P Δ t τ = (λ e. (used Δ t, infer-sound variables most P e), λ (U, d). infer_complete variables most P d)

pub type_unique : (variables most : ℕ) (P : Program) → TypeUnique variables most P
type_unique variables most P Δ U U' t τ τ' d d' = types_unique variables most P d d'

pub branches_use_the_same : (variables most : ℕ) (P : Program) → BranchesUseTheSame variables most P
branches_use_the_same variables most P Δ U m k i e b b' τ c d p u = branches_agree variables most P d m i c p u

-- a barred variable has a type only if it is marked
seen_if_marked : (k : ℕ) (x : Bool) (τ : Ty) → Pass (λ c. x ≡ true) (visible (term k) (some (barred x τ)))
unfolding visible
seen_if_marked k true τ = pass refl
seen_if_marked k false τ = fail

pub named_where_used : (variables most : ℕ) (P : Program) → NamedWhereUsed variables most P
unfolding infer
named_where_used variables most P Δ m k i b τ p = (
  λ (U, d). passed (λ c. (m || used_in i b) ≡ true) (seen_if_marked k (m || used_in i b) τ)
      (ap (visible (term k)) (sym lent) ∙ infer_complete variables most P d),
  λ e. (∅, t_var3 (lent ∙ ap (λ x. some (barred x τ)) e)),
)
  where
    lent : look (bar (mark (λ j. used_in j b) Δ)) i ≡ some (barred (m || used_in i b) τ)
    lent = look_lent (λ j. used_in j b) Δ i p

----------------------------------------------------------------
-- Runs

module _ (P : Program) where
  -- a run forward is good wherever the rules carry the input to a value
  forward-good : (fits fits' : Val → Bool) (r r' : ℕ) (h : Fun) (vs : List Val) (v w : Val) (n : ℕ) → Carries fits' P r' h vs v w n → (f : ℕ)
      → Good fits fits' (λ u. w ≡ u) f n r r' (run_forward fits P r h vs v f)
  unfolding run_forward
  forward-good fits fits' r r' h vs v w n d f =
      outcome fits fits' P r r' (scope vs []) (v ∷ scope vs []) h.body w n d any _ (full any (v ∷ scope vs [])) (within-any h.body) f

  pub tree-forward_iff_rules : TreeForwardIffRules P
  unfolding run_forward
  tree-forward_iff_rules fits r h vs v w f g = (
    λ p. sound fits P r (scope vs []) _ (v ∷ scope vs []) any (full any (v ∷ scope vs [])) h.body (within-any h.body) f w g p,
    λ (n, d, e). back n d e,
  )
    where
      back : (n : ℕ) → Carries fits P r h vs v w n → f ≡ n + g → run_forward fits P r h vs v f ≡ ok w g
      back n d e = given (enough fits fits f n r r _ (same-limits fits) (omega arith) (omega arith) (forward-good fits fits r r h vs v w n d f)) λ (u, g', x, y, z).
          x ∙ ap (λ u. ok u g') (sym z) ∙ ap (ok w) (let q : g' ≡ g = omega arith in q)

  pub tree-no-value : TreeNoValue P
  tree-no-value fits fits' r r' h vs v w f k n p d =
      not_refused (omega arith) (subst (λ x. Good fits fits' (λ u. w ≡ u) f n r r' x) p (forward-good fits fits' r r' h vs v w n d f))

  steady : {run : (Val → Bool) → ℕ → Run Val}
      → ((fits fits' : Val → Bool) (r r' f d : ℕ) → Wider fits fits' → r ≤ r' → Grows d (run fits r f) (run fits' r' (f + d))) → Steady P run
  steady s fits fits' r r' f d wd l = (
    λ w g p. answer-grows d (s fits fits' r r' f d wd l) p,
    λ c k e p. refusal-grows d (s fits fits' r r' f d wd l) p (least c e),
  )
    where
      least : (c : ℕ) → (c ≡ 15) ⊎ (c ≡ 16) → 15 ≤ c
      least c (left e) = omega arith
      least c (right e) = omega arith

  pub tree-more-never_changes : TreeMoreNeverChanges P
  unfolding run_forward run_backward
  tree-more-never_changes h vs v = (
    steady λ fits fits' r r' f d wd l. forward-grows fits fits' wd P d r r' l (scope vs []) (some v ∷ map some (scope vs [])) h.body f,
    steady λ fits fits' r r' f d wd l. run-back-grows fits fits' wd P d r r' l h vs v f,
  )

  pub steps_are_the_rules : StepsAreTheRules P
  steps_are_the_rules fits fits' r r' h vs v w w' f f' g g' p p' =
      given ((tree-forward_iff_rules fits r h vs v w f g).0 p) λ (n, d, e).
      given (answered (subst (λ x. Good fits' fits (λ u. w ≡ u) f' n r' r x) p' (forward-good fits' fits r' r h vs v w n d f'))) λ (e', q).
      (q, omega arith)

----------------------------------------------------------------
-- Runs of typed programs

-- a run backward is good wherever the rules carry a typed input to the value
back-good : (fits fits' : Val → Bool) (P : Program) → TypedProgram P → (h : Fun) → TypedFun P h → (vs : List Val) → OfTypes vs h.ancillae → (v w : Val)
    → OfType v h.dynamic → (r r' n : ℕ) → Carries fits' P r' h vs v w n → (f : ℕ) → Good fits fits' (λ u. v ≡ u) f n r r' (run_backward fits P r h vs w f)
unfolding run_backward
back-good fits fits' P W h T vs hs v w hv r r' n d f =
    good-last fits fits' _
    (back-outcome fits fits' P W r r' (scope vs []) (v ∷ scope vs []) h.body w n d
    (length h.ancillae) nothing (h.dynamic ∷ scope h.ancillae []) h.result T.0
    (none ∷ map some (scope vs [])) (ready_call vs h.ancillae v h.dynamic hs hv) f) λ σ₁ g A.
    call-pop fits fits' (λ u. give u) vs h.ancillae h.dynamic v h.body σ₁ hs hv T.1 A (yields {g = g} refl (omega arith))

-- a run forward is fine on a typed input
forward-fine : (fits : Val → Bool) (P : Program) → TypedProgram P → (h : Fun) → TypedFun P h → (vs : List Val) → OfTypes vs h.ancillae → (r f : ℕ) (v : Val)
    → OfType v h.dynamic → Fine (λ w. OfType w h.result) (run_forward fits P r h vs v f)
unfolding run_forward
forward-fine fits P W h T vs hs r f v hv =
    forward-safe fits P W r (scope vs []) (some v ∷ map some (scope vs [])) h.body _ nothing _ h.result T.0 any (within-any h.body)
    (gives-full any (v ∷ scope vs []) (h.dynamic ∷ scope h.ancillae []) (hv, scope-ty vs h.ancillae [] [] hs tt)) f

-- a run backward is fine on a typed value
backward-fine : (fits : Val → Bool) (P : Program) → TypedProgram P → (h : Fun) → TypedFun P h → (vs : List Val) → OfTypes vs h.ancillae → (r f : ℕ) (w : Val)
    → OfType w h.result → Fine (λ v. OfType v h.dynamic) (run_backward fits P r h vs w f)
unfolding run_backward
backward-fine fits P W h T vs hs r f w hw =
    body-safe fits P W (backward fits P r) (backward-safe fits P W r) h T vs hs (λ v. give v) w hw (λ v g hv. fine hv) f

-- what a run backward answers on a typed value, a run forward carries to it
back-then-forward : (fits : Val → Bool) (P : Program) → TypedProgram P → (h : Fun) → TypedFun P h → (vs : List Val) → OfTypes vs h.ancillae
    → (r : ℕ) (v w : Val) (f g : ℕ) → OfType w h.result → run_backward fits P r h vs w f ≡ ok v g → run_forward fits P r h vs v f ≡ ok w g
unfolding run_forward run_backward
back-then-forward fits P W h T vs hs r v w f g hw p =
    let l₁ : length (scope vs []) ≡ length vs + 0 = length-scope vs [] in
    let l₂ : length vs ≡ length h.ancillae = types-length vs h.ancillae hs in
    let l₃ : length (scope h.ancillae []) ≡ length h.ancillae + 0 = length-scope h.ancillae [] in
    let l₄ : length (map some (scope vs [])) ≡ length (scope vs []) = length-full (scope vs []) in
    given (here-call vs h.ancillae h.dynamic hs) λ hc.
    given (unbind _ _ p) λ (σ, f₁, p₁, p₂).
    given (pop_inv _ (length h.ancillae) (scope h.ancillae []) h.dynamic h.body none (map some (scope vs [])) σ (omega arith) (omega arith)
    (subst (λ i. Spent i h.dynamic h.body) (let y : length h.ancillae ≡ length (scope h.ancillae []) = omega arith in y) T.1)
    (fine-answer (backward-safe fits P W r (scope vs []) (none ∷ map some (scope vs [])) h.body w
    (length h.ancillae) nothing (h.dynamic ∷ scope h.ancillae []) h.result T.0 hw hc f) p₁)
    p₂) λ (m, σ₂, u, x, fit, hu, (st, mo, bd), z).
    given (back-sound fits P W r (scope vs []) (none ∷ map some (scope vs [])) h.body w f (m ∷ σ₂) f₁ (p₁ ∙ ap (λ σ. ok σ f₁) x)
    (length h.ancillae) nothing (h.dynamic ∷ scope h.ancillae []) h.result T.0 hw hc (u ∷ fill σ₂) (fit, agree-fill σ₂)
    (hu, fill-typed σ₂ (scope h.ancillae []) st (all_known vs σ₂ h.ancillae hs st mo))) λ (y, ag).
    given (full-agree (scope vs []) (fill σ₂) ag.1) λ e.
    subst (λ v. run_forward fits P r h vs v f ≡ ok w g) (ok-value z)
    ((tree-forward_iff_rules P fits r h vs u w f g).1
    (subst (λ g. Yields fits P r (scope vs []) (u ∷ scope vs []) h.body w f g) (ok-fuel z)
    (subst (λ ρ. Yields fits P r (scope vs []) (u ∷ ρ) h.body w f f₁) (sym e) y)))

module _ (variables most : ℕ) (P : Program) where
  -- a claim of functions that are typed by recursion on the term holds of functions that the rules type
  of-typed : {C : Fun → List Val → Type 0}
      → (TypedProgram P → (h : Fun) → TypedFun P h → (vs : List Val) → OfTypes vs h.ancillae → C h vs) → OfTyped variables most P C
  of-typed s W j h p vs hs = given (directed variables most P W) λ D. s D h (D j h p) vs ((of-types_iff vs h.ancillae).0 hs)

  pub keeps-types : KeepsTypes variables most P
  keeps-types = of-typed λ D h T vs hs fits r f g v w. (
    λ hv p. (of-type_iff w h.result).1 (fine-answer (forward-fine fits P D h T vs hs r f v ((of-type_iff v h.dynamic).0 hv)) p),
    λ hw p. (of-type_iff v h.dynamic).1 (fine-answer (backward-fine fits P D h T vs hs r f w ((of-type_iff w h.result).0 hw)) p),
  )

  pub tree-never-stuck : TreeNeverStuck variables most P
  tree-never-stuck = of-typed λ D h T vs hs fits r f v. (
    λ hv. fine_not_stuck (forward-fine fits P D h T vs hs r f v ((of-type_iff v h.dynamic).0 hv)),
    λ hv. fine_not_stuck (backward-fine fits P D h T vs hs r f v ((of-type_iff v h.result).0 hv)),
  )

  pub backward-then-forward : BackwardThenForward variables most P
  backward-then-forward = of-typed λ D h T vs hs fits r v w f g hw p. back-then-forward fits P D h T vs hs r v w f g ((of-type_iff w h.result).0 hw) p

  pub tree-backward_iff_forward : TreeBackwardIffForward variables most P
  tree-backward_iff_forward = of-typed λ D h T vs hs fits r v w f g hw. (
    λ p. (
      (of-type_iff v h.dynamic).1 (fine-answer (backward-fine fits P D h T vs hs r f w ((of-type_iff w h.result).0 hw)) p),
      back-then-forward fits P D h T vs hs r v w f g ((of-type_iff w h.result).0 hw) p,
    ),
    λ (hv, p). again D h T vs hs fits r v w f g ((of-type_iff v h.dynamic).0 hv) p,
  )
    where
      again : TypedProgram P → (h : Fun) → TypedFun P h → (vs : List Val) → OfTypes vs h.ancillae → (fits : Val → Bool) (r : ℕ) (v w : Val) (f g : ℕ)
          → OfType v h.dynamic → run_forward fits P r h vs v f ≡ ok w g → run_backward fits P r h vs w f ≡ ok v g
      again D h T vs hs fits r v w f g hv p =
          given ((tree-forward_iff_rules P fits r h vs v w f g).0 p) λ (n, d, e).
          given (enough fits fits f n r r _ (same-limits fits) (omega arith) (omega arith) (back-good fits fits P D h T vs hs v w hv r r n d f)) λ (u, g', x, y, z).
          x ∙ ap (λ u. ok u g') (sym z) ∙ ap (ok v) (let q : g' ≡ g = omega arith in q)

  pub tree-backward_iff_rules : TreeBackwardIffRules variables most P
  tree-backward_iff_rules W j h p vs hs fits r v w f g hw = (
    λ x. given ((tree-backward_iff_forward W j h p vs hs fits r v w f g hw).0 x) λ (hv, y). (hv, (tree-forward_iff_rules P fits r h vs v w f g).0 y),
    λ (hv, d). (tree-backward_iff_forward W j h p vs hs fits r v w f g hw).1 (hv, (tree-forward_iff_rules P fits r h vs v w f g).1 d),
  )

  pub tree-injective : TreeInjective variables most P
  tree-injective = of-typed λ D h T vs hs fits fits' r r' v v' w n n' hv hv' d d'.
      let e : Val → Bool = λ u. fits u || fits' u in
      given (enough e fits (n + n') n (r + r') r _ (λ u p. or_left (fits' u) p) (omega arith) (omega arith)
      (back-good e fits P D h T vs hs v w ((of-type_iff v h.dynamic).0 hv) (r + r') r n d (n + n'))) λ (u, g, x, y, z).
      given (enough e fits' (n + n') n' (r + r') r' _ (λ u p. or_right (fits u) p) (omega arith) (omega arith)
      (back-good e fits' P D h T vs hs v' w ((of-type_iff v' h.dynamic).0 hv') (r + r') r' n' d' (n + n'))) λ (u', g', x', y', z').
      z ∙ ok-value (sym x ∙ x') ∙ sym z'

  pub tree-no_input : TreeNoInput variables most P
  tree-no_input = of-typed λ D h T vs hs fits fits' r r' v w f k n hv p d.
      not_refused (omega arith) (subst (λ x. Good fits fits' (λ u. v ≡ u) f n r r' x) p
      (back-good fits fits' P D h T vs hs v w ((of-type_iff v h.dynamic).0 hv) r r' n d f))

  pub tree-never-at_choice : TreeNeverAtChoice variables most P
  tree-never-at_choice W j h p vs hs k C fits r f v =
      given (directed variables most P W) λ D.
      given (types-length vs h.ancillae ((of-types_iff vs h.ancillae).0 hs)) λ l.
      (run-forward-spared k fits P D C j h p vs l r v f, run-backward-spared k fits P D C j h p vs l r v f)
