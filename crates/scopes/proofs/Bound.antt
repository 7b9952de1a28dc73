-- Laws of views: what opening, meeting and leaving do to the rules' state.
use Prim.Native.Nat.{ℕ, zero, suc, ◌+◌, ◌-◌, ◌<◌, ◌≤◌}
use native.Mathlib.Omega.{arith}
use native.Mathlib.Decide.{dec_lt}
use mathlib.Core.Path.{◌≡◌, refl, sym, ap, ap₂, subst, ◌∙◌}
use mathlib.Core.Bool.{Bool, true, false, true≢false}
use mathlib.Core.Option as maybe
use mathlib.Core.List.{List, ◌∷◌}
use lib.ListN.{length, get_or, set}
use lib.Seq.{get_or-set_other}
use lib.Dec.{eqb}
use borrow.Author.Tests.{eqb-true, eqb-false}
use Rattle.std.specs.Prelude.{Option, Some, None}
use package.Rattle.rules.specs.Limits.{max_variables}
use package.Rattle.rules.specs.Val.{Val, same}
use package.Rattle.rules.specs.Run.{Res, ok, stop, Run, after, test, give}
use package.Rattle.rules.specs.Machine.{State, bind_or, meet}
use package.Rattle.rules.proofs.Basics.{given, eqb_yes, eqb_no}
use package.Rattle.valuegraph.specs.Nodes.{value_at}
use package.Rattle.scopes.specs.Slots.{unknown, found, meaning, state_at}
use package.Rattle.scopes.specs.Bindings.{View, state_of, Bound, Opens, Meets, AfterLeaving, LeavesScope}
use package.Rattle.scopes.proofs.Marks.{found-mark, found_below, node_or_lem}
use package.Rattle.scopes.proofs.Scopes.{length-state, state-front, state_bind}

----------------------------------------------------------------
-- Meeting a variable, as the rules have it

-- what the rules' meeting gives, by what the slot says
abbrev met : List ℕ → List ℕ → ℕ → ℕ → ℕ → ℕ → ℕ → Option ℕ → Run State
met heap slots n i node x k None = give (state_at heap (set slots i x) 0 n)
met heap slots n i node x k (Some old) = test (same (value_at heap old) (value_at heap node)) 16 k (give (state_at heap slots 0 n))

-- a test, then one more variable in front
test-after : (b : Bool) (k f : ℕ) {A : Type 0} (a : A) (cons : A → State) (σ : State) → cons a ≡ σ → after (test b 16 k (give a) f) (λ x. give (cons x)) ≡ test b 16 k (give σ) f
unfolding test after
test-after true k f a cons σ e = ap (λ σ. ok σ f) e
test-after false k f a cons σ e = refl

test-passes : (k : ℕ) (σ : State) (f : ℕ) → test true 16 k (give σ) f ≡ ok σ f
unfolding test
test-passes k σ f = refl

test_fails : (k : ℕ) (σ : State) (f : ℕ) → test false 16 k (give σ) f ≡ stop 16 k
unfolding test
test_fails k σ f = refl

zero-plus : (n : ℕ) → 0 + n ≡ n
zero-plus n = omega arith

-- the newest variable is met
met-newest : (heap slots : List ℕ) (n node x k f : ℕ) → n < length slots → found heap x ≡ Some node → (s : Option ℕ) → found heap (get_or slots (0 + n) 0) ≡ s
    → after (bind_or k (meaning heap s) (value_at heap node) f) (λ m. give (m ∷ state_at heap slots 0 n)) ≡ met heap slots (suc n) n node x k s f
unfolding bind_or after
met-newest heap slots n node x k f l fx None e =
    ap (λ σ. ok σ f)
    (sym (subst (λ j. state_at heap (set slots j x) 0 (suc n) ≡ maybe.some (value_at heap node) ∷ state_at heap slots 0 n) (zero-plus n)
    (state_bind heap slots 0 n x (let z : 0 + n ≡ n = zero-plus n in omega arith) ∙ ap (λ s. meaning heap s ∷ state_at heap slots 0 n) fx)))
met-newest heap slots n node x k f l fx (Some old) e =
    test-after (same (value_at heap old) (value_at heap node)) k f (maybe.some (value_at heap old)) (λ m. m ∷ state_at heap slots 0 n) (state_at heap slots 0 (suc n)) (front e)
  where
    front : found heap (get_or slots (0 + n) 0) ≡ Some old → maybe.some (value_at heap old) ∷ state_at heap slots 0 n ≡ state_at heap slots 0 (suc n)
    front e = sym (state-front heap slots 0 n ∙ ap (λ s. meaning heap s ∷ state_at heap slots 0 n) e)

-- an older variable is met
met-older : (heap slots : List ℕ) (n i node x k f : ℕ) → i < n → (s : Option ℕ)
    → after (met heap slots n i node x k s f) (λ σ. give (meaning heap (found heap (get_or slots (0 + n) 0)) ∷ σ)) ≡ met heap slots (suc n) i node x k s f
unfolding after
met-older heap slots n i node x k f l None =
    ap (λ σ. ok σ f) (ap (λ y. meaning heap (found heap y) ∷ state_at heap (set slots i x) 0 n)
    (sym (get_or-set_other slots i (0 + n) x 0 (λ e. omega (arith, zero-plus n)))) ∙ sym (state-front heap (set slots i x) 0 n))
met-older heap slots n i node x k f l (Some old) =
    test-after (same (value_at heap old) (value_at heap node)) k f (state_at heap slots 0 n) (λ σ. meaning heap (found heap (get_or slots (0 + n) 0)) ∷ σ)
    (state_at heap slots 0 (suc n)) (sym (state-front heap slots 0 n))

-- meeting variable `i` of `n`; a number that says the node binds it
meet-state : (heap slots : List ℕ) (n i node x k f : ℕ) → i < n → n ≤ length slots → found heap x ≡ Some node
    → meet k (state_at heap slots 0 n) i (value_at heap node) f ≡ met heap slots n i node x k (found heap (get_or slots i 0)) f
unfolding meet state_at
meet-state heap slots zero i node x k f l m fx = absurd (omega arith)
meet-state heap slots (suc n) i node x k f l m fx = go (dec_lt i n) (λ l. meet-state heap slots n i node x k f l (omega arith) fx)
  where
    newer : maybe.Option Val
    newer = meaning heap (found heap (get_or slots (0 + n) 0))

    Meeting : ℕ → Type 0
    Meeting i = meet k (newer ∷ state_at heap slots 0 n) i (value_at heap node) f ≡ met heap slots (suc n) i node x k (found heap (get_or slots i 0)) f

    go : Dec (i < n) → (i < n → meet k (state_at heap slots 0 n) i (value_at heap node) f ≡ met heap slots n i node x k (found heap (get_or slots i 0)) f)
        → Meeting i
    go (yes y) s =
        rw (length-state heap slots 0 n, eqb_no i n y)
        (ap (λ r. after r λ σ. give (newer ∷ σ)) (s y) ∙ met-older heap slots n i node x k f y (found heap (get_or slots i 0)))
    go (no y) s = subst Meeting (let e : n ≡ i = omega arith in e)
        (rw (length-state heap slots 0 n, eqb_yes n)
        (met-newest heap slots n node x k f (omega arith) fx (found heap (get_or slots (0 + n) 0)) refl
        ∙ ap (λ j. met heap slots (suc n) n node x k (found heap (get_or slots j 0)) f) (zero-plus n)))

-- What the code's meeting says, as the rules have it: the state that it hands back, or 16.
module _ (heap : List ℕ) (b : View) (i node x top k f : ℕ) (agrees : Bool) (r : View) (M : Meets heap b i node x agrees r) (B : Bound heap b top)
    (l : i < b.len) (small : top ≤ unknown) (fx : found heap x ≡ Some node) where
  abbrev meeting : Res State
  meeting = meet k (state_at heap b.slots 0 b.len) i (value_at heap node) f

  start : {s : Option ℕ} → found heap (get_or b.slots i 0) ≡ s → meeting ≡ met heap b.slots b.len i node x k s f
  start e = meet-state heap b.slots b.len i node x k f l (omega (arith, B.full, B.few)) fx ∙ ap (λ s. met heap b.slots b.len i node x k s f) e

  abbrev Met : Type 0
  Met = (agrees ≡ true → meeting ≡ ok (state_at heap r.slots 0 r.len) f) × (agrees ≡ false → meeting ≡ stop 16 k)

  binding : get_or b.slots i 0 ≡ unknown → Met
  binding u = given (M.binds u) λ (yes-it, slots, len). (
    λ _. start (found-mark heap _ u) ∙ ap₂ (λ s n. ok (state_at heap s 0 n) f) (sym slots) (sym len),
    λ n. absurd (true≢false (sym yes-it ∙ n)),
  )

  comparing : (get_or b.slots i 0 ≡ unknown → ⊥) → (old : ℕ) → found heap (get_or b.slots i 0) ≡ Some old → Met
  comparing u old e = given (M.compares u) λ (same-is, state).
      let tested : (y : Bool) → agrees ≡ y → meeting ≡ test y 16 k (give (state_at heap b.slots 0 b.len)) f =
      λ y z. start e ∙ ap (λ y. test y 16 k (give (state_at heap b.slots 0 b.len)) f)
      (ap (λ n. same (value_at heap n) (value_at heap node)) (sym (node_or_lem e)) ∙ sym same-is ∙ z) in (
        λ y. tested true y ∙ test-passes k (state_at heap b.slots 0 b.len) f ∙ ap (λ (c : View). ok (state_at heap c.slots 0 c.len) f) (sym state),
        λ n. tested false n ∙ test_fails k (state_at heap b.slots 0 b.len) f,
      )

  pub meet-bound : (agrees ≡ true → meet k (state_of heap b) i (value_at heap node) f ≡ ok (state_of heap r) f)
      × (agrees ≡ false → meet k (state_of heap b) i (value_at heap node) f ≡ stop 16 k)
  unfolding state_of
  meet-bound = go (eqb (get_or b.slots i 0) unknown) refl
    where
      go : (e : Bool) → eqb (get_or b.slots i 0) unknown ≡ e → Met
      go true e = binding (eqb-true (get_or b.slots i 0) unknown e)
      go false e =
          let u = eqb-false (get_or b.slots i 0) unknown e in
          found_below (B.held.held i l) small u λ old low z. comparing u old z

----------------------------------------------------------------
-- Variables come and go

pub opens-state : (heap : List ℕ) (b : View) (node top : ℕ) (r : View) → Opens b node r → Bound heap b top → b.len < max_variables
    → state_of heap r ≡ meaning heap (found heap node) ∷ state_of heap b
unfolding state_of
opens-state heap b node top r O B l =
    ap₂ (λ s n. state_at heap s 0 n) O.slots (O.len ∙ (let z : b.len + 1 ≡ suc b.len = omega arith in z))
    ∙ subst (λ j. state_at heap (set b.slots j node) 0 (suc b.len) ≡ meaning heap (found heap node) ∷ state_at heap b.slots 0 b.len) (zero-plus b.len)
    (state_bind heap b.slots 0 b.len node (omega (arith, zero-plus b.len, B.full)))

pub leaves-state : (heap : List ℕ) (b : View) (r : AfterLeaving) → LeavesScope b r → 0 < b.len → state_of heap b ≡ meaning heap (found heap r.newest) ∷ state_of heap r.state
unfolding state_of
leaves-state heap b r L l =
    ap (state_at heap b.slots 0) (let z : b.len ≡ suc (b.len - 1) = omega arith in z) ∙ state-front heap b.slots 0 (b.len - 1)
    ∙ ap₂ (λ x σ. meaning heap (found heap x) ∷ σ) (ap (λ j. get_or b.slots j 0) (zero-plus (b.len - 1)) ∙ sym L.newest)
    (ap₂ (λ s n. state_at heap s 0 n) (sym L.slots) (sym L.len))
