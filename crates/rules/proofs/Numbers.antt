-- The numbers of refusals: typing refuses with 6 to 8, a run forward with 12 to 15, backward with 12 to 16 (section 4). And what forward answers fits.
use Prim.Native.Nat.{ℕ, zero, suc, ◌≤◌}
use native.Mathlib.Omega.{arith}
use mathlib.Core.Path.{◌≡◌, refl, subst}
use mathlib.Core.Bool.{Bool, true, false}
use mathlib.Core.Option.{Option, none, some}
use mathlib.Core.List.{List, [], ◌∷◌, map}
use lib.ListN.{length}
use package.Rattle.rules.specs.Val.{Val, unit, inl, inr, pair, roll}
use package.Rattle.rules.specs.Ty.{Ty, one, prod, sum, mu, tyvar}
use package.Rattle.rules.specs.Term.{Term, Terms, var, tunit, tinl, tinr, tpair, tlet, tletp, tcase, tcall, troll, tunroll, end, more, entry, Fun, Program, nth, look, scope}
use package.Rattle.rules.specs.Yield.{first_match}
use package.Rattle.rules.specs.Typing.{Binding, static, dynamic, barred, Context, bar, mark}
use package.Rattle.rules.specs.Check.{Site, term, function, Checked, good, bad, ◌>>=◌, ◌>>◌, need, as_sum, as_prod, as_mu}
use package.Rattle.rules.specs.Check.{as_fun, visible, need_none, infer, infer_arguments, check_fun, check_funs, check}
use package.Rattle.rules.specs.Run.{Res, ok, stop, stuck, Run, after, give, refuse, enter, test}
use package.Rattle.rules.specs.Machine.{on_sum, on_pair, on_roll, on_unit, on_some, State, known, each, made, forward_step, forward, run_forward}

----------------------------------------------------------------
-- Runs: an answer with `Q`, a refusal with a number and a place of `N`, or stuck

pub data EndsBy {X : Type 0} (N : ℕ → ℕ → Type 0) (Q : X → Type 0) : Res X → Type 0 where
  answers : {x : X} {g : ℕ} → Q x → EndsBy N Q (ok x g)
  refuses : {c k : ℕ} → N c k → EndsBy N Q (stop c k)
  sticks : EndsBy N Q stuck

-- forward, and either way
abbrev pub ForwardNumber : ℕ → ℕ → Type 0
ForwardNumber n k = (12 ≤ n) × (n ≤ 15)

abbrev pub RunNumber : ℕ → ℕ → Type 0
RunNumber n k = (12 ≤ n) × (n ≤ 16)

abbrev pub Ends : {X : Type 0} → (X → Type 0) → Res X → Type 0
Ends Q x = EndsBy RunNumber Q x

module _ {X Y : Type 0} {N : ℕ → ℕ → Type 0} {Q : X → Type 0} {Q' : Y → Type 0} where
  pub ends-after : {x : Res X} (k : X → Run Y) → EndsBy N Q x → ((y : X) (g : ℕ) → Q y → EndsBy N Q' (k y g)) → EndsBy N Q' (after x k)
  unfolding after
  ends-after k (answers {x} {g} q) s = s x g q
  ends-after k (refuses n) s = refuses n
  ends-after k sticks s = sticks

module _ {X : Type 0} {N : ℕ → ℕ → Type 0} {Q : X → Type 0} where
  pub ends_enter : (k f : ℕ) (m : Run X) → N 12 k → ((g : ℕ) → EndsBy N Q (m g)) → EndsBy N Q (enter k m f)
  unfolding enter
  ends_enter k zero m l s = refuses {c = 12} l
  ends_enter k (suc f) m l s = s f

  pub ends-either : (b : Bool) (n k g : ℕ) (m : Run X) → (b ≡ false → N n k) → (b ≡ true → EndsBy N Q (m g)) → EndsBy N Q (test b n k m g)
  unfolding test
  ends-either true n k g m l s = s refl
  ends-either false n k g m l s = refuses (l refl)

  pub ends-test : (b : Bool) (n k g : ℕ) (m : Run X) → N n k → (b ≡ true → EndsBy N Q (m g)) → EndsBy N Q (test b n k m g)
  ends-test b n k g m l s = ends-either b n k g m (λ e. l) s

  pub ends_some : {A : Type 0} (o : Option A) (k : A → Run X) (g : ℕ) → ((a : A) → EndsBy N Q (k a g)) → EndsBy N Q (on_some o k g)
  unfolding on_some
  ends_some none k g s = sticks
  ends_some (some a) k g s = s a

  pub ends-sum : (v : Val) (l r : Val → Run X) (g : ℕ) → ((w : Val) → EndsBy N Q (l w g)) → ((w : Val) → EndsBy N Q (r w g)) → EndsBy N Q (on_sum v l r g)
  unfolding on_sum
  ends-sum unit l r g s s' = sticks
  ends-sum (inl v) l r g s s' = s v
  ends-sum (inr v) l r g s s' = s' v
  ends-sum (pair v w) l r g s s' = sticks
  ends-sum (roll v) l r g s s' = sticks

  pub ends-pair : (v : Val) (k : Val → Val → Run X) (g : ℕ) → ((w w' : Val) → EndsBy N Q (k w w' g)) → EndsBy N Q (on_pair v k g)
  unfolding on_pair
  ends-pair unit k g s = sticks
  ends-pair (inl v) k g s = sticks
  ends-pair (inr v) k g s = sticks
  ends-pair (pair v w) k g s = s v w
  ends-pair (roll v) k g s = sticks

  pub ends-roll : (v : Val) (k : Val → Run X) (g : ℕ) → ((w : Val) → EndsBy N Q (k w g)) → EndsBy N Q (on_roll v k g)
  unfolding on_roll
  ends-roll unit k g s = sticks
  ends-roll (inl v) k g s = sticks
  ends-roll (inr v) k g s = sticks
  ends-roll (pair v w) k g s = sticks
  ends-roll (roll v) k g s = s v

  pub ends-unit : (v : Val) (m : Run X) (g : ℕ) → EndsBy N Q (m g) → EndsBy N Q (on_unit v m g)
  unfolding on_unit
  ends-unit unit m g s = s
  ends-unit (inl v) m g s = sticks
  ends-unit (inr v) m g s = sticks
  ends-unit (pair v w) m g s = sticks
  ends-unit (roll v) m g s = sticks

  pub ends-map : {Q' : X → Type 0} {x : Res X} → ((y : X) → Q y → Q' y) → EndsBy N Q x → EndsBy N Q' x
  ends-map s (answers q) = answers (s _ q)
  ends-map s (refuses n) = refuses n
  ends-map s sticks = sticks

  pub ends-wider : {N' : ℕ → ℕ → Type 0} {x : Res X} → ((c k : ℕ) → N c k → N' c k) → EndsBy N Q x → EndsBy N' Q x
  ends-wider s (answers q) = answers q
  ends-wider s (refuses {c} {k} n) = refuses (s c k n)
  ends-wider s sticks = sticks

  -- what an ended run says
  pub answer-ends : {x : Res X} {y : X} {g : ℕ} → EndsBy N Q x → x ≡ ok y g → Q y
  answer-ends s p = go (subst (EndsBy N Q) p s)
    where
      go : {y : X} {g : ℕ} → EndsBy N Q (ok y g) → Q y
      go (answers q) = q

  pub refusal-ends : {x : Res X} {c k : ℕ} → EndsBy N Q x → x ≡ stop c k → N c k
  refusal-ends s p = go (subst (EndsBy N Q) p s)
    where
      go : {c k : ℕ} → EndsBy N Q (stop c k) → N c k
      go (refuses n) = n

----------------------------------------------------------------
-- Forward

module _ (fits : Val → Bool) (P : Program) where
  -- a run of a term ends with a value that fits
  abbrev pub EndsForward : (List Val → State → Term → Run Val) → Type 0
  EndsForward go = (a : List Val) (σ : State) (t : Term) (g : ℕ) → EndsBy ForwardNumber (λ v. fits v ≡ true) (go a σ t g)

  made_ends : (k : ℕ) (v : Val) (g : ℕ) → EndsBy ForwardNumber (λ v. fits v ≡ true) (made fits P k v g)
  unfolding made
  made_ends k v g = ends-test (fits v) 14 k g (give v) (omega arith) λ ft. answers ft

  module _ (go : List Val → State → Term → Run Val) (S : EndsForward go) where
    pub each-ends : (a : List Val) (σ : State) (ts : Terms) (g : ℕ) → EndsBy ForwardNumber (λ vs. Unit {0}) (each (go a σ) ts g)
    unfolding each
    each-ends a σ end g = answers tt
    each-ends a σ (more t ts) g = ends-after _ (S a σ t g) λ v g ft. ends-after _ (each-ends a σ ts g) λ vs g u. answers tt

    step-ends : EndsForward (forward_step fits P go)
    unfolding forward_step
    step-ends a σ (var k i) g = ends_some (known σ i) _ g λ v. made_ends k v g
    step-ends a σ (tunit k) g = made_ends k unit g
    step-ends a σ (tinl k c e) g = ends-after _ (S a σ e g) λ v g ft. made_ends k (inl v) g
    step-ends a σ (tinr k c e) g = ends-after _ (S a σ e g) λ v g ft. made_ends k (inr v) g
    step-ends a σ (tpair k e e') g = ends-after _ (S a σ e g) λ v g ft. ends-after _ (S a σ e' g) λ w g ft'. made_ends k (pair v w) g
    step-ends a σ (tlet k e b) g = ends-after _ (S a σ e g) λ v g ft. S a (some v ∷ σ) b g
    step-ends a σ (tletp k e b) g = ends-after _ (S a σ e g) λ p g ft. ends-pair p _ g λ v w. S a (some w ∷ some v ∷ σ) b g
    step-ends a σ (tcase k e b b') g = ends-after _ (S a σ e g) λ s g ft. ends-sum s _ _ g (λ v. S a (some v ∷ σ) b g) λ v.
        ends-after _ (S a (some v ∷ σ) b' g) λ w g ft'. ends-test (first_match a (length σ) e b w) 15 k g (give w) (omega arith) λ y. answers ft'
    step-ends a σ (tcall k j ts e) g = ends_some (nth P j) _ g λ h. ends-after _ (each-ends a σ ts g) λ vs g u.
        ends-after _ (S a σ e g) λ v g ft. S (scope vs []) (some v ∷ map some (scope vs [])) h.body g
    step-ends a σ (troll k c e) g = ends-after _ (S a σ e g) λ v g ft. made_ends k (roll v) g
    step-ends a σ (tunroll k c e) g = ends-after _ (S a σ e g) λ p g ft. ends-roll p _ g λ v. made_ends k v g

  pub forward-ends : (r : ℕ) → EndsForward (forward fits P r)
  unfolding forward
  forward-ends zero a σ t g = ends_enter (entry t) g (refuse 13 (entry t)) (omega arith) λ g. refuses {c = 13} (omega arith)
  forward-ends (suc r) a σ t g = ends_enter (entry t) g _ (omega arith) λ g. step-ends (forward fits P r) (forward-ends r) a σ t g

  pub run-forward-numbers : (r : ℕ) (h : Fun) (vs : List Val) (v : Val) (f : ℕ) → EndsBy ForwardNumber (λ w. fits w ≡ true) (run_forward fits P r h vs v f)
  unfolding run_forward
  run-forward-numbers r h vs v f = forward-ends r (scope vs []) (some v ∷ map some (scope vs [])) h.body f

  pub run-forward-ends : (r : ℕ) (h : Fun) (vs : List Val) (v : Val) (f : ℕ) → Ends (λ w. fits w ≡ true) (run_forward fits P r h vs v f)
  run-forward-ends r h vs v f = ends-wider (λ c k l. omega arith) (run-forward-numbers r h vs v f)

----------------------------------------------------------------
-- Typing

abbrev pub TypingNumber : ℕ → Type 0
TypingNumber n = (6 ≤ n) × (n ≤ 8)

-- accepted, or refused with a number of typing
data Numbered {X : Type 0} : Checked X → Type 0 where
  accepts : {x : X} → Numbered (good x)
  rejects : {n : ℕ} {p : Site} → TypingNumber n → Numbered (bad n p)

six : TypingNumber 6
six = omega arith

seven : TypingNumber 7
seven = omega arith

eight : TypingNumber 8
eight = omega arith

numbered-need : (b : Bool) {n : ℕ} (p : Site) → TypingNumber n → Numbered (need b n p)
unfolding need
numbered-need true p l = accepts
numbered-need false p l = rejects l

numbered-visible : (p : Site) (o : Option Binding) → Numbered (visible p o)
unfolding visible
numbered-visible p none = rejects seven
numbered-visible p (some (static c)) = accepts
numbered-visible p (some (dynamic m c)) = accepts
numbered-visible p (some (barred true c)) = accepts
numbered-visible p (some (barred false c)) = rejects eight

numbered_none : (ks : List ℕ) → Numbered (need_none ks)
unfolding need_none
numbered_none [] = accepts
numbered_none (k ∷ ks) = rejects eight

module _ {Y : Type 0} where
  numbered_bind : {X : Type 0} {m : Checked X} (k : X → Checked Y) → Numbered m → ((x : X) → Numbered (k x)) → Numbered (m >>= k)
  unfolding ◌>>=◌
  numbered_bind k (accepts {x}) s = s x
  numbered_bind k (rejects l) s = rejects l

  numbered-then : {m : Checked (Unit {0})} {k : Checked Y} → Numbered m → Numbered k → Numbered (m >> k)
  unfolding ◌>>◌
  numbered-then accepts s = s
  numbered-then (rejects l) s = rejects l

  numbered-test : (b : Bool) {n : ℕ} (p : Site) {k : Checked Y} → TypingNumber n → Numbered k → Numbered (need b n p >> k)
  numbered-test b p l s = numbered-then (numbered-need b p l) s

  numbered-sum : (p : Site) (c : Ty) (k : Ty → Ty → Checked Y) → ((a b : Ty) → Numbered (k a b)) → Numbered (as_sum p c k)
  unfolding as_sum
  numbered-sum p one k s = rejects six
  numbered-sum p (prod a b) k s = rejects six
  numbered-sum p (sum a b) k s = s a b
  numbered-sum p (mu a) k s = rejects six
  numbered-sum p (tyvar n) k s = rejects six

  numbered-prod : (p : Site) (c : Ty) (k : Ty → Ty → Checked Y) → ((a b : Ty) → Numbered (k a b)) → Numbered (as_prod p c k)
  unfolding as_prod
  numbered-prod p one k s = rejects six
  numbered-prod p (prod a b) k s = s a b
  numbered-prod p (sum a b) k s = rejects six
  numbered-prod p (mu a) k s = rejects six
  numbered-prod p (tyvar n) k s = rejects six

  numbered-mu : (p : Site) (c : Ty) (k : Ty → Checked Y) → ((a : Ty) → Numbered (k a)) → Numbered (as_mu p c k)
  unfolding as_mu
  numbered-mu p one k s = rejects six
  numbered-mu p (prod a b) k s = rejects six
  numbered-mu p (sum a b) k s = rejects six
  numbered-mu p (mu a) k s = s a
  numbered-mu p (tyvar n) k s = rejects six

  numbered-fun : (p : Site) (o : Option Fun) (k : Fun → Checked Y) → ((h : Fun) → Numbered (k h)) → Numbered (as_fun p o k)
  unfolding as_fun
  numbered-fun p none k s = rejects six
  numbered-fun p (some h) k s = s h

module _ (variables most : ℕ) (P : Program) where
  mutual
    unfolding infer

    term-numbered : (Δ : Context) (t : Term) → Numbered (infer variables most P Δ t)
    term-numbered Δ (var k i) = numbered-visible (term k) (look Δ i)
    term-numbered Δ (tunit k) = accepts
    term-numbered Δ (tinl k c e) = numbered-sum (term k) c _ λ a b. numbered_bind _ (term-numbered Δ e) λ d. numbered-test _ (term k) six accepts
    term-numbered Δ (tinr k c e) = numbered-sum (term k) c _ λ a b. numbered_bind _ (term-numbered Δ e) λ d. numbered-test _ (term k) six accepts
    term-numbered Δ (tpair k e e') = numbered_bind _ (term-numbered Δ e) λ a. numbered_bind _ (term-numbered Δ e') λ b. numbered-test _ (term k) six accepts
    term-numbered Δ (tlet k e b) = numbered-test _ (term k) seven (numbered_bind _ (term-numbered (mark (λ i. true) Δ) e) λ c.
        numbered_bind _ (term-numbered (dynamic false c ∷ Δ) b) λ τ. numbered-then (numbered_none _) accepts)
    term-numbered Δ (tletp k e b) = numbered-test _ (term k) seven (numbered_bind _ (term-numbered (mark (λ i. true) Δ) e) λ p.
        numbered-prod (term k) p _ λ c d.
        numbered_bind _ (term-numbered (dynamic false d ∷ dynamic false c ∷ Δ) b) λ τ. numbered-then (numbered_none _) accepts)
    term-numbered Δ (tcase k e b b') = numbered-test _ (term k) seven (numbered_bind _ (term-numbered Δ e) λ p. numbered-sum (term k) p _ λ c d.
        numbered_bind _ (term-numbered (dynamic false c ∷ Δ) b) λ τ.
        numbered-test _ (term k) eight (numbered_bind _ (term-numbered (dynamic false d ∷ Δ) b') λ τ'.
        numbered-test _ (term k) six (numbered-test _ (term k) eight accepts)))
    term-numbered Δ (tcall k g ts e) = numbered-fun (term k) (nth P g) _ λ h. numbered-test _ (term k) six
        (numbered-then (arguments-numbered k (bar Δ) ts h.ancillae) (numbered_bind _ (term-numbered Δ e) λ d. numbered-test _ (term k) six accepts))
    term-numbered Δ (troll k c e) = numbered-mu (term k) c _ λ a. numbered_bind _ (term-numbered Δ e) λ d. numbered-test _ (term k) six accepts
    term-numbered Δ (tunroll k c e) = numbered-mu (term k) c _ λ a. numbered-test _ (term k) six
        (numbered_bind _ (term-numbered Δ e) λ d. numbered-test _ (term k) six accepts)

    arguments-numbered : (k : ℕ) (Δ : Context) (ts : Terms) (cs : List Ty) → Numbered (infer_arguments variables most P k Δ ts cs)
    arguments-numbered k Δ end [] = accepts
    arguments-numbered k Δ end (c ∷ cs) = rejects six
    arguments-numbered k Δ (more t ts) [] = rejects six
    arguments-numbered k Δ (more t ts) (c ∷ cs) = numbered_bind _ (term-numbered Δ t) λ d. numbered-test _ (term k) six (arguments-numbered k Δ ts cs)

  functions-numbered : (g : ℕ) (hs : List Fun) → Numbered (check_funs variables most P g hs)
  unfolding check_funs check_fun
  functions-numbered g [] = accepts
  functions-numbered g (h ∷ hs) = numbered-then
      (numbered_bind _ (term-numbered _ h.body) λ τ. numbered-test _ (function g) six (numbered-need _ (function g) eight)) (functions-numbered (suc g) hs)

  -- a program that typing refuses is refused with 6 to 8
  pub check-number : {n : ℕ} {p : Site} → check variables most P ≡ bad n p → TypingNumber n
  unfolding check
  check-number e = go (subst Numbered e (functions-numbered 0 P))
    where
      go : {n : ℕ} {p : Site} → Numbered {X = Unit {0}} (bad n p) → TypingNumber n
      go (rejects l) = l
