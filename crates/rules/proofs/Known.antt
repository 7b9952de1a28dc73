-- Which variables a state knows: it knows no fewer after a run, and after a typed term ran back it knows what the term uses.
use Prim.Native.Nat.{ℕ, suc, ◌≤◌, ◌<◌}
use native.Mathlib.Omega.{arith}
use native.Mathlib.Decide.{dec_lt}
use mathlib.Core.Path.{◌≡◌, refl, sym, ap, subst, ◌∙◌}
use mathlib.Core.Bool.{Bool, true, false, cond, ◌&&◌, ◌||◌, false≢true}
use mathlib.Core.Option.{Option, none, some}
use mathlib.Core.List.{List, [], ◌∷◌, map}
use mathlib.Core.Logic.{◌⊎◌, inl as left, inr as right}
use lib.ListN.{length}
use lib.Dec.{eqb, eqb→eq, ltb, leb, leb→le, ltb→lt}
use package.Rattle.rules.specs.Val.{Val, unit, inl, inr, pair, roll}
use package.Rattle.rules.specs.Ty.{Ty, one, prod, sum, mu, tyvar, is_unit}
use package.Rattle.rules.specs.Term.{Term, tcase, look, used_in, inside}
use package.Rattle.rules.specs.Machine.{State, known, filled}
use package.Rattle.rules.proofs.OfType.{OfType, OfTypes}
use package.Rattle.rules.proofs.Basics.{given, none≢some, and_both, or_cases, or_elim, or_same, eqb_yes, eqb_no}
use package.Rattle.rules.proofs.Choice.{scrutinee-unused}
use package.Rattle.rules.proofs.Directed.{Within, Spent, SameUse, allowed, lend, nothing}
use package.Rattle.rules.proofs.Scope.{look_lt, look_skip, look_newest, look_none, look_there}
use package.Rattle.rules.proofs.State.{Agree, agree-full, agree-length, known_look, Enough, length-filled, Read, filled-read}
use package.Rattle.rules.proofs.Preserve.{types-length, env_look}

-- the state knows variable `i`
abbrev pub Knows : State → ℕ → Type 0
Knows σ i = (v : Val) × (known σ i ≡ some v)

pub known_lt : (σ : State) (i : ℕ) → Knows σ i → i < length σ
unfolding known
known_lt [] i (v, p) = absurd (none≢some p)
known_lt (m ∷ σ) i (v, p) = go (eqb i (length σ)) refl p (λ q. known_lt σ i (v, q))
  where
    go : (b : Bool) → eqb i (length σ) ≡ b → cond b m (known σ i) ≡ some v → (known σ i ≡ some v → i < length σ) → i < suc (length σ)
    go true e q s = let z : i ≡ length σ = eqb→eq i (length σ) (rw e tt) in omega arith
    go false e q s = let z : i < length σ = s q in omega arith

pub known_skip : (m : Option Val) (σ : State) (i : ℕ) → i < length σ → known (m ∷ σ) i ≡ known σ i
unfolding known
known_skip m σ i h = rw (eqb_no i (length σ) h)

pub known-new : (m : Option Val) (σ : State) → known (m ∷ σ) (length σ) ≡ m
unfolding known
known-new m σ = rw (eqb_yes (length σ))

pub knows-push : (m : Option Val) (σ : State) (i : ℕ) → Knows σ i → Knows (m ∷ σ) i
knows-push m σ i h = (h.0, known_skip m σ i (known_lt σ i h) ∙ h.1)

pub knows-pop : (m : Option Val) (σ : State) (i : ℕ) → i < length σ → Knows (m ∷ σ) i → Knows σ i
knows-pop m σ i l h = (h.0, sym (known_skip m σ i l) ∙ h.1)

-- what is known before is known after
abbrev pub Mono : State → State → Type 0
Mono σ σ' = (i : ℕ) → Knows σ i → Knows σ' i

-- the term's dynamic variables that are not unit are known
abbrev pub Bound : ℕ → List Ty → Term → State → Type 0
Bound q Γ t σ = (i : ℕ) (c : Ty) → look Γ i ≡ some c → is_unit c ≡ false → q ≤ i → used_in i t ≡ true → Knows σ i

-- the state after a term ran back
abbrev pub After : ℕ → List Ty → Term → List Val → State → State → Type 0
After q Γ t ρ σ σ' = Agree σ' ρ × Mono σ σ' × Bound q Γ t σ'

pub mono-pop : (m m' : Option Val) (σ σ' : State) → length σ ≡ length σ' → Mono (m ∷ σ) (m' ∷ σ') → Mono σ σ'
mono-pop m m' σ σ' l h i k = let z : i < length σ = known_lt σ i k in knows-pop m' σ' i (omega arith) (h i (knows-push m σ i k))

pub bound-pop : (q : ℕ) (Γ : List Ty) (t : Term) (c : Ty) (m : Option Val) (σ : State) → length Γ ≡ length σ → Bound q (c ∷ Γ) t (m ∷ σ) → Bound q Γ t σ
bound-pop q Γ t c m σ l h i d p u ql s =
    let z : i < length Γ = look_lt Γ i p in
    knows-pop m σ i (omega arith) (h i d (look_skip Γ c i z ∙ p) u ql s)

pub unit_val : (w : Val) (c : Ty) → is_unit c ≡ true → OfType w c → unit ≡ w
unit_val w (prod a b) u h = absurd (false≢true u)
unit_val w (sum a b) u h = absurd (false≢true u)
unit_val w (mu a) u h = absurd (false≢true u)
unit_val w (tyvar n) u h = absurd (false≢true u)
unit_val w one u h = go w h
  where
    go : (w : Val) → OfType w one → unit ≡ w
    go unit h = refl
    go (inl v) h = absurd h
    go (inr v) h = absurd h
    go (pair v v') h = absurd h
    go (roll v) h = absurd h

-- a bound variable's value is known after its scope has run, or is unit
pub determined : (q : ℕ) (Γ : List Ty) (c : Ty) (w : Val) (b : Term) (σ : State) → q ≤ length Γ → OfType w c → Spent (length Γ) c b → Bound q (c ∷ Γ) b σ
    → Knows σ (length Γ) ⊎ (unit ≡ w)
determined q Γ c w b σ ql h s k = go (is_unit c) refl s
  where
    go : (u : Bool) → is_unit c ≡ u → (u || used_in (length Γ) b) ≡ true → Knows σ (length Γ) ⊎ (unit ≡ w)
    go true e s = right (unit_val w c e h)
    go false e s = left (k (length Γ) c (look_newest c Γ) e ql s)

pub known_none : (σ : State) (i : ℕ) → length σ ≤ i → known σ i ≡ none
known_none σ i l = go (known σ i) refl
  where
    go : (o : Option Val) → known σ i ≡ o → known σ i ≡ none
    go none e = e
    go (some v) e = absurd (let z : i < length σ = known_lt σ i (v, e) in omega arith)

pub knows_cases : (m : Option Val) (σ : State) (i : ℕ) → Knows (m ∷ σ) i → ((i ≡ length σ) × ((v : Val) × (m ≡ some v))) ⊎ Knows σ i
unfolding known
knows_cases m σ i (v, p) = go (eqb i (length σ)) refl p
  where
    go : (b : Bool) → eqb i (length σ) ≡ b → cond b m (known σ i) ≡ some v → ((i ≡ length σ) × ((v : Val) × (m ≡ some v))) ⊎ Knows σ i
    go true e q = left (eqb→eq i (length σ) (rw e tt), (v, q))
    go false e q = right (v, q)

pub knows-new : (v : Val) (σ : State) (i : ℕ) → i ≡ length σ → Knows (some v ∷ σ) i
knows-new v σ i e = (v, ap (λ i. known (some v ∷ σ) i) e ∙ known-new (some v) σ)

pub mono-set : (m : Option Val) (v : Val) (σ : State) → Mono (m ∷ σ) (some v ∷ σ)
mono-set m v σ i k = go (knows_cases m σ i k)
  where
    go : ((i ≡ length σ) × ((v : Val) × (m ≡ some v))) ⊎ Knows σ i → Knows (some v ∷ σ) i
    go (left (e, x)) = knows-new v σ i e
    go (right h) = knows-push (some v) σ i h

pub mono-push : (m : Option Val) (σ σ' : State) → length σ ≡ length σ' → Mono σ σ' → Mono (m ∷ σ) (m ∷ σ')
mono-push m σ σ' l h i k = go (knows_cases m σ i k)
  where
    go : ((i ≡ length σ) × ((v : Val) × (m ≡ some v))) ⊎ Knows σ i → Knows (m ∷ σ') i
    go (left (e, (v, x))) = (v, ap (λ i. known (m ∷ σ') i) (e ∙ l) ∙ known-new m σ' ∙ x)
    go (right h') = knows-push m σ' i (h i h')

pub knows-full : (ρ : List Val) (i : ℕ) → i < length ρ → Knows (map some ρ) i
knows-full [] i h = absurd (omega arith)
knows-full (v ∷ ρ) i h = go (dec_lt i (length ρ)) (λ l. knows-full ρ i l)
  where
    go : Dec (i < length ρ) → (i < length ρ → Knows (map some ρ) i) → Knows (some v ∷ map some ρ) i
    go (yes l) s = knows-push (some v) (map some ρ) i (s l)
    go (no l) s = let z : length (map some ρ) ≡ length ρ = agree-length (map some ρ) ρ (agree-full ρ) in knows-new v (map some ρ) i (omega arith)

pub bound-both : (q : ℕ) (Γ : List Ty) (e b : Term) (σ σ' : State) → Mono σ σ' → Bound q Γ e σ → Bound q Γ b σ'
    → (i : ℕ) (c : Ty) → look Γ i ≡ some c → is_unit c ≡ false → q ≤ i → (used_in i e || used_in i b) ≡ true → Knows σ' i
bound-both q Γ e b σ σ' mo h h' i c p u ql s = go (or_cases (used_in i e) (used_in i b) s)
  where
    go : (used_in i e ≡ true) ⊎ (used_in i b ≡ true) → Knows σ' i
    go (left x) = mo i (h i c p u ql x)
    go (right x) = h' i c p u ql x

pub bound_let : (q : ℕ) (Γ : List Ty) (e b : Term) (σ σ' : State) → Mono σ σ' → Bound q Γ e σ' → Bound q Γ b σ
    → (i : ℕ) (c : Ty) → look Γ i ≡ some c → is_unit c ≡ false → q ≤ i → (used_in i e || used_in i b) ≡ true → Knows σ' i
bound_let q Γ e b σ σ' mo h h' i c p u ql s = go (or_cases (used_in i e) (used_in i b) s)
  where
    go : (used_in i e ≡ true) ⊎ (used_in i b ≡ true) → Knows σ' i
    go (left x) = h i c p u ql x
    go (right x) = mo i (h' i c p u ql x)

-- what either branch of a case uses is known
abbrev pub Either : ℕ → List Ty → Term → Term → State → Type 0
Either q Γ b b' σ = (i : ℕ) (c : Ty) → look Γ i ≡ some c → is_unit c ≡ false → q ≤ i → (used_in i b || used_in i b') ≡ true → Knows σ i

-- a branch binds what either branch uses
pub bound-left : (q : ℕ) (Γ : List Ty) (b b' : Term) (σ : State) → SameUse q Γ b b' → Bound q Γ b σ → Either q Γ b b' σ
bound-left q Γ b b' σ su h i c p u ql s = h i c p u ql (or_same (used_in i b) (used_in i b') (su i c p u ql) s)

pub bound-right : (q : ℕ) (Γ : List Ty) (b b' : Term) (σ : State) → SameUse q Γ b b' → Bound q Γ b' σ → Either q Γ b b' σ
bound-right q Γ b b' σ su h i c p u ql s = h i c p u ql (sym (su i c p u ql) ∙ or_same (used_in i b) (used_in i b') (su i c p u ql) s)

-- a case that is under first match: its branch ran back to `σ₂`, then its scrutinee
pub bound-matched : (q : ℕ) (Γ : List Ty) (k : ℕ) (e b b' : Term) (σ₂ σ' : State) → Mono σ₂ σ' → Bound q Γ e σ' → Either q Γ b b' σ₂
    → Bound q Γ (tcase k e b b') σ'
bound-matched q Γ k e b b' σ₂ σ' mo bd ei i c p u ql s =
    or_elim (used_in i e) (used_in i b || used_in i b') (bd i c p u ql) (λ x. mo i (ei i c p u ql x)) s

-- a case that chooses by an ancilla (02, F-3): its scrutinee uses no dynamic variable
pub bound-chosen : (q : ℕ) (Γ : List Ty) (k : ℕ) (e b b' : Term) (σ : State) → Within (inside q (length Γ)) e → Either q Γ b b' σ
    → Bound q Γ (tcase k e b b') σ
bound-chosen q Γ k e b b' σ w ei i c p u ql s =
    or_elim (used_in i e) (used_in i b || used_in i b') (λ x. absurd (scrutinee-unused q (length Γ) e w i ql (look_lt Γ i p) x)) (ei i c p u ql) s

----------------------------------------------------------------
-- Variables that are lent (02, F-2)

-- every variable of `M` is in scope, and known unless it is unit
abbrev pub Lent : (ℕ → Bool) → List Ty → State → Type 0
Lent M Γ σ = (i : ℕ) → M i ≡ true → (i < length Γ) × ((c : Ty) → look Γ i ≡ some c → is_unit c ≡ false → Knows σ i)

pub lent_nothing : (Γ : List Ty) (σ : State) → Lent nothing Γ σ
lent_nothing Γ σ i x = absurd (false≢true x)

pub lent-push : (M : ℕ → Bool) (Γ : List Ty) (σ : State) (c : Ty) (m : Option Val) → Lent M Γ σ → Lent M (c ∷ Γ) (m ∷ σ)
lent-push M Γ σ c m h i x = given (h i x) λ (l, k). (omega (arith, l), λ d p u. knows-push m σ i (k d (sym (look_skip Γ c i l) ∙ p) u))

pub lent_grow : (M : ℕ → Bool) (Γ : List Ty) (σ σ' : State) → Mono σ σ' → Lent M Γ σ → Lent M Γ σ'
lent_grow M Γ σ σ' mo h i x = given (h i x) λ (l, k). (l, λ c p u. mo i (k c p u))

-- once the body of a let ran back, its bound term is lent what the body uses
pub lent-more : (M : ℕ → Bool) (q : ℕ) (Γ : List Ty) (b : Term) (σ : State) → ((i : ℕ) → i < q → Knows σ i) → Bound q Γ b σ
    → Lent M Γ σ → Lent (lend M (length Γ) b) Γ σ
lent-more M q Γ b σ anc bd h i = or_elim (M i) (ltb i (length Γ) && used_in i b) (h i) λ x. given (and_both (ltb i (length Γ)) (used_in i b) x) λ (l, y).
    (ltb→lt i (length Γ) (rw l tt), λ c p u. go c p u y (dec_lt i q))
  where
    go : (c : Ty) → look Γ i ≡ some c → is_unit c ≡ false → used_in i b ≡ true → Dec (i < q) → Knows σ i
    go c p u y (yes x) = anc i x
    go c p u y (no x) = bd i c p u (omega arith) y

-- what a term may name that is run forward in a backward run, it reads as it is
pub enough-filled : (M : ℕ → Bool) (q : ℕ) (Γ : List Ty) (σ : State) (ρ : List Val) → Agree σ ρ → OfTypes ρ Γ → ((i : ℕ) → i < q → Knows σ i) → Lent M Γ σ
    → Enough (allowed M q (length Γ)) (filled σ) ρ
enough-filled M q Γ σ ρ h env anc lent = (
  length-filled σ ∙ agree-length σ ρ h,
  λ i s. or_elim (inside q (length Γ) i) (M i) (or_elim (ltb i q) (leb (length Γ) i)
      (λ x. met i (anc i (ltb→lt i q (rw x tt)))) (λ x. beyond i (leb→le (length Γ) i (rw x tt))))
      (λ x. given (lent i x) λ (l, k). given (look_there Γ i l) λ (c, p). named i l c p (is_unit c) refl (k c p)) s,
)
  where
    l₁ : length ρ ≡ length Γ
    l₁ = types-length ρ Γ env

    l₂ : length σ ≡ length ρ
    l₂ = agree-length σ ρ h

    -- a variable that is met
    met : (i : ℕ) → Knows σ i → known (filled σ) i ≡ look ρ i
    met i (v, e) = given (filled-read σ i (known_lt σ i (v, e))) λ (w, p, r). p ∙ ap some (sym (subst (λ o. Read o w) e r)) ∙ sym (known_look σ ρ i h e)

    beyond : (i : ℕ) → length Γ ≤ i → known (filled σ) i ≡ look ρ i
    beyond i l = known_none (filled σ) i (omega (arith, l, l₁, l₂, length-filled σ)) ∙ sym (look_none ρ i (omega (arith, l, l₁)))

    named : (i : ℕ) → i < length Γ → (c : Ty) → look Γ i ≡ some c → (b : Bool) → is_unit c ≡ b → (is_unit c ≡ false → Knows σ i) → known (filled σ) i ≡ look ρ i
    named i l c p false u k = met i (k u)
    named i l c p true u k = at (known σ i) refl
      where
        at : (o : Option Val) → known σ i ≡ o → known (filled σ) i ≡ look ρ i
        at (some v) e = met i (v, e)
        at none e = given (filled-read σ i (omega (arith, l, l₁, l₂))) λ (w, x, r). given (look_there ρ i (omega (arith, l, l₁))) λ (v, y).
            x ∙ ap some (sym (subst (λ o. Read o w) e r) ∙ unit_val v c u (env_look ρ Γ i v c env y p)) ∙ sym y
