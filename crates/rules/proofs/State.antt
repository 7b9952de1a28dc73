-- Laws of states: what a state says of a scope, and how a state changes where a variable is met or leaves.
use Prim.Native.Nat.{ℕ, suc, ◌<◌}
use native.Mathlib.Omega.{arith}
use native.Mathlib.Decide.{ℕ_discrete}
use mathlib.Core.Path.{◌≡◌, refl, sym, ap, ap₂, subst, ◌∙◌}
use mathlib.Core.Bool.{Bool, true, false, cond, false≢true}
use mathlib.Core.Option.{Option, none, some}
use mathlib.Core.List.{List, [], ◌∷◌, map}
use lib.ListN.{length}
use lib.Dec.{eqb}
use package.Rattle.rules.specs.Val.{Val, unit, same}
use package.Rattle.rules.specs.Term.{look}
use package.Rattle.rules.specs.Run.{ok, Run, ◌>>=◌, give}
use package.Rattle.rules.specs.Machine.{State, known, bind_or, meet, leave, filled}
use package.Rattle.rules.proofs.Basics.{none≢some, eqb_yes}
use package.Rattle.rules.proofs.Run.{unbind, stuck≢ok, ok-value, ok-fuel, test_inv}
use package.Rattle.rules.proofs.Val.{same_eq}

----------------------------------------------------------------
-- A state agrees with a scope: it says of the variables nothing but what is so

abbrev pub Fit : Option Val → Val → Type 0
Fit none v = Unit {0}
Fit (some w) v = w ≡ v

abbrev pub Agree : State → List Val → Type 0
Agree [] [] = Unit {0}
Agree [] (v ∷ ρ) = ⊥
Agree (m ∷ σ) [] = ⊥
Agree (m ∷ σ) (v ∷ ρ) = Fit m v × Agree σ ρ

pub agree-full : (ρ : List Val) → Agree (map some ρ) ρ
agree-full [] = tt
agree-full (v ∷ ρ) = (refl, agree-full ρ)

pub agree-length : (σ : State) (ρ : List Val) → Agree σ ρ → length σ ≡ length ρ
agree-length [] [] h = refl
agree-length [] (v ∷ ρ) h = absurd h
agree-length (m ∷ σ) [] h = absurd h
agree-length (m ∷ σ) (v ∷ ρ) h = ap suc (agree-length σ ρ h.1)

pub full-agree : (ρ ρ' : List Val) → Agree (map some ρ) ρ' → ρ ≡ ρ'
full-agree [] [] h = refl
full-agree [] (v ∷ ρ') h = absurd h
full-agree (v ∷ ρ) [] h = absurd h
full-agree (v ∷ ρ) (v' ∷ ρ') h = ap₂ ◌∷◌ h.0 (full-agree ρ ρ' h.1)

-- some scope that agrees with a state
unfoldable pub fill : State → List Val
fill [] = []
fill (none ∷ σ) = unit ∷ fill σ
fill (some v ∷ σ) = v ∷ fill σ

pub agree-fill : (σ : State) → Agree σ (fill σ)
unfolding fill
agree-fill [] = tt
agree-fill (none ∷ σ) = (tt, agree-fill σ)
agree-fill (some v ∷ σ) = (refl, agree-fill σ)

pick : (b : Bool) (m : Option Val) (v : Val) (x y : Option Val) (w : Val) → Fit m v → (x ≡ some w → y ≡ some w) → cond b m x ≡ some w → cond b (some v) y ≡ some w
pick true none v x y w h k p = absurd (none≢some p)
pick true (some u) v x y w h k p = cc
pick false m v x y w h k p = k p

pub known_look : (σ : State) (ρ : List Val) (i : ℕ) {w : Val} → Agree σ ρ → known σ i ≡ some w → look ρ i ≡ some w
unfolding known look
known_look [] ρ i h p = absurd (none≢some p)
known_look (m ∷ σ) [] i h p = absurd h
known_look (m ∷ σ) (v ∷ ρ) i {w} h p = pick (eqb i (length ρ)) m v (known σ i) (look ρ i) w h.0 (known_look σ ρ i h.1) (rw (agree-length σ ρ h.1) at p)

----------------------------------------------------------------
-- A state is enough for a term: it knows the variables that `A` allows

abbrev pub Enough : (ℕ → Bool) → State → List Val → Type 0
Enough A σ ρ = (length σ ≡ length ρ) × ((i : ℕ) → A i ≡ true → known σ i ≡ look ρ i)

pub extend : (A : ℕ → Bool) (σ : State) (ρ : List Val) (v : Val) → Enough A σ ρ → Enough A (some v ∷ σ) (v ∷ ρ)
unfolding known look
extend A σ ρ v (l, e) = (ap suc l, λ i h. rw (l, e i h))

pub full : (A : ℕ → Bool) (ρ : List Val) → Enough A (map some ρ) ρ
unfolding known look
full A [] = (refl, λ i h. refl)
full A (v ∷ ρ) = extend A (map some ρ) ρ v (full A ρ)

----------------------------------------------------------------
-- Variables are met, and leave

-- a variable left the scope: what it was, and what is left
pub leave_inv : {B : Type 0} (σ : State) (k : Val → State → Run B) {f g : ℕ} {x : B} → leave σ k f ≡ ok x g
    → (m : Option Val) × (σ' : State) × (w : Val) × (σ ≡ m ∷ σ') × Fit m w × (k w σ' f ≡ ok x g)
unfolding leave
leave_inv [] k p = absurd (stuck≢ok p)
leave_inv (none ∷ σ) k p = (none, σ, unit, refl, tt, p)
leave_inv (some v ∷ σ) k p = (some v, σ, v, refl, refl, p)

pub bind_or-sound : (k : ℕ) (m : Option Val) (v : Val) (f : ℕ) (m' : Option Val) (g : ℕ) → bind_or k m v f ≡ ok m' g → (some v ≡ m') × Fit m v × (f ≡ g)
unfolding bind_or
bind_or-sound k none v f m' g p = (ok-value p, tt, ok-fuel p)
bind_or-sound k (some w) v f m' g p =
    let (t, q) = test_inv (same w v) _ _ _ p in
    let e : w ≡ v = same_eq w v t in
    (ap some (sym e) ∙ ok-value q, e, ok-fuel q)

look_new : (σ : State) (ρ : List Val) (i : ℕ) (v u : Val) → length σ ≡ length ρ → eqb i (length σ) ≡ true → v ≡ u → look (u ∷ ρ) i ≡ some v
unfolding look
look_new σ ρ i v u l e h = rw (← l, e, h) refl

look_old : (σ : State) (ρ : List Val) (i : ℕ) (v u : Val) → length σ ≡ length ρ → eqb i (length σ) ≡ false → look ρ i ≡ some v → look (u ∷ ρ) i ≡ some v
unfolding look
look_old σ ρ i v u l e h = rw (← l, e) h

-- after a variable was met with `v`
pub meet-sound : (k : ℕ) (σ : State) (i : ℕ) (v : Val) (f : ℕ) (σ' : State) (g : ℕ) → meet k σ i v f ≡ ok σ' g → (ρ : List Val) → Agree σ' ρ
    → (look ρ i ≡ some v) × Agree σ ρ × (f ≡ g)
unfolding meet
meet-sound k [] i v f σ' g p ρ h = absurd (stuck≢ok p)
meet-sound k (m ∷ σ) i v f σ' g p ρ h = go (eqb i (length σ)) refl p (λ σ₁ g₁ p₁ ρ₁ h₁. meet-sound k σ i v f σ₁ g₁ p₁ ρ₁ h₁)
  where
    new : (ρ : List Val) → eqb i (length σ) ≡ true → Fit m v → Agree (some v ∷ σ) ρ → (look ρ i ≡ some v) × Agree (m ∷ σ) ρ
    new [] e ft h = absurd h
    new (u ∷ ρ) e ft h = (look_new σ ρ i v u (agree-length σ ρ h.1) e h.0, (subst (Fit m) h.0 ft, h.1))

    old : (σ₁ : State) (ρ : List Val) → eqb i (length σ) ≡ false → Agree (m ∷ σ₁) ρ
        → ((ρ₁ : List Val) → Agree σ₁ ρ₁ → (look ρ₁ i ≡ some v) × Agree σ ρ₁ × (f ≡ g)) → (look ρ i ≡ some v) × Agree (m ∷ σ) ρ × (f ≡ g)
    old σ₁ [] e h s = absurd h
    old σ₁ (u ∷ ρ) e h s =
        let (x, y, z) = s ρ h.1 in
        (look_old σ ρ i v u (agree-length σ ρ y) e x, (h.0, y), z)

    go : (b : Bool) → eqb i (length σ) ≡ b
        → cond b (bind_or k m v >>= λ m'. give (m' ∷ σ)) (meet k σ i v >>= λ σ'. give (m ∷ σ')) f ≡ ok σ' g
        → ((σ₁ : State) (g₁ : ℕ) → meet k σ i v f ≡ ok σ₁ g₁ → (ρ₁ : List Val) → Agree σ₁ ρ₁ → (look ρ₁ i ≡ some v) × Agree σ ρ₁ × (f ≡ g₁))
        → (look ρ i ≡ some v) × Agree (m ∷ σ) ρ × (f ≡ g)
    go true e q s =
        let (m', f₁, p₁, q₁) = unbind _ _ q in
        let (x, ft, y) = bind_or-sound k m v f m' f₁ p₁ in
        let (z, w) = new ρ e ft (subst (λ σ'. Agree σ' ρ) (sym (ok-value q₁) ∙ ap (λ m. m ∷ σ) (sym x)) h) in
        (z, w, y ∙ ok-fuel q₁)
    go false e q s =
        let (σ₁, f₁, p₁, q₁) = unbind _ _ q in
        old σ₁ ρ e (subst (λ σ'. Agree σ' ρ) (sym (ok-value q₁)) h) (λ ρ₁ h₁. let (x, y, z) = s σ₁ f₁ p₁ ρ₁ h₁ in (x, y, z ∙ ok-fuel q₁))

----------------------------------------------------------------
-- What a term reads that is run forward in a backward run (02, F-2)

pub length-filled : (σ : State) → length (filled σ) ≡ length σ
unfolding filled
length-filled [] = refl
length-filled (none ∷ σ) = ap suc (length-filled σ)
length-filled (some v ∷ σ) = ap suc (length-filled σ)

-- what is known, or unit
abbrev pub Read : Option Val → Val → Type 0
Read none v = unit ≡ v
Read (some w) v = w ≡ v

filled-step : (m : Option Val) (w : Val) (σ : State) (i : ℕ) → Read m w → i < suc (length σ)
    → (i < length σ → (v : Val) × (known (filled σ) i ≡ some v) × Read (known σ i) v)
    → (v : Val) × (known (some w ∷ filled σ) i ≡ some v) × Read (known (m ∷ σ) i) v
unfolding known
filled-step m w σ i r l s = subst (λ n. (v : Val) × (cond (eqb i n) (some w) (known (filled σ) i) ≡ some v) × Read (cond (eqb i (length σ)) m (known σ i)) v)
    (sym (length-filled σ)) (go (eqb i (length σ)) refl)
  where
    go : (b : Bool) → eqb i (length σ) ≡ b → (v : Val) × (cond b (some w) (known (filled σ) i) ≡ some v) × Read (cond b m (known σ i)) v
    go true e = (w, refl, r)
    go false e = s (older (ℕ_discrete i (length σ)) e)
      where
        older : Dec (i ≡ length σ) → eqb i (length σ) ≡ false → i < length σ
        older (yes x) e = absurd (false≢true (sym e ∙ ap (λ n. eqb n (length σ)) x ∙ eqb_yes (length σ)))
        older (no x) e = omega arith

pub filled-read : (σ : State) (i : ℕ) → i < length σ → (v : Val) × (known (filled σ) i ≡ some v) × Read (known σ i) v
unfolding filled
filled-read [] i l = absurd (omega arith)
filled-read (none ∷ σ) i l = filled-step none unit σ i refl l (filled-read σ i)
filled-read (some w ∷ σ) i l = filled-step (some w) w σ i refl l (filled-read σ i)
