-- States whose values have the variables' types.
use Prim.Native.Nat.{ℕ, suc, ◌+◌, ◌≤◌, ◌<◌}
use native.Mathlib.Omega.{arith}
use mathlib.Core.Path.{◌≡◌, refl, sym, ap, subst, ◌∙◌}
use mathlib.Core.Bool.{Bool, true, false, cond, ◌||◌, false≢true}
use mathlib.Core.Option.{Option, none, some}
use mathlib.Core.List.{List, [], ◌∷◌, map}
use lib.ListN.{length}
use lib.Dec.{eqb, eqb→eq, ltb, leb, leb→le, ltb→lt}
use package.Rattle.rules.specs.Val.{Val, unit, same}
use package.Rattle.rules.specs.Ty.{Ty, one, prod, sum, mu, tyvar, is_unit}
use package.Rattle.rules.specs.Term.{Term, look, used_in, inside, scope}
use package.Rattle.rules.specs.Run.{ok, Run, ◌>>=◌, give}
use package.Rattle.rules.specs.Machine.{State, known, bind_or, meet, leave, filled}
use package.Rattle.rules.proofs.OfType.{OfType, OfTypes}
use package.Rattle.rules.proofs.Basics.{given, none≢some, some_inj, or_elim}
use package.Rattle.rules.proofs.Directed.{Spent, allowed, lend, nothing}
use package.Rattle.rules.proofs.Fine.{Fine, fine, fine-after, fine-test}
use package.Rattle.rules.proofs.Known.{Knows, known-new, knows-push, knows-pop, Mono, Bound, mono-pop, bound-pop, knows-new}
use package.Rattle.rules.proofs.Known.{mono-set, mono-push, knows-full, Lent, lent_nothing, lent-push, lent_grow, lent-more}
use package.Rattle.rules.proofs.Scope.{look_lt, look_newest, length-scope}
use package.Rattle.rules.proofs.State.{Fit, fill, length-filled, Read, filled-read}
use package.Rattle.rules.proofs.Preserve.{types-length, scope-ty}

-- what is known of a variable has its type
abbrev OptTy : Option Val → Ty → Type 0
OptTy none c = Unit {0}
OptTy (some v) c = OfType v c

abbrev pub StateTy : State → List Ty → Type 0
StateTy [] [] = Unit {0}
StateTy [] (c ∷ Γ) = ⊥
StateTy (m ∷ σ) [] = ⊥
StateTy (m ∷ σ) (c ∷ Γ) = OptTy m c × StateTy σ Γ

pub state-length : (σ : State) (Γ : List Ty) → StateTy σ Γ → length σ ≡ length Γ
state-length [] [] h = refl
state-length [] (c ∷ Γ) h = absurd h
state-length (m ∷ σ) [] h = absurd h
state-length (m ∷ σ) (c ∷ Γ) h = ap suc (state-length σ Γ h.1)

pub state-known : (σ : State) (Γ : List Ty) (i : ℕ) (v : Val) (c : Ty) → StateTy σ Γ → known σ i ≡ some v → look Γ i ≡ some c → OfType v c
unfolding known look
state-known [] Γ i v c h p q = absurd (none≢some p)
state-known (m ∷ σ) [] i v c h p q = absurd h
state-known (m ∷ σ) (d ∷ Γ) i v c h p q = go (eqb i (length Γ)) m h.0 (rw (state-length σ Γ h.1) at p) q (λ x y. state-known σ Γ i v c h.1 x y)
  where
    go : (b : Bool) (m : Option Val) → OptTy m d → cond b m (known σ i) ≡ some v → cond b (some d) (look Γ i) ≡ some c
        → (known σ i ≡ some v → look Γ i ≡ some c → OfType v c) → OfType v c
    go true none h p q s = absurd (none≢some p)
    go true (some u) h p q s = subst (OfType v) (some_inj q) (subst (λ u. OfType u d) (some_inj p) h)
    go false m h p q s = s p q

pub state-full : (ρ : List Val) (Γ : List Ty) → OfTypes ρ Γ → StateTy (map some ρ) Γ
state-full [] [] h = tt
state-full [] (c ∷ Γ) h = absurd h
state-full (v ∷ ρ) [] h = absurd h
state-full (v ∷ ρ) (c ∷ Γ) h = (h.0, state-full ρ Γ h.1)

pub length-full : (ρ : List Val) → length (map some ρ) ≡ length ρ
length-full [] = refl
length-full (v ∷ ρ) = ap suc (length-full ρ)

-- the state gives every variable that `A` allows a value of its type
abbrev pub Gives : (ℕ → Bool) → State → List Ty → Type 0
Gives A σ Γ = (length σ ≡ length Γ) × ((i : ℕ) (c : Ty) → A i ≡ true → look Γ i ≡ some c → (v : Val) × (known σ i ≡ some v) × OfType v c)

pub gives-push : (A : ℕ → Bool) (v : Val) (c : Ty) (σ : State) (Γ : List Ty) → OfType v c → Gives A σ Γ → Gives A (some v ∷ σ) (c ∷ Γ)
unfolding known look
gives-push A v c σ Γ h (l, g) = (
  ap suc l,
  λ i d a p.
      subst (λ n. (u : Val) × (cond (eqb i n) (some v) (known σ i) ≡ some u) × OfType u d) (sym l) (go i d a (eqb i (length Γ)) p),
)
  where
    go : (i : ℕ) (d : Ty) → A i ≡ true → (b : Bool) → cond b (some c) (look Γ i) ≡ some d → (u : Val) × (cond b (some v) (known σ i) ≡ some u) × OfType u d
    go i d a true p = (v, refl, subst (OfType v) (some_inj p) h)
    go i d a false p = g i d a p

pub gives-full : (A : ℕ → Bool) (ρ : List Val) (Γ : List Ty) → OfTypes ρ Γ → Gives A (map some ρ) Γ
unfolding look
gives-full A [] [] h = (refl, λ i c a p. absurd (none≢some p))
gives-full A [] (c ∷ Γ) h = absurd h
gives-full A (v ∷ ρ) [] h = absurd h
gives-full A (v ∷ ρ) (c ∷ Γ) h = gives-push A v c (map some ρ) Γ h.0 (gives-full A ρ Γ h.1)

-- the state after a typed term ran back
abbrev pub Left : ℕ → List Ty → Term → State → State → Type 0
Left q Γ t σ σ' = StateTy σ' Γ × Mono σ σ' × Bound q Γ t σ'

unit-has : (c : Ty) → is_unit c ≡ true → OfType unit c
unit-has one u = tt
unit-has (prod a b) u = absurd (false≢true u)
unit-has (sum a b) u = absurd (false≢true u)
unit-has (mu a) u = absurd (false≢true u)
unit-has (tyvar n) u = absurd (false≢true u)

-- a term that is run forward in a backward run is given what it may name
pub gives-filled : (M : ℕ → Bool) (q : ℕ) (Γ : List Ty) (σ : State) → StateTy σ Γ → ((i : ℕ) → i < q → Knows σ i) → Lent M Γ σ
    → Gives (allowed M q (length Γ)) (filled σ) Γ
gives-filled M q Γ σ st anc lent = (
  length-filled σ ∙ l,
  λ i c a p.
      given (look_lt Γ i p) λ m. given (filled-read σ i (omega (arith, l, m))) λ (v, e, r). (v, e, go i c v a p (known σ i) refl r),
)
  where
    l : length σ ≡ length Γ
    l = state-length σ Γ st

    -- a variable that is not met is lent, and unit
    unmet : (i : ℕ) (c : Ty) → look Γ i ≡ some c → known σ i ≡ none → allowed M q (length Γ) i ≡ true → (b : Bool) → is_unit c ≡ b → OfType unit c
    unmet i c p e a true u = unit-has c u
    unmet i c p e a false u = or_elim (inside q (length Γ) i) (M i) (or_elim (ltb i q) (leb (length Γ) i) (λ x. clash (anc i (ltb→lt i q (rw x tt))))
        (λ x. absurd (omega (arith, look_lt Γ i p, leb→le (length Γ) i (rw x tt))))) (λ x. clash ((lent i x).1 c p u)) a
      where
        clash : Knows σ i → OfType unit c
        clash (v, k) = absurd (none≢some (sym e ∙ k))

    go : (i : ℕ) (c : Ty) (v : Val) → allowed M q (length Γ) i ≡ true → look Γ i ≡ some c → (o : Option Val) → known σ i ≡ o → Read (known σ i) v → OfType v c
    go i c v a p none e r = subst (λ v. OfType v c) (subst (λ o. Read o v) e r) (unmet i c p e a (is_unit c) refl)
    go i c v a p (some w) e r = subst (λ v. OfType v c) (subst (λ o. Read o v) e r) (state-known σ Γ i w c st e p)

pop-left : (q : ℕ) (Γ : List Ty) (c : Ty) (b : Term) (m₀ m : Option Val) (σ σ₂ : State) → length σ ≡ length Γ → Left q (c ∷ Γ) b (m₀ ∷ σ) (m ∷ σ₂) → Left q Γ b σ σ₂
pop-left q Γ c b m₀ m σ σ₂ l (st, mo, bd) =
    let z : length σ₂ ≡ length Γ = state-length σ₂ Γ st.1 in
    (st.1, mono-pop m₀ m σ σ₂ (omega arith) mo, bound-pop q Γ b c m σ₂ (omega arith) bd)

-- a variable that entered unknown and was never met is unit
unmet-unit : (q : ℕ) (Γ : List Ty) (c : Ty) (b : Term) (m₀ : Option Val) (σ σ₂ : State)
    → q ≤ length Γ → Spent (length Γ) c b → Left q (c ∷ Γ) b (m₀ ∷ σ) (none ∷ σ₂) → OfType unit c
unmet-unit q Γ c b m₀ σ σ₂ ql s L = typed (is_unit c) refl s
  where
    typed : (u : Bool) → is_unit c ≡ u → (u || used_in (length Γ) b) ≡ true → OfType unit c
    typed true e s = unit-has c e
    typed false e s = given (L.2 (length Γ) c (look_newest c Γ) e ql s) λ (v, p).
        absurd (none≢some (sym (known-new none σ₂) ∙ ap (λ l. known (none ∷ σ₂) l) (state-length σ₂ Γ L.0.1) ∙ p))

-- what an answer says of the newest variable that left
pub pop_inv : {X : Type 0} (k : Val → State → Run X) {f g : ℕ} {x : X} (q : ℕ) (Γ : List Ty) (c : Ty) (b : Term) (m₀ : Option Val) (σ σ₁ : State)
    → length σ ≡ length Γ → q ≤ length Γ → Spent (length Γ) c b → Left q (c ∷ Γ) b (m₀ ∷ σ) σ₁ → leave σ₁ k f ≡ ok x g
    → (m : Option Val) × (σ₂ : State) × (w : Val) × (σ₁ ≡ m ∷ σ₂) × Fit m w × OfType w c × Left q Γ b σ σ₂ × (k w σ₂ f ≡ ok x g)
unfolding leave
pop_inv k q Γ c b m₀ σ [] l ql s L p = absurd L.0
pop_inv k q Γ c b m₀ σ (some w ∷ σ₂) l ql s L p = (some w, σ₂, w, refl, refl, L.0.0, pop-left q Γ c b m₀ (some w) σ σ₂ l L, p)
pop_inv k q Γ c b m₀ σ (none ∷ σ₂) l ql s L p = (none, σ₂, unit, refl, tt, unmet-unit q Γ c b m₀ σ σ₂ ql s L, pop-left q Γ c b m₀ none σ σ₂ l L, p)

-- a state that knows all
pub fill-typed : (σ : State) (Γ : List Ty) → StateTy σ Γ → ((i : ℕ) → i < length σ → Knows σ i) → OfTypes (fill σ) Γ
unfolding fill
fill-typed [] [] st k = tt
fill-typed [] (c ∷ Γ) st k = absurd st
fill-typed (m ∷ σ) [] st k = absurd st
fill-typed (none ∷ σ) (c ∷ Γ) st k = given (k (length σ) (omega arith)) λ (v, p). absurd (none≢some (sym (known-new none σ) ∙ p))
fill-typed (some v ∷ σ) (c ∷ Γ) st k = (st.0, fill-typed σ Γ st.1 λ i l. knows-pop (some v) σ i l (k i (omega (arith, l))))

pub fine-pop : {X : Type 0} {Q : X → Type 0} (k : Val → State → Run X) (f q : ℕ) (Γ : List Ty) (c : Ty) (b : Term) (m₀ : Option Val) (σ σ₁ : State)
    → length σ ≡ length Γ → q ≤ length Γ → Spent (length Γ) c b → Left q (c ∷ Γ) b (m₀ ∷ σ) σ₁
    → ((w : Val) (σ₂ : State) → OfType w c → Left q Γ b σ σ₂ → Fine Q (k w σ₂ f)) → Fine Q (leave σ₁ k f)
unfolding leave
fine-pop k f q Γ c b m₀ σ [] l ql s (st, mo, bd) go = absurd st
fine-pop k f q Γ c b m₀ σ (some w ∷ σ₂) l ql s L go = go w σ₂ L.0.0 (pop-left q Γ c b m₀ (some w) σ σ₂ l L)
fine-pop k f q Γ c b m₀ σ (none ∷ σ₂) l ql s L go = go unit σ₂ (unmet-unit q Γ c b m₀ σ σ₂ ql s L) (pop-left q Γ c b m₀ none σ σ₂ l L)

-- a variable that entered bound leaves
pub fine-bound : (f q : ℕ) (Γ : List Ty) (c : Ty) (b : Term) (m₀ : Option Val) (σ σ₁ : State) → length σ ≡ length Γ → Left q (c ∷ Γ) b (m₀ ∷ σ) σ₁
    → Fine (Left q Γ b σ) (leave σ₁ (λ u σ₂. give σ₂) f)
unfolding leave
fine-bound f q Γ c b m₀ σ [] l L = absurd L.0
fine-bound f q Γ c b m₀ σ (none ∷ σ₂) l L = fine (pop-left q Γ c b m₀ none σ σ₂ l L)
fine-bound f q Γ c b m₀ σ (some w ∷ σ₂) l L = fine (pop-left q Γ c b m₀ (some w) σ σ₂ l L)

bind_or-safe : (k : ℕ) (m : Option Val) (v : Val) (f : ℕ) (c : Ty) → OptTy m c → OfType v c → Fine (λ m'. (w : Val) × (some w ≡ m') × OfType w c) (bind_or k m v f)
unfolding bind_or
bind_or-safe k none v f c h h' = fine (v, refl, h')
bind_or-safe k (some w) v f c h h' = fine-test (same w v) 16 k f (give (some w)) (fine (w, refl, h))

pub meet-safe : (k : ℕ) (σ : State) (i : ℕ) (v : Val) (f : ℕ) (Γ : List Ty) (c : Ty) → StateTy σ Γ → look Γ i ≡ some c → OfType v c
    → Fine (λ σ'. StateTy σ' Γ × Mono σ σ' × Knows σ' i) (meet k σ i v f)
unfolding meet look
meet-safe k [] i v f [] c st p h = absurd (none≢some p)
meet-safe k [] i v f (d ∷ Γ) c st p h = absurd st
meet-safe k (m ∷ σ) i v f [] c st p h = absurd st
meet-safe k (m ∷ σ) i v f (d ∷ Γ) c st p h =
    go (eqb i (length σ)) refl (rw (sym (state-length σ Γ st.1)) at p) (λ q. meet-safe k σ i v f Γ c st.1 q h)
  where
    go : (b : Bool) → eqb i (length σ) ≡ b → cond b (some d) (look Γ i) ≡ some c
        → (look Γ i ≡ some c → Fine (λ σ'. StateTy σ' Γ × Mono σ σ' × Knows σ' i) (meet k σ i v f))
        → Fine (λ σ'. StateTy σ' (d ∷ Γ) × Mono (m ∷ σ) σ' × Knows σ' i)
        (cond b (bind_or k m v >>= λ m'. give (m' ∷ σ)) (meet k σ i v >>= λ σ'. give (m ∷ σ')) f)
    go true e q s = fine-after _ (bind_or-safe k m v f d st.0 (subst (OfType v) (sym (some_inj q)) h)) λ m' g (w, x, hw).
        subst (λ m'. Fine (λ σ'. StateTy σ' (d ∷ Γ) × Mono (m ∷ σ) σ' × Knows σ' i) (ok (m' ∷ σ) g)) x
        (fine ((hw, st.1), mono-set m w σ, knows-new w σ i (eqb→eq i (length σ) (rw e tt))))
    go false e q s = fine-after _ (s q) λ σ₁ g (st₁, mo, kn).
        fine ((st.0, st₁), mono-push m σ σ₁ (state-length σ Γ st.1 ∙ sym (state-length σ₁ Γ st₁)) mo, knows-push m σ₁ i kn)

----------------------------------------------------------------
-- What holds where a typed term is run back

pub record Here (a : List Val) (q : ℕ) (M : ℕ → Bool) (Γ : List Ty) (σ : State) : Type 0 where
  pub state : StateTy σ Γ
  pub anc : (i : ℕ) → i < q → Knows σ i
  pub lent : Lent M Γ σ
  pub le : q ≤ length Γ
  pub parameters : length a ≡ q

module _ {a : List Val} {q : ℕ} {M : ℕ → Bool} {Γ : List Ty} {σ : State} where
  pub here-push : (c : Ty) → Here a q M Γ σ → Here a q M (c ∷ Γ) (none ∷ σ)
  here-push c h = record {
    state = (tt, h.state);
    anc = λ i l. knows-push none σ i (h.anc i l);
    lent = lent-push M Γ σ c none h.lent;
    le = omega (arith, h.le);
    parameters = h.parameters;
  }

  -- the same with the variable bound
  pub here-bound : (c : Ty) (v : Val) → OfType v c → Here a q M Γ σ → Here a q M (c ∷ Γ) (some v ∷ σ)
  here-bound c v hv h = record {
    state = (hv, h.state);
    anc = λ i l. knows-push (some v) σ i (h.anc i l);
    lent = lent-push M Γ σ c (some v) h.lent;
    le = omega (arith, h.le);
    parameters = h.parameters;
  }

  pub here_grow : (σ' : State) → Here a q M Γ σ → StateTy σ' Γ → Mono σ σ' → Here a q M Γ σ'
  here_grow σ' h st mo = record {
    state = st;
    anc = λ i l. mo i (h.anc i l);
    lent = lent_grow M Γ σ σ' mo h.lent;
    le = h.le;
    parameters = h.parameters;
  }

  -- the bound term of a let, once its body ran back
  pub here-lend : (b : Term) (σ' : State) → Here a q M Γ σ → Left q Γ b σ σ' → Here a q (lend M (length Γ) b) Γ σ'
  here-lend b σ' h (st, mo, bd) = record {
    state = st;
    anc = λ i l. mo i (h.anc i l);
    lent = lent-more M q Γ b σ' (λ i l. mo i (h.anc i l)) bd (lent_grow M Γ σ σ' mo h.lent);
    le = h.le;
    parameters = h.parameters;
  }

-- the body of a function
pub here-call : (vs : List Val) (cs : List Ty) (c : Ty) → OfTypes vs cs
    → Here (scope vs []) (length cs) nothing (c ∷ scope cs []) (none ∷ map some (scope vs []))
here-call vs cs c h =
    let l₁ : length (scope vs []) ≡ length vs + 0 = length-scope vs [] in
    let l₂ : length vs ≡ length cs = types-length vs cs h in
    let l₃ : length (scope cs []) ≡ length cs + 0 = length-scope cs [] in
    record {
      state = (tt, state-full (scope vs []) _ (scope-ty vs cs [] [] h tt));
      anc = λ i l. knows-push none _ i (knows-full (scope vs []) i (omega arith));
      lent = lent_nothing (c ∷ scope cs []) (none ∷ map some (scope vs []));
      le = omega arith;
      parameters = omega arith;
    }
