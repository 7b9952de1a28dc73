-- Good runs backward: a variable is met, the newest variable leaves the scope.
use Prim.Native.Nat.{ℕ, ◌+◌, ◌≤◌, ◌<◌}
use native.Mathlib.Omega.{arith}
use mathlib.Core.Path.{◌≡◌, refl, sym, ap, subst, ◌∙◌}
use mathlib.Core.Bool.{Bool, true, false, cond}
use mathlib.Core.Option.{Option, none, some}
use mathlib.Core.List.{List, [], ◌∷◌, map}
use mathlib.Core.Logic.{◌⊎◌, inl as left, inr as right}
use lib.ListN.{length}
use lib.Dec.{eqb, eqb→eq}
use package.Rattle.rules.specs.Val.{Val, unit, same}
use package.Rattle.rules.specs.Ty.{Ty}
use package.Rattle.rules.specs.Term.{Term, look, scope}
use package.Rattle.rules.specs.Run.{Run, ◌>>=◌, give, test}
use package.Rattle.rules.specs.Machine.{State, known, bind_or, meet, leave}
use package.Rattle.rules.proofs.OfType.{OfType, OfTypes}
use package.Rattle.rules.proofs.Basics.{given, none≢some, some_inj}
use package.Rattle.rules.proofs.Directed.{Spent, lend, nothing}
use package.Rattle.rules.proofs.Known.{Knows, known-new, knows-push, Mono, Bound, After, mono-pop, bound-pop, determined, knows-new}
use package.Rattle.rules.proofs.Known.{mono-set, mono-push, knows-full, Lent, lent_nothing, lent-push, lent_grow, lent-more}
use package.Rattle.rules.proofs.Outcome.{Good, yields, good-last, good_val_last}
use package.Rattle.rules.proofs.Preserve.{types-length, scope-ty}
use package.Rattle.rules.proofs.Scope.{length-scope}
use package.Rattle.rules.proofs.State.{Fit, Agree, agree-full, agree-length}
use package.Rattle.rules.proofs.Val.{same_refl}
use package.Rattle.rules.proofs.Yield.{Under, under_refl, under-push}

module _ (fits fits' : Val → Bool) where
  pub leave-good : {Y : Type 0} {Q : Y → Type 0} {f n r r' : ℕ} (k : Val → State → Run Y) (σ : State) (w : Val) (ρ : List Val) → Agree σ (w ∷ ρ)
      → Knows σ (length ρ) ⊎ (unit ≡ w) → ((m : Option Val) (σ₂ : State) → σ ≡ m ∷ σ₂ → Agree σ₂ ρ → Good fits fits' Q f n r r' (k w σ₂ f)) → Good fits fits' Q f n r r' (leave σ k f)
  unfolding leave
  leave-good k [] w ρ h d s = absurd h
  leave-good {Q = Q} {f} {n} {r} {r'} k (none ∷ σ) w ρ h (left (v, e)) s =
      absurd (none≢some (sym (known-new none σ) ∙ ap (λ l. known (none ∷ σ) l) (agree-length σ ρ h.1) ∙ e))
  leave-good {Q = Q} {f} {n} {r} {r'} k (none ∷ σ) w ρ h (right e) s = subst (λ w. Good fits fits' Q f n r r' (k w σ f)) (sym e) (s none σ refl h.1)
  leave-good {Q = Q} {f} {n} {r} {r'} k (some v ∷ σ) w ρ h d s = subst (λ w. Good fits fits' Q f n r r' (k w σ f)) (sym h.0) (s (some v) σ refl h.1)

  bind_or-good : {f r r' : ℕ} (k : ℕ) (m : Option Val) (v : Val) → Fit m v → Good fits fits' (λ m'. some v ≡ m') f 0 r r' (bind_or k m v f)
  unfolding bind_or test
  bind_or-good {f} k none v h = yields {g = f} refl (omega arith)
  bind_or-good {f} {r} {r'} k (some w) v h = subst (λ w. Good fits fits' (λ m'. some v ≡ m') f 0 r r' (test (same w v) 16 k (give (some w)) f)) (sym h)
      (rw (same_refl v) (yields {g = f} refl (omega arith)))

  pub meet-good : {f r r' : ℕ} (k : ℕ) (σ : State) (i : ℕ) (v : Val) (ρ : List Val) → Agree σ ρ → look ρ i ≡ some v
      → Good fits fits' (λ σ'. Agree σ' ρ × Mono σ σ' × Knows σ' i) f 0 r r' (meet k σ i v f)
  unfolding meet look
  meet-good k [] i v [] h p = absurd (none≢some p)
  meet-good k [] i v (u ∷ ρ) h p = absurd h
  meet-good k (m ∷ σ) i v [] h p = absurd h
  meet-good {f} {r} {r'} k (m ∷ σ) i v (u ∷ ρ) h p =
      go (eqb i (length σ)) refl (rw (sym (agree-length σ ρ h.1)) at p) (λ q. meet-good k σ i v ρ h.1 q)
    where
      go : (b : Bool) → eqb i (length σ) ≡ b → cond b (some u) (look ρ i) ≡ some v
          → (look ρ i ≡ some v → Good fits fits' (λ σ'. Agree σ' ρ × Mono σ σ' × Knows σ' i) f 0 r r' (meet k σ i v f))
          → Good fits fits' (λ σ'. Agree σ' (u ∷ ρ) × Mono (m ∷ σ) σ' × Knows σ' i) f 0 r r'
          (cond b (bind_or k m v >>= λ m'. give (m' ∷ σ)) (meet k σ i v >>= λ σ'. give (m ∷ σ')) f)
      go true e q s =
          let x : u ≡ v = some_inj q in
          good_val_last fits fits' _ (bind_or-good k m v (subst (Fit m) x h.0)) λ g.
          yields {g = g} ((sym x, h.1), mono-set m v σ, knows-new v σ i (eqb→eq i (length σ) (rw e tt))) (omega arith)
      go false e q s = good-last fits fits' _ (s q) λ σ₁ g (ag, mo, kn).
          yields {g = g} ((h.0, ag), mono-push m σ σ₁ (agree-length σ ρ h.1 ∙ sym (agree-length σ₁ ρ ag)) mo, knows-push m σ₁ i kn) (omega arith)

  -- the newest variable leaves the scope
  pub pop : {Y : Type 0} {Q : Y → Type 0} {f n r r' : ℕ} (k : Val → State → Run Y) (q : ℕ) (Γ : List Ty) (c : Ty) (w : Val) (b : Term) (ρ : List Val) (m₀ : Option Val) (σ σ₁ : State)
      → length Γ ≡ length ρ → length σ ≡ length ρ → q ≤ length ρ → OfType w c → Spent (length Γ) c b → After q (c ∷ Γ) b (w ∷ ρ) (m₀ ∷ σ) σ₁
      → ((σ₂ : State) → After q Γ b ρ σ σ₂ → Good fits fits' Q f n r r' (k w σ₂ f)) → Good fits fits' Q f n r r' (leave σ₁ k f)
  pop k q Γ c w b ρ m₀ σ σ₁ l l' ql h s (ag, mo, bd) go =
      leave-good k σ₁ w ρ ag (subst (λ i. Knows σ₁ i ⊎ (unit ≡ w)) l (determined q Γ c w b σ₁ (omega arith) h s bd)) λ m σ₂ x ag₂.
      given (agree-length σ₂ ρ ag₂) λ l₂.
      go σ₂ (ag₂, mono-pop m₀ m σ σ₂ (l' ∙ sym l₂) (subst (Mono (m₀ ∷ σ)) x mo), bound-pop q Γ b c m σ₂ (l ∙ sym l₂) (subst (Bound q (c ∷ Γ) b) x bd))

-- what holds where a term is run back
pub record Ready (a : List Val) (q : ℕ) (M : ℕ → Bool) (Γ : List Ty) (ρ : List Val) (σ : State) : Type 0 where
  pub env : OfTypes ρ Γ
  pub under : Under a ρ
  pub agree : Agree σ ρ
  pub anc : (i : ℕ) → i < q → Knows σ i
  pub lent : Lent M Γ σ
  pub le : q ≤ length ρ
  pub parameters : length a ≡ q

module _ {a : List Val} {q : ℕ} {M : ℕ → Bool} {Γ : List Ty} {ρ : List Val} {σ : State} where
  pub ready-push : (c : Ty) (v : Val) → OfType v c → Ready a q M Γ ρ σ → Ready a q M (c ∷ Γ) (v ∷ ρ) (none ∷ σ)
  ready-push c v h R = record {
    env = (h, R.env);
    under = under-push _ _ v R.under;
    agree = (tt, R.agree);
    anc = λ i l. knows-push none σ i (R.anc i l);
    lent = lent-push M Γ σ c none R.lent;
    le = omega (arith, R.le);
    parameters = R.parameters;
  }

  -- the same with the variable bound
  pub ready-bound : (c : Ty) (v : Val) → OfType v c → Ready a q M Γ ρ σ → Ready a q M (c ∷ Γ) (v ∷ ρ) (some v ∷ σ)
  ready-bound c v h R = record {
    env = (h, R.env);
    under = under-push _ _ v R.under;
    agree = (refl, R.agree);
    anc = λ i l. knows-push (some v) σ i (R.anc i l);
    lent = lent-push M Γ σ c (some v) R.lent;
    le = omega (arith, R.le);
    parameters = R.parameters;
  }

  pub ready_grow : (σ' : State) → Ready a q M Γ ρ σ → Agree σ' ρ → Mono σ σ' → Ready a q M Γ ρ σ'
  ready_grow σ' R ag mo = record {
    env = R.env;
    under = R.under;
    agree = ag;
    anc = λ i l. mo i (R.anc i l);
    lent = lent_grow M Γ σ σ' mo R.lent;
    le = R.le;
    parameters = R.parameters;
  }

  -- the bound term of a let, once its body ran back
  pub ready-lend : (b : Term) (σ' : State) → Ready a q M Γ ρ σ → After q Γ b ρ σ σ' → Ready a q (lend M (length Γ) b) Γ ρ σ'
  ready-lend b σ' R (ag, mo, bd) = record {
    env = R.env;
    under = R.under;
    agree = ag;
    anc = λ i l. mo i (R.anc i l);
    lent = lent-more M q Γ b σ' (λ i l. mo i (R.anc i l)) bd (lent_grow M Γ σ σ' mo R.lent);
    le = R.le;
    parameters = R.parameters;
  }

pub ready_call : (vs : List Val) (cs : List Ty) (v : Val) (c : Ty) → OfTypes vs cs → OfType v c
    → Ready (scope vs []) (length cs) nothing (c ∷ scope cs []) (v ∷ scope vs []) (none ∷ map some (scope vs []))
ready_call vs cs v c h h' =
    let l₁ : length (scope vs []) ≡ length vs + 0 = length-scope vs [] in
    let l₂ : length vs ≡ length cs = types-length vs cs h in
    record {
      env = (h', scope-ty vs cs [] [] h tt);
      under = under-push (scope vs []) (scope vs []) v (under_refl (scope vs []));
      agree = (tt, agree-full (scope vs []));
      anc = λ i l. knows-push none _ i (knows-full (scope vs []) i (omega arith));
      lent = lent_nothing (c ∷ scope cs []) (none ∷ map some (scope vs []));
      le = omega arith;
      parameters = omega arith;
    }

pub call-pop : (fits fits' : Val → Bool) {X : Type 0} {Q : X → Type 0} {f n r r' : ℕ} (k : Val → Run X) (vs : List Val) (cs : List Ty) (c : Ty) (v : Val) (b : Term) (σ₁ : State) → OfTypes vs cs → OfType v c → Spent (length cs) c b
    → After (length cs) (c ∷ scope cs []) b (v ∷ scope vs []) (none ∷ map some (scope vs [])) σ₁
    → Good fits fits' Q f n r r' (k v f) → Good fits fits' Q f n r r' (leave σ₁ (λ w σ₂. k w) f)
call-pop fits fits' k vs cs c v b σ₁ hs hv sp A s =
    let l₁ : length (scope vs []) ≡ length vs + 0 = length-scope vs [] in
    let l₂ : length vs ≡ length cs = types-length vs cs hs in
    let l₃ : length (scope cs []) ≡ length cs + 0 = length-scope cs [] in
    let l₄ : length (map some (scope vs [])) ≡ length (scope vs []) = agree-length (map some (scope vs [])) (scope vs []) (agree-full (scope vs [])) in
    pop fits fits' (λ w σ₂. k w) (length cs) (scope cs []) c v b (scope vs []) none (map some (scope vs [])) σ₁ (omega arith) l₄ (omega arith) hv
    (subst (λ i. Spent i c b) (let z : length cs ≡ length (scope cs []) = omega arith in z) sp) A λ σ₂ A₂. s
