-- Good runs: where a derivation exists, a run answers it, or is short of fuel, room or size.
use Prim.Native.Nat.{ℕ, zero, suc, ◌+◌, ◌<◌}
use native.Mathlib.Omega.{arith}
use mathlib.Core.Path.{◌≡◌, refl, sym, subst}
use mathlib.Core.Bool.{Bool, true, false}
use mathlib.Core.Option.{Option, some}
use mathlib.Core.List.{List}
use package.Rattle.rules.specs.Val.{Val}
use package.Rattle.rules.specs.Term.{Term, Program}
use package.Rattle.rules.specs.Rules.{Judgement, Rule, e_var, e_unit, e_inl, e_inr, e_prod, e_let, e_letp, e_casel, e_caser, e_app, e_roll, e_unroll}
use package.Rattle.rules.specs.Run.{Res, ok, stop, Run, after, enter, test}
use package.Rattle.rules.specs.Machine.{on_some}

-- a derivation takes a step
pub steps : {fits : Val → Bool} {P : Program} {R : Judgement} {a ρ : List Val} {t : Term} {v : Val} {n : ℕ} → Rule fits P R a ρ t v n → 0 < n
steps (e_var x ft) = omega arith
steps (e_unit ft) = omega arith
steps (e_inl d ft) = omega arith
steps (e_inr d ft) = omega arith
steps (e_prod d d' ft) = omega arith
steps (e_let d d') = omega arith
steps (e_letp d d') = omega arith
steps (e_casel d d') = omega arith
steps (e_caser d d' y) = omega arith
steps (e_app x ds d d') = omega arith
steps (e_roll d ft) = omega arith
steps (e_unroll d ft) = omega arith

-- `fits` and room `r` are the run's, `fits'` and `r'` the derivation's; `f` is the fuel, `n` the derivation's steps.
module _ (fits fits' : Val → Bool) where
  pub data Short (f n r r' c : ℕ) : Type 0 where
    fuel_short : c ≡ 12 → f < n → Short f n r r' c
    room_short : c ≡ 13 → r < r' → Short f n r r' c
    size_short : (u : Val) → c ≡ 14 → fits' u ≡ true → fits u ≡ false → Short f n r r' c

  pub data Good {X : Type 0} (Q : X → Type 0) (f n r r' : ℕ) : Res X → Type 0 where
    yields : {x : X} {g : ℕ} → Q x → f ≡ n + g → Good Q f n r r' (ok x g)
    short : {c k : ℕ} → Short f n r r' c → Good Q f n r r' (stop c k)

  -- one run, then another that is good by what the first answers
  pub good-after : {X Y : Type 0} {Q : X → Type 0} {Q' : Y → Type 0} {f n m r r' : ℕ} {x : Res X} (k : X → Run Y)
      → Good Q f n r r' x → ((y : X) (g : ℕ) → Q y → Good Q' g m r r' (k y g)) → Good Q' f (n + m) r r' (after x k)
  unfolding after
  good-after {Q' = Q'} {f} {n} {m} {r} {r'} k (yields {x} {g} q e) s = go (s x g q)
    where
      go : {z : Res _} → Good Q' g m r r' z → Good Q' f (n + m) r r' z
      go (yields {g = g'} q' e') = yields {g = g'} q' (omega arith)
      go (short (fuel_short x y)) = short (fuel_short x (omega arith))
      go (short (room_short x y)) = short (room_short x y)
      go (short (size_short u x y z)) = short (size_short u x y z)
  good-after k (short (fuel_short x y)) s = short (fuel_short x (omega arith))
  good-after k (short (room_short x y)) s = short (room_short x y)
  good-after k (short (size_short u x y z)) s = short (size_short u x y z)

  -- the same where the first answers `v`, and where the second takes no step
  pub good_val : {X Y : Type 0} {v : X} {Q' : Y → Type 0} {f n m r r' : ℕ} {x : Res X} (k : X → Run Y)
      → Good (λ w. v ≡ w) f n r r' x → ((g : ℕ) → Good Q' g m r r' (k v g)) → Good Q' f (n + m) r r' (after x k)
  good_val {Q' = Q'} {m = m} {r} {r'} k h s = good-after k h λ y g q. subst (λ y. Good Q' g m r r' (k y g)) q (s g)

  pub good-last : {X Y : Type 0} {Q : X → Type 0} {Q' : Y → Type 0} {f n r r' : ℕ} {x : Res X} (k : X → Run Y)
      → Good Q f n r r' x → ((y : X) (g : ℕ) → Q y → Good Q' g 0 r r' (k y g)) → Good Q' f n r r' (after x k)
  good-last {Q' = Q'} {f} {n} {r} {r'} {x} k h s =
      subst (λ n. Good Q' f n r r' (after x k)) (let z : n + 0 ≡ n = omega arith in z) (good-after k h s)

  pub good_val_last : {X Y : Type 0} {v : X} {Q' : Y → Type 0} {f n r r' : ℕ} {x : Res X} (k : X → Run Y)
      → Good (λ w. v ≡ w) f n r r' x → ((g : ℕ) → Good Q' g 0 r r' (k v g)) → Good Q' f n r r' (after x k)
  good_val_last {Q' = Q'} {r = r} {r'} k h s = good-last k h λ y g q. subst (λ y. Good Q' g 0 r r' (k y g)) q (s g)

  pub good_enter : {X : Type 0} {Q : X → Type 0} {n r r' : ℕ} (k f : ℕ) (m : Run X) → ((g : ℕ) → Good Q g n r r' (m g)) → Good Q f (suc n) (suc r) (suc r') (enter k m f)
  unfolding enter
  good_enter k zero m s = short (fuel_short refl (omega arith))
  good_enter {Q = Q} {n} {r} {r'} k (suc f) m s = go (s f)
    where
      go : {z : Res _} → Good Q f n r r' z → Good Q (suc f) (suc n) (suc r) (suc r') z
      go (yields {g = g'} q' e') = yields {g = g'} q' (omega arith)
      go (short (fuel_short x y)) = short (fuel_short x (omega arith))
      go (short (room_short x y)) = short (room_short x (omega arith))
      go (short (size_short u x y z)) = short (size_short u x y z)

  pub good-size : {X : Type 0} {Q : X → Type 0} {f n r r' : ℕ} (k : ℕ) (v : Val) (m : Run X) → fits' v ≡ true → Good Q f n r r' (m f) → Good Q f n r r' (test (fits v) 14 k m f)
  unfolding test
  good-size {Q = Q} {f} {n} {r} {r'} k v m ft s = go (fits v) refl
    where
      go : (b : Bool) → fits v ≡ b → Good Q f n r r' (test b 14 k m f)
      go true e = s
      go false e = short (size_short v refl ft e)

  pub good_some : {X Y : Type 0} {o : Option X} {a : X} {Q : Y → Type 0} {f n r r' : ℕ} (k : X → Run Y) → o ≡ some a → Good Q f n r r' (k a f) → Good Q f n r r' (on_some o k f)
  unfolding on_some
  good_some {Q = Q} {f} {n} {r} {r'} k p s = subst (λ o. Good Q f n r r' (on_some o k f)) (sym p) s

  pub good-swap : {X Y : Type 0} {Q : X → Type 0} {Q' : Y → Type 0} {f n m r r' : ℕ} {x : Res X} (k : X → Run Y)
      → Good Q f m r r' x → ((y : X) (g : ℕ) → Q y → Good Q' g n r r' (k y g)) → Good Q' f (n + m) r r' (after x k)
  good-swap {Q' = Q'} {f} {n} {m} {r} {r'} {x} k h s =
      subst (λ n. Good Q' f n r r' (after x k)) (let z : m + n ≡ n + m = omega arith in z) (good-after k h s)

  pub good-map : {X : Type 0} {Q Q' : X → Type 0} {f n r r' : ℕ} {x : Res X} → ((y : X) → Q y → Q' y) → Good Q f n r r' x → Good Q' f n r r' x
  good-map s (yields q e) = yields (s _ q) e
  good-map s (short h) = short h
