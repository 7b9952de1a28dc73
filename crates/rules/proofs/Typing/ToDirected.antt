-- What the rules type is typed by recursion on the term (Directed), the form that the run theorems use.
use Prim.Native.Nat.{ℕ, suc, ◌≤◌, ◌<◌}
use native.Mathlib.Omega.{arith}
use mathlib.Core.Path.{◌≡◌, refl, sym, ap, subst, ◌∙◌}
use mathlib.Core.Bool.{Bool, true, false, ◌&&◌, false≢true}
use mathlib.Core.Option.{Option, none, some}
use mathlib.Core.List.{List, [], ◌∷◌}
use mathlib.Core.Logic.{◌⊎◌, inl as left, inr as right, ⊎_elim}
use lib.ListN.{length, length-map}
use lib.Dec.{ltb, leb}
use package.Rattle.rules.specs.Ty.{Ty, prod, sum, unfold_ty, is_unit}
use package.Rattle.rules.specs.Term.{Term, Terms, var, tunit, tinl, tinr, tpair, tlet, tletp, tcase}
use package.Rattle.rules.specs.Term.{tcall, troll, tunroll, end, more, Fun, Program, look, used_in, inside}
use package.Rattle.rules.specs.Typing.{Binding, static, dynamic, barred, Context, bar_one, bar, Vars, only, ◌∪◌, mark_one, mark}
use package.Rattle.rules.specs.Typing.{Subject, ◌∶◌, arguments, Types, t_var1, t_var2, t_var3, t_unit, t_unit_elm, t_inl, t_inr}
use package.Rattle.rules.specs.Typing.{t_prod, t_let1, t_let2, t_sum, t_app1, t_app2, t_app2_end, t_roll, t_unroll, WellTyped}
use package.Rattle.rules.specs.Check.{marked, statics}
use package.Rattle.rules.proofs.Basics.{given, none≢some, some_inj, or_left, or_right, or_elim}
use package.Rattle.rules.proofs.Scope.{look_lt}
use package.Rattle.rules.proofs.Directed.{Within, WithinAll, within_more, within-all-more, allowed, lend}
use package.Rattle.rules.proofs.Directed.{nothing, Spent, SameUse, Typed, TypedAll, TypedFun, TypedProgram}
use package.Rattle.rules.proofs.Typing.Contexts.{look_cases, look_map, look_unmap, Dynamic, type_of, types, length-bar}
use package.Rattle.rules.proofs.Typing.Contexts.{look_bar, types-bar, length-mark, types-mark, mark_o, look_mark}
use package.Rattle.rules.proofs.Typing.Namings.{allows-pop, marked-bar}
use package.Rattle.rules.proofs.Typing.Tests.{leb_yes, leb-sound}
use package.Rattle.rules.proofs.Typing.Uses.{uses_of, Uses, uses, uses-agree, uses-newest, uses-outer, uses-first}
use package.Rattle.rules.proofs.Typing.Functions.{IsStatic, Declared, length-parameters, types-statics, look_parameters, body_typed, parameter_spent}

----------------------------------------------------------------
-- Where the variables of a context stand

-- ancilla parameters below `q`, then barred variables, then from `lo` on dynamic ones
abbrev At : ℕ → ℕ → ℕ → Binding → Type 0
At q lo i (static c) = i < q
At q lo i (dynamic m c) = lo ≤ i
At q lo i (barred m c) = (q ≤ i) × (i < lo)

record Stands (q lo : ℕ) (Δ : Context) : Type 0 where
  below : q ≤ lo
  fits : lo ≤ length Δ
  each : (i : ℕ) (x : Binding) → look Δ i ≡ some x → At q lo i x

stands-bound : {q lo : ℕ} {Δ : Context} (c : Ty) → Stands q lo Δ → Stands q lo (dynamic false c ∷ Δ)
stands-bound {q} {lo} {Δ} c s = record {
  below = s.below;
  fits = omega (arith, s.fits);
  each = λ i x p. ⊎_elim (λ (e, y). subst (At q lo i) y (subst (λ i. lo ≤ i) (sym e) s.fits)) (s.each i x) (look_cases Δ (dynamic false c) i p);
}

-- inside an ancilla argument
stands-bar : {q lo : ℕ} {Δ : Context} → Stands q lo Δ → Stands q (length Δ) (bar Δ)
unfolding bar_one
stands-bar {q} {lo} {Δ} s = record {
  below = omega (arith, s.below, s.fits);
  fits = omega (arith, length-bar Δ);
  each = λ i y p. given (look_bar Δ i p) λ (x, r, e). subst (At q (length Δ) i) e (go i x r (s.each i x r));
}
  where
    go : (i : ℕ) (x : Binding) → look Δ i ≡ some x → At q lo i x → At q (length Δ) i (bar_one x)
    go i (static c) r a = a
    go i (dynamic m c) r a = (omega (arith, s.below, a), look_lt Δ i r)
    go i (barred m c) r a = (a.0, look_lt Δ i r)

-- in the bound term of a let
stands-mark : {q lo : ℕ} {Δ : Context} (N : Vars) → Stands q lo Δ → Stands q lo (mark N Δ)
unfolding mark_one
stands-mark {q} {lo} {Δ} N s = record {
  below = s.below;
  fits = omega (arith, s.fits, length-mark N Δ);
  each = λ i y p. go i y (look Δ i) refl (sym (look_mark N Δ i) ∙ p);
}
  where
    one : (i : ℕ) (x : Binding) → At q lo i x → At q lo i (mark_one (N i) x)
    one i (static c) a = a
    one i (dynamic m c) a = a
    one i (barred m c) a = a

    go : (i : ℕ) (y : Binding) (o : Option Binding) → look Δ i ≡ o → mark_o (N i) o ≡ some y → At q lo i y
    go i y none e p = absurd (none≢some p)
    go i y (some x) e p = subst (At q lo i) (some_inj p) (one i x (s.each i x e))

-- what an argument may name, its call may name
inside-more : (q lo n : ℕ) → lo ≤ n → (i : ℕ) → inside q n i ≡ true → inside q lo i ≡ true
inside-more q lo n l i = or_elim (ltb i q) (leb n i) (or_left (leb lo i))
    (λ x. or_right (ltb i q) (leb_yes lo i (omega (arith, leb-sound n i x))))

----------------------------------------------------------------
-- Marks

-- the marked variables
abbrev marks_of : Context → ℕ → Bool
marks_of Δ i = marked (look Δ i)

marks-bound : (c : Ty) (Δ : Context) (i : ℕ) → marks_of (dynamic false c ∷ Δ) i ≡ true → marks_of Δ i ≡ true
marks-bound c Δ i x = (allows-pop c Δ (record { variable = i; place = 0 } ∷ []) (x, tt)).0

-- what is marked in the bound term of a let is marked around it, or is a dynamic variable that the body uses
marks-mark : (N : Vars) (Δ : Context) (i : ℕ) → marks_of (mark N Δ) i ≡ true → (marks_of Δ i ≡ true) ⊎ ((c : Ty) × Dynamic Δ i c × (N i ≡ true))
unfolding marked mark_one
marks-mark N Δ i x = go (look Δ i) refl (sym (ap marked (look_mark N Δ i)) ∙ x)
  where
    go : (o : Option Binding) → look Δ i ≡ o → marked (mark_o (N i) o) ≡ true → (marked (look Δ i) ≡ true) ⊎ ((c : Ty) × Dynamic Δ i c × (N i ≡ true))
    go none e y = absurd (false≢true y)
    go (some (static c)) e y = absurd (false≢true y)
    go (some (dynamic m c)) e y = or_elim m (N i) (λ z. left (ap marked e ∙ z)) (λ z. right (c, (m, e), z)) y
    go (some (barred m c)) e y = left (ap marked e ∙ y)

allowed-more : (M M' : ℕ → Bool) (q n : ℕ) → ((i : ℕ) → M i ≡ true → M' i ≡ true) → (i : ℕ) → allowed M q n i ≡ true → allowed M' q n i ≡ true
allowed-more M M' q n s i = or_elim (inside q n i) (M i) (or_left (M' i)) (λ x. or_right (inside q n i) (s i x))

-- more count as parameters; less is bound outside
more-parameters : {q lo : ℕ} → q ≤ lo → (n : ℕ) (M : ℕ → Bool) (i : ℕ) → allowed M q n i ≡ true → allowed M lo n i ≡ true
more-parameters {q} {lo} l n M i = or_elim (inside q n i) (M i) (λ x. or_left (M i) (or_elim (ltb i q) (leb n i)
    (λ y. or_left (leb n i) (leb_yes (suc i) lo (omega (arith, leb-sound (suc i) q y)))) (or_right (ltb i lo)) x)) (or_right (inside lo n i))

fewer-outside : (q : ℕ) {lo n : ℕ} → lo ≤ n → (M : ℕ → Bool) (i : ℕ) → allowed M q n i ≡ true → allowed M q lo i ≡ true
fewer-outside q {lo} {n} l M i = or_elim (inside q n i) (M i) (λ x. or_left (M i) (inside-more q lo n l i x)) (or_right (inside q lo i))

lend-more : (M M' : ℕ → Bool) (n : ℕ) (b : Term) → ((i : ℕ) → M i ≡ true → M' i ≡ true) → (i : ℕ) → lend M n b i ≡ true → lend M' n b i ≡ true
lend-more M M' n b s i = or_elim (M i) (ltb i n && used_in i b) (λ x. or_left (ltb i n && used_in i b) (s i x)) (or_right (M' i))

module _ (P : Program) where
  mutual
    typed-more : (q : ℕ) (M M' : ℕ → Bool) → ((i : ℕ) → M i ≡ true → M' i ≡ true) → (Γ : List Ty) (t : Term) (τ : Ty) → Typed P q M Γ t τ → Typed P q M' Γ t τ
    typed-more q M M' s Γ (var k i) τ T = T
    typed-more q M M' s Γ (tunit k) τ T = T
    typed-more q M M' s Γ (tinl k c e) τ (a, b, x, y, T) = (a, b, x, y, typed-more q M M' s Γ e a T)
    typed-more q M M' s Γ (tinr k c e) τ (a, b, x, y, T) = (a, b, x, y, typed-more q M M' s Γ e b T)
    typed-more q M M' s Γ (tpair k e e') τ (a, b, x, T, T') = (a, b, x, typed-more q M M' s Γ e a T, typed-more q M M' s Γ e' b T')
    typed-more q M M' s Γ (tlet k e b) τ (a, T, T', u) =
        (a, typed-more q (lend M (length Γ) b) (lend M' (length Γ) b) (lend-more M M' (length Γ) b s) Γ e a T, typed-more q M M' s (a ∷ Γ) b τ T', u)
    typed-more q M M' s Γ (tletp k e b) τ (a, a', T, T', u, u') = (
      a,
      a',
      typed-more q (lend M (length Γ) b) (lend M' (length Γ) b) (lend-more M M' (length Γ) b s) Γ e (prod a a') T,
      typed-more q M M' s (a' ∷ a ∷ Γ) b τ T',
      u,
      u',
    )
    typed-more q M M' s Γ (tcase k e b b') τ (a, a', T, T₁, T₂, u, u', su) =
        (a, a', typed-more q M M' s Γ e (sum a a') T, typed-more q M M' s (a ∷ Γ) b τ T₁, typed-more q M M' s (a' ∷ Γ) b' τ T₂, u, u', su)
    typed-more q M M' s Γ (tcall k g ts e) τ (h, x, Ts, T, z, w) = (
      h,
      x,
      typed-all-more (length Γ) M M' s Γ ts h.ancillae Ts,
      typed-more q M M' s Γ e h.dynamic T,
      z,
      within-all-more (allowed M q (length Γ)) (allowed M' q (length Γ)) (allowed-more M M' q (length Γ) s) ts w,
    )
    typed-more q M M' s Γ (troll k c e) τ (a, x, y, T) = (a, x, y, typed-more q M M' s Γ e (unfold_ty a) T)
    typed-more q M M' s Γ (tunroll k c e) τ (a, x, y, T) = (a, x, y, typed-more q M M' s Γ e c T)

    typed-all-more : (q : ℕ) (M M' : ℕ → Bool) → ((i : ℕ) → M i ≡ true → M' i ≡ true)
        → (Γ : List Ty) (ts : Terms) (cs : List Ty) → TypedAll P q M Γ ts cs → TypedAll P q M' Γ ts cs
    typed-all-more q M M' s Γ end cs T = T
    typed-all-more q M M' s Γ (more t ts) cs (c, cs', x, T, Ts) = (c, cs', x, typed-more q M M' s Γ t c T, typed-all-more q M M' s Γ ts cs' Ts)

----------------------------------------------------------------
-- Terms

same_use_lem : {q lo : ℕ} {Δ : Context} {U : Vars} (b b' : Term) → Stands q lo Δ → Uses Δ U (uses_of b) → Uses Δ U (uses_of b') → SameUse lo (types Δ) b b'
same_use_lem {q} {lo} {Δ} b b' s u u' i c p n l = given (look_unmap type_of Δ i p) λ (x, r, e). go x r (s.each i x r) (ap is_unit e ∙ n)
  where
    go : (x : Binding) → look Δ i ≡ some x → At q lo i x → is_unit (type_of x) ≡ false → used_in i b ≡ used_in i b'
    go (static d) r a n = absurd (omega (arith, a, l, s.below))
    go (dynamic m d) r a n = uses-agree u u' i d (m, r) n
    go (barred m d) r a n = absurd (omega (arith, a.1, l))

-- the newest variable is spent
spends : (Δ : Context) (U : Vars) (c : Ty) (b : Term) → Uses (dynamic false c ∷ Δ) (U ∪ only (length Δ)) (uses_of b) → Spent (length (types Δ)) c b
spends Δ U c b u = subst (λ n. Spent n c b) (sym (length-map Δ type_of)) (uses-newest U u)

module _ (variables most : ℕ) (P : Program) where
  -- by recursion on the term, all variables below `lo` being parameters to it
  abbrev Direct : ℕ → ℕ → (ℕ → Bool) → List Ty → Term → Ty → Type 0
  Direct q lo M Γ t τ = Typed P lo M Γ t τ × Within (allowed M q lo) t

  direct-more : (q lo : ℕ) (M M' : ℕ → Bool) → ((i : ℕ) → M i ≡ true → M' i ≡ true)
      → (Γ : List Ty) (t : Term) (τ : Ty) → Direct q lo M Γ t τ → Direct q lo M' Γ t τ
  direct-more q lo M M' s Γ t τ (T, w) = (typed-more P lo M M' s Γ t τ T, within_more (allowed M q lo) (allowed M' q lo) (allowed-more M M' q lo s) t w)

  abbrev DirectedAs : ℕ → ℕ → Context → Subject → Type 0
  DirectedAs q lo Δ (t ∶ τ) = Direct q lo (marks_of Δ) (types Δ) t τ
  DirectedAs q lo Δ (arguments ts τs) = TypedAll P lo (marks_of Δ) (types Δ) ts τs × WithinAll (allowed (marks_of Δ) q lo) ts

  -- the bound term of a let with body `b`
  bound-term : {q lo : ℕ} (Δ : Context) (e b : Term) (τ : Ty) → Stands q lo Δ → Direct q lo (marks_of (mark (uses_of b) Δ)) (types (mark (uses_of b) Δ)) e τ
      → Typed P lo (lend (marks_of Δ) (length (types Δ)) b) (types Δ) e τ × Within (allowed (marks_of Δ) q lo) e
  bound-term {q} {lo} Δ e b τ s (T, w) = (
    typed-more P lo (marks_of (mark N Δ)) (lend (marks_of Δ) (length (types Δ)) b) lent (types Δ) e τ
        (subst (λ Γ. Typed P lo (marks_of (mark N Δ)) Γ e τ) (types-mark N Δ) T),
    within_more (allowed (marks_of (mark N Δ)) q lo) (allowed (marks_of Δ) q lo) kept e w,
  )
    where
      N : Vars
      N = uses_of b

      lent : (i : ℕ) → marks_of (mark N Δ) i ≡ true → lend (marks_of Δ) (length (types Δ)) b i ≡ true
      lent i x = ⊎_elim (or_left (ltb i (length (types Δ)) && used_in i b))
          (λ (c, (m, p), y). or_right (marks_of Δ i) (rw (leb_yes (suc i) (length (types Δ)) (omega (arith, look_lt Δ i p, length-map Δ type_of)), y)))
          (marks-mark N Δ i x)

      kept : (i : ℕ) → allowed (marks_of (mark N Δ)) q lo i ≡ true → allowed (marks_of Δ) q lo i ≡ true
      kept i = or_elim (inside q lo i) (marks_of (mark N Δ) i) (or_left (marks_of Δ i)) (λ x. ⊎_elim (or_right (inside q lo i))
          (λ (c, (m, p), y). or_left (marks_of Δ i) (or_right (ltb i q) (leb_yes lo i (s.each i (dynamic m c) p)))) (marks-mark N Δ i x))

  directs : {Δ : Context} {U : Vars} {s : Subject} → Types variables most P Δ U s → (q lo : ℕ) → Stands q lo Δ → DirectedAs q lo Δ s
  unfolding marked
  directs (t_var1 {i = i} {Δ = Δ} p) q lo s = (look_map type_of Δ i p, or_left (marks_of Δ i) (or_left (leb lo i) (leb_yes (suc i) q (s.each i _ p))))
  directs (t_var2 {i = i} {Δ = Δ} p) q lo s = (look_map type_of Δ i p, or_left (marks_of Δ i) (or_right (ltb i q) (leb_yes lo i (s.each i _ p))))
  directs (t_var3 {i = i} {Δ = Δ} p) q lo s = (look_map type_of Δ i p, or_right (inside q lo i) (ap marked p))
  directs t_unit q lo s = (refl, tt)
  directs (t_unit_elm i p d) q lo s = directs d q lo s
  directs (t_inl {τ = τ} {τ' = τ'} d) q lo s = given (directs d q lo s) λ (T, w). ((τ, τ', refl, refl, T), w)
  directs (t_inr {τ = τ} {τ' = τ'} d) q lo s = given (directs d q lo s) λ (T, w). ((τ, τ', refl, refl, T), w)
  directs (t_prod {τ = τ} {τ' = τ'} d d' n) q lo s = given (directs d q lo s) λ (T, w). given (directs d' q lo s) λ (T', w').
      ((τ, τ', refl, T, T'), (w, w'))
  directs (t_let1 {Δ = Δ} {e = e} {b = b} {τ = τ} {τ' = τ'} U' r d d' z) q lo s =
      given (bound-term Δ e b τ' s (directs d q lo (stands-mark (uses_of b) s))) λ (T, w).
      given (direct-more q lo _ _ (marks-bound τ' Δ) (τ' ∷ types Δ) b τ (directs d' q lo (stands-bound τ' s))) λ (T', w').
      ((τ', T, T', spends Δ U' τ' b (uses variables most P d')), (w, w'))
  directs (t_let2 {Δ = Δ} {e = e} {b = b} {τ = τ} {τ' = τ'} {τ'' = τ''} U' r d d' z z') q lo s =
      given (bound-term Δ e b (prod τ' τ'') s (directs d q lo (stands-mark (uses_of b) s))) λ (T, w).
      given (direct-more q lo _ _ (λ i x. marks-bound τ' Δ i (marks-bound τ'' (dynamic false τ' ∷ Δ) i x)) (τ'' ∷ τ' ∷ types Δ) b τ
      (directs d' q lo (stands-bound τ'' (stands-bound τ' s)))) λ (T', w'). given (uses variables most P d') λ u.
      ((τ', τ'', T, T', spends Δ U' τ' b (uses-first U' u z'), spends (dynamic false τ' ∷ Δ) (U' ∪ only (length Δ)) τ'' b u), (w, w'))
  directs (t_sum {Δ = Δ} {b = b} {b' = b'} {τ = τ} {τ' = τ'} {τ'' = τ''} U' r d d₁ d₂ z) q lo s = given (directs d q lo s) λ (T, w).
      given (direct-more q lo _ _ (marks-bound τ' Δ) (τ' ∷ types Δ) b τ (directs d₁ q lo (stands-bound τ' s))) λ (T₁, w₁).
      given (direct-more q lo _ _ (marks-bound τ'' Δ) (τ'' ∷ types Δ) b' τ (directs d₂ q lo (stands-bound τ'' s))) λ (T₂, w₂).
      given (uses variables most P d₁) λ u₁. given (uses variables most P d₂) λ u₂.
      ((τ', τ'', T, T₁, T₂, spends Δ U' τ' b u₁, spends Δ U' τ'' b' u₂, same_use_lem b b' s (uses-outer U' u₁ z) (uses-outer U' u₂ z)), (w, w₁, w₂))
  directs (t_app1 {Δ = Δ} {ts = ts} {h = h} g a d) q lo s = given (directs a q (length Δ) (stands-bar s)) λ (Ts, ws). given (directs d q lo s) λ (T, w).
      given (λ (i : ℕ) (x : marks_of (bar Δ) i ≡ true). sym (marked-bar Δ i) ∙ x) λ more-marks.
      given (within-all-more (allowed (marks_of (bar Δ)) q (length Δ)) (allowed (marks_of Δ) q (length Δ))
      (allowed-more (marks_of (bar Δ)) (marks_of Δ) q (length Δ) more-marks) ts ws) λ ws'. (
        (
          h,
          g,
          subst (λ n. TypedAll P n (marks_of Δ) (types Δ) ts h.ancillae) (sym (length-map Δ type_of))
              (typed-all-more P (length Δ) (marks_of (bar Δ)) (marks_of Δ) more-marks (types Δ) ts h.ancillae
              (subst (λ Γ. TypedAll P (length Δ) (marks_of (bar Δ)) Γ ts h.ancillae) (types-bar Δ) Ts)),
          T,
          refl,
          subst (λ n. WithinAll (allowed (marks_of Δ) lo n) ts) (sym (length-map Δ type_of))
              (within-all-more (allowed (marks_of Δ) q (length Δ)) (allowed (marks_of Δ) lo (length Δ))
              (more-parameters s.below (length Δ) (marks_of Δ)) ts ws'),
        ),
        (within-all-more (allowed (marks_of Δ) q (length Δ)) (allowed (marks_of Δ) q lo) (fewer-outside q s.fits (marks_of Δ)) ts ws', w),
      )
  directs (t_app2 {τ = τ} {τs = τs} d a) q lo s = given (directs d q lo s) λ (T, w). given (directs a q lo s) λ (Ts, ws). ((τ, τs, refl, T, Ts), (w, ws))
  directs t_app2_end q lo s = (refl, tt)
  directs (t_roll {τ = τ} d) q lo s = given (directs d q lo s) λ (T, w). ((τ, refl, refl, T), w)
  directs (t_unroll {τ = τ} d n) q lo s = given (directs d q lo s) λ (T, w). ((τ, refl, refl, T), w)

  ----------------------------------------------------------------
  -- Functions and programs

  stands-parameters : (cs : List Ty) → Stands (length cs) (length cs) (statics cs [])
  stands-parameters cs = record {
    below = omega arith;
    fits = omega (arith, length-parameters cs);
    each = λ i x p. go i x (look_parameters cs i x p) (look_lt (statics cs []) i p);
  }
    where
      go : (i : ℕ) (x : Binding) → IsStatic x → i < length (statics cs []) → At (length cs) (length cs) i x
      go i (static c) y l = omega (arith, length-parameters cs)
      go i (dynamic m c) y l = absurd y
      go i (barred m c) y l = absurd y

  directed-fun : (h : Fun) → Declared variables most P h → TypedFun P h
  unfolding marked
  directed-fun h w = (
    subst (λ Γ. Typed P q nothing (h.dynamic ∷ Γ) h.body h.result) (types-statics h.ancillae [])
        (typed-more P q (marks_of (dynamic false h.dynamic ∷ statics h.ancillae [])) nothing
        (λ i x. unmarked i (marks-bound h.dynamic (statics h.ancillae []) i x))
        (types (dynamic false h.dynamic ∷ statics h.ancillae [])) h.body h.result
        (directs (body_typed variables most P w) q q (stands-bound h.dynamic (stands-parameters h.ancillae))).0),
    parameter_spent variables most P h w,
  )
    where
      q : ℕ
      q = length h.ancillae

      unmarked : (i : ℕ) → marks_of (statics h.ancillae []) i ≡ true → false ≡ true
      unmarked i x = go (look (statics h.ancillae []) i) refl x
        where
          go : (o : Option Binding) → look (statics h.ancillae []) i ≡ o → marked o ≡ true → false ≡ true
          go none e x = x
          go (some (static c)) e x = x
          go (some (dynamic m c)) e x = absurd (look_parameters h.ancillae i (dynamic m c) e)
          go (some (barred m c)) e x = absurd (look_parameters h.ancillae i (barred m c) e)

  pub directed : WellTyped variables most P → TypedProgram P
  directed w = λ g h p. directed-fun h (w g h p)
