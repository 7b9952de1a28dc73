-- Typing as a function accepts what the rules type, terms and whole programs.
use Prim.Native.Nat.{ℕ, zero, suc, ◌+◌}
use native.Mathlib.Omega.{arith}
use mathlib.Core.Path.{◌≡◌, refl, sym, ap, subst, ◌∙◌}
use mathlib.Core.Bool.{Bool, true, false, not, ◌&&◌, cond, false≢true}
use mathlib.Core.Option.{Option, some}
use mathlib.Core.List.{List, [], ◌∷◌, ◌++◌}
use lib.ListN.{length}
use lib.Dec.{eqb}
use package.Rattle.rules.specs.Ty.{Ty}
use package.Rattle.rules.specs.Term.{Term, var, count, Fun, Program, nth, look}
use package.Rattle.rules.specs.Typing.{Binding, static, Context, Vars, only, ◌∪◌, bar, mark, Subject, ◌∶◌, arguments}
use package.Rattle.rules.specs.Typing.{Types, t_var1, t_var2, t_var3, t_unit, t_unit_elm, t_inl, t_inr, t_prod, t_let1}
use package.Rattle.rules.specs.Typing.{t_let2, t_sum, t_app1, t_app2, t_app2_end, t_roll, t_unroll, WellTyped, dynamic}
use package.Rattle.rules.specs.Check.{Site, term, Checked, good, ◌>>=◌, ◌>>◌, need, as_sum, as_prod, as_mu, as_fun, visible}
use package.Rattle.rules.specs.Check.{is_dynamic, marked, dynamics, marks, helps, onward, waits, waits_all, waits_in}
use package.Rattle.rules.specs.Check.{waits_in_all, unless, need_none, spent, infer, infer_arguments, check_fun, check_funs, check}
use package.Rattle.rules.proofs.Basics.{given, and-false, eqb_yes}
use package.Rattle.rules.proofs.Typing.Tests.{same_ty_refl, leb_yes, same_use_yes}
use package.Rattle.rules.proofs.Typing.Uses.{uses_of, uses, uses-agree, uses-newest, uses-outer, uses-first}
use package.Rattle.rules.proofs.Typing.Waiting.{waits_let, waits_letp, waits_case, waits-call}
use package.Rattle.rules.proofs.Typing.Namings.{Fewer, fewer_refl, fewer-push, fewer-length, fewer-mark, fewer-bar, fewer_named, fewer-dynamic}
use package.Rattle.rules.proofs.Typing.Namings.{more-dynamic, more-barred, Allows, allows-both, allows-pop, allows_unbar, settles}
use package.Rattle.rules.proofs.Typing.Functions.{Declared, body_typed, parameter_spent}

----------------------------------------------------------------
-- Answers

module _ {B : Type 0} where
  -- a typed part, then the rest
  go_on : {A : Type 0} {x : Checked A} (k : A → Checked B) {a : A} {y : Checked B} → x ≡ good a → k a ≡ y → (x >>= k) ≡ y
  unfolding ◌>>=◌
  go_on k p q = ap (λ x. x >>= k) p ∙ q

  -- a test that holds or arguments that are typed, then the rest
  go-past : {x : Checked (Unit {0})} {m y : Checked B} → x ≡ good tt → m ≡ y → (x >> m) ≡ y
  unfolding ◌>>◌
  go-past {m = m} p q = ap (λ x. x >> m) p ∙ q

  -- the function called, then the rest
  go-into : (p : Site) {o : Option Fun} (f : Fun → Checked B) {h : Fun} {y : Checked B} → o ≡ some h → f h ≡ y → as_fun p o f ≡ y
  unfolding as_fun
  go-into p f e q = ap (λ o. as_fun p o f) e ∙ q

met : {b : Bool} (n : ℕ) (p : Site) → b ≡ true → need b n p ≡ good tt
unfolding need
met n p e = ap (λ b. need b n p) e

and_yes : {b c : Bool} → b ≡ true → c ≡ true → (b && c) ≡ true
and_yes p q = rw (p, q)

----------------------------------------------------------------
-- Terms

module _ (variables most : ℕ) (P : Program) where
  -- The function accepts the subject in a context with more marks, and only namings wait that the rules' context allows.
  abbrev Inferred : Context → Context → Subject → Type 0
  Inferred Δ₀ Δ (t ∶ τ) = (infer variables most P Δ t ≡ good τ) × Allows Δ₀ (waits_in Δ t)
  Inferred Δ₀ Δ (arguments ts τs) =
      (count ts ≡ length τs) × ((k : ℕ) → infer_arguments variables most P k Δ ts τs ≡ good tt) × Allows Δ₀ (waits_in_all Δ ts)

  -- after the body of a let no place for 8 is left
  none_left : (s : Bool) (k : ℕ) {L : List ℕ} → s ≡ true → L ≡ [] → need_none (unless s k ++ L) ≡ good tt
  unfolding need_none unless
  none_left s k {L} p q = ap (λ s. need_none (unless s k ++ L)) p ∙ ap need_none q

  -- a variable's naming, if it is one, waits
  var-waits : (Δ₀ Δ : Context) (k i : ℕ) → ((marks Δ i && not (dynamics Δ i)) ≡ true → marks Δ₀ i ≡ true) → Allows Δ₀ (waits_in Δ (var k i))
  unfolding waits
  var-waits Δ₀ Δ k i s = go (marks Δ i && not (dynamics Δ i)) s
    where
      go : (b : Bool) → (b ≡ true → marks Δ₀ i ≡ true) → Allows Δ₀ (cond b (record { variable = i; place = k } ∷ []) [])
      go true s = (s refl, tt)
      go false s = tt

  -- what is bound so is not barred and marked
  no_naming : (Δ₀ Δ : Context) (i : ℕ) (x : Binding) → look Δ i ≡ some x → (marked (some x) && not (is_dynamic (some x))) ≡ false
      → (marks Δ i && not (dynamics Δ i)) ≡ true → marks Δ₀ i ≡ true
  no_naming Δ₀ Δ i x p e y = absurd (false≢true (sym e ∙ sym (ap (λ o. marked o && not (is_dynamic o)) p) ∙ y))

  infers : {Δ₀ : Context} {U : Vars} {s : Subject} → Types variables most P Δ₀ U s → (Δ : Context) → Fewer Δ₀ Δ → Inferred Δ₀ Δ s
  unfolding infer infer_arguments visible as_sum as_prod as_mu as_fun count is_dynamic marked waits waits_all
  infers (t_var1 {k = k} {i = i} {Δ = Δ₀} {τ = τ} p) Δ F = given (fewer_named Δ₀ Δ F i p) λ q.
      (ap (visible (term k)) q, var-waits Δ₀ Δ k i (no_naming Δ₀ Δ i (static τ) q refl))
  infers (t_var2 {k = k} {i = i} {Δ = Δ₀} {τ = τ} p) Δ F = given (more-dynamic Δ₀ Δ F i p) λ (n, q).
      (ap (visible (term k)) q, var-waits Δ₀ Δ k i (no_naming Δ₀ Δ i (dynamic n τ) q (and-false n)))
  infers (t_var3 {k = k} {i = i} {Δ = Δ₀} p) Δ F =
      (ap (visible (term k)) (more-barred Δ₀ Δ F i p), var-waits Δ₀ Δ k i λ y. ap marked p)
  infers t_unit Δ F = (refl, tt)
  infers (t_unit_elm i p d) Δ F = infers d Δ F
  infers (t_inl {τ = τ} d) Δ F = given (infers d Δ F) λ (x, A). (go_on _ x (go-past (met 6 _ (same_ty_refl τ)) refl), A)
  infers (t_inr {τ' = τ'} d) Δ F = given (infers d Δ F) λ (x, A). (go_on _ x (go-past (met 6 _ (same_ty_refl τ')) refl), A)
  infers (t_prod {Δ = Δ₀} {e = e} {e' = e'} d d' n) Δ F = given (infers d Δ F) λ (x, A). given (infers d' Δ F) λ (x', A').
      (go_on _ x (go_on _ x' (go-past (met 6 _ (leb_yes _ _ n)) refl)), allows-both Δ₀ (waits_in Δ e) (waits_in Δ e') A A')
  infers (t_let1 {k = k} {Δ = Δ₀} {e = e} {b = b} {τ' = τ'} U' r d d' z) Δ F =
      given (infers d (mark (λ i. true) Δ) (fewer-mark (uses_of b) Δ₀ Δ F)) λ (x, A).
      given (infers d' (dynamic false τ' ∷ Δ) (fewer-push τ' Δ₀ Δ F)) λ (x', A').
      given (settles Δ₀ Δ F b (waits_in (mark (λ i. true) Δ) e) A) λ (l, A₁). given (fewer-length Δ₀ Δ F) λ n. (
        go-past (met 7 _ (leb_yes (1 + length Δ) variables (omega (arith, r, n)))) (go_on _ x (go_on _ x'
            (go-past (none_left _ _ (subst (λ n. spent n τ' b ≡ true) n (uses-newest U' (uses variables most P d'))) l) refl))),
        subst (Allows Δ₀) (sym (waits_let τ' Δ k e b)) (allows-both Δ₀ (onward (helps (dynamics Δ) b) (marks Δ) (waits_in (mark (λ i. true) Δ) e))
            (waits_in (dynamic false τ' ∷ Δ) b) A₁ (allows-pop τ' Δ₀ (waits_in (dynamic false τ' ∷ Δ) b) A')),
      )
  infers (t_let2 {k = k} {Δ = Δ₀} {e = e} {b = b} {τ' = τ'} {τ'' = τ''} U' r d d' z z') Δ F =
      given (infers d (mark (λ i. true) Δ) (fewer-mark (uses_of b) Δ₀ Δ F)) λ (x, A).
      given (infers d' (dynamic false τ'' ∷ dynamic false τ' ∷ Δ)
      (fewer-push τ'' (dynamic false τ' ∷ Δ₀) (dynamic false τ' ∷ Δ) (fewer-push τ' Δ₀ Δ F))) λ (x', A').
      given (settles Δ₀ Δ F b (waits_in (mark (λ i. true) Δ) e) A) λ (l, A₁). given (fewer-length Δ₀ Δ F) λ n. given (uses variables most P d') λ u. (
        go-past (met 7 _ (leb_yes (2 + length Δ) variables (omega (arith, r, n)))) (go_on _ x (go_on _ x'
            (go-past (none_left _ _ (subst (λ n. (spent n τ' b && spent (suc n) τ'' b) ≡ true) n
            (and_yes (uses-newest U' (uses-first U' u z')) (uses-newest (U' ∪ only (length Δ₀)) u))) l) refl))),
        subst (Allows Δ₀) (sym (waits_letp τ' τ'' Δ k e b)) (allows-both Δ₀ (onward (helps (dynamics Δ) b) (marks Δ) (waits_in (mark (λ i. true) Δ) e))
            (waits_in (dynamic false τ'' ∷ dynamic false τ' ∷ Δ) b) A₁ (allows-pop τ' Δ₀ (waits_in (dynamic false τ'' ∷ dynamic false τ' ∷ Δ) b)
            (allows-pop τ'' (dynamic false τ' ∷ Δ₀) (waits_in (dynamic false τ'' ∷ dynamic false τ' ∷ Δ) b) A'))),
      )
  infers (t_sum {k = k} {Δ = Δ₀} {e = e} {b = b} {b' = b'} {τ = τ} {τ' = τ'} {τ'' = τ''} U' r d d₁ d₂ z) Δ F = given (infers d Δ F) λ (x, A).
      given (infers d₁ (dynamic false τ' ∷ Δ) (fewer-push τ' Δ₀ Δ F)) λ (x₁, A₁). given (infers d₂ (dynamic false τ'' ∷ Δ) (fewer-push τ'' Δ₀ Δ F)) λ (x₂, A₂).
      given (uses variables most P d₁) λ u₁. given (uses variables most P d₂) λ u₂. given (fewer-length Δ₀ Δ F) λ n. (
        go-past (met 7 _ (leb_yes (1 + length Δ) variables (omega (arith, r, n)))) (go_on _ x (go_on _ x₁
            (go-past (met 8 _ (subst (λ n. spent n τ' b ≡ true) n (uses-newest U' u₁))) (go_on _ x₂ (go-past (met 6 _ (same_ty_refl τ))
            (go-past (met 8 _ (and_yes (subst (λ n. spent n τ'' b' ≡ true) n (uses-newest U' u₂))
            (same_use_yes Δ b b' λ i c (m, p) v. given (fewer-dynamic Δ₀ Δ F i p) λ (m₀, q).
            uses-agree (uses-outer U' u₁ z) (uses-outer U' u₂ z) i c (m₀, q) v))) refl)))))),
        subst (Allows Δ₀) (sym (waits_case τ' τ'' Δ k e b b')) (allows-both Δ₀ (waits_in Δ e)
            (waits_in (dynamic false τ' ∷ Δ) b ++ waits_in (dynamic false τ'' ∷ Δ) b') A
            (allows-both Δ₀ (waits_in (dynamic false τ' ∷ Δ) b) (waits_in (dynamic false τ'' ∷ Δ) b')
            (allows-pop τ' Δ₀ (waits_in (dynamic false τ' ∷ Δ) b) A₁) (allows-pop τ'' Δ₀ (waits_in (dynamic false τ'' ∷ Δ) b') A₂))),
      )
  infers (t_app1 {k = k} {g = j} {Δ = Δ₀} {ts = ts} {e = e} {h = h} g a d) Δ F =
      given (infers a (bar Δ) (fewer-bar Δ₀ Δ F)) λ (n, each, A). given (infers d Δ F) λ (x, A'). (
        go-into (term k) _ g (go-past (met 6 _ (ap (λ m. eqb m (length h.ancillae)) n ∙ eqb_yes (length h.ancillae))) (go-past (each k)
            (go_on _ x (go-past (met 6 _ (same_ty_refl h.dynamic)) refl)))),
        subst (Allows Δ₀) (sym (waits-call Δ k j ts e))
            (allows-both Δ₀ (waits_in_all (bar Δ) ts) (waits_in Δ e) (allows_unbar Δ₀ (waits_in_all (bar Δ) ts) A) A'),
      )
  infers (t_app2 {Δ = Δ₀} {t = t} {ts = ts} {τ = τ} d a) Δ F = given (infers d Δ F) λ (x, A). given (infers a Δ F) λ (n, each, A').
      (ap suc n, λ k. go_on _ x (go-past (met 6 _ (same_ty_refl τ)) (each k)), allows-both Δ₀ (waits_in Δ t) (waits_in_all Δ ts) A A')
  infers t_app2_end Δ F = (refl, λ k. refl, tt)
  infers (t_roll d) Δ F = given (infers d Δ F) λ (x, A). (go_on _ x (go-past (met 6 _ (same_ty_refl _)) refl), A)
  infers (t_unroll d n) Δ F = given (infers d Δ F) λ (x, A). (go-past (met 6 _ (leb_yes _ _ n)) (go_on _ x (go-past (met 6 _ (same_ty_refl _)) refl)), A)

  pub infer_complete : {Δ : Context} {U : Vars} {t : Term} {τ : Ty} → Types variables most P Δ U (t ∶ τ) → infer variables most P Δ t ≡ good τ
  infer_complete {Δ} d = (infers d Δ (fewer_refl Δ)).0

  ----------------------------------------------------------------
  -- Functions and programs

  fun_complete : (g : ℕ) (h : Fun) → Declared variables most P h → check_fun variables most P g h ≡ good tt
  unfolding check_fun spent
  fun_complete g h w = go_on _ (infer_complete (body_typed variables most P w))
      (go-past (met 6 _ (same_ty_refl h.result)) (met 8 _ (parameter_spent variables most P h w)))

  funs_complete : (g : ℕ) (hs : List Fun) → ((j : ℕ) (h : Fun) → nth hs j ≡ some h → Declared variables most P h) → check_funs variables most P g hs ≡ good tt
  unfolding check_funs nth
  funs_complete g [] w = refl
  funs_complete g (h ∷ hs) w = go-past (fun_complete g h (w zero h refl)) (funs_complete (suc g) hs λ j h' p. w (suc j) h' p)

  pub check_complete : WellTyped variables most P → check variables most P ≡ good tt
  unfolding check
  check_complete w = funs_complete 0 P w
