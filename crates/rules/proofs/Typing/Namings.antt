-- Namings that wait (02, F-2): contexts with fewer marks, what they allow, and how the namings of a bound term are settled after the
-- body of its let.
use Prim.Native.Nat.{ℕ, suc}
use native.Mathlib.Omega.{arith}
use mathlib.Core.Path.{◌≡◌, refl, sym, ap, subst, ◌∙◌}
use mathlib.Core.Bool.{Bool, true, false, not, ◌&&◌, ◌||◌, cond, false≢true}
use mathlib.Core.Option.{Option, none, some}
use mathlib.Core.List.{List, [], ◌∷◌, ◌++◌}
use mathlib.Core.Logic.{⊎_elim}
use lib.ListN.{length}
use lib.Dec.{eqb}
use package.Rattle.rules.specs.Ty.{Ty}
use package.Rattle.rules.specs.Term.{Term, look, used_in}
use package.Rattle.rules.specs.Typing.{Binding, static, dynamic, barred, Context, bar_one, bar, Vars, mark_one, mark}
use package.Rattle.rules.specs.Check.{Naming, is_dynamic, marked, dynamics, marks, helps, onward, late, unless}
use package.Rattle.rules.proofs.Basics.{given, and_both, or_left, or_right}
use package.Rattle.rules.proofs.Typing.Contexts.{look_cases, look_old, mark_o, look_mark}

----------------------------------------------------------------
-- Contexts with fewer marks

abbrev Less : Binding → Binding → Type 0
Less (static c) (static d) = c ≡ d
Less (static c) (dynamic n d) = ⊥
Less (static c) (barred n d) = ⊥
Less (dynamic m c) (static d) = ⊥
Less (dynamic m c) (dynamic n d) = (m ≡ true → n ≡ true) × (c ≡ d)
Less (dynamic m c) (barred n d) = ⊥
Less (barred m c) (static d) = ⊥
Less (barred m c) (dynamic n d) = ⊥
Less (barred m c) (barred n d) = (m ≡ true → n ≡ true) × (c ≡ d)

-- the first context is the second with fewer marks
abbrev pub Fewer : Context → Context → Type 0
Fewer [] [] = Unit {0}
Fewer [] (y ∷ Δ) = ⊥
Fewer (x ∷ Δ₀) [] = ⊥
Fewer (x ∷ Δ₀) (y ∷ Δ) = Less x y × Fewer Δ₀ Δ

less_refl : (x : Binding) → Less x x
less_refl (static c) = refl
less_refl (dynamic m c) = (λ e. e, refl)
less_refl (barred m c) = (λ e. e, refl)

pub fewer_refl : (Δ : Context) → Fewer Δ Δ
fewer_refl [] = tt
fewer_refl (x ∷ Δ) = (less_refl x, fewer_refl Δ)

pub fewer-push : (c : Ty) (Δ₀ Δ : Context) → Fewer Δ₀ Δ → Fewer (dynamic false c ∷ Δ₀) (dynamic false c ∷ Δ)
fewer-push c Δ₀ Δ h = (less_refl (dynamic false c), h)

pub fewer-length : (Δ₀ Δ : Context) → Fewer Δ₀ Δ → length Δ₀ ≡ length Δ
fewer-length [] [] h = refl
fewer-length [] (y ∷ Δ) h = absurd h
fewer-length (x ∷ Δ₀) [] h = absurd h
fewer-length (x ∷ Δ₀) (y ∷ Δ) h = ap suc (fewer-length Δ₀ Δ h.1)

-- the context of a bound term by the rules has fewer marks than by the function, which marks all
pub fewer-mark : (N : Vars) (Δ₀ Δ : Context) → Fewer Δ₀ Δ → Fewer (mark N Δ₀) (mark (λ i. true) Δ)
unfolding mark mark_one
fewer-mark N [] [] h = tt
fewer-mark N [] (y ∷ Δ) h = absurd h
fewer-mark N (x ∷ Δ₀) [] h = absurd h
fewer-mark N (x ∷ Δ₀) (y ∷ Δ) h = (go x y h.0, fewer-mark N Δ₀ Δ h.1)
  where
    go : (x y : Binding) → Less x y → Less (mark_one (N (length Δ₀)) x) (mark_one true y)
    go (static c) (static d) l = l
    go (static c) (dynamic n d) l = absurd l
    go (static c) (barred n d) l = absurd l
    go (dynamic m c) (static d) l = absurd l
    go (dynamic m c) (dynamic n d) l = (λ e. or_right n refl, l.1)
    go (dynamic m c) (barred n d) l = absurd l
    go (barred m c) (static d) l = absurd l
    go (barred m c) (dynamic n d) l = absurd l
    go (barred m c) (barred n d) l = l

pub fewer-bar : (Δ₀ Δ : Context) → Fewer Δ₀ Δ → Fewer (bar Δ₀) (bar Δ)
unfolding bar bar_one
fewer-bar [] [] h = tt
fewer-bar [] (y ∷ Δ) h = absurd h
fewer-bar (x ∷ Δ₀) [] h = absurd h
fewer-bar (x ∷ Δ₀) (y ∷ Δ) h = (go x y h.0, fewer-bar Δ₀ Δ h.1)
  where
    go : (x y : Binding) → Less x y → Less (bar_one x) (bar_one y)
    go (static c) (static d) l = l
    go (static c) (dynamic n d) l = absurd l
    go (static c) (barred n d) l = absurd l
    go (dynamic m c) (static d) l = absurd l
    go (dynamic m c) (dynamic n d) l = l
    go (dynamic m c) (barred n d) l = absurd l
    go (barred m c) (static d) l = absurd l
    go (barred m c) (dynamic n d) l = absurd l
    go (barred m c) (barred n d) l = l

-- the same of what a variable is bound to
abbrev LessO : Option Binding → Option Binding → Type 0
LessO none none = Unit {0}
LessO none (some y) = ⊥
LessO (some x) none = ⊥
LessO (some x) (some y) = Less x y

pub fewer_look : (Δ₀ Δ : Context) (i : ℕ) → Fewer Δ₀ Δ → LessO (look Δ₀ i) (look Δ i)
unfolding look
fewer_look [] [] i h = tt
fewer_look [] (y ∷ Δ) i h = absurd h
fewer_look (x ∷ Δ₀) [] i h = absurd h
fewer_look (x ∷ Δ₀) (y ∷ Δ) i h =
    subst (λ n. LessO (cond (eqb i n) (some x) (look Δ₀ i)) (cond (eqb i (length Δ)) (some y) (look Δ i))) (sym (fewer-length Δ₀ Δ h.1))
    (go (eqb i (length Δ)) (fewer_look Δ₀ Δ i h.1))
  where
    go : (b : Bool) → LessO (look Δ₀ i) (look Δ i) → LessO (cond b (some x) (look Δ₀ i)) (cond b (some y) (look Δ i))
    go true l = h.0
    go false l = l

module _ (Δ₀ Δ : Context) (h : Fewer Δ₀ Δ) (i : ℕ) where
  pub fewer-static : {c : Ty} → look Δ i ≡ some (static c) → look Δ₀ i ≡ some (static c)
  fewer-static {c} p = go (look Δ₀ i) refl (subst (LessO (look Δ₀ i)) p (fewer_look Δ₀ Δ i h))
    where
      go : (o : Option Binding) → look Δ₀ i ≡ o → LessO (look Δ₀ i) (some (static c)) → look Δ₀ i ≡ some (static c)
      go none e l = absurd (subst (λ o. LessO o (some (static c))) e l)
      go (some (static d)) e l = e ∙ ap (λ d. some (static d)) (subst (λ o. LessO o (some (static c))) e l)
      go (some (dynamic n d)) e l = absurd (subst (λ o. LessO o (some (static c))) e l)
      go (some (barred n d)) e l = absurd (subst (λ o. LessO o (some (static c))) e l)

  pub fewer-dynamic : {m : Bool} {c : Ty} → look Δ i ≡ some (dynamic m c) → (n : Bool) × (look Δ₀ i ≡ some (dynamic n c))
  fewer-dynamic {m} {c} p = go (look Δ₀ i) refl (subst (LessO (look Δ₀ i)) p (fewer_look Δ₀ Δ i h))
    where
      go : (o : Option Binding) → look Δ₀ i ≡ o → LessO (look Δ₀ i) (some (dynamic m c)) → (n : Bool) × (look Δ₀ i ≡ some (dynamic n c))
      go none e l = absurd (subst (λ o. LessO o (some (dynamic m c))) e l)
      go (some (static d)) e l = absurd (subst (λ o. LessO o (some (dynamic m c))) e l)
      go (some (dynamic n d)) e l = (n, e ∙ ap (λ d. some (dynamic n d)) (subst (λ o. LessO o (some (dynamic m c))) e l).1)
      go (some (barred n d)) e l = absurd (subst (λ o. LessO o (some (dynamic m c))) e l)

  pub fewer-barred : {m : Bool} {c : Ty} → look Δ i ≡ some (barred m c) → marked (look Δ₀ i) ≡ true → look Δ₀ i ≡ some (barred true c)
  unfolding marked
  fewer-barred {m} {c} p x = go (look Δ₀ i) refl (subst (LessO (look Δ₀ i)) p (fewer_look Δ₀ Δ i h))
    where
      go : (o : Option Binding) → look Δ₀ i ≡ o → LessO (look Δ₀ i) (some (barred m c)) → look Δ₀ i ≡ some (barred true c)
      go none e l = absurd (subst (λ o. LessO o (some (barred m c))) e l)
      go (some (static d)) e l = absurd (subst (λ o. LessO o (some (barred m c))) e l)
      go (some (dynamic n d)) e l = absurd (subst (λ o. LessO o (some (barred m c))) e l)
      go (some (barred n d)) e l = e ∙ ap (λ d. some (barred n d)) (subst (λ o. LessO o (some (barred m c))) e l).1
          ∙ ap (λ n. some (barred n c)) (sym (ap marked e) ∙ x)

  pub fewer_named : {c : Ty} → look Δ₀ i ≡ some (static c) → look Δ i ≡ some (static c)
  fewer_named {c} p = go (look Δ i) refl (subst (λ o. LessO o (look Δ i)) p (fewer_look Δ₀ Δ i h))
    where
      go : (o : Option Binding) → look Δ i ≡ o → LessO (some (static c)) (look Δ i) → look Δ i ≡ some (static c)
      go none e l = absurd (subst (LessO (some (static c))) e l)
      go (some (static d)) e l = e ∙ ap (λ d. some (static d)) (sym (subst (LessO (some (static c))) e l))
      go (some (dynamic n d)) e l = absurd (subst (LessO (some (static c))) e l)
      go (some (barred n d)) e l = absurd (subst (LessO (some (static c))) e l)

  pub more-dynamic : {m : Bool} {c : Ty} → look Δ₀ i ≡ some (dynamic m c) → (n : Bool) × (look Δ i ≡ some (dynamic n c))
  more-dynamic {m} {c} p = go (look Δ i) refl (subst (λ o. LessO o (look Δ i)) p (fewer_look Δ₀ Δ i h))
    where
      go : (o : Option Binding) → look Δ i ≡ o → LessO (some (dynamic m c)) (look Δ i) → (n : Bool) × (look Δ i ≡ some (dynamic n c))
      go none e l = absurd (subst (LessO (some (dynamic m c))) e l)
      go (some (static d)) e l = absurd (subst (LessO (some (dynamic m c))) e l)
      go (some (dynamic n d)) e l = (n, e ∙ ap (λ d. some (dynamic n d)) (sym (subst (LessO (some (dynamic m c))) e l).1))
      go (some (barred n d)) e l = absurd (subst (LessO (some (dynamic m c))) e l)

  pub more-barred : {c : Ty} → look Δ₀ i ≡ some (barred true c) → look Δ i ≡ some (barred true c)
  more-barred {c} p = go (look Δ i) refl (subst (λ o. LessO o (look Δ i)) p (fewer_look Δ₀ Δ i h))
    where
      go : (o : Option Binding) → look Δ i ≡ o → LessO (some (barred true c)) (look Δ i) → look Δ i ≡ some (barred true c)
      go none e l = absurd (subst (LessO (some (barred true c))) e l)
      go (some (static d)) e l = absurd (subst (LessO (some (barred true c))) e l)
      go (some (dynamic n d)) e l = absurd (subst (LessO (some (barred true c))) e l)
      go (some (barred n d)) e l = given (subst (LessO (some (barred true c))) e l) λ (x, y).
          e ∙ ap (λ n. some (barred n d)) (x refl) ∙ ap (λ d. some (barred true d)) (sym y)

----------------------------------------------------------------
-- Namings that a context allows

abbrev pub Allows : Context → List Naming → Type 0
Allows Δ [] = Unit {0}
Allows Δ (n ∷ W) = (marked (look Δ n.variable) ≡ true) × Allows Δ W

pub allows-both : (Δ : Context) (W W' : List Naming) → Allows Δ W → Allows Δ W' → Allows Δ (W ++ W')
allows-both Δ [] W' x y = y
allows-both Δ (n ∷ W) W' x y = (x.0, allows-both Δ W W' x.1 y)

pub allows-first : (Δ : Context) (W W' : List Naming) → Allows Δ (W ++ W') → Allows Δ W
allows-first Δ [] W' x = tt
allows-first Δ (n ∷ W) W' x = (x.0, allows-first Δ W W' x.1)

pub allows-second : (Δ : Context) (W W' : List Naming) → Allows Δ (W ++ W') → Allows Δ W'
allows-second Δ [] W' x = x
allows-second Δ (n ∷ W) W' x = allows-second Δ W W' x.1

allows-map : (Δ Δ' : Context) → ((i : ℕ) → marked (look Δ i) ≡ true → marked (look Δ' i) ≡ true) → (W : List Naming) → Allows Δ W → Allows Δ' W
allows-map Δ Δ' s [] x = tt
allows-map Δ Δ' s (n ∷ W) x = (s n.variable x.0, allows-map Δ Δ' s W x.1)

marked_some : (o : Option Binding) → marked o ≡ true → (x : Binding) × (o ≡ some x)
unfolding marked
marked_some none e = absurd (false≢true e)
marked_some (some x) e = (x, refl)

-- a new variable is not marked
pub allows-pop : (c : Ty) (Δ : Context) (W : List Naming) → Allows (dynamic false c ∷ Δ) W → Allows Δ W
unfolding marked
allows-pop c Δ = allows-map (dynamic false c ∷ Δ) Δ λ i x. given (marked_some (look (dynamic false c ∷ Δ) i) x) λ (y, p).
    ⊎_elim (λ (e, q). absurd (false≢true (ap (λ y. marked (some y)) q ∙ sym (ap marked p) ∙ x)))
    (λ q. ap marked (q ∙ sym p) ∙ x) (look_cases Δ (dynamic false c) i p)

pub allows-push : (c : Ty) (Δ : Context) (W : List Naming) → Allows Δ W → Allows (dynamic false c ∷ Δ) W
allows-push c Δ = allows-map Δ (dynamic false c ∷ Δ) λ i x. given (marked_some (look Δ i) x) λ (y, p). ap marked (look_kept i p) ∙ sym (ap marked p) ∙ x
  where
    look_kept : (i : ℕ) {y : Binding} → look Δ i ≡ some y → look (dynamic false c ∷ Δ) i ≡ some y
    look_kept i p = look_old Δ (dynamic false c) i p

-- an ancilla argument sees the marks
pub marked-bar : (Δ : Context) (i : ℕ) → marked (look (bar Δ) i) ≡ marked (look Δ i)
unfolding bar look marked bar_one
marked-bar [] i = refl
marked-bar (x ∷ Δ) i = ap (λ n. marked (cond (eqb i n) (some (bar_one x)) (look (bar Δ) i))) (bar-length Δ) ∙ go (eqb i (length Δ)) (marked-bar Δ i)
  where
    bar-length : (Δ : Context) → length (bar Δ) ≡ length Δ
    bar-length [] = refl
    bar-length (y ∷ Δ) = ap suc (bar-length Δ)

    one : (x : Binding) → marked (some (bar_one x)) ≡ marked (some x)
    one (static c) = refl
    one (dynamic m c) = refl
    one (barred m c) = refl

    go : (b : Bool) → marked (look (bar Δ) i) ≡ marked (look Δ i) → marked (cond b (some (bar_one x)) (look (bar Δ) i)) ≡ marked (cond b (some x) (look Δ i))
    go true r = one x
    go false r = r

pub allows-bar : (Δ : Context) (W : List Naming) → Allows Δ W → Allows (bar Δ) W
allows-bar Δ = allows-map Δ (bar Δ) λ i x. marked-bar Δ i ∙ x

pub allows_unbar : (Δ : Context) (W : List Naming) → Allows (bar Δ) W → Allows Δ W
allows_unbar Δ = allows-map (bar Δ) Δ λ i x. sym (marked-bar Δ i) ∙ x

----------------------------------------------------------------
-- How namings are settled

cons≢nil : {k : ℕ} {L : List ℕ} → k ∷ L ≡ [] → ⊥
cons≢nil p = let z : ◌≡◌ {A = ℕ} 0 1 = cc in omega arith

-- what goes on waiting, the context allows
pub onward-allowed : (Δ : Context) (b : Term) (W : List Naming) → Allows Δ (onward (helps (dynamics Δ) b) (marks Δ) W)
unfolding onward
onward-allowed Δ b [] = tt
onward-allowed Δ b (x ∷ W) = go (marks Δ x.variable) refl (helps (dynamics Δ) b x.variable) (onward-allowed Δ b W)
  where
    go : (m : Bool) → marks Δ x.variable ≡ m → (h : Bool) → Allows Δ (onward (helps (dynamics Δ) b) (marks Δ) W)
        → Allows Δ (cond (m && not h) (x ∷ onward (helps (dynamics Δ) b) (marks Δ) W) (onward (helps (dynamics Δ) b) (marks Δ) W))
    go true e true r = r
    go true e false r = (e, r)
    go false e h r = r

-- One naming, by what its variable is bound to; `u` tells whether the body uses the variable. It is not refused, and if it goes on waiting
-- the context with fewer marks allows it: then the let's marks allow it there.
one-settled : (o₀ o : Option Binding) (u : Bool) → LessO o₀ o → (marked o || (is_dynamic o && u)) ≡ true
    → ((marked o && not (is_dynamic o && u)) ≡ true → marked o₀ ≡ true) → marked (mark_o u o₀) ≡ true
unfolding marked is_dynamic mark_one
one-settled none none u l x s = absurd (false≢true x)
one-settled none (some y) u l x s = absurd l
one-settled (some y) none u l x s = absurd l
one-settled (some (static c)) (some (static d)) u l x s = absurd (false≢true x)
one-settled (some (static c)) (some (dynamic n d)) u l x s = absurd l
one-settled (some (static c)) (some (barred n d)) u l x s = absurd l
one-settled (some (dynamic m c)) (some (static d)) u l x s = absurd l
one-settled (some (dynamic m c)) (some (dynamic n d)) true l x s = or_right m refl
one-settled (some (dynamic m c)) (some (dynamic true d)) false l x s = or_left false (s refl)
one-settled (some (dynamic m c)) (some (dynamic false d)) false l x s = absurd (false≢true x)
one-settled (some (dynamic m c)) (some (barred n d)) u l x s = absurd l
one-settled (some (barred m c)) (some (static d)) u l x s = absurd l
one-settled (some (barred m c)) (some (dynamic n d)) u l x s = absurd l
one-settled (some (barred m c)) (some (barred true d)) u l x s = s refl
one-settled (some (barred m c)) (some (barred false d)) u l x s = absurd (false≢true x)

-- and the other way round
one-settles : (o₀ o : Option Binding) (u : Bool) → LessO o₀ o → marked (mark_o u o₀) ≡ true
    → ((marked o || (is_dynamic o && u)) ≡ true) × ((marked o && not (is_dynamic o && u)) ≡ true → marked o₀ ≡ true)
unfolding marked is_dynamic mark_one
one-settles none none u l x = absurd (false≢true x)
one-settles none (some y) u l x = absurd l
one-settles (some y) none u l x = absurd l
one-settles (some (static c)) (some (static d)) u l x = absurd (false≢true x)
one-settles (some (static c)) (some (dynamic n d)) u l x = absurd l
one-settles (some (static c)) (some (barred n d)) u l x = absurd l
one-settles (some (dynamic m c)) (some (static d)) u l x = absurd l
one-settles (some (dynamic m c)) (some (dynamic n d)) true l x = (or_right n refl, λ y. absurd (false≢true (and_both n false y).1))
one-settles (some (dynamic true c)) (some (dynamic n d)) false l x = (or_left false (l.0 refl), λ y. refl)
one-settles (some (dynamic false c)) (some (dynamic n d)) false l x = absurd (false≢true x)
one-settles (some (dynamic m c)) (some (barred n d)) u l x = absurd l
one-settles (some (barred m c)) (some (static d)) u l x = absurd l
one-settles (some (barred m c)) (some (dynamic n d)) u l x = absurd l
one-settles (some (barred m c)) (some (barred n d)) u l x = (or_left false (l.0 x), λ y. x)

module _ (Δ₀ Δ : Context) (h : Fewer Δ₀ Δ) (b : Term) where
  abbrev N : Vars
  N = λ i. used_in i b

  abbrev kept : List Naming → List Naming
  kept W = onward (helps (dynamics Δ) b) (marks Δ) W

  abbrev refused : List Naming → List ℕ
  refused W = late (helps (dynamics Δ) b) (marks Δ) W

  -- the let's marks, and those of the context with fewer, of one variable
  marked-there : (i : ℕ) → marks (mark N Δ₀) i ≡ marked (mark_o (used_in i b) (look Δ₀ i))
  marked-there i = ap marked (look_mark N Δ₀ i)

  -- not refused, and allowed if it goes on waiting: then the let's marks allow it
  one-there : (i : ℕ) → (marks Δ i || helps (dynamics Δ) b i) ≡ true → ((marks Δ i && not (helps (dynamics Δ) b i)) ≡ true → marks Δ₀ i ≡ true)
      → marks (mark N Δ₀) i ≡ true
  one-there i e s = marked-there i ∙ one-settled (look Δ₀ i) (look Δ i) (used_in i b) (fewer_look Δ₀ Δ i h) e s

  -- nothing is refused, and what goes on waiting is allowed: then the marks of the let allow all
  pub settled : (W : List Naming) → refused W ≡ [] → Allows Δ₀ (kept W) → Allows (mark N Δ₀) W
  unfolding late onward
  settled [] x y = tt
  settled (n ∷ W) x y = go n.variable (marks Δ n.variable || helps (dynamics Δ) b n.variable) refl x
      (marks Δ n.variable && not (helps (dynamics Δ) b n.variable)) refl y (settled W)
    where
      go : (i : ℕ) (c : Bool) → (marks Δ i || helps (dynamics Δ) b i) ≡ c → cond c (refused W) (n.place ∷ refused W) ≡ []
          → (d : Bool) → (marks Δ i && not (helps (dynamics Δ) b i)) ≡ d
          → Allows Δ₀ (cond d (record { variable = i; place = n.place } ∷ kept W) (kept W))
          → (refused W ≡ [] → Allows Δ₀ (kept W) → Allows (mark N Δ₀) W) → (marks (mark N Δ₀) i ≡ true) × Allows (mark N Δ₀) W
      go i false e x d e' y r = absurd (cons≢nil x)
      go i true e x true e' y r = (one-there i e (λ z. y.0), r x y.1)
      go i true e x false e' y r = (one-there i e (λ z. absurd (false≢true (sym e' ∙ z))), r x y)

  -- and the other way round
  pub settles : (W : List Naming) → Allows (mark N Δ₀) W → (refused W ≡ []) × Allows Δ₀ (kept W)
  unfolding late onward
  settles [] x = (refl, tt)
  settles (n ∷ W) x = given (one-settles (look Δ₀ n.variable) (look Δ n.variable) (used_in n.variable b) (fewer_look Δ₀ Δ n.variable h)
      (sym (marked-there n.variable) ∙ x.0)) λ (y, z).
      given (settles W x.1) λ (l, r). (
        ap (λ c. cond c (refused W) (n.place ∷ refused W)) y ∙ l,
        go (marks Δ n.variable && not (helps (dynamics Δ) b n.variable)) z r,
      )
    where
      go : (d : Bool) → (d ≡ true → marks Δ₀ n.variable ≡ true) → Allows Δ₀ (kept W) → Allows Δ₀ (cond d (n ∷ kept W) (kept W))
      go true s r = (s refl, r)
      go false s r = r

-- no place is left
pub no-places : (s : Bool) (k : ℕ) (L : List ℕ) → (unless s k ++ L) ≡ [] → (s ≡ true) × (L ≡ [])
unfolding unless
no-places true k L e = (refl, e)
no-places false k L e = absurd (cons≢nil e)
