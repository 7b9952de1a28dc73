-- Contexts: what a variable is bound to, what becomes of a binding inside an ancilla argument, and the types of all variables.
use Prim.Native.Nat.{ℕ, suc}
use native.Mathlib.Omega.{arith}
use mathlib.Core.Path.{◌≡◌, refl, sym, ap, ◌∙◌, fun_ext}
use mathlib.Core.Bool.{Bool, true, false, ◌||◌, cond}
use mathlib.Core.Option.{Option, none, some}
use mathlib.Core.List.{List, [], ◌∷◌, map}
use mathlib.Core.Logic.{◌⊎◌, inl as left, inr as right, ⊎_elim}
use lib.ListN.{length, length-map}
use lib.Dec.{eqb}
use package.Rattle.rules.specs.Ty.{Ty}
use package.Rattle.rules.specs.Term.{look}
use package.Rattle.rules.specs.Typing.{Binding, static, dynamic, barred, Context, bar_one, bar, Vars, mark_one, mark}
use package.Rattle.rules.specs.Check.{is_dynamic, dynamics}
use package.Rattle.rules.proofs.Basics.{given, none≢some, some_inj, eqb-sound}
use package.Rattle.rules.proofs.Scope.{look_lt, look_skip, look_newest}

----------------------------------------------------------------
-- A scope and one variable more

module _ {A : Type 0} where
  -- a variable is the newest, or was bound before
  pub look_cases : (ρ : List A) (v : A) (i : ℕ) {w : A} → look (v ∷ ρ) i ≡ some w → ((i ≡ length ρ) × (v ≡ w)) ⊎ (look ρ i ≡ some w)
  unfolding look
  look_cases ρ v i {w} p = go (eqb i (length ρ)) refl p
    where
      go : (b : Bool) → eqb i (length ρ) ≡ b → cond b (some v) (look ρ i) ≡ some w → ((i ≡ length ρ) × (v ≡ w)) ⊎ (look ρ i ≡ some w)
      go true e p = left (eqb-sound i (length ρ) e, some_inj p)
      go false e p = right p

  -- what was bound before stays
  pub look_old : (ρ : List A) (v : A) (i : ℕ) {w : A} → look ρ i ≡ some w → look (v ∷ ρ) i ≡ some w
  look_old ρ v i p = look_skip ρ v i (look_lt ρ i p) ∙ p

----------------------------------------------------------------
-- Scopes made from one another, binding by binding

module _ {A B : Type 0} (f : A → B) where
  pub look_map : (ρ : List A) (i : ℕ) {x : A} → look ρ i ≡ some x → look (map f ρ) i ≡ some (f x)
  unfolding look
  look_map [] i p = absurd (none≢some p)
  look_map (v ∷ ρ) i p = ⊎_elim
      (λ (e, y). ap (look (map f (v ∷ ρ))) (e ∙ sym (length-map ρ f)) ∙ look_newest (f v) (map f ρ) ∙ ap (λ x. some (f x)) y)
      (λ q. look_old (map f ρ) (f v) i (look_map ρ i q)) (look_cases ρ v i p)

  pub look_unmap : (ρ : List A) (i : ℕ) {y : B} → look (map f ρ) i ≡ some y → (x : A) × (look ρ i ≡ some x) × (f x ≡ y)
  unfolding look
  look_unmap [] i p = absurd (none≢some p)
  look_unmap (v ∷ ρ) i p = ⊎_elim
      (λ (e, q). (v, ap (look (v ∷ ρ)) (e ∙ length-map ρ f) ∙ look_newest v ρ, q))
      (λ q. given (look_unmap ρ i q) λ (x, r, e). (x, look_old ρ v i r, e)) (look_cases (map f ρ) (f v) i p)

----------------------------------------------------------------
-- Contexts

pub dynamic_inj : {m n : Bool} {c d : Ty} → dynamic m c ≡ dynamic n d → c ≡ d
dynamic_inj p = cc

pub static≢dynamic : {m : Bool} {c d : Ty} → static c ≡ dynamic m d → ⊥
static≢dynamic p = let z : ◌≡◌ {A = ℕ} 0 1 = cc in omega arith

pub barred≢dynamic : {m n : Bool} {c d : Ty} → barred m c ≡ dynamic n d → ⊥
barred≢dynamic p = let z : ◌≡◌ {A = ℕ} 0 1 = cc in omega arith

-- variable `i` is dynamic, of type `c`, marked or not
abbrev pub Dynamic : Context → ℕ → Ty → Type 0
Dynamic Δ i c = (m : Bool) × (look Δ i ≡ some (dynamic m c))

pub dynamic_unique : (Δ : Context) (i : ℕ) {c d : Ty} → Dynamic Δ i c → Dynamic Δ i d → c ≡ d
dynamic_unique Δ i (m, p) (n, q) = dynamic_inj (some_inj (sym p ∙ q))

pub dynamic-old : (Δ : Context) (x : Binding) (i : ℕ) {c : Ty} → Dynamic Δ i c → Dynamic (x ∷ Δ) i c
dynamic-old Δ x i (m, p) = (m, look_old Δ x i p)

pub dynamic-newest : (m : Bool) (c : Ty) (Δ : Context) → Dynamic (dynamic m c ∷ Δ) (length Δ) c
dynamic-newest m c Δ = (m, look_newest (dynamic m c) Δ)

pub dynamic_cases : (Δ : Context) (m : Bool) (d : Ty) (i : ℕ) {c : Ty} → Dynamic (dynamic m d ∷ Δ) i c → ((i ≡ length Δ) × (d ≡ c)) ⊎ Dynamic Δ i c
dynamic_cases Δ m d i (n, p) = ⊎_elim (λ (e, q). left (e, dynamic_inj q)) (λ q. right (n, q)) (look_cases Δ (dynamic m d) i p)

pub dynamic-at : (Δ : Context) {i j : ℕ} {c : Ty} → j ≡ i → Dynamic Δ i c → Dynamic Δ j c
dynamic-at Δ e (m, p) = (m, ap (look Δ) e ∙ p)

abbrev pub type_of : Binding → Ty
type_of (static c) = c
type_of (dynamic m c) = c
type_of (barred m c) = c

-- the types of all variables
abbrev pub types : Context → List Ty
types Δ = map type_of Δ

pub bar-map : (Δ : Context) → bar Δ ≡ map bar_one Δ
unfolding bar
bar-map [] = refl
bar-map (x ∷ Δ) = ap (λ Δ. bar_one x ∷ Δ) (bar-map Δ)

pub length-bar : (Δ : Context) → length (bar Δ) ≡ length Δ
length-bar Δ = ap length (bar-map Δ) ∙ length-map Δ bar_one

-- what an ancilla argument sees of a variable was seen of it around the argument
pub look_bar : (Δ : Context) (i : ℕ) {y : Binding} → look (bar Δ) i ≡ some y → (x : Binding) × (look Δ i ≡ some x) × (bar_one x ≡ y)
look_bar Δ i p = look_unmap bar_one Δ i (ap (λ Δ. look Δ i) (sym (bar-map Δ)) ∙ p)

pub bar_look : (Δ : Context) (i : ℕ) {x : Binding} → look Δ i ≡ some x → look (bar Δ) i ≡ some (bar_one x)
bar_look Δ i p = ap (λ Δ. look Δ i) (bar-map Δ) ∙ look_map bar_one Δ i p

pub types-bar : (Δ : Context) → types (bar Δ) ≡ types Δ
unfolding bar bar_one
types-bar [] = refl
types-bar (static c ∷ Δ) = ap (λ Γ. c ∷ Γ) (types-bar Δ)
types-bar (dynamic m c ∷ Δ) = ap (λ Γ. c ∷ Γ) (types-bar Δ)
types-bar (barred m c ∷ Δ) = ap (λ Γ. c ∷ Γ) (types-bar Δ)

----------------------------------------------------------------
-- Marks

pub length-mark : (N : Vars) (Δ : Context) → length (mark N Δ) ≡ length Δ
unfolding mark
length-mark N [] = refl
length-mark N (x ∷ Δ) = ap suc (length-mark N Δ)

pub types-mark : (N : Vars) (Δ : Context) → types (mark N Δ) ≡ types Δ
unfolding mark mark_one
types-mark N [] = refl
types-mark N (static c ∷ Δ) = ap (λ Γ. c ∷ Γ) (types-mark N Δ)
types-mark N (dynamic m c ∷ Δ) = ap (λ Γ. c ∷ Γ) (types-mark N Δ)
types-mark N (barred m c ∷ Δ) = ap (λ Γ. c ∷ Γ) (types-mark N Δ)

abbrev pub mark_o : Bool → Option Binding → Option Binding
mark_o u none = none
mark_o u (some x) = some (mark_one u x)

pub look_mark : (N : Vars) (Δ : Context) (i : ℕ) → look (mark N Δ) i ≡ mark_o (N i) (look Δ i)
unfolding mark look
look_mark N [] i = refl
look_mark N (x ∷ Δ) i = ap (λ n. cond (eqb i n) (some (mark_one (N (length Δ)) x)) (look (mark N Δ) i)) (length-mark N Δ)
    ∙ go (eqb i (length Δ)) refl (look_mark N Δ i)
  where
    go : (b : Bool) → eqb i (length Δ) ≡ b → look (mark N Δ) i ≡ mark_o (N i) (look Δ i)
        → cond b (some (mark_one (N (length Δ)) x)) (look (mark N Δ) i) ≡ mark_o (N i) (cond b (some x) (look Δ i))
    go true e r = ap (λ j. some (mark_one (N j) x)) (sym (eqb-sound i (length Δ) e))
    go false e r = r

pub dynamic-mark : (N : Vars) (Δ : Context) (i : ℕ) {c : Ty} → Dynamic Δ i c → Dynamic (mark N Δ) i c
unfolding mark_one
dynamic-mark N Δ i (m, p) = (m || N i, look_mark N Δ i ∙ ap (mark_o (N i)) p)

pub dynamic_unmark : (N : Vars) (Δ : Context) (i : ℕ) {c : Ty} → Dynamic (mark N Δ) i c → Dynamic Δ i c
unfolding mark_one
dynamic_unmark N Δ i {c} (m, p) = go (look Δ i) refl (sym (look_mark N Δ i) ∙ p)
  where
    go : (o : Option Binding) → look Δ i ≡ o → mark_o (N i) o ≡ some (dynamic m c) → Dynamic Δ i c
    go none e q = absurd (none≢some q)
    go (some (static d)) e q = absurd (static≢dynamic (some_inj q))
    go (some (dynamic n d)) e q = (n, e ∙ ap (λ d. some (dynamic n d)) (dynamic_inj (some_inj q)))
    go (some (barred n d)) e q = absurd (barred≢dynamic (some_inj q))

-- marks leave what is dynamic
pub dynamics-mark : (N : Vars) (Δ : Context) → dynamics (mark N Δ) ≡ dynamics Δ
unfolding is_dynamic mark_one
dynamics-mark N Δ = fun_ext λ i. ap is_dynamic (look_mark N Δ i) ∙ go (N i) (look Δ i)
  where
    go : (u : Bool) (o : Option Binding) → is_dynamic (mark_o u o) ≡ is_dynamic o
    go u none = refl
    go u (some (static c)) = refl
    go u (some (dynamic m c)) = refl
    go u (some (barred m c)) = refl

-- what an ancilla argument in the bound term of a let sees of a dynamic variable
pub look_lent : (N : Vars) (Δ : Context) (i : ℕ) {m : Bool} {τ : Ty} → look Δ i ≡ some (dynamic m τ)
    → look (bar (mark N Δ)) i ≡ some (barred (m || N i) τ)
unfolding bar_one mark_one
look_lent N Δ i p = bar_look (mark N Δ) i (look_mark N Δ i ∙ ap (mark_o (N i)) p)
