-- A function's parameters: their context, and a declaration (T-FUN1, T-FUN2) as the typing of a body under all parameters.
use Prim.Native.Nat.{ℕ, ◌+◌}
use native.Mathlib.Omega.{arith}
use mathlib.Core.Path.{◌≡◌, refl, subst, ◌∙◌}
use mathlib.Core.Bool.{false}
use mathlib.Core.Option.{some}
use mathlib.Core.List.{List, [], ◌∷◌}
use mathlib.Core.Logic.{⊎_elim}
use lib.ListN.{length}
use package.Rattle.rules.specs.Ty.{Ty}
use package.Rattle.rules.specs.Term.{Term, Fun, Program, look, scope}
use package.Rattle.rules.specs.Typing.{Binding, static, dynamic, barred, Context, ∅, only, ◌∶◌, Types, Declares, t_fun1, t_fun2}
use package.Rattle.rules.specs.Check.{statics}
use package.Rattle.rules.proofs.Basics.{none≢some}
use package.Rattle.rules.proofs.Directed.{Spent}
use package.Rattle.rules.proofs.Typing.Uses.{uses, uses-newest}
use package.Rattle.rules.proofs.Typing.Contexts.{look_cases, types}

-- the binding is an ancilla parameter's
abbrev pub IsStatic : Binding → Type 0
IsStatic (static c) = Unit {0}
IsStatic (dynamic m c) = ⊥
IsStatic (barred m c) = ⊥

----------------------------------------------------------------
-- The context of the ancilla parameters

length-statics : (cs : List Ty) (Δ : Context) → length (statics cs Δ) ≡ length cs + length Δ
unfolding statics
length-statics [] Δ = omega arith
length-statics (c ∷ cs) Δ = length-statics cs (static c ∷ Δ) ∙ omega arith

pub length-parameters : (cs : List Ty) → length (statics cs []) ≡ length cs
length-parameters cs = length-statics cs [] ∙ omega arith

pub types-statics : (cs : List Ty) (Δ : Context) → types (statics cs Δ) ≡ scope cs (types Δ)
unfolding statics scope
types-statics [] Δ = refl
types-statics (c ∷ cs) Δ = types-statics cs (static c ∷ Δ)

look_statics : (cs : List Ty) (Δ : Context) → ((i : ℕ) (x : Binding) → look Δ i ≡ some x → IsStatic x)
    → (i : ℕ) (x : Binding) → look (statics cs Δ) i ≡ some x → IsStatic x
unfolding statics
look_statics [] Δ h = h
look_statics (c ∷ cs) Δ h = look_statics cs (static c ∷ Δ) λ i x p. ⊎_elim (λ (e, y). subst IsStatic y tt) (h i x) (look_cases Δ (static c) i p)

pub look_parameters : (cs : List Ty) (i : ℕ) (x : Binding) → look (statics cs []) i ≡ some x → IsStatic x
unfolding look
look_parameters cs = look_statics cs [] λ i x p. absurd (none≢some p)

module _ (variables most : ℕ) (P : Program) where
  ----------------------------------------------------------------
  -- Declarations

  -- the rules type the function
  abbrev pub Declared : Fun → Type 0
  Declared h = Declares variables most P [] h.ancillae h.dynamic h.result h.body

  -- a declaration's body is typed under all parameters, and the other way round
  pub body_typed : {Δ : Context} {cs : List Ty} {τ τ' : Ty} {b : Term} → Declares variables most P Δ cs τ τ' b
      → Types variables most P (dynamic false τ ∷ statics cs Δ) (only (length (statics cs Δ))) (b ∶ τ')
  unfolding statics
  body_typed (t_fun1 d) = body_typed d
  body_typed (t_fun2 d) = d

  pub declared : (Δ : Context) (cs : List Ty) {τ τ' : Ty} {b : Term}
      → Types variables most P (dynamic false τ ∷ statics cs Δ) (only (length (statics cs Δ))) (b ∶ τ')
      → Declares variables most P Δ cs τ τ' b
  unfolding statics
  declared Δ [] d = t_fun2 d
  declared Δ (c ∷ cs) d = t_fun1 (declared (static c ∷ Δ) cs d)

  -- a body uses the dynamic parameter, or need not
  pub parameter_spent : (h : Fun) → Declared h → Spent (length h.ancillae) h.dynamic h.body
  parameter_spent h w = subst (λ n. Spent n h.dynamic h.body) (length-parameters h.ancillae) (uses-newest ∅ (uses variables most P (body_typed w)))
