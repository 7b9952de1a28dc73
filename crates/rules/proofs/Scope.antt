-- Laws of scopes: which variables a scope has.
use Prim.Native.Nat.{ℕ, suc, ◌+◌, ◌≤◌, ◌<◌}
use native.Mathlib.Omega.{arith}
use native.Mathlib.Decide.{dec_lt}
use mathlib.Core.Path.{◌≡◌, refl, ap, ◌∙◌}
use mathlib.Core.Bool.{Bool, true, false, cond}
use mathlib.Core.Option.{Option, none, some}
use mathlib.Core.List.{List, [], ◌∷◌}
use lib.ListN.{length}
use lib.Dec.{eqb, eqb→eq}
use package.Rattle.rules.specs.Term.{look, scope}
use package.Rattle.rules.proofs.Basics.{none≢some, eqb_yes, eqb_no}

pub look_lt : {A : Type 0} (ρ : List A) (i : ℕ) {w : A} → look ρ i ≡ some w → i < length ρ
unfolding look
look_lt [] i p = absurd (none≢some p)
look_lt (v ∷ ρ) i {w} p = go (eqb i (length ρ)) refl p (λ q. look_lt ρ i q)
  where
    go : (b : Bool) → eqb i (length ρ) ≡ b → cond b (some v) (look ρ i) ≡ some w → (look ρ i ≡ some w → i < length ρ) → i < suc (length ρ)
    go true e q s = let z : i ≡ length ρ = eqb→eq i (length ρ) (rw e tt) in omega arith
    go false e q s = let z : i < length ρ = s q in omega arith

pub look_skip : {A : Type 0} (ρ : List A) (v : A) (i : ℕ) → i < length ρ → look (v ∷ ρ) i ≡ look ρ i
unfolding look
look_skip ρ v i h = rw (eqb_no i (length ρ) h)

pub look_newest : {A : Type 0} (c : A) (Γ : List A) → look (c ∷ Γ) (length Γ) ≡ some c
unfolding look
look_newest c Γ = rw (eqb_yes (length Γ))

pub look_none : {A : Type 0} (ρ : List A) (i : ℕ) → length ρ ≤ i → look ρ i ≡ none
look_none {A} ρ i l = go (look ρ i) refl
  where
    go : (o : Option A) → look ρ i ≡ o → look ρ i ≡ none
    go none e = e
    go (some v) e = absurd (let z : i < length ρ = look_lt ρ i e in omega arith)

pub length-scope : {A : Type 0} (xs ys : List A) → length (scope xs ys) ≡ length xs + length ys
unfolding scope
length-scope [] ys = omega arith
length-scope (x ∷ xs) ys = let z : length (scope xs (x ∷ ys)) ≡ length xs + suc (length ys) = length-scope xs (x ∷ ys) in omega arith

pub look_there : {A : Type 0} (ρ : List A) (i : ℕ) → i < length ρ → (v : A) × (look ρ i ≡ some v)
unfolding look
look_there [] i l = absurd (omega arith)
look_there {A} (v ∷ ρ) i l = go (dec_lt i (length ρ)) (look_there ρ i)
  where
    go : Dec (i < length ρ) → (i < length ρ → (v : A) × (look ρ i ≡ some v)) → (w : A) × (look (v ∷ ρ) i ≡ some w)
    go (yes x) s = ((s x).0, look_skip ρ v i x ∙ (s x).1)
    go (no x) s = (v, ap (look (v ∷ ρ)) (let e : i ≡ length ρ = omega arith in e) ∙ look_newest v ρ)
