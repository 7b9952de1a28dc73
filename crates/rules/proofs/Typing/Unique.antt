-- A term has one type: whatever variables two derivations use, the typing function gives the type of both.
use Prim.Native.Nat.{ℕ}
use mathlib.Core.Path.{◌≡◌, sym, ◌∙◌}
use package.Rattle.rules.specs.Ty.{Ty}
use package.Rattle.rules.specs.Term.{Term, Program}
use package.Rattle.rules.specs.Typing.{Context, Vars, ◌∶◌, Types}
use package.Rattle.rules.specs.Check.{good}
use package.Rattle.rules.proofs.Typing.Complete.{infer_complete}

good_inj : {a b : Ty} → good a ≡ good b → a ≡ b
good_inj p = cc

pub types_unique : (variables most : ℕ) (P : Program) {Δ : Context} {U U' : Vars} {t : Term} {τ τ' : Ty}
    → Types variables most P Δ U (t ∶ τ) → Types variables most P Δ U' (t ∶ τ') → τ ≡ τ'
types_unique variables most P d d' = good_inj (sym (infer_complete variables most P d) ∙ infer_complete variables most P d')
