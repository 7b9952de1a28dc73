-- A node's kind, as it was read and compared.
use Prim.Native.Nat.{ℕ}
use mathlib.Core.Path.{◌≡◌, refl, sym, ap, ◌∙◌}
use mathlib.Core.Bool.{Bool, true, false, cond, not, true≢false}
use mathlib.Core.List.{List}
use denote.Enum.Bare.{same_true, sameb}
use borrow.Author.Rules.{rules}
use borrow.Author.Tests.{not-false}
use lib.Dec.{eqb}
use package.Rattle.valuegraph.specs.Nodes.{kind_number, kind_named, kind_at}
use package.Rattle.valuegraph.specs.declared.kinds.Kind.{Kind}
use package.Rattle.valuegraph.specs.declared.kinds.Kind.TheVariants.{Unit, Inl, Inr, Pair, Roll}
use package.Rattle.valuegraph.specs.contracts.kinds.Kind.{the_type}
use package.Rattle.valuegraph.proofs.Numbered.{named_number, kind_read}
use package.Rattle.yields.specs.Yields.{Asks}
use Rattle.yields.specs.declared.Answer.{Answer}
use Rattle.yields.specs.declared.Answer.TheVariants.{No, Yes}

pub read : {code heap st : List ℕ} {scope t node : ℕ} {x : Kind} → Asks code heap st scope t node → x ≡ kind_named (kind_at heap node) → kind_number x ≡ kind_at heap node
read Y e = kind_read Y.graph Y.value e

same-self : (x : Kind) → sameb the_type x x ≡ true
same-self Unit = refl
same-self Inl = refl
same-self Inr = refl
same-self Pair = refl
same-self Roll = refl

one_kind : (x y : Kind) → kind_number x ≡ kind_number y → x ≡ y
one_kind x y e = sym (named_number x) ∙ ap kind_named e ∙ named_number y

pub kind_same : (x y : Kind) {r : Bool} → r ≡ not (sameb the_type x y) → r ≡ false → kind_number x ≡ kind_number y
kind_same x y q e = ap kind_number (same_true the_type (search rules) x y (not-false _ (sym q ∙ e)))

pub kind_differs : (x y : Kind) {r : Bool} → r ≡ not (sameb the_type x y) → r ≡ true → ¬ (kind_number x ≡ kind_number y)
kind_differs x y q e z =
    let same : sameb the_type x y ≡ true = rw (one_kind x y z) (same-self y) in
    true≢false (sym e ∙ q ∙ ap not same)

-- the unit is compared
pub unit_answered : (x : Kind) {same : Bool} {r : Answer} → same ≡ sameb the_type x Unit → r ≡ cond same Yes No → r ≡ cond (eqb (kind_number x) 0) Yes No
unit_answered Unit e q = rw e at q
unit_answered Inl e q = rw e at q
unit_answered Inr e q = rw e at q
unit_answered Pair e q = rw e at q
unit_answered Roll e q = rw e at q
