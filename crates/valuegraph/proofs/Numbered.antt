-- Kinds and their numbers.
use Prim.Native.Nat.{ℕ, zero, suc, ◌<◌, ◌≤◌}
use native.Mathlib.Omega.{arith}
use mathlib.Core.Path.{◌≡◌, refl, ap, ◌∙◌}
use mathlib.Core.List.{List}
use mathlib.Core.Logic.{◌⊎◌, inl as left, inr as right}
use package.Rattle.valuegraph.specs.Nodes.{kind_number, kind_named, kind_at, Single, Heap}
use Rattle.valuegraph.specs.declared.kinds.Kind.{Kind}
use Rattle.valuegraph.specs.declared.kinds.Kind.TheVariants.{Unit, Inl, Inr, Pair, Roll}

pub named_number : (x : Kind) → kind_named (kind_number x) ≡ x
named_number Unit = refl
named_number Inl = refl
named_number Inr = refl
named_number Pair = refl
named_number Roll = refl

pub number_named : (k : ℕ) → k ≤ 4 → kind_number (kind_named k) ≡ k
number_named zero h = refl
number_named (suc zero) h = refl
number_named (suc (suc zero)) h = refl
number_named (suc (suc (suc zero))) h = refl
number_named (suc (suc (suc (suc n)))) h = omega arith

-- the kind of a node, as it was read
pub kind_read : {heap : List ℕ} {top n : ℕ} {x : Kind} → Heap heap top → n < top → x ≡ kind_named (kind_at heap n) → kind_number x ≡ kind_at heap n
kind_read {n = n} h t e = ap kind_number e ∙ number_named _ (h.node n t).kind

-- inl, inr and roll have one part
pub single_of : {x : Kind} → (x ≡ Inl) ⊎ ((x ≡ Inr) ⊎ (x ≡ Roll)) → Single (kind_number x)
single_of (left e) = rw e (left refl)
single_of (right (left e)) = rw e (right (left refl))
single_of (right (right e)) = rw e (right (right refl))
