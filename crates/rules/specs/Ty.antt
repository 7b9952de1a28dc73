-- Types (section 1; Fig. 2 of the source without arrows and parameters): unfolding, node count, equality as a test, and which
-- values a type has. Laws: proofs/Ty.
use Rattle.std.specs.Prelude.{ℕ, suc, ◌+◌, ◌≡◌, Bool, true, false, ◌&&◌, cond, List, [], ◌∷◌, eqb}
use package.Rattle.rules.specs.Val.{Val, unit, inl, inr, pair, roll}

-- A bound variable's number is how many enclosing recursive types are skipped, 0 the nearest.
pub data Ty : Type 0 where
  one : Ty
  prod sum : Ty → Ty → Ty
  mu : Ty → Ty
  tyvar : ℕ → Ty

----------------------------------------------------------------
-- Unfolding

-- `c` put for variable `n`. A type that a program names is closed (section 1), so nothing in `c` is shifted.
unfoldable pub plug : Ty → ℕ → Ty → Ty
plug c n one = one
plug c n (prod a b) = prod (plug c n a) (plug c n b)
plug c n (sum a b) = sum (plug c n a) (plug c n b)
plug c n (mu a) = mu (plug c (suc n) a)
plug c n (tyvar m) = cond (eqb m n) c (tyvar m)

-- what `mu a` unfolds to
unfoldable pub unfold_ty : Ty → Ty
unfold_ty a = plug (mu a) 0 a

----------------------------------------------------------------
-- Tests

-- nodes of the type written out as a tree
unfoldable pub nodes : Ty → ℕ
nodes one = 1
nodes (prod a b) = suc (nodes a + nodes b)
nodes (sum a b) = suc (nodes a + nodes b)
nodes (mu a) = suc (nodes a)
nodes (tyvar n) = 1

-- Is the type exactly unit? (Section 3: 1 × 1 and a recursive type over 1 are not.)
abbrev pub is_unit : Ty → Bool
is_unit c = elim c [ one ↦ true | prod a b ↦ false | sum a b ↦ false | mu a ↦ false | tyvar n ↦ false ]

-- Are two types equal as trees? (Section 3: folding alone never makes a type equal to its unfolding.)
unfoldable pub same_ty : Ty → Ty → Bool
same_ty one τ = elim τ [ one ↦ true | prod c d ↦ false | sum c d ↦ false | mu c ↦ false | tyvar m ↦ false ]
same_ty (prod a b) τ = elim τ [ one ↦ false | prod c d ↦ same_ty a c && same_ty b d | sum c d ↦ false | mu c ↦ false | tyvar m ↦ false ]
same_ty (sum a b) τ = elim τ [ one ↦ false | prod c d ↦ false | sum c d ↦ same_ty a c && same_ty b d | mu c ↦ false | tyvar m ↦ false ]
same_ty (mu a) τ = elim τ [ one ↦ false | prod c d ↦ false | sum c d ↦ false | mu c ↦ same_ty a c | tyvar m ↦ false ]
same_ty (tyvar n) τ = elim τ [ one ↦ false | prod c d ↦ false | sum c d ↦ false | mu c ↦ false | tyvar m ↦ eqb n m ]

----------------------------------------------------------------
-- Values of a type

unfoldable pub has_ty : Val → Ty → Bool
has_ty unit τ = elim τ [ one ↦ true | prod a b ↦ false | sum a b ↦ false | mu a ↦ false | tyvar n ↦ false ]
has_ty (inl v) τ = elim τ [ one ↦ false | prod a b ↦ false | sum a b ↦ has_ty v a | mu a ↦ false | tyvar n ↦ false ]
has_ty (inr v) τ = elim τ [ one ↦ false | prod a b ↦ false | sum a b ↦ has_ty v b | mu a ↦ false | tyvar n ↦ false ]
has_ty (pair v w) τ = elim τ [ one ↦ false | prod a b ↦ has_ty v a && has_ty w b | sum a b ↦ false | mu a ↦ false | tyvar n ↦ false ]
has_ty (roll v) τ = elim τ [ one ↦ false | prod a b ↦ false | sum a b ↦ false | mu a ↦ has_ty v (unfold_ty a) | tyvar n ↦ false ]

unfoldable pub has_tys : List Val → List Ty → Bool
has_tys [] [] = true
has_tys [] (c ∷ cs) = false
has_tys (v ∷ vs) [] = false
has_tys (v ∷ vs) (c ∷ cs) = has_ty v c && has_tys vs cs

abbrev pub HasTy : Val → Ty → Type 0
HasTy v τ = has_ty v τ ≡ true

-- values of types, in order
abbrev pub HasTys : List Val → List Ty → Type 0
HasTys vs τs = has_tys vs τs ≡ true
