-- Typing by recursion on the term: what each term's rule asks of its parts, with the numbers of ancilla parameters `q` and the
-- types `Γ` of all variables. The run theorems use this form; that it follows from the rules of Fig. 3 and 4 is in Typing.
use Prim.Native.Nat.{ℕ, suc, ◌≤◌}
use mathlib.Core.Path.{◌≡◌, refl}
use mathlib.Core.Bool.{Bool, true, false, ◌||◌, ◌&&◌}
use mathlib.Core.Option.{some}
use mathlib.Core.List.{List, [], ◌∷◌}
use lib.ListN.{length}
use lib.Dec.{ltb}
use package.Rattle.rules.specs.Ty.{Ty, one, prod, sum, mu, unfold_ty, is_unit}
use package.Rattle.rules.specs.Term.{Term, Terms, var, tunit, tinl, tinr, tpair, tlet, tletp, tcase, tcall}
use package.Rattle.rules.specs.Term.{troll, tunroll, end, more, Fun, Program, nth, look, scope, used_in, inside}

----------------------------------------------------------------
-- Which variables a term names, ancilla arguments included

-- every variable that the term names is one that `A` allows
abbrev mutual
  pub Within : (ℕ → Bool) → Term → Type 0
  Within A (var k i) = A i ≡ true
  Within A (tunit k) = Unit {0}
  Within A (tinl k c e) = Within A e
  Within A (tinr k c e) = Within A e
  Within A (tpair k e e') = Within A e × Within A e'
  Within A (tlet k e b) = Within A e × Within A b
  Within A (tletp k e b) = Within A e × Within A b
  Within A (tcase k e b b') = Within A e × Within A b × Within A b'
  Within A (tcall k g ts e) = WithinAll A ts × Within A e
  Within A (troll k t e) = Within A e
  Within A (tunroll k t e) = Within A e

  pub WithinAll : (ℕ → Bool) → Terms → Type 0
  WithinAll A end = Unit {0}
  WithinAll A (more t ts) = Within A t × WithinAll A ts

-- all variables are allowed
abbrev pub any : ℕ → Bool
any i = true

mutual
  pub within-any : (t : Term) → Within any t
  within-any (var k i) = refl
  within-any (tunit k) = tt
  within-any (tinl k c e) = within-any e
  within-any (tinr k c e) = within-any e
  within-any (tpair k e e') = (within-any e, within-any e')
  within-any (tlet k e b) = (within-any e, within-any b)
  within-any (tletp k e b) = (within-any e, within-any b)
  within-any (tcase k e b b') = (within-any e, within-any b, within-any b')
  within-any (tcall k g ts e) = (within-any-all ts, within-any e)
  within-any (troll k t e) = within-any e
  within-any (tunroll k t e) = within-any e

  pub within-any-all : (ts : Terms) → WithinAll any ts
  within-any-all end = tt
  within-any-all (more t ts) = (within-any t, within-any-all ts)

-- what is allowed here is allowed there
mutual
  pub within_more : (A A' : ℕ → Bool) → ((i : ℕ) → A i ≡ true → A' i ≡ true) → (t : Term) → Within A t → Within A' t
  within_more A A' s (var k i) w = s i w
  within_more A A' s (tunit k) w = tt
  within_more A A' s (tinl k c e) w = within_more A A' s e w
  within_more A A' s (tinr k c e) w = within_more A A' s e w
  within_more A A' s (tpair k e e') w = (within_more A A' s e w.0, within_more A A' s e' w.1)
  within_more A A' s (tlet k e b) w = (within_more A A' s e w.0, within_more A A' s b w.1)
  within_more A A' s (tletp k e b) w = (within_more A A' s e w.0, within_more A A' s b w.1)
  within_more A A' s (tcase k e b b') w = (within_more A A' s e w.0, within_more A A' s b w.1, within_more A A' s b' w.2)
  within_more A A' s (tcall k g ts e) w = (within-all-more A A' s ts w.0, within_more A A' s e w.1)
  within_more A A' s (troll k t e) w = within_more A A' s e w
  within_more A A' s (tunroll k t e) w = within_more A A' s e w

  pub within-all-more : (A A' : ℕ → Bool) → ((i : ℕ) → A i ≡ true → A' i ≡ true) → (ts : Terms) → WithinAll A ts → WithinAll A' ts
  within-all-more A A' s end w = tt
  within-all-more A A' s (more t ts) w = (within_more A A' s t w.0, within-all-more A A' s ts w.1)

----------------------------------------------------------------
-- Uses

-- the variable numbered `i`, of type `c`, is used by `b`, or may go unused
abbrev pub Spent : ℕ → Ty → Term → Type 0
Spent i c b = (is_unit c || used_in i b) ≡ true

-- both branches use the same dynamic variables that are not unit
abbrev pub SameUse : ℕ → List Ty → Term → Term → Type 0
SameUse q Γ b b' = (i : ℕ) (c : Ty) → look Γ i ≡ some c → is_unit c ≡ false → q ≤ i → used_in i b ≡ used_in i b'

----------------------------------------------------------------
-- Namings (02, F-2)

-- all that an ancilla argument may name: those, or a variable that is lent
abbrev pub allowed : (ℕ → Bool) → ℕ → ℕ → ℕ → Bool
allowed M q n i = inside q n i || M i

-- what is lent to the bound term of a let with body `b`: besides `M`, what the body uses
abbrev pub lend : (ℕ → Bool) → ℕ → Term → ℕ → Bool
lend M n b i = M i || (ltb i n && used_in i b)

abbrev pub nothing : ℕ → Bool
nothing i = false

----------------------------------------------------------------
-- Terms, functions, programs. Inside an ancilla argument, which is only run forward, all variables from outside count as parameters.

module _ (P : Program) where
  abbrev mutual
    pub Typed : ℕ → (ℕ → Bool) → List Ty → Term → Ty → Type 0
    Typed q M Γ (var k i) τ = look Γ i ≡ some τ
    Typed q M Γ (tunit k) τ = one ≡ τ
    Typed q M Γ (tinl k c e) τ = (a : Ty) × (b : Ty) × (sum a b ≡ c) × (c ≡ τ) × Typed q M Γ e a
    Typed q M Γ (tinr k c e) τ = (a : Ty) × (b : Ty) × (sum a b ≡ c) × (c ≡ τ) × Typed q M Γ e b
    Typed q M Γ (tpair k e e') τ = (a : Ty) × (b : Ty) × (prod a b ≡ τ) × Typed q M Γ e a × Typed q M Γ e' b
    Typed q M Γ (tlet k e b) τ = (a : Ty) × Typed q (lend M (length Γ) b) Γ e a × Typed q M (a ∷ Γ) b τ × Spent (length Γ) a b
    Typed q M Γ (tletp k e b) τ = (a : Ty) × (a' : Ty) × Typed q (lend M (length Γ) b) Γ e (prod a a') × Typed q M (a' ∷ a ∷ Γ) b τ
        × Spent (length Γ) a b × Spent (suc (length Γ)) a' b
    Typed q M Γ (tcase k e b b') τ = (a : Ty) × (a' : Ty) × Typed q M Γ e (sum a a') × Typed q M (a ∷ Γ) b τ × Typed q M (a' ∷ Γ) b' τ
        × Spent (length Γ) a b × Spent (length Γ) a' b' × SameUse q Γ b b'
    Typed q M Γ (tcall k g ts e) τ = (h : Fun) × (nth P g ≡ some h) × TypedAll (length Γ) M Γ ts h.ancillae × Typed q M Γ e h.dynamic
        × (h.result ≡ τ) × WithinAll (allowed M q (length Γ)) ts
    Typed q M Γ (troll k c e) τ = (a : Ty) × (mu a ≡ c) × (c ≡ τ) × Typed q M Γ e (unfold_ty a)
    Typed q M Γ (tunroll k c e) τ = (a : Ty) × (mu a ≡ c) × (unfold_ty a ≡ τ) × Typed q M Γ e c

    pub TypedAll : ℕ → (ℕ → Bool) → List Ty → Terms → List Ty → Type 0
    TypedAll q M Γ end cs = [] ≡ cs
    TypedAll q M Γ (more t ts) cs = (c : Ty) × (cs' : List Ty) × (c ∷ cs' ≡ cs) × Typed q M Γ t c × TypedAll q M Γ ts cs'

  abbrev pub TypedFun : Fun → Type 0
  TypedFun h = Typed (length h.ancillae) nothing (h.dynamic ∷ scope h.ancillae []) h.body h.result
      × Spent (length h.ancillae) h.dynamic h.body

  abbrev pub TypedProgram : Type 0
  TypedProgram = (g : ℕ) (h : Fun) → nth P g ≡ some h → TypedFun h
