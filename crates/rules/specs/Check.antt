-- Typing as a function, with its refusals (section 4, row Typing). A test that needs no typed part is made on entering the term,
-- one that needs parts 1 to k right after part k; "numbers within one row as they stand" decides between tests of one point.
-- That it accepts exactly what the rules of Typing type is proved: Claims.
use Rattle.std.specs.Prelude.{ℕ, suc, ◌+◌, Bool, true, not, ◌&&◌, ◌||◌, cond, List, [], ◌∷◌, ◌++◌, length, eqb, leb}
use Rattle.std.proofs.Math.Bool.{false}
use Rattle.std.specs.Bool.{beq}
use Rattle.std.proofs.Math.Option.{Option, none, some}
use package.Rattle.rules.specs.Ty.{Ty, one, prod, sum, mu, tyvar, unfold_ty, nodes, is_unit, same_ty}
use package.Rattle.rules.specs.Term.{Term, Terms, var, tunit, tinl, tinr, tpair, tlet, tletp, tcase, tcall}
use package.Rattle.rules.specs.Term.{troll, tunroll, end, more, count, Fun, Program, nth, look, used_in}
use package.Rattle.rules.specs.Typing.{Binding, static, dynamic, barred, Context, Vars, ∅, only, ◌∪◌, bar, mark}

----------------------------------------------------------------
-- Answers

-- the place of a refusal: a term's entry or a function's
pub data Site : Type 0 where
  term function : ℕ → Site

-- accepted, or refused with a number at a place
pub data Checked (A : Type 0) : Type 0 where
  good : A → Checked A
  bad : ℕ → Site → Checked A

infixl 20 ◌>>=◌
unfoldable pub ◌>>=◌ : {A B : Type 0} → Checked A → (A → Checked B) → Checked B
good a >>= k = k a
bad n p >>= k = bad n p

infixl 20 ◌>>◌
unfoldable pub ◌>>◌ : {B : Type 0} → Checked (Unit {0}) → Checked B → Checked B
good u >> m = m
bad n p >> m = bad n p

-- refusal `n` at `p`, unless the test holds
unfoldable pub need : Bool → ℕ → Site → Checked (Unit {0})
need true n p = good tt
need false n p = bad n p

-- goes on with the parts of a type of the form that a rule asks for, else 6
unfoldable pub as_sum : {A : Type 0} → Site → Ty → (Ty → Ty → Checked A) → Checked A
as_sum p c f = elim c [ one ↦ bad 6 p | prod a b ↦ bad 6 p | sum a b ↦ f a b | mu a ↦ bad 6 p | tyvar n ↦ bad 6 p ]

unfoldable pub as_prod : {A : Type 0} → Site → Ty → (Ty → Ty → Checked A) → Checked A
as_prod p c f = elim c [ one ↦ bad 6 p | prod a b ↦ f a b | sum a b ↦ bad 6 p | mu a ↦ bad 6 p | tyvar n ↦ bad 6 p ]

unfoldable pub as_mu : {A : Type 0} → Site → Ty → (Ty → Checked A) → Checked A
as_mu p c f = elim c [ one ↦ bad 6 p | prod a b ↦ bad 6 p | sum a b ↦ bad 6 p | mu a ↦ f a | tyvar n ↦ bad 6 p ]

-- the function that a call names; that it is there was tested before typing (4)
unfoldable pub as_fun : {A : Type 0} → Site → Option Fun → (Fun → Checked A) → Checked A
as_fun p none f = bad 6 p
as_fun p (some h) f = f h

-- the type of a variable: 7 if it is not in scope, 8 if an ancilla argument names it and no let could help (02, F-2). A mark tells that
-- one could: the naming then waits.
unfoldable pub visible : Site → Option Binding → Checked Ty
visible p none = bad 7 p
visible p (some (static c)) = good c
visible p (some (dynamic m c)) = good c
visible p (some (barred true c)) = good c
visible p (some (barred false c)) = bad 8 p

----------------------------------------------------------------
-- Uses

-- variable `i`, of type `c`, is used by `b`, or may go unused
unfoldable pub spent : ℕ → Ty → Term → Bool
spent i c b = is_unit c || used_in i b

-- a variable that must be used: dynamic, and not unit
unfoldable pub must_use : Binding → Bool
must_use (static c) = false
must_use (dynamic m c) = not (is_unit c)
must_use (barred m c) = false

-- Do both branches use the same outer dynamic variables that are not unit?
unfoldable pub same_use : Context → Term → Term → Bool
unfolding must_use
same_use [] b b' = true
same_use (x ∷ Δ) b b' = (not (must_use x) || beq (used_in (length Δ) b) (used_in (length Δ) b')) && same_use Δ b b'

----------------------------------------------------------------
-- Namings that wait (02, F-2)

-- A dynamic variable is named in an ancilla argument: the variable, and the entry of the term that names it.
pub record Naming : Type 0 where
  pub variable : ℕ
  pub place : ℕ

unfoldable pub is_dynamic : Option Binding → Bool
is_dynamic none = false
is_dynamic (some (static c)) = false
is_dynamic (some (dynamic m c)) = true
is_dynamic (some (barred m c)) = false

unfoldable pub marked : Option Binding → Bool
marked none = false
marked (some (static c)) = false
marked (some (dynamic m c)) = m
marked (some (barred m c)) = m

-- the dynamic variables of a context, and those that are marked
abbrev pub dynamics : Context → Vars
dynamics Δ i = is_dynamic (look Δ i)

abbrev pub marks : Context → Vars
marks Δ i = marked (look Δ i)

-- The variables whose namings a let with body `b` helps: those that the body uses, among `D`, the dynamic variables where the let stands.
-- (Those bound outside an ancilla argument around the let are not dynamic there.)
abbrev pub helps : Vars → Term → Vars
helps D b i = D i && used_in i b

-- Of the namings `W` in the bound term of a let, which helps `H`: those that go on waiting, because a let further out could help, `M`.
unfoldable pub onward : (H M : Vars) → List Naming → List Naming
onward H M [] = []
onward H M (x ∷ W) = cond (M x.variable && not (H x.variable)) (x ∷ onward H M W) (onward H M W)

-- the places of those that the let does not help, and that no let further out could
unfoldable pub late : (H M : Vars) → List Naming → List ℕ
late H M [] = []
late H M (x ∷ W) = cond (M x.variable || H x.variable) (late H M W) (x.place ∷ late H M W)

-- The namings in a term that wait for the body of a let around it, in written order: of `n` variables in scope, `D` are dynamic, and `M`
-- those that a let around could help. In the bound term of a let those are the dynamic ones too; in an ancilla argument none is dynamic.
unfoldable mutual
  unfolding onward

  pub waits : (D M : Vars) → ℕ → Term → List Naming
  waits D M n (var k i) = cond (M i && not (D i)) (record { variable = i; place = k } ∷ []) []
  waits D M n (tunit k) = []
  waits D M n (tinl k c e) = waits D M n e
  waits D M n (tinr k c e) = waits D M n e
  waits D M n (tpair k e e') = waits D M n e ++ waits D M n e'
  waits D M n (tlet k e b) = onward (helps D b) M (waits D (M ∪ D) n e) ++ waits (D ∪ only n) M (suc n) b
  waits D M n (tletp k e b) = onward (helps D b) M (waits D (M ∪ D) n e) ++ waits (D ∪ only n ∪ only (suc n)) M (suc (suc n)) b
  waits D M n (tcase k e b b') = waits D M n e ++ (waits (D ∪ only n) M (suc n) b ++ waits (D ∪ only n) M (suc n) b')
  waits D M n (tcall k g ts e) = waits_all ∅ M n ts ++ waits D M n e
  waits D M n (troll k c e) = waits D M n e
  waits D M n (tunroll k c e) = waits D M n e

  pub waits_all : (D M : Vars) → ℕ → Terms → List Naming
  waits_all D M n end = []
  waits_all D M n (more t ts) = waits D M n t ++ waits_all D M n ts

-- the same, by the context that the term is typed in
abbrev pub waits_in : Context → Term → List Naming
waits_in Δ t = waits (dynamics Δ) (marks Δ) (length Δ) t

abbrev pub waits_in_all : Context → Terms → List Naming
waits_in_all Δ ts = waits_all (dynamics Δ) (marks Δ) (length Δ) ts

-- the places of namings in the bound term `e` of a let that are refused once its body `b` is typed
abbrev pub unhelped : Context → Term → Term → List ℕ
unhelped Δ e b = late (helps (dynamics Δ) b) (marks Δ) (waits_in (mark (λ i. true) Δ) e)

-- the place, unless the test holds
unfoldable pub unless : Bool → ℕ → List ℕ
unless true k = []
unless false k = k ∷ []

-- the lowest of all; entries stand in the order of their fields, so that it has the lowest offset
unfoldable pub lowest : ℕ → List ℕ → ℕ
lowest k [] = k
lowest k (j ∷ ks) = lowest (cond (leb j k) j k) ks

-- 8 at the lowest of the places, if there is one
unfoldable pub need_none : List ℕ → Checked (Unit {0})
unfolding lowest
need_none [] = good tt
need_none (k ∷ ks) = bad 8 (term (lowest k ks))

----------------------------------------------------------------
-- Typing: `variables` may be in scope, and a type may have `most` nodes

-- the scope of a function's ancilla parameters
unfoldable pub statics : List Ty → Context → Context
statics [] Δ = Δ
statics (c ∷ cs) Δ = statics cs (static c ∷ Δ)

module _ (variables most : ℕ) (P : Program) where
  -- `n` more variables fit into the scope
  unfoldable pub room : ℕ → Context → Bool
  room n Δ = leb (n + length Δ) variables

  unfoldable pub small : Ty → Bool
  small c = leb (nodes c) most

  -- The type of a term, terms in written order. In the bound term of a let, a let could help every dynamic variable; whether one did is
  -- tested once its body is typed.
  unfoldable mutual
    unfolding spent same_use room small

    pub infer : Context → Term → Checked Ty
    infer Δ (var k i) = visible (term k) (look Δ i)
    infer Δ (tunit k) = good one
    infer Δ (tinl k c e) = as_sum (term k) c λ a b. do
      d ← infer Δ e
      need (same_ty d a) 6 (term k)
      good (sum a b)
    infer Δ (tinr k c e) = as_sum (term k) c λ a b. do
      d ← infer Δ e
      need (same_ty d b) 6 (term k)
      good (sum a b)
    infer Δ (tpair k e e') = do
      a ← infer Δ e
      b ← infer Δ e'
      need (small (prod a b)) 6 (term k)
      good (prod a b)
    infer Δ (tlet k e b) = do
      need (room 1 Δ) 7 (term k)
      c ← infer (mark (λ i. true) Δ) e
      τ ← infer (dynamic false c ∷ Δ) b
      need_none (unless (spent (length Δ) c b) k ++ unhelped Δ e b)
      good τ
    infer Δ (tletp k e b) = do
      need (room 2 Δ) 7 (term k)
      p ← infer (mark (λ i. true) Δ) e
      as_prod (term k) p λ c d. do
        τ ← infer (dynamic false d ∷ dynamic false c ∷ Δ) b
        need_none (unless (spent (length Δ) c b && spent (suc (length Δ)) d b) k ++ unhelped Δ e b)
        good τ
    infer Δ (tcase k e b b') = do
      need (room 1 Δ) 7 (term k)
      s ← infer Δ e
      as_sum (term k) s λ c d. do
        τ ← infer (dynamic false c ∷ Δ) b
        need (spent (length Δ) c b) 8 (term k)
        τ' ← infer (dynamic false d ∷ Δ) b'
        need (same_ty τ τ') 6 (term k)
        need (spent (length Δ) d b' && same_use Δ b b') 8 (term k)
        good τ
    infer Δ (tcall k g ts e) = as_fun (term k) (nth P g) λ h. do
      need (eqb (count ts) (length h.ancillae)) 6 (term k)
      infer_arguments k (bar Δ) ts h.ancillae
      d ← infer Δ e
      need (same_ty d h.dynamic) 6 (term k)
      good h.result
    infer Δ (troll k c e) = as_mu (term k) c λ a. do
      d ← infer Δ e
      need (same_ty d (unfold_ty a)) 6 (term k)
      good (mu a)
    infer Δ (tunroll k c e) = as_mu (term k) c λ a. do
      need (small (unfold_ty a)) 6 (term k)
      d ← infer Δ e
      need (same_ty d (mu a)) 6 (term k)
      good (unfold_ty a)

    -- the ancilla arguments of the call at entry `k`, of which there are as many as types
    pub infer_arguments : ℕ → Context → Terms → List Ty → Checked (Unit {0})
    infer_arguments k Δ end [] = good tt
    infer_arguments k Δ end (c ∷ cs) = bad 6 (term k)
    infer_arguments k Δ (more t ts) [] = bad 6 (term k)
    infer_arguments k Δ (more t ts) (c ∷ cs) = do
      d ← infer Δ t
      need (same_ty d c) 6 (term k)
      infer_arguments k Δ ts cs

  -- the function with entry `g`
  unfoldable pub check_fun : ℕ → Fun → Checked (Unit {0})
  unfolding statics
  check_fun g h = do
    τ ← infer (dynamic false h.dynamic ∷ statics h.ancillae []) h.body
    need (same_ty τ h.result) 6 (function g)
    need (spent (length h.ancillae) h.dynamic h.body) 8 (function g)

  -- functions in order, the first of them with entry `g`
  unfoldable pub check_funs : ℕ → List Fun → Checked (Unit {0})
  check_funs g [] = good tt
  check_funs g (h ∷ hs) = do
    check_fun g h
    check_funs (suc g) hs

  unfoldable pub check : Checked (Unit {0})
  check = check_funs 0 P
