-- Terms with their entry numbers, functions, programs, and what is in scope (section 1; Fig. 1 of the source).
use Rattle.std.specs.Prelude.{ℕ, zero, suc, Bool, true, false, ◌&&◌, ◌||◌, cond, List, [], ◌∷◌, length, eqb, ltb, leb}
use Rattle.std.proofs.Math.Option.{Option, none, some}
use package.Rattle.rules.specs.Ty.{Ty}

-- Each term begins with its entry number, the place of a refusal. The letter t tells a term's constructor from a value's.
mutual
  pub data Term : Type 0 where
    var : ℕ → ℕ → Term
    tunit : ℕ → Term
    tinl tinr : ℕ → Ty → Term → Term
    tpair : ℕ → Term → Term → Term
    -- let x = e in b; let (x, y) = e in b
    tlet tletp : ℕ → Term → Term → Term
    -- case e of inl x ⇒ b, inr y ⇒ b'
    tcase : ℕ → Term → Term → Term → Term
    -- function, ancilla terms in order, the dynamic term
    tcall : ℕ → ℕ → Terms → Term → Term
    troll tunroll : ℕ → Ty → Term → Term

  pub data Terms : Type 0 where
    end : Terms
    more : Term → Terms → Terms

unfoldable pub entry : Term → ℕ
entry (var k i) = k
entry (tunit k) = k
entry (tinl k c e) = k
entry (tinr k c e) = k
entry (tpair k e e') = k
entry (tlet k e b) = k
entry (tletp k e b) = k
entry (tcase k e b b') = k
entry (tcall k g ts e) = k
entry (troll k c e) = k
entry (tunroll k c e) = k

-- how many terms
unfoldable pub count : Terms → ℕ
count end = 0
count (more t ts) = suc (count ts)

-- A function: its ancilla parameters' types in order, the dynamic parameter's type, the result type, the body.
pub record Fun : Type 0 where
  pub ancillae : List Ty
  pub dynamic : Ty
  pub result : Ty
  pub body : Term

abbrev pub Program : Type 0
Program = List Fun

-- entry `n` of a list
unfoldable pub nth : {A : Type 0} → List A → ℕ → Option A
nth [] n = none
nth (x ∷ xs) zero = some x
nth (x ∷ xs) (suc n) = nth xs n

----------------------------------------------------------------
-- Scopes: what is in scope, the newest first

-- Variable `i`. "A variable's number is how many variables were in scope when it was bound": the newest has the length of the rest.
unfoldable pub look : {A : Type 0} → List A → ℕ → Option A
look [] i = none
look (x ∷ xs) i = cond (eqb i (length xs)) (some x) (look xs i)

-- the scope `ρ` with a list of parameters bound in order
unfoldable pub scope : {A : Type 0} → List A → List A → List A
scope [] ρ = ρ
scope (v ∷ vs) ρ = scope vs (v ∷ ρ)

----------------------------------------------------------------
-- Which variables a term uses

-- Does the term use variable `i`, bound outside it: does it stand in the term with no ancilla argument of the term around it? What stands
-- in one is named, which is no use (02, F-2). Of a term inside an ancilla argument this tells of variables from outside that argument
-- too, which are named there: those who ask leave them out (Typing, `mark_one`; Check, `must_use`, `helps`).
abbrev pub used_in : ℕ → Term → Bool
used_in i (var k j) = eqb i j
used_in i (tunit k) = false
used_in i (tinl k c e) = used_in i e
used_in i (tinr k c e) = used_in i e
used_in i (tpair k e e') = used_in i e || used_in i e'
used_in i (tlet k e b) = used_in i e || used_in i b
used_in i (tletp k e b) = used_in i e || used_in i b
used_in i (tcase k e b b') = used_in i e || (used_in i b || used_in i b')
used_in i (tcall k g ts e) = used_in i e
used_in i (troll k c e) = used_in i e
used_in i (tunroll k c e) = used_in i e

----------------------------------------------------------------
-- Which variables a term names, and which cases choose by an ancilla (02, F-3)

-- Is every variable that the term names one that `A` allows? A use names the variable, and so does what stands in an ancilla argument.
unfoldable mutual
  pub within : (ℕ → Bool) → Term → Bool
  within A (var k i) = A i
  within A (tunit k) = true
  within A (tinl k c e) = within A e
  within A (tinr k c e) = within A e
  within A (tpair k e e') = within A e && within A e'
  within A (tlet k e b) = within A e && within A b
  within A (tletp k e b) = within A e && within A b
  within A (tcase k e b b') = within A e && (within A b && within A b')
  within A (tcall k g ts e) = within_all A ts && within A e
  within A (troll k c e) = within A e
  within A (tunroll k c e) = within A e

  pub within_all : (ℕ → Bool) → Terms → Bool
  within_all A end = true
  within_all A (more t ts) = within A t && within_all A ts

-- With `q` ancilla parameters and `n` variables in scope around a term: an ancilla parameter, or a variable bound inside the term. Every
-- other variable is dynamic and bound outside it.
abbrev pub inside : ℕ → ℕ → ℕ → Bool
inside q n i = ltb i q || leb n i

-- A case chooses by an ancilla (02, F-3): its scrutinee names no dynamic variable bound outside it.
unfoldable pub by_ancilla : ℕ → ℕ → Term → Bool
by_ancilla q n e = within (inside q n) e

-- Do all the cases of a term that have entry number `k` choose by an ancilla?
unfoldable mutual
  pub chooses_at : ℕ → ℕ → ℕ → Term → Bool
  chooses_at k q n (var j i) = true
  chooses_at k q n (tunit j) = true
  chooses_at k q n (tinl j c e) = chooses_at k q n e
  chooses_at k q n (tinr j c e) = chooses_at k q n e
  chooses_at k q n (tpair j e e') = chooses_at k q n e && chooses_at k q n e'
  chooses_at k q n (tlet j e b) = chooses_at k q n e && chooses_at k q (suc n) b
  chooses_at k q n (tletp j e b) = chooses_at k q n e && chooses_at k q (suc (suc n)) b
  chooses_at k q n (tcase j e b b') = cond (eqb j k) (by_ancilla q n e) true
      && (chooses_at k q n e && (chooses_at k q (suc n) b && chooses_at k q (suc n) b'))
  chooses_at k q n (tcall j g ts e) = choose_all_at k q n ts && chooses_at k q n e
  chooses_at k q n (troll j c e) = chooses_at k q n e
  chooses_at k q n (tunroll j c e) = chooses_at k q n e

  pub choose_all_at : ℕ → ℕ → ℕ → Terms → Bool
  choose_all_at k q n end = true
  choose_all_at k q n (more t ts) = chooses_at k q n t && choose_all_at k q n ts

-- ... and all those of a function's body?
abbrev pub chooses_in : ℕ → Fun → Bool
chooses_in k h = chooses_at k (length h.ancillae) (suc (length h.ancillae)) h.body
