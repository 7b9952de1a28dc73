-- The evaluation rules: Fig. 6 of the source by their names, as section 3 reads them, with section 2's steps, height and size.
--
-- Design choices:
-- * Substitution is a scope of values, so E-VAR is a rule: a term of its own that counts a step.
-- * A rule is not recursive: `Rule R` has its premises in `R`. A derivation of height at most `r` is `Ev r`, by recursion on `r`;
--   so height needs no account of its own, and the steps are the derivation's last index.
-- * Every value that a rule yields is within the limit on values, `fits`. Of given values that fit, E-VAR, E-UNIT and E-UNROLL
--   yield none that does not, a part of a value being smaller.
use Rattle.std.specs.Prelude.{ℕ, zero, suc, ◌+◌, ◌≡◌, Bool, true, List, [], ◌∷◌, length}
use Rattle.std.proofs.Math.Option.{some}
use package.Rattle.rules.specs.Val.{Val, unit, inl, inr, pair, roll}
use package.Rattle.rules.specs.Ty.{Ty}
use package.Rattle.rules.specs.Term.{Term, Terms, var, tunit, tinl, tinr, tpair, tlet, tletp, tcase, tcall, troll, tunroll, end, more, Fun, Program, nth, look, scope}
use package.Rattle.rules.specs.Yield.{first_match}

-- `J a ρ t v n`: with ancilla parameters `a` and variables `ρ`, the term `t` yields `v` in `n` steps.
abbrev pub Judgement : Type 1
Judgement = List Val → List Val → Term → Val → ℕ → Type 0

-- argument terms in order, each by `R`
pub data All (R : Term → Val → ℕ → Type 0) : Terms → List Val → ℕ → Type 0 where
  e_end : All R end [] 0
  e_more : {n m : ℕ} {t : Term} {ts : Terms} {v : Val} {vs : List Val} → R t v n → All R ts vs m → All R (more t ts) (v ∷ vs) (n + m)

module _ (fits : Val → Bool) (P : Program) where
  -- One rule, over premises in `R`. Each term entered is one step (section 2).
  pub data Rule (R : Judgement) : List Val → List Val → Term → Val → ℕ → Type 0 where
    e_var : {k i : ℕ} {a ρ : List Val} {v : Val} → look ρ i ≡ some v → fits v ≡ true → Rule R a ρ (var k i) v 1
    e_unit : {k : ℕ} {a ρ : List Val} → fits unit ≡ true → Rule R a ρ (tunit k) unit 1
    e_inl : {k n : ℕ} {a ρ : List Val} {c : Ty} {e : Term} {v : Val} → R a ρ e v n → fits (inl v) ≡ true → Rule R a ρ (tinl k c e) (inl v) (suc n)
    e_inr : {k n : ℕ} {a ρ : List Val} {c : Ty} {e : Term} {v : Val} → R a ρ e v n → fits (inr v) ≡ true → Rule R a ρ (tinr k c e) (inr v) (suc n)
    e_prod : {k n m : ℕ} {a ρ : List Val} {e e' : Term} {v w : Val}
        → R a ρ e v n → R a ρ e' w m → fits (pair v w) ≡ true → Rule R a ρ (tpair k e e') (pair v w) (suc (n + m))
    e_let : {k n m : ℕ} {a ρ : List Val} {e b : Term} {v w : Val}
        → R a ρ e v n → R a (v ∷ ρ) b w m → Rule R a ρ (tlet k e b) w (suc (n + m))
    e_letp : {k n m : ℕ} {a ρ : List Val} {e b : Term} {v v' w : Val}
        → R a ρ e (pair v v') n → R a (v' ∷ v ∷ ρ) b w m → Rule R a ρ (tletp k e b) w (suc (n + m))
    e_casel : {k n m : ℕ} {a ρ : List Val} {e b b' : Term} {v w : Val}
        → R a ρ e (inl v) n → R a (v ∷ ρ) b w m → Rule R a ρ (tcase k e b b') w (suc (n + m))
    -- first match (section 3): the left branch, with no dynamic value put in, may not yield the right branch's value, unless the
    -- case chooses by an ancilla (02, F-3)
    e_caser : {k n m : ℕ} {a ρ : List Val} {e b b' : Term} {v w : Val}
        → R a ρ e (inr v) n → R a (v ∷ ρ) b' w m → first_match a (length ρ) e b w ≡ true → Rule R a ρ (tcase k e b b') w (suc (n + m))
    -- a call counts itself, its argument terms and the terms of the body (section 2)
    e_app : {k g n m l : ℕ} {a ρ : List Val} {ts : Terms} {e : Term} {vs : List Val} {v w : Val} {h : Fun}
        → nth P g ≡ some h → All (R a ρ) ts vs n → R a ρ e v m → R (scope vs []) (v ∷ scope vs []) h.body w l
        → Rule R a ρ (tcall k g ts e) w (suc (n + (m + l)))
    e_roll : {k n : ℕ} {a ρ : List Val} {c : Ty} {e : Term} {v : Val} → R a ρ e v n → fits (roll v) ≡ true → Rule R a ρ (troll k c e) (roll v) (suc n)
    e_unroll : {k n : ℕ} {a ρ : List Val} {c : Ty} {e : Term} {v : Val} → R a ρ e (roll v) n → fits v ≡ true → Rule R a ρ (tunroll k c e) v (suc n)

  -- Derivations of height at most `r`: 1 for the outermost term, one more for each nested term or called body (section 2).
  abbrev pub Ev : ℕ → Judgement
  Ev zero a ρ t v n = ⊥
  Ev (suc r) a ρ t v n = Rule (Ev r) a ρ t v n
