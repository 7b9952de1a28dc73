-- What accepted open, convert and rollback calls say, given the program and the journal that they read; and what suffices for a
-- rollback to be accepted.
use Prim.Native.Nat.{ℕ, ◌+◌, ◌-◌, ◌≤◌, ◌<◌}
use native.Mathlib.Omega.{arith}
use mathlib.Core.Path.{◌≡◌, refl, sym, ap, subst, ◌∙◌}
use mathlib.Core.Option.{Option, some}
use mathlib.Core.List.{List, [], ◌∷◌, ◌++◌}
use lib.ListN.{length}
use lib.Dec.{eqb, ltb, leb, leb→le, ltb→lt, le→leb}
use package.Rattle.rules.specs.Limits.{fits, max_height, max_conversions}
use package.Rattle.rules.specs.Val.{Val, size}
use package.Rattle.rules.specs.Term.{Program}
use package.Rattle.rules.specs.Run.{Res, ok, stop, stuck}
use package.Rattle.rules.specs.Machine.{run_forward, run_backward}
use package.Rattle.calls.specs.Answer.{Answer, accepted, require, present}
use package.Rattle.calls.specs.Conversions.{Turned, kept, turned, Newest, newest, open_call, convert_call, rollback_call}
use package.Rattle.calls.specs.Journal.{Journal, fields, write_out, read_journal}
use package.Rattle.calls.specs.Load.{load}
use package.Rattle.calls.specs.Runs.{workspace_for, prepared, Given, admit, Ran, ran, goes, returns}
use package.Rattle.calls.specs.Values.{value, ancillae}
use package.Rattle.calls.proofs.Answer.{refused≢accepted, accepted_inj, via, unbind, require_yes, required, present_some, presented}
use package.Rattle.calls.proofs.Runs.Parts.{Admits, admit_iff}
use package.Rattle.rules.proofs.Basics.{given, some_inj, T_true, eqb_yes, eqb-sound}

----------------------------------------------------------------
-- Workspace, program and run

prepared_says : (ws fuel : ℕ) (program : List ℕ) {P : Program} → prepared program fuel ws ≡ accepted P → (workspace_for fuel ≤ ws) × (load program ≡ accepted P)
unfolding prepared
prepared_says ws fuel program e =
    given (unbind (require (leb (workspace_for fuel) ws) 1 0) _ e) λ (u, p, q).
    (leb→le (workspace_for fuel) ws (rw (required (leb (workspace_for fuel) ws) 1 0 p) tt), q)

prepared-so : (ws fuel : ℕ) (program : List ℕ) {P : Program} → workspace_for fuel ≤ ws → load program ≡ accepted P → prepared program fuel ws ≡ accepted P
unfolding prepared
prepared-so ws fuel program l e = via _ (require_yes 1 0 (T_true (le→leb (workspace_for fuel) ws l))) e

ran_says : (fuel : ℕ) (x : Res Val) {r : Ran} → ran fuel x ≡ accepted r → (g : ℕ) × (x ≡ ok r.value g) × (fuel - g ≡ r.steps)
unfolding ran
ran_says fuel (ok v g) e = (g, ap (λ (r : Ran). ok r.value g) (accepted_inj e), ap (λ (r : Ran). r.steps) (accepted_inj e))
ran_says fuel (stop n k) e = absurd (refused≢accepted e)
ran_says fuel stuck e = absurd (refused≢accepted e)

ran-so : (fuel n g : ℕ) (w : Val) {x : Res Val} → x ≡ ok w g → fuel ≡ n + g → ran fuel x ≡ accepted (record { value = w; steps = n })
unfolding ran
ran-so fuel n g w p e = ap (ran fuel) p ∙ ap (λ m. accepted (record { value = w; steps = m })) (let z : fuel - g ≡ n = omega arith in z)

----------------------------------------------------------------
-- Writing the journal

pub kept_says : (n : ℕ) (J : Journal) {xs : List ℕ} → kept n J ≡ accepted xs → (length (fields J) ≤ n) × (write_out n J ≡ xs)
unfolding kept
kept_says n J e =
    given (unbind (require (leb (length (fields J)) n) 20 0) _ e) λ (u, p, q).
    (leb→le (length (fields J)) n (rw (required (leb (length (fields J)) n) 20 0 p) tt), accepted_inj q)

pub kept-so : (n : ℕ) (J : Journal) → length (fields J) ≤ n → kept n J ≡ accepted (write_out n J)
unfolding kept
kept-so n J l = via _ (require_yes 20 0 (T_true (le→leb (length (fields J)) n l))) refl

-- what convert and rollback answer
abbrev pub turned_to : ℕ → Ran → Journal → Turned
turned_to n r J = record { held = size r.value; steps = r.steps; journal = write_out n J }

turned_says : (n : ℕ) (r : Ran) (J : Journal) {t : Turned} → turned n r J ≡ accepted t → (length (fields J) ≤ n) × (turned_to n r J ≡ t)
unfolding turned
turned_says n r J e =
    given (unbind (kept n J) _ e) λ (xs, p, q).
    given (kept_says n J p) λ (l, x).
    (l, ap (λ xs. record { held = size r.value; steps = r.steps; journal = xs }) x ∙ accepted_inj q)

turned_so : (n : ℕ) (r : Ran) (J : Journal) → length (fields J) ≤ n → turned n r J ≡ accepted (turned_to n r J)
unfolding turned
turned_so n r J l = via _ (kept-so n J l) refl

----------------------------------------------------------------
-- Open

pub open_says : (ws : ℕ) (program bytes : List ℕ) (n : ℕ) {xs : List ℕ} → open_call program bytes ws n ≡ accepted xs
    → (P : Program) × (v : Val) × (load program ≡ accepted P) × (value bytes ≡ some v) × (length (fields (record { held = v; entries = [] })) ≤ n)
    × (write_out n (record { held = v; entries = [] }) ≡ xs)
unfolding open_call
open_says ws program bytes n e =
    given (unbind (prepared program 0 ws) _ e) λ (P, p, e₁).
    given (unbind (present (value bytes) 10) _ e₁) λ (v, q, e₂).
    given (kept_says n (record { held = v; entries = [] }) e₂) λ (l, x).
    (P, v, (prepared_says ws 0 program p).1, presented (value bytes) 10 q, l, x)

----------------------------------------------------------------
-- Convert

-- a convert call of program `P` that read the journal `J` in a buffer of `n` bytes, and was accepted
pub record Converts (P : Program) (J : Journal) (n fuel fn : ℕ) (anc : List ℕ) (t : Turned) : Type 0 where
  pub given : Given
  pub row : Admits P fn (ancillae anc) (some J.held) (λ h. h.dynamic) given
  pub few : length J.entries < max_conversions
  pub ran : Ran
  pub left : ℕ
  pub runs : run_forward fits P max_height given.fun given.ancillae given.value fuel ≡ ok ran.value left
  pub steps : fuel - left ≡ ran.steps
  pub fit : length (fields (record { held = ran.value; entries = J.entries ++ (record { function = fn; steps = ran.steps; ancillae = given.ancillae } ∷ []) })) ≤ n
  pub turned : turned_to n ran (record { held = ran.value; entries = J.entries ++ (record { function = fn; steps = ran.steps; ancillae = given.ancillae } ∷ []) }) ≡ t

-- two readings of one thing agree
same-accepted : {A : Type 0} {x : Answer A} {a b : A} → x ≡ accepted a → x ≡ accepted b → a ≡ b
same-accepted p q = accepted_inj (sym p ∙ q)

same_some : {A : Type 0} {x : Option A} {a b : A} → x ≡ some a → x ≡ some b → a ≡ b
same_some p q = some_inj (sym p ∙ q)

pub convert_says : (ws fuel fn : ℕ) (program anc journal : List ℕ) {P : Program} {J : Journal} {t : Turned} → load program ≡ accepted P → read_journal journal ≡ some J
    → convert_call program fn anc fuel ws journal ≡ accepted t → Converts P J (length journal) fuel fn anc t
unfolding convert_call goes
convert_says ws fuel fn program anc journal {P} {J} {t} lp rj e =
    given (unbind (prepared program fuel ws) _ e) λ (P', p₁, e₁).
    given (unbind (present (read_journal journal) 18) _ e₁) λ (J', p₂, e₂).
    given (unbind (require (ltb (length J'.entries) max_conversions) 20 0) _ e₂) λ (u, p₃, e₃).
    given (unbind (admit P' fn (ancillae anc) (some J'.held) λ h. h.dynamic) _ e₃) λ (a, p₄, e₄).
    given (unbind (ran fuel (run_forward fits P' max_height a.fun a.ancillae a.value fuel)) _ e₄) λ (r, p₅, e₅).
    given (ran_says fuel (run_forward fits P' max_height a.fun a.ancillae a.value fuel) p₅) λ (g, x, y).
    given (turned_says (length journal) r _ e₅) λ (l, z).
    subst (λ P. Converts P J (length journal) fuel fn anc t) (same-accepted (prepared_says ws fuel program p₁).1 lp)
    (subst (λ J. Converts P' J (length journal) fuel fn anc t) (same_some (presented (read_journal journal) 18 p₂) rj)
    (record {
      given = a;
      row = (admit_iff P' fn (ancillae anc) (some J'.held) (λ h. h.dynamic) a).0 p₄;
      few = ltb→lt (length J'.entries) max_conversions (rw (required (ltb (length J'.entries) max_conversions) 20 0 p₃) tt);
      ran = r;
      left = g;
      runs = x;
      steps = y;
      fit = l;
      turned = z;
    }))

----------------------------------------------------------------
-- Rollback

-- a rollback call of program `P` that read the journal `J` in a buffer of `n` bytes, and was accepted
pub record Returns (P : Program) (J : Journal) (n fuel : ℕ) (t : Turned) : Type 0 where
  pub newer : Newest
  pub stands : newest J.entries ≡ some newer
  pub given : Given
  pub row : Admits P newer.newest.function (some newer.newest.ancillae) (some J.held) (λ h. h.result) given
  pub ran : Ran
  pub left : ℕ
  pub runs : run_backward fits P max_height given.fun given.ancillae given.value fuel ≡ ok ran.value left
  pub steps : fuel - left ≡ ran.steps
  pub same : ran.steps ≡ newer.newest.steps
  pub fit : length (fields (record { held = ran.value; entries = newer.older })) ≤ n
  pub turned : turned_to n ran (record { held = ran.value; entries = newer.older }) ≡ t

pub rollback_says : (ws fuel : ℕ) (program journal : List ℕ) {P : Program} {J : Journal} {t : Turned} → load program ≡ accepted P → read_journal journal ≡ some J
    → rollback_call program fuel ws journal ≡ accepted t → Returns P J (length journal) fuel t
unfolding rollback_call returns
rollback_says ws fuel program journal {P} {J} {t} lp rj e =
    given (unbind (prepared program fuel ws) _ e) λ (P', p₁, e₁).
    given (unbind (present (read_journal journal) 18) _ e₁) λ (J', p₂, e₂).
    given (unbind (present (newest J'.entries) 19) _ e₂) λ (s, p₃, e₃).
    given (unbind (admit P' s.newest.function (some s.newest.ancillae) (some J'.held) λ h. h.result) _ e₃) λ (a, p₄, e₄).
    given (unbind (ran fuel (run_backward fits P' max_height a.fun a.ancillae a.value fuel)) _ e₄) λ (r, p₅, e₅).
    given (ran_says fuel (run_backward fits P' max_height a.fun a.ancillae a.value fuel) p₅) λ (g, x, y).
    given (unbind (require (eqb r.steps s.newest.steps) 18 0) _ e₅) λ (u, p₆, e₆).
    given (turned_says (length journal) r _ e₆) λ (l, z).
    subst (λ P. Returns P J (length journal) fuel t) (same-accepted (prepared_says ws fuel program p₁).1 lp)
    (subst (λ J. Returns P' J (length journal) fuel t) (same_some (presented (read_journal journal) 18 p₂) rj)
    (record {
      newer = s;
      stands = presented (newest J'.entries) 19 p₃;
      given = a;
      row = (admit_iff P' s.newest.function (some s.newest.ancillae) (some J'.held) (λ h. h.result) a).0 p₄;
      ran = r;
      left = g;
      runs = x;
      steps = y;
      same = eqb-sound r.steps s.newest.steps (required (eqb r.steps s.newest.steps) 18 0 p₆);
      fit = l;
      turned = z;
    }))

-- what suffices for a rollback to be accepted
pub rollback_so : (ws fuel : ℕ) (program journal : List ℕ) (P : Program) (J : Journal) (s : Newest) (a : Given) (w : Val) (g : ℕ)
    → workspace_for fuel ≤ ws → load program ≡ accepted P → read_journal journal ≡ some J → newest J.entries ≡ some s
    → Admits P s.newest.function (some s.newest.ancillae) (some J.held) (λ h. h.result) a
    → run_backward fits P max_height a.fun a.ancillae a.value fuel ≡ ok w g → fuel ≡ s.newest.steps + g
    → length (fields (record { held = w; entries = s.older })) ≤ length journal
    → rollback_call program fuel ws journal
    ≡ accepted (turned_to (length journal) (record { value = w; steps = s.newest.steps }) (record { held = w; entries = s.older }))
unfolding rollback_call returns
rollback_so ws fuel program journal P J s a w g l lp rj st A run e fit =
    via _ (prepared-so ws fuel program l lp) (via _ (present_some 18 rj) (via _ (present_some 19 st)
    (via _ ((admit_iff P s.newest.function (some s.newest.ancillae) (some J.held) (λ h. h.result) a).1 A)
    (via _ (ran-so fuel s.newest.steps g w run e)
    (via _ (require_yes 18 0 (eqb_yes s.newest.steps))
    (turned_so (length journal) (record { value = w; steps = s.newest.steps }) (record { held = w; entries = s.older }) fit))))))
