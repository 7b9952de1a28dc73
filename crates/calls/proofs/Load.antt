-- A program that is loaded is well-formed by section 1 and typed by the rules, and no other; and with which numbers it is refused.
-- The same with the workspace test before it.
use Prim.Native.Nat.{ℕ, zero, suc, ◌≤◌}
use native.Mathlib.Omega.{arith}
use mathlib.Core.Path.{◌≡◌, refl, sym, ap, subst}
use mathlib.Core.List.{List, [], ◌∷◌}
use mathlib.Core.Logic.{◌↔◌}
use lib.ListN.{length}
use lib.Dec.{eqb}
use package.Rattle.rules.specs.Limits.{max_variables, max_nodes}
use package.Rattle.rules.specs.Term.{Program}
use package.Rattle.rules.specs.Typing.{WellTyped}
use package.Rattle.rules.specs.Check.{Site, Checked, good, bad, check}
use package.Rattle.rules.proofs.Basics.{given}
use package.Rattle.rules.proofs.Numbers.{TypingNumber, check-number}
use package.Rattle.rules.proofs.Theorems.{tree-check_iff_typed}
use package.Rattle.rules.proofs.Typing.Tests.{leb_yes, leb-sound}
use package.Rattle.calls.specs.Answer.{accepted}
use package.Rattle.calls.specs.Fields.{Layout, well_formed, read_fields, layout}
use package.Rattle.calls.specs.Entries.{TypeEntry, TermEntry, FunctionEntry, Entries, entries_at, program_of}
use package.Rattle.calls.specs.Named.{member, test_types, test_terms, test_functions, test_used, test_entries}
use package.Rattle.calls.specs.Load.{typed, load}
use package.Rattle.calls.specs.Runs.{workspace_for, prepared}
use package.Rattle.calls.specs.Formed.{WellFormed}
use package.Rattle.calls.specs.Claims.{program_numbers}
use package.Rattle.calls.proofs.Answer.{refused≢accepted, accepted_inj, via, unbind, require_yes, required}
use package.Rattle.calls.proofs.Formed.Whole.{passes_iff}
use package.Rattle.calls.proofs.Refusals.{within, range, in_range, Numbered, accepts, refuses, numbered-wider, numbered-either, numbered_bind, numbered-test}

----------------------------------------------------------------
-- The numbers of refusals: 2 and 3, then 4 and 5, then 6 to 8

fields-numbered : (n : ℕ) (xs : List ℕ) (at last : ℕ) (L : Layout) → Numbered (2 ∷ 3 ∷ []) (read_fields n xs at last L)
unfolding read_fields member within
fields-numbered zero xs at last L = accepts
fields-numbered (suc n) xs at last L = numbered-either (eqb at (length xs)) accepts
    (numbered-test (well_formed xs at last) 2 at _ refl λ formed. numbered-test _ 3 at _ refl λ within. fields-numbered n xs _ _ _)

layout-numbered : (xs : List ℕ) → Numbered (2 ∷ 3 ∷ []) (layout xs)
unfolding layout member within
layout-numbered xs = numbered-test _ _ 0 _ refl λ within. fields-numbered _ xs 0 1 _

types-numbered : (L : Layout) (i : ℕ) (ys : List TypeEntry) → Numbered (4 ∷ 5 ∷ []) (test_types L i ys)
unfolding test_types member within
types-numbered L i [] = accepts
types-numbered L i (y ∷ ys) = numbered-test _ _ _ _ refl λ lower. types-numbered L (suc i) ys

module _ (L : Layout) (E : Entries) where
  terms-numbered : (k : ℕ) (used : List ℕ) (ts : List TermEntry) → Numbered (4 ∷ 5 ∷ []) (test_terms L E k used ts)
  unfolding test_terms member within
  terms-numbered k used [] = accepts
  terms-numbered k used (t ∷ ts) =
      numbered-test _ _ _ _ refl λ named. numbered-test _ _ _ _ refl λ good. terms-numbered (suc k) _ ts

  functions-numbered : (g : ℕ) (used : List ℕ) (hs : List FunctionEntry) → Numbered (4 ∷ 5 ∷ []) (test_functions L E g used hs)
  unfolding test_functions member within
  functions-numbered g used [] = accepts
  functions-numbered g used (h ∷ hs) =
      numbered-test _ _ _ _ refl λ named. numbered-test _ _ _ _ refl λ good. functions-numbered (suc g) _ hs

  used-numbered : (k : ℕ) (used : List ℕ) (ts : List TermEntry) → Numbered (4 ∷ 5 ∷ []) (test_used L E k used ts)
  unfolding test_used member within
  used-numbered k used [] = accepts
  used-numbered k used (t ∷ ts) = numbered-test _ _ _ _ refl λ named. used-numbered (suc k) used ts

  entries-numbered : Numbered (4 ∷ 5 ∷ []) (test_entries L E)
  unfolding test_entries
  entries-numbered = numbered_bind _ (types-numbered L 0 E.types) λ lower e. numbered_bind _ (terms-numbered 0 [] E.terms) λ inTerms e.
      numbered_bind _ (functions-numbered 0 inTerms E.functions) λ inAll e. used-numbered 0 inAll E.terms

typed-numbered : {A : Type 0} (L : Layout) (c : Checked A) → ((n : ℕ) (p : Site) → c ≡ bad n p → TypingNumber n) → Numbered (6 ∷ 7 ∷ 8 ∷ []) (typed L c)
unfolding typed range
typed-numbered L (good a) s = accepts
typed-numbered L (bad n p) s = refuses (in_range 6 3 n (s n p refl).0 (omega (arith, (s n p refl).1)))

load_numbered : (program : List ℕ) → Numbered program_numbers (load program)
unfolding load member within
load_numbered program = numbered_bind _ (numbered-wider refl (layout-numbered program)) λ L e.
    numbered_bind _ (numbered-wider refl (entries-numbered L (entries_at program L))) λ named e.
    numbered_bind _ (numbered-wider refl (typed-numbered L _ λ n p e. check-number max_variables max_nodes _ e)) λ checked e. accepts

pub prepared-numbered : (ws fuel : ℕ) (program : List ℕ) → Numbered program_numbers (prepared program fuel ws)
unfolding prepared member within
prepared-numbered ws fuel program = numbered-test _ _ 0 _ refl λ enough. load_numbered program

----------------------------------------------------------------
-- What is loaded

typed-good : {A : Type 0} (L : Layout) (c : Checked A) {a : A} → typed L c ≡ accepted a → c ≡ good a
unfolding typed
typed-good L (good a) e = ap good (accepted_inj e)
typed-good L (bad n p) e = absurd (refused≢accepted e)

pub load_iff : (program : List ℕ) (P : Program) → (load program ≡ accepted P) ↔ (WellFormed program P × WellTyped max_variables max_nodes P)
unfolding load typed
load_iff program P = (
  λ e.
      given (unbind (layout program) _ e) λ (L, p, e₁).
      given (unbind (test_entries L (entries_at program L)) _ e₁) λ (named, q, e₂).
      given (unbind (typed L (check max_variables max_nodes (program_of (entries_at program L)))) _ e₂) λ (checked, r, e₃). (
        (passes_iff program P).0 (record { places = L; fields = p; entries = q; trees = accepted_inj e₃ }),
        subst (WellTyped max_variables max_nodes) (accepted_inj e₃) ((tree-check_iff_typed max_variables max_nodes (program_of (entries_at program L))).0 (typed-good L _ r)),
      ),
  λ (W, T). given ((passes_iff program P).1 W) λ F. via _ F.fields (via _ F.entries
      (via _ (ap (typed F.places) ((tree-check_iff_typed max_variables max_nodes (program_of (entries_at program F.places))).1
      (subst (WellTyped max_variables max_nodes) (sym F.trees) T))) (ap accepted F.trees))),
)

pub prepared_iff : (ws fuel : ℕ) (program : List ℕ) (P : Program)
    → (prepared program fuel ws ≡ accepted P) ↔ ((workspace_for fuel ≤ ws) × WellFormed program P × WellTyped max_variables max_nodes P)
unfolding prepared
prepared_iff ws fuel program P = (
  λ e.
      given (unbind _ _ e) λ (enough, p, q).
      given ((load_iff program P).0 q) λ (F, T).
      (leb-sound (workspace_for fuel) ws (required _ 1 0 p), F, T),
  λ (l, F, T). via _ (require_yes 1 0 (leb_yes (workspace_for fuel) ws l)) ((load_iff program P).1 (F, T)),
)
