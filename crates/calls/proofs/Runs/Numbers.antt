-- With which numbers calls are refused. So none with 0, which would be a run that is stuck.
use Prim.Native.Nat.{ℕ}
use mathlib.Core.Path.{◌≡◌, refl}
use mathlib.Core.Bool.{true}
use mathlib.Core.Option.{Option, some}
use mathlib.Core.List.{List, [], ◌∷◌, ◌++◌}
use package.Rattle.rules.specs.Val.{Val}
use package.Rattle.rules.specs.Term.{Program}
use package.Rattle.calls.specs.Answer.{accepted}
use package.Rattle.calls.specs.Named.{member}
use package.Rattle.calls.specs.Values.{value, ancillae}
use package.Rattle.calls.specs.Runs.{prepared, Given, admit, Ran, ran, goes, returns, check_call, forward_call, backward_call}
use package.Rattle.calls.specs.Journal.{Journal, read_journal}
use package.Rattle.calls.specs.Conversions.{kept, turned, newest, open_call, convert_call, rollback_call}
use package.Rattle.calls.specs.Claims.{program_numbers, call_numbers, forward_numbers, backward_numbers}
use package.Rattle.calls.proofs.Refusals.{within, Numbered, accepts, numbered-wider, numbered-present, numbered_bind, numbered-test}
use package.Rattle.calls.proofs.Load.{prepared-numbered, prepared_iff}
use package.Rattle.calls.proofs.Runs.Parts.{admit_iff, admit-numbered, ran-numbered}
use package.Rattle.calls.proofs.Runs.Calls.{Direction, onward, back, directed}

----------------------------------------------------------------
-- Parts

module _ (D : Direction) (ws fuel : ℕ) (program : List ℕ) (P : Program) (p : prepared program fuel ws ≡ accepted P) where
  -- a run that was prepared and admitted
  run-numbered : (fn : ℕ) (as? : Option (List Val)) (v? : Option Val) (a : Given) → admit P fn as? v? D.side ≡ accepted a
      → Numbered D.numbers (ran fuel (D.run P a fuel))
  run-numbered fn as? v? a q = ran-numbered fuel (D.numbered P a fuel)
      (D.safe P fn as? v? a fuel ((prepared_iff ws fuel program P).0 p).2 ((admit_iff P fn as? v? D.side a).0 q))

kept-numbered : (n : ℕ) (J : Journal) → Numbered (20 ∷ []) (kept n J)
unfolding kept member
kept-numbered n J = numbered-test _ _ 0 _ refl λ fit. accepts

turned-numbered : (n : ℕ) (r : Ran) (J : Journal) → Numbered (20 ∷ []) (turned n r J)
unfolding turned
turned-numbered n r J = numbered_bind _ (kept-numbered n J) λ journal e. accepts

----------------------------------------------------------------
-- Check, forward, backward

pub check-numbered : (ws : ℕ) (program : List ℕ) → Numbered program_numbers (check_call program ws)
unfolding check_call
check-numbered ws program = numbered_bind _ (prepared-numbered ws 0 program) λ P e. accepts

directed-numbered : (D : Direction) (ns : List ℕ) → within program_numbers ns ≡ true → within call_numbers ns ≡ true → within D.numbers ns ≡ true
    → member 17 ns ≡ true → (ws out fuel fn : ℕ) (program anc bytes : List ℕ) → Numbered ns (directed D ws out fuel fn program anc bytes)
unfolding directed
directed-numbered D ns i j k l ws out fuel fn program anc bytes =
    numbered_bind _ (numbered-wider i (prepared-numbered ws fuel program)) λ P p.
    numbered_bind _ (numbered-wider j (admit-numbered P fn (ancillae anc) (value bytes) D.side)) λ a q.
    numbered_bind _ (numbered-wider k (run-numbered D ws fuel program P p fn (ancillae anc) (value bytes) a q)) λ r s.
    numbered-test _ _ 0 _ l λ room. accepts

pub forward-numbered : (ws out fuel fn : ℕ) (program anc bytes : List ℕ)
    → Numbered (program_numbers ++ call_numbers ++ forward_numbers ++ (17 ∷ [])) (forward_call program fn anc bytes fuel ws out)
unfolding forward_call directed within member
forward-numbered = directed-numbered onward _ refl refl refl refl

pub backward-numbered : (ws out fuel fn : ℕ) (program anc bytes : List ℕ)
    → Numbered (program_numbers ++ call_numbers ++ backward_numbers ++ (17 ∷ [])) (backward_call program fn anc bytes fuel ws out)
unfolding backward_call directed within member
backward-numbered = directed-numbered back _ refl refl refl refl

----------------------------------------------------------------
-- Open, convert, rollback

pub open_numbered : (ws : ℕ) (program bytes : List ℕ) (n : ℕ) → Numbered (program_numbers ++ (10 ∷ 20 ∷ [])) (open_call program bytes ws n)
unfolding open_call within member
open_numbered ws program bytes n =
    numbered_bind _ (numbered-wider refl (prepared-numbered ws 0 program)) λ P p.
    numbered_bind _ (numbered-present (value bytes) _ refl) λ v q.
    numbered-wider refl (kept-numbered n _)

pub convert_numbered : (ws fuel fn : ℕ) (program anc journal : List ℕ)
    → Numbered (program_numbers ++ (18 ∷ 20 ∷ []) ++ call_numbers ++ forward_numbers) (convert_call program fn anc fuel ws journal)
unfolding convert_call goes within member
convert_numbered ws fuel fn program anc journal =
    numbered_bind _ (numbered-wider refl (prepared-numbered ws fuel program)) λ P p.
    numbered_bind _ (numbered-present (read_journal journal) _ refl) λ J j.
    numbered-test _ _ 0 _ refl λ few.
    numbered_bind _ (numbered-wider refl (admit-numbered P fn (ancillae anc) (some J.held) λ h. h.dynamic)) λ a q.
    numbered_bind _ (numbered-wider refl (run-numbered onward ws fuel program P p fn (ancillae anc) (some J.held) a q)) λ r s.
    numbered-wider refl (turned-numbered _ r _)

pub rollback_numbered : (ws fuel : ℕ) (program journal : List ℕ)
    → Numbered (program_numbers ++ (18 ∷ 19 ∷ 20 ∷ []) ++ call_numbers ++ backward_numbers) (rollback_call program fuel ws journal)
unfolding rollback_call returns within member
rollback_numbered ws fuel program journal =
    numbered_bind _ (numbered-wider refl (prepared-numbered ws fuel program)) λ P p.
    numbered_bind _ (numbered-present (read_journal journal) _ refl) λ J j.
    numbered_bind _ (numbered-present (newest J.entries) _ refl) λ s j.
    numbered_bind _ (numbered-wider refl (admit-numbered P _ (some s.newest.ancillae) (some J.held) λ h. h.result)) λ a q.
    numbered_bind _ (numbered-wider refl (run-numbered back ws fuel program P p _ (some s.newest.ancillae) (some J.held) a q)) λ r t.
    numbered-test _ _ 0 _ refl λ same. numbered-wider refl (turned-numbered _ r _)
