-- The line of a call by the kind of its seven bytes.
use Prim.Native.Nat.{ℕ}
use mathlib.Core.Path.{◌≡◌, refl, ap₂}
use mathlib.Core.List.{List, []}
use lib.ListN.{get_or}
use borrow.Author.Tests.{eq-eqb, ne_eqb}
use package.Rattle.octets.specs.Numbers.{get16, get32}
use package.Rattle.calltext.specs.Text.{text}
use package.Rattle.calltext.specs.Answers.{refused_line}
use package.Rattle.command.specs.Reports.{held_text}
use package.Rattle.command.specs.Plays.{told_text}

pub told_open : (l : List ℕ) → get_or l 0 0 ≡ 0x41 → text "ok\n" ≡ told_text l
unfolding told_text
told_open l o = simp (eq-eqb _ _ o) refl

pub told-held : (l : List ℕ) {n d : ℕ} → (get_or l 0 0 ≡ 0x41 → ⊥) → get_or l 0 0 ≡ 0x42 → n ≡ get16 l 1 → d ≡ get32 l 3
    → held_text n d ≡ told_text l
unfolding told_text
told-held l o h e f = simp (ne_eqb _ _ o, eq-eqb _ _ h) (ap₂ (λ n d. held_text n d) e f)

pub told-refused : (l : List ℕ) {n d : ℕ} → (get_or l 0 0 ≡ 0x41 → ⊥) → (get_or l 0 0 ≡ 0x42 → ⊥) → get_or l 0 0 ≡ 0x43 → n ≡ get16 l 1 → d ≡ get32 l 3
    → refused_line n d ≡ told_text l
unfolding told_text
told-refused l o h r e f = simp (ne_eqb _ _ o, ne_eqb _ _ h, eq-eqb _ _ r) (ap₂ (λ n d. refused_line n d) e f)

pub told_none : (l : List ℕ) → (get_or l 0 0 ≡ 0x41 → ⊥) → (get_or l 0 0 ≡ 0x42 → ⊥) → (get_or l 0 0 ≡ 0x43 → ⊥) → [] ≡ told_text l
unfolding told_text
told_none l o h r = simp (ne_eqb _ _ o, ne_eqb _ _ h, ne_eqb _ _ r) refl
