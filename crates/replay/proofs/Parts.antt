-- A call that stands in a script: where it ends, and how large its numbers are.
use Prim.Native.Nat.{ℕ, ◌+◌, ◌-◌, ◌≤◌, ◌<◌}
use native.Mathlib.Omega.{arith}
use mathlib.Core.Path.{◌≡◌, refl, subst}
use mathlib.Core.Bool.{Bool, true, false}
use mathlib.Core.List.{List}
use lib.ListN.{length, get_or}
use lib.Dec.{eqb, ltb}
use borrow.Author.Tests.{ltb-false}
use package.Rattle.octets.specs.Numbers.{AreBytes, get16, get32}
use package.Rattle.octets.proofs.Numbers.{get16-below}
use package.Rattle.replay.specs.Scripts.{pick, open_tag, convert_tag, rollback_tag, given_at, open_at, convert_at, rollback_at, step_at}
use package.Rattle.replay.specs.declared.scripts.Part.{Part}
use package.Rattle.replay.specs.declared.scripts.Kind.{Kind}
use package.Rattle.replay.specs.declared.scripts.Kind.TheVariants.{Open, Convert, Rollback}
use package.Rattle.replay.specs.Scripts.{Step, End, Malformed, Play}

----------------------------------------------------------------
-- The three calls

end≢play : {p : Part} → End ≡ Play p → ⊥
end≢play e = let z : ◌≡◌ {A = ℕ} 0 1 = cc in omega arith

malformed≢play : {p : Part} → Malformed ≡ Play p → ⊥
malformed≢play e = let z : ◌≡◌ {A = ℕ} 0 1 = cc in omega arith

play_inj : {p q : Part} → Play p ≡ Play q → p ≡ q
play_inj e = cc

-- by the test that picked
picked : {A : Type 0} (R : Type 0) (b : Bool) (x y z : A) → pick b x y ≡ z → (b ≡ true → x ≡ z → R) → (b ≡ false → y ≡ z → R) → R
picked R true x y z e f g = f refl e
picked R false x y z e f g = g refl e

module _ (s : List ℕ) (at : ℕ) (Q : Part → Type 0) where
  given_elim : (kind : Kind) (n k : ℕ) {p : Part} → given_at s kind n k ≡ Play p
      → (get16 s k ≤ length s - (k + 2) → Q (record { kind = kind; n = n; from = k + 2; next = k + 2 + get16 s k }))
      → Q p
  unfolding given_at
  given_elim kind n k {p} e h =
      picked (Q p) (ltb (length s - (k + 2)) (get16 s k)) Malformed _ (Play p) e (λ t m. absurd (malformed≢play m))
      λ t m. subst Q (play_inj m) (h (ltb-false (length s - (k + 2)) (get16 s k) t))

  -- what holds of each of the three calls holds of the call that stands there
  pub step_elim : {p : Part} → step_at s at ≡ Play p
      → (7 ≤ length s - at → get16 s (at + 5) ≤ length s - (at + 5 + 2)
      → Q (record { kind = Open; n = get32 s (at + 1); from = at + 5 + 2; next = at + 5 + 2 + get16 s (at + 5) }))
      → (11 ≤ length s - at → get16 s (at + 9) ≤ length s - (at + 9 + 2)
      → Q (record { kind = Convert (get16 s (at + 5)) (get16 s (at + 7)); n = get32 s (at + 1); from = at + 9 + 2; next = at + 9 + 2 + get16 s (at + 9) }))
      → (7 ≤ length s - at → Q (record { kind = Rollback (get16 s (at + 5)); n = get32 s (at + 1); from = at + 7; next = at + 7 }))
      → Q p
  unfolding step_at open_at convert_at rollback_at
  step_elim {p} e f g h =
      picked (Q p) (eqb (length s - at) 0) End _ (Play p) e (λ t m. absurd (end≢play m)) λ t m.
      picked (Q p) (eqb (get_or s at 0) open_tag) (open_at s at) _ (Play p) m
      (λ t m. picked (Q p) (ltb (length s - at) 7) Malformed _ (Play p) m (λ t m. absurd (malformed≢play m))
      λ t m. given_elim Open (get32 s (at + 1)) (at + 5) m (f (ltb-false (length s - at) 7 t))) λ t m.
      picked (Q p) (eqb (get_or s at 0) convert_tag) (convert_at s at) _ (Play p) m
      (λ t m. picked (Q p) (ltb (length s - at) 11) Malformed _ (Play p) m (λ t m. absurd (malformed≢play m))
      λ t m. given_elim (Convert (get16 s (at + 5)) (get16 s (at + 7))) (get32 s (at + 1)) (at + 9) m (g (ltb-false (length s - at) 11 t))) λ t m.
      picked (Q p) (eqb (get_or s at 0) rollback_tag) (rollback_at s at) Malformed (Play p) m
      (λ t m. picked (Q p) (ltb (length s - at) 7) Malformed _ (Play p) m (λ t m. absurd (malformed≢play m))
      λ t m. subst Q (play_inj m) (h (ltb-false (length s - at) 7 t)))
      λ t m. absurd (malformed≢play m)

----------------------------------------------------------------
-- Places and numbers

-- the call at `at` stands in the script
pub record Within (s : List ℕ) (at : ℕ) (p : Part) : Type 0 where
  pub further : at + 7 ≤ p.next
  pub ordered : p.from ≤ p.next
  pub inside : p.next ≤ length s

pub within : (s : List ℕ) (at : ℕ) {p : Part} → step_at s at ≡ Play p → Within s at p
within s at e =
    step_elim s at (λ p. Within s at p) e
    (λ h k. record { further = omega arith; ordered = omega arith; inside = omega arith })
    (λ h k. record { further = omega arith; ordered = omega arith; inside = omega arith })
    (λ h. record { further = omega arith; ordered = omega arith; inside = omega arith })

-- fuel and function are of two bytes
abbrev pub Small : Kind → Type 0
Small Open = Unit {0}
Small (Convert fuel function) = (fuel < 65536) × (function < 65536)
Small (Rollback fuel) = fuel < 65536

pub small : (s : List ℕ) (at : ℕ) {p : Part} → AreBytes s → step_at s at ≡ Play p → Small p.kind
small s at b e =
    step_elim s at (λ p. Small p.kind) e
    (λ h k. tt)
    (λ h k. (get16-below s (at + 5) b, get16-below s (at + 7) b))
    (λ h. get16-below s (at + 5) b)
