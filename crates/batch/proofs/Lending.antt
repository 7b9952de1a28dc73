-- What the buffers hold after a line is answered (specs/Lent).
use Prim.Native.Nat.{ℕ, ◌+◌, ◌*◌, ◌≤◌, ◌<◌}
use native.Mathlib.Omega.{arith}
use mathlib.Core.Path.{◌≡◌, refl, sym, ap, subst, ◌∙◌}
use mathlib.Core.Bool.{Bool, true, false, ◌&&◌}
use mathlib.Core.List.{List, ◌++◌}
use lib.ListN.{length, take, drop}
use lib.Dec.{leb}
use borrow.Author.Tests.{le-leb, lt-leb, leb-true}
use package.Rattle.calltext.specs.Calls.{Line, read_line}
use package.Rattle.calltext.specs.Left.{program_left, ancillae_left, value_left}
use package.Rattle.calltext.specs.Wrote.{Wrote}
use package.Rattle.calltext.proofs.Writing.{wrote_to}
use package.Rattle.batch.specs.Capped.{most_workspace, most_output, answer_room}
use package.Rattle.batch.specs.Answering.{answer_line}
use package.Rattle.batch.specs.Lent.{on_front, Replies, Lent, digits_fit, enough, enough_for, LineCase, LineMeans}
use Rattle.std.specs.Prelude.{Option, Some, None, IfSome}

-- a front part that was lent, as a call left it, and the rest
pub on-front : {n k : ℕ} → k ≡ n → (buffer : List ℕ) {part : List ℕ} (f : List ℕ → List ℕ) → part ≡ f (take k buffer) → part ++ drop k buffer ≡ on_front n f buffer
unfolding on_front
on-front {k = k} e buffer f h = ap (λ p. p ++ drop k buffer) h ∙ ap (λ m. f (take m buffer) ++ drop m buffer) e

-- the same call, and the same buffer before it, by other names
pub replies_as : {l l' : Line} {end : ℕ} {v u v' ws ws' o o' out out' : List ℕ} → Replies l end v v' ws ws' o o' out out' → l ≡ l' → v ≡ u
    → Replies l' end u v' ws ws' o o' out out'
replies_as {l} {l'} {end} {v} {u} {v'} {ws} {ws'} {o} {o'} {out} {out'} h e f =
    subst (λ w. Replies l' end w v' ws ws' o o' out out') f (subst (λ x. Replies x end v v' ws ws' o o' out out') e h)

----------------------------------------------------------------
-- Long enough

both : (s t : Bool) → (s && t) ≡ true → (s ≡ true) × (t ≡ true)
both true t e = (refl, e)
both false t e = absurd (let z : ◌≡◌ {A = ℕ} 0 1 = cc in omega arith)

all-six : (a b c d e f : Bool) → (a && b && c && d && e && f) ≡ true → (a ≡ true) × (b ≡ true) × (c ≡ true) × (d ≡ true) × (e ≡ true) × (f ≡ true)
all-six a b c d e f h =
    let (r, f?) = both (a && b && c && d && e) f h in
    let (r₁, e?) = both (a && b && c && d) e r in
    let (r₂, d?) = both (a && b && c) d r₁ in
    let (r₃, c?) = both (a && b) c r₂ in
    let (a?, b?) = both a b r₃ in
    (a?, b?, c?, d?, e?, f?)

pub enough-all : (n p anc v ws o out : ℕ) → enough n p anc v ws o out ≡ true
    → ((n ≤ 2 * p) × (n ≤ 2 * anc) × (n ≤ 2 * v)) × (((most_workspace ≤ ws) × (most_output ≤ o)) × (2 * v + answer_room ≤ out))
unfolding enough digits_fit
enough-all n p anc v ws o out e =
    let (p?, anc?, v?, ws?, o?, out?) =
    all-six (leb n (2 * p)) (leb n (2 * anc)) (leb n (2 * v)) (leb most_workspace ws) (leb most_output o) (leb (2 * v + answer_room) out) e in (
      (leb-true n (2 * p) p?, leb-true n (2 * anc) anc?, leb-true n (2 * v) v?),
      ((leb-true most_workspace ws ws?, leb-true most_output o o?), leb-true (2 * v + answer_room) out out?),
    )

----------------------------------------------------------------
-- A line

module _ {line : List ℕ} {b b' : Lent} where
  pub short-line : enough_for line b ≡ false → b' ≡ b → LineMeans None line b b'
  short-line e h = record { means = subst (λ t. LineCase t None line b b') (sym e) (record { short = refl; kept = h }) }

  pub answered-line : {end : ℕ} → enough_for line b ≡ true
      → Replies (read_line line) end (value_left line b.value) b'.value b.workspace b'.workspace b.output b'.output b.out b'.out
      → b'.program ≡ program_left line b.program → b'.ancillae ≡ ancillae_left line b.ancillae → LineMeans (Some end) line b b'
  unfolding answer_line
  answered-line {end} e h p anc =
      let ends : end ≡ length (answer_line line) = omega (arith, h.told.ends) in
      record {
        means =
            subst (λ t. LineCase t (Some end) line b b') (sym e)
            (record {
              ends = ap Some ends;
              told = wrote_to h.told ends;
              program = p;
              ancillae = anc;
              value = h.value;
              workspace = h.workspace;
              output = h.output;
            });
      }

-- where the answer ends, if it does
abbrev end_of : Option ℕ → ℕ
end_of (Some n) = n
end_of None = 0

-- an answer that ends stands at the start of its buffer
pub ends-told : {r : Option ℕ} {line : List ℕ} {b b' : Lent} → LineMeans r line b b' → {n : ℕ} → r ≡ Some n → Wrote b.out b'.out 0 n (answer_line line)
ends-told {r} {line} {b} {b'} h {n} e = by (enough_for line b) h.means
  where
    by : (t : Bool) → LineCase t r line b b' → Wrote b.out b'.out 0 n (answer_line line)
    by true m = wrote_to m.told (sym (ap end_of m.ends) ∙ ap end_of e)
    by false m = absurd (let short = m.short in let z : ◌≡◌ {A = ℕ} 0 1 = cc in omega arith)
