-- What a line says, step by step as the code reads it (specs/Calls).
use Prim.Native.Nat.{ℕ, zero, suc, ◌≤◌}
use native.Mathlib.Omega.{arith}
use mathlib.Core.Path.{◌≡◌, refl, sym, ap, subst, ◌∙◌}
use mathlib.Core.Bool.{Bool, true, false, cond}
use Rattle.std.specs.Prelude.{Option, Some, None, Result, Ok, Err, ok_or}
use mathlib.Core.List.{List}
use lib.ListN.{length, take, length-take, length-drop}
use lib.Dec.{eqb}
use Rattle.std.specs.Result.{IsErrAnd}
use Rattle.std.proofs.lemmas.Result.{err_from_is_err_and}
use package.Rattle.calltext.specs.Words.{first, behind, from, word_at}
use package.Rattle.calltext.specs.Hexadecimal.{bytes_in}
use package.Rattle.calltext.specs.Decoded.{DecodesWord}
use package.Rattle.calltext.specs.Calls.{Line, name_of, read_named, read_line}
use package.Rattle.calltext.specs.Left.{ByteWords, words_of, reads, left_in, LeavesBuffers, bytes_of}
use package.Rattle.calltext.specs.Parsed.{counts_to, DecodesArgument, line_of, Within, Parses}
use package.Rattle.calltext.specs.declared.calls.Name.{Name}
use package.Rattle.calltext.specs.declared.calls.Call.{Call}
use package.Rattle.calltext.specs.declared.calls.ParseError.{ParseError}
use package.Rattle.calltext.specs.declared.calls.ParseError.TheVariants.{WordCount, NoBytes}

----------------------------------------------------------------
-- Answers of the steps that may fail

pub given : {A E : Type 0} (o : Option A) (e : E) {x : A} → Ok x ≡ ok_or o e → o ≡ Some x
given None e h = cc
given (Some y) e h = cc

pub missing : {A E : Type 0} (o : Option A) (e : E) {d : E} → Err d ≡ ok_or o e → (o ≡ None) × (d ≡ e)
missing None e h = (refl, cc)
missing (Some y) e h = cc

pub counts : (m n : ℕ) → Ok tt ≡ counts_to m n → eqb n m ≡ true
counts m n h = by (eqb n m) refl h
  where
    by : (t : Bool) → eqb n m ≡ t → ◌≡◌ {A = Result (Unit {0}) ParseError} (Ok tt) (cond t (Ok tt) (Err WordCount)) → eqb n m ≡ true
    by true e f = e
    by false e f = cc

pub miscounts : (m n : ℕ) {d : ParseError} → Err d ≡ counts_to m n → (eqb n m ≡ false) × (d ≡ WordCount)
miscounts m n {d} h = by (eqb n m) refl h
  where
    by : (t : Bool) → eqb n m ≡ t → ◌≡◌ {A = Result (Unit {0}) ParseError} (Err d) (cond t (Ok tt) (Err WordCount)) → (eqb n m ≡ false) × (d ≡ WordCount)
    by true e f = cc
    by false e f = (e, cc)

-- a byte string that was read, and one that was not
module _ {k : ℕ} {word before out : List ℕ} where
  pub argument : {n : ℕ} → DecodesArgument (Ok n) k word before out → (bytes_in word ≡ Some (take n out)) × (n ≤ length out)
  argument {n} h =
      let d = subst (λ o. DecodesWord o word before out (bytes_in word)) (given _ _ h.said) h.decodes in
      (sym d.said, d.within)

  pub no_argument : {e : ParseError} → DecodesArgument (Err e) k word before out → (bytes_in word ≡ None) × (e ≡ NoBytes k)
  no_argument {e} h =
      let m = missing _ _ h.said in
      let d = subst (λ o. DecodesWord o word before out (bytes_in word)) m.0 h.decodes in
      (sym d.said, m.1)

----------------------------------------------------------------
-- Words

from_shorter : (k : ℕ) (xs : List ℕ) → length (from k xs) ≤ length xs
unfolding from behind
from_shorter zero xs = omega arith
from_shorter (suc k) xs = let h = from_shorter k xs in simp length-drop (omega arith)

pub word_shorter : (k : ℕ) (xs : List ℕ) → length (word_at k xs) ≤ length xs
unfolding word_at first
word_shorter k xs = let h = from_shorter k xs in simp length-take (omega arith)

----------------------------------------------------------------
-- What was read, and what the reading left

-- no word of bytes was come to
pub unread : {text p anc v : List ℕ} {words : ByteWords} (l : Line) → ((k : ℕ) → reads l k ≡ false) → LeavesBuffers l text words p anc v p anc v
unread {text} {p} {anc} {v} {words} l e = record { program = same words.program p; ancillae = same words.ancillae anc; value = same words.value v }
  where
    same : (o : Option ℕ) (buffer : List ℕ) → buffer ≡ left_in l text o buffer
    same None buffer = refl
    same (Some k) buffer = sym (rw (e k))

----------------------------------------------------------------
-- A line of a known name

module _ {r : Result Call ParseError} {text p₀ anc₀ v₀ p anc v : List ℕ} where
  -- what was read, and what the reading left
  pub parses : {words : ByteWords} {l : Line} → line_of r p anc v ≡ l → Within r p anc v → LeavesBuffers (line_of r p anc v) text words p₀ anc₀ v₀ p anc v
      → Parses r text words p₀ anc₀ v₀ p anc v l
  parses {words} e h left = record { said = e; within = h; left = subst (λ x. LeavesBuffers x text words p₀ anc₀ v₀ p anc v) e left }

  -- a line by its name, as it was found
  pub parses_named : {n : Name} → name_of (word_at 0 text) ≡ n → Parses r text (words_of n) p₀ anc₀ v₀ p anc v (read_named n text)
      → Parses r text (bytes_of text) p₀ anc₀ v₀ p anc v (read_line text)
  unfolding bytes_of read_line
  parses_named e h = subst (λ n. Parses r text (words_of n) p₀ anc₀ v₀ p anc v (read_named n text)) (sym e) h

  -- a step that failed, and what it says of the line
  pub fails : {d e : ParseError} {words : ByteWords} {l : Line} → IsErrAnd r (λ x. x ≡ d) → d ≡ e → Parses (Err e) text words p₀ anc₀ v₀ p anc v l
      → Parses r text words p₀ anc₀ v₀ p anc v l
  fails {d} {e} {words} {l} h f q =
      let t = err_from_is_err_and r h in
      subst (λ x. Parses x text words p₀ anc₀ v₀ p anc v l) (sym (t.1 ∙ ap Err (t.2 ∙ f))) q
