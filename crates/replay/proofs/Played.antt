-- Playing a script step by step is playing its parsed calls (specs/Playing).
use Prim.Native.Nat.{ℕ, suc, ◌+◌, ◌*◌, ◌-◌}
use native.Mathlib.Omega.{arith}
use mathlib.Core.Path.{◌≡◌, refl, sym, ap, subst, ◌∙◌}
use mathlib.Core.Bool.{Bool, true, false}
use mathlib.Core.Option.{Option, none, some}
use mathlib.Core.List.{List, [], ◌∷◌}
use lib.ListN.{length}
use lib.Dec.{eqb}
use package.Rattle.octets.specs.Runs.{pasted}
use package.Rattle.octets.specs.Numbers.{AreBytes}
use package.Rattle.rules.specs.Val.{Val}
use package.Rattle.rules.specs.Term.{Program}
use package.Rattle.rules.proofs.Basics.{given}
use package.Rattle.calls.specs.Answer.{Answer, accepted, refused, cleared}
use package.Rattle.calls.specs.Load.{load}
use package.Rattle.calls.specs.Values.{value}
use package.Rattle.calls.specs.Conversions.{open_call}
use package.Rattle.calls.specs.Book.{opens, converts, rolls_back, is_open, call_run, resized}
use package.Rattle.calls.specs.Claims.{begun}
use package.Rattle.calls.proofs.Load.{load_iff}
use package.Rattle.calls.proofs.Values.{value-sound}
use package.Rattle.calls.proofs.Book.Calls.{open_says}
use package.Rattle.calls.proofs.Book.Rows.{journal, empty}
use package.Rattle.calls.proofs.Book.Turn.{Keeps, written_keeps}
use package.Rattle.calls.proofs.Journal.Buffers.{length-write_out}
use package.Rattle.octets.proofs.Pastes.{length-pasted, pasted-behind}
use package.Rattle.replay.specs.Scripts.{step_at, given_of, call_as, call_of, Script, calls_of, parse_from, parse}
use package.Rattle.replay.specs.Lines.{line, lines}
use package.Rattle.replay.specs.Playing.{Reply, malformed, reply_of, split, reply_to}
use package.Rattle.replay.specs.Playing.{Result, ends, opened, starts_with, plays_unless, replayed, ReplayMeans}
use package.Rattle.replay.specs.Inner.Steps.{hinders, swept, play, opens_to, begins_as, begins, begins_at}
use package.Rattle.replay.specs.declared.scripts.Part.{Part}
use package.Rattle.replay.specs.declared.scripts.Kind.{Kind}
use package.Rattle.replay.specs.declared.scripts.Kind.TheVariants.{Open, Convert, Rollback}
use package.Rattle.replay.specs.Scripts as steps
use package.Rattle.replay.specs.Scripts.{Step}
use Rattle.std.specs.Prelude.{Result as Outcome, Ok, Err}
use package.Rattle.replay.specs.declared.replies.ReplayError.{ReplayError}
use package.Rattle.replay.proofs.Lines.{length-line, zeros}
use package.Rattle.replay.proofs.Parsed.{buffer_is, placed_at, parse-ends, parse_breaks, parse-goes, Unhindered, unhindered, same-hindrance}
use package.Rattle.replay.proofs.Book.{Booking, books}

same-result : {r : Result} {a : Reply} {j b w : List ℕ} → r.reply ≡ a → r.journal ≡ j → r.answers ≡ b → r.workspace ≡ w → r ≡ ends a j b w
same-result {r} {a} {j} {b} {w} e f g h =
    let z : ends r.reply r.journal r.answers r.workspace ≡ ends a j b w = cc in z

-- the script behind its first call
abbrev pub behind : ℕ → List ℕ → Part → Script
behind ws s p = parse_from (length s) ws s p.next

-- the first call has room in the journal's buffer `J` and the answers' buffer `A`, and so have those behind it
abbrev pub Free : List ℕ → List ℕ → ℕ → List ℕ → Part → Type 0
Free J A ws s p = Unhindered (length J) (length A) p.n (behind ws s p).calls (behind ws s p).broken

pub free : (J A : List ℕ) (ws : ℕ) (s : List ℕ) (p : Part) → step_at s 0 ≡ steps.Play p → hinders (length J) (length A) (parse ws s) ≡ none
    → Free J A ws s p
unfolding parse
free J A ws s p q e =
    subst (λ n. Unhindered (length J) (length A) n (behind ws s p).calls (behind ws s p).broken) (buffer_is ws s p)
    (unhindered (length J) (length A) (placed_at 0 ws s p) _ _ (sym (ap (hinders (length J) (length A)) (parse-goes ws s (length s) 0 p q)) ∙ e))

module _ (program s J A W : List ℕ) (bytes : AreBytes s) where
  ----------------------------------------------------------------
  -- The first open, accepted

  -- the calls behind it in code
  abbrev pub played_on : Part → List ℕ → Result
  played_on p xs = play (length s) program s p.next 1 (resized (length J) xs) (pasted A 0 (line is_open)) (zeros (length W))

  -- it opened a journal for the program `P` with the record `v`, and left `xs`
  pub record Opened (p : Part) (xs : List ℕ) : Type 0 where
    pub P : Program
    pub v : Val
    pub loads : load program ≡ accepted P
    pub reads : value (given_of s p) ≡ some v
    pub keeps : Keeps P (begun v) xs []
    pub booking : Booking program s (length W) (length J) 1 (pasted A 0 (line is_open)) xs (played_on p xs)
        (split program (behind (length W) s p).calls xs)

  pub opened-books : (p : Part) (xs : List ℕ) → Free J A (length W) s p → open_call program (given_of s p) (length W) p.n ≡ accepted xs
      → Opened p xs
  opened-books p xs F op =
      given (open_says (length W) program (given_of s p) p.n op) λ (P, v, lp, vr, l, x).
      let A₁ = pasted A 0 (line is_open) in
      let long : length A₁ ≡ length A = length-pasted A 0 (line is_open) (omega (arith, length-line is_open, F.line)) in
      let K : Keeps P (begun v) xs [] =
      subst (λ xs. Keeps P (begun v) xs []) x (written_keeps [] v p.n empty l (value-sound (given_of s p) vr).1 (omega arith)) in
      record {
        P = P;
        v = v;
        loads = lp;
        reads = vr;
        keeps = K;
        booking = books program s (length W) (length J) P lp ((load_iff program P).0 lp).1 bytes (length s) p.next 1 A₁ xs (begun v) [] K
            (omega (arith, ap length x, length-write_out p.n (journal v []) l, F.narrow)) (omega (arith, long, F.line))
            (ap (λ r. hinders (length J) r (behind (length W) s p)) (let z : length A₁ - 7 * 1 ≡ length A - 7 = omega (arith, long) in z)
            ∙ F.behind);
      }

  -- what it and the calls behind it answered, as lines
  told_is : (p : Part) (xs : List ℕ) → Free J A (length W) s p → Opened p xs → (played_on p xs).answers
      ≡ pasted A 0 (lines (is_open ∷ (call_run program (calls_of (split program (behind (length W) s p).calls xs).made) xs).answers))
  unfolding lines
  told_is p xs F O =
      let ls = lines (call_run program (calls_of (split program (behind (length W) s p).calls xs).made) xs).answers in
      O.booking.told
      ∙ ap (λ i. pasted (pasted A 0 (line is_open)) i ls) (let z : 7 * 1 ≡ 0 + length (line is_open) = omega (arith, length-line is_open) in z)
      ∙ pasted-behind A 0 (line is_open) (omega (arith, length-line is_open, F.line)) ls

  ----------------------------------------------------------------
  -- The first call

  -- by the open's answer
  open_is : (p : Part) → Free J A (length W) s p → (x : Answer (List ℕ)) → open_call program (given_of s p) (length W) p.n ≡ x
      → opens_to x program s p.next J A W ≡ opened program J A W x (behind (length W) s p).calls
  unfolding opens_to opened swept cleared
  open_is p F (refused n q) e = refl
  open_is p F (accepted xs) e =
      let O = opened-books p xs F e in
      let x = split program (behind (length W) s p).calls xs in
      same-result (O.booking.reply ∙ ap (λ k. reply_to k x.rest) (let z : 1 + length x.made ≡ suc (length x.made) = omega arith in z))
      O.booking.kept (told_is p xs F O) O.booking.clear

  -- by its kind
  first_is : (p : Part) → Free J A (length W) s p
      → begins program s p J A W ≡ starts_with program J A W (call_of (length W) s p) (behind (length W) s p).calls
  unfolding begins begins_as call_of call_as starts_with
  first_is p F = by p.kind
    where
      by : (k : Kind) → begins_as k program s p J A W ≡ starts_with program J A W (call_as k (length W) s p) (behind (length W) s p).calls
      by Open = open_is p F (open_call program (given_of s p) (length W) p.n) refl
      by (Convert fuel function) = refl
      by (Rollback fuel) = refl

  -- the script's result, by what hinders it
  abbrev unless : Option Reply → Script → Result
  unless x y = plays_unless program J A W x y.calls

  -- by what stands at the start
  start_is : hinders (length J) (length A) (parse (length W) s) ≡ none → (x : Step) → step_at s 0 ≡ x
      → begins_at x program s J A W ≡ unless none (parse (length W) s)
  unfolding begins_at plays_unless parse
  start_is e steps.End q = ap (unless none) (sym (parse-ends (length W) s (length s) 0 q))
  start_is e steps.Malformed q = ap (unless none) (sym (parse_breaks (length W) s (length s) 0 q))
  start_is e (steps.Play p) q = first_is p (free J A (length W) s p q e) ∙ ap (unless none) (sym (parse-goes (length W) s (length s) 0 p q))

  ----------------------------------------------------------------
  -- In code

  -- reading the script found what hinders it
  reading_is : (x : Option Reply) → x ≡ hinders (length J) (length A) (parse 0 s) → hinders (length J) (length A) (parse (length W) s) ≡ x
  unfolding parse
  reading_is x e = same-hindrance (length W) 0 (length J) s (suc (length s)) (length A) 0 ∙ sym e

  pub replay_stops : (a : Outcome ℕ ReplayError) → some (reply_of a) ≡ hinders (length J) (length A) (parse 0 s)
      → ReplayMeans a (replayed program s J A W) J A W
  unfolding replayed plays_unless
  replay_stops a e =
      subst (λ x. ReplayMeans a (unless x (parse (length W) s)) J A W) (sym (reading_is (some (reply_of a)) e))
      (record { answer = refl; kept = refl; told = refl; clear = refl })

  pub replay_goes : (a : Outcome ℕ ReplayError) (J' A' W' : List ℕ) → none ≡ hinders (length J) (length A) (parse 0 s)
      → ReplayMeans a (begins_at (step_at s 0) program s J A W) J' A' W' → ReplayMeans a (replayed program s J A W) J' A' W'
  unfolding replayed
  replay_goes a J' A' W' e M =
      subst (λ x. ReplayMeans a (unless x (parse (length W) s)) J' A' W') (sym (reading_is none e))
      (subst (λ r. ReplayMeans a r J' A' W') (start_is (reading_is none e) (step_at s 0) refl) M)
