-- Demand 3 of a script that is played: what stands in the buffers afterwards is the plain book's (specs/Booked).
use Prim.Native.Nat.{ℕ, suc, ◌-◌, ◌≤◌, ◌<◌}
use mathlib.Core.Path.{◌≡◌, refl, sym, ap, ap₂, subst, ◌∙◌}
use mathlib.Core.Bool.{Bool, true, false}
use mathlib.Core.Option.{Option, none, some}
use mathlib.Core.List.{List, [], ◌∷◌, ◌++◌}
use lib.ListN.{length}
use lib.Dec.{eqb, ltb}
use package.Rattle.octets.specs.Runs.{pasted}
use package.Rattle.octets.specs.Numbers.{AreBytes}
use package.Rattle.rules.proofs.Basics.{given, none≢some, some_inj}
use package.Rattle.calls.specs.Answer.{Answer, accepted, refused, cleared}
use package.Rattle.calls.specs.Journal.{write_out}
use package.Rattle.calls.specs.Conversions.{open_call}
use package.Rattle.calls.specs.Book.{opens, buffer, is_open, book_run, CallRun, call_run, resized}
use package.Rattle.calls.specs.Claims.{begun, standing}
use package.Rattle.calls.proofs.Theorems.{demand3}
use package.Rattle.calls.proofs.Load.{load_iff}
use package.Rattle.calls.proofs.Book.List.{runs}
use package.Rattle.calls.proofs.Book.Rows.{standing-journal}
use package.Rattle.calls.proofs.Book.Turn.{Keeps}
use package.Rattle.replay.specs.Scripts.{pick, step_at, given_of, call_as, call_of, Placed, Script, calls_of, parse}
use package.Rattle.replay.specs.Lines.{lines}
use package.Rattle.replay.specs.Playing.{Reply, too_wide, short_answers, reply_of, hindrance, Split, split, reply_to}
use package.Rattle.replay.specs.Playing.{Result, ends, opened, starts_with, plays_unless, replayed, ReplayMeans}
use package.Rattle.replay.specs.Inner.Steps.{hinders}
use package.Rattle.replay.specs.Booked.{CutAt, ByTheBook, Untouched, Booked}
use package.Rattle.replay.specs.declared.scripts.Part.{Part}
use package.Rattle.replay.specs.declared.scripts.Kind.{Kind}
use package.Rattle.replay.specs.declared.scripts.Kind.TheVariants.{Open, Convert, Rollback}
use package.Rattle.replay.specs.Scripts as steps
use package.Rattle.replay.specs.Scripts.{Step}
use Rattle.std.specs.Prelude.{Result as Outcome, Ok, Err}
use package.Rattle.replay.specs.declared.replies.ReplayError.{ReplayError}
use package.Rattle.replay.proofs.Lines.{zeros}
use package.Rattle.replay.proofs.Parsed.{parse-ends, parse_breaks, parse-goes, unbroken, unhindered}
use package.Rattle.replay.proofs.Splits.{split_all, rest_cuts}
use package.Rattle.replay.proofs.Book.{kept-wide, last_is, last-wide}
use package.Rattle.replay.proofs.Played.{behind, Free, free, Opened, opened-books}

----------------------------------------------------------------
-- Nothing was touched

module _ (program s J A W : List ℕ) where
  -- what is claimed of a result
  abbrev Claimed : Result → Type 0
  Claimed r = Booked program s J A W r.journal r.answers r.workspace r.reply

  untouched : Untouched program s J A W J A W
  untouched = record { kept = refl; told = refl; clear = refl }

  picked : (b : Bool) (r r' : Reply) (m : Option Reply) → Claimed (ends r J A W) → (m ≡ some r' → Claimed (ends r' J A W))
      → pick b (some r) m ≡ some r' → Claimed (ends r' J A W)
  picked true r r' m h f e = subst (λ r. Claimed (ends r J A W)) (some_inj e) h
  picked false r r' m h f e = f e

  hindered : (width room : ℕ) (cs : List Placed) (broken : Option ℕ) (r : Reply) → hindrance width room cs broken ≡ some r → Claimed (ends r J A W)
  unfolding hindrance
  hindered width room [] none r e = absurd (none≢some e)
  hindered width room [] (some at) r e = subst (λ r. Claimed (ends r J A W)) (some_inj e) untouched
  hindered width room (c ∷ cs) broken r e =
      picked (ltb width (buffer c.call)) (too_wide c.place) r _ untouched
      (λ e. picked (ltb room 7) short_answers r _ untouched (λ e. hindered width (room - 7) cs broken r e) e) e

----------------------------------------------------------------
-- From the first open on

whole_script : (width room : ℕ) (cs : List Placed) (broken : Option ℕ) → hindrance width room cs broken ≡ none → broken ≡ none
unfolding hindrance
whole_script width room [] none e = refl
whole_script width room [] (some at) e = absurd (unbroken width room at e)
whole_script width room (c ∷ cs) broken e = whole_script width (room - 7) cs broken (unhindered width room c cs broken e).behind

module _ (program s J A W : List ℕ) (bytes : AreBytes s) where
  -- the open was accepted
  module _ (p : Part) (q : step_at s 0 ≡ steps.Play p) (F : Free J A (length W) s p) (xs : List ℕ)
      (opening : call_of (length W) s p ≡ opens (given_of s p) (length W) p.n)
      (op : open_call program (given_of s p) (length W) p.n ≡ accepted xs) where
    O : Opened program s J A W bytes p xs
    O = opened-books program s J A W bytes p xs F op

    x : Split
    x = split program (behind (length W) s p).calls xs

    run : CallRun
    run = call_run program (calls_of x.made) xs

    -- the open first
    abbrev first : Placed
    first = record { place = 0; call = opens (given_of s p) (length W) p.n }

    stands : parse (length W) s ≡ record { calls = first ∷ (x.made ++ x.rest); broken = none }
    unfolding parse x
    stands =
        parse-goes (length W) s (length s) 0 p q
        ∙ ap (λ c. record { calls = record { place = 0; call = c } ∷ (behind (length W) s p).calls; broken = (behind (length W) s p).broken }) opening
        ∙ ap₂ (λ cs b. record { calls = first ∷ cs; broken = b })
        (sym (split_all program (behind (length W) s p).calls xs)) (whole_script (length J) (length A - 7) _ _ F.behind)

    keeps : Keeps O.P (book_run program O.P (calls_of x.made) (begun O.v)).book run.journal (standing program (calls_of x.made) xs [])
    unfolding x run
    keeps =
        (runs program O.P O.loads ((load_iff program O.P).0 O.loads).1 (calls_of x.made) (begun O.v) xs [] O.keeps
        O.booking.premises).1

    short : length run.journal ≤ length J
    unfolding x run
    short = O.booking.short

    by_the_book : (Ends : List Placed → List Placed → Type 0) (rest : List Placed) → x.rest ≡ rest → Ends x.made rest
        → ByTheBook program s J A W (resized (length J) run.journal) (pasted A 0 (lines (is_open ∷ run.answers))) (zeros (length W)) Ends
    unfolding x run
    by_the_book Ends rest e st =
        given (demand3 program O.P (length W) p.n (given_of s p) xs O.v O.loads O.reads op (calls_of x.made)
        O.booking.premises) λ D.
        record {
          P = O.P;
          loads = O.loads;
          bytes = given_of s p;
          n = p.n;
          first = O.v;
          reads = O.reads;
          made = x.made;
          rest = rest;
          stands = stands ∙ ap (λ cs. record { calls = first ∷ (x.made ++ cs); broken = none }) e;
          ended = st;
          book = book_run program O.P (calls_of x.made) (begun O.v);
          books = refl;
          told = ap (λ ts. pasted A 0 (lines (is_open ∷ ts))) D.answers;
          kept = kept-wide keeps (length J) short ∙ ap (write_out (length J)) (sym (standing-journal keeps.rows));
          clear = refl;
          carried = D.carried;
        }

    -- by whether calls are left
    rest_booked : (rest : List Placed) → x.rest ≡ rest
        → Claimed program s J A W (ends (reply_to (suc (length x.made)) rest) (resized (length J) run.journal)
        (pasted A 0 (lines (is_open ∷ run.answers))) (zeros (length W)))
    unfolding reply_to x run
    rest_booked [] e = by_the_book _ [] e (refl, refl)
    rest_booked (c ∷ more) e =
        by_the_book (λ made rest. CutAt c.place rest (resized (length J) run.journal)) (c ∷ more) e (record {
          next = c;
          behind = more;
          stands = refl;
          place = refl;
          cuts = subst (λ k. buffer c.call < k) (last_is keeps (length J) short ∙ sym (last-wide keeps (length J) short))
              (rest_cuts program (behind (length W) s p).calls xs c more e);
        })

    accepted-booked : Claimed program s J A W (opened program J A W (accepted xs) (behind (length W) s p).calls)
    unfolding opened cleared x run
    accepted-booked = rest_booked x.rest refl

  open_booked : (p : Part) → step_at s 0 ≡ steps.Play p → Free J A (length W) s p → call_of (length W) s p ≡ opens (given_of s p) (length W) p.n
      → (x : Answer (List ℕ)) → open_call program (given_of s p) (length W) p.n ≡ x
      → Claimed program s J A W (opened program J A W x (behind (length W) s p).calls)
  unfolding opened
  open_booked p q F o (refused n k) e = (refl, refl)
  open_booked p q F o (accepted xs) e = accepted-booked p q F xs o e

  first-booked : (p : Part) → step_at s 0 ≡ steps.Play p → Free J A (length W) s p
      → Claimed program s J A W (starts_with program J A W (call_of (length W) s p) (behind (length W) s p).calls)
  unfolding starts_with call_of call_as
  first-booked p q F = by p.kind refl
    where
      by : (k : Kind) → p.kind ≡ k → Claimed program s J A W (starts_with program J A W (call_as k (length W) s p) (behind (length W) s p).calls)
      by Open e = open_booked p q F (ap (λ k. call_as k (length W) s p) e) (open_call program (given_of s p) (length W) p.n) refl
      by (Convert fuel function) e = untouched program s J A W
      by (Rollback fuel) e = untouched program s J A W

  -- of the script's result, by what hinders it
  abbrev Unless : Option Reply → Script → Type 0
  Unless x y = Claimed program s J A W (plays_unless program J A W x y.calls)

  start-booked : hinders (length J) (length A) (parse (length W) s) ≡ none → (x : Step) → step_at s 0 ≡ x → Unless none (parse (length W) s)
  unfolding plays_unless parse
  start-booked e steps.End q = subst (Unless none) (sym (parse-ends (length W) s (length s) 0 q)) (untouched program s J A W)
  start-booked e steps.Malformed q = subst (Unless none) (sym (parse_breaks (length W) s (length s) 0 q)) (untouched program s J A W)
  start-booked e (steps.Play p) q =
      subst (Unless none) (sym (parse-goes (length W) s (length s) 0 p q))
      (first-booked p q (free J A (length W) s p q e))

  unless-booked : (x : Option Reply) → hinders (length J) (length A) (parse (length W) s) ≡ x → Unless x (parse (length W) s)
  unfolding plays_unless
  unless-booked (some r) e = hindered program s J A W (length J) (length A) _ _ r e
  unless-booked none e = start-booked e (step_at s 0) refl

  pub replay_book : Claimed program s J A W (replayed program s J A W)
  unfolding replayed
  replay_book = unless-booked (hinders (length J) (length A) (parse (length W) s)) refl

  -- for an answer in code
  pub replay_booked : (a : Outcome ℕ ReplayError) (J' A' W' : List ℕ) → ReplayMeans a (replayed program s J A W) J' A' W'
      → Booked program s J A W J' A' W' (reply_of a)
  replay_booked a J' A' W' M =
      let r = replayed program s J A W in
      subst (Booked program s J A W J' A' W') (sym M.answer)
      (subst (λ j. Booked program s J A W j A' W' r.reply) (sym M.kept)
      (subst (λ b. Booked program s J A W r.journal b W' r.reply) (sym M.told)
      (subst (λ w. Booked program s J A W r.journal r.answers w r.reply) (sym M.clear) replay_book)))
