-- The answers of a run, and what the output holds: a value that fits is stored from the output's start, else nothing changes.
use Prim.Native.Nat.{ℕ, ◌+◌, ◌*◌, ◌-◌, ◌≤◌, ◌<◌}
use native.Mathlib.Omega.{arith}
use mathlib.Core.Path.{◌≡◌, refl, sym, ap, ap₂, ◌∙◌}
use mathlib.Core.List.{List}
use lib.ListN.{length}
use borrow.Author.Tests.{le-leb, lt-leb}
use package.Rattle.octets.specs.Runs.{pasted}
use package.Rattle.rules.specs.Val.{size, encode}
use package.Rattle.rules.specs.Run.{ok}
use package.Rattle.calls.specs.Answer.{accepted, refused, ◌>>=◌, require}
use package.Rattle.calls.specs.Runs.{Ran, ran, written}
use package.Rattle.calls.proofs.Answer.{overwritten-pasted}
use package.Rattle.answers.specs.declared.Refusal.TheVariants.{Fuel, Height, Long, FirstMatch, NoInput, Output}
use Rattle.std.specs.Prelude.{Ok, Err}
use package.Rattle.answers.specs.Answers.{summary, accepts}
use package.Rattle.answers.proofs.Answers.{refused_later}
use package.Rattle.valuegraph.specs.Nodes.{node_bytes, length_at, value_at}
use package.Rattle.valuegraph.specs.Stores.{StoreReady, StoreDone}
use package.Rattle.backward.specs.declared.outcomes.Refusal.{Refusal}
use package.Rattle.backward.specs.declared.outcomes.Refusal.TheVariants as why
use package.Rattle.backward.specs.Outcomes.{refusal_of}
use package.Rattle.runs.specs.Ended.{finished, Means, Gives}

----------------------------------------------------------------
-- A value

module _ (out : List ℕ) (r : Ran) where
  too_short : length out < size r.value → finished (length out) (accepted r) ≡ refused 17 0
  unfolding finished ◌>>=◌ require
  too_short h = ap (λ b. require b 17 0 >>= λ room. accepted r) (lt-leb (size r.value) (length out) h)

  long-enough : size r.value ≤ length out → finished (length out) (accepted r) ≡ accepted r
  unfolding finished ◌>>=◌ require
  long-enough h = ap (λ b. require b 17 0 >>= λ room. accepted r) (le-leb (size r.value) (length out) h)

module _ {heap : List ℕ} {node fuel left : ℕ} (G : Gives heap node fuel left) where
  pub node-room : node_bytes * (node + 1) ≤ length heap
  node-room = G.right.held

  module _ {len : ℕ} (e : len ≡ length_at heap node) where
    sized : len ≡ size (value_at heap node)
    sized = e ∙ (G.right.node node (omega arith)).len

    module _ (out : List ℕ) where
      abbrev answer : Ran
      answer = record { value = value_at heap node; steps = fuel - left }

      pub give-short : {i : ℕ} → i ≡ len → length out < i → Means (Err Output) out out (ran fuel (ok (value_at heap node) left))
      unfolding ran written ◌>>=◌
      give-short q h = record { answer = ap summary (sym short); later = refused_later Output (omega arith); output = ap (λ x. written x out) (sym short) }
        where
          short : finished (length out) (accepted answer) ≡ refused 17 0
          short = too_short out answer (omega (arith, sized))

      module _ {i : ℕ} (q : i ≡ len) (h : i ≤ length out) where
        pub store_ready : StoreReady heap node out 0
        store_ready = record { right = G.right; room = omega (arith, sized) }

        filled : pasted out 0 (encode (value_at heap node)) ≡ written (accepted answer) out
        unfolding written ◌>>=◌
        filled = overwritten-pasted out (encode (value_at heap node))

        pub give_done : {out' : List ℕ} {next steps : ℕ} → StoreDone heap node out out' 0 next → steps ≡ fuel - left
            → Means (Ok (record { len = len; steps = steps })) out out' (ran fuel (ok (value_at heap node) left))
        unfolding ran written ◌>>=◌
        give_done d s = record {
          answer = ap₂ (λ l n. accepted (l, n)) sized s ∙ ap summary (sym enough);
          later = accepts;
          output = d.bytes ∙ filled ∙ ap (λ x. written x out) (sym enough);
        }
          where
            enough : finished (length out) (accepted answer) ≡ accepted answer
            enough = long-enough out answer (omega (arith, sized))

----------------------------------------------------------------
-- A refusal

module _ (out : List ℕ) (fuel : ℕ) {w : Refusal} {t : ℕ} where
  pub refused-fuel : w ≡ why.Fuel t → Means (Err (Fuel t)) out out (ran fuel (refusal_of w))
  unfolding ran refusal_of finished ◌>>=◌ written
  refused-fuel e = rw e (record { answer = refl; later = refused_later (Fuel t) (omega arith); output = refl })

  pub refused-height : w ≡ why.Height t → Means (Err (Height t)) out out (ran fuel (refusal_of w))
  unfolding ran refusal_of finished ◌>>=◌ written
  refused-height e = rw e (record { answer = refl; later = refused_later (Height t) (omega arith); output = refl })

  pub refused-long : w ≡ why.Long t → Means (Err (Long t)) out out (ran fuel (refusal_of w))
  unfolding ran refusal_of finished ◌>>=◌ written
  refused-long e = rw e (record { answer = refl; later = refused_later (Long t) (omega arith); output = refl })

  pub refused_match : w ≡ why.FirstMatch t → Means (Err (FirstMatch t)) out out (ran fuel (refusal_of w))
  unfolding ran refusal_of finished ◌>>=◌ written
  refused_match e = rw e (record { answer = refl; later = refused_later (FirstMatch t) (omega arith); output = refl })

  pub refused_input : w ≡ why.NoInput t → Means (Err (NoInput t)) out out (ran fuel (refusal_of w))
  unfolding ran refusal_of finished ◌>>=◌ written
  refused_input e = rw e (record { answer = refl; later = refused_later (NoInput t) (omega arith); output = refl })
