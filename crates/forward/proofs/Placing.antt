-- The arguments of a call: one after the other they are evaluated, and placed in the slots behind the caller's scope.
use Prim.Native.Nat.{ℕ, zero, suc, ◌+◌, ◌-◌, ◌≤◌, ◌<◌}
use native.Mathlib.Omega.{arith}
use native.Mathlib.Decide.{dec_lt}
use mathlib.Core.Path.{◌≡◌, refl, sym, ap, ap₂, ◌∙◌}
use mathlib.Core.List.{List, [], ◌∷◌}
use lib.ListN.{get_or, set, length-set}
use lib.Seq.{get_or-set_same, get_or-set_other}
use package.Rattle.program.specs.Kinds.{call_kind}
use package.Rattle.rules.specs.Limits.{fits, max_parameters}
use package.Rattle.rules.specs.Val.{Val}
use package.Rattle.rules.specs.Term.{Term}
use package.Rattle.rules.specs.Run.{Res, ok, Run, after}
use package.Rattle.rules.proofs.Run.{via, after-after}
use package.Rattle.rules.specs.Machine.{each, forward}
use package.Rattle.calls.specs.Entries.{TypeEntry, term_trees}
use package.Rattle.valuegraph.specs.Nodes.{value_at}
use package.Rattle.valuegraph.proofs.Heaps.{value-kept}
use package.Rattle.scopes.specs.Slots.{slot_count, Machine, Scope}
use package.Rattle.forward.specs.Outcomes.{Out, refusal_of}
use package.Rattle.forward.specs.Ready.{Ready, RanForward, ancillae_of, state_of, run_of, values_at, arguments_of, placed_of, Places, Calls}
use package.Rattle.forward.proofs.Runs.{refusal-after, answered, refused, says, then, fewer, ancillae_later, state_later, part}
use Rattle.forward.specs.declared.outcomes.Refusal.{Refusal}
use package.Rattle.decoded.specs.Rows.{room_for, argument_in, arguments_in, kind_in, program_in, third_in, tree_in}
use package.Rattle.decoded.proofs.Trees.{part-argument}
use Rattle.std.specs.Prelude.{Result, Ok, Err}

----------------------------------------------------------------
-- Arguments one after the other

module _ (go : Term → Run Val) (tree : ℕ → Term) (code : List ℕ) (t : ℕ) (last : Term) where
  -- the terms of call `t` from number `i` on, `n` of them, and the last
  abbrev pub arguments : ℕ → ℕ → ℕ → (List Val → Val → Run Val) → Res Val
  arguments i n fuel next = after (each go (term_trees tree (arguments_in code t i n)) fuel) (λ vs fuel. after (go last fuel) (next vs))

  arguments-last : (i n fuel : ℕ) (next : List Val → Val → Run Val) → n ≡ 0 → arguments i n fuel next ≡ after (go last fuel) (next [])
  unfolding arguments_in term_trees each after
  arguments-last i n fuel next e = rw e

  abbrev onward : Val → Run (List Val) → Run (List Val)
  onward v m fuel = after (m fuel) (λ vs fuel. ok (v ∷ vs) fuel)

  arguments-front : (i n n' fuel : ℕ) (next : List Val → Val → Run Val) → n ≡ suc n' → arguments i n fuel next
      ≡ after (after (go (tree (argument_in code t i)) fuel) (λ v. onward v (each go (term_trees tree (arguments_in code t (i + 1) n')))))
      (λ vs fuel. after (go last fuel) (next vs))
  unfolding arguments_in term_trees each
  arguments-front i n n' fuel next e = rw e

  module _ (i n n' fuel : ℕ) (next : List Val → Val → Run Val) (e : n ≡ suc n') where
    arguments-more : {v : Val} {fuel' : ℕ} → go (tree (argument_in code t i)) fuel ≡ ok v fuel'
        → arguments i n fuel next ≡ arguments (i + 1) n' fuel' (λ vs. next (v ∷ vs))
    unfolding after
    arguments-more {v} {fuel'} p =
        arguments-front i n n' fuel next e
        ∙ ap (λ x. after (after x (λ v. onward v (each go (term_trees tree (arguments_in code t (i + 1) n'))))) (λ vs fuel. after (go last fuel) (next vs))) p
        ∙ after-after (each go (term_trees tree (arguments_in code t (i + 1) n')) fuel') (λ vs fuel. ok (v ∷ vs) fuel) (λ vs fuel. after (go last fuel) (next vs))

    arguments-refused : (why : Refusal) → go (tree (argument_in code t i)) fuel ≡ refusal_of why → arguments i n fuel next ≡ refusal_of why
    arguments-refused why p =
        arguments-front i n n' fuel next e
        ∙ ap (λ x. after (after x (λ v. onward v (each go (term_trees tree (arguments_in code t (i + 1) n'))))) (λ vs fuel. after (go last fuel) (next vs))) p
        ∙ ap (λ x. after x (λ vs fuel. after (go last fuel) (next vs)))
        (refusal-after why (λ v. onward v (each go (term_trees tree (arguments_in code t (i + 1) n')))))
        ∙ refusal-after why (λ vs fuel. after (go last fuel) (next vs))

----------------------------------------------------------------
-- Values in slots

pub values_same : (heap slots slots' : List ℕ) (from n : ℕ) → ((j : ℕ) → from ≤ j → get_or slots j 0 ≡ get_or slots' j 0)
    → values_at heap slots from n ≡ values_at heap slots' from n
unfolding values_at
values_same heap slots slots' from zero s = refl
values_same heap slots slots' from (suc n) s = ap₂ ◌∷◌ (ap (value_at heap) (s from (omega arith)))
    (values_same heap slots slots' (from + 1) n λ j h. s j (omega arith))

pub values_none : (heap slots : List ℕ) (from n : ℕ) → n ≡ 0 → values_at heap slots from n ≡ []
unfolding values_at
values_none heap slots from n e = rw e

pub values-front : (heap slots : List ℕ) (from n n' : ℕ) → n ≡ suc n'
    → values_at heap slots from n ≡ value_at heap (get_or slots from 0) ∷ values_at heap slots (from + 1) n'
unfolding values_at
values-front heap slots from n n' e = rw e

pub placed-value : (heap slots : List ℕ) (m k count fuel : ℕ) {s : Result ℕ Refusal} {node : ℕ} (next : List Val → Val → Run Val) → s ≡ Ok node
    → placed_of heap slots m k count fuel s next ≡ next (values_at heap slots (m + k) (count - k)) (value_at heap (get_or slots (m + count) 0)) fuel
unfolding placed_of
placed-value heap slots m k count fuel next e = ap (λ s. placed_of heap slots m k count fuel s next) e

pub placed-refused : (heap slots : List ℕ) (m k count fuel : ℕ) {s : Result ℕ Refusal} {why : Refusal} (next : List Val → Val → Run Val) → s ≡ Err why
    → placed_of heap slots m k count fuel s next ≡ refusal_of why
unfolding placed_of
placed-refused heap slots m k count fuel next e = ap (λ s. placed_of heap slots m k count fuel s next) e

----------------------------------------------------------------
-- Placing

module _ {code heap slots : List ℕ} {st : Machine} {sc : Scope} {t room : ℕ} (rd : Ready 1 0 code heap slots st sc t room)
    {k count : ℕ} (C : Calls code t k count) where
  abbrev m : ℕ
  m = sc.base + sc.n

  abbrev go : List TypeEntry → Term → Run Val
  go ys = forward fits (program_in code ys) (room - 1) (ancillae_of heap slots sc) (state_of heap slots sc)

  pub few-count : count ≤ room_for
  few-count = omega (arith, C.ancillae, rd.rows.few t rd.term C.kind)

  -- the slot of argument `k` is there
  pub place-room : m + k < slot_count
  unfolding max_parameters
  place-room = omega (arith, rd.variables, rd.full, rd.tall, few-count, C.next)

  -- the next argument
  pub place-less : ¬ (k ≡ count) → k < count
  place-less n = go (dec_lt k count)
    where
      go : Dec (k < count) → k < count
      go (yes l) = l
      go (no l) = absurd (n (omega (arith, C.next)))

  pub place-next : ¬ (k ≡ count) → Calls code t (k + 1) count
  place-next n = record { kind = C.kind; ancillae = C.ancillae; next = omega (arith, place-less n) }

  module _ (b : ℕ) (q : b ≡ argument_in code t k) where
    pub place-ready : Ready 0 0 code heap slots st sc b (room - 1)
    place-ready =
        rw q (fewer (part rd (argument_in code t k) (part-argument rd.rows t rd.term C.kind k (omega (arith, C.ancillae, C.next)))) 0 (omega arith))

    module _ {heap₁ slots₁ : List ℕ} {r₁ : Out} (d : RanForward 0 heap heap₁ m slots slots₁ st r₁ (run_of code heap slots st sc b (room - 1))) where
      -- argument `k`, as it stands among the others
      at_place : (ys : List TypeEntry) → go ys (tree_in code ys (argument_in code t k)) st.fuel ≡ run_of code heap slots st sc b (room - 1) ys
      at_place ys = ap (λ b. run_of code heap slots st sc b (room - 1) ys) (sym q)

      at-end : k ≡ count → (ys : List TypeEntry) → go ys (tree_in code ys (argument_in code t count)) st.fuel ≡ run_of code heap slots st sc b (room - 1) ys
      at-end e ys = ap (λ b. run_of code heap slots st sc b (room - 1) ys) (ap (argument_in code t) (sym e) ∙ sym q)

      pub place-refused : {why : Refusal} → r₁.status ≡ Err why → Places code heap heap₁ slots slots₁ st sc t room k count r₁
      place-refused {why} s = record {
        ran = says d (λ ys. sym (d.answer ys));
        held = λ n e. absurd (let z : ◌≡◌ {A = ℕ} 0 1 = cc in omega arith);
        answer = λ ys next. go_on ys next (dec_lt k count) ∙ sym (placed-refused heap₁ slots₁ m k count r₁.state.fuel next s);
      }
        where
          go_on : (ys : List TypeEntry) (next : List Val → Val → Run Val) → Dec (k < count)
              → arguments_of code heap slots st sc t room k count ys next ≡ refusal_of why
          go_on ys next (yes l) =
              arguments-refused (go ys) (tree_in code ys) code t (tree_in code ys (argument_in code t count)) k (count - k) (count - (k + 1)) st.fuel next
              (omega arith) why
              (at_place ys ∙ refused d s ys)
          go_on ys next (no l) =
              arguments-last (go ys) (tree_in code ys) code t (tree_in code ys (argument_in code t count)) k (count - k) st.fuel next (omega (arith, C.next))
              ∙ ap (λ x. after x (next [])) (at-end (omega (arith, C.next)) ys ∙ refused d s ys)
              ∙ refusal-after why (next [])

      module _ {x : ℕ} (s : r₁.status ≡ Ok x) where
        -- the dynamic term
        pub place-last : k ≡ count → (slots₂ : List ℕ) → slots₂ ≡ set slots₁ (m + k) x → Places code heap heap₁ slots slots₂ st sc t room k count r₁
        place-last e slots₂ e₂ = record {
          ran = record {
            agree = d.agree;
            graph = d.graph;
            below = λ j h. d.below j h ∙ rw e₂ (sym (get_or-set_other slots₁ (m + k) j x 0 (λ q. omega arith)));
            lengths = d.lengths ∙ rw e₂ (sym (length-set slots₁ (m + k) x));
            grows = d.grows;
            spends = d.spends;
            owes = d.owes;
            node = d.node;
            answer = λ ys. refl;
          };
          held = λ n q j low high. rw (let z : m + j ≡ m + k = omega arith in z, here) (d.node x s);
          answer = λ ys next.
              arguments-last (go ys) (tree_in code ys) code t (tree_in code ys (argument_in code t count)) k (count - k) st.fuel next (omega arith)
              ∙ value-next next ys
              ∙ sym (placed-value heap₁ slots₂ m k count r₁.state.fuel next s
              ∙ ap₂ (λ vs v. next vs v r₁.state.fuel) (values_none heap₁ slots₂ (m + k) (count - k) (omega arith))
              (ap (value_at heap₁) (ap (λ k. get_or slots₂ (m + k) 0) (sym e) ∙ here)));
        }
          where
            here : get_or slots₂ (m + k) 0 ≡ x
            here = rw e₂ (get_or-set_same slots₁ (m + k) x 0 (omega (arith, place-room, rd.full, d.lengths)))

            value-next : (next : List Val → Val → Run Val) (ys : List TypeEntry)
                → after (go ys (tree_in code ys (argument_in code t count)) st.fuel) (next []) ≡ next [] (value_at heap₁ x) r₁.state.fuel
            value-next next ys = via (next []) (at-end e ys ∙ answered d s ys) refl

        -- an ancilla term, and the others behind it
        module _ (l : k < count) {heap₂ slots₂ : List ℕ} {r₂ : Out} (D : Places code heap₁ heap₂ slots₁ slots₂ r₁.state sc t room (k + 1) count r₂)
            (slots₃ : List ℕ) (e₃ : slots₃ ≡ set slots₂ (m + k) x) where
          here : get_or slots₃ (m + k) 0 ≡ x
          here = rw e₃ (get_or-set_same slots₂ (m + k) x 0 (omega (arith, place-room, rd.full, d.lengths, D.ran.lengths)))

          elsewhere : (j : ℕ) → ¬ (j ≡ m + k) → get_or slots₂ j 0 ≡ get_or slots₃ j 0
          elsewhere j n = rw e₃ (sym (get_or-set_other slots₂ (m + k) j x 0 n))

          -- where the others were placed, this one is too
          one_more : (next : List Val → Val → Run Val) (s₂ : Result ℕ Refusal) → r₂.status ≡ s₂
              → placed_of heap₂ slots₂ m (k + 1) count r₂.state.fuel s₂ (λ vs. next (value_at heap₁ x ∷ vs)) ≡ placed_of heap₂ slots₃ m k count
              r₂.state.fuel s₂ next
          one_more next (Err why) e =
              placed-refused heap₂ slots₂ m (k + 1) count r₂.state.fuel (λ vs. next (value_at heap₁ x ∷ vs)) refl
              ∙ sym (placed-refused heap₂ slots₃ m k count r₂.state.fuel next refl)
          one_more next (Ok node) e =
              placed-value heap₂ slots₂ m (k + 1) count r₂.state.fuel (λ vs. next (value_at heap₁ x ∷ vs)) refl
              ∙ ap₂ (λ vs v. next vs v r₂.state.fuel) values (ap (value_at heap₂) (elsewhere (m + count) (λ q. omega arith)))
              ∙ sym (placed-value heap₂ slots₃ m k count r₂.state.fuel next refl)
            where
              values : value_at heap₁ x ∷ values_at heap₂ slots₂ (m + (k + 1)) (count - (k + 1)) ≡ values_at heap₂ slots₃ (m + k) (count - k)
              values =
                  ap₂ ◌∷◌ (value-kept heap₁ heap₂ r₁.state.top d.graph.right D.ran.agree x (d.node x s) ∙ ap (value_at heap₂) (sym here))
                  (values_same heap₂ slots₂ slots₃ (m + (k + 1)) (count - (k + 1)) (λ j h. elsewhere j (λ q. omega arith))
                  ∙ ap (λ i. values_at heap₂ slots₃ i (count - (k + 1))) (let z : m + (k + 1) ≡ m + k + 1 = omega arith in z))
                  ∙ sym (values-front heap₂ slots₃ (m + k) (count - k) (count - (k + 1)) (omega arith))

          -- the others, in the scope as it was
          others : (ys : List TypeEntry) (next : List Val → Val → Run Val)
              → arguments (go ys) (tree_in code ys) code t (tree_in code ys (argument_in code t count)) (k + 1) (count - (k + 1)) r₁.state.fuel next
              ≡ arguments_of code heap₁ slots₁ r₁.state sc t room (k + 1) count ys next
          others ys next =
              ap (λ (G : Term → Run Val). arguments G (tree_in code ys) code t (tree_in code ys (argument_in code t count)) (k + 1) (count - (k + 1))
              r₁.state.fuel next)
              (ap₂ (λ a σ. forward fits (program_in code ys) (room - 1) a σ) (ancillae_later rd d) (state_later rd d))

          pub place-more : Places code heap heap₂ slots slots₃ st sc t room k count r₂
          place-more = record {
            ran = then d (record {
              agree = D.ran.agree;
              graph = D.ran.graph;
              below = λ j h. D.ran.below j h ∙ elsewhere j (λ q. omega arith);
              lengths = D.ran.lengths ∙ rw e₃ (sym (length-set slots₂ (m + k) x));
              grows = D.ran.grows;
              spends = D.ran.spends;
              owes = D.ran.owes;
              node = D.ran.node;
              answer = λ ys. refl;
            }) (omega arith);
            held = λ n q j low high. slot n q j low high (dec_lt k j);
            answer = λ ys next.
                arguments-more (go ys) (tree_in code ys) code t (tree_in code ys (argument_in code t count)) k (count - k) (count - (k + 1)) st.fuel next
                (omega arith)
                (at_place ys ∙ answered d s ys)
                ∙ others ys (λ vs. next (value_at heap₁ x ∷ vs))
                ∙ D.answer ys (λ vs. next (value_at heap₁ x ∷ vs))
                ∙ one_more next r₂.status refl;
          }
            where
              slot : (n : ℕ) → r₂.status ≡ Ok n → (j : ℕ) → k ≤ j → j ≤ count → Dec (k < j) → get_or slots₃ (m + j) 0 < r₂.state.top
              slot n q j low high (yes h) = rw (← elsewhere (m + j) (λ z. omega arith)) (D.held n q j (omega arith) high)
              slot n q j low high (no h) = rw (let z : m + j ≡ m + k = omega arith in z, here) (omega (arith, d.node x s, D.ran.grows))

-- the arguments of a call, none placed yet
pub all_to_place : {code : List ℕ} {t count : ℕ} → kind_in code t ≡ call_kind → count ≡ third_in code t → Calls code t 0 count
all_to_place e q = record { kind = e; ancillae = q; next = omega arith }
