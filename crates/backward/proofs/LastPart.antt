-- The last part of a term, with which `back` goes on by itself: what a step comes to, and the turns of its loop.
use Prim.Native.Nat.{ℕ, ◌+◌, ◌-◌, ◌≤◌, ◌<◌}
use native.Mathlib.Omega.{arith}
use mathlib.Core.Path.{◌≡◌, refl, sym, ap, ◌∙◌}
use mathlib.Core.List.{List}
use lib.ListN.{length}
use package.Rattle.rules.specs.Run.{Res}
use package.Rattle.rules.specs.Machine.{State}
use package.Rattle.calls.specs.Entries.{TypeEntry}
use package.Rattle.valuegraph.specs.Nodes.{value_at, Made}
use package.Rattle.scopes.specs.Slots.{Machine, machine_of, slots_of, scope_in, Moved}
use package.Rattle.scopes.specs.declared.bindings.Bindings.{Bindings}
use package.Rattle.backward.specs.Outcomes.{ended_in, too_long}
use package.Rattle.backward.specs.Ready.{Enters, EntersNew, PreparedIn, GoneFrom, GoneIn, RunsBack, StepsBack, GoesOn, LeadsTo, StepsTo, run_at, step_at}
use package.Rattle.backward.proofs.Frames.{runs-back}
use package.Rattle.backward.proofs.Arriving.{made-prepared, made-node, made_done, made-long, fuel-gone, height-gone, entered, entered_node, entered_fuel, entered_done}
use Rattle.std.specs.Prelude.{Result, Ok, Err}
use Rattle.std.specs.Result.{IsErrAnd}
use Rattle.std.proofs.lemmas.Result.{err_from_is_err_and}
use package.Rattle.backward.specs.Outcomes.{Out}
use Rattle.backward.specs.declared.outcomes.Next.{Next}
use Rattle.backward.specs.declared.outcomes.Next.TheVariants.{On}
use Rattle.backward.specs.declared.outcomes.Refusal.{Refusal}
use Rattle.backward.specs.declared.outcomes.Refusal.TheVariants.{Fuel, Height}
use mathlib.Core.Bool.{Bool, true, false, true≢false}
use package.Rattle.rules.specs.Val.{Val}

-- what a `?` hands on
pub err_of : {A E : Type 0} (r : Result A E) {why : E} → IsErrAnd r (λ e. e ≡ why) → r ≡ Err why
err_of r h = let e = err_from_is_err_and r h in e.1 ∙ ap Err e.2

----------------------------------------------------------------
-- What a step comes to

abbrev pub Ends : Result Next Refusal → Out → Type 0
Ends n out = n ≡ ended_in out

abbrev pub Continues : Result Next Refusal → ℕ → ℕ → Bindings → Type 0
Continues n t node b = n ≡ Ok (On t node b)

-- what a step comes to is one thing
ended-same : (out out' : Out) → ended_in out ≡ ended_in out' → out' ≡ out
ended-same (Ok b) (Ok c) e = ap Ok (let q : c ≡ b = cc in q)
ended-same (Ok b) (Err w) e = cc
ended-same (Err w) (Ok b) e = cc
ended-same (Err v) (Err w) e = ap Err (let q : w ≡ v = cc in q)

ended-once : (out : Out) {t node : ℕ} {b : Bindings} → ended_in out ≡ Ok (On t node b) → ⊥
ended-once (Ok c) e = cc
ended-once (Err w) e = cc

module _ {k : ℕ} {code heap heap' st st' : List ℕ} {scope room : ℕ} {res : List TypeEntry → Res State} where
  pub leads-over : (out : Out) {n : Result Next Refusal} → Ends n out → length st' ≡ length st → GoneIn k heap heap' st st' scope out res
      → LeadsTo k code heap heap' st st' scope room res n
  leads-over out e ls G = record {
    lengths = ls;
    over = λ out' q. rw (ended-same out out' (sym e ∙ q)) G;
    on = λ t node b q. absurd (ended-once out (sym e ∙ q));
  }

  -- a part of it was stopped
  pub leads-stopped : {out : Out} {why : Refusal} → out ≡ Err why → {n : Result Next Refusal} → n ≡ Err why → length st' ≡ length st
      → GoneIn k heap heap' st st' scope out res → LeadsTo k code heap heap' st st' scope room res n
  leads-stopped {out} {why} e q ls G = leads-over (Err why) q ls (rw e at G)

  pub leads-on : {n : Result Next Refusal} {t node : ℕ} {b : Bindings} → Continues n t node b → length st' ≡ length st
      → GoesOn k code heap heap' st st' scope room res b t node → LeadsTo k code heap heap' st st' scope room res n
  leads-on {n} {t} {node} {b} e ls G = record { lengths = ls; over = λ out q. absurd (ended-once out (sym q ∙ e)); on = λ t' node' b' q. again t' node' b' (sym q ∙ e) }
    where
      again : (t' node' : ℕ) (b' : Bindings) → ◌≡◌ {A = Result Next Refusal} (Ok (On t' node' b')) (Ok (On t node b)) → GoesOn k code heap heap' st st' scope room res b' t' node'
      again t' node' b' q =
          let qt : t' ≡ t = cc in
          let qn : node' ≡ node = cc in
          let qb : b' ≡ b = cc in
          rw (qt, qn, qb) G

-- a node was made, or its value is too long
pub made_only : {A : Type 0} {made : Bool} → made ≡ true → made ≡ false → A
made_only e q = absurd (true≢false (sym e ∙ q))

pub long_only : {A : Type 0} {made : Bool} → made ≡ false → made ≡ true → A
long_only e q = absurd (true≢false (sym q ∙ e))

pub enters : {code heap heap' st st' : List ℕ} {b : Bindings} {scope t room : ℕ} → PreparedIn 1 0 code heap st b scope t room → {made : Bool} {v : Val} {top : ℕ}
    → top ≡ (machine_of st).top → Made heap heap' top v made → {n : Result Next Refusal} → EntersNew made st st' b t room n
    → Enters code heap heap' st st' scope t v room n
enters {code} {heap} {heap'} {st} {st'} {b} {scope} {t} {room} Q {made} {v} {top} qt M {n} E = go (rw qt at M) made refl
  where
    go : Made heap heap' (machine_of st).top v made → (m : Bool) → made ≡ m → Enters code heap heap' st st' scope t v room n
    go M true e = let m = (E.new e).0 in leads-on (E.new e).1 E.lengths (record {
      prepared = record { full = E.lengths ∙ Q.full; prepared = made-prepared Q.prepared refl M e E.slots m };
      there = made-node Q.prepared refl M e E.slots m;
      spends = omega (arith, ap (λ (m : Machine). m.fuel) m);
      becomes = λ D. made_done Q.prepared refl M e E.slots m D;
    })
    go M false e = leads-over (Err (too_long (machine_of st).fuel room t)) (E.long e).1 E.lengths
        (rw (E.slots, (E.long e).0) (made-long Q.prepared refl M e refl refl))

-- a run, after which a step of it comes to something
pub leads-through : {j k : ℕ} {code heap heap₁ heap₂ st st₁ st₂ : List ℕ} {scope room : ℕ} {res res₁ : List TypeEntry → Res State} {n : Result Next Refusal}
    → length st₁ ≡ length st → (machine_of st₁).fuel ≤ (machine_of st).fuel
    → ((heap'' slots'' : List ℕ) (m'' : Machine) (r : Out) → GoneFrom j heap₁ heap'' st₁ slots'' m'' scope r res₁ → GoneFrom k heap heap'' st slots'' m'' scope r res)
    → LeadsTo j code heap₁ heap₂ st₁ st₂ scope room res₁ n → LeadsTo k code heap heap₂ st st₂ scope room res n
leads-through ls le f L = record {
  lengths = L.lengths ∙ ls;
  over = λ out e. f _ _ _ _ (L.over out e);
  on = λ t node b e. let G = L.on t node b e in record { prepared = G.prepared; there = G.there; spends = omega (arith, G.spends, le); becomes = λ D. f _ _ _ _ (G.becomes D) };
}

-- a step without parts
pub leaf-leads : {code heap heap' st st' : List ℕ} {scope t node room : ℕ} {n : Result Next Refusal} (out : Out) → Ends n out
    → StepsBack code heap heap' st st' scope t node room out → StepsTo code heap heap' st st' scope t node room n
leaf-leads out e S = leads-over out e S.lengths S.gone

----------------------------------------------------------------
-- The turns of the loop

-- term `t` was to be run, and what is left of it is the term `t'`
pub record Going (code heap heap' st st' : List ℕ) (scope t node room : ℕ) (b' : Bindings) (t' node' room' : ℕ) : Type 0 where
  pub workspace : length heap' ≡ length heap
  pub lengths : length st' ≡ length st
  pub goes : GoesOn 0 code heap heap' st st' scope room' (run_at code heap (slots_of st) (machine_of st) (scope_in scope) t (value_at heap node) room) b' t' node'

pub going_start : {code heap st : List ℕ} {b : Bindings} {scope t node room : ℕ} → PreparedIn 0 0 code heap st b scope t room → node < (machine_of st).top
    → Going code heap heap st st scope t node room b t node room
going_start Q low = record { workspace = refl; lengths = refl; goes = record { prepared = Q; there = low; spends = omega arith; becomes = λ D. D } }

module _ {code heap heap' st st' : List ℕ} {scope t node room : ℕ} {b' : Bindings} {t' node' room' : ℕ}
    (W : Going code heap heap' st st' scope t node room b' t' node' room') where
  -- there is no fuel left, or no height
  pub going-spent : {b : Bindings} → PreparedIn 0 0 code heap st b scope t room → {out' : Out} {f : ℕ} → f ≡ (machine_of st').fuel → f ≡ 0
      → out' ≡ Err (Fuel t') → RunsBack code heap heap' st st' b scope t node room out'
  going-spent Q qf z e =
      rw e (runs-back Q (W.goes.becomes (fuel-gone W.goes.prepared.prepared W.goes.there (sym qf ∙ z))) W.lengths)

  pub going_high : {b : Bindings} → PreparedIn 0 0 code heap st b scope t room → {out' : Out} {f : ℕ} → f ≡ (machine_of st').fuel → ¬ (f ≡ 0) → room' ≡ 0
      → out' ≡ Err (Height t') → RunsBack code heap heap' st st' b scope t node room out'
  going_high Q qf d z e =
      rw e (runs-back Q (W.goes.becomes (height-gone W.goes.prepared.prepared W.goes.there (λ q. d (qf ∙ q)) z)) W.lengths)

  -- the term is entered, and what it comes to
  module _ {f : ℕ} (qf : f ≡ (machine_of st').fuel) (some-fuel : ¬ (f ≡ 0)) (some-room : ¬ (room' ≡ 0)) {st₁ : List ℕ}
      (S : Moved st' st₁ (record { top = (machine_of st').top; fuel = (machine_of st').fuel - 1 })) where
    pub going_entered : PreparedIn 2 1 code heap' st₁ b' scope t' room'
    going_entered = entered W.goes.prepared W.goes.there qf some-fuel some-room S

    pub going-node : node' < (machine_of st₁).top
    going-node = entered_node W.goes.prepared W.goes.there qf some-fuel some-room S

    pub going_less : (machine_of st₁).fuel + 1 ≤ (machine_of st).fuel
    going_less = omega (arith, entered_fuel W.goes.prepared W.goes.there qf some-fuel some-room S, W.goes.spends)

    module _ {heap₂ st₂ : List ℕ} {n : Result Next Refusal} (E : StepsTo code heap' heap₂ st₁ st₂ scope t' node' room' n) where
      back_to : {heap'' slots'' : List ℕ} {m'' : Machine} {r : Out}
          → GoneFrom 2 heap' heap'' st₁ slots'' m'' scope r (step_at code heap' (slots_of st₁) (machine_of st₁) (scope_in scope) t' (value_at heap' node') room')
          → GoneFrom 0 heap' heap'' st' slots'' m'' scope r (run_at code heap' (slots_of st') (machine_of st') (scope_in scope) t' (value_at heap' node') room')
      back_to G = entered_done W.goes.prepared W.goes.there qf some-fuel some-room S G

      pub going-over : {b : Bindings} → PreparedIn 0 0 code heap st b scope t room → (out : Out) {out' : Out} → n ≡ ended_in out → out' ≡ out
          → RunsBack code heap heap₂ st st₂ b scope t node room out'
      going-over Q out e q = rw q (runs-back Q (W.goes.becomes (back_to (E.over out e))) (E.lengths ∙ S.lengths ∙ W.lengths))

      module _ {t₂ node₂ : ℕ} {b₂ : Bindings} (e : Continues n t₂ node₂ b₂) where
        further : GoesOn 2 code heap' heap₂ st₁ st₂ scope (room' - 1)
            (step_at code heap' (slots_of st₁) (machine_of st₁) (scope_in scope) t' (value_at heap' node') room') b₂ t₂ node₂
        further = E.on t₂ node₂ b₂ e

        pub going_falls : (machine_of st₂).fuel < (machine_of st').fuel
        going_falls = omega (arith, further.spends, entered_fuel W.goes.prepared W.goes.there qf some-fuel some-room S)

        pub going_on : length heap₂ ≡ length heap' → Going code heap heap₂ st st₂ scope t node room b₂ t₂ node₂ (room' - 1)
        going_on l = record {
          workspace = l ∙ W.workspace;
          lengths = E.lengths ∙ S.lengths ∙ W.lengths;
          goes = record {
            prepared = further.prepared;
            there = further.there;
            spends = omega (arith, further.spends, going_less);
            becomes = λ D. W.goes.becomes (back_to (further.becomes D));
          };
        }

----------------------------------------------------------------
-- An outcome, in one number and out of it

pub unpacked_run : {code heap heap' st st' : List ℕ} {b : Bindings} {scope t node room : ℕ} {out out' : Out} → out ≡ out'
    → RunsBack code heap heap' st st' b scope t node room out' → RunsBack code heap heap' st st' b scope t node room out
unpacked_run e R = rw e R
