-- A forward run of a call that was admitted: the outcome of evaluation is the rules' run of the function, which does not stick.
use Prim.Native.Nat.{ℕ, ◌+◌, ◌<◌}
use native.Mathlib.Omega.{arith}
use mathlib.Core.Path.{◌≡◌, sym, ap, ap₂, subst, ◌∙◌}
use mathlib.Core.List.{List, [], ◌∷◌, map}
use lib.ListN.{length, get_or}
use package.Rattle.rules.specs.Limits.{fits, max_height}
use package.Rattle.rules.specs.Machine.{run_forward}
use package.Rattle.calls.specs.Entries.{type_at}
use package.Rattle.calls.specs.Values.{value, ancillae}
use package.Rattle.calls.proofs.Runs.Calls.{onward}
use package.Rattle.program.specs.Programs.{program_in, function_in}
use package.Rattle.decoded.specs.Rows.{body_in}
use package.Rattle.decoded.specs.Decoding.{Decodes}
use package.Rattle.valuegraph.specs.Nodes.{value_at}
use package.Rattle.scopes.specs.Slots.{slot_count, state_count, Machine, machine_of, slots_of, scope_in, Moved}
use package.Rattle.yields.specs.Yields.{Ancillae}
use package.Rattle.forward.specs.Outcomes.{Out, status_of, out_of, meaning}
use package.Rattle.forward.specs.Ready.{Ready, RanForward, run_of, values_at, ReadyIn, Evaluates}
use package.Rattle.forward.proofs.Starting.{argument_scope, run-of-function, start-ready}
use package.Rattle.forward.proofs.Lending.{slots-full, called-ready, called-ran}
use package.Rattle.valuebytes.specs.Ends.{value_in, values_in}
use package.Rattle.admission.specs.Given.{given_in}
use package.Rattle.runs.specs.declared.begin.Start.{Start}
use package.Rattle.runs.specs.Begun.{Begun, BegunIn}
use package.Rattle.runs.specs.Ahead.{Runnable, Evaluated, Goes}
use package.Rattle.rules.specs.Val.{Val}
use package.Rattle.rules.specs.Run.{Res, ok}
use package.Rattle.calls.specs.Runs.{ran, goes}
use package.Rattle.valuegraph.proofs.Heaps.{heap_down}
use package.Rattle.forward.specs.declared.outcomes.Refusal.{Refusal}
use Rattle.std.specs.Prelude.{Result, Ok, Err}
use package.Rattle.forward.proofs.Runs.{meaning-value, meaning-refused}
use package.Rattle.backward.specs.declared.outcomes.Refusal.{Refusal as Carried}
use package.Rattle.backward.specs.Outcomes.{refusal_of, carried}
use package.Rattle.backward.proofs.Runs.{carried-means}
use package.Rattle.runs.specs.Ended.{Shaped, Means, Gives}
use package.Rattle.runs.proofs.Starts.{admits, rows, in_rows, few-arguments, nodes_room, nodes-small, nodes-answer, same-program, same-function, shaped_of}
use package.Rattle.runs.specs.Ended.{RunAnswer}

----------------------------------------------------------------
-- Evaluation

module _ {xs terms functions heap : List ℕ} {g : ℕ} {anc bytes : List ℕ} {fuel : ℕ} (R : Runnable xs terms functions heap g anc bytes fuel) {code : List ℕ}
    (D : Decodes code xs terms functions) {heap' slots slots' : List ℕ} {start : Start} (B : Begun heap heap' slots slots' anc bytes start) {f : ℕ} (e : f ≡ fuel) (l : f < 65536)
    {b : ℕ} (q : b ≡ body_in code g) where
  abbrev st : Machine
  st = record { top = start.top; fuel = f }

  body-ready : length slots' ≡ slot_count → Ready 0 0 code heap' slots' st (argument_scope 0 start.count) b max_height
  body-ready full =
      start-ready {st = st} {g = g} (rows R D) (in_rows R D) q B.graph B.held (omega (arith, nodes_room R D B)) (omega (arith, nodes-answer R D B (omega arith)))
      (omega (arith, few-arguments R D B)) full

  module _ {heap'' slots'' : List ℕ} {m : ℕ} {out : Out}
      (d : RanForward 0 heap' heap'' m slots' slots'' st out (run_of code heap' slots' st (argument_scope 0 start.count) b max_height)) where
    abbrev count : ℕ
    count = start.count

    held : Ancillae slots' 0 count start.top
    held = record {
      there = omega (arith, few-arguments R D B);
      known = λ i h. subst (λ i. get_or slots' i 0 < start.top) (let z : i ≡ 0 + i = omega arith in z) (B.held i (omega arith));
    }

    last_is : value_at heap' (get_or slots' (0 + count) 0) ≡ value_in bytes
    last_is = ap (λ i. value_at heap' (get_or slots' i 0)) (let z : 0 + count ≡ count = omega arith in z) ∙ B.last

    answers : (types : List ℕ) → meaning heap'' out
        ≡ run_forward fits (program_in xs types terms functions) max_height (function_in xs types terms (get_or functions g 0)) (values_in anc) (value_in bytes) fuel
    answers types =
        d.answer (map (type_at xs) types)
        ∙ sym (run-of-function code heap' slots' st 0 count held (subst (λ i. get_or slots' i 0 < start.top) (let z : count ≡ 0 + count = omega arith in z) (B.held count (omega arith)))
        (omega (arith, nodes-small R D B (omega arith))) g b q max_height (map (type_at xs) types))
        ∙ ap₂ (λ P h. run_forward fits P max_height h (values_at heap' slots' 0 count) (value_at heap' (get_or slots' (0 + count) 0)) f)
        (same-program R D types) (same-function R D types)
        ∙ ap₂ (λ vs v. run_forward fits (program_in xs types terms functions) max_height (function_in xs types terms (get_or functions g 0)) vs v f)
        B.values last_is
        ∙ ap (run_forward fits (program_in xs types terms functions) max_height (function_in xs types terms (get_or functions g 0))
        (values_in anc) (value_in bytes)) e

    evaluated : Evaluated xs terms functions heap heap'' g anc bytes fuel out
    evaluated = record {
      graph = d.graph;
      node = d.node;
      spends = omega (arith, d.spends);
      answer = answers;
      shaped = λ s. onward.safe (program_in xs R.types terms functions) g (ancillae anc) (value bytes) (given_in xs R.types terms functions g anc bytes) fuel
          R.loaded.typed (admits R) (sym (answers R.types) ∙ s);
    }

-- the machine that is left, as two numbers
left_over : {xs terms functions heap heap' : List ℕ} {g : ℕ} {anc bytes : List ℕ} {fuel : ℕ} (r : ℕ) (st : List ℕ) {t f : ℕ} → Evaluated xs terms functions heap heap' g anc bytes fuel (out_of r st)
    → t ≡ (machine_of st).top → f ≡ (machine_of st).fuel → Evaluated xs terms functions heap heap' g anc bytes fuel (out_of r (t ∷ f ∷ []))
left_over {xs} {terms} {functions} {heap} {heap'} {g} {anc} {bytes} {fuel} r st E et ef =
    subst (Evaluated xs terms functions heap heap' g anc bytes fuel) (ap₂ (λ t f. record { status = status_of r; state = record { top = t; fuel = f } }) (sym et) (sym ef)) E

----------------------------------------------------------------
-- In code

module _ {xs terms functions heap : List ℕ} {g : ℕ} {anc bytes : List ℕ} {fuel : ℕ} (R : Runnable xs terms functions heap g anc bytes fuel) {code : List ℕ}
    (D : Decodes code xs terms functions) {heap' st₀ st st₁ : List ℕ} {start : Start} (B : BegunIn heap heap' st₀ st anc bytes start) {f : ℕ} (e : f ≡ fuel) (l : f < 65536)
    (M : Moved st st₁ (record { top = start.top; fuel = f })) (full : length st₀ ≡ state_count) {b : ℕ} (q : b ≡ body_in code g) (scope : ℕ) (s : scope_in scope ≡ argument_scope 0 start.count) where
  abbrev machine : Machine
  machine = record { top = start.top; fuel = f }

  numbers : length st₁ ≡ state_count
  numbers = M.lengths ∙ B.lengths ∙ full

  pub eval_ready : ReadyIn 0 0 code heap' st₁ scope b max_height
  eval_ready = called-ready scope numbers s
      (subst (λ m. Ready 0 0 code heap' (slots_of st₁) m (argument_scope 0 start.count) b max_height) (sym M.machine)
      (subst (λ slots. Ready 0 0 code heap' slots machine (argument_scope 0 start.count) b max_height) (sym M.slots)
      (body-ready R D B.begun e l q (slots-full st (B.lengths ∙ full)))))

  eval_done : {heap'' st₂ : List ℕ} {r : ℕ} → Evaluates code heap' heap'' st₁ st₂ scope b max_height r
      → Evaluated xs terms functions heap heap'' g anc bytes fuel (out_of r st₂)
  eval_done {heap''} {st₂} {r} d =
      evaluated R D B.begun e l q
      (subst (λ slots. RanForward 0 heap' heap'' (0 + (start.count + 1)) slots (slots_of st₂) machine (out_of r st₂)
      (run_of code heap' slots machine (argument_scope 0 start.count) b max_height)) M.slots
      (subst (λ m. RanForward 0 heap' heap'' (0 + (start.count + 1)) (slots_of st₁) (slots_of st₂) m (out_of r st₂)
      (run_of code heap' (slots_of st₁) m (argument_scope 0 start.count) b max_height)) M.machine
      (called-ran scope s d)))

  pub eval_told : {heap'' st₂ : List ℕ} {r t' f' : ℕ} → Evaluates code heap' heap'' st₁ st₂ scope b max_height r
      → t' ≡ (machine_of st₂).top → f' ≡ (machine_of st₂).fuel
      → Evaluated xs terms functions heap heap'' g anc bytes fuel (out_of r (t' ∷ f' ∷ []))
  eval_told {st₂ = st₂} {r} d et ef = left_over r st₂ (eval_done d) et ef

-- what the answer says
pub told : {xs terms functions heap heap' : List ℕ} {g : ℕ} {anc bytes : List ℕ} {fuel : ℕ} {st : Machine} {s s' : Result ℕ Refusal} → s ≡ s'
    → Evaluated xs terms functions heap heap' g anc bytes fuel (record { status = s'; state = st })
    → Evaluated xs terms functions heap heap' g anc bytes fuel (record { status = s; state = st })
told e E = rw e E

----------------------------------------------------------------
-- The answer

module _ {xs terms functions heap heap' : List ℕ} {g : ℕ} {anc bytes : List ℕ} {fuel : ℕ} {r : Out} (E : Evaluated xs terms functions heap heap' g anc bytes fuel r) where
  pub gives : {n : ℕ} → r.status ≡ Ok n → Gives heap' n fuel r.state.fuel
  gives {n} e = record { right = heap_down (n + 1) (omega (arith, E.node n e)) E.graph.right; less = E.spends }

  means-refused : {w : Refusal} {why : Carried} → r.status ≡ Err w → why ≡ carried w → meaning heap' r ≡ refusal_of why
  means-refused {w} e c = meaning-refused heap' r e ∙ carried-means w ∙ ap refusal_of (sym c)

  pub shaped : {w : Refusal} {why : Carried} → r.status ≡ Err w → why ≡ carried w → Shaped why
  shaped {why = why} e c = shaped_of why λ s. E.shaped (means-refused e c ∙ s)

  module _ {a : RunAnswer} {out out' : List ℕ} where
    goes_as : {x : Res Val} → meaning heap' r ≡ x → Means a out out' (ran fuel x) → Goes a xs terms functions g anc bytes fuel out out'
    unfolding goes
    goes_as e m = record { means = λ types. subst (λ x. Means a out out' (ran fuel x)) (sym e ∙ E.answer types) m }

    pub goes-value : {n : ℕ} → r.status ≡ Ok n → Means a out out' (ran fuel (ok (value_at heap' n) r.state.fuel)) → Goes a xs terms functions g anc bytes fuel out out'
    goes-value e m = goes_as (meaning-value heap' r e) m

    pub goes-refused : {w : Refusal} {why : Carried} → r.status ≡ Err w → why ≡ carried w → Means a out out' (ran fuel (refusal_of why))
        → Goes a xs terms functions g anc bytes fuel out out'
    goes-refused e c m = goes_as (means-refused e c) m
