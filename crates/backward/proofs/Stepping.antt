-- The kinds that bind nothing, in code: inl, inr and roll, pair, unroll.
use Prim.Native.Nat.{ℕ, ◌-◌, ◌<◌}
use native.Mathlib.Omega.{arith}
use mathlib.Core.List.{List}
use mathlib.Core.Path.{◌≡◌, refl, sym, ap, ◌∙◌}
use package.Rattle.rules.specs.Limits.{max_parameters}
use package.Rattle.program.specs.Kinds.{pair_kind, unroll_kind}
use package.Rattle.decoded.specs.Rows.{first_in, kind_in, second_in}
use package.Rattle.valuegraph.specs.Nodes.{left_at, of_kind, right_at, value_at, kind_at as nodeKind}
use package.Rattle.scopes.specs.Slots.{Machine, Scope}
use package.Rattle.scopes.specs.declared.bindings.Bindings.{Bindings}
use package.Rattle.yields.specs.Yields.{Wraps}
use package.Rattle.backward.specs.Ready.{Gone, Prepared, run_at, step_at}
use package.Rattle.backward.specs.Outcomes.{Refused, mismatch}
use package.Rattle.backward.proofs.Frames.{beside, gone-refused, gone-stopped, gone-then, onward}
use package.Rattle.backward.proofs.Stops.{is_done, is_stopped}
use package.Rattle.backward.proofs.Steps.{pair_done, pair-first, pair-nodes, pair-refused, pair-second, pair_stuck, unroll_done, unroll_ready, unwrap_differs, unwrap_done, unwrap_node}
use package.Rattle.backward.proofs.Steps.{unwrap_ready}
use Rattle.std.specs.Prelude.{Ok, Err}
use package.Rattle.backward.specs.Outcomes.{Out}
use Rattle.backward.specs.declared.outcomes.Refusal.{Refusal}
use Rattle.backward.specs.declared.outcomes.Refusal.TheVariants.{Stuck}
use package.Rattle.valuegraph.specs.Nodes.{kind_number, kind_named}
use package.Rattle.valuegraph.specs.declared.kinds.Kind.{Kind}
use package.Rattle.valuegraph.proofs.Numbered.{kind_read}
use package.Rattle.backward.specs.Ready.{PreparedIn}
use package.Rattle.scopes.specs.Slots.{machine_of}

-- the kind of the value's node, as the code has read it
pub node_kind : {k h : ℕ} {code heap st : List ℕ} {b : Bindings} {scope t room : ℕ} → PreparedIn k h code heap st b scope t room → {node : ℕ} → node < (machine_of st).top
    → {x : Kind} → x ≡ kind_named (nodeKind heap node) → kind_number x ≡ nodeKind heap node
node_kind Q low e = kind_read Q.prepared.ready.machine.graph.right low e

module _ {code heap slots : List ℕ} {m : Machine} {b : Bindings} {sc : Scope} {t room : ℕ}
    (P : Prepared 2 1 code heap slots m b sc sc.n t room) {node : ℕ} (low : node < m.top) where
  abbrev Stepped : List ℕ → List ℕ → Machine → Out → Type 0
  Stepped heap' slots' m' r = Gone 2 heap heap' slots slots' m m' sc r (step_at code heap slots m sc t (value_at heap node) room)

  ----------------------------------------------------------------
  -- One part: inl, inr, roll

  module _ {kind : ℕ} (w : Wraps (kind_in code t) kind) {found : ℕ} (f : found ≡ nodeKind heap node) where
    module _ (same : found ≡ kind) {x : ℕ} (qx : x ≡ left_at heap node) where
      pub wrapped-node : x < m.top
      wrapped-node = unwrap_node P.ready low w (sym f ∙ same) qx

      module _ {u : ℕ} (qu : u ≡ second_in code t) where
        pub wrapped-prepared : Prepared 0 0 code heap slots m b sc sc.n u (room - 1)
        unfolding max_parameters
        wrapped-prepared = beside P (unwrap_ready P.ready low w (sym f ∙ same) qx qu) (omega (arith, P.ready.tall))

        pub wrapped-gone : {heap₁ slots₁ : List ℕ} {m₁ : Machine} {r : Out}
            → Gone 0 heap heap₁ slots slots₁ m m₁ sc r (run_at code heap slots m sc u (value_at heap x) (room - 1)) → Stepped heap₁ slots₁ m₁ r
        wrapped-gone G = gone-then (λ j l. refl) G (unwrap_done P.ready low w (sym f ∙ same) qx qu G.ran)

    pub wrapped-differs : ¬ (found ≡ kind) → {why : Refusal} → why ≡ mismatch kind found t → Stepped heap slots m (Err why)
    wrapped-differs n e = gone-refused refl (unwrap_differs P.ready low w f n refl _ (ap Refused e) refl)

  ----------------------------------------------------------------
  -- Pair

  module _ (kind : kind_in code t ≡ pair_kind) {found : ℕ} (f : found ≡ nodeKind heap node) where
    pub paired-stuck : ¬ (found ≡ 3) → Stepped heap slots m (Err Stuck)
    paired-stuck n = gone-refused refl (pair_stuck P.ready low kind f n _ refl refl)

    module _ (same : found ≡ 3) {x y : ℕ} (qx : x ≡ left_at heap node) (qy : y ≡ right_at heap node) where
      pub paired-nodes : (x < m.top) × (y < m.top)
      paired-nodes = pair-nodes P.ready low kind (sym f ∙ same) qx qy

      module _ {u u' : ℕ} (qu : u ≡ first_in code t) (qu' : u' ≡ second_in code t) where
        pub paired-first : Prepared 0 0 code heap slots m b sc sc.n u (room - 1)
        unfolding max_parameters
        paired-first = beside P (pair-first P.ready low kind (sym f ∙ same) qx qy qu qu') (omega (arith, P.ready.tall))

        module _ {heap₁ slots₁ : List ℕ} {m₁ : Machine} {r : Out}
            (G : Gone 0 heap heap₁ slots slots₁ m m₁ sc r (run_at code heap slots m sc u (value_at heap x) (room - 1))) where
          pub paired-stopped : {why : Refusal} → r ≡ Err why → Stepped heap₁ slots₁ m₁ r
          paired-stopped d = gone-stopped G d (pair-refused P.ready low kind (sym f ∙ same) qx qy qu qu' G.ran (is_stopped d))

          module _ {bs : Bindings} (e : r ≡ Ok bs) where
            pub paired-second : Prepared 0 0 code heap₁ slots₁ m₁ bs sc sc.n u' (room - 1)
            unfolding max_parameters
            paired-second =
                onward P G.ran.moves G.below (G.tells _ e) (pair-second P.ready low kind (sym f ∙ same) qx qy qu qu' G.ran (is_done e))
                (omega (arith, P.ready.tall))

            pub paired-node : y < m₁.top
            paired-node = omega (arith, paired-nodes.1, G.ran.moves.grows)

            pub paired-gone : {heap₂ slots₂ : List ℕ} {m₂ : Machine} {r₂ : Out}
                → Gone 0 heap₁ heap₂ slots₁ slots₂ m₁ m₂ sc r₂ (run_at code heap₁ slots₁ m₁ sc u' (value_at heap₁ y) (room - 1))
                → Stepped heap₂ slots₂ m₂ r₂
            paired-gone E = gone-then G.below E (pair_done P.ready low kind (sym f ∙ same) qx qy qu qu' G.ran (is_done e) E.ran)

  ----------------------------------------------------------------
  -- Unroll

  module _ (kind : kind_in code t ≡ unroll_kind) {u : ℕ} (qu : u ≡ second_in code t) where
    pub unrolled_prepared : Prepared 1 0 code heap slots m b sc sc.n u (room - 1)
    unfolding max_parameters
    unrolled_prepared = beside P (unroll_ready P.ready low kind qu) (omega (arith, P.ready.tall))

    pub unrolled_gone : {heap₁ slots₁ : List ℕ} {m₁ : Machine} {r : Out}
        → Gone 1 heap heap₁ slots slots₁ m m₁ sc r (run_at code heap slots m sc u (of_kind 4 (value_at heap node) (value_at heap node)) (room - 1))
        → Stepped heap₁ slots₁ m₁ r
    unrolled_gone G = gone-then (λ j l. refl) G (unroll_done P.ready low kind qu G.ran)
