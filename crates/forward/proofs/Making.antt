-- Laws of the nodes that evaluation makes: the graph stays one of short values, and an answer says whether the value was within the limit.
use Prim.Native.Nat.{ℕ, ◌+◌, ◌≤◌, ◌<◌}
use native.Mathlib.Omega.{arith}
use mathlib.Core.Path.{◌≡◌, refl, sym, ap, ◌∙◌}
use mathlib.Core.Bool.{Bool, true, false}
use mathlib.Core.List.{List}
use package.Rattle.rules.specs.Limits.{fits}
use package.Rattle.rules.specs.Val.{Val}
use package.Rattle.rules.specs.Run.{give, test}
use package.Rattle.valuegraph.specs.Nodes.{Agree, Heap, Grown, Made}
use package.Rattle.valuegraph.proofs.Heaps.{value-kept}
use package.Rattle.valuegraph.proofs.Places.{agree_refl}
use package.Rattle.forward.specs.Outcomes.{Out, stopped, status_of, refusal_of, finished}
use package.Rattle.forward.specs.Ready.{Graph, Makes}
use package.Rattle.forward.proofs.Answers.{is_value_lem}
use package.Rattle.forward.proofs.Runs.{meaning-value, meaning-refused}
use Rattle.forward.specs.declared.outcomes.Refusal.TheVariants.{Long}
use package.Rattle.scopes.specs.Slots.{Machine}
use Rattle.forward.specs.declared.outcomes.Refusal.{Refusal}
use Rattle.std.specs.Prelude.{Result, Err}

-- more nodes
pub graph_later : {heap heap' : List ℕ} {top top' : ℕ} → Graph heap top → Agree top heap heap' → Heap heap' top' → top ≤ top' → Graph heap' top'
graph_later {heap} {heap'} {top} G agree right le = record {
  right = right;
  short = λ n l. (right.node n l).fit;
  some = omega (arith, G.some);
  unit_there = sym (value-kept heap heap' top G.right agree 0 G.some) ∙ G.unit_there;
}

-- one more
pub graph-grown : {heap heap' : List ℕ} {top : ℕ} {v : Val} → Graph heap top → Grown heap heap' top v → Graph heap' (top + 1)
graph-grown G g = graph_later G g.agree g.right (omega arith)

pub test_true : (b : Bool) (n t : ℕ) (v : Val) (fuel : ℕ) → b ≡ true → test b n t (give v) fuel ≡ give v fuel
unfolding test
test_true b n t v fuel e = rw e

test_false : (b : Bool) (n t : ℕ) (v : Val) (fuel : ℕ) → b ≡ false → test b 14 t (give v) fuel ≡ refusal_of (Long t)
unfolding test refusal_of
test_false b n t v fuel e = rw e

-- a new node of a value within the limit
makes-new : {heap heap' : List ℕ} {st : Machine} {v : Val} (t : ℕ) → Graph heap st.top → Grown heap heap' st.top v → fits v ≡ true
    → Makes heap heap' st (finished true st t) t v
unfolding finished
makes-new {heap} {heap'} {st} {v} t G g f = record {
  agree = g.agree;
  graph = graph-grown G g;
  grows = omega arith;
  spends = refl;
  one = omega arith;
  node = λ n s. let z : st.top ≡ n = cc in omega arith;
  answer = meaning-value heap' (finished true st t) refl ∙ ap (λ w. give w st.fuel) g.value ∙ sym (test_true (fits v) 14 t v st.fuel f);
}

makes-old : {heap : List ℕ} {st : Machine} {v : Val} (t : ℕ) → Graph heap st.top → fits v ≡ false → Makes heap heap st (finished false st t) t v
unfolding finished
makes-old {heap} {st} {v} t G f = record {
  agree = agree_refl st.top heap;
  graph = G;
  grows = omega arith;
  spends = refl;
  one = omega arith;
  node = λ n s. let z : ◌≡◌ {A = ℕ} 0 1 = cc in absurd (omega arith);
  answer = meaning-refused heap (finished false st t) refl ∙ sym (test_false (fits v) 14 t v st.fuel f);
}

-- what the value graph answers, finished
pub makes : {heap heap' : List ℕ} {st : Machine} {v : Val} (t : ℕ) (b : Bool) → Graph heap st.top → Made heap heap' st.top v b
    → Makes heap heap' st (finished b st t) t v
makes t true G d = makes-new t G (d.new refl) (sym d.answer)
makes {heap} {heap'} {st} {v} t false G d = rw (d.old refl) (makes-old t G (sym d.answer))

-- a number that finishes so
module _ (st : Machine) {made : Bool} (t : ℕ) where
  pub finish_new : made ≡ true → st.top < stopped → record { status = status_of st.top; state = record { top = st.top + 1; fuel = st.fuel } } ≡ finished
      made st t
  unfolding finished
  finish_new e l = rw (finished, e, is_value_lem l)

  pub finish_old : made ≡ false → {s : Result ℕ Refusal} → s ≡ Err (Long t) → record { status = s; state = st } ≡ finished made st t
  unfolding finished
  finish_old e q = rw (finished, e, q)

-- the same of an answer that is finished so
module _ {heap heap' : List ℕ} {st : Machine} {v : Val} {t : ℕ} {out : Out} where
  pub makes_as : {b : Bool} → out ≡ finished b st t → Graph heap st.top → Made heap heap' st.top v b → Makes heap heap' st out t v
  makes_as {b} e G d = rw e (makes t b G d)

  pub makes-new_as : out ≡ finished true st t → Graph heap st.top → Grown heap heap' st.top v → fits v ≡ true → Makes heap heap' st out t v
  makes-new_as e G g f = rw e (makes-new t G g f)
