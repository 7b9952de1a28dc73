-- What calls do: the ancilla arguments in order, then the dynamic one.
use Prim.Native.Nat.{ℕ, suc, ◌+◌, ◌*◌, ◌-◌, ◌≤◌, ◌<◌}
use native.Mathlib.Omega.{arith}
use mathlib.Core.Path.{◌≡◌, refl, sym, ap, ap₂, subst, ◌∙◌}
use mathlib.Core.Bool.{Bool, true, false}
use mathlib.Core.List.{List, [], ◌++◌, map}
use lib.ListN.{length, get_or, length-map}
use lib.Dec.{eqb}
use borrow.Author.Tests.{eq-eqb, ne_eqb}
use package.Rattle.rules.specs.Ty.{Ty, same_ty}
use package.Rattle.rules.specs.Term.{Term, Terms, tcall, count, Fun, used_in}
use package.Rattle.rules.specs.Limits.{max_functions, max_variables, max_nodes}
use package.Rattle.rules.specs.Typing.{Context, bar}
use package.Rattle.rules.specs.Check.{term, Checked, good, ◌>>=◌, ◌>>◌, need, as_fun, waits_all, waits_in, waits_in_all, infer, infer_arguments}
use package.Rattle.rules.proofs.Typing.Waiting.{waits-call}
use package.Rattle.calls.specs.Fields.{length_at, parameters_at}
use package.Rattle.calls.specs.Entries.{type_at, type_of, term_trees, call_ancillae, references, function_of}
use package.Rattle.program.specs.Parts.{first, listed, result_of}
use package.Rattle.program.specs.Signatures.{SignaturesAre}
use package.Rattle.program.proofs.Shapes.{function-result, function-ancillae, function-dynamic}
use package.Rattle.program.specs.Programs.{program_in}
use package.Rattle.program.proofs.Lists.{count-trees, length-references}
use package.Rattle.program.specs.Kinds.{call_kind}
use package.Rattle.types.specs.declared.codes.Code.{Code}
use package.Rattle.types.specs.Codes.{entry_code, tree_in, Known}
use package.Rattle.types.proofs.Trees.{tree-entry}
use package.Rattle.types.proofs.Outer.{entry_known}
use package.Rattle.varsets.specs.declared.Uses.{Uses}
use package.Rattle.varsets.specs.Sets.{Holds, has, nobody}
use package.Rattle.typing.specs.Sizes.{terms_in, terms_in_all}
use package.Rattle.typing.specs.Outcomes.{fault_of, done_of}
use package.Rattle.typing.specs.Ready.{term_in, variable_at, context_in, typing_of, type_in, demanded, terms_from, types_from, Ready, Here, Inferred}
use package.Rattle.typing.specs.Ready.{Calls, Argued}
use package.Rattle.typing.specs.Asked.{ReadyAt, Infers}
use package.Rattle.typing.proofs.Waiting.{added_none, added_then}
use package.Rattle.typing.proofs.Contexts.{context-bar, must_use-barred}
use package.Rattle.typing.proofs.Answers.{ends-refused, inferred, refusing, kept-still, kept_then}
use package.Rattle.typing.proofs.Answers.{kept_more, stopped, need_yes, need-no, answered, refused}
use package.Rattle.typing.proofs.Answers.{around, earlier, says, good-then, bad-then, ready-less, context_later, ready_later}
use package.Rattle.typing.proofs.Trees.{tree-call, read-call, called-there, part-argument, part-dynamic}
use package.Rattle.typing.proofs.Called.{called, called_in, read-function, some_parameters, row-there, row_parameter, result-there, parameter_there}
use package.Rattle.typing.proofs.Called.{dynamic-there, terms-next, terms_none, types-next, types_none, references-all}
use Rattle.typing.specs.declared.outcomes.Scope.{Scope}
use Rattle.typing.specs.declared.outcomes.Found.{Found}
use Rattle.typing.specs.declared.outcomes.Fault.{Fault}
use Rattle.typing.specs.declared.outcomes.Fault.TheVariants.{Differ, Unscoped, Misused}
use Rattle.std.specs.Prelude.{Result, Ok, Err}
use package.Rattle.typing.specs.Outcomes.{Out}

----------------------------------------------------------------
-- Ancilla arguments

ok-err : {w : Fault} → ◌≡◌ {A = Result (Unit {0}) Fault} (Ok tt) (Err w) → ⊥
ok-err p = let z : ◌≡◌ {A = ℕ} 0 1 = cc in omega arith

-- a refusal stands
fault_and : {B : Type 0} {m : Checked (Unit {0})} (w : Fault) (k : Checked B) → m ≡ fault_of w → (m >> k) ≡ fault_of w
unfolding fault_of ◌>>◌
fault_and (Differ t) k e = ap (λ m. m >> k) e
fault_and (Unscoped t) k e = ap (λ m. m >> k) e
fault_and (Misused t) k e = ap (λ m. m >> k) e

good_and : {B : Type 0} {m : Checked (Unit {0})} (k : Checked B) → m ≡ good tt → (m >> k) ≡ k
unfolding ◌>>◌
good_and k e = ap (λ m. m >> k) e

module _ {p types terms functions nodes heap vars : List ℕ} {sc : Scope} {top t at g k count : ℕ}
    (rd : Ready (terms_in_all (terms_from p types terms at k count)) p types terms functions nodes heap vars sc top)
    (C : Calls p terms functions t at g k count) where
  -- the called function's field
  abbrev h : ℕ
  h = get_or functions g 0

  abbrev Δ : Context
  Δ = context_in p types heap vars sc

  abbrev args : Terms → List Ty → Checked (Unit {0})
  args ts cs = infer_arguments max_variables max_nodes (program_in p types terms functions) t Δ ts cs

  pub args_end : k ≡ count → Argued p types terms functions heap heap vars vars sc top top t at h k count (Ok tt)
  unfolding infer_arguments done_of waits_all
  args_end e = record {
    kept = kept-still _ sc.n vars rd.scoped.sources;
    answer = sym (ap₂ args (terms_none p types at k count terms e) (types_none p types h k count e));
    waits = λ q. added_none vars ∙ sym (ap (waits_in_all Δ) (terms_none p types at k count terms e));
  }

  module _ (args-left : k < count) where
    pub args_read : at + 8 + 2 * k ≤ length p
    args_read = omega (arith, (read-call rd.entries C.here).0, C.ancillae, args-left)

    -- the parameter's place in the table of signatures, and what stands there
    pub args_row : (g < max_functions) × (k < 8)
    args_row = (
      row-there rd.entries C.called refl,
      omega (arith, args-left, C.parameters, (some_parameters rd.entries C.called refl).1),
    )

    pub args_parameter : {table : List (List ℕ)} → SignaturesAre p functions table → get_or (get_or table g []) k 0 ≡ listed p h k
    args_parameter S = row_parameter rd.entries C.called refl S k (omega (arith, args-left, C.parameters))

    size-args : {a : ℕ} → a ≡ listed p at k → terms_in (term_in p types terms a) + terms_in_all (terms_from p types terms at (k + 1) count) ≡ terms_in_all
        (terms_from p types terms at k count)
    unfolding terms_in_all
    size-args q = ap (λ a. terms_in (term_in p types terms a) + terms_in_all (terms_from p types terms at (k + 1) count)) q
        ∙ sym (ap terms_in_all (terms-next p types at k count terms args-left))

    module _ {a : ℕ} (q : a ≡ listed p at k) where
      abbrev A : Term
      A = term_in p types terms a

      pub args-ready : Ready (terms_in A) p types terms functions nodes heap vars sc top
      args-ready = ready-less rd _ (omega (arith, size-args q))

      pub args-part : (a < t) × (a < length terms)
      args-part = rw q (part-argument rd.entries C.here (omega (arith, args-left, C.ancillae)))

      rule-args : args (terms_from p types terms at k count) (types_from p types h k count) ≡ (type_in p types terms functions heap vars sc a >>= λ d.
          need (same_ty d (type_of (map (type_at p) types) (listed p h k))) 6 (term t)
          >> args (terms_from p types terms at (k + 1) count) (types_from p types h (k + 1) count))
      unfolding infer_arguments
      rule-args =
          ap₂ args (terms-next p types at k count terms args-left) (types-next p types h k count args-left)
          ∙ ap (λ a. type_in p types terms functions heap vars sc a >>= λ d.
          need (same_ty d (type_of (map (type_at p) types) (listed p h k))) 6 (term t)
          >> args (terms_from p types terms at (k + 1) count) (types_from p types h (k + 1) count)) (sym q)

      waits-args : waits_in_all Δ (terms_from p types terms at k count) ≡ (waits_in Δ A ++ waits_in_all Δ (terms_from p types terms at (k + 1) count))
      unfolding waits_all
      waits-args = ap (waits_in_all Δ) (terms-next p types at k count terms args-left)
          ∙ ap (λ a. waits_in Δ (term_in p types terms a) ++ waits_in_all Δ (terms_from p types terms at (k + 1) count)) (sym q)

      module _ {heap₁ vars₁ : List ℕ} {o : Out} (d : Infers p types terms functions heap heap₁ vars vars₁ sc top a o) where
        pub args-refused : {w : Fault} → o.status ≡ Err w → Argued p types terms functions heap heap₁ vars vars₁ sc top o.top t at h k count (Err w)
        unfolding done_of
        args-refused {w} x = record {
          kept = kept_more _ d.kept (omega (arith, size-args q));
          answer = sym (rule-args ∙ bad-then w _ (refused d x));
          waits = λ z. absurd (ok-err (sym z));
        }

        pub args_later : Ready (terms_in_all (terms_from p types terms at (k + 1) count)) p types terms functions nodes heap₁ vars₁ sc o.top
        args_later = ready_later rd d.kept _ (omega (arith, size-args q))

        pub args-next : Calls p terms functions t at g (k + 1) count
        args-next = record {
          here = C.here;
          ancillae = C.ancillae;
          next = omega (arith, args-left);
          callee = C.callee;
          called = C.called;
          parameters = C.parameters;
        }

        module _ {f : Found} (x : o.status ≡ Ok f) {j : ℕ} (z : j ≡ listed p h k) {want : Code} (w : want ≡ entry_code j) where
          pub args_want : Known (length types) o.top want
          args_want = subst (Known (length types) o.top) (sym w)
              (entry_known j (let l : listed p h k < length types =
              parameter_there rd.entries C.called refl k (omega (arith, args-left, C.parameters)) in omega arith))

          module _ {b : Bool} (y : b ≡ same_ty (tree_in p types heap₁ f.code) (tree_in p types heap₁ want)) where
            same_want : b ≡ same_ty (tree_in p types heap₁ f.code) (type_of (map (type_at p) types) (listed p h k))
            same_want = y ∙ ap (same_ty (tree_in p types heap₁ f.code))
                (ap (tree_in p types heap₁) w ∙ tree-entry (map (type_at p) types) heap₁ (entry_code j) refl ∙ ap (type_of (map (type_at p) types)) z)

            pub args_differ : b ≡ false → Argued p types terms functions heap heap₁ vars vars₁ sc top o.top t at h k count (Err (Differ t))
            unfolding done_of fault_of
            args_differ n = record {
              kept = kept_more _ d.kept (omega (arith, size-args q));
              answer = sym (rule-args ∙ good-then _ (answered d x) ∙ need-no _ _ _ _ (sym same_want ∙ n));
              waits = λ z. absurd (ok-err (sym z));
            }

            pub args_done : b ≡ true → {heap₂ vars₂ : List ℕ} {top' : ℕ} {r : Result (Unit {0}) Fault}
                → Argued p types terms functions heap₁ heap₂ vars₁ vars₂ sc o.top top' t at h (k + 1) count r
                → Argued p types terms functions heap heap₂ vars vars₂ sc top top' t at h k count r
            args_done n G = record {
              kept = kept_then _ d.kept G.kept (omega arith) (omega (arith, size-args q));
              answer = G.answer
                  ∙ ap (λ Δ. infer_arguments max_variables max_nodes (program_in p types terms functions) t Δ (terms_from p types terms at (k + 1) count)
                  (types_from p types h (k + 1) count)) (context_later rd d.kept)
                  ∙ sym (rule-args ∙ good-then _ (answered d x) ∙ need_yes _ _ _ _ (sym same_want ∙ n));
              waits = λ y. added_then d.kept.waited G.kept.waited (d.waits f x) (G.waits y)
                  ∙ ap (λ Δ₁. waits_in Δ A ++ waits_in_all Δ₁ (terms_from p types terms at (k + 1) count)) (context_later rd d.kept) ∙ sym waits-args;
            }

----------------------------------------------------------------
-- The call

-- the scope of ancilla arguments
abbrev pub barred_scope : Scope → Uses → Scope
barred_scope sc u = record { q = sc.q; lo = sc.n; n = sc.n; owed = u; marks = sc.marks }

-- what call `t` has: function `g`, whose field is at `h`, `n` ancilla terms, and a function of `own` ancilla parameters
pub record CallParts (p types terms functions nodes heap vars : List ℕ) (sc : Scope) (top t at g h n own : ℕ) : Type 0 where
  pub ready : Ready (terms_in (term_in p types terms t)) p types terms functions nodes heap vars sc top
  pub here : Here p terms t at call_kind
  pub callee : g ≡ first p at
  pub field : h ≡ get_or functions g 0
  pub ancillae : n ≡ call_ancillae (length_at p at)
  pub parameters : own ≡ parameters_at p h - 1

module _ {p types terms functions : List ℕ} {table : List (List ℕ)} {nodes heap vars : List ℕ} {sc : Scope} {top t at : ℕ}
    (asked : ReadyAt p types terms functions table nodes heap vars sc top t at call_kind) where
  pub call-function : {f g : ℕ} → g ≡ f → f ≡ first p at → g < length functions
  call-function q q' = rw (q, q') (called-there asked.ready.entries asked.here)

  pub call-parts : {f g h n m : ℕ} → g ≡ f → f ≡ first p at → h ≡ get_or functions g 0 → n ≡ call_ancillae (length_at p at) → m ≡ parameters_at p h
      → CallParts p types terms functions nodes heap vars sc top t at g h n (m - 1)
  call-parts q q' qh qn qm = record {
    ready = asked.ready;
    here = asked.here;
    callee = q ∙ q';
    field = qh;
    ancillae = qn;
    parameters = ap (λ m. m - 1) qm;
  }

module _ {p types terms functions nodes heap vars : List ℕ} {sc : Scope} {top t at g h n own : ℕ}
    (C : CallParts p types terms functions nodes heap vars sc top t at g h n own) where
  abbrev rd : Ready (terms_in (term_in p types terms t)) p types terms functions nodes heap vars sc top
  rd = C.ready

  abbrev H : Here p terms t at call_kind
  H = C.here

  abbrev qg : g ≡ first p at
  qg = C.callee

  abbrev qh : h ≡ get_or functions g 0
  qh = C.field

  abbrev qn : n ≡ call_ancillae (length_at p at)
  qn = C.ancillae

  abbrev qo : own ≡ parameters_at p h - 1
  qo = C.parameters

  there : g < length functions
  there = rw qg (called-there rd.entries H)

  abbrev goal : Checked Ty
  goal = type_in p types terms functions heap vars sc t

  abbrev Γ : Context
  Γ = context_in p types heap vars sc

  abbrev T : Term
  T = term_in p types terms t

  abbrev ys : ℕ → Ty
  ys = type_of (map (type_at p) types)

  call-entry : h ≡ get_or functions (first p at) 0
  call-entry = qh ∙ ap (λ g. get_or functions g 0) qg

  module _ {e : ℕ} (qe : e ≡ listed p at n) where
    abbrev E : Term
    E = term_in p types terms e

    call-tree : T ≡ tcall t (first p at) (terms_from p types terms at 0 n) E
    call-tree = tree-call rd.entries H
        ∙ ap₂ (tcall t (first p at)) (ap (term_trees (term_in p types terms)) (ap (references p (at + 6)) (sym qn) ∙ sym (references-all p at n)))
        (ap (term_in p types terms) (ap (listed p at) (sym qn) ∙ sym qe))

    size-call : suc (terms_in_all (terms_from p types terms at 0 n) + terms_in E) ≡ terms_in T
    unfolding terms_in
    size-call = sym (ap terms_in call-tree)

    -- the rule, over the function's types
    shape : List Ty → Ty → Ty → Checked Ty
    shape cs c τ = need (eqb (count (terms_from p types terms at 0 n)) (length cs)) 6 (term t)
        >> (infer_arguments max_variables max_nodes (program_in p types terms functions) t (bar Γ) (terms_from p types terms at 0 n) cs
        >> demanded (type_in p types terms functions heap vars sc e) c τ t)

    abbrev F : Fun
    F = called rd.entries (called-there rd.entries H) call-entry

    ancillae_are : F.ancillae ≡ types_from p types h 0 own
    unfolding function_of
    ancillae_are = ap (map ys) (function-ancillae p h ∙ ap (references p (h + 6)) (sym qo) ∙ sym (references-all p h own))

    dynamic_is : F.dynamic ≡ ys (listed p h own)
    unfolding function_of
    dynamic_is = ap ys (function-dynamic p h (some_parameters rd.entries (called-there rd.entries H) call-entry).0 ∙ ap (listed p h) (sym qo))

    result_is : F.result ≡ ys (result_of p h)
    unfolding function_of
    result_is = ap ys (function-result p h)

    rule-shape : goal ≡ shape (types_from p types h 0 own) (ys (listed p h own)) (ys (result_of p h))
    unfolding infer as_fun shape
    rule-shape =
        ap (typing_of p types terms functions Γ) call-tree
        ∙ ap (λ o. as_fun (term t) o (λ f. shape f.ancillae f.dynamic f.result)) (called_in rd.entries (called-there rd.entries H) call-entry)
        ∙ ap (λ cs. shape cs F.dynamic F.result) ancillae_are ∙ ap₂ (shape (types_from p types h 0 own)) dynamic_is result_is

    counted : count (terms_from p types terms at 0 n) ≡ n
    counted = count-trees (term_in p types terms) p (at + 6 + 2 * 0) (n - 0) ∙ (let z : n - 0 ≡ n = omega arith in z)

    as_many : length (types_from p types h 0 own) ≡ own
    as_many = length-map (references p (h + 6 + 2 * 0) (own - 0)) ys ∙ length-references p (h + 6 + 2 * 0) (own - 0)
        ∙ (let z : own - 0 ≡ own = omega arith in z)

    rule_call : goal ≡ (need (eqb n own) 6 (term t) >> (infer_arguments max_variables max_nodes (program_in p types terms functions) t (bar Γ)
        (terms_from p types terms at 0 n) (types_from p types h 0 own)
        >> demanded (type_in p types terms functions heap vars sc e) (ys (listed p h own)) (ys (result_of p h)) t))
    unfolding shape
    rule_call = rule-shape ∙ ap₂ (λ i j. need (eqb i j) 6 (term t)
        >> (infer_arguments max_variables max_nodes (program_in p types terms functions) t (bar Γ) (terms_from p types terms at 0 n) (types_from p
        types h 0 own)
        >> demanded (type_in p types terms functions heap vars sc e) (ys (listed p h own)) (ys (result_of p h)) t)) counted as_many

  pub call_differ : {r : Out} → ¬ (n ≡ own) → r.status ≡ Err (Differ t) → r.top ≡ top
      → Infers p types terms functions heap heap vars vars sc top t r
  unfolding fault_of
  call_differ x s z = stopped _ sc.n vars rd.scoped.sources s z (rule_call refl ∙ need-no _ _ _ _ (ne_eqb n own x))

  module _ (same : n ≡ own) where
    pub call-calls : Calls p terms functions t at g 0 n
    call-calls = record {
      here = H;
      ancillae = qn;
      next = omega arith;
      callee = qg;
      called = there;
      parameters = omega (arith, (some_parameters rd.entries (there) qh).0, ap (parameters_at p) qh);
    }

    pub call-few : n ≤ 7
    call-few = omega (arith, (some_parameters rd.entries (called-there rd.entries H) call-entry).1)

    -- the places of the dynamic argument, and of the result's type
    pub call-read : (at + 8 + 2 * n ≤ length p) × (h + 5 ≤ length p)
    call-read = (
      omega (arith, (read-call rd.entries H).0, qn),
      omega (arith, read-function rd.entries (there) qh),
    )

    -- the dynamic parameter's place in the table of signatures, and what stands there
    pub call-row : (g < max_functions) × (n < 8)
    call-row = (row-there rd.entries (there) qh, omega (arith, call-few))

    pub call_parameter : {table : List (List ℕ)} → SignaturesAre p functions table → get_or (get_or table g []) n 0 ≡ listed p h n
    call_parameter S =
        row_parameter rd.entries (there) qh S n (omega (arith, qo, same, (some_parameters rd.entries (there) qh).0))

    module _ {u : Uses} (nobody-owed : Holds u nobody) where
      barred-context : context_in p types heap vars (barred_scope sc u) ≡ bar Γ
      barred-context = sym (context-bar (λ i. tree_in p types heap (variable_at vars i)) sc.q sc.lo (has sc.marks) sc.n rd.scoped.low)

      pub call-barred : Ready (terms_in_all (terms_from p types terms at 0 n)) p types terms functions nodes heap vars (barred_scope sc u) top
      call-barred = record {
        entries = rd.entries;
        scoped = record {
          sources = rd.scoped.sources;
          slots = rd.scoped.slots;
          static = rd.scoped.static;
          low = omega arith;
          few = rd.scoped.few;
          known = rd.scoped.known;
          owed = record {
            each = λ i l. nobody-owed.each i l ∙ sym (must_use-barred (λ i. tree_in p types heap (variable_at vars i)) sc.q (has sc.marks) sc.n i);
          };
          unmarked = rd.scoped.unmarked;
        };
        room = rd.room;
        small = omega (arith, rd.small, size-call refl);
        waiting = omega (arith, rd.waiting, size-call refl);
      }

      module _ {heap₁ vars₁ : List ℕ} {top₁ : ℕ} {o : Result (Unit {0}) Fault}
          (A : Argued p types terms functions heap heap₁ vars vars₁ (barred_scope sc u) top top₁ t at (get_or functions g 0) 0 n o) where
        G : Argued p types terms functions heap heap₁ vars vars₁ (barred_scope sc u) top top₁ t at h 0 n o
        G = subst (λ h. Argued p types terms functions heap heap₁ vars vars₁ (barred_scope sc u) top top₁ t at h 0 n o) (sym qh) A

        argued : infer_arguments max_variables max_nodes (program_in p types terms functions) t (bar Γ) (terms_from p types terms at 0 n)
            (types_from p types h 0 own) ≡ done_of o
        argued = sym (G.answer
            ∙ ap₂ (λ Δ m. infer_arguments max_variables max_nodes (program_in p types terms functions) t Δ (terms_from p types terms at 0 n)
            (types_from p types h 0 m)) barred-context same)

        pub call-refused : {w : Fault} → o ≡ Err w
            → Infers p types terms functions heap heap₁ vars vars₁ sc top t (record { status = Err w; top = top₁ })
        unfolding done_of
        call-refused {w} x = inferred (kept_more _ G.kept (omega (arith, size-call refl)))
            (ends-refused refl (rule_call refl ∙ need_yes _ _ _ _ (eq-eqb n own same) ∙ fault_and w _ (argued ∙ ap done_of x))) (refusing refl)

        module _ (x : o ≡ Ok tt) {e : ℕ} (qe : e ≡ listed p at n) where
          pub call-ready : Ready (terms_in (term_in p types terms e)) p types terms functions nodes heap₁ vars₁ sc top₁
          call-ready = ready_later rd G.kept _ (omega (arith, size-call qe))

          pub call-part : (e < t) × (e < length terms)
          call-part = rw (qe ∙ ap (listed p at) qn) (part-dynamic rd.entries H)

          module _ {i j : ℕ} (qi : i ≡ listed p h n) (qj : j ≡ result_of p h) {want answer : Code} (w : want ≡ entry_code i) (w' : answer ≡ entry_code j) where
            pub call_want : Known (length types) top₁ want × Known (length types) top₁ answer
            call_want = (
              subst (Known (length types) top₁) (sym w)
                  (entry_known i (rw (qi ∙ ap (listed p h) (same ∙ qo)) (dynamic-there rd.entries (called-there rd.entries H) call-entry))),
              subst (Known (length types) top₁) (sym w') (entry_known j (rw qj (result-there rd.entries (called-there rd.entries H) call-entry))),
            )

            entry-tree : {c : Code} {i m : ℕ} → c ≡ entry_code i → i ≡ m → tree_in p types heap₁ c ≡ ys m
            entry-tree {i = i} z y = ap (tree_in p types heap₁) z ∙ tree-entry (map (type_at p) types) heap₁ (entry_code i) refl ∙ ap ys y

            pub call_done : {heap₂ vars₂ : List ℕ} {out : Out}
                → Inferred (terms_in (term_in p types terms e)) (term_in p types terms e) (waits_in (context_in p types heap₁ vars₁ sc) (term_in p
                types terms e))
                p types heap₁ heap₂ sc.n vars₁ vars₂ top₁ out
                (demanded (type_in p types terms functions heap₁ vars₁ sc e) (tree_in p types heap₁ want) (tree_in p types heap₁ answer) t)
                → Infers p types terms functions heap heap₂ vars vars₂ sc top t out
            unfolding done_of
            call_done d = says (earlier (around (says d
                (ap₂ (λ Δ (cs : Ty × Ty). demanded (typing_of p types terms functions Δ (term_in p types terms e)) cs.0 cs.1 t)
                (context_later rd G.kept)
                (ap₂ (λ c τ. (c, τ)) (entry-tree w (qi ∙ ap (listed p h) same)) (entry-tree w' qj)))
                (ap (λ Δ. waits_in Δ (term_in p types terms e)) (context_later rd G.kept)))
                (terms_in (term_in p types terms e)) {T = T} (λ i. ap (used_in i) (call-tree qe)) refl (omega arith)
                (rule_call qe ∙ need_yes _ _ _ _ (eq-eqb n own same) ∙ good_and _ (argued ∙ ap done_of x))) _ G.kept
                (G.waits x ∙ ap (λ Δ. waits_in_all Δ (terms_from p types terms at 0 n)) barred-context) (omega arith) (omega (arith, size-call qe)))
                refl (sym (ap (waits_in Γ) (call-tree qe) ∙ waits-call Γ t (first p at) (terms_from p types terms at 0 n) (term_in p types terms e)))
