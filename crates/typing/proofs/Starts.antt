-- The scope of a function's parameters: bound one after another, the ancillae first, they are the context that the rules type its body in.
use Prim.Native.Nat.{ℕ, zero, suc, ◌+◌, ◌-◌, ◌<◌, ◌≤◌}
use native.Mathlib.Omega.{arith}
use native.Mathlib.Decide.{dec_lt}
use mathlib.Core.Path.{◌≡◌, refl, sym, ap, ap₂, ◌∙◌, subst}
use mathlib.Core.Bool.{false}
use mathlib.Core.Option.{some}
use mathlib.Core.List.{List, [], ◌∷◌, ◌++◌, map}
use lib.ListN.{length, get_or, take, length-map, get_or-map}
use lib.Seq.{take-suc, take_all}
use package.Rattle.rules.specs.Ty.{Ty}
use package.Rattle.rules.specs.Term.{look}
use package.Rattle.rules.specs.Typing.{Binding, static, dynamic, barred, Context, Vars}
use package.Rattle.rules.specs.Check.{must_use, statics}
use package.Rattle.rules.proofs.Basics.{some_inj}
use package.Rattle.rules.proofs.Scope.{look_newest, look_skip}
use package.Rattle.rules.specs.Limits.{max_variables}
use package.Rattle.calls.specs.Entries.{TypeEntry, type_at, type_of, function_at}
use package.Rattle.calls.specs.Fields.{parameters_at}
use package.Rattle.types.specs.declared.codes.Code.{Code}
use package.Rattle.types.specs.Codes.{entry_code, tree_in, Sources}
use package.Rattle.varsets.specs.declared.Uses.{Uses}
use package.Rattle.varsets.specs.Sets.{Holds, has, nobody}
use package.Rattle.typing.specs.declared.outcomes.Scope.{Scope}
use package.Rattle.typing.specs.Contexts.{standing, context_at, must_use_at, Owed}
use package.Rattle.typing.specs.Ready.{variable_at, context_in, Scoped, Widened}
use package.Rattle.typing.specs.Waiting.{scope_bytes, count_in}
use package.Rattle.typing.specs.Checked.{Signed, Bound, Started}
use package.Rattle.typing.proofs.Contexts.{stands-static, stands_by, length-context, look_context, look_outside}
use package.Rattle.typing.proofs.Parameters.{row-ancilla, row-dynamic}
use package.Rattle.typing.proofs.Ending.{entry-tree}
use package.Rattle.program.proofs.Lists.{ancillae-count}

----------------------------------------------------------------
-- Ancilla parameters

-- the last of the ancillae is the newest
statics-last : (cs : List Ty) (c : Ty) (Δ : Context) → statics (cs ++ (c ∷ [])) Δ ≡ static c ∷ statics cs Δ
unfolding statics
statics-last [] c Δ = refl
statics-last (x ∷ cs) c Δ = statics-last cs c (static x ∷ Δ)

statics_are : (T : ℕ → Ty) (q : ℕ) (M : Vars) (cs : List Ty) (d : Ty) (n : ℕ) → n ≤ q → n ≤ length cs → ((i : ℕ) → i < n → T i ≡ get_or cs i d)
    → context_at T q 0 M n ≡ statics (take n cs) []
unfolding context_at statics
statics_are T q M cs d zero l h s = refl
statics_are T q M cs d (suc n) l h s =
    ap₂ ◌∷◌ (stands-static q 0 M n (T n) (omega arith) ∙ ap static (s n (omega arith)))
    (statics_are T q M cs d n (omega arith) (omega arith) (λ i x. s i (omega arith)))
    ∙ sym (ap (λ cs. statics cs []) (take-suc cs n d (omega arith)) ∙ statics-last (take n cs) (get_or cs n d) [])

-- ancillae need not be used
none_owed : (T : ℕ → Ty) (n : ℕ) (M : Vars) (u : Uses) → Holds u nobody → Owed u (context_at T n 0 M n)
unfolding must_use_at must_use
none_owed T n M u h = record { each = λ i l. h.each i l ∙ sym (go i (dec_lt i n)) }
  where
    go : (i : ℕ) → Dec (i < n) → must_use_at (context_at T n 0 M n) i ≡ false
    go i (yes l) = rw (look_context T n 0 M n i l, stands-static n 0 M i (T i) l, must_use_at)
    go i (no l) = rw (look_outside T n 0 M n i (omega arith), must_use_at)

----------------------------------------------------------------
-- What a context says of the types of its variables

bound : Binding → Ty
bound (static c) = c
bound (dynamic m c) = c
bound (barred m c) = c

bound-standing : (q lo : ℕ) (M : Vars) (i : ℕ) (τ : Ty) → bound (standing q lo M i τ) ≡ τ
unfolding bound
bound-standing q lo M i τ = stands_by q lo M i τ (λ x. bound x ≡ τ) (λ x. refl) (λ x y. refl) (λ x y. refl)

-- the type of variable `i`
abbrev type_at_var : List ℕ → List ℕ → List ℕ → List ℕ → ℕ → Ty
type_at_var xs types heap vars i = tree_in xs types heap (variable_at vars i)

-- a variable of the code's type is bound
module _ {xs types heap vars vars' : List ℕ} {sc r : Scope} {top : ℕ} {c : Code} (O : Widened xs types heap vars vars' sc top c r) where
  seen : (i : ℕ) → i < r.n → some (standing r.q r.lo (has r.marks) i (type_at_var xs types heap vars' i)) ≡ look
      (dynamic false (tree_in xs types heap c) ∷ context_in xs types heap vars sc) i
  seen i l = sym (look_context (type_at_var xs types heap vars') r.q r.lo (has r.marks) r.n i l) ∙ ap (λ Δ. look Δ i) O.context

  size : length (context_in xs types heap vars sc) ≡ sc.n
  size = length-context (type_at_var xs types heap vars) sc.q sc.lo (has sc.marks) sc.n

  -- the types of the others are as they were
  older : (i : ℕ) → i < sc.n → type_at_var xs types heap vars' i ≡ type_at_var xs types heap vars i
  older i l =
      sym (bound-standing r.q r.lo (has r.marks) i (type_at_var xs types heap vars' i))
      ∙ ap bound (some_inj (seen i (omega (arith, O.one_more))
      ∙ look_skip (context_in xs types heap vars sc) (dynamic false (tree_in xs types heap c)) i (omega (arith, size))
      ∙ look_context (type_at_var xs types heap vars) sc.q sc.lo (has sc.marks) sc.n i l))
      ∙ bound-standing sc.q sc.lo (has sc.marks) i (type_at_var xs types heap vars i)

  newest : type_at_var xs types heap vars' sc.n ≡ tree_in xs types heap c
  unfolding bound
  newest =
      sym (bound-standing r.q r.lo (has r.marks) sc.n (type_at_var xs types heap vars' sc.n))
      ∙ ap bound (some_inj (seen sc.n (omega (arith, O.one_more))
      ∙ ap (look (dynamic false (tree_in xs types heap c) ∷ context_in xs types heap vars sc)) (sym size)
      ∙ look_newest (dynamic false (tree_in xs types heap c)) (context_in xs types heap vars sc)))

----------------------------------------------------------------
-- Parameters bound in order

pub none_bound : {xs types heap vars row : List ℕ} → scope_bytes ≤ length vars → count_in vars ≡ 0 → Bound xs types heap vars row 0
none_bound l z = record { slots = l; known = λ i h. absurd (omega arith); tree = λ i h. absurd (omega arith); none_wait = z }

-- the scope of ancillae alone, of which there are as many as `n` says
pub ancillae-scoped : {xs types heap vars row : List ℕ} {n : ℕ} {u : Uses} → Sources xs types heap 0 → Bound xs types heap vars row n
    → n ≤ max_variables → Holds u nobody
    → Scoped xs types heap vars (record { q = n; lo = 0; n = n; owed = u; marks = u }) 0
ancillae-scoped {n = n} {u = u} S B l h = record {
  sources = S;
  slots = B.slots;
  static = omega arith;
  low = omega arith;
  few = l;
  known = B.known;
  owed = none_owed _ n (has u) u h;
  unmarked = λ i a b. h.each i b;
}

-- one parameter more
pub one-bound : {xs types heap vars vars' row : List ℕ} {n i : ℕ} {u : Uses} {c : Code} {sc r : Scope}
    → sc ≡ record { q = n; lo = 0; n = n; owed = u; marks = u } → Widened xs types heap vars vars' sc 0 c r → i ≡ n → c ≡ entry_code (get_or row i 0)
    → Bound xs types heap vars row n → Bound xs types heap vars' row (n + 1)
one-bound {xs} {types} {heap} {vars} {vars'} {row} {n} {i} {u} {c} {sc} {r} z W s e B = record {
  slots = omega (arith, B.slots, O.lengths);
  known = λ j l. O.scoped.known j (omega (arith, O.one_more));
  tree = λ j l. go j l (dec_lt j n);
  none_wait = omega (arith, B.none_wait, O.waited.few);
}
  where
    O : Widened xs types heap vars vars' (record { q = n; lo = 0; n = n; owed = u; marks = u }) 0 c r
    O = subst (λ sc. Widened xs types heap vars vars' sc 0 c r) z W

    go : (j : ℕ) → j < n + 1 → Dec (j < n) → type_at_var xs types heap vars' j ≡ type_of (map (type_at xs) types) (get_or row j 0)
    go j l (yes h) = older O j h ∙ B.tree j h
    go j l (no h) = let k : j ≡ n = omega arith in
        ap (type_at_var xs types heap vars') k ∙ newest O ∙ entry-tree xs types heap e ∙ ap (λ j. type_of (map (type_at xs) types) (get_or row j 0)) (s ∙ sym k)

-- the scope of all parameters
pub all-bound : {xs types heap vars vars' row : List ℕ} {at n i : ℕ} {u : Uses} {c : Code} {r : Scope} → Signed xs types at row
    → Bound xs types heap vars row n → n ≡ parameters_at xs at - 1 → i ≡ n → c ≡ entry_code (get_or row i 0)
    → {sc : Scope} → sc ≡ record { q = n; lo = 0; n = n; owed = u; marks = u } → Widened xs types heap vars vars' sc 0 c r
    → Started xs types heap vars' at r
all-bound {xs} {types} {heap} {vars} {vars'} {row} {at} {n} {i} {u} {c} {r} S B m s e {sc} z W = record {
  scoped = O.scoped;
  none_wait = omega (arith, B.none_wait, O.waited.few);
  context = O.context ∙ ap₂ (λ c Δ. dynamic false c ∷ Δ) last firsts;
}
  where
    O : Widened xs types heap vars vars' (record { q = n; lo = 0; n = n; owed = u; marks = u }) 0 c r
    O = subst (λ sc. Widened xs types heap vars vars' sc 0 c r) z W

    ys : List TypeEntry
    ys = map (type_at xs) types

    last : tree_in xs types heap c ≡ type_of ys (function_at xs at).dynamic
    last = entry-tree xs types heap e ∙ ap (type_of ys) (ap (λ i. get_or row i 0) (s ∙ m) ∙ row-dynamic S.formed S.signature)

    firsts : context_at (type_at_var xs types heap vars) n 0 (has u) n ≡ statics (map (type_of ys) (function_at xs at).ancillae) []
    firsts =
        let k : length cs ≡ n = length-map (function_at xs at).ancillae (type_of ys) ∙ ancillae-count xs at ∙ sym m in
        statics_are (type_at_var xs types heap vars) n (has u) cs (type_of ys 0) n (omega arith) (omega arith) ancilla
        ∙ ap (λ cs. statics cs []) (take_all n cs (omega arith))
      where
        cs : List Ty
        cs = map (type_of ys) (function_at xs at).ancillae

        ancilla : (j : ℕ) → j < n → type_at_var xs types heap vars j ≡ get_or cs j (type_of ys 0)
        ancilla j l = B.tree j l ∙ ap (type_of ys) (row-ancilla S.formed S.signature j (omega arith))
            ∙ sym (get_or-map (type_of ys) (function_at xs at).ancillae j 0)
