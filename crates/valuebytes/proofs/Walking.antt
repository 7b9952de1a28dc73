-- A walk over a value's bytes with a stack of pending types: what holds between two bytes, and what is known where the walk ends.
use Prim.Native.Nat.{ℕ, suc, ◌+◌, ◌-◌, ◌^◌, ◌≤◌, ◌<◌}
use native.Mathlib.Decide.{dec_lt}
use native.Mathlib.Omega.{arith}
use native.Mathlib.Nat.{le_refl}
use native.Mathlib.Numerals.{add-one}
use mathlib.Core.Path.{◌≡◌, refl, sym, ap, subst, ◌∙◌}
use mathlib.Core.Bool.{Bool, true, false, cond, ◌&&◌}
use mathlib.Core.Option.{Option, none, some}
use mathlib.Core.List.{List, [], ◌∷◌}
use lib.ListN.{length, get_or, drop, drop_of_length-le}
use lib.Seq.{drop-cons}
use lib.Dec.{leb}
use borrow.Author.Tests.{le-leb, lt-leb}
use package.Rattle.rules.specs.Limits.{max_value_bytes, fits}
use package.Rattle.rules.specs.Val.{size}
use package.Rattle.rules.specs.Ty.{Ty}
use package.Rattle.rules.proofs.Basics.{none≢some}
use package.Rattle.calls.specs.Values.{Read, got, malformed, has_ty}
use Rattle.std.specs.Prelude.{min, Option as Found, Some, None}
use package.Rattle.valuebytes.specs.Ends.{first_of}
use package.Rattle.valuebytes.specs.Scopes.{type_under}
use package.Rattle.valuebytes.specs.Typing.{entries_of, next_if, next_of}
use package.Rattle.valuebytes.specs.Stack.{behind, pending_types, Stack, Advanced}
use package.Rattle.valuebytes.proofs.Pending.{more, more-more, more_some}
use package.Rattle.valuebytes.proofs.Turns.{bytes_for, bytes_none, bytes_on, bytes-off, typed_behind, bytes-typed}

----------------------------------------------------------------
-- The answer, by the number of bytes

unfoldable next_by : ℕ → Option ℕ → Found ℕ
next_by at none = None
next_by at (some m) = next_if (leb m max_value_bytes) (at + m)

next-zero : (b : Bool) (n : ℕ) → next_if (b && false) n ≡ None
next-zero true n = refl
next-zero false n = refl

and_true : (b : Bool) → (b && true) ≡ b
and_true true = refl
and_true false = refl

next_by_lem : (at : ℕ) (r : Read) (c : Ty) → next_of at r c ≡ next_by at (typed_behind r c [])
unfolding next_of next_by typed_behind fits more
next_by_lem at malformed c = refl
next_by_lem at (got v xs) c = go (has_ty v c)
  where
    go : (b : Bool) → next_if (leb (size v) max_value_bytes && b) (at + size v) ≡ next_by at (cond b (more (size v) (bytes_for xs [])) none)
    go true =
        ap (λ b. next_if b (at + size v)) (and_true (leb (size v) max_value_bytes))
        ∙ ap (λ m. next_by at (some m)) (let z : size v ≡ size v + 0 = omega arith in z) ∙ ap (λ o. next_by at (more (size v) o)) (sym (bytes_none xs))
    go false = next-zero (leb (size v) max_value_bytes) (at + size v)

next_is : (at : ℕ) (xs : List ℕ) (c : Ty) → next_of at (first_of xs) c ≡ next_by at (bytes_for xs (c ∷ []))
next_is at xs c = next_by_lem at (first_of xs) c ∙ ap (next_by at) (sym (bytes-typed (length xs) xs c [] (le_refl _)))

----------------------------------------------------------------
-- Bytes that are read

-- `d` bytes of the value of type `c` are read, and values of the types `cs` are still to come in the bytes `ys` behind them
abbrev Read-so : List ℕ → Ty → ℕ → List ℕ → List Ty → Type 0
Read-so xs c d ys cs = more d (bytes_for ys cs) ≡ bytes_for xs (c ∷ [])

bytes_some : (xs : List ℕ) (c : Ty) (cs : List Ty) {m : ℕ} → bytes_for xs (c ∷ cs) ≡ some m → 0 < m
unfolding bytes_for
bytes_some [] c cs e = absurd (none≢some e)
bytes_some (x ∷ xs) c cs {m} e = go (behind x (c ∷ cs)) refl
  where
    go : (o : Option (List Ty)) → behind x (c ∷ cs) ≡ o → 0 < m
    go none q = absurd (none≢some (sym (bytes-off x xs c cs q) ∙ e))
    go (some ds) q = more_some 1 (bytes_for xs ds) (sym (bytes_on x xs c cs q) ∙ e)

module _ (xs : List ℕ) (c : Ty) (at d : ℕ) (ys : List ℕ) (cs : List Ty) (s : Read-so xs c d ys cs) where
  ends : next_of at (first_of xs) c ≡ next_by at (more d (bytes_for ys cs))
  ends = next_is at xs c ∙ ap (next_by at) (sym s)

  stops : bytes_for ys cs ≡ none → None ≡ next_of at (first_of xs) c
  unfolding next_by more
  stops e = sym (ends ∙ ap (λ x. next_by at (more d x)) e)

  done : cs ≡ [] → d ≤ max_value_bytes → (i : ℕ) → at + d ≡ i → Some i ≡ next_of at (first_of xs) c
  unfolding next_by more
  done e h i p =
      sym (ends ∙ ap (λ cs. next_by at (more d (bytes_for ys cs))) e ∙ ap (λ x. next_by at (more d x)) (bytes_none ys)
      ∙ ap (λ b. next_if b (at + (d + 0))) (le-leb (d + 0) max_value_bytes (omega arith)) ∙ ap Some (let n : at + (d + 0) ≡ i = omega arith in n))

-- the value is longer than the limit
long : (xs : List ℕ) (c : Ty) (at d : ℕ) (ys : List ℕ) (e : Ty) (es : List Ty) → Read-so xs c d ys (e ∷ es) → max_value_bytes ≤ d → None ≡ next_of at (first_of xs) c
unfolding next_by more
long xs c at d ys e es s h = go (bytes_for ys (e ∷ es)) refl
  where
    go : (o : Option ℕ) → bytes_for ys (e ∷ es) ≡ o → None ≡ next_of at (first_of xs) c
    go none q = stops xs c at d ys (e ∷ es) s q
    go (some m) q =
        sym (ends xs c at d ys (e ∷ es) s ∙ ap (λ x. next_by at (more d x)) q
        ∙ ap (λ b. next_if b (at + (d + m))) (lt-leb (d + m) max_value_bytes (omega (arith, bytes_some ys e es q))))

----------------------------------------------------------------
-- The walk at place `i` of the bytes `l`, for a value of type `c` that starts at `at`

pub record Walking (xs os binders outer entries cells l : List ℕ) (at i top n : ℕ) (c : Ty) : Type 0 where
  pub stack : Stack xs os binders outer entries cells top n
  pub from : at ≤ i
  pub near : i - at ≤ max_value_bytes
  pub few_cells : top ≤ i - at
  pub few_pending : n ≤ suc (i - at)
  pub says : Read-so (drop at l) c (i - at) (drop i l) (pending_types (entries_of xs os) binders outer entries cells n)

pub walking_start : {xs os binders outer entries cells : List ℕ} (l : List ℕ) (at : ℕ) → Stack xs os binders outer entries cells 0 1
    → Walking xs os binders outer entries cells l at at 0 1 (type_under (entries_of xs os) binders outer (get_or cells 0 0) (get_or entries 0 0))
unfolding pending_types max_value_bytes more
walking_start l at S = record {
  stack = S;
  from = le_refl at;
  near = omega arith;
  few_cells = omega arith;
  few_pending = omega arith;
  says = none_read (bytes_for (drop at l) _);
}
  where
    none_read : (o : Option ℕ) → more (at - at) o ≡ o
    none_read none = refl
    none_read (some m) = ap some (let z : at - at + m ≡ m = omega arith in z)

module _ {xs os binders outer entries cells l : List ℕ} {at i top n : ℕ} {c : Ty} (W : Walking xs os binders outer entries cells l at i top n c) where
  -- no type is pending
  pub walking_done : n ≤ 0 → Some i ≡ next_of at (first_of (drop at l)) c
  unfolding pending_types
  walking_done h = done (drop at l) c at (i - at) (drop i l) _ W.says (ap (pending_types (entries_of xs os) binders outer entries cells) (let z : n ≡ 0 = omega arith in z))
      W.near i (omega (arith, W.from))

  -- one is pending
  module _ (pos : 0 < n) where
    abbrev pending : List Ty
    pending = pending_types (entries_of xs os) binders outer entries cells (suc (n - 1))

    says⁺ : Read-so (drop at l) c (i - at) (drop i l) pending
    says⁺ = subst (λ n. Read-so (drop at l) c (i - at) (drop i l) (pending_types (entries_of xs os) binders outer entries cells n)) (let z : n ≡ suc (n - 1) = omega arith in z) W.says

    -- the bytes run out
    walking_short : length l ≤ i → None ≡ next_of at (first_of (drop at l)) c
    unfolding pending_types bytes_for
    walking_short h = stops (drop at l) c at (i - at) (drop i l) pending says⁺ (ap (λ ys. bytes_for ys pending) (drop_of_length-le l h))

    walking_long : max_value_bytes ≤ i - at → None ≡ next_of at (first_of (drop at l)) c
    unfolding pending_types
    walking_long h = long (drop at l) c at (i - at) (drop i l) _ _ says⁺ h

    -- the bytes that may be read end
    pub walking_stopped : min (length l) (min (at + max_value_bytes) (2 ^ 64 - 1)) ≤ i → length l < 2 ^ 64 → None ≡ next_of at (first_of (drop at l)) c
    walking_stopped h fits = go (dec_lt i (length l))
      where
        go : Dec (i < length l) → None ≡ next_of at (first_of (drop at l)) c
        go (yes p) = walking_long (omega (arith, W.from))
        go (no p) = walking_short (omega arith)

    -- a byte that begins no value of the type
    pub walking_off : i < length l → behind (get_or l i 0) (pending_types (entries_of xs os) binders outer entries cells (suc (n - 1))) ≡ none
        → None ≡ next_of at (first_of (drop at l)) c
    unfolding pending_types
    walking_off h e = stops (drop at l) c at (i - at) (drop i l) pending says⁺
        (ap (λ ys. bytes_for ys pending) (drop-cons l i 0 h) ∙ bytes-off (get_or l i 0) (drop (suc i) l) _ _ e)

    pub walking_on : {binders' outer' entries' cells' : List ℕ} {top' n' : ℕ} → i < length l → i - at < max_value_bytes
        → Advanced xs os binders outer entries cells binders' outer' entries' cells' top (n - 1) (get_or l i 0) top' n'
        → Walking xs os binders' outer' entries' cells' l at (i + 1) top' n' c
    unfolding pending_types
    walking_on {n' = n'} h near A = record {
      stack = A.stack;
      from = omega (arith, W.from);
      near = omega (arith, W.from);
      few_cells = omega (arith, W.from, W.few_cells, A.few_cells);
      few_pending = omega (arith, W.from, W.few_pending, A.few_pending);
      says = rw (add-one i)
          (sym (more-more (i - at) 1 (suc i - at) (bytes_for (drop (suc i) l) _) (omega (arith, W.from)))
          ∙ ap (more (i - at)) (sym (bytes_on (get_or l i 0) (drop (suc i) l) _ _ A.says) ∙ ap (λ ys. bytes_for ys pending) (sym (drop-cons l i 0 h)))
          ∙ says⁺);
    }
