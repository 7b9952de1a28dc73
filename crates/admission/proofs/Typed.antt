-- Values of their types (11): ancillae one after another, then the value.
use Prim.Native.Nat.{ℕ, suc, ◌+◌, ◌≤◌, ◌<◌}
use native.Mathlib.Omega.{arith}
use mathlib.Core.Path.{◌≡◌, refl, sym, ap, ap₂, subst, ◌∙◌}
use mathlib.Core.Bool.{Bool, true, false, ◌&&◌}
use mathlib.Core.List.{List, map}
use lib.ListN.{length, get_or, take, drop, length-map, drop_of_length-le, get_or-map}
use lib.Seq.{drop-cons}
use Rattle.std.proofs.lemmas.List.{get_or-take}
use package.Rattle.rules.specs.Val.{Val, unit, size}
use package.Rattle.rules.specs.Ty.{Ty}
use package.Rattle.calls.specs.Entries.{TypeEntry, type_of, function_at}
use package.Rattle.calls.specs.Values.{value, has_ty, has_tys}
use package.Rattle.program.specs.Signatures.{SignatureIs}
use Rattle.std.specs.Prelude.{Option as Found, Some, None}
use package.Rattle.valuebytes.specs.Ends.{first_of, value_in, values_in}
use package.Rattle.valuebytes.specs.Typing.{entries_of, Asked, value_has, next_if, next_of}
use package.Rattle.valuebytes.proofs.Walks.{Begins, walk_start, walk_first, walk_fits, walk_next}
use package.Rattle.admission.specs.Admitting.{Callable, AsMany, side_number, all_typed, right_in}
use package.Rattle.admission.proofs.Parameters.{row_type, row-asked}
use package.Rattle.admission.proofs.Right.{right-values}

----------------------------------------------------------------
-- One step

next≢other : {n : ℕ} → Some n ≡ None → ⊥
next≢other e = let z : ◌≡◌ {A = ℕ} 0 1 = cc in omega arith

next_inj : {n m : ℕ} → Some n ≡ Some m → n ≡ m
next_inj e = cc

goes_on : (b : Bool) (e n : ℕ) → Some e ≡ next_if b n → (b ≡ true) × (e ≡ n)
goes_on true e n p = (refl, next_inj p)
goes_on false e n p = absurd (next≢other p)

goes-off : (b : Bool) (n : ℕ) → None ≡ next_if b n → b ≡ false
goes-off true n p = absurd (next≢other (sym p))
goes-off false n p = refl

----------------------------------------------------------------
-- Ancillae, one after another

-- `k` ancillae were of their types, and the next begins at `at`
pub record Walked (xs : List ℕ) (vs : List Val) (cs : List Ty) (k at : ℕ) : Type 0 where
  pub begins : Begins xs vs k at
  pub same : has_tys vs cs ≡ has_tys (drop k vs) (drop k cs)
  pub number : length vs ≡ length cs

pub walked_start : {xs anc : List ℕ} {at : ℕ} (ys : List TypeEntry) → AsMany xs at anc
    → Walked anc (values_in anc) (map (type_of ys) (function_at xs at).ancillae) 0 0
walked_start {xs} {anc} {at} ys m = record {
  begins = walk_start anc m.read;
  same = refl;
  number = m.number ∙ sym (length-map (function_at xs at).ancillae (type_of ys));
}

module _ {xs : List ℕ} {vs : List Val} {cs : List Ty} {k at : ℕ} (w : Walked xs vs cs k at) where
  -- nothing is left of either
  pub walked_done : length cs ≤ k → true ≡ has_tys vs cs
  unfolding has_tys
  walked_done h = sym (w.same ∙ ap₂ has_tys (drop_of_length-le vs {i = k} (omega (arith, w.number))) (drop_of_length-le cs {i = k} h))

  module _ (there : k < length cs) where
    more : k < length vs
    more = omega (arith, w.number)

    abbrev v : Val
    v = get_or vs k unit

    -- what is read there: the ancilla, which is within the limit
    read : (c : Ty) → next_of at (first_of (drop at xs)) c ≡ next_if (has_ty v c) (at + size v)
    unfolding next_of
    read c =
        ap (λ r. next_of at r c) (walk_first w.begins more)
        ∙ ap (λ b. next_if (b && has_ty v c) (at + size v)) (walk_fits w.begins more)

    module _ {s : Found ℕ} (c : Ty) (q : s ≡ next_of at (first_of (drop at xs)) c) (d : Ty) (is : c ≡ get_or cs k d) where
      split : has_tys vs cs ≡ has_ty v c && has_tys (drop (suc k) vs) (drop (suc k) cs)
      unfolding has_tys
      split = w.same ∙ ap₂ has_tys (drop-cons vs k unit more) (drop-cons cs k d there)
          ∙ ap (λ c. has_ty v c && has_tys (drop (suc k) vs) (drop (suc k) cs)) (sym is)

      pub walked_other : s ≡ None → false ≡ has_tys vs cs
      walked_other o = sym (split ∙ ap (λ b. b && has_tys (drop (suc k) vs) (drop (suc k) cs)) (goes-off (has_ty v c) (at + size v) (sym o ∙ q ∙ read c)))

      module _ {e : ℕ} (n : s ≡ Some e) where
        went : (has_ty v c ≡ true) × (e ≡ at + size v)
        went = goes_on (has_ty v c) e (at + size v) (sym n ∙ q ∙ read c)

        pub walked_next : Walked xs vs cs (k + 1) e
        walked_next = subst (λ k. Walked xs vs cs k e) (let z : suc k ≡ k + 1 = omega arith in z) (record {
          begins = walk_next w.begins more went.1;
          same = split ∙ ap (λ b. b && has_tys (drop (suc k) vs) (drop (suc k) cs)) went.0;
          number = w.number;
        })

----------------------------------------------------------------
-- Ancillae and value

-- The same by the row of the function whose field is at `at`.
pub record Walking (xs types : List ℕ) (at : ℕ) (anc row : List ℕ) (k next : ℕ) : Type 0 where
  pub callable : Callable xs types at
  pub row_is : SignatureIs (function_at xs at) row
  pub walked : Walked anc (values_in anc) (map (type_of (entries_of xs types)) (function_at xs at).ancillae) k next

pub walking_start : {xs types : List ℕ} {at : ℕ} {anc row : List ℕ} → Callable xs types at → AsMany xs at anc → SignatureIs (function_at xs at) row
    → Walking xs types at anc row 0 0
walking_start {xs} {types} C m s = record { callable = C; row_is = s; walked = walked_start (entries_of xs types) m }

module _ {xs types : List ℕ} {at : ℕ} {anc row : List ℕ} {k next : ℕ} (w : Walking xs types at anc row k next) where
  abbrev ty : ℕ → Ty
  ty = type_of (entries_of xs types)

  abbrev tys : List Ty
  tys = map ty (function_at xs at).ancillae

  same_count : length tys ≡ length (function_at xs at).ancillae
  same_count = length-map (function_at xs at).ancillae ty

  pub walking_done : {n : ℕ} → n ≡ length (function_at xs at).ancillae → n ≤ k → true ≡ has_tys (values_in anc) (map (type_of (entries_of xs types)) (function_at xs at).ancillae)
  walking_done e h = walked_done w.walked (omega (arith, same_count))

  -- the next is ancilla `k`, of the type that the front of the row has there
  module _ {n : ℕ} (e : n ≡ length (function_at xs at).ancillae) (h : k < n) where
    there : k < length (function_at xs at).ancillae
    there = omega arith

    in_front : get_or (take n row) k 0 ≡ get_or row k 0
    in_front = get_or-take n row k 0 h

    pub walking_asked : Asked xs types (get_or (take n row) k 0)
    walking_asked = subst (Asked xs types) (sym in_front) (row-asked w.callable w.row_is k there)

    type_is : ty (get_or (take n row) k 0) ≡ get_or tys k (ty 0)
    type_is = ap ty (in_front ∙ row_type w.callable w.row_is k there) ∙ sym (get_or-map ty (function_at xs at).ancillae k 0)

    module _ {s : Found ℕ} (q : s ≡ next_of next (first_of (drop next anc)) (type_of (entries_of xs types) (get_or (take n row) k 0))) where
      pub walking_other : s ≡ None → false ≡ has_tys (values_in anc) (map (type_of (entries_of xs types)) (function_at xs at).ancillae)
      walking_other o = walked_other w.walked (omega (arith, same_count)) _ q _ type_is o

      pub walking_next : {end : ℕ} → s ≡ Some end → Walking xs types at anc row (k + 1) end
      walking_next o = record { callable = w.callable; row_is = w.row_is; walked = walked_next w.walked (omega (arith, same_count)) _ q _ type_is o }

module _ (ys : List TypeEntry) (xs : List ℕ) (at : ℕ) (anc bytes : List ℕ) (e : right_in anc bytes (function_at xs at) ≡ true) where
  pub as_many : AsMany xs at anc
  as_many = record { read = (right-values anc bytes xs at e).ancillae_read; number = (right-values anc bytes xs at e).number }

  module _ (back : Bool) {b : Bool} (q : b ≡ has_tys (values_in anc) (map (type_of ys) (function_at xs at).ancillae)) where
    abbrev of-side : Bool
    of-side = has_ty (value_in bytes) (type_of ys (side_number back (function_at xs at)))

    -- an ancilla is of another type
    pub typed_not : b ≡ false → false ≡ all_typed ys (function_at xs at) back anc bytes
    typed_not f = sym (ap (λ b. b && of-side) (sym q ∙ f))

    pub typed-all : b ≡ true → {r : Bool} (t : ℕ) → t ≡ side_number back (function_at xs at) → r ≡ value_has (value bytes) (type_of ys t)
        → r ≡ all_typed ys (function_at xs at) back anc bytes
    unfolding value_has
    typed-all y t s a =
        a ∙ ap₂ (λ o t. value_has o (type_of ys t)) (right-values anc bytes xs at e).value_read s ∙ sym (ap (λ b. b && of-side) (sym q ∙ y))
