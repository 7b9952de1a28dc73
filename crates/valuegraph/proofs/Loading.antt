-- Laws that loading cites: in bytes that are values one after another a value begins at every byte; and, of each turn of `load`, that the new
-- node has the value that begins at its byte.
use Prim.Native.Nat.{ℕ, zero, suc, ◌+◌, ◌-◌, ◌<◌, ◌≤◌}
use native.Mathlib.Omega.{arith}
use native.Mathlib.Decide.{ℕ_discrete, dec_lt}
use native.Mathlib.Numerals.{add-one}
use mathlib.Core.Path.{◌≡◌, refl, sym, ap, subst, ◌∙◌}
use mathlib.Core.Bool.{Bool}
use mathlib.Core.List.{List, [], ◌∷◌, ◌++◌, append_assoc}
use lib.ListN.{length, get_or, drop, length-drop}
use lib.Seq.{drop-cons, drop_at, drop-drop}
use package.Rattle.rules.specs.Limits.{fits}
use package.Rattle.rules.specs.Val.{Val, unit, inl, inr, pair, roll, size, encode}
use package.Rattle.rules.proofs.Basics.{given}
use package.Rattle.rules.proofs.Val.{length-encode}
use package.Rattle.calls.specs.Values.{got, read, encode_all}
use package.Rattle.calls.proofs.Values.{read-encode, size-positive, length-encode-append}
use package.Rattle.valuegraph.specs.Nodes.{length_at, of_kind, Single, value_at, Grown, Made}
use package.Rattle.valuegraph.specs.Loads.{first_below, second_below, over_last, PlaceReady, LoadReady, node_of, BeginWith, LoadedFrom}
use package.Rattle.valuegraph.proofs.Places.{agree_trans, agree-down}
use package.Rattle.valuegraph.proofs.Shapes.{single-part, kind-single, encode-single, encode-pair}
use package.Rattle.valuegraph.proofs.Heaps.{value-kept}
use package.Rattle.valuegraph.proofs.Making.{fits_true}

----------------------------------------------------------------
-- A value at every byte

-- values without their first byte: the parts of the first stand in its place
opened : List Val → List Val
opened [] = []
opened (unit ∷ vs) = vs
opened (inl v ∷ vs) = v ∷ vs
opened (inr v ∷ vs) = v ∷ vs
opened (pair v w ∷ vs) = v ∷ w ∷ vs
opened (roll v ∷ vs) = v ∷ vs

drop-opened : (vs : List Val) → drop 1 (encode_all vs) ≡ encode_all (opened vs)
unfolding encode_all encode opened
drop-opened [] = refl
drop-opened (unit ∷ vs) = refl
drop-opened (inl v ∷ vs) = refl
drop-opened (inr v ∷ vs) = refl
drop-opened (pair v w ∷ vs) = append_assoc (encode v) (encode w) (encode_all vs)
drop-opened (roll v ∷ vs) = refl

-- from any byte on, the bytes are values
values_from : (i : ℕ) (vs : List Val) → (ws : List Val) × (drop i (encode_all vs) ≡ encode_all ws)
values_from zero vs = (vs, refl)
values_from (suc i) vs = given (values_from i (opened vs)) λ (ws, e).
    (ws, ap (λ n. drop n (encode_all vs)) (let z : suc i ≡ 1 + i = omega arith in z) ∙ sym (drop-drop i 1 (encode_all vs)) ∙ ap (drop i) (drop-opened vs) ∙ e)

value-here : (xs : List ℕ) (vs : List Val) → xs ≡ encode_all vs → (i : ℕ) → i < length xs → (v : Val) × (ys : List ℕ) × (drop i xs ≡ encode v ++ ys)
unfolding encode_all
value-here xs vs e i l = given (values_from i vs) λ (ws, q). go ws (ap (drop i) e ∙ q)
  where
    go : (ws : List Val) → drop i xs ≡ encode_all ws → (v : Val) × (ys : List ℕ) × (drop i xs ≡ encode v ++ ys)
    go [] q = absurd (omega (arith, ap length q, length-drop i xs))
    go (v ∷ ws) q = (v, encode_all ws, q)

-- bytes begin with one value only
one_value : (v v' : Val) (ys ys' : List ℕ) → encode v ++ ys ≡ encode v' ++ ys' → (v ≡ v') × (ys ≡ ys')
one_value v v' ys ys' e =
    let q : got v ys ≡ got v' ys' =
    sym (read-encode v (size v + size v') ys (omega arith)) ∙ ap (read (size v + size v')) e ∙ read-encode v' (size v + size v') ys' (omega arith) in
    (cc, cc)

begin_of : (xs : List ℕ) (v : Val) (ys : List ℕ) → xs ≡ encode v ++ ys → BeginWith xs v
begin_of xs v ys e = e ∙ ap (λ r. encode v ++ r) (sym (ap (drop (size v)) e ∙ drop_at (encode v) ys (size v) (length-encode v)))

begin_length : (xs : List ℕ) (v : Val) → BeginWith xs v → length xs ≡ size v + length (drop (size v) xs)
begin_length xs v b = ap length b ∙ length-encode-append v (drop (size v) xs)

-- what stands behind a byte at which a value begins
record Behind (k : ℕ) (rest : List ℕ) : Type 0 where
  kind : k ≤ 4
  first : ¬ (k ≡ 0) → (v : Val) × (ys : List ℕ) × (rest ≡ encode v ++ ys)
  second : k ≡ 3 → (v : Val) × (w : Val) × (ys : List ℕ) × (rest ≡ encode v ++ (encode w ++ ys))

behind : {k : ℕ} {rest : List ℕ} (u : Val) (ys : List ℕ) → k ∷ rest ≡ encode u ++ ys → Behind k rest
unfolding encode
behind {k} {rest} u ys e = go u e
  where
    single : (v : Val) → ¬ (k ≡ 3) → k ≤ 4 → rest ≡ encode v ++ ys → Behind k rest
    single v nt le q = record { kind = le; first = λ some. (v, ys, q); second = λ three. absurd (nt three) }

    go : (u : Val) → k ∷ rest ≡ encode u ++ ys → Behind k rest
    go unit e = let z : k ≡ 0 = cc in record { kind = omega arith; first = λ some. absurd (some z); second = λ three. absurd (omega arith) }
    go (inl v) e = let z : k ≡ 1 = cc in single v (λ three. omega arith) (omega arith) (cc)
    go (inr v) e = let z : k ≡ 2 = cc in single v (λ three. omega arith) (omega arith) (cc)
    go (pair v w) e =
        let z : k ≡ 3 = cc in
        let q : rest ≡ (encode v ++ encode w) ++ ys = cc in
        let q' = q ∙ append_assoc (encode v) (encode w) ys in
        record { kind = omega arith; first = λ some. (v, encode w ++ ys, q'); second = λ three. (v, w, ys, q') }
    go (roll v) e = let z : k ≡ 4 = cc in single v (λ three. omega arith) (omega arith) (cc)

----------------------------------------------------------------
-- One node more

module _ {heap : List ℕ} {top k : ℕ} (w : PlaceReady heap top k) where
  pub place-unit : {heap' : List ℕ} → k ≡ 0 → Grown heap heap' top unit → Grown heap heap' top (over_last heap top k)
  unfolding of_kind
  place-unit z g = rw z g

  -- what is within the limit is made
  made-fit : {heap' : List ℕ} {v : Val} {ok : Bool} → v ≡ over_last heap top k → Made heap heap' top v ok → Grown heap heap' top (over_last heap top k)
  made-fit {heap'} {v} e m = subst (λ (u : Val). Grown heap heap' top u) e (m.new (m.answer ∙ ap fits e ∙ w.fit))

  pub place-pair : {heap' : List ℕ} {n : ℕ} {ok : Bool} → k ≡ 3 → n ≡ length_at heap (first_below top)
      → Made heap heap' top (pair (value_at heap (first_below top)) (value_at heap (first_below top - n))) ok → Grown heap heap' top (over_last heap top k)
  unfolding of_kind
  place-pair three e m = made-fit (rw (three, e)) m

  pub place-single : {heap' : List ℕ} {ok : Bool} → Single k
      → Made heap heap' top (of_kind k (value_at heap (first_below top)) (value_at heap (first_below top))) ok → Grown heap heap' top (over_last heap top k)
  place-single s m = made-fit (single-part k _ _ _ s) m

----------------------------------------------------------------
-- A turn of `load`

-- the bytes behind byte `i` are loaded
pub record Turn (heap₀ heap : List ℕ) (top : ℕ) (xs : List ℕ) (i free : ℕ) : Type 0 where
  pub ready : LoadReady heap₀ top xs
  pub loaded : LoadedFrom heap₀ heap top xs (i + 1) free

pub turn : {heap₀ heap : List ℕ} {top : ℕ} {xs : List ℕ} {i free : ℕ} → LoadReady heap₀ top xs → LoadedFrom heap₀ heap top xs i free → 0 < i
    → Turn heap₀ heap top xs (i - 1) free
turn {heap₀} {heap} {top} {xs} {i} {free} L T p =
    let z : i ≡ i - 1 + 1 = omega arith in record { ready = L; loaded = subst (λ (i : ℕ). LoadedFrom heap₀ heap top xs i free) z T }

module _ {heap₀ heap : List ℕ} {top : ℕ} {xs : List ℕ} {i free : ℕ} (t : Turn heap₀ heap top xs i free) where
  L : LoadReady heap₀ top xs
  L = t.ready

  T : LoadedFrom heap₀ heap top xs (i + 1) free
  T = t.loaded

  abbrev byte : ℕ
  byte = get_or xs i 0

  abbrev rest : List ℕ
  rest = drop (i + 1) xs

  abbrev first : Val
  first = value_at heap (first_below free)

  abbrev second : Val
  second = value_at heap (second_below heap free)

  cut : drop i xs ≡ byte ∷ rest
  cut = drop-cons xs i 0 (omega (arith, T.inside)) ∙ ap (λ n. byte ∷ drop n xs) (sym (add-one i))

  here : Behind byte rest
  here = given (value-here xs L.values L.whole i (omega (arith, T.inside))) λ (u, ys, e). behind u ys (sym cut ∙ e)

  module _ (some : ¬ (byte ≡ 0)) where
    first-there : i + 1 < length xs
    first-there = given (here.first some) λ (v, ys, e). omega (arith, ap length e, length-encode-append v ys, size-positive v, length-drop (i + 1) xs)

    first_begin : BeginWith rest first
    first_begin =
        let z : node_of top xs (i + 1) ≡ first_below free = omega (arith, T.nodes, first-there) in
        subst (λ (n : ℕ). BeginWith rest (value_at heap n)) z (T.begins (i + 1) (omega arith) first-there)

    first-size : length_at heap (first_below free) ≡ size first
    first-size = (T.right.node (first_below free) (omega (arith, T.nodes, first-there))).len

  module _ (three : byte ≡ 3) where
    some : ¬ (byte ≡ 0)
    some z = omega (arith, three)

    -- the second value begins behind the first
    second_at : (w : Val) × (ys : List ℕ) × (drop (size first) rest ≡ encode w ++ ys)
    second_at = given (here.second three) λ (v, w, ys, e). (w, ys, (one_value first v (drop (size first) rest) (encode w ++ ys) (sym (first_begin some) ∙ e)).1)

    second-there : i + 1 + size first < length xs
    second-there = given second_at λ (w, ys, e).
        omega (arith, ap length e, length-encode-append w ys, size-positive w, length-drop (size first) rest, length-drop (i + 1) xs)

    second_begin : BeginWith (drop (i + 1 + size first) xs) second
    second_begin =
        let z : node_of top xs (i + 1 + size first) ≡ second_below heap free = omega (arith, T.nodes, second-there, first-size some) in
        subst (λ (n : ℕ). BeginWith (drop (i + 1 + size first) xs) (value_at heap n)) z (T.begins (i + 1 + size first) (omega arith) second-there)

    pair_begin : BeginWith (drop i xs) (of_kind 3 first second)
    pair_begin = begin_of (drop i xs) (of_kind 3 first second) (drop (size second) (drop (i + 1 + size first) xs)) (
        cut ∙ ap (λ r. byte ∷ r) (first_begin some ∙ ap (λ r. encode first ++ r) (drop-drop (size first) (i + 1) xs ∙ second_begin)
        ∙ sym (append_assoc (encode first) (encode second) (drop (size second) (drop (i + 1 + size first) xs))))
        ∙ rw (three, encode-pair first second))

  new_begin : BeginWith (drop i xs) (over_last heap free byte)
  unfolding of_kind encode
  new_begin = by (ℕ_discrete byte 0) (ℕ_discrete byte 3)
    where
      by : Dec (byte ≡ 0) → Dec (byte ≡ 3) → BeginWith (drop i xs) (over_last heap free byte)
      by (yes z) three = begin_of (drop i xs) (over_last heap free byte) rest (cut ∙ rw z)
      by (no some) (yes three) = rw three (pair_begin three)
      by (no some) (no nt) = begin_of (drop i xs) (over_last heap free byte) (drop (size first) rest) (
          cut ∙ ap (λ r. byte ∷ r) (first_begin some)
          ∙ ap (λ l. l ++ drop (size first) rest) (sym (encode-single byte first second (kind-single byte some here.kind nt))))

  pub turn-ready : PlaceReady heap free byte
  turn-ready = record {
    right = T.right;
    room = omega (arith, L.room, T.nodes, T.inside, T.agree.lengths);
    kind = here.kind;
    first = λ some. omega (arith, T.nodes, first-there some);
    second = λ three. omega (arith, T.nodes, second-there three, first-size (λ z. omega (arith, three)));
    fit = fits_true _ (omega (arith, L.short, begin_length (drop i xs) (over_last heap free byte) new_begin, length-drop i xs));
  }

  pub turn-next : {heap' : List ℕ} → Grown heap heap' free (over_last heap free byte) → LoadedFrom heap₀ heap' top xs i (free + 1)
  turn-next {heap'} g = record {
    inside = omega (arith, T.inside);
    nodes = omega (arith, T.nodes, T.inside);
    right = g.right;
    agree = agree_trans T.agree (agree-down top (omega (arith, T.nodes)) g.agree);
    begins = λ j l h. by j l h (dec_lt i j);
  }
    where
      by : (j : ℕ) → i ≤ j → j < length xs → Dec (i < j) → BeginWith (drop j xs) (value_at heap' (node_of top xs j))
      by j l h (yes p) = subst (λ (v : Val). BeginWith (drop j xs) v)
          (value-kept heap heap' free T.right g.agree (node_of top xs j) (omega (arith, T.nodes)))
          (T.begins j (omega arith) h)
      by j l h (no p) =
          let z : i ≡ j = omega arith in
          let y : free ≡ node_of top xs i = omega (arith, T.nodes, T.inside) in
          subst (λ (j : ℕ). BeginWith (drop j xs) (value_at heap' (node_of top xs j))) z
          (subst (λ (n : ℕ). BeginWith (drop i xs) (value_at heap' n)) y (rw g.value new_begin))

----------------------------------------------------------------
-- For callers

-- the value that begins at a byte is at the byte's node
pub loaded-value : {heap heap' : List ℕ} {top : ℕ} {xs : List ℕ} {free : ℕ} → LoadedFrom heap heap' top xs 0 free
    → (i : ℕ) (v : Val) (ys : List ℕ) → i < length xs → drop i xs ≡ encode v ++ ys → value_at heap' (node_of top xs i) ≡ v
loaded-value T i v ys l e = (one_value _ v _ ys (sym (T.begins i (omega arith) l) ∙ e)).0
