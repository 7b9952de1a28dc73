-- Values and ancillae are read from the bytes that they are written as, and from no others.
use Prim.Native.Nat.{ℕ, zero, suc, ◌+◌, ◌≤◌, ◌<◌}
use native.Mathlib.Omega.{arith}
use native.Mathlib.Nat.{le_refl}
use mathlib.Core.Path.{◌≡◌, refl, sym, ap, ◌∙◌}
use mathlib.Core.Bool.{Bool, true, false}
use mathlib.Core.Option.{Option, none, some}
use mathlib.Core.List.{List, [], ◌∷◌, ◌++◌, append_assoc, append-nil}
use lib.ListN.{length, length-append}
use lib.Dec.{leb}
use package.Rattle.rules.specs.Limits.{fits, max_ancilla_bytes}
use package.Rattle.rules.specs.Val.{Val, unit, inl, inr, pair, roll, size, encode}
use package.Rattle.rules.proofs.Basics.{given, none≢some, some_inj}
use package.Rattle.rules.proofs.Val.{length-encode}
use package.Rattle.rules.proofs.Typing.Tests.{leb_yes, leb-sound}
use package.Rattle.calls.specs.Values.{Read, got, malformed, then, read, alone, value, encode_all, cons_to, read_all, ancillae}

----------------------------------------------------------------
-- An answer under a test

module _ {A : Type 0} where
  abbrev provided : Bool → Option A → Option A
  provided b x = elim b [ true ↦ x | false ↦ none ]

  provided_true : {b : Bool} (x : Option A) → b ≡ true → provided b x ≡ x
  provided_true x e = rw e

  provided_some : (b : Bool) (x : Option A) {a : A} → provided b x ≡ some a → (b ≡ true) × (x ≡ some a)
  provided_some true x e = (refl, e)
  provided_some false x e = absurd (none≢some e)

----------------------------------------------------------------
-- One value

then_via : {x : Read} {v : Val} {xs : List ℕ} (k : Val → List ℕ → Read) {y : Read} → x ≡ got v xs → k v xs ≡ y → then x k ≡ y
unfolding then
then_via k p q = ap (λ x. then x k) p ∙ q

pub malformed≢got : {v : Val} {xs : List ℕ} → malformed ≡ got v xs → ⊥
malformed≢got e = let z : ◌≡◌ {A = ℕ} 0 1 = cc in omega arith

pub got-value : {v w : Val} {xs ys : List ℕ} → got v xs ≡ got w ys → v ≡ w
got-value e = cc

-- what was read before
unthen : (x : Read) (k : Val → List ℕ → Read) {v : Val} {ys : List ℕ} → then x k ≡ got v ys
    → (w : Val) × (zs : List ℕ) × (x ≡ got w zs) × (k w zs ≡ got v ys)
unfolding then
unthen (got w zs) k e = (w, zs, refl, e)
unthen malformed k e = absurd (malformed≢got e)

-- A value's bytes are read as that value, and what stands behind them is left.
pub read-encode : (v : Val) (n : ℕ) (xs : List ℕ) → size v ≤ n → read n (encode v ++ xs) ≡ got v xs
unfolding read encode size
read-encode unit zero xs h = absurd (omega arith)
read-encode unit (suc n) xs h = refl
read-encode (inl v) zero xs h = absurd (omega arith)
read-encode (inl v) (suc n) xs h = then_via _ (read-encode v n xs (omega arith)) refl
read-encode (inr v) zero xs h = absurd (omega arith)
read-encode (inr v) (suc n) xs h = then_via _ (read-encode v n xs (omega arith)) refl
read-encode (pair v w) zero xs h = absurd (omega arith)
read-encode (pair v w) (suc n) xs h = rw (append_assoc (encode v) (encode w) xs)
    (then_via _ (read-encode v n (encode w ++ xs) (omega arith)) (then_via _ (read-encode w n xs (omega arith)) refl))
read-encode (roll v) zero xs h = absurd (omega arith)
read-encode (roll v) (suc n) xs h = then_via _ (read-encode v n xs (omega arith)) refl

-- the bytes of what was read, and those left behind it
written : Read → List ℕ
written (got v xs) = encode v ++ xs
written malformed = []

-- What is read as a value is that value's bytes.
pub read-sound : (n : ℕ) (xs : List ℕ) {v : Val} {ys : List ℕ} → read n xs ≡ got v ys → xs ≡ encode v ++ ys
unfolding read encode written
read-sound zero xs e = absurd (malformed≢got e)
read-sound (suc n) [] e = absurd (malformed≢got e)
read-sound (suc n) (zero ∷ xs) e = ap written e
read-sound (suc n) (suc zero ∷ xs) e = given (unthen (read n xs) _ e) λ (w, zs, p, q). ap (λ r. 1 ∷ r) (read-sound n xs p) ∙ ap written q
read-sound (suc n) (suc (suc zero) ∷ xs) e = given (unthen (read n xs) _ e) λ (w, zs, p, q). ap (λ r. 2 ∷ r) (read-sound n xs p) ∙ ap written q
read-sound (suc n) (suc (suc (suc zero)) ∷ xs) e = given (unthen (read n xs) _ e) λ (w, zs, p, q). given (unthen (read n zs) _ q) λ (u, rs, p', q').
    ap (λ r. 3 ∷ r) (read-sound n xs p ∙ ap (λ r. encode w ++ r) (read-sound n zs p') ∙ sym (append_assoc (encode w) (encode u) rs)) ∙ ap written q'
read-sound (suc n) (suc (suc (suc (suc zero))) ∷ xs) e = given (unthen (read n xs) _ e) λ (w, zs, p, q). ap (λ r. 4 ∷ r) (read-sound n xs p) ∙ ap written q
read-sound (suc n) (suc (suc (suc (suc (suc b)))) ∷ xs) e = absurd (malformed≢got e)

----------------------------------------------------------------
-- One value with nothing behind it

pub size-positive : (v : Val) → 0 < size v
unfolding size
size-positive unit = omega arith
size-positive (inl v) = omega arith
size-positive (inr v) = omega arith
size-positive (pair v w) = omega arith
size-positive (roll v) = omega arith

pub length-encode-append : (v : Val) (xs : List ℕ) → length (encode v ++ xs) ≡ size v + length xs
length-encode-append v xs = rw (length-append (encode v) xs, length-encode v)

-- the bytes' number bounds the value's depth
read_first : (v : Val) (xs : List ℕ) → read (length (encode v ++ xs)) (encode v ++ xs) ≡ got v xs
read_first v xs = read-encode v (length (encode v ++ xs)) xs (omega (arith, length-encode-append v xs))

pub value-encode : (v : Val) → fits v ≡ true → value (encode v) ≡ some v
unfolding value alone
value-encode v e = ap alone (rw append-nil at (read_first v [])) ∙ provided_true (some v) e

alone-sound : (r : Read) {v : Val} → alone r ≡ some v → (r ≡ got v []) × (fits v ≡ true)
unfolding alone
alone-sound (got w []) e = given (provided_some (fits w) (some w) e) λ (f, p). (ap (λ u. got u []) (some_inj p), rw (some_inj p) at f)
alone-sound (got w (x ∷ xs)) e = absurd (none≢some e)
alone-sound malformed e = absurd (none≢some e)

pub value-sound : (xs : List ℕ) {v : Val} → value xs ≡ some v → (xs ≡ encode v) × (fits v ≡ true)
unfolding value
value-sound xs {v} e = given (alone-sound (read (length xs) xs) e) λ (p, f). (read-sound (length xs) xs p ∙ append-nil (encode v), f)

----------------------------------------------------------------
-- Ancillae

-- a value is read off the front
read_all-more : (n : ℕ) (xs : List ℕ) {v : Val} {ys : List ℕ} → read (length xs) xs ≡ got v ys → read_all (suc n) xs ≡ cons_to v (read_all n ys)
unfolding read_all read
read_all-more n [] e = absurd (malformed≢got e)
read_all-more n (x ∷ xs) e = rw e

pub read_all_nil : (n : ℕ) → read_all n [] ≡ some []
unfolding read_all
read_all_nil zero = refl
read_all_nil (suc n) = refl

read_all-encode_all : (vs : List Val) (n : ℕ) → length (encode_all vs) ≤ n → read_all n (encode_all vs) ≡ some vs
unfolding encode_all cons_to
read_all-encode_all [] n h = read_all_nil n
read_all-encode_all (v ∷ vs) zero h = absurd (omega (arith, size-positive v, length-encode-append v (encode_all vs)))
read_all-encode_all (v ∷ vs) (suc n) h =
    read_all-more n (encode v ++ encode_all vs) (read_first v (encode_all vs))
    ∙ ap (cons_to v) (read_all-encode_all vs n (omega (arith, size-positive v, length-encode-append v (encode_all vs))))

pub ancillae-encode : (vs : List Val) → length (encode_all vs) ≤ max_ancilla_bytes → ancillae (encode_all vs) ≡ some vs
unfolding ancillae
ancillae-encode vs h =
    provided_true (read_all (length (encode_all vs)) (encode_all vs)) (leb_yes (length (encode_all vs)) max_ancilla_bytes h)
    ∙ read_all-encode_all vs (length (encode_all vs)) (le_refl _)

-- what was read before the rest
cons_to_some : (v : Val) (r : Option (List Val)) {vs : List Val} → cons_to v r ≡ some vs → (ws : List Val) × (r ≡ some ws) × (v ∷ ws ≡ vs)
unfolding cons_to
cons_to_some v none e = absurd (none≢some e)
cons_to_some v (some ws) e = (ws, refl, some_inj e)

first_some : (r : Read) (k : Val → List ℕ → Option (List Val)) {vs : List Val}
    → elim r as (λ r. Option (List Val)) [ got v ys ↦ k v ys | malformed ↦ none ] ≡ some vs
    → (v : Val) × (ys : List ℕ) × (r ≡ got v ys) × (k v ys ≡ some vs)
first_some (got v ys) k e = (v, ys, refl, e)
first_some malformed k e = absurd (none≢some e)

read_all-sound : (n : ℕ) (xs : List ℕ) {vs : List Val} → read_all n xs ≡ some vs → xs ≡ encode_all vs
unfolding read_all encode_all
read_all-sound zero [] e = ap encode_all (some_inj e)
read_all-sound zero (x ∷ xs) e = absurd (none≢some e)
read_all-sound (suc n) [] e = ap encode_all (some_inj e)
read_all-sound (suc n) (x ∷ xs) e = given (first_some (read (length (x ∷ xs)) (x ∷ xs)) _ e) λ (v, ys, p, q). given (cons_to_some v (read_all n ys) q) λ (ws, r, z).
    read-sound (length (x ∷ xs)) (x ∷ xs) p ∙ ap (λ r. encode v ++ r) (read_all-sound n ys r) ∙ ap encode_all z

pub ancillae-sound : (xs : List ℕ) {vs : List Val} → ancillae xs ≡ some vs → (xs ≡ encode_all vs) × (length xs ≤ max_ancilla_bytes)
unfolding ancillae
ancillae-sound xs e = given (provided_some (leb (length xs) max_ancilla_bytes) (read_all (length xs) xs) e) λ (b, p).
    (read_all-sound (length xs) xs p, leb-sound (length xs) max_ancilla_bytes b)
