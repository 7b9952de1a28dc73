-- Calls split before the first that would cut the journal's fields.
use Prim.Native.Nat.{ℕ, ◌<◌, ◌≤◌}
use native.Mathlib.Omega.{arith}
use mathlib.Core.Path.{◌≡◌, refl, sym, ap, subst, ◌∙◌}
use mathlib.Core.Bool.{Bool, true, false}
use mathlib.Core.List.{List, [], ◌∷◌, ◌++◌}
use lib.Dec.{ltb}
use borrow.Author.Tests.{ltb-true, ltb-false, lt-ltb, le-ltb}
use package.Rattle.calls.specs.Book.{buffer, call, call_run, resized}
use package.Rattle.calls.specs.Claims.{last_field}
use package.Rattle.replay.specs.Scripts.{Placed, calls_of}
use package.Rattle.replay.specs.Playing.{Split, split}

nil≢cons : {A : Type 0} {x : A} {xs : List A} → [] ≡ x ∷ xs → ⊥
nil≢cons e = let z : ◌≡◌ {A = ℕ} 0 1 = cc in omega arith

head_is : {A : Type 0} {x y : A} {xs ys : List A} → x ∷ xs ≡ y ∷ ys → x ≡ y
head_is e = cc

module _ (program : List ℕ) where
  -- the journal that a call leaves
  abbrev left : Placed → List ℕ → List ℕ
  left c j = (call program c.call (resized (buffer c.call) j)).journal

  pub split_cuts : (c : Placed) (cs : List Placed) (j : List ℕ) → buffer c.call < last_field j
      → split program (c ∷ cs) j ≡ record { made = []; rest = c ∷ cs }
  unfolding split
  split_cuts c cs j h = simp (lt-ltb _ _ h)

  pub split_goes : (c : Placed) (cs : List Placed) (j : List ℕ) → last_field j ≤ buffer c.call
      → split program (c ∷ cs) j ≡ record { made = c ∷ (split program cs (left c j)).made; rest = (split program cs (left c j)).rest }
  unfolding split
  split_goes c cs j h = simp (le-ltb _ _ h)

  -- no call is lost
  abbrev All : List Placed → List ℕ → Type 0
  All cs j = (split program cs j).made ++ (split program cs j).rest ≡ cs

  all_by : (c : Placed) (cs : List Placed) (j : List ℕ) → All cs (left c j) → (b : Bool) → ltb (buffer c.call) (last_field j) ≡ b → All (c ∷ cs) j
  all_by c cs j rec true e = ap (λ (x : Split). x.made ++ x.rest) (split_cuts c cs j (ltb-true _ _ e))
  all_by c cs j rec false e = ap (λ (x : Split). x.made ++ x.rest) (split_goes c cs j (ltb-false _ _ e)) ∙ ap (λ xs. c ∷ xs) rec

  pub split_all : (cs : List Placed) (j : List ℕ) → All cs j
  unfolding split
  split_all [] j = refl
  split_all (c ∷ cs) j = all_by c cs j (split_all cs (left c j)) (ltb (buffer c.call) (last_field j)) refl

  -- the first call that is not made would cut the fields of the journal as it stands
  abbrev Cuts : Split → List ℕ → Type 0
  Cuts x j = (c : Placed) (more : List Placed) → x.rest ≡ c ∷ more
      → buffer c.call < last_field (call_run program (calls_of x.made) j).journal

  cuts_by : (c : Placed) (cs : List Placed) (j : List ℕ) → Cuts (split program cs (left c j)) (left c j)
      → (b : Bool) → ltb (buffer c.call) (last_field j) ≡ b → Cuts (split program (c ∷ cs) j) j
  unfolding call_run calls_of
  cuts_by c cs j rec true e =
      subst (λ x. Cuts x j) (sym (split_cuts c cs j (ltb-true _ _ e))) λ c' more q.
      subst (λ (y : Placed). buffer y.call < last_field j) (head_is q) (ltb-true _ _ e)
  cuts_by c cs j rec false e = subst (λ x. Cuts x j) (sym (split_goes c cs j (ltb-false _ _ e))) rec

  pub rest_cuts : (cs : List Placed) (j : List ℕ) → Cuts (split program cs j) j
  unfolding split
  rest_cuts [] j = λ c more q. absurd (nil≢cons q)
  rest_cuts (c ∷ cs) j = cuts_by c cs j (rest_cuts cs (left c j)) (ltb (buffer c.call) (last_field j)) refl
