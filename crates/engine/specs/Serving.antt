-- What a call of a closure at two lent buffers takes and gives.
use Rattle.std.specs.Prelude.{ℕ, ◌≡◌, List}
use Rattle.std.specs.Fn.{Once}
use denote.Ref.{MutBor}

module _ {F R : Type 0} (g : Once F (MutBor (List ℕ) × (MutBor (List ℕ) × Unit {0})) (R × (MutBor (List ℕ) × (MutBor (List ℕ) × Unit {0})))) where
  -- f may be called once at a `&mut` to x and one to y
  abbrev pub TakesBoth : F → List ℕ → List ℕ → Type 0
  TakesBoth f x y = (p q : MutBor (List ℕ)) → p.now ≡ x → q.now ≡ y → g.pre f (p, (q, tt))

  -- so called, it may give r and leave y' for y
  pub record ReturnsBoth (f : F) (x y : List ℕ) (r : R) (y' : List ℕ) : Type 0 where
    pub first : MutBor (List ℕ)
    pub second : MutBor (List ℕ)
    pub shows : (first.now ≡ x) × (second.now ≡ y)
    pub left : MutBor (List ℕ) × (MutBor (List ℕ) × Unit {0})
    pub met : g.post f (first, (second, tt)) (r, left)
    pub leaves : left.1.0.now ≡ y'
