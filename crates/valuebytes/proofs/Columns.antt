-- Entries under cells in one array, and the two columns that the definitions speak of.
use Prim.Native.Nat.{ℕ, zero, suc}
use mathlib.Core.Path.{◌≡◌, refl, sym, ap, ap₂, ◌∙◌}
use mathlib.Core.List.{List, ◌∷◌, map}
use lib.ListN.{get_or, set, replicate, get_or-map}
use Rattle.std.proofs.lemmas.List.{map-set}
use package.Rattle.valuebytes.specs.declared.walk.Scoped.{Scoped}
use package.Rattle.valuebytes.specs.Stack.{scoped, entries_in, cells_in}

-- an entry put under a cell, in each column
pub put_entries : (l : List Scoped) {l' : List Scoped} (n : ℕ) (t : Scoped) → l' ≡ set l n t → entries_in l' ≡ set (entries_in l) n t.entry
put_entries l n t e = ap entries_in e ∙ map-set (λ (t : Scoped). t.entry) l n t

pub put_cells : (l : List Scoped) {l' : List Scoped} (n : ℕ) (t : Scoped) → l' ≡ set l n t → cells_in l' ≡ set (cells_in l) n t.cell
put_cells l n t e = ap cells_in e ∙ map-set (λ (t : Scoped). t.cell) l n t

-- what stands at a place, by its columns
pub scoped_at : (l : List Scoped) (n : ℕ) → get_or l n (scoped 0 0) ≡ scoped (get_or (entries_in l) n 0) (get_or (cells_in l) n 0)
scoped_at l n = sym (ap₂ scoped (get_or-map (λ (t : Scoped). t.entry) l n (scoped 0 0)) (get_or-map (λ (t : Scoped). t.cell) l n (scoped 0 0)))

pub cell_at : (l : List Scoped) (n : ℕ) → (get_or l n (scoped 0 0)).cell ≡ get_or (cells_in l) n 0
cell_at l n = sym (get_or-map (λ (t : Scoped). t.cell) l n (scoped 0 0))

-- nothing but zeros, in each column
zeros : (f : Scoped → ℕ) (n : ℕ) → map f (replicate n (scoped 0 0)) ≡ replicate n (f (scoped 0 0))
zeros f zero = refl
zeros f (suc n) = ap (λ l. f (scoped 0 0) ∷ l) (zeros f n)

pub zero_entries : (n : ℕ) → entries_in (replicate n (scoped 0 0)) ≡ replicate n 0
zero_entries n = zeros (λ (t : Scoped). t.entry) n

pub zero_cells : (n : ℕ) → cells_in (replicate n (scoped 0 0)) ≡ replicate n 0
zero_cells n = zeros (λ (t : Scoped). t.cell) n
