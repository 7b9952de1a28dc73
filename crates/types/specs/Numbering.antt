-- How the figures of type entries come about, one entry after another, from those of the lower ones. Laws: proofs/Keys,
-- Entering, Tracing.
use Rattle.std.specs.Prelude.{ℕ, suc, ◌+◌, ◌*◌, ◌%◌, ◌<◌, pred, min, max, ◌≡◌, cond, List, map, length, get_or, eqb, ltb, Option, Some, None, IsSome}
use package.Rattle.octets.specs.Numbers.{put16}
use package.Rattle.rules.specs.Limits.{max_types}
use package.Rattle.calls.specs.Entries.{TypeEntry, y_unit, y_prod, y_sum, y_mu, y_var, type_at}
use package.Rattle.calls.specs.Figures.{ceiling}
use package.Rattle.program.specs.Kinds.{unit_type_kind, product_kind, sum_kind, recursive_kind, type_variable_kind}
use package.Rattle.types.specs.Layout.{figure_bytes, figures_from}
use package.Rattle.types.specs.Figures.{number_at, free_at, outer_at, Figured}
use package.Rattle.types.specs.Codes.{Readable}
use package.Rattle.types.specs.declared.numbering.Figure.{Figure}

----------------------------------------------------------------
-- One entry

-- a kind and two numbers below 256, in one
abbrev pub packed : ℕ → ℕ → ℕ → ℕ
packed kind a b = 65536 * kind + 256 * a + b

abbrev pub figure_is : ℕ → ℕ → ℕ → Figure
figure_is key free outer = record { key = key; free = free; outer = outer }

-- how often the outermost free variable of a whole with `f` free ones stands in its part `a`
abbrev pub share : List ℕ → ℕ → ℕ → ℕ
share heap f a = cond (eqb (free_at heap a) f) (outer_at heap a) 0

abbrev pub two_of : List ℕ → ℕ → ℕ → ℕ → Figure
two_of heap kind a b =
    figure_is (packed kind (number_at heap a) (number_at heap b)) (max (free_at heap a) (free_at heap b))
    (min ceiling (share heap (max (free_at heap a) (free_at heap b)) a + share heap (max (free_at heap a) (free_at heap b)) b))

abbrev pub recursive_of : List ℕ → ℕ → Figure
recursive_of heap a =
    figure_is (packed recursive_kind (number_at heap a) 0) (pred (free_at heap a)) (cond (ltb (free_at heap a) 2) 0 (outer_at heap a))

abbrev pub bound_of : ℕ → Figure
bound_of k = figure_is (packed type_variable_kind k 0) (suc k) 1

unfoldable pub figure_of : List ℕ → TypeEntry → Figure
figure_of heap y_unit = figure_is (packed unit_type_kind 0 0) 0 0
figure_of heap (y_prod a b) = two_of heap product_kind a b
figure_of heap (y_sum a b) = two_of heap sum_kind a b
figure_of heap (y_mu a) = recursive_of heap a
figure_of heap (y_var k) = bound_of k

-- the number of entry `i`, by the lower entry that has its key, if there is one
abbrev pub number_from : List ℕ → ℕ → Option ℕ → ℕ
number_from heap i None = i
number_from heap i (Some k) = number_at heap k

-- without an alias
unfoldable pub put_figures : List ℕ → ℕ → ℕ → ℕ → ℕ → List ℕ
put_figures heap i number free outer =
    put16 (put16 (put16 (put16 heap (figures_from + figure_bytes * i) number) (figures_from + figure_bytes * i + 2) free)
    (figures_from + figure_bytes * i + 4) outer) (figures_from + figure_bytes * i + 6) 0

-- the alias of entry `i`, entry `j` standing for its outermost free variable
unfoldable pub put_alias : List ℕ → ℕ → ℕ → ℕ → List ℕ
put_alias heap i j alias = put16 (put16 heap (figures_from + figure_bytes * i + 6) (j + 1)) (figures_from + figure_bytes * i + 8) alias

----------------------------------------------------------------
-- Looking for a key

abbrev pub slots : ℕ
slots = 1021

abbrev pub slot_of : ℕ → ℕ
slot_of key = key % slots

-- Of `n` keys, one is this one, or none is.
pub record Finds (keys : List ℕ) (n key : ℕ) (r : Option ℕ) : Type 0 where
  pub there : (k : ℕ) → r ≡ Some k → (k < n) × (get_or keys k 0 ≡ key)
  pub none : r ≡ None → (k : ℕ) → k < n → ¬ (get_or keys k 0 ≡ key)

-- What looking for aliases goes by: all entries have their figures, and each key's slot is taken.
pub record Traceable (xs types heap keys : List ℕ) (index : List (Option ℕ)) : Type 0 where
  pub entries : Readable xs types
  pub figured : Figured (map (type_at xs) types) heap (length types)
  pub keys_held : length keys ≡ max_types
  pub index_held : length index ≡ slots
  pub taken : (i : ℕ) → i < length types → IsSome (get_or index (slot_of (get_or keys i 0)) None)

-- The first `n` entries have their figures; their keys are kept, and each key's slot is taken.
pub record Numbered (xs types heap keys : List ℕ) (index : List (Option ℕ)) (n : ℕ) : Type 0 where
  pub figured : Figured (map (type_at xs) types) heap n
  pub keys_held : length keys ≡ max_types
  pub index_held : length index ≡ slots
  pub key : (i : ℕ) → i < n → get_or keys i 0 ≡ (figure_of heap (get_or (map (type_at xs) types) i y_unit)).key
  pub taken : (i : ℕ) → i < n → IsSome (get_or index (slot_of (get_or keys i 0)) None)
