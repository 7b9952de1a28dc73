-- The outermost node of a type, with the codes of its parts. Laws: proofs/Outer, Plain.
use Rattle.std.specs.Prelude.{ℕ, ◌+◌, ◌≡◌, cond, List, map, length, get_or, eqb}
use package.Rattle.rules.specs.Ty.{Ty, one, prod, sum, mu, tyvar}
use package.Rattle.calls.specs.Entries.{TypeEntry, y_unit, y_prod, y_sum, y_mu, y_var, type_at}
use package.Rattle.types.specs.declared.codes.Code.{Code}
use package.Rattle.types.specs.declared.codes.Code.TheVariants as code
use package.Rattle.types.specs.declared.shapes.Shape.{Shape}
use package.Rattle.types.specs.declared.shapes.Shape.TheVariants as shape
use package.Rattle.types.specs.Figures.{number_at, free_at}
use package.Rattle.types.specs.Codes.{entry_code, under_code, left_at, right_at, tree_of, tree_in, Known}

unfoldable pub shape_tree : List TypeEntry → List ℕ → Shape → Ty
shape_tree ys heap shape.Unit = one
shape_tree ys heap (shape.Product a b) = prod (tree_of ys heap a) (tree_of ys heap b)
shape_tree ys heap (shape.Sum a b) = sum (tree_of ys heap a) (tree_of ys heap b)
shape_tree ys heap (shape.Recursive a) = mu (tree_of ys heap a)
shape_tree ys heap (shape.Variable n) = tyvar n

-- The part `a` of the entry that the code is of; `up` is 1 for a recursive entry's part, 0 else. The variable that stands for an entry is the
-- outermost free one, so it stands in the part exactly if as many are free there; else the part is an entry as it stands.
unfoldable pub part : List ℕ → Code → ℕ → ℕ → Code
part heap code.Unit a up = entry_code a
part heap (code.Entry i) a up = entry_code a
part heap (code.Under i j) a up = cond (eqb (free_at heap a) (free_at heap i + up)) (under_code a j) (entry_code a)
part heap (code.Product n) a up = entry_code a

-- the node of an entry that the code `c` is of
unfoldable pub entry_shape : List ℕ → TypeEntry → Code → Shape
entry_shape heap y_unit c = shape.Unit
entry_shape heap (y_prod a b) c = shape.Product (part heap c a 0) (part heap c b 0)
entry_shape heap (y_sum a b) c = shape.Sum (part heap c a 0) (part heap c b 0)
entry_shape heap (y_mu a) c = shape.Recursive (part heap c a 1)
entry_shape heap (y_var k) c = shape.Variable k

-- the node of a code that is settled
unfoldable pub plain_shape : List ℕ → List ℕ → List ℕ → Code → Shape
plain_shape xs types heap code.Unit = shape.Unit
plain_shape xs types heap (code.Entry i) = entry_shape heap (type_at xs (get_or types i 0)) (code.Entry i)
plain_shape xs types heap (code.Under i j) = entry_shape heap (type_at xs (get_or types i 0)) (code.Under i j)
plain_shape xs types heap (code.Product n) = shape.Product (left_at heap n) (right_at heap n)

-- what is known of the parts of a node
abbrev pub Parts : ℕ → ℕ → Shape → Type 0
Parts n top shape.Unit = Unit {0}
Parts n top (shape.Product a b) = Known n top a × Known n top b
Parts n top (shape.Sum a b) = Known n top a × Known n top b
Parts n top (shape.Recursive a) = Known n top a
Parts n top (shape.Variable k) = Unit {0}

-- The node is that of the code's tree, and its parts are known.
pub record Shaped (xs types heap : List ℕ) (top : ℕ) (c : Code) (s : Shape) : Type 0 where
  pub tree : shape_tree (map (type_at xs) types) heap s ≡ tree_in xs types heap c
  pub parts : Parts (length types) top s

-- The code `d`, which is known, has the type of `c`; its node is plain, and if it is an entry, it is named by its number.
pub record Settled (xs types heap : List ℕ) (top : ℕ) (c d : Code) : Type 0 where
  pub shaped : Shaped xs types heap top c (plain_shape xs types heap d)
  pub known : Known (length types) top d
  pub tree : tree_in xs types heap d ≡ tree_in xs types heap c
  pub own : (i : ℕ) → d ≡ entry_code i → number_at heap i ≡ i
