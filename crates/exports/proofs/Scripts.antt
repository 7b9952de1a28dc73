-- Demand 3 of a script, of the answer that is told.
use Prim.Native.Nat.{ℕ}
use mathlib.Core.Path.{◌≡◌, subst}
use mathlib.Core.List.{List}
use package.Rattle.replay.specs.Playing.{Reply}
use package.Rattle.replay.specs.Booked.{Booked}

pub booked_as : (program script journal answers workspace journal' answers' workspace' : List ℕ) {x y : Reply} → x ≡ y
    → Booked program script journal answers workspace journal' answers' workspace' x
    → Booked program script journal answers workspace journal' answers' workspace' y
booked_as program script journal answers workspace journal' answers' workspace' e book =
    subst (Booked program script journal answers workspace journal' answers' workspace') e book
