-- The same over what the code holds together: which codes a basis knows, and what it says of these; and what looking for aliases goes by.
use package.Rattle.rules.specs.Ty.{Ty}
use Rattle.std.specs.Prelude.{ℕ, List, map, length}
use package.Rattle.types.specs.declared.basis.Basis.{Basis}
use package.Rattle.types.specs.declared.codes.Code.{Code}
use package.Rattle.types.specs.declared.shapes.Shape.{Shape}
use package.Rattle.types.specs.Codes.{tree_in, Known}
use package.Rattle.calls.specs.Entries.{type_at}
use package.Rattle.types.specs.declared.aliases.Search.{Search}
use package.Rattle.types.specs.Figures.{Figured}
use package.Rattle.types.specs.Numbering.{Traceable}
use package.Rattle.types.specs.Shapes.{plain_shape, Shaped, Settled}

abbrev pub KnownBy : Basis → Code → Type 0
KnownBy b c = Known (length b.types.now) b.top c

abbrev pub tree_by : Basis → Code → Ty
tree_by b c = tree_in b.program.now b.types.now b.ws.now c

abbrev pub plain_by : Basis → Code → Shape
plain_by b c = plain_shape b.program.now b.types.now b.ws.now c

abbrev pub ShapedBy : Basis → Code → Shape → Type 0
ShapedBy b c s = Shaped b.program.now b.types.now b.ws.now b.top c s

abbrev pub SettledBy : Basis → Code → Code → Type 0
SettledBy b c d = Settled b.program.now b.types.now b.ws.now b.top c d

abbrev pub TraceableBy : Search → List ℕ → Type 0
TraceableBy s heap = Traceable s.program.now s.types.now heap s.keys.now.keys s.keys.now.index

abbrev pub FiguredBy : Search → List ℕ → Type 0
FiguredBy s heap = Figured (map (type_at s.program.now) s.types.now) heap (length s.types.now)
