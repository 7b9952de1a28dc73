-- Programs of as many entries as may be, by computation.
use mathlib.Core.Path.{refl}
use package.Rattle.calls.specs.Borders.{copies}
use package.Rattle.calls.proofs.Compute.{computing}
use package.Rattle.borders.specs.Borders.{functions_from, unit_functions, EntryEdges}
use package.Rattle.borders.proofs.Counted.{most-terms, terms-over}

pub entry-edges : EntryEdges
unfolding computing copies functions_from unit_functions
entry-edges = record { types = refl; types_past = refl; terms = most-terms; terms_past = terms-over; functions = refl; functions_past = refl }
