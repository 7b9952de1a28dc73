-- The tally of section 6's types and of types at the limit: by computation, but for `only`, which is a law.
use mathlib.Core.Path.{refl}
use package.Rattle.calls.specs.Figures.{ceiling, nodes_of, figures}
use package.Rattle.calls.specs.Borders.{doubled, big_types}
use package.Rattle.calls.proofs.Compute.{computing}
use package.Rattle.entries.specs.Tally.{kept, count_of}
use package.Rattle.entries.specs.TallyCases.{counts_from, TallyTable}
use package.Rattle.entries.proofs.Tallies.{named_tally}

pub tally-table : TallyTable
unfolding computing doubled big_types ceiling nodes_of figures kept count_of counts_from
tally-table = record {
  section_6 = record { read = refl; made = refl; right = refl; table = record { equals = refl; sized = refl }; only = λ ns t T N. named_tally _ refl T N };
  over = record { read = refl; made = refl; right = refl; table = record { equals = refl; sized = refl }; only = λ ns t T N. named_tally _ refl T N };
  limit = record { read = refl; made = refl; right = refl; table = record { equals = refl; sized = refl }; only = λ ns t T N. named_tally _ refl T N };
}
