-- The tests on a program accept exactly a well-formed one (section 1).
use Prim.Native.Nat.{ℕ}
use mathlib.Core.Path.{◌≡◌, refl, sym, ap, subst, ◌∙◌}
use mathlib.Core.List.{List}
use mathlib.Core.Logic.{◌↔◌}
use package.Rattle.rules.specs.Term.{Program}
use package.Rattle.rules.proofs.Basics.{given}
use package.Rattle.calls.specs.Answer.{accepted}
use package.Rattle.calls.specs.Fields.{Layout, layout}
use package.Rattle.calls.specs.Entries.{entries_at, program_of}
use package.Rattle.calls.specs.Named.{test_entries}
use package.Rattle.calls.specs.Formed.{by_tag, WellNamed, WellFormed}
use package.Rattle.calls.proofs.Formed.Fields.{layout_iff}
use package.Rattle.calls.proofs.Formed.Named.{entries_iff}

-- the bytes pass the tests of fields and entries, and are this program
pub record Passes (program : List ℕ) (P : Program) : Type 0 where
  pub places : Layout
  pub fields : layout program ≡ accepted places
  pub entries : test_entries places (entries_at program places) ≡ accepted tt
  pub trees : program_of (entries_at program places) ≡ P

pub passes_iff : (program : List ℕ) (P : Program) → Passes program P ↔ WellFormed program P
passes_iff program P = (
  λ T. given ((layout_iff program T.places).0 T.fields) λ (places, D, F, z). record {
    places = places;
    fields = D;
    few = F;
    named = subst (λ L. WellNamed (entries_at program L)) (sym z) ((entries_iff T.places (entries_at program T.places)).0 T.entries);
    trees = ap (λ L. program_of (entries_at program L)) z ∙ T.trees;
  },
  λ W. record {
    places = by_tag program W.places;
    fields = (layout_iff program (by_tag program W.places)).1 (W.places, W.fields, W.few, refl);
    entries = (entries_iff (by_tag program W.places) (entries_at program (by_tag program W.places))).1 W.named;
    trees = W.trees;
  },
)
