-- The test of a journal's form, where it names a refusal.
use mathlib.Core.Path.{◌≡◌, sym, subst, ◌∙◌}
use Rattle.std.proofs.Math.Option.{none}
use mathlib.Core.List.{List}
use Prim.Native.Nat.{ℕ}
use Rattle.std.specs.Prelude.{Option, Some, None, Result, Ok, Err}
use Rattle.std.specs.Option.{ok_or}
use package.Rattle.calls.specs.Journal.{read_journal}
use package.Rattle.journal.specs.declared.places.Places.{Places}
use package.Rattle.journal.specs.Places.{Surveyed, Stands}
use package.Rattle.journal.proofs.Stands.{unformed}

module _ {E : Type 0} (w : E) {journal : List ℕ} where
  -- what has no form is no journal
  pub not_read : (o : Option Places) → Surveyed o journal → {e : E} → ok_or o w ≡ Err e → (e ≡ w) × (read_journal journal ≡ none)
  not_read (Some pl) S is = cc
  not_read None S {e} is = let same : e ≡ w = cc in (same, unformed journal S)

  -- what has one stands there
  pub read_stands : {o : Option Places} {r : Result Places E} {pl : Places} → Surveyed o journal → r ≡ ok_or o w → r ≡ Ok pl → Stands pl journal
  read_stands {o} {pl = pl} S is was = go o S (sym is ∙ was)
    where
      go : (o : Option Places) → Surveyed o journal → ok_or o w ≡ Ok pl → Stands pl journal
      go (Some found) S e = let same : found ≡ pl = cc in subst (λ pl. Stands pl journal) same S
      go None S e = cc
