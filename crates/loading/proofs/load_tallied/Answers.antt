use Rattle.loading.proofs.Tallies.{fields-tallied}
use Rattle.loading.proofs.load_tallied.Goals as goal

pub returns-in-Err : goal.returns-in-Err
returns-in-Err c =
    let p = fields-tallied _ c.layout.ensures.fields c.in-Err.is (c.field_refusal.ensures _ _ _) c.untallied.ensures in record { load_means = p.0; tally_means = p.1 }
