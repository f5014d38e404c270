use Rattle.std.proofs.Common.{refl, sym, subst}
use Rattle.es_session.specs.Legal.{HasCountedPlaces}
use Rattle.es_session.proofs.Counting.{ends_count}
use Rattle.es_drive.proofs.Journals.{opening_stands}
use Rattle.es_drive.proofs.Hitting.{all_hits, no_hits, vault_opened}
use Rattle.es_drive.proofs.run.run_script.Goals as goal

pub serve-ended-requires-clause-opening : goal.serve-ended-requires-clause-opening
serve-ended-requires-clause-opening g c = opening_stands _ _ c.in-Ok-open.ensures.world

pub returns-clause-places : goal.returns-clause-places
returns-clause-places g c =
    let session = c.serve-ended.ensures.session in
    subst (HasCountedPlaces 1) (sym c.from_vec.ensures) (ends_count session.3 refl session.2.alone)

pub returns-clause-hits : goal.returns-clause-hits
returns-clause-hits g c =
    all_hits _ _ _ _ _ _ _ _ c.serve-ended.ensures.hits c.in-Ok.ensures (vault_opened _ _ _ _ c.in-Ok-open.ensures.world c.in-Ok-open.ensures.limit c.in-Ok-open.ensures.roles) c.from_vec.ensures

pub returns-in_default-clause-hits : goal.returns-in_default-clause-hits
returns-in_default-clause-hits g c = no_hits _ _ _ _ c.unopened.ensures.receipts c.unopened.ensures.hits

pub returns-in_default-open-clause-hits : goal.returns-in_default-open-clause-hits
returns-in_default-open-clause-hits g c = no_hits _ _ _ _ c.unopened-in_default-open.ensures.receipts c.unopened-in_default-open.ensures.hits
