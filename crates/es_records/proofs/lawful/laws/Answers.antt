use Rattle.es_records.proofs.Lasting.{count_tells, drops_tell, standing_stays, limits_stay, named_stays}
use Rattle.es_records.proofs.Deciding.{halves_tell, who_is_of}
use Rattle.es_records.proofs.lawful.laws.Goals as goal

pub returns : goal.returns
returns c = record {
  count_tells = count_tells;
  drops_tell = drops_tell;
  standing_stays = standing_stays;
  halves_tell = halves_tell;
  who_is_of = who_is_of;
  limits_stay = limits_stay;
  named_stays = named_stays;
}
