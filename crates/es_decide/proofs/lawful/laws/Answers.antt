use Rattle.es_decide.proofs.Consequences.{granted_permits, limit_narrows, key_is_limited, target_alone, unknown_is_refused, one_is_alone}
use Rattle.es_decide.proofs.lawful.laws.Goals as goal

pub returns : goal.returns
returns c = record { granted_permits = granted_permits; limit_only_narrows = limit_narrows; key_is_limited = key_is_limited; target_alone = target_alone; unknown_is_refused = unknown_is_refused; one_is_alone = one_is_alone }
