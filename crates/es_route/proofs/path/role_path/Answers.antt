use Rattle.std.proofs.Common.{sym, ◌∙◌}
use Rattle.std.proofs.Common.{ap, ◌∷◌, [], codes, List, ℕ}
use Rattle.es_route.specs.Rows.{cluster_rows}
use Rattle.es_route.specs.Paths.{found_in}
use Rattle.es_route.proofs.Tables.{four_second}
use Rattle.es_route.proofs.path.role_path.Goals as goal

pub returns-in-role : goal.returns-in-role
returns-in-role c = c.cache_path.ensures ∙ sym (ap (λ (b : List ℕ). found_in cluster_rows (codes "_security" ∷ b ∷ c.args.name.now ∷ c.args.last.now ∷ [])) c.in-role.is)

pub returns-in_default : goal.returns-in_default
returns-in_default c = four_second _ _ _ c.in_default.not-role
