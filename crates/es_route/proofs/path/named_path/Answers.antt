use Rattle.std.proofs.Common.{sym, ◌∙◌}
use Rattle.std.proofs.Common.{ap, ◌∷◌, [], codes, List, ℕ}
use Rattle.es_route.specs.Rows.{cluster_rows}
use Rattle.es_route.specs.Paths.{found_in}
use Rattle.es_route.proofs.Tables.{three_key, three_role, three_other}
use Rattle.es_route.proofs.path.named_path.Goals as goal

pub returns-in-api_key : goal.returns-in-api_key
returns-in-api_key c = three_key _ _ c.in-api_key.is c.requires

pub returns-in-role : goal.returns-in-role
returns-in-role c = three_role _ _ c.in-role.is c.requires

pub returns-in-user : goal.returns-in-user
returns-in-user c = c.user_path.ensures ∙ sym (ap (λ (b : List ℕ). found_in cluster_rows (codes "_security" ∷ b ∷ c.args.name.now ∷ [])) c.in-user.is)

pub returns-in_default : goal.returns-in_default
returns-in_default c = three_other _ _ c.in_default.not-api_key c.in_default.not-role c.in_default.not-user
