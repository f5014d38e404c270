use Rattle.std.proofs.Common.{sym, ◌∙◌}
use Rattle.std.proofs.Common.{ap, ◌∷◌, [], List, ℕ}
use Rattle.es_route.specs.Rows.{cluster_rows}
use Rattle.es_route.specs.Paths.{found_in}
use Rattle.es_route.proofs.Tables.{four_first}
use Rattle.es_route.proofs.path.cluster_path_of_four.Goals as goal

pub returns-in-text : goal.returns-in-text
returns-in-text c = c.role_path.ensures ∙ sym (ap (λ (a : List ℕ). found_in cluster_rows (a ∷ c.args.second.now ∷ c.args.third.now ∷ c.args.fourth.now ∷ [])) c.in-text.is)

pub returns-in_default : goal.returns-in_default
returns-in_default c = four_first _ _ _ _ c.in_default.not-text
