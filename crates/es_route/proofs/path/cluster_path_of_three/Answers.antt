use Rattle.std.proofs.Common.{sym, ◌∙◌}
use Rattle.std.proofs.Common.{ap, ◌∷◌, [], List, ℕ}
use Rattle.es_route.specs.Rows.{cluster_rows}
use Rattle.es_route.specs.Paths.{found_in}
use Rattle.es_route.proofs.Tables.{three_empty, three_elsewhere}
use Rattle.es_route.proofs.path.cluster_path_of_three.Goals as goal

pub returns-then-not-has_bytes : goal.returns-then-not-has_bytes
returns-then-not-has_bytes c = three_empty _ _ _ (sym c.has_bytes.ensures ∙ c.if-not-has_bytes.true)

pub returns-in-text : goal.returns-in-text
returns-in-text c = c.named_path.ensures ∙ sym (ap (λ (a : List ℕ). found_in cluster_rows (a ∷ c.args.second.now ∷ c.args.third.now ∷ [])) c.in-text.is)

pub returns-in_default : goal.returns-in_default
returns-in_default c = three_elsewhere _ _ _ c.in_default.not-text
