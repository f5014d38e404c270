use Rattle.std.proofs.Common.{refl, ap, ◌∙◌, ◌++◌}
use Rattle.std.specs.List.{filter_map}
use Rattle.es_path.specs.declared.walking.Gathering.{Gathering}
use Rattle.es_path.specs.Scalars.{scalars_at}
use Rattle.es_path.proofs.Reaching.{gathered}
use Rattle.es_path.proofs.walking.gather.Goals as goal

pub returns : goal.returns
returns g c =
    let ts = scalars_at c.args.path.now c.args.tree.now in
    let given = g.M.ScalarMap.given_by c.args.map.now in
    ap (λ (s : Gathering g.row.M.Denot g.row.M-Out.Denot). s.found) c.in_ok-visit_at.ensures
    ∙ gathered {G = Gathering g.row.M.Denot g.row.M-Out.Denot} (λ s. s.found) (λ s t. g.M.ScalarMap.given_by s.map.now t) _ (λ s t. refl) (λ s t u. refl) _ ts
    ∙ ap (λ l. l ++ filter_map given ts) c.empty.ensures
