use Rattle.std.proofs.Common.{rules, ap, ◌∙◌, ◌∷◌}
use Rattle.atomic_table.specs.Table.{rest}
use Rattle.es_gate.proofs.Turning.{lies_in_hand}
use Rattle.es_gate.proofs.gate.taking.end_turn.Goals as goal

pub serve_next-requires : goal.serve_next-requires
serve_next-requires g c =
    let x = c.exchange-empty.ensures in
    let t = c.requires.turn in
    let s = c.requires.stands in (
      search rules,
      (t.1.0, t.1.1, ap (λ m. m.0.stage) x.3 ∙ t.1.2),
      (
        c.args.held,
        ap (λ m. m.1) x.3 ∙ ap (λ r. (0, c.args.held) ∷ rest r) t.2,
        rw (ap (λ m. m.0) x.3) (lies_in_hand g.V.Stands.entries _ _ c.args.held s.0 t.3.0 s.1 s.2 t.3.1 t.3.2),
      ),
    )
