use Rattle.std.proofs.Common.{◌≡◌, ap, ◌∙◌, ◌∷◌, ◌++◌, [], Some}
use Rattle.es_gate.specs.declared.tickets.Held.{Held}
use Rattle.es_gate.specs.Turns.{LiesBeside}
use Rattle.es_gate.proofs.Moves.{opens}
use Rattle.es_gate.proofs.Turning.{lies_first}
use Rattle.es_gate.proofs.gate.Gate.new.Goals as goal

pub new-requires : goal.new-requires
new-requires g c =
    let held : Held g.row.V.Denot g.row.G.Denot = record { value = c.args.value; book = c.args.book } in
    let items : c.push.new.self.items ≡ Some held ∷ [] = c.in_default.ensures.items ∙ ap (λ l. l ++ Some held ∷ []) c.new-slots.ensures.items in
    rw (c.of-key.ensures, c.length-count.ensures, items)
    (opens (LiesBeside g.V.Stands.entries) (g.V.Stands.entries c.args.value) _ (Some held) (lies_first g.V.Stands.entries held c.requires.book))
