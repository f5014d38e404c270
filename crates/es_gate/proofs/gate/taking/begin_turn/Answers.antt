use Rattle.es_gate.proofs.Turning.{begins}
use Rattle.es_gate.proofs.gate.taking.begin_turn.Goals as goal

pub returns : goal.returns
returns g c = let x = c.exchange.ensures in
    begins g.V.Stands.entries c.args.table.now.shared.table_id c.args.seat.now c.draw_ticket-ticket.new.seat c.await_ticket.new.seat c.exchange.new.seat c.draw_ticket-ticket.result c.exchange.result c.requires c.draw_ticket-ticket.ensures c.await_ticket.ensures x.0 x.2 x.3
