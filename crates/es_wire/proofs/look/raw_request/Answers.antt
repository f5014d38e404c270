use Rattle.es_wire.proofs.HeadLemmas.{same_parts}
use Rattle.es_wire.proofs.look.raw_request.Goals as goal

pub returns : goal.returns
returns c =
    same_parts (rw c.of.ensures at c.in_ok-token_text.ensures) (rw c.of-2.ensures at c.in_ok-from_slice.ensures)
    c.in_ok-copied_once.ensures c.in_ok-copied_once-2.ensures c.in_ok-copied_once-3.ensures c.in_ok-from_slice-2.ensures c.closes.ensures
