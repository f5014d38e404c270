use Rattle.es_wire.proofs.sending.add_place_line.Goals as goal

pub returns-in-Some-clause-gathers : goal.returns-in-Some-clause-gathers
returns-in-Some-clause-gathers g c = λ first before gathers.
    rw c.in-Some.is (rw (c.as_bytes-place_text.ensures.value, c.format.ensures.text) at (c.add_three.ensures.gathers first before gathers))
