-- Links and listeners over TCP as contracts see them: they tell counts, and whether they are open or bound.
use Rattle.std.specs.Prelude.{ℕ, Option, None, is_some}
use Rattle.es_edge.specs.Moves.{Input, Output}
use Rattle.es_edge.specs.Std.{silent_input, silent_output}
use Rattle.es_link.specs.Listens.{Listening}

abbrev pub stream_input : {S : Type 0} → Option S → ℕ → ℕ → Input
stream_input stream faults ends = record (silent_input faults ends) { is_open = is_some stream }

abbrev pub stream_output : {S : Type 0} → Option S → ℕ → Output
stream_output stream faults = record (silent_output faults) { is_open = is_some stream }

abbrev pub tcp_listening : {S : Type 0} → Option S → ℕ → ℕ → ℕ → Listening
tcp_listening socket links faults ends = record { is_bound = is_some socket; address = None; links = links; faults = faults; ends = ends }
