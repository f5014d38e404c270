-- Links and listeners in memory as contracts see them.
use Rattle.std.specs.Prelude.{◌≡◌, not, List, [], ◌∷◌, All, None}
use Rattle.es_edge.specs.Moves.{Input, Output}
use Rattle.es_edge.specs.Memory.{source_input, sink_output, SourceKeeps, SinkKeeps}
use Rattle.es_link.specs.declared.memory.MemLink.{MemLink}
use Rattle.es_link.specs.declared.memory.MemListener.{MemListener}
use Rattle.es_link.specs.declared.listener.Accepted.{Accepted}
use Rattle.es_link.specs.declared.listener.Accepted.TheVariants as accepted
use Rattle.es_link.specs.Links.{IsFresh}
use Rattle.es_link.specs.Listens.{Listening}

abbrev pub link_input : MemLink → Input
link_input link = record (source_input link.input) { is_open = not link.closed }

abbrev pub link_output : MemLink → Output
link_output link = record (sink_output link.output) { is_open = not link.closed }

-- what a read leaves alone: all bytes, the piece and the calls that fail, and the other side
abbrev pub ReadKeeps : MemLink → MemLink → Type 0
ReadKeeps old new = SourceKeeps old.input new.input × (new.output ≡ old.output) × (new.closed ≡ old.closed)

-- what a write leaves alone: the piece, the room and the calls that fail, and the other side
abbrev pub WriteKeeps : MemLink → MemLink → Type 0
WriteKeeps old new = SinkKeeps old.output new.output × (new.input ≡ old.input) × (new.closed ≡ old.closed)

-- the listener tells no address
abbrev pub mem_listening : MemListener → Listening
mem_listening listener = record { is_bound = listener.bound; address = None; links = listener.given; faults = listener.faults; ends = listener.ends }

-- each link that is still to come is open and unused
abbrev pub AreFresh : MemListener → Type 0
AreFresh listener = All (λ link. IsFresh (link_input link) (link_output link)) listener.links.items

-- the next link was given, or there is none; a call that fails gives none
abbrev pub GivesNext : List MemLink → List MemLink → Accepted MemLink → Type 0
GivesNext old new (accepted.Link link) = old ≡ link ∷ new
GivesNext old new accepted.End = (old ≡ []) × (new ≡ [])
GivesNext old new accepted.Failed = new ≡ old

-- a read leaves the other side
pub read_keeps_output : (old new : MemLink) → ReadKeeps old new → link_output new ≡ link_output old
read_keeps_output old new keeps = λ i. record (sink_output (keeps.1 i)) { is_open = not (keeps.2 i) }

-- and a write too
pub write_keeps_input : (old new : MemLink) → WriteKeeps old new → link_input new ≡ link_input old
write_keeps_input old new keeps = λ i. record (source_input (keeps.1 i)) { is_open = not (keeps.2 i) }
