-- The forms in memory as contracts see them: they tell all their bytes.
use Rattle.std.specs.Prelude.{◌≡◌, take, drop, Some, true}
use Rattle.es_edge.specs.declared.memory.MemSource.{MemSource}
use Rattle.es_edge.specs.declared.memory.MemSink.{MemSink}
use Rattle.es_edge.specs.Moves.{Input, Output}

-- the bytes before the place were given, and those from it on are left
abbrev pub source_input : MemSource → Input
source_input source = record {
  given = Some (take source.place source.bytes);
  left = Some (drop source.place source.bytes);
  faults = source.faults;
  ends = source.ends;
  is_open = true;
}

abbrev pub sink_output : MemSink → Output
sink_output sink = record { written = Some sink.taken.items; faults = sink.faults; is_open = true }

-- what a read leaves alone: all bytes, the piece and the calls that fail
abbrev pub SourceKeeps : MemSource → MemSource → Type 0
SourceKeeps old new = (new.bytes ≡ old.bytes) × (new.piece ≡ old.piece) × (new.failing ≡ old.failing)

-- what a write leaves alone: the piece, the room and the calls that fail
abbrev pub SinkKeeps : MemSink → MemSink → Type 0
SinkKeeps old new = (new.piece ≡ old.piece) × (new.room ≡ old.room) × (new.failing ≡ old.failing)
