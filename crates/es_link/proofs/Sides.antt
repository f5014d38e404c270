-- The sides of a link are those of its parts, with its own openness.
use Rattle.std.proofs.Common.{ℕ, Bool, List, refl}
use Rattle.es_edge.specs.Moves.{Input, Output, Reads, Writes, HasReadCause, HasWriteCause}
use Rattle.es_edge.specs.declared.traits.Got.{Got}
use Rattle.es_edge.specs.declared.traits.Got.TheVariants as got
use Rattle.es_edge.specs.declared.traits.Took.{Took}
use Rattle.es_edge.specs.declared.traits.Took.TheVariants as took

read_cause : (got : Got) (a b : Input) (o : Bool) → HasReadCause got a b → HasReadCause got (record a { is_open = o }) (record b { is_open = o })
read_cause (got.Bytes n) a b o cause = cause
read_cause got.End a b o cause = cause
read_cause got.Failed a b o cause = cause

pub link_reads : (a b : Input) (o : Bool) (buf : List ℕ) (got : Got) → Reads a b buf got → Reads (record a { is_open = o }) (record b { is_open = o }) buf got
link_reads a b o buf got reads = record {
  count = reads.count;
  moved = record { given = reads.moved.given; left = reads.moved.left; faults = reads.moved.faults; ends = reads.moved.ends; is_open = refl };
  cause = read_cause got a b o reads.cause;
}

write_cause : (took : Took) (a b : Output) (o : Bool) → HasWriteCause took a b → HasWriteCause took (record a { is_open = o }) (record b { is_open = o })
write_cause (took.Bytes n) a b o cause = cause
write_cause took.Failed a b o cause = cause

pub link_writes : (a b : Output) (o : Bool) (bytes : List ℕ) (took : Took) → Writes a b bytes took → Writes (record a { is_open = o }) (record b { is_open = o }) bytes took
link_writes a b o bytes took writes = record {
  count = writes.count;
  moved = record { written = writes.moved.written; faults = writes.moved.faults; is_open = refl };
  cause = write_cause took a b o writes.cause;
}
