-- What an answer of std's readers, writers and clocks means.
use Rattle.std.specs.Prelude.{ℕ, ◌-◌, ◌^◌, ◌/◌, ◌==◌, min, if◌then◌else◌, Result, Ok, Err, None, true}
use Rattle.std.specs.Duration.{as_nanos}
use Rattle.std.specs.declared.time.Duration.{Duration}
use Rattle.es_edge.specs.declared.traits.Got.{Got}
use Rattle.es_edge.specs.declared.traits.Got.TheVariants as got
use Rattle.es_edge.specs.declared.traits.Took.{Took}
use Rattle.es_edge.specs.declared.traits.Took.TheVariants as took
use Rattle.es_edge.specs.Moves.{Input, Output}
use Rattle.es_edge.specs.Draws.{Lots}

-- a read of no bytes is the end, and an error a fault
abbrev pub got_for : {E : Type 0} → Result ℕ E → Got
got_for (Ok n) = if n == 0 then got.End else got.Bytes n
got_for (Err error) = got.Failed

-- a write of no bytes and an error are faults
abbrev pub took_for : {E : Type 0} → Result ℕ E → Took
took_for (Ok n) = if n == 0 then took.Failed else took.Bytes n
took_for (Err error) = took.Failed

-- whole milliseconds, at most the greatest number of 64 bits, and 0 where the time isn't told
abbrev pub moment_for : {E : Type 0} → Result Duration E → ℕ
moment_for (Ok since) = min (as_nanos since / 1000000) (2 ^ 64 - 1)
moment_for (Err error) = 0

-- a source that tells no bytes, by its counts of faults and ends
abbrev pub silent_input : ℕ → ℕ → Input
silent_input faults ends = record { given = None; left = None; faults = faults; ends = ends; is_open = true }

-- a sink that tells no bytes, by its count of faults
abbrev pub silent_output : ℕ → Output
silent_output faults = record { written = None; faults = faults; is_open = true }

-- a chance that tells no draws, by its count of faults
abbrev pub silent_lots : ℕ → Lots
silent_lots faults = record { drawn = None; faults = faults }
