-- Bytes that are gathered before they are written.
use Rattle.std.specs.Prelude.{◌≡◌, ℕ, List, ◌++◌}
use Rattle.es_edge.specs.declared.sending.Sent.{Sent}
use Rattle.es_edge.specs.declared.sending.Sent.TheVariants as sent
use Rattle.es_edge.specs.Moves.{Output, Takes}
use Rattle.es_edge.specs.Sends.{Sends}

-- since the first state the sink took a part of the bytes at their front without a fault, and what is held is the rest; or it failed
abbrev pub Holds : Output → Output → List ℕ → Sent → List ℕ → Type 0
Holds first now held sent.Ok bytes = (written : List ℕ) × Takes first now written × (bytes ≡ written ++ held) × (now.faults ≡ first.faults)
Holds first now held sent.WriteFault bytes = Sends first now bytes sent.WriteFault

-- of a sink that is seen by output, and whose writes leave what leaves says
pub record Gathers
    {K : Type 0} (output : K → Output) (leaves : K → K → Type 0)
    (first now : K) (held : List ℕ) (so_far : Sent) (bytes : List ℕ) : Type 0 where
  pub holding : Holds (output first) (output now) held so_far bytes
  pub left_alone : leaves first now
