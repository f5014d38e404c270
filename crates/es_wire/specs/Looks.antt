-- What one look at the bytes that wait finds.
use Rattle.std.specs.Prelude.{◌≡◌, ℕ, ◌+◌, ◌<◌, ◌≤◌, List, ◌++◌, length, drop, ⊤}
use Rattle.es_wire.specs.declared.look.Looked.{Looked}
use Rattle.es_wire.specs.declared.look.Looked.TheVariants.{Whole, Refused, More, NoMemory}
use Rattle.es_wire.specs.Framing.{body_limit}
use Rattle.es_wire.specs.Requests.{Message, ReadsMessage, HasNoMessage, MayBecomeMessage, Refuses, raw_of, head_limit}

-- with fewer bytes than wanted there is no whole request, whatever the bytes that follow, and they may become one
pub record Wants (bytes : List ℕ) (wanted : ℕ) : Type 0 where
  pub fewer : length bytes < wanted
  pub at_most : wanted ≤ head_limit + body_limit
  pub none : (more : List ℕ) → length (bytes ++ more) < wanted → HasNoMessage (bytes ++ more)
  pub may : (more : List ℕ) → length (bytes ++ more) < wanted → MayBecomeMessage (bytes ++ more)

-- the bytes begin as the answer says
abbrev pub LooksAt : List ℕ → Looked → Type 0
LooksAt bytes (Whole raw end) =
    (m : Message) × ReadsMessage bytes m (drop end bytes) × (end ≤ length bytes) × (raw ≡ raw_of m)
LooksAt bytes (Refused status) = Refuses bytes status
LooksAt bytes (More wanted) = Wants bytes wanted
LooksAt bytes NoMemory = ⊤
