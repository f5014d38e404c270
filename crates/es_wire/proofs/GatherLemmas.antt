-- Bytes that are gathered, and bytes more.
use Rattle.std.proofs.Common.{◌≡◌, ℕ, List, [], ◌++◌, refl, sym, ap, ◌∙◌, subst, append_assoc, append-nil}
use Rattle.es_edge.specs.declared.sending.Sent.{Sent}
use Rattle.es_edge.specs.declared.sending.Sent.TheVariants as sent
use Rattle.es_edge.specs.Moves.{Output, Takes}
use Rattle.es_edge.specs.Sends.{Sends}
use Rattle.es_edge.proofs.MoveLemmas.{Takes-none}
use Rattle.es_edge.proofs.SendLemmas.{Sends-all, Sends-then, Sends-stop}
use Rattle.es_wire.specs.Gathers.{Holds, Gathers}

-- what was taken without a fault was sent
sent_all : {a b : Output} {xs : List ℕ} → Takes a b xs → b.faults ≡ a.faults → Sends a b xs sent.Ok
sent_all {a} {b} {xs} took calm = record { written = xs; rest = []; parts = sym (append-nil xs); took = took; cause = (refl, calm) }

-- what is held was sent then, with bytes more
Holds-send : {a b c : Output} (held more bytes : List ℕ) (how : Sent) → Holds a b held sent.Ok bytes → Sends b c (held ++ more) how → Sends a c (bytes ++ more) how
Holds-send {a} {b} {c} held more bytes how holds sends =
    let both = Sends-then (sent_all holds.1 holds.3) sends in
    subst (λ (q : List ℕ). Sends a c q how) (sym (ap (λ (q : List ℕ). q ++ more) holds.2 ∙ append_assoc holds.0 held more)) both

held_nothing : {a c : Output} (bytes : List ℕ) (how : Sent) → Sends a c bytes how → Holds a c [] how bytes
held_nothing bytes sent.Ok sends = (bytes, Sends-all sends, sym (append-nil bytes), sends.cause.1)
held_nothing bytes sent.WriteFault sends = sends

module _ {K : Type 0} (output : K → Output) (leaves : K → K → Type 0) where
  -- nothing yet
  pub Gathers-none : (first : K) (held : List ℕ) → held ≡ [] → leaves first first → Gathers output leaves first first held sent.Ok []
  Gathers-none first held none same = record { holding = ([], Takes-none (output first), sym none, refl); left_alone = same }

  -- bytes more that wait
  pub Gathers-held : (first now : K) (held more bytes : List ℕ) → Gathers output leaves first now held sent.Ok bytes
      → Gathers output leaves first now (held ++ more) sent.Ok (bytes ++ more)
  Gathers-held first now held more bytes gathers = record {
    holding = (
      gathers.holding.0,
      gathers.holding.1,
      ap (λ (q : List ℕ). q ++ more) gathers.holding.2 ∙ append_assoc gathers.holding.0 held more,
      gathers.holding.3,
    );
    left_alone = gathers.left_alone;
  }

  -- after a fault
  pub Gathers-stop : (first now : K) (held more bytes : List ℕ) → Gathers output leaves first now held sent.WriteFault bytes
      → Gathers output leaves first now held sent.WriteFault (bytes ++ more)
  Gathers-stop first now held more bytes gathers = record { holding = Sends-stop more gathers.holding; left_alone = gathers.left_alone }

  -- what waits was written, and bytes more
  pub Gathers-sent : (first mid now : K) (held more bytes : List ℕ) (how : Sent) → Gathers output leaves first mid held sent.Ok bytes
      → Sends (output mid) (output now) (held ++ more) how → (leaves first mid → leaves first now)
      → Gathers output leaves first now [] how (bytes ++ more)
  Gathers-sent first mid now held more bytes how gathers sends join = record {
    holding = held_nothing (bytes ++ more) how (Holds-send held more bytes how gathers.holding sends);
    left_alone = join gathers.left_alone;
  }

  -- what waits was written at last
  pub Gathers-finished : (first mid now : K) (held bytes : List ℕ) (how : Sent) → Gathers output leaves first mid held sent.Ok bytes
      → Sends (output mid) (output now) held how → Sends (output first) (output now) bytes how
  Gathers-finished first mid now held bytes how gathers sends =
      let more = Holds-send held [] bytes how gathers.holding (subst (λ (q : List ℕ). Sends (output mid) (output now) q how) (sym (append-nil held)) sends) in
      subst (λ (q : List ℕ). Sends (output first) (output now) q how) (append-nil bytes) more
