use Rattle.std.proofs.Common.{rules}
use Rattle.es_wire.proofs.TokenLemmas.{IsUtf8-from_token}
use Rattle.es_wire.proofs.look.token_text.Goals as goal

pub unwrap-requires : goal.unwrap-requires
unwrap-requires c =
    let text = IsUtf8-from_token _ c.requires in search rules
