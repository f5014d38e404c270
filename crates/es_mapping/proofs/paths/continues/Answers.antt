use Rattle.std.proofs.Common.{◌≡◌, ◌∙◌, sym, ap₂, false}
use Rattle.es_mapping.specs.Below.{continues}
use Rattle.es_mapping.proofs.Apart.{continues_not, continues_at}
use Rattle.es_mapping.proofs.paths.continues.Goals as goal

pub returns-else-text-path : goal.returns-else-text-path
returns-else-text-path c =
    let path = c.as_bytes-path.result.now in
    let text = c.as_bytes-text.result.now in
    continues_at path text (sym c.starts_with.ensures.value ∙ c.if-starts_with.true) c.if-text-path.false ∙ ap₂ continues c.as_bytes-path.ensures.value c.as_bytes-text.ensures.value

pub returns-else-starts_with : goal.returns-else-starts_with
returns-else-starts_with c =
    let path = c.as_bytes-path.result.now in
    let text = c.as_bytes-text.result.now in
    let no : c.starts_with.result ≡ false = c.if-starts_with.false in
    no ∙ sym (continues_not path text (sym c.starts_with.ensures.value ∙ no)) ∙ ap₂ continues c.as_bytes-path.ensures.value c.as_bytes-text.ensures.value
