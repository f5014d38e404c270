use Rattle.std.proofs.Common.{◌≡◌, ap, ◌∙◌}
use Rattle.percent_encoding.specs.Percent.{percent_decode}
use Rattle.percent_encoding.specs.declared.DecodeError.TheVariants.{OutOfMemory}
use Rattle.es_route.proofs.Steps.{decoded_is, decoded_not}
use Rattle.es_route.proofs.parameters.decoded_text.Goals as goal

pub returns-in_ok-owned-in-Ok : goal.returns-in_ok-owned-in-Ok
returns-in_ok-owned-in-Ok c =
    decoded_is c.args.segment.now _ _ _ (c.percent_decode.ensures.bytes ∙ ap percent_decode c.as_bytes.ensures.value)
    c.in-Ok.ensures.ok_only_if_utf8 c.in-Ok.ensures.value c.in_ok-owned-in-Ok.ensures

pub returns-in_ok-bad_path-in-Utf8 : goal.returns-in_ok-bad_path-in-Utf8
returns-in_ok-bad_path-in-Utf8 c =
    decoded_not c.args.segment.now _ _ (c.percent_decode.ensures.bytes ∙ ap percent_decode c.as_bytes.ensures.value)
    (λ text. let other : c.in-Err.error ≡ OutOfMemory = c.in-Err.ensures.utf8 text in cc)
    c.in_ok-bad_path-in-Utf8.ensures
