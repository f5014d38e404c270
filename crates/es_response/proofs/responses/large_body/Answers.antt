use Rattle.std.proofs.Common.{refl}
use Rattle.std.specs.Fmt.{digits}
use Rattle.json.specs.Print.{escape_byte}
use Rattle.es_response.specs.Reply.{response, error_body}
use Rattle.es_response.proofs.responses.large_body.Goals as goal

pub returns : goal.returns
unfolding response error_body digits escape_byte
returns c = refl
