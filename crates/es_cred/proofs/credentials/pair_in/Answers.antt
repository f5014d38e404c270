use Rattle.std.proofs.Common.{Some, None, ◌∙◌, arith}
use Rattle.std.proofs.lemmas.Result.{IfOk-weaker}
use Rattle.std.proofs.lemmas.Str.Pattern.{split_once_first}
use Rattle.es_cred.proofs.Texts.{no_text, no_colon, first_colon}
use Rattle.es_cred.proofs.credentials.pair_in.Goals as goal

pub returns-in_default : goal.returns-in_default
returns-in_default c = no_text c.args.scheme c.args.bytes.now c.in_default.ensures.cases.0

pub returns-in-None : goal.returns-in-None
returns-in-None c =
    let text = c.in-Ok.ensures.cases in
    let none = split_once_first 58 c.in-Ok.text.now None c.in-None.ensures.cases (omega arith) in
    no_colon c.args.scheme c.args.bytes.now c.in-Ok.text.now text.0 text.1 none

pub returns-in-Some : goal.returns-in-Some
returns-in-Some c =
    let text = c.in-Ok.ensures.cases in
    let found = split_once_first 58 c.in-Ok.text.now (Some (c.in-Some.name, c.in-Some.secret)) c.in-Some.ensures.cases (omega arith) in
    IfOk-weaker c.said_as.result _ _
    (λ said e. e ∙ first_colon c.args.scheme c.args.bytes.now c.in-Ok.text.now c.in-Some.name.now c.in-Some.secret.now text.0 text.1 found.0 found.1 found.2)
    c.said_as.ensures
