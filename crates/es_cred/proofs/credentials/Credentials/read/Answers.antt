use Rattle.std.proofs.Common.{◌≡◌, Some, option_map, sym, ◌∙◌, ap, subst, refl}
use Rattle.std.specs.Option.{option_copied}
use Rattle.std.proofs.lemmas.Result.{IfOk-weaker}
use Rattle.base64.specs.Engines.{standard}
use Rattle.base64.specs.GeneralPurpose.{encode_of}
use Rattle.es_cred.specs.Credentials.{scheme_of, IsOnlySpelling}
use Rattle.es_cred.proofs.Spelling.{said_only}
use Rattle.es_cred.proofs.credentials.Credentials.read.Goals as goal

pub returns-in-Ok-clause-only : goal.returns-in-Ok-clause-only
returns-in-Ok-clause-only c =
    let value = c.in-Some.value.now in
    let is : scheme_of value ≡ Some (c.in-Some-scheme_of.scheme, c.in-Some-scheme_of.token.now) =
    sym c.scheme_of.ensures ∙ ap (option_map (λ found. (found.0, found.1.now))) c.in-Some-scheme_of.is in
    let coded = c.in-Ok.ensures.exact (refl, refl) ∙ ap (encode_of standard) (sym c.as_slice.ensures.value) in
    let given = ap option_copied c.in-Some.is in
    IfOk-weaker c.pair_in.result _ _
    (λ found e. subst (λ o. IsOnlySpelling o found) (sym given) (subst (IsOnlySpelling (Some value)) (sym e)
    (said_only value c.in-Some-scheme_of.token.now c.as_slice.result.now c.in-Some-scheme_of.scheme is coded)))
    c.pair_in.ensures
