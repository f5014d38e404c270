use Rattle.std.proofs.Common.{rules, tests, codes, List, ℕ}
use Rattle.std.specs.Str.{str_eq_ignore_ascii_case}
use Rattle.std.proofs.lemmas.Iterator.Search.{any_from_yields_List}
use Rattle.std.proofs.lemmas.Iterator.Splits.{YieldsList-from_slice_split}
use Rattle.httparse.specs.Grammar.{trim_ows}
use Rattle.es_wire.specs.Framing.{has_close}
use Rattle.es_wire.proofs.fields.lists_close.Goals as goal

pub returns : goal.returns
unfolding has_close
returns c =
    any_from_yields_List (λ (member : List ℕ). str_eq_ignore_ascii_case (trim_ows member) (codes "close")) _ _ _ c.any.ensures.ran
    (YieldsList-from_slice_split _ _ c.args.value.now c.split.ensures.rest c.split.ensures.done c.split.ensures.closure (λ x r q k. search (rules, tests)))
    (λ x r q k. search (rules, tests))
