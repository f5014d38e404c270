use Rattle.std.proofs.Common.{◌∙◌, option_map, string_bytes}
use Rattle.esec_node.specs.Options.{options_as}
use Rattle.esec_node.proofs.Words.{turned}
use Rattle.esec_node.proofs.options.options_in.Goals as goal

pub loop-name-preserved : goal.loop-name-preserved
loop-name-preserved c =
    turned string_bytes (option_map options_as c.loop-name.options) (option_map options_as c.next_option-options.result) c.loop-name.rest.now c.in-Some.behind.now c.in-Some-split_first.more.now _ _
    c.as_str.result.now c.as_str-in-Some.result.now c.in-Some.ensures.cases.0 c.in-Some-split_first.ensures.cases.0 c.as_str.ensures.value c.as_str-in-Some.ensures.value c.next_option-options.ensures
    ∙ c.loop-name.invariant
