use Rattle.std.proofs.Common.{◌≡◌, map, option_map, string_bytes, Some, length}
use Rattle.esec_node.specs.Options.{options_as, options_from, no_options}
use Rattle.esec_node.proofs.options.options_in.Given as goal

-- what is left gives more to what was given
abbrev pub invariant-loop-name : goal.invariant-loop-name
invariant-loop-name l = options_from (option_map options_as l.options) (map string_bytes l.rest) ≡ options_from (Some no_options) (map string_bytes l.fn.words)

abbrev pub decreases-loop-name : goal.decreases-loop-name
decreases-loop-name l = length l.rest
