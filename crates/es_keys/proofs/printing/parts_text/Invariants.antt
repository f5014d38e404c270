use Rattle.std.proofs.Common.{◌≡◌, ◌++◌, map, drop}
use Rattle.es_tree.specs.Text.{with_commas, after_commas}
use Rattle.es_keys.specs.Printed.{part_text}
use Rattle.es_keys.proofs.printing.parts_text.Given as goal

-- what is written, with the descriptors that are left behind commas, is the whole
abbrev pub invariant-loop-part : goal.invariant-loop-part
invariant-loop-part l = l.text ++ after_commas (map part_text (drop l.part-index l.others)) ≡ with_commas (map part_text l.parts)
