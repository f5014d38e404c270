use Rattle.std.proofs.Common.{◌≡◌, ◌++◌, drop}
use Rattle.es_tree.specs.Text.{with_commas, after_commas}
use Rattle.es_reply.proofs.texts.joined.Given as goal

-- what is written, with the texts that are left behind commas, is the whole
abbrev pub invariant-loop-text : goal.invariant-loop-text
invariant-loop-text l = l.whole ++ after_commas (drop l.text-index l.others) ≡ with_commas l.texts
