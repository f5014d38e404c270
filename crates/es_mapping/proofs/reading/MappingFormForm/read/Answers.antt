use Rattle.std.proofs.Common.{sym, subst}
use Rattle.es_grammar.specs.Reading.{Gives}
use Rattle.es_mapping.specs.Mappings.{most_levels}
use Rattle.es_mapping.proofs.Fields.{mapping_form-lines}
use Rattle.es_mapping.proofs.reading.MappingFormForm.read.Goals as goal

pub returns-clause-gives : goal.returns-clause-gives
unfolding most_levels
returns-clause-gives c = subst (Gives c.mapping_of.result) (sym (mapping_form-lines c.args.tree.now)) c.mapping_of.ensures.gives
