use Rattle.std.proofs.Common.{◌≡◌, ◌+◌, ◌*◌, drop}
use Rattle.es_mapping.specs.Mappings.{field_at}
use Rattle.es_mapping.specs.Below.{at_path, fields_of}
use Rattle.es_mapping.proofs.Fields.{behind}
use Rattle.es_mapping.proofs.reading.+fields.Given as goal

abbrev pub decreases-field : goal.decreases-field
decreases-field l = 6 * l.levels

abbrev pub decreases-fields_at : goal.decreases-fields_at
decreases-fields_at l = 6 * l.levels + 1

abbrev pub decreases-each_field : goal.decreases-each_field
decreases-each_field l = 6 * l.levels + 2

abbrev pub decreases-properties : goal.decreases-properties
decreases-properties l = 6 * l.levels + 3

abbrev pub decreases-given_properties : goal.decreases-given_properties
decreases-given_properties l = 6 * l.levels + 4

abbrev pub decreases-field_in : goal.decreases-field_in
decreases-field_in l = 6 * l.levels + 5

-- what was found, with what is left, is the whole
abbrev pub invariant-each_field-loop-member : goal.invariant-each_field-loop-member
invariant-each_field-loop-member l =
    behind l.found.items (at_path l.is_top l.path (fields_of (field_at l.levels) (drop l.member-index l.members))) ≡ at_path l.is_top l.path (fields_of (field_at l.levels) l.members)
