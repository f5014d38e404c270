use Rattle.std.proofs.Common.{◌≡◌, ◌∙◌, ap, subst, ℕ, List, Option, None, map}
use Rattle.std.specs.List.{list_all}
use Rattle.std.proofs.lemmas.Bool.{and_parts}
use Rattle.es_tree.specs.declared.tree.Named.{Named}
use Rattle.es_tree.specs.Rising.{name_of}
use Rattle.es_tree.specs.Leaves.{paths_of}
use Rattle.es_value.specs.declared.kinds.FieldType.{FieldType}
use Rattle.es_mapping.specs.Paths.{is_path, are_apart, are_paths, are_rising}
use Rattle.es_mapping.specs.Checking.{Checks}
use Rattle.es_mapping.specs.Possible.{first_along}
use Rattle.es_mapping.proofs.Walked.{fault_in-along}
use Rattle.es_mapping.proofs.mapping.Mapping.check.Goals as goal

pub returns : goal.returns
returns c =
    let fields = c.args.self.now in
    let document = c.args.document.now in
    let paths = (and_parts (are_paths (map name_of fields)) (are_rising (map name_of fields)) c.fields.ensures.are_apart).0 in
    let each = (and_parts (list_all is_path (map name_of fields)) (are_apart (map name_of fields)) paths).0 in
    subst (λ (o : Option (List ℕ × FieldType)). Checks c.check_within.result o) (ap (λ (l : List (Named FieldType)). first_along (None, 0, l) (paths_of document)) c.fields.ensures.fields ∙ fault_in-along fields document each) c.check_within.ensures
