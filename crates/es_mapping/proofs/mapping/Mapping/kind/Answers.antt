use Rattle.std.proofs.Common.{sym, ap, ◌∙◌, rules, map}
use Rattle.std.proofs.lemmas.Bool.{and_parts}
use Rattle.std.proofs.lemmas.Fn.{always_returns_same}
use Rattle.es_tree.specs.Find.{value_named}
use Rattle.es_tree.specs.Rising.{name_of}
use Rattle.es_mapping.specs.Paths.{path_cmp, are_paths, are_rising}
use Rattle.es_mapping.proofs.Search.{value_named-found, value_named-absent}
use Rattle.es_mapping.proofs.mapping.Mapping.kind.Goals as goal

pub returns-in-Ok : goal.returns-in-Ok
returns-in-Ok c =
    let found = c.in-Ok.ensures in
    let name = c.args.path.now in
    let items = c.as_slice-fields.result.now in
    let equal = found.position (λ m. path_cmp m.name name) (always_returns_same _ _ _ (λ a r next called. (search rules, search rules))) in
    let same = c.as_slice-fields.ensures.value in
    let rising = (and_parts (are_paths (map name_of c.self.inside.fields.items)) (are_rising (map name_of c.self.inside.fields.items)) c.self.invariant).1 in
    let is = value_named-found name items (rw same rising) c.in-Ok.at found.bound equal c.index-fields-at.result in
    sym (ap (value_named name) (sym (same ∙ c.self.view_is)) ∙ is)

pub returns-in-Err : goal.returns-in-Err
returns-in-Err c =
    let name = c.args.path.now in
    let items = c.as_slice-fields.result.now in
    let apart = c.in-Err.ensures.position (λ m. path_cmp m.name name) (always_returns_same _ _ _ (λ a r next called. (search rules, search rules))) in
    let same = c.as_slice-fields.ensures.value in
    let rising = (and_parts (are_paths (map name_of c.self.inside.fields.items)) (are_rising (map name_of c.self.inside.fields.items)) c.self.invariant).1 in
    sym (ap (value_named name) (sym (same ∙ c.self.view_is)) ∙ value_named-absent name items (rw same rising) c.in-Err.field-0 apart)
