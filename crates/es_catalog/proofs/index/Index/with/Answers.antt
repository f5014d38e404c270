use Rattle.std.proofs.Common.{List, Option, ap, ◌∙◌, subst}
use Rattle.es_tree.specs.declared.tree.Named.{Named}
use Rattle.es_value.specs.declared.kinds.FieldType.{FieldType}
use Rattle.es_mapping.specs.Mappings.{IsWithin}
use Rattle.es_catalog.specs.declared.index.Stored.{Stored}
use Rattle.es_catalog.specs.Changes.{version_of, version_after}
use Rattle.es_catalog.proofs.Written.{told, told_small, insert_sound, insert_is}
use Rattle.es_catalog.proofs.index.Index.with.Goals as goal

pub version_after-requires : goal.version_after-requires
version_after-requires c =
    told_small c.self.inside.incarnation c.self.inside.mapping c.self.inside.documents c.self.invariant c.args.id.now _ _ c.args.self.now c.self.view_is c.text.ensures c.get-2.ensures c.requires

pub invariant_of-result : goal.invariant_of-result
invariant_of-result c =
    insert_sound c.self.inside.incarnation c.self.inside.mapping c.self.inside.documents c.self.invariant c.args.id.now _ _
    (record { version = c.version_after.result; document = c.in_ok-share.field-0; written = c.in_ok-share-2.field-0 }) _ c.in_ok-share-3.ensures c.in_ok-with.ensures c.in_ok-share-2.ensures
    (subst (λ (m : List (Named FieldType)). IsWithin m m) c.get.ensures c.laws.ensures)

pub returns : goal.returns
returns c =
    let found = told c.self.inside.incarnation c.self.inside.mapping c.self.inside.documents c.self.invariant c.args.id.now _ _ c.text.ensures c.get-2.ensures in
    rw (← c.self.view_is)
    (insert_is c.self.inside.incarnation c.self.inside.mapping c.self.inside.documents c.self.invariant c.args.id.now _ _
    (record { version = c.version_after.result; document = c.in_ok-share.field-0; written = c.in_ok-share-2.field-0 }) c.args.document.now _ c.in_ok-share-3.ensures c.in_ok-copy.ensures c.in_ok-with.ensures
    (c.version_after.ensures ∙ ap (λ (stored : Option Stored). version_after (version_of stored)) found) c.in_ok-share.ensures c.in_ok-share-2.ensures)
