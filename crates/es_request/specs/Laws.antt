-- What is put again of a mapping that was printed.
use Rattle.std.specs.Prelude.{◌≡◌, ◌≤◌, ℕ, List, Ok, IsTrue, codes}
use Rattle.std.specs.Str.{IsUtf8}
use Rattle.es_tree.specs.declared.tree.Tree.{Tree}
use Rattle.es_tree.specs.declared.tree.Named.{Named}
use Rattle.es_tree.specs.Order.{levels_of}
use Rattle.es_tree.specs.Read.{read_of, max_levels}
use Rattle.es_tree.specs.Text.{text_of}
use Rattle.es_value.specs.declared.kinds.FieldType.{FieldType}
use Rattle.es_mapping.specs.Mappings.{is_mapping}
use Rattle.es_mapping.specs.Printed.{single, mapping_tree}
use Rattle.es_request.specs.Bodies.{creation_form, mapping_of_creation}

-- what creates an index with this mapping: the object whose one member is the mapping as it is printed
abbrev pub creation_tree : List (Named FieldType) → Tree
creation_tree mapping = single (codes "mappings") (mapping_tree mapping)

-- a mapping that is printed and put again is the same mapping
abbrev pub CreationReadsBack : Type 0
CreationReadsBack = (mapping : List (Named FieldType)) → IsTrue (is_mapping mapping) → creation_form (creation_tree mapping) ≡ Ok mapping

-- the same of each body that is that object, however it is spelled
abbrev pub BodyReadsBack : Type 0
BodyReadsBack = (mapping : List (Named FieldType)) (body : List ℕ) → IsTrue (is_mapping mapping) → read_of body ≡ Ok (creation_tree mapping) → mapping_of_creation body ≡ Ok mapping

-- the same of that object's own text, where that is UTF-8, as a body has to be (RFC 8259, section 8.1), and has at most 30 levels
abbrev pub TextReadsBack : Type 0
TextReadsBack = (mapping : List (Named FieldType)) → IsTrue (is_mapping mapping) → IsUtf8 (text_of (creation_tree mapping)) → levels_of (creation_tree mapping) ≤ max_levels
    → mapping_of_creation (text_of (creation_tree mapping)) ≡ Ok mapping
