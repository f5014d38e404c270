-- The printed mapping of an index.
use Rattle.std.proofs.Common.{◌≡◌, ℕ, List, ◌++◌, codes, append_assoc}
use Rattle.json.specs.Print.{quoted, escape_byte}
use Rattle.es_tree.specs.declared.tree.Tree.{Tree}
use Rattle.es_tree.specs.Text.{text_of}
use Rattle.es_tree.proofs.Texts.{printed}
use Rattle.es_reply.specs.Bodies.{object_of}

-- an object under an object, as it is printed around the text of the mapping
pub mapping_text : (index : List ℕ) (mapping : Tree) → text_of (object_of index (object_of (codes "mappings") mapping)) ≡ (((codes "{" ++ quoted index) ++ codes ":{\"mappings\":") ++ text_of mapping) ++ codes "}}"
unfolding escape_byte
mapping_text index mapping = simp (append_assoc, printed)
