-- What reading and printing say of one another, whether or not anything is read or printed.
use Rattle.std.specs.Prelude.{◌≡◌, ℕ, List, IsTrue, Ok}
use Rattle.es_tree.specs.declared.tree.Tree.{Tree}
use Rattle.es_tree.specs.Order.{is_ordered}
use Rattle.es_tree.specs.Text.{text_of}
use Rattle.es_tree.specs.Read.{read_within_of}

-- a tree that was read has its members in order
abbrev pub ReadsOrdered : Type 0
ReadsOrdered = (limit : ℕ) (bytes : List ℕ) (t : Tree) → read_within_of limit bytes ≡ Ok t → IsTrue (is_ordered t)

-- the text of a tree that was read reads back as that tree within the same limit
abbrev pub ReadsBack : Type 0
ReadsBack = (limit : ℕ) (bytes : List ℕ) (t : Tree) → read_within_of limit bytes ≡ Ok t → read_within_of limit (text_of t) ≡ Ok t
