-- The JSON string of a text.
use Rattle.std.proofs.Common.{◌≡◌, ℕ, List}
use Rattle.json.specs.Print.{quoted}
use Rattle.es_tree.specs.declared.tree.Tree as tree
use Rattle.es_tree.specs.Text.{text_step, text_of}
use Rattle.es_tree.proofs.Induction.{fold-Text}

pub text_of_Text : (s : List ℕ) → text_of (tree.Text s) ≡ quoted s
unfolding text_of
text_of_Text s = fold-Text (List ℕ) text_step s
