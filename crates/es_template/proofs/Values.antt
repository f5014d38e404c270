-- What values are inside a text.
use Rattle.std.proofs.Common.{◌≡◌, ℕ, List, [], rules}
use Rattle.es_tree.specs.declared.tree.Tree.{the_lemmas}
use Rattle.es_tree.specs.declared.tree.Tree as tree
use Rattle.es_template.specs.Filling.{tag_text}

pub tag_text_Null : tag_text tree.Null ≡ []
tag_text_Null = search (rules, the_lemmas)

pub tag_text_Text : (s : List ℕ) → tag_text (tree.Text s) ≡ s
tag_text_Text s = search (rules, the_lemmas)

pub ruleset tag_texts = (tag_text_Null, tag_text_Text)
