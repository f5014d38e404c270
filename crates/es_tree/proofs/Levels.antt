-- The levels of the tree of some data are those of the data.
use Rattle.std.proofs.Common.{◌≡◌, suc, max, List, map, Some, sym, ap, ap₂, ◌∙◌}
use Rattle.std.proofs.lemmas.Option.{option_and_then_some}
use Rattle.serde_json.specs.Data.{Data, null, boolean, number, string, array, object, Items, no_items, item, Members, no_members, member, depth, items_depth, members_depth}
use Rattle.serde_json.specs.Find.{as_i64}
use Rattle.es_tree.specs.declared.tree.Tree.{Tree}
use Rattle.es_tree.specs.declared.tree.Tree as tree
use Rattle.es_tree.specs.declared.tree.Named.{Named}
use Rattle.es_tree.specs.Order.{greatest, levels_of}
use Rattle.es_tree.specs.Read.{tree_of, trees_of, members_of}
use Rattle.es_tree.proofs.Fronts.{some_same, option_map_some}
use Rattle.es_tree.proofs.Induction.{levels_of-Null, levels_of-Bool, levels_of-Int, levels_of-Text, levels_of-List, levels_of-Object}

mutual
  pub levels_of-tree_of : (d : Data) (t : Tree) → tree_of d ≡ Some t → levels_of t ≡ depth d
  levels_of-tree_of null t e = ap levels_of (sym (some_same e)) ∙ levels_of-Null
  levels_of-tree_of (boolean b) t e = ap levels_of (sym (some_same e)) ∙ levels_of-Bool b
  levels_of-tree_of (number n) t e = option_map_some tree.Int (as_i64 n) t e (λ z whole is. ap levels_of (sym is) ∙ levels_of-Int z)
  levels_of-tree_of (string s) t e = ap levels_of (sym (some_same e)) ∙ levels_of-Text s
  levels_of-tree_of (array ds) t e = option_map_some tree.List (trees_of ds) t e (λ ts found is. ap levels_of (sym is) ∙ levels_of-List ts ∙ ap suc (levels_of-trees_of ds ts found))
  levels_of-tree_of (object es) t e = option_map_some tree.Object (members_of es) t e (λ ms found is. ap levels_of (sym is) ∙ levels_of-Object ms ∙ ap suc (levels_of-members_of es ms found))

  levels_of-trees_of : (ds : Items) (ts : List Tree) → trees_of ds ≡ Some ts → greatest (map levels_of ts) ≡ items_depth ds
  levels_of-trees_of no_items ts e = ap (λ l. greatest (map levels_of l)) (sym (some_same e))
  levels_of-trees_of (item d ds) ts e =
      option_and_then_some _ (tree_of d) ts e (λ t first rest.
      option_map_some _ (trees_of ds) ts rest (λ more later is.
      ap (λ l. greatest (map levels_of l)) (sym is) ∙ ap₂ max (levels_of-tree_of d t first) (levels_of-trees_of ds more later)))

  levels_of-members_of : (es : Members) (ms : List (Named Tree)) → members_of es ≡ Some ms → greatest (map (λ (m : Named Tree). levels_of m.value) ms) ≡ members_depth es
  levels_of-members_of no_members ms e = ap (λ l. greatest (map (λ (m : Named Tree). levels_of m.value) l)) (sym (some_same e))
  levels_of-members_of (member name d es) ms e =
      option_and_then_some _ (tree_of d) ms e (λ t first rest.
      option_map_some _ (members_of es) ms rest (λ more later is.
      ap (λ l. greatest (map (λ (m : Named Tree). levels_of m.value) l)) (sym is) ∙ ap₂ max (levels_of-tree_of d t first) (levels_of-members_of es more later)))
