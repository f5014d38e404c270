use Rattle.std.proofs.Common.{◌≡◌, true}
use Rattle.std.specs.List.{list_all}
use Rattle.std.specs.Vec.Iter.{into_iter_items}
use Rattle.es_tree.specs.Order.{is_ordered}
use Rattle.serde_json.specs.View.{items_view, members_view}
use Rattle.es_tree.specs.Read.{trees_of, members_of}
use Rattle.es_tree.proofs.Fronts.{with_front}
use Rattle.es_tree.proofs.reading.+converting.Given as goal

-- what was found, with what is left, is the whole
abbrev pub invariant-trees_from-loop-item : goal.invariant-trees_from-loop-item
invariant-trees_from-loop-item l = (trees_of (items_view l.fn.items.items) ≡ with_front l.found (trees_of (items_view (into_iter_items l.item-iterator)))) × (list_all is_ordered l.found ≡ true)

abbrev pub invariant-members_from-loop-key : goal.invariant-members_from-loop-key
invariant-members_from-loop-key l = (members_of (members_view l.fn.entries.entries) ≡ with_front l.found (members_of (members_view l.key-iterator))) × (list_all (λ m. is_ordered m.value) l.found ≡ true)
