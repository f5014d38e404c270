use Rattle.std.proofs.Common.{◌≤◌, ◌↔◌, drop}
use Rattle.serde_json.specs.Data.{items_depth, members_depth}
use Rattle.serde_json.specs.View.{items_view, members_view}
use Rattle.es_tree.proofs.reading.+levels.Given as goal

-- what is left decides
abbrev pub invariant-items_within-loop-item : goal.invariant-items_within-loop-item
invariant-items_within-loop-item l = (items_depth (items_view (drop l.item-index l.item-items)) ≤ l.limit) ↔ (items_depth (items_view l.items.items) ≤ l.limit)

abbrev pub invariant-members_within-loop-name : goal.invariant-members_within-loop-name
invariant-members_within-loop-name l = (members_depth (members_view l._name-iterator) ≤ l.limit) ↔ (members_depth (members_view l.members.entries) ≤ l.limit)
