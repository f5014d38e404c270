use Rattle.std.proofs.Common.{◌≡◌, ◌++◌, ◌∷◌, [], true, map}
use Rattle.es_tree.specs.Rising.{is_last, name_of}
use Rattle.es_tree.proofs.Names.{rising-push}
use Rattle.es_tree.proofs.ordered.Ordered.push.Goals as goal

pub invariant_of-self-2 : goal.invariant_of-self-2
invariant_of-self-2 g c =
    let last : is_last c.args.item.name (map name_of c.self.inside.items.items) ≡ true = cc in
    let is : c.push.new.self.items ≡ c.self.inside.items.items ++ c.args.item ∷ [] = c.in_ok-push.ensures.items in
    rw is (rising-push c.self.inside.items.items c.args.item c.self.invariant last)
