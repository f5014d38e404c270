use Rattle.std.proofs.Common.{◌≡◌, drop, take, map, true, ◌&&◌}
use Rattle.std.specs.List.{list_all}
use Rattle.es_tree.specs.Rising.{name_of}
use Rattle.es_grammar.specs.Members.{each_of, named}
use Rattle.es_grammar.proofs.Fronts.{with_front}
use Rattle.es_grammar.proofs.maps.map_of.Given as goal

abbrev pub invariant-loop-member : goal.invariant-loop-member
invariant-loop-member g l =
    (with_front l.found (each_of (named g.N.Name.permits g.F.Form.form) (drop l.member-index l.member-items)) ≡ each_of (named g.N.Name.permits g.F.Form.form) l.members)
    × (map name_of l.found ≡ map name_of (take l.member-index l.member-items))
    × (list_all (λ m. g.N.Name.permits m.name && g.F.Form.sound m.value) l.found ≡ true)
