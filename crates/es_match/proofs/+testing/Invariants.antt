use Rattle.std.proofs.Common.{◌≡◌, map, drop, nat_le}
use Rattle.std.specs.List.{list_all, list_any}
use Rattle.es_match.specs.Holds.{how_many}
use Rattle.es_match.specs.Ready.{matcher_holds}
use Rattle.es_match.proofs.+testing.Given as goal

-- all hold exactly where those that are left do
abbrev pub invariant-testing::all_hold-loop-matcher : goal.invariant-testing::all_hold-loop-matcher
invariant-testing::all_hold-loop-matcher l = list_all (λ b. b) (map (matcher_holds l.written l.document) l.matchers) ≡ list_all (λ b. b) (map (matcher_holds l.written l.document) (drop l.matcher-index l.matchers))

-- one holds exactly where one of those that are left does
abbrev pub invariant-testing::any_holds-loop-matcher : goal.invariant-testing::any_holds-loop-matcher
invariant-testing::any_holds-loop-matcher l = list_any (λ b. b) (map (matcher_holds l.written l.document) l.matchers) ≡ list_any (λ b. b) (map (matcher_holds l.written l.document) (drop l.matcher-index l.matchers))

-- what is missing has to be among those that are left
abbrev pub invariant-testing::enough_hold-loop-matcher : goal.invariant-testing::enough_hold-loop-matcher
invariant-testing::enough_hold-loop-matcher l = nat_le l.missing (how_many (map (matcher_holds l.written l.document) (drop l.matcher-index l.matchers))) ≡ nat_le l.fn.minimum (how_many (map (matcher_holds l.written l.document) l.matchers))
