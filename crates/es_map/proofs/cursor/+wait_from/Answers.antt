use Rattle.std.proofs.Common.{◌≡◌, ◌++◌, ◌∷◌, [], Less, Equal, Greater, nat_cmp, subst}
use Rattle.std.specs.Cmp.Lexicographic.{slice_cmp}
use Rattle.std.specs.BTreeMap.Range.{entries_from}
use Rattle.std.proofs.lemmas.Result.{IfOk-weaker}
use Rattle.es_map.specs.Waiting.{Adds}
use Rattle.es_map.proofs.Walks.{adds_left, adds_here, adds_right}
use Rattle.es_map.proofs.cursor.+wait_from.Goals as goal

pub returns-in_ok-push-in-Less : goal.returns-in_ok-push-in-Less
returns-in_ok-push-in-Less g t c =
    let node = c.in-Some.node in
    let order : slice_cmp nat_cmp c.args.key.now node.now.entry.key ≡ Less = cc in
    let pushed : c.push.new.self.items ≡ c.args.waiting.now.items ++ node ∷ [] = c.in_ok-push-in-Less.ensures.items in
    IfOk-weaker c.wait_from.result _ _ (λ _ adds. adds_left c.args.waiting.now.items c.wait_from.new.waiting.items c.args.key.now c.args.map.now node c.in-Some.ensures order
    (subst (λ l. Adds l c.wait_from.new.waiting.items (entries_from (slice_cmp nat_cmp c.args.key.now) node.now.left)) pushed adds)) c.wait_from.ensures

pub returns-in_ok-push-in-Equal : goal.returns-in_ok-push-in-Equal
returns-in_ok-push-in-Equal g t c =
    let node = c.in-Some.node in
    let order : slice_cmp nat_cmp c.args.key.now node.now.entry.key ≡ Equal = cc in
    adds_here c.args.waiting.now.items c.push-in-Equal.new.self.items c.args.key.now c.args.map.now node c.in-Some.ensures order c.in_ok-push-in-Equal.ensures.items

pub returns-in-Greater : goal.returns-in-Greater
returns-in-Greater g t c =
    let node = c.in-Some.node in
    let order : slice_cmp nat_cmp c.args.key.now node.now.entry.key ≡ Greater = cc in
    IfOk-weaker c.wait_from-in-Greater.result _ _ (λ _ adds. adds_right c.args.waiting.now.items c.wait_from-in-Greater.new.waiting.items c.args.key.now c.args.map.now node c.in-Some.ensures order adds) c.wait_from-in-Greater.ensures
