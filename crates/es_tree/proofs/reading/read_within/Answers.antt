use Rattle.std.proofs.Common.{◌≡◌, ◌<◌, ◌≤◌, inr, arith}
use Rattle.std.proofs.lemmas.Bool.{false≢true}
use Rattle.serde_json.specs.Data.{depth}
use Rattle.serde_json.specs.View.{view}
use Rattle.es_tree.specs.Read.{tree_of, read_within_of, or_not_whole}
use Rattle.es_tree.proofs.Faults.{json_of-some, json_of-none, not_json, too_deep, shallow, found_from_converts, fault_from_converts, levels_from_converts}
use Rattle.es_tree.proofs.reading.read_within.Goals as goal

pub returns-else-is_memory-clause-fault : goal.returns-else-is_memory-clause-fault
returns-else-is_memory-clause-fault c = inr (not_json c.args.limit c.args.bytes.now (json_of-none c.args.bytes.now (c.in-Err.ensures.err (λ m. false≢true (c.if-is_memory.ensures.1 m)))))

pub returns-then-not-is_within-clause-fault : goal.returns-then-not-is_within-clause-fault
returns-then-not-is_within-clause-fault c =
    let ok = c.in-Ok.ensures.ok in
    let deep : c.args.limit < depth (view c.in-Ok.value) = grind (arith, c.is_within.ensures, c.if-not-is_within.true) in
    inr (too_deep c.args.limit c.args.bytes.now (view c.in-Ok.value) (json_of-some c.args.bytes.now _ ok.0 ok.1) deep)

pub returns-clause-found : goal.returns-clause-found
returns-clause-found c =
    let ok = c.in-Ok.ensures.ok in
    let within : depth (view c.in-Ok.value) ≤ c.args.limit = grind (arith, c.is_within.ensures, c.if-not-is_within.false) in
    let is : read_within_of c.args.limit c.args.bytes.now ≡ or_not_whole (tree_of (view c.in-Ok.value)) = shallow c.args.limit c.args.bytes.now _ (json_of-some c.args.bytes.now _ ok.0 ok.1) within in
    found_from_converts c.tree_from.result _ _ is c.tree_from.ensures.value

pub returns-clause-fault : goal.returns-clause-fault
returns-clause-fault c =
    let ok = c.in-Ok.ensures.ok in
    let within : depth (view c.in-Ok.value) ≤ c.args.limit = grind (arith, c.is_within.ensures, c.if-not-is_within.false) in
    let is : read_within_of c.args.limit c.args.bytes.now ≡ or_not_whole (tree_of (view c.in-Ok.value)) = shallow c.args.limit c.args.bytes.now _ (json_of-some c.args.bytes.now _ ok.0 ok.1) within in
    fault_from_converts c.tree_from.result _ _ is c.tree_from.ensures.value

pub returns-clause-levels : goal.returns-clause-levels
returns-clause-levels c =
    let within : depth (view c.in-Ok.value) ≤ c.args.limit = grind (arith, c.is_within.ensures, c.if-not-is_within.false) in
    levels_from_converts c.args.limit c.tree_from.result (view c.in-Ok.value) within c.tree_from.ensures.value
