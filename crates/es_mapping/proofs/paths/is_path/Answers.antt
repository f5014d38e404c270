use Rattle.std.proofs.Common.{◌≡◌, ◌∙◌, ap, length, ◌==◌, lit<, rules, nat_le, true, false, ◌&&◌, sym}
use Rattle.std.specs.List.{list_all, slice_split}
use Rattle.std.proofs.lemmas.Bool.Decides.{nat_tests}
use Rattle.std.proofs.lemmas.Iterator.Search.{all_from_yields_List}
use Rattle.std.proofs.lemmas.Iterator.Consumers.{count_from_yields_List}
use Rattle.std.proofs.lemmas.Iterator.Splits.{YieldsList-from_str_split}
use Rattle.es_mapping.specs.Paths.{has_bytes, pieces}
use Rattle.es_mapping.proofs.Pieces.{split-pieces}
use Rattle.es_mapping.proofs.paths.is_path.Goals as goal

pub returns-then-all : goal.returns-then-all
returns-then-all c =
    let text = c.args.text.now in
    let all = all_from_yields_List has_bytes _ _ c.all.result c.all.ensures.ran (YieldsList-from_str_split 46 text (lit< tt) c.split.ensures.text c.split.ensures.has_more c.split.ensures.pattern) (λ x b q k. search (rules, nat_tests)) in
    let count : c.count.result ≡ length (slice_split (λ b. b == 46) text) =
    count_from_yields_List _ c.count.result c.count.ensures.ran (YieldsList-from_str_split 46 text (lit< tt) c.split-then-all.ensures.text c.split-then-all.ensures.has_more c.split-then-all.ensures.pattern) in
    let whole : list_all has_bytes (pieces text) ≡ true = ap (list_all has_bytes) (sym (split-pieces text)) ∙ sym all ∙ c.if-all.true in
    ap (λ n. nat_le n 30) (count ∙ ap length (split-pieces text)) ∙ ap (λ b. b && nat_le (length (pieces text)) 30) (sym whole)

pub returns-else-all : goal.returns-else-all
returns-else-all c =
    let text = c.args.text.now in
    let all = all_from_yields_List has_bytes _ _ c.all.result c.all.ensures.ran (YieldsList-from_str_split 46 text (lit< tt) c.split.ensures.text c.split.ensures.has_more c.split.ensures.pattern) (λ x b q k. search (rules, nat_tests)) in
    let none : list_all has_bytes (pieces text) ≡ false = ap (list_all has_bytes) (sym (split-pieces text)) ∙ sym all ∙ c.if-all.false in
    c.if-all.false ∙ sym (ap (λ b. b && nat_le (length (pieces text)) 30) none)
