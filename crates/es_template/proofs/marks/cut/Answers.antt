use Rattle.std.proofs.Common.{◌≡◌, ◌≤◌, List, ℕ, length, take, drop, Option, Some, None, option_map, Bor, MatchOption, sym, ◌∙◌, arith}
use Rattle.std.specs.Str.Pattern.{FindsText, SplitsAroundMatch}
use Rattle.es_template.specs.Marks.{cut}
use Rattle.es_template.proofs.Cutting.{cut_found, cut_none}
use Rattle.es_template.proofs.marks.cut.Goals as goal

split : (mark text : List ℕ) (r : Option (Bor (List ℕ) × Bor (List ℕ))) → MatchOption r (FindsText mark text None) (λ x. SplitsAroundMatch (FindsText mark) text x.0.now x.1.now)
    → option_map {T = Bor (List ℕ) × Bor (List ℕ)} {U = List ℕ × List ℕ} (λ found. (found.0.now, found.1.now)) r ≡ cut mark text
split mark text None h = sym (cut_none mark text h)
split mark text (Some x) h =
    let i = h.0 in
    let inside : i ≤ length text = omega (arith, h.5, h.7) in
    let found : cut mark text ≡ Some (take i text, drop h.1 text) = cut_found mark text i (drop h.1 text) h.2.0 inside h.2.1.split in
    sym (found ∙ (λ k. Some (sym h.3 k, sym h.4 k)))

pub returns : goal.returns
returns c = split c.args.mark.now c.args.text.now c.split_once.result c.split_once.ensures.cases
