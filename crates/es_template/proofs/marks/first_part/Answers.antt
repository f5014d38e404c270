use Rattle.std.proofs.Common.{◌≡◌, List, ℕ, Option, Some, option_map, Bor, ap, sym, ◌∙◌}
use Rattle.es_template.specs.Marks.{cut}
use Rattle.es_template.proofs.Cutting.{part_some, part_none, part_shorter}
use Rattle.es_template.proofs.marks.first_part.Goals as goal

abbrev seen : Option (Bor (List ℕ) × Bor (List ℕ)) → Option (List ℕ × List ℕ)
seen = option_map {T = Bor (List ℕ) × Bor (List ℕ)} {U = List ℕ × List ℕ} (λ found. (found.0.now, found.1.now))

pub returns-in-Some-clause-parts : goal.returns-in-Some-clause-parts
returns-in-Some-clause-parts c =
    let found : cut c.args.mark.now c.args.text.now ≡ Some (c.in-Some.part.now, c.in-Some.rest.now) = sym c.cut.ensures ∙ ap seen c.in-Some.is in
    part_some c.args.mark.now c.args.text.now c.in-Some.part.now c.in-Some.rest.now c.requires found

pub returns-in-Some-clause-shorter : goal.returns-in-Some-clause-shorter
returns-in-Some-clause-shorter c =
    let found : cut c.args.mark.now c.args.text.now ≡ Some (c.in-Some.part.now, c.in-Some.rest.now) = sym c.cut.ensures ∙ ap seen c.in-Some.is in
    part_shorter c.args.mark.now c.args.text.now c.in-Some.part.now c.in-Some.rest.now c.requires found

pub returns-in-None-clause-parts : goal.returns-in-None-clause-parts
returns-in-None-clause-parts c = part_none c.args.mark.now c.args.text.now c.requires (sym c.cut.ensures ∙ ap seen c.in-None.is)
