use Rattle.std.proofs.Common.{sym, ap, subst, ◌∙◌, ◌≡◌, ◌++◌, ◌∷◌, List, map, true}
use Rattle.es_tree.specs.declared.tree.Named.{Named}
use Rattle.es_value.specs.declared.kinds.FieldType.{FieldType}
use Rattle.es_mapping.specs.Paths.{are_rising}
use Rattle.es_mapping.specs.Possible.{left_from, field_left}
use Rattle.es_mapping.proofs.Narrowed.{rising-drop, rising-take, none_before, none_after, field_below, rising_below}
use Rattle.es_mapping.proofs.narrowing.behind.Goals as goal

pub below-below-requires-clause-rising : goal.below-below-requires-clause-rising
below-below-requires-clause-rising c =
    subst (λ (l : List (Named FieldType)). are_rising (map (left_from c.args.from) l) ≡ true) (sym c.split_at.ensures.back) (rising-drop c.args.from c.not_after.result c.args.fields.now c.requires)

pub last_at-requires-clause-rising : goal.last_at-requires-clause-rising
last_at-requires-clause-rising c =
    subst (λ (l : List (Named FieldType)). are_rising (map (left_from c.args.from) l) ≡ true) (sym c.split_at.ensures.front) (rising-take c.args.from c.not_after.result c.args.fields.now c.requires)

pub returns-clause-field : goal.returns-clause-field
returns-clause-field c =
    c.last_at.ensures ∙ ap (field_left c.args.from c.args.name.now) c.split_at.ensures.front ∙ none_after c.args.from c.not_after.result c.args.name.now c.args.fields.now c.not_after.ensures.after

pub returns-clause-fields : goal.returns-clause-fields
returns-clause-fields c = λ text.
    field_below c.args.from c.place_below.result c.args.name.now text c.below-below.result.now c.place_below.ensures c.below-below.ensures.on
    ∙ c.below-below.ensures.fields text ∙ ap (field_left c.args.from (c.args.name.now ++ 46 ∷ text)) c.split_at.ensures.back
    ∙ none_before c.args.from c.not_after.result c.args.name.now text c.args.fields.now c.not_after.ensures.before

pub returns-clause-rising : goal.returns-clause-rising
returns-clause-rising c =
    rising_below c.args.from c.place_below.result c.args.name.now c.below-below.result.now c.place_below.ensures c.below-below.ensures.on c.below-below.ensures.rising
