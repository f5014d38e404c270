use Rattle.std.proofs.Common.{◌≡◌, ℕ, List, ◌++◌, codes, sym, ap, ◌∙◌, append_assoc}
use Rattle.std.proofs.lemmas.Result.{on_ok_weaker}
use Rattle.es_template.specs.declared.kinds.Property.{Property}
use Rattle.es_template.specs.declared.kinds.Property.TheVariants.{Metadata}
use Rattle.es_template.specs.Marks.{joined}
use Rattle.es_template.specs.Tags.{property_name}
use Rattle.es_template.proofs.printing.add_name.Goals as goal

path_added : (out pushed new : List ℕ) (path : List (List ℕ)) (property : Property) → property ≡ Metadata path → pushed ≡ out ++ codes "_user.metadata." → new ≡ pushed ++ joined (codes ".") path → new ≡ out ++ property_name property
path_added out pushed new path property is front e =
    e ∙ ap (λ l. l ++ joined (codes ".") path) front ∙ append_assoc out (codes "_user.metadata.") (joined (codes ".") path) ∙ ap (λ p. out ++ property_name p) (sym is)

pub returns-in_ok-push_str-in-Metadata : goal.returns-in_ok-push_str-in-Metadata
returns-in_ok-push_str-in-Metadata c =
    on_ok_weaker c.add_path.result
    (λ e. path_added c.args.out.now c.push_str-in-Metadata.new.self c.add_path.new.out c.in-Metadata.path c.args.property.now c.in-Metadata.is c.in_ok-push_str-in-Metadata.ensures.ok (e ∙ ap (λ names. c.push_str-in-Metadata.new.self ++ joined (codes ".") names) c.as_slice.ensures))
    c.add_path.ensures
