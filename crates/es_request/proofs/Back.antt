-- A mapping that is printed and put again is the same.
use Rattle.std.proofs.Common.{◌≡◌, ℕ, List, [], ◌∷◌, Result, Ok, Err, codes, refl}
use Rattle.es_tree.specs.declared.tree.Tree.{Tree}
use Rattle.es_tree.specs.declared.tree.Named.{Named}
use Rattle.es_tree.specs.declared.fault.TreeFault.{TreeFault}
use Rattle.es_tree.specs.declared.fault.TreeFault.TheVariants.{NotJson}
use Rattle.json.specs.Lex.{lex, punctuate}
use Rattle.json.specs.Json.{value}
use Rattle.es_tree.specs.Read.{read_of, max_levels}
use Rattle.es_tree.specs.Text.{text_of}
use Rattle.es_tree.proofs.Faults.{json_of-none, not_json}
use Rattle.es_grammar.proofs.Back.{members_of-Object}
use Rattle.es_value.specs.declared.kinds.FieldType.{FieldType}
use Rattle.es_mapping.specs.Mappings.{mapping_form}
use Rattle.es_mapping.specs.Printed.{single, mapping_tree}
use Rattle.es_mapping.proofs.Back.{mapping_back}
use Rattle.es_request.specs.Bodies.{body_of, creation_form}
use Rattle.es_request.specs.Laws.{creation_tree, CreationReadsBack, BodyReadsBack, TextReadsBack}
use Rattle.es_request.proofs.Printed.{creation_read}

of_mapping : (t : Tree) (mapping : List (Named FieldType)) → mapping_form t ≡ Ok mapping → creation_form (single (codes "mappings") t) ≡ Ok mapping
unfolding creation_form
of_mapping t mapping e = rw (members_of-Object (record { name = codes "mappings"; value = t } ∷ []), e) refl

pub reads_back : CreationReadsBack
reads_back mapping is = of_mapping (mapping_tree mapping) mapping (mapping_back mapping is)

-- ---- bodies

-- no bytes are no tree
nothing_read : read_of [] ≡ Err NotJson
unfolding read_of lex punctuate value
nothing_read = not_json max_levels [] (json_of-none [] (λ text. refl))

no_tree : (r : Result Tree TreeFault) (t : Tree) → r ≡ Err NotJson → r ≡ Ok t → ⊥
no_tree r t is e = cc

of_read : (body : List ℕ) (t : Tree) (mapping : List (Named FieldType)) → read_of body ≡ Ok t → creation_form t ≡ Ok mapping → body_of creation_form body ≡ Ok mapping
unfolding body_of
of_read body t mapping e is = rw (e, is) refl

pub body_reads_back : BodyReadsBack
body_reads_back mapping [] is e = absurd (no_tree (read_of []) (creation_tree mapping) nothing_read e)
body_reads_back mapping (b ∷ body) is e = of_read (b ∷ body) (creation_tree mapping) mapping e (reads_back mapping is)

pub text_reads_back : TextReadsBack
text_reads_back mapping is utf8 levels = body_reads_back mapping (text_of (creation_tree mapping)) is (creation_read mapping is utf8 levels)
