-- The template of each kind of tree.
use Rattle.std.proofs.Common.{◌≡◌, ℕ, ◌+◌, ℤ, List, [], ◌∷◌, map, Bool, Result, Ok, refl, ap, ◌∙◌}
use Rattle.es_tree.specs.declared.tree.Tree.{Tree}
use Rattle.es_tree.specs.declared.tree.Tree as tree
use Rattle.es_tree.specs.declared.tree.Named.{Named}
use Rattle.es_tree.proofs.Induction.{fold-Null, fold-Bool, fold-Int, fold-Text, fold-List, fold-Object}
use Rattle.es_grammar.specs.Reading.{◌>>=◌}
use Rattle.es_grammar.specs.Values.{items_of}
use Rattle.es_template.specs.declared.kinds.Template.{Template}
use Rattle.es_template.specs.declared.kinds.Template as template
use Rattle.es_template.specs.Sources.{text_template, members_form, template_step, template_form, member_reading}

abbrev Read : Type 0
Read = Result Template (List ℕ)

items_read : {A : Type 0} (form : Tree → Result A (List ℕ)) (n : ℕ) (ts : List Tree) → items_of (λ (r : Result A (List ℕ)). r) n (map form ts) ≡ items_of form n ts
items_read form n [] = refl
items_read form n (t ∷ ts) = rw (items_read form (n + 1) ts) refl

pub template_form_Null : template_form tree.Null ≡ Ok template.Null
unfolding template_form
template_form_Null = fold-Null Read template_step

pub template_form_Bool : (b : Bool) → template_form (tree.Bool b) ≡ Ok (template.Bool b)
unfolding template_form
template_form_Bool b = fold-Bool Read template_step b

pub template_form_Int : (z : ℤ) → template_form (tree.Int z) ≡ Ok (template.Int z)
unfolding template_form
template_form_Int z = fold-Int Read template_step z

pub template_form_Text : (s : List ℕ) → template_form (tree.Text s) ≡ text_template s
unfolding template_form
template_form_Text s = fold-Text Read template_step s

list_step : (ts : List Tree) → template_form (tree.List ts) ≡ (items_of (λ r. r) 0 (map template_form ts) >>= λ items. Ok (template.List items))
unfolding template_form
list_step ts = fold-List Read template_step ts

pub template_form_List : (ts : List Tree) → template_form (tree.List ts) ≡ (items_of template_form 0 ts >>= λ items. Ok (template.List items))
template_form_List ts = list_step ts ∙ ap (λ (r : Result (List Template) (List ℕ)). r >>= λ items. Ok (template.List items)) (items_read template_form 0 ts)

pub template_form_Object : (ms : List (Named Tree)) → template_form (tree.Object ms) ≡ (members_form (map member_reading ms) >>= λ members. Ok (template.Object members))
unfolding template_form
template_form_Object ms = fold-Object Read template_step ms

pub ruleset template_forms = (template_form_Null, template_form_Bool, template_form_Int, template_form_Text, template_form_List, template_form_Object)
