-- What is printed reads back: each form at the tree that it prints.
use Rattle.std.proofs.Common.{◌≡◌, ℕ, ℤ, List, [], Bool, Result, Ok, rules}
use Rattle.es_tree.specs.declared.tree.Tree.{Tree, the_lemmas}
use Rattle.es_tree.specs.declared.tree.Tree as tree
use Rattle.es_tree.specs.declared.tree.Named.{Named}
use Rattle.es_grammar.specs.Reading.{if_holds}
use Rattle.es_grammar.specs.Members.{members_of}
use Rattle.es_grammar.specs.Values.{text_form, truth_form, whole_form, is_between, list_form, one_or_list_form, items_of, empty_list_form, object_form}

pub members_of-Object : (ms : List (Named Tree)) → members_of (tree.Object ms) ≡ Ok ms
members_of-Object ms = search (rules, the_lemmas)

pub object_form-Object : (ms : List (Named Tree)) → object_form (tree.Object ms) ≡ Ok (tree.Object ms)
object_form-Object ms = search (rules, the_lemmas)

pub text_form-Text : (s : List ℕ) → text_form (tree.Text s) ≡ Ok s
text_form-Text s = search (rules, the_lemmas)

pub truth_form-Bool : (b : Bool) → truth_form (tree.Bool b) ≡ Ok b
truth_form-Bool b = search (rules, the_lemmas)

pub whole_form-Int : (least greatest z : ℤ) → whole_form least greatest (tree.Int z) ≡ if_holds (is_between least greatest z) z
whole_form-Int least greatest z = search (rules, the_lemmas)

pub empty_list_form-List : empty_list_form (tree.List []) ≡ Ok tt
empty_list_form-List = search (rules, the_lemmas)

pub list_form-List : {A : Type 0} (form : Tree → Result A (List ℕ)) (ts : List Tree) → list_form form (tree.List ts) ≡ items_of form 0 ts
list_form-List form ts = search (rules, the_lemmas)

pub one_or_list_form-List : {A : Type 0} (form : Tree → Result A (List ℕ)) (ts : List Tree) → one_or_list_form form (tree.List ts) ≡ items_of form 0 ts
one_or_list_form-List form ts = search (rules, the_lemmas)
