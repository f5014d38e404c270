use Rattle.std.proofs.Common.{◌≡◌, List, ℕ, true, IsTrue, Ok, IfOk, subst}
use Rattle.std.specs.List.{list_all}
use Rattle.std.proofs.lemmas.Result.{IfOk-weaker}
use Rattle.es_tree.specs.declared.tree.Tree.{Tree}
use Rattle.es_grammar.specs.Values.{list_form}
use Rattle.es_role.specs.Values.{pattern_form}
use Rattle.es_role.proofs.Back.{all_true}
use Rattle.es_role.proofs.printing.patterns_of.Goals as goal

pub returns-clause-reads_back : goal.returns-clause-reads_back
returns-clause-reads_back c =
    let patterns = c.patterns.result.now in
    subst (λ (seen : List (List ℕ)). IfOk c.print.result (λ (tree : Tree). list_form pattern_form tree ≡ Ok seen)) c.patterns.ensures
    (IfOk-weaker c.print.result (λ tree. IsTrue (list_all (λ _. true) patterns) → list_form pattern_form tree ≡ Ok patterns) (λ tree. list_form pattern_form tree ≡ Ok patterns) (λ tree back. back (all_true patterns)) c.print.ensures.reads_back)
