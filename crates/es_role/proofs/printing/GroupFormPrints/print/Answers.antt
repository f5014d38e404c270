use Rattle.std.proofs.Common.{◌≡◌, ◌∷◌, ◌++◌, IsTrue, codes, ap, subst, Ok}
use Rattle.es_tree.specs.declared.tree.Tree as tree
use Rattle.es_grammar.specs.Printing.{member_tree}
use Rattle.es_grammar.specs.Values.{has_some, one_or_more_form}
use Rattle.es_role.specs.Values.{pattern_form}
use Rattle.es_role.specs.declared.kinds.IndexGroup.{IndexGroup}
use Rattle.es_role.specs.Descriptors.{is_sound_group}
use Rattle.es_role.specs.Printed.{fields_members, query_members}
use Rattle.es_role.proofs.Back.{all_true, added, group_read}
use Rattle.es_role.proofs.printing.GroupFormPrints.print.Goals as goal

has_names : (group : IndexGroup) → IsTrue (is_sound_group group) → IsTrue (has_some group.names)
unfolding is_sound_group
has_names group sound = sound

pub returns-clause-tree : goal.returns-clause-tree
returns-clause-tree c =
    rw (c.of.ensures, c.in_ok-add_query.ensures, c.in_ok-add-2.ensures.ok, c.in_ok-add.ensures.ok, c.in_ok-add_fields.ensures.members, c.empty-members.ensures, c.in_ok-names.ensures.tree, c.in_ok-privileges.ensures.tree, c.patterns.ensures)
    (ap tree.Object (added _ _ _ _))

pub returns-clause-reads_back : goal.returns-clause-reads_back
returns-clause-reads_back c = λ sound.
    let group = c.args.value.now in
    let members : c.of.result ≡ fields_members group.fields ++ (member_tree (codes "names") c.in_ok-names.names ∷ member_tree (codes "privileges") c.in_ok-privileges.privileges ∷ query_members group.query) =
    rw (c.of.ensures, c.in_ok-add_query.ensures, c.in_ok-add-2.ensures.ok, c.in_ok-add.ensures.ok, c.in_ok-add_fields.ensures.members, c.empty-members.ensures) (added _ _ _ _) in
    let names = c.in_ok-names.ensures.reads_back (rw (c.patterns.ensures, has_names group sound) (all_true group.names)) in
    rw members (group_read group.names group.privileges group.fields group.query c.in_ok-names.names c.in_ok-privileges.privileges (subst (λ patterns. one_or_more_form pattern_form c.in_ok-names.names ≡ Ok patterns) c.patterns.ensures names) (c.in_ok-privileges.ensures.reads_back (all_true group.privileges)) c.in_ok-add_fields.ensures.reads_back)
