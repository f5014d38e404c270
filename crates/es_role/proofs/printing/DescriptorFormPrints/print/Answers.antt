use Rattle.std.proofs.Common.{◌≡◌, Ok, IsTrue, subst}
use Rattle.std.specs.List.{list_all}
use Rattle.std.proofs.lemmas.Bool.{and_parts}
use Rattle.es_grammar.specs.Values.{is_object, list_form}
use Rattle.es_role.specs.declared.kinds.Descriptor.{Descriptor}
use Rattle.es_role.specs.Values.{pattern_form}
use Rattle.es_role.specs.Descriptors.{is_sound_group, is_sound}
use Rattle.es_role.proofs.Back.{all_true, descriptor_read}
use Rattle.es_role.proofs.printing.DescriptorFormPrints.print.Goals as goal

descriptor_parts : (d : Descriptor) → IsTrue (is_sound d) → IsTrue (is_object d.metadata) × IsTrue (list_all is_sound_group d.indices)
unfolding is_sound
descriptor_parts d sound = and_parts (is_object d.metadata) (list_all is_sound_group d.indices) sound

pub returns-clause-reads_back : goal.returns-clause-reads_back
returns-clause-reads_back c = λ sound.
    let d = c.args.value.now in
    let parts = descriptor_parts d sound in
    rw (c.of.ensures, c.in_ok-add-5.ensures.ok, c.in_ok-add-4.ensures.ok, c.in_ok-add-3.ensures.ok, c.in_ok-add-2.ensures.ok, c.in_ok-add.ensures.ok, c.empty-members.ensures, c.empty.ensures)
    (descriptor_read d c.in_ok-cluster.cluster c.in_ok-indices.indices c.in_ok-metadata.metadata c.in_ok-run_as.run_as
    (c.in_ok-cluster.ensures.reads_back (all_true d.cluster))
    (c.in_ok-indices.ensures.reads_back parts.1)
    (c.in_ok-metadata.ensures.reads_back parts.0)
    (subst (λ patterns. list_form pattern_form c.in_ok-run_as.run_as ≡ Ok patterns) c.patterns.ensures (c.in_ok-run_as.ensures.reads_back (all_true c.patterns.result.now))))
