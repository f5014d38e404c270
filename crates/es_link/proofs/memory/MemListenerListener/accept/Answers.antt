use Rattle.std.proofs.Common.{◌∙◌, sym, ap, refl}
use Rattle.es_link.specs.declared.memory.MemListener.{MemListener}
use Rattle.es_link.specs.Links.{IsFresh}
use Rattle.es_link.specs.Memory.{link_input, link_output}
use Rattle.es_link.proofs.Coming.{rest_all}
use Rattle.es_link.proofs.memory.MemListenerListener.accept.Goals as goal

pub returns-in-Some-clause-fresh : goal.returns-in-Some-clause-fresh
returns-in-Some-clause-fresh c = λ fresh.
    rest_all (λ link. IsFresh (link_input link) (link_output link)) c.in-Some.link _ _
    (sym (ap (λ (l : MemListener). l.links.items) (c.if-fails.ensures.goes refl)) ∙ c.in-Some.ensures.items) fresh
