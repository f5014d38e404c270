use Rattle.std.proofs.Common.{sym, ap, ◌∙◌}
use Rattle.std.proofs.lemmas.List.{take_all}
use Rattle.es_cache.specs.Entries.{without_keys}
use Rattle.es_cache.proofs.Dropping.{without_keys-nil, without_keys-more}
use Rattle.es_cache.proofs.counted.Counted.drop_all.Goals as goal

pub loop-key-init : goal.loop-key-init
loop-key-init g c =
    record { left = ap (λ v. v.entries) c.self.view_is ∙ sym (without_keys-nil g.K.PartialEq.eq c.args.self.now.entries); count = ap (λ v. v.count) c.self.view_is; capacity = ap (λ v. v.capacity) c.self.view_is }

pub loop-key-preserved : goal.loop-key-preserved
loop-key-preserved g c =
    record {
      left = ap (λ v. v.entries) c.pop_entry.ensures.entries ∙ without_keys-more g.met.K.Eq.laws c.as_slice-key-items.result.now c.loop-key.key-index c.key-item.result c.args.self.now.entries c.loop-key.self-inside.cache.entries c.len.ensures.distinct c.loop-key.invariant.left c.loop-key-test.true c.key-item.is;
      count = c.loop-key.invariant.count;
      capacity = ap (λ v. v.cap) c.pop_entry.ensures.entries ∙ c.loop-key.invariant.capacity;
    }

pub returns : goal.returns
returns g c =
    let done = c.loop-key.invariant in
    let every = take_all c.loop-key.key-index c.as_slice-key-items.result.now c.loop-key-test.false ∙ c.as_slice-key-items.ensures in
    let left = done.left ∙ ap (λ ks. without_keys g.K.PartialEq.eq ks c.args.self.now.entries) every in
    λ i. record { entries = left i; count = done.count i; capacity = done.capacity i }
