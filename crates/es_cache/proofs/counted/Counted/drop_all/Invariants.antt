use Rattle.std.proofs.Common.{◌≡◌, take}
use Rattle.es_cache.specs.Entries.{without_keys}
use Rattle.es_cache.proofs.counted.Counted.drop_all.Given as goal

-- the entries with the keys that were passed are out, and nothing else changed
abbrev pub invariant-loop-key : goal.invariant-loop-key
invariant-loop-key g l = record {
  left : l.self-inside.cache.entries ≡ without_keys g.K.PartialEq.eq (take l.key-index l.key-items) l.fn.self.entries;
  count : l.self-inside.count ≡ l.fn.self.count;
  capacity : l.self-inside.cache.cap ≡ l.fn.self.capacity;
}
