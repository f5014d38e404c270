use Rattle.std.proofs.Common.{◌≡◌, take}
use Rattle.std.specs.List.{flat_map, fold}
use Rattle.std.specs.Hash as fed
use Rattle.es_vault.proofs.half.HalfHash.hash.Given as goal

-- the names so far were fed
abbrev pub invariant-loop-name : goal.invariant-loop-name
invariant-loop-name g l = l.state ≡ fold g.H.Hasher.write l.fn.state (flat_map fed.str (take l.name-index l.name-items))
