-- The pattern that everything fits.
use Rattle.std.proofs.Common.{◌≡◌, true, codes, refl}
use Rattle.std.specs.Str.{chars}
use Rattle.es_glob.specs.Patterns.{is_pattern}

pub star_pattern : is_pattern (codes "*") ≡ true
unfolding is_pattern chars
star_pattern = refl
