-- The halves that decide, as the definitions have them.
use Rattle.std.specs.Prelude.{[], Some}
use Rattle.es_decide.specs.declared.acting.Acting as lent
use Rattle.es_decide.specs.Decisions.{ActingHalves, alone}

-- the halves by the roles that they lend
abbrev pub halves_as : lent.Acting → ActingHalves
halves_as lent.TheVariants.Nobody = alone []
halves_as (lent.TheVariants.One role) = alone role.now
halves_as (lent.TheVariants.Limited own limits) = record { half = own.now; limit = Some limits.now }
