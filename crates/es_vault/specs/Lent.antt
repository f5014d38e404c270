-- What comes out, as the definitions have it.
use Rattle.es_vault.specs.declared.verdict.Change as accepted
use Rattle.es_vault.specs.declared.verdict.Verdict as given
use Rattle.es_vault.specs.World.{Change, security, doc}
use Rattle.es_vault.specs.Changes.{Verdict, refuses, accepts, undrawn}

-- a change that is accepted
abbrev pub change_as : accepted.Change → Change
change_as (accepted.TheVariants.Security change) = security change
change_as (accepted.TheVariants.Doc change) = doc change

-- what the state says of a change
abbrev pub verdict_as : given.Verdict → Verdict
verdict_as (given.TheVariants.Refuses reply) = refuses reply
verdict_as (given.TheVariants.Accepts reply change) = accepts reply (change_as change)
verdict_as given.TheVariants.Undrawn = undrawn
