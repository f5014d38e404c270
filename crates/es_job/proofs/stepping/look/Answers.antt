use Rattle.std.proofs.Common.{subst}
use Rattle.es_records.specs.Records.{who}
use Rattle.es_vault.specs.Steps.{Looks, IsOfFound}
use Rattle.es_job.proofs.Stepped.{look_hit, look_miss, look_unknown}
use Rattle.es_job.proofs.stepping.look.Goals as goal

pub returns-in-Hit-clause-ok : goal.returns-in-Hit-clause-ok
returns-in-Hit-clause-ok c =
    let call = c.args.call.now in
    let vault = c.args.vault.now in
    let looks : Looks vault c.look.new.self (who vault.at.world.records call.credentials call.run_as call.moment) c.in_ok-found.found = rw c.asked_target.ensures at c.in_ok-found.ensures.ok in
    let there = rw c.in-Hit.is at looks in
    look_hit call vault c.look.new.self c.requires c.in-Hit.snapshot c.in-Hit.halves c.none.result there (subst IsOfFound c.in-Hit.is c.in_ok-found.ensures.is_of) c.none.ensures

pub returns-in-Miss-clause-ok : goal.returns-in-Miss-clause-ok
returns-in-Miss-clause-ok c =
    let call = c.args.call.now in
    let vault = c.args.vault.now in
    let looks : Looks vault c.look.new.self (who vault.at.world.records call.credentials call.run_as call.moment) c.in_ok-found.found = rw c.asked_target.ensures at c.in_ok-found.ensures.ok in
    let there = rw c.in-Miss.is at looks in
    look_miss call vault c.look.new.self c.requires c.in-Miss.snapshot c.in-Miss.keys there (subst IsOfFound c.in-Miss.is c.in_ok-found.ensures.is_of)

pub returns-in-Unknown-clause-ok : goal.returns-in-Unknown-clause-ok
returns-in-Unknown-clause-ok c =
    let call = c.args.call.now in
    let vault = c.args.vault.now in
    let looks : Looks vault c.look.new.self (who vault.at.world.records call.credentials call.run_as call.moment) c.in_ok-found.found = rw c.asked_target.ensures at c.in_ok-found.ensures.ok in
    let there = rw c.in-Unknown.is at looks in
    look_unknown call vault c.look.new.self c.requires c.in-Unknown.place there
