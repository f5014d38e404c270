use Rattle.es_drill.proofs.Drilling.{ends_unopened, goes_opened}
use Rattle.es_drill.proofs.taking.drill.Goals as goal

pub returns-in_default-clause-drilled : goal.returns-in_default-clause-drilled
returns-in_default-clause-drilled g c = ends_unopened _ _ _ _ _

pub returns-in_default-open-clause-drilled : goal.returns-in_default-open-clause-drilled
returns-in_default-open-clause-drilled g c = ends_unopened _ _ _ _ _

pub returns-in_default-no_jobs-clause-drilled : goal.returns-in_default-no_jobs-clause-drilled
returns-in_default-no_jobs-clause-drilled g c = ends_unopened _ _ _ _ _

pub take_all-requires : goal.take_all-requires
take_all-requires g c = record {
  goes = (
    c.args.secret.now,
    c.args.limits.journal,
    c.args.limits.role_cache,
    goes_opened c.args.secret.now c.args.limits.journal c.args.limits.role_cache c.requires.journal c.requires.most _ c.in-Ok-open.ensures.world c.in-Ok-open.ensures.limit c.in-Ok-open.ensures.roles
        _ c.in-Ok-no_jobs.ensures _ c.in-Ok.ensures _ c.requires.source_is_open _ c.requires.sink_is_open,
  );
}

pub returns-clause-drilled : goal.returns-clause-drilled
returns-clause-drilled g c =
    c.take_all.ensures.drilled _ _ _
    (goes_opened c.args.secret.now c.args.limits.journal c.args.limits.role_cache c.requires.journal c.requires.most _ c.in-Ok-open.ensures.world c.in-Ok-open.ensures.limit c.in-Ok-open.ensures.roles
    _ c.in-Ok-no_jobs.ensures _ c.in-Ok.ensures _ c.requires.source_is_open _ c.requires.sink_is_open)
