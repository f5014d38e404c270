use Rattle.es_drill.proofs.Making.{drills_legally, runs_to_the_end}
use Rattle.es_drill.proofs.Telling.{prints_answers}
use Rattle.es_drill.proofs.lawful.laws.Goals as goal

pub returns-clause-legal : goal.returns-clause-legal
returns-clause-legal c = drills_legally

pub returns-clause-ends : goal.returns-clause-ends
returns-clause-ends c = runs_to_the_end

pub returns-clause-prints : goal.returns-clause-prints
returns-clause-prints c = prints_answers
