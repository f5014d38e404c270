use Rattle.es_drill.proofs.turning.+running.Given as goal

abbrev pub decreases-run : goal.decreases-run
decreases-run l = l.count
