use Rattle.es_session.proofs.Alike.{same_answers}
use Rattle.es_drive.proofs.Denials.{static_anywhere, denied_anywhere, changes_granted}
use Rattle.es_drive.proofs.Documents.{document_got}
use Rattle.es_drive.proofs.Counts.{equal_counts}
use Rattle.es_drive.proofs.Alike.{reads_alike}
use Rattle.es_drive.proofs.lawful.laws.Goals as goal

pub returns-clause-static_anywhere : goal.returns-clause-static_anywhere
returns-clause-static_anywhere c = static_anywhere

pub returns-clause-denied_anywhere : goal.returns-clause-denied_anywhere
returns-clause-denied_anywhere c = denied_anywhere

pub returns-clause-changes_granted : goal.returns-clause-changes_granted
returns-clause-changes_granted c = changes_granted

pub returns-clause-document_got : goal.returns-clause-document_got
returns-clause-document_got c = document_got

pub returns-clause-reads_alike : goal.returns-clause-reads_alike
returns-clause-reads_alike c = reads_alike

pub returns-clause-equal_counts : goal.returns-clause-equal_counts
returns-clause-equal_counts c = equal_counts

pub returns-clause-answered_alike : goal.returns-clause-answered_alike
returns-clause-answered_alike c = λ limit w caller clock clock' closed closed' a b c' read read' ms gs hs one other alone alone' given. same_answers one other alone alone' given
