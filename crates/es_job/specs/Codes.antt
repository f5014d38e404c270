-- How a job is stored.
use Rattle.std.specs.Prelude.{◌≡◌, ℕ, Bool, List, ◌⊎◌, refl}
use Rattle.std.proofs.Common.{inl, inr}
use Rattle.std.specs.Coded.{Coded, code_by, coded×, coded⊎, coded_ℕ, coded_bool, coded_list}
use Rattle.es_response.specs.Reply.{ReplyValue}
use Rattle.es_keys.specs.declared.kinds.RoleKey.{RoleKey}
use Rattle.es_keys.specs.contracts.kinds.RoleKey as role_key
use Rattle.es_request.specs.declared.call.Call.{Call}
use Rattle.es_request.specs.contracts.call.Call as call
use Rattle.es_vault.specs.declared.look.Snapshot.{Snapshot}
use Rattle.es_vault.specs.contracts.look.Snapshot as snapshot
use Rattle.es_job.specs.Steps.{Phase, begun, publishing, changing, ended}
use Rattle.es_job.specs.Job.{JobValue}

abbrev pub reply_code : Coded ReplyValue
reply_code =
    code_by (ℕ × (List ℕ × List ℕ)) (coded× coded_ℕ (coded× (coded_list coded_ℕ) (coded_list coded_ℕ)))
    (λ r. (r.status, (r.allow, r.body))) (λ p. record { status = p.0; allow = p.1.0; body = p.1.1 }) (λ _. refl)

-- the ways in which a call can stand
abbrev Ways : Type 0
Ways = (ℕ ⊎ (Snapshot × List RoleKey)) ⊎ (Snapshot ⊎ (ℕ × (Bool × ReplyValue)))

abbrev way_of : Phase → Ways
way_of begun = inl (inl 0)
way_of (publishing s keys) = inl (inr (s, keys))
way_of (changing s) = inr (inl s)
way_of (ended place changed reply) = inr (inr (place, (changed, reply)))

abbrev phase_of : Ways → Phase
phase_of (inl (inl n)) = begun
phase_of (inl (inr p)) = publishing p.0 p.1
phase_of (inr (inl s)) = changing s
phase_of (inr (inr p)) = ended p.0 p.1.0 p.1.1

pub same_phase : (phase : Phase) → phase_of (way_of phase) ≡ phase
same_phase begun = refl
same_phase (publishing s keys) = refl
same_phase (changing s) = refl
same_phase (ended place changed reply) = refl

abbrev pub phase_code : Coded Phase
phase_code =
    code_by Ways (coded⊎ (coded⊎ coded_ℕ (coded× snapshot.the_row.coded (coded_list role_key.the_row.coded))) (coded⊎ snapshot.the_row.coded (coded× coded_ℕ (coded× coded_bool reply_code))))
    way_of phase_of same_phase

abbrev pub job_code : Coded JobValue
job_code =
    code_by ((Call × Phase) × (ℕ × (Bool × Bool))) (coded× (coded× call.the_row.coded phase_code) (coded× coded_ℕ (coded× coded_bool coded_bool)))
    (λ j. ((j.call, j.phase), (j.turns, (j.hit, j.ready)))) (λ p. record { call = p.0.0; phase = p.0.1; turns = p.1.0; hit = p.1.1.0; ready = p.1.1.1 }) (λ _. refl)
