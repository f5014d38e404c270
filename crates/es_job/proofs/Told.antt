-- What comes when each half is at hand.
use Rattle.std.proofs.Common.{◌≡◌, ℕ, ◌≤◌, List, [], map as list_map, true, false, Some, None, refl, sym, ap, subst, ◌∙◌, arith}
use Rattle.es_response.specs.Reply.{ReplyValue}
use Rattle.es_role.specs.declared.kinds.Descriptor.{Descriptor}
use Rattle.es_keys.specs.declared.kinds.RoleKey.{RoleKey}
use Rattle.es_decide.specs.declared.kinds.Halves.{Halves}
use Rattle.es_request.specs.declared.call.Call.{Call}
use Rattle.es_request.specs.Requests.{is_change}
use Rattle.es_vault.specs.declared.look.Snapshot.{Snapshot}
use Rattle.es_job.specs.declared.due.Due.{Due}
use Rattle.es_job.specs.declared.work.Work.TheVariants as work
use Rattle.es_job.specs.Answer.{stop_in, read_in}
use Rattle.es_job.specs.Due.{due_pairs, due_keys}
use Rattle.es_job.specs.Steps.{world_of, next_of, next_with}
use Rattle.es_job.specs.Job.{HasHalves, IsWorked}
use Rattle.es_job.proofs.Facts.{ends_stopped, ends_read, due_there, changes_there}

-- where a call is when nothing is to be published any more
pub none_left : (call : Call) (s : Snapshot) (due : Due) → due_pairs due ≡ [] → next_with s (due_keys due) call ≡ next_of s call
none_left call s due none = ap (λ (pairs : List (RoleKey × List Descriptor)). next_with s (list_map (λ pair. pair.0) pairs) call) none

module _ (call : Call) (s : Snapshot) (halves : Halves) (has : HasHalves call s halves) where
  pub told_stopped : (reply : ReplyValue) → Some reply ≡ stop_in s.records s.place call → (due : Due) (turns : ℕ) → due_pairs due ≡ [] → turns ≤ 4
      → IsWorked call (work.Looked s halves due) (work.Ended s.place false (Some reply)) turns
  told_stopped reply is due turns none few = record {
    phase = sym (none_left call s due none ∙ ends_stopped call s has.looked reply is);
    ready = refl;
    good = tt;
    few = omega (arith, few);
  }

  pub told_change : (share : Snapshot) (again : Halves) → share ≡ s → again ≡ halves → None ≡ stop_in s.records s.place call → is_change call.request ≡ true → (due : Due) (turns : ℕ) → due_pairs due ≡ [] → turns ≤ 4
      → IsWorked call (work.Looked s halves due) (work.Changing share again) turns
  told_change share again same same_halves is change due turns none few =
      let granted = due_there call s has.looked is change in
      subst (λ (t : Snapshot). IsWorked call (work.Looked s halves due) (work.Changing t again) turns) (sym same)
      (subst (λ (h : Halves). IsWorked call (work.Looked s halves due) (work.Changing s h) turns) (sym same_halves) (record {
        phase = sym (none_left call s due none ∙ changes_there call s has.looked granted);
        ready = refl;
        good = (has, granted);
        few = few;
      }))

  pub told_read : (reply : ReplyValue) → None ≡ stop_in s.records s.place call → is_change call.request ≡ false → reply ≡ read_in (world_of s) s.subject halves call.request → (due : Due) (turns : ℕ) → due_pairs due ≡ [] → turns ≤ 4
      → IsWorked call (work.Looked s halves due) (work.Ended s.place false (Some reply)) turns
  told_read reply is none read due turns empty few = record {
    phase = sym (none_left call s due empty ∙ ends_read call s has.looked halves has.halves_are reply is none read);
    ready = refl;
    good = tt;
    few = omega (arith, few);
  }
