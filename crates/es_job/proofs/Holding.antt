-- What answered calls and tasks keep while others go on.
use Rattle.std.proofs.Common.{◌≡◌, ℕ, ◌<◌, List, [], ◌∷◌, ◌++◌, length, take, true, false, Some, sym, ap, ◌∙◌, arith, length-append}
use Rattle.std.specs.Prelude.{⊤}
use Rattle.std.proofs.lemmas.List.{take-append-le}
use Rattle.es_response.specs.Reply.{ReplyValue}
use Rattle.es_journal.proofs.Adding.{told_now, legal_now}
use Rattle.es_journal.proofs.Growing.{told-grow, IsLegalCall-grow}
use Rattle.es_vault.specs.declared.look.Snapshot.{Snapshot}
use Rattle.es_vault.specs.World.{World, Entry, replay, security_count}
use Rattle.es_vault.specs.Answer.{Asked}
use Rattle.es_job.specs.Answer.{Answer, answer}
use Rattle.es_job.specs.Steps.{Phase, begun, publishing, changing, ended}
use Rattle.es_job.specs.Core.{Task, Answered, IsLegal, IsBehind, AllBehind, AreAscending, AllLegal, AllUpTo, IsOfPrefix, HoldsLook, Holds, IsHeld}

-- ---- one answered call more

module _ (limit : ℕ) (w : World) (J E : List Entry) where
  legal_grow : (a : Answered) → IsLegal limit w J a → IsLegal limit w (J ++ E) a
  legal_grow a legal = record {
    legal = IsLegalCall-grow (answer limit w) J E a.asked a.place a.changed legal.legal;
    reply = legal.reply ∙ ap (λ (t : Answer). t.reply) (sym (told-grow (answer limit w) J E a.asked a.place a.changed legal.legal.to));
  }

  -- all calls stay legal in a journal that goes on
  pub legal_push : (calls : List Answered) (b : Answered) → AllLegal limit w J calls → IsLegal limit w (J ++ E) b → AllLegal limit w (J ++ E) (calls ++ b ∷ [])
  legal_push [] b legal one = (one, tt)
  legal_push (a ∷ calls) b legal one = (legal_grow a legal.0, legal_push calls b legal.1 one)

-- a change that is accepted is legal in the journal with its entry
pub legal_changed : (limit : ℕ) (w : World) (J : List Entry) (asked : Asked) (reply : ReplyValue) (e : Entry) → answer limit w J asked ≡ record { reply = reply; entry = Some e }
    → IsLegal limit w (J ++ e ∷ []) (record { asked = asked; place = length (J ++ e ∷ []); changed = true; reply = reply })
legal_changed limit w J asked reply e is = record {
  legal = legal_now (answer limit w) J asked (Some e) (ap (λ (t : Answer). t.entry) is) (omega (arith, length-append J (e ∷ [])));
  reply = sym (ap (λ (t : Answer). t.reply) (told_now (answer limit w) J asked (Some e) ∙ is));
}

-- each call was answered within the journal
pub all_up_to : (limit : ℕ) (w : World) (J : List Entry) (calls : List Answered) (caller : ℕ) → AllLegal limit w J calls → AllUpTo calls caller (length J)
all_up_to limit w J [] caller legal = tt
all_up_to limit w J (a ∷ calls) caller legal = (λ _. legal.0.legal.to, all_up_to limit w J calls caller legal.1)

-- the calls of the same caller are before this one
abbrev pub AllBefore : List Answered → Answered → Type 0
AllBefore [] b = ⊤
AllBefore (a ∷ calls) b = (a.asked.caller ≡ b.asked.caller → IsBehind a b) × AllBefore calls b

-- where it added no entry, by their places
pub before_same : (calls : List Answered) (b : Answered) → b.changed ≡ false → AllUpTo calls b.asked.caller b.place → AllBefore calls b
before_same [] b none up = tt
before_same (a ∷ calls) b none up = (λ same. record { place = up.0 same; entry = λ t. let clash : true ≡ false = sym t ∙ none in cc }, before_same calls b none up.1)

-- where it added one, by the journal's length
pub before_last : (limit : ℕ) (w : World) (J : List Entry) (calls : List Answered) (b : Answered) → AllLegal limit w J calls → length J < b.place → AllBefore calls b
before_last limit w J [] b legal past = tt
before_last limit w J (a ∷ calls) b legal past =
    let to = legal.0.legal.to in (λ same. record { place = omega (arith, to, past); entry = λ t. omega (arith, to, past) }, before_last limit w J calls b legal.1 past)

behind_push : (a : Answered) (calls : List Answered) (b : Answered) → AllBehind a calls → (a.asked.caller ≡ b.asked.caller → IsBehind a b) → AllBehind a (calls ++ b ∷ [])
behind_push a [] b behind one = (one, tt)
behind_push a (x ∷ calls) b behind one = (behind.0, behind_push a calls b behind.1 one)

-- the order goes on
pub ascending_push : (calls : List Answered) (b : Answered) → AreAscending calls → AllBefore calls b → AreAscending (calls ++ b ∷ [])
ascending_push [] b ascending before = (tt, tt)
ascending_push (a ∷ calls) b ascending before = (behind_push a calls b ascending.0 before.0, ascending_push calls b ascending.1 before.1)

-- ---- the tasks of others

up_to_push : (calls : List Answered) (b : Answered) (caller place : ℕ) → (b.asked.caller ≡ caller → ⊥) → AllUpTo calls caller place → AllUpTo (calls ++ b ∷ []) caller place
up_to_push [] b caller place other up = (λ same. absurd (other same), tt)
up_to_push (a ∷ calls) b caller place other up = (up.0, up_to_push calls b caller place other up.1)

module _ (w : World) (J E : List Entry) where
  prefix_grow : (s : Snapshot) → IsOfPrefix w J s → IsOfPrefix w (J ++ E) s
  prefix_grow s prefix =
      let same : take s.place (J ++ E) ≡ take s.place J = take-append-le s.place J E prefix.to in let to = prefix.to in
      record {
        from = prefix.from;
        to = omega (arith, to, length-append J E);
        records = prefix.records ∙ ap (λ (K : List Entry). (replay w K).records) (sym same);
        catalog = prefix.catalog ∙ ap (λ (K : List Entry). (replay w K).catalog) (sym same);
        count = prefix.count ∙ ap security_count (sym same);
      }

  module _ (calls : List Answered) (b : Answered) where
    look_grow : (asked : Asked) (s : Snapshot) → (b.asked.caller ≡ asked.caller → ⊥) → HoldsLook w J calls asked s → HoldsLook w (J ++ E) (calls ++ b ∷ []) asked s
    look_grow asked s other look = record {
      prefix = prefix_grow s look.prefix;
      own = look.own;
      known = look.known;
      is_of = look.is_of;
      seen = up_to_push calls b asked.caller s.place other look.seen;
    }

    phase_grow : (asked : Asked) (phase : Phase) → (b.asked.caller ≡ asked.caller → ⊥) → Holds w J calls asked phase → Holds w (J ++ E) (calls ++ b ∷ []) asked phase
    phase_grow asked begun other holds = tt
    phase_grow asked (publishing s keys) other holds = (look_grow asked s other holds.0, holds.1)
    phase_grow asked (changing s) other holds = (look_grow asked s other holds.0, holds.1)
    phase_grow asked (ended place changed reply) other holds = holds

    -- a task stays good when the call of another is answered
    pub held_grow : (actor : ℕ) (task : Task) → (b.asked.caller ≡ actor → ⊥) → IsHeld w J calls actor task → IsHeld w (J ++ E) (calls ++ b ∷ []) actor task
    held_grow actor task other held = record {
      caller = held.caller;
      made = held.made;
      phase = phase_grow task.asked task.phase (λ same. other (same ∙ held.caller)) held.phase;
    }
