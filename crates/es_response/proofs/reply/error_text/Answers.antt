use Rattle.std.proofs.Common.{◌≡◌, ◌++◌, [], ◌∷◌, ◌∙◌, ap, ap₂, refl, List, ℕ, codes, decimal}
use Rattle.json.specs.Print.{print, print_from, escape_byte}
use Rattle.json.specs.Token.{begin_object, end_object, key, string, number}
use Rattle.es_response.specs.Reply.{error_body}
use Rattle.es_response.proofs.reply.error_text.Goals as goal

-- the tokens of an error's body, as they are printed
print-error : (status : ℕ) (kind reason : List ℕ)
    → print (begin_object ∷ key (codes "error") ∷ begin_object ∷ key (codes "reason") ∷ string reason ∷ key (codes "type") ∷ string kind ∷ end_object ∷ key (codes "status") ∷ number (decimal status) ∷ end_object ∷ [])
    ≡ error_body status kind reason
unfolding print_from escape_byte error_body
print-error status kind reason = refl

pub returns : goal.returns
returns c =
    let nothing : c.end_object-2.new.self.before ≡ [] =
    c.in_ok-end_object-2.ensures.room.0 ∙ c.in_ok-u64.ensures.room.0 ∙ c.in_ok-key-4.ensures.room.0 ∙ c.in_ok-end_object.ensures.room.0
    ∙ c.in_ok-string-2.ensures.room.0 ∙ c.in_ok-key-3.ensures.room.0 ∙ c.in_ok-string.ensures.room.0 ∙ c.in_ok-key-2.ensures.room.0
    ∙ c.in_ok-begin_object-2.ensures.room.0 ∙ c.in_ok-key.ensures.room.0 ∙ c.in_ok-begin_object.ensures.room.0
    ∙ c.new-out.ensures.before ∙ c.new.ensures.items in
    let printed : print c.end_object-2.new.self.tokens ≡ error_body c.args.status c.args.kind.now c.args.reason.now =
    rw (
      c.in_ok-end_object-2.ensures.ok,
      c.in_ok-u64.ensures.ok,
      c.in_ok-key-4.ensures.ok,
      c.in_ok-end_object.ensures.ok,
      c.in_ok-string-2.ensures.ok,
      c.in_ok-key-3.ensures.ok,
      c.in_ok-string.ensures.ok,
      c.in_ok-key-2.ensures.ok,
      c.in_ok-begin_object-2.ensures.ok,
      c.in_ok-key.ensures.ok,
      c.in_ok-begin_object.ensures.ok,
      c.new-out.ensures.tokens,
      c.from.ensures,
    )
    (print-error c.args.status c.args.kind.now c.args.reason.now) in
    c.from_string.ensures ∙ ap (λ v. v.items) c.in-Ok.ensures.ok ∙ c.into_inner.ensures.items ∙ ap₂ (λ (a b : List ℕ). a ++ b) nothing printed
