use Rattle.std.proofs.Common.{◌≡◌, List, ℕ, [], ◌++◌, ◌∙◌, append_assoc, subst, codes, Bool, Option, ◌==◌}
use Rattle.es_edge.specs.Moves.{Output}
use Rattle.es_edge.specs.declared.sending.Sent.{Sent}
use Rattle.es_edge.specs.Sends.{Sends}
use Rattle.es_response.specs.Reply.{ReplyValue, response, status_line, allow_line, length_line, line_if, place_line, crlf}
use Rattle.es_wire.proofs.GatherLemmas.{Gathers-none}
use Rattle.es_wire.proofs.sending.send.Goals as goal

-- all pieces, one after another
nested : (a b c d e f h i j : List ℕ) → ((((((((([] ++ a) ++ b) ++ c) ++ d) ++ e) ++ f) ++ h) ++ i) ++ j) ≡ a ++ (b ++ (c ++ (d ++ (e ++ (f ++ (h ++ (i ++ j)))))))
nested a b c d e f h i j = simp append_assoc

-- the pieces are those of the response
whole : {a b : Output} {how : Sent} (r : ReplyValue) (place : Option ℕ) (close : Bool) (status status_again : ℕ) (closing challenge body : List ℕ)
    → Sends a b ((((((((([] ++ status_line status) ++ allow_line r) ++ closing) ++ length_line body) ++ codes "content-type: application/json\r\n") ++ place_line place) ++ challenge) ++ crlf) ++ body) how
    → status ≡ r.status → closing ≡ line_if close (codes "connection: close\r\n") → body ≡ r.body
    → status_again ≡ r.status → challenge ≡ line_if (status_again == 401) (codes "www-authenticate: Bearer, ApiKey\r\n")
    → Sends a b (response r place close) how
unfolding response
whole {a} {b} {how} r place close status status_again closing challenge body sends is_status is_closing is_body again is_challenge =
    let parts = nested (status_line status) (allow_line r) closing (length_line body) (codes "content-type: application/json\r\n") (place_line place) challenge crlf body in
    let sent = subst (λ (q : List ℕ). Sends a b q how) parts sends in
    rw (is_challenge, again, is_status, is_closing, is_body) at sent

pub returns-clause-sends : goal.returns-clause-sends
returns-clause-sends g c =
    let start = Gathers-none g.K.Sink.output g.K.Sink.write_leaves c.args.sink.now c.new.result.items c.new.ensures (g.met.K.Sink.write_leaves_same c.args.sink.now) in
    let status = c.add_status_line.ensures.gathers _ _ start in
    let allow = c.add_allow_line.ensures.gathers _ _ status in
    let close = c.add.ensures.gathers _ _ allow in
    let length_ = c.add_length_line.ensures.gathers _ _ close in
    let kind = c.add-2.ensures.gathers _ _ length_ in
    let place = c.add_place_line.ensures.gathers _ _ kind in
    let challenge = c.add-3.ensures.gathers _ _ place in
    let end = c.add-4.ensures.gathers _ _ challenge in
    let body = c.add-5.ensures.gathers _ _ end in
    whole c.args.reply.now c.args.place c.args.close _ _ _ _ _ (c.finish.ensures.sends _ _ body)
    c.status.ensures c.bytes_if.ensures (c.as_bytes-body.ensures.value ∙ c.body.ensures) c.status-2.ensures c.bytes_if-2.ensures

pub returns-clause-leaves : goal.returns-clause-leaves
returns-clause-leaves g c =
    let start = Gathers-none g.K.Sink.output g.K.Sink.write_leaves c.args.sink.now c.new.result.items c.new.ensures (g.met.K.Sink.write_leaves_same c.args.sink.now) in
    let status = c.add_status_line.ensures.gathers _ _ start in
    let allow = c.add_allow_line.ensures.gathers _ _ status in
    let close = c.add.ensures.gathers _ _ allow in
    let length_ = c.add_length_line.ensures.gathers _ _ close in
    let kind = c.add-2.ensures.gathers _ _ length_ in
    let place = c.add_place_line.ensures.gathers _ _ kind in
    let challenge = c.add-3.ensures.gathers _ _ place in
    let end = c.add-4.ensures.gathers _ _ challenge in
    let body = c.add-5.ensures.gathers _ _ end in
    g.met.K.Sink.write_leaves_then _ _ _ body.left_alone c.finish.ensures.leaves
