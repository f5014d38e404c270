use Rattle.std.proofs.Common.{◌≡◌, ◌-◌, Some, length, slice_get, vec_len, sym, ap, ◌∙◌, subst}
use Rattle.es_map.proofs.Walks.{rest_waiting}
use Rattle.es_map.proofs.cursor.Cursor.advance.Goals as goal

pub returns-clause-rest : goal.returns-clause-rest
returns-clause-rest g c =
    let last = subst (λ l. Some c.in-Some.node.now ≡ slice_get l (length l - 1)) c.deref.ensures.value c.in-Some.ensures.value in
    let long : vec_len c.self.inside.waiting ≡ length c.self.inside.waiting.items = sym c.deref.ensures.len ∙ ap (λ l. length l) c.deref.ensures.value in
    let rest = rest_waiting c.self.inside.waiting.items c.in-Some.node.now last c.wait_for.new.waiting.items c.in_ok-wait_for.ensures.added in
    rw (c.remove.ensures.items, c.len-place.ensures, long, ← c.self.view_is) rest
