use Rattle.std.proofs.Common.{◌≡◌, ◌-◌, Some, length, slice_get, subst}
use Rattle.es_map.proofs.Walks.{first_waiting}
use Rattle.es_map.proofs.cursor.Cursor.first.Goals as goal

pub returns-in-Some : goal.returns-in-Some
returns-in-Some g c =
    let last = subst (λ l. Some c.in-Some.node.now ≡ slice_get l (length l - 1)) c.deref.ensures.value c.in-Some.ensures.value in
    rw (c.text.ensures, c.get-entry.ensures, ← c.self.view_is) (first_waiting c.self.inside.waiting.items c.in-Some.node.now last)
