use Rattle.std.proofs.Common.{sym, ◌≡◌}
use Rattle.std.proofs.lemmas.List.{length-drop}
use Rattle.es_wire.specs.declared.framing.Framing.TheVariants.{Body}
use Rattle.es_wire.specs.Framing.{framing_of, pairs_of}
use Rattle.es_wire.specs.Requests.{framed}
use Rattle.es_wire.proofs.HeadLemmas.{found_head}
use Rattle.es_wire.proofs.LookLemmas.{head_fits, more_is, whole_is, tail_is}
use Rattle.es_wire.proofs.look.look_at_head.Goals as goal

pub slice_bounds-behind-count : goal.slice_bounds-behind-count
slice_bounds-behind-count c =
    let head = found_head _ _ _ _ c.requires.head.0 c.requires.front c.requires.head.1 c.requires.few in
    head.within

pub slice_bounds-behind-start : goal.slice_bounds-behind-start
slice_bounds-behind-start c =
    let head = found_head _ _ _ _ c.requires.head.0 c.requires.front c.requires.head.1 c.requires.few in
    head.within

pub returns-then-behind-length : goal.returns-then-behind-length
returns-then-behind-length c =
    let head = found_head _ _ _ _ c.requires.head.0 c.requires.front c.requires.head.1 c.requires.few in
    let body : framing_of (pairs_of c.requires.head.0) ≡ Body c.in-Body.length = rw head.pairs at (sym c.in-Body.ensures) in
    more_is _ _ _ _ _ _ head body (rw (tail_is, length-drop) at c.if-behind-length.true)

pub returns-in-Refused : goal.returns-in-Refused
returns-in-Refused c =
    let head = found_head _ _ _ _ c.requires.head.0 c.requires.front c.requires.head.1 c.requires.few in
    framed c.requires.head.0 _ (record { head = head.reads.0; short = head.short; few = head.few }) head.reads.1 (rw head.pairs at (sym c.in-Refused.ensures))

pub returns-in-Ok : goal.returns-in-Ok
returns-in-Ok c =
    let head = found_head _ _ _ _ c.requires.head.0 c.requires.front c.requires.head.1 c.requires.few in
    let body : framing_of (pairs_of c.requires.head.0) ≡ Body c.in-Body.length = rw head.pairs at (sym c.in-Body.ensures) in
    whole_is _ _ _ _ _ _ _ c.requires.head.1 head body (rw (tail_is, length-drop) at c.if-behind-length.false) (rw tail_is at c.in-Ok.ensures)

pub overflow_add-result : goal.overflow_add-result
overflow_add-result c =
    let head = found_head _ _ _ _ c.requires.head.0 c.requires.front c.requires.head.1 c.requires.few in
    let body : framing_of (pairs_of c.requires.head.0) ≡ Body c.in-Body.length = rw head.pairs at (sym c.in-Body.ensures) in
    head_fits _ _ _ _ _ _ head body
