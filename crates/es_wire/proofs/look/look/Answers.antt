use Rattle.std.proofs.Common.{Err, ap, subst}
use Rattle.es_wire.proofs.MessageLemmas.{none_in_front}
use Rattle.es_wire.proofs.LookLemmas.{partial_is, all_in_front, full_is, partial_short, limit_is}
use Rattle.httparse.specs.Grammar.{HasNoRequest, MayBecomeRequest}
use Rattle.es_wire.specs.Requests.{never, many, long}
use Rattle.es_wire.proofs.look.look.Goals as goal

pub returns-in-TooManyHeaders : goal.returns-in-TooManyHeaders
returns-in-TooManyHeaders c =
    let front = c.head_part-front.ensures in
    let e = c.in-Err.ensures in
    many (rw front at (e.too_many (ap Err c.in-TooManyHeaders.is))) (rw front at e.no_room)

pub returns-in_default : goal.returns-in_default
returns-in_default c =
    let front = c.head_part-front.ensures in
    let e = c.in-Err.ensures in
    never (rw front at (e.invalid c.in_default.not-TooManyHeaders))

pub returns-then-front-eq-HEAD : goal.returns-then-front-eq-HEAD
returns-then-front-eq-HEAD c =
    let front = c.head_part-front.ensures in
    let none = rw front at (rw c.in-Ok-Partial.field-0-is at c.in-Ok-Partial.ensures.partial) in
    long (rw limit_is (full_is 16384 _ _ (rw limit_is at front) c.if-front-eq-HEAD.true)) none

pub returns-else-front-eq-HEAD : goal.returns-else-front-eq-HEAD
returns-else-front-eq-HEAD c =
    let front = c.head_part-front.ensures in
    let none = rw front at (rw c.in-Ok-Partial.field-0-is at c.in-Ok-Partial.ensures.partial) in
    let short = partial_short 16384 _ _ (rw limit_is at front) c.if-front-eq-HEAD.false in
    let may = rw front at (rw c.in-Ok-Partial.field-0-is at c.in-Ok-Partial.ensures.unfinished) in
    let whole = all_in_front _ _ (rw limit_is short) in
    partial_is _ (rw limit_is short) (none_in_front _ none) (subst HasNoRequest whole none) (subst MayBecomeRequest whole may)
