-- The steps of what is asked at a target.
use Rattle.std.proofs.Common.{◌≡◌, ℕ, Bool, true, false, List, [], ◌∷◌, Option, Some, None, Result, Ok, Err, refl, sym, ap, subst, ◌∙◌}
use Rattle.std.specs.Prelude.{if◌then◌else◌}
use Rattle.std.specs.Str.{is_utf8, IsUtf8}
use Rattle.std.proofs.lemmas.Str.{is_utf8-from_IsUtf8}
use Rattle.es_route.proofs.Texts.{is_utf8-false}
use Rattle.percent_encoding.specs.Percent.{percent_decode}
use Rattle.es_response.specs.Reply.{ReplyValue}
use Rattle.es_reply.specs.Bodies.{no_route, bad_path_reply}
use Rattle.es_route.specs.declared.stop.Stop.{Stop}
use Rattle.es_route.specs.declared.stop.Stop.TheVariants.{Refused, NoMemory}
use Rattle.es_route.specs.Stops.{StopsAt}
use Rattle.es_route.specs.Targets.{segments_of, decoded}
use Rattle.es_route.specs.Rows.{Row, row_of, parameters_in}
use Rattle.es_route.specs.Reading.{◌then◌, or_reply, found_at}
use Rattle.es_route.specs.Paths.{with_parameters, found_of, decoded_at, decoded_one}

none_at : (segments : List (List ℕ)) (o : Option Row) (reply : ReplyValue) → None ≡ with_parameters segments o
    → (or_reply o reply then λ row. decoded_at (row, parameters_in row.pieces segments)) ≡ Err reply
none_at segments None reply e = refl
none_at segments (Some r) reply e = cc

held : Row × List (List ℕ) → Option (Row × List (List ℕ)) → Row × List (List ℕ)
held found None = found
held found (Some other) = other

some_at : (segments : List (List ℕ)) (o : Option Row) (reply : ReplyValue) (found : Row × List (List ℕ)) → Some found ≡ with_parameters segments o
    → (or_reply o reply then λ row. decoded_at (row, parameters_in row.pieces segments)) ≡ decoded_at found
unfolding held
some_at segments None reply found e = cc
some_at segments (Some r) reply found e =
    let same : found ≡ (r, parameters_in r.pieces segments) = ap (held found) e in
    ap decoded_at (sym same)

-- no path
pub found_none : (path : List ℕ) → None ≡ found_of (segments_of path) → found_at path ≡ Err (no_route path)
unfolding found_of
found_none path e = none_at (segments_of path) (row_of (segments_of path)) (no_route path) e

-- a path
pub found_some : (path : List ℕ) (found : Row × List (List ℕ)) → Some found ≡ found_of (segments_of path) → found_at path ≡ decoded_at found
unfolding found_of
found_some path found e = some_at (segments_of path) (row_of (segments_of path)) (no_route path) found e

-- ---- what stops at a step stops there

pub stops_then : {A B : Type 0} (stop : Stop) (r : Result A ReplyValue) (f : A → Result B ReplyValue) → StopsAt stop r → StopsAt stop (r then f)
stops_then (Refused reply) r f e = rw e refl
stops_then NoMemory r f e = tt

-- ---- parameters

decoded_part : (b : Bool) (d t : List ℕ) (reply : ReplyValue) → (if b then Ok d else Err reply) ≡ Ok t → (b ≡ true) × (d ≡ t)
decoded_part true d t reply e = (refl, cc)
decoded_part false d t reply e = cc

refused_part : (b : Bool) (d : List ℕ) (reply said : ReplyValue) → (if b then Ok d else Err reply) ≡ Err said → (b ≡ false) × (reply ≡ said)
refused_part true d reply said e = cc
refused_part false d reply said e = (refl, cc)

pub one_decoded : (s t : List ℕ) → decoded_one s ≡ Ok t → decoded (s ∷ []) ≡ Ok (t ∷ [])
one_decoded s t e =
    let part = decoded_part (is_utf8 (percent_decode s)) (percent_decode s) t bad_path_reply e in
    rw part.0 (ap (λ (q : List ℕ). Ok (q ∷ [])) part.1)

pub one_stops : (stop : Stop) (s : List ℕ) → StopsAt stop (decoded_one s) → StopsAt stop (decoded (s ∷ []))
one_stops (Refused reply) s e =
    let part = refused_part (is_utf8 (percent_decode s)) (percent_decode s) bad_path_reply reply e in
    rw part.0 (ap Err part.1)
one_stops NoMemory s e = tt

pub two_decoded : (s t u v : List ℕ) → decoded_one s ≡ Ok t → decoded_one u ≡ Ok v → decoded (s ∷ u ∷ []) ≡ Ok (t ∷ v ∷ [])
two_decoded s t u v e f =
    let part = decoded_part (is_utf8 (percent_decode s)) (percent_decode s) t bad_path_reply e in
    let other = decoded_part (is_utf8 (percent_decode u)) (percent_decode u) v bad_path_reply f in
    rw (part.0, other.0) (ap (λ (q : List ℕ). Ok (q ∷ percent_decode u ∷ [])) part.1 ∙ ap (λ (q : List ℕ). Ok (t ∷ q ∷ [])) other.1)

pub first_stops : (stop : Stop) (s u : List ℕ) → StopsAt stop (decoded_one s) → StopsAt stop (decoded (s ∷ u ∷ []))
first_stops (Refused reply) s u e =
    let part = refused_part (is_utf8 (percent_decode s)) (percent_decode s) bad_path_reply reply e in
    rw part.0 (ap Err part.1)
first_stops NoMemory s u e = tt

pub second_stops : (stop : Stop) (s t u : List ℕ) → decoded_one s ≡ Ok t → StopsAt stop (decoded_one u) → StopsAt stop (decoded (s ∷ u ∷ []))
second_stops (Refused reply) s t u e f =
    let part = decoded_part (is_utf8 (percent_decode s)) (percent_decode s) t bad_path_reply e in
    let other = refused_part (is_utf8 (percent_decode u)) (percent_decode u) bad_path_reply reply f in
    rw (part.0, other.0) (ap Err other.1)
second_stops NoMemory s t u e f = tt

-- what a segment means
pub decoded_is : (s d t found : List ℕ) → d ≡ percent_decode s → IsUtf8 d → t ≡ d → found ≡ t → decoded_one s ≡ Ok found
decoded_is s d t found e text same is =
    rw (is_utf8-from_IsUtf8 (percent_decode s) (subst IsUtf8 e text)) (ap Ok (sym (is ∙ same ∙ e)))

pub decoded_not : (s d : List ℕ) (reply : ReplyValue) → d ≡ percent_decode s → ¬ (IsUtf8 d) → reply ≡ bad_path_reply → decoded_one s ≡ Err reply
decoded_not s d reply e not is =
    rw (is_utf8-false (percent_decode s) (λ text. not (subst IsUtf8 (sym e) text))) (ap Err (sym is))
