-- The first of several names that isn't one.
use Rattle.std.proofs.Common.{◌≡◌, ℕ, ◌+◌, ◌<◌, Bool, true, false, List, ◌∷◌, length, drop, get_or, Option, Some, None, refl, sym, subst, ◌∙◌}
use Rattle.std.specs.Prelude.{if◌then◌else◌}
use Rattle.std.proofs.lemmas.List.{drop_more}
use Rattle.es_cred.specs.Names.{is_name}
use Rattle.es_response.specs.Reply.{ReplyValue}
use Rattle.es_reply.specs.Bodies.{bad_role_name}
use Rattle.es_route.specs.Refusals.{unless, bad_role_in}

refused : (b : Bool) (reply found : ReplyValue) (rest : Option ReplyValue) → Some found ≡ unless b reply → (if b then rest else Some reply) ≡ Some found
refused true reply found rest e = cc
refused false reply found rest e = sym e

name_refused : (names : List (List ℕ)) (i : ℕ) (name : List ℕ) (found : ReplyValue) → i < length names → Some found ≡ unless (is_name (get_or names i name)) (bad_role_name (get_or names i name))
    → bad_role_in (drop i names) ≡ Some found
name_refused names i name found within e =
    rw (drop_more names i name within) (refused (is_name (get_or names i name)) (bad_role_name (get_or names i name)) found (bad_role_in (drop (i + 1) names)) e)

-- what isn't a name, behind names alone, is the first
pub first_refused : (names : List (List ℕ)) (i : ℕ) (name text : List ℕ) (found : ReplyValue) → i < length names → name ≡ get_or names i name → text ≡ name
    → Some found ≡ unless (is_name text) (bad_role_name text) → bad_role_in (drop i names) ≡ bad_role_in names → Some found ≡ bad_role_in names
first_refused names i name text found within is same e so_far =
    let here : Some found ≡ unless (is_name (get_or names i name)) (bad_role_name (get_or names i name)) = subst (λ n. Some found ≡ unless (is_name n) (bad_role_name n)) (same ∙ is) e in
    sym (name_refused names i name found within here) ∙ so_far
