-- Laws of names, and of users as they are read.
use Rattle.std.proofs.Common.{◌≡◌, ◌<◌, ℕ, zero, suc, List, [], ◌∷◌, Option, Result, Ok, Err, true, IsAscii, codes, refl, subst, arith}
use Rattle.std.specs.List.{list_all}
use Rattle.std.specs.Str.{IsUtf8}
use Rattle.std.proofs.lemmas.Bool.{and_parts}
use Rattle.std.proofs.lemmas.Bool.Decides.{nat_tests}
use Rattle.std.proofs.lemmas.Str.{IsUtf8-from_ascii}
use Rattle.es_tree.specs.declared.tree.Tree.{Tree}
use Rattle.es_tree.specs.declared.tree.Named.{Named}
use Rattle.es_tree.specs.Rising.{is_rising}
use Rattle.es_grammar.specs.Grammar.{◌>>=◌, object, member, no_more, required, means}
use Rattle.es_grammar.specs.Reading.{◌>>=◌ as ◌then◌}
use Rattle.es_grammar.specs.Members.{members_of}
use Rattle.es_grammar.specs.Values.{text_form, spelled_form, nullable_form, object_form, list_form}
use Rattle.es_cred.specs.declared.users.UserRecord.{UserRecord}
use Rattle.es_cred.specs.Names.{is_name, is_name_character}
use Rattle.es_cred.specs.Users.{user_form, user_of, name_in, secret_in}
use Rattle.es_cred.proofs.Order.{in_order-rising}

name_character_ascii : (c : ℕ) → is_name_character c ≡ true → c < 128
name_character_ascii c e = grind (arith, nat_tests)

name_characters_ascii : (name : List ℕ) → list_all is_name_character name ≡ true → IsAscii name
name_characters_ascii [] e i = omega arith
name_characters_ascii (c ∷ name) e zero = name_character_ascii c (and_parts _ _ e).0
name_characters_ascii (c ∷ name) e (suc i) = name_characters_ascii name (and_parts _ _ e).1 i

-- a name is a text
pub name_is_text : (name : List ℕ) → is_name name ≡ true → IsUtf8 name
unfolding is_name
name_is_text name e = IsUtf8-from_ascii name (name_characters_ascii name (and_parts _ _ (and_parts _ _ e).1).0)

module _ {B : Type 0} (P : B → Type 0) where
  -- what the lines of a grammar give has P
  record GivesOnly (lines : List (Named Tree) → Result (B × List (Named Tree)) (List ℕ)) : Type 0 where
    each : (ms : List (Named Tree)) (y : B × List (Named Tree)) → lines ms ≡ Ok y → P y.0

  means_only : (x : B) → P x → GivesOnly (means x)
  means_only x p = record { each = λ ms y e. let same : x ≡ y.0 = cc in subst P same p }

  then_only : {A : Type 0} (r : Result (A × List (Named Tree)) (List ℕ)) (f : A → List (Named Tree) → Result (B × List (Named Tree)) (List ℕ)) → ((x : A) → GivesOnly (f x)) → (y : B × List (Named Tree)) → (r then λ x. f x.0 x.1) ≡ Ok y → P y.0
  then_only (Ok x) f only y e = (only x.0).each x.1 y e
  then_only (Err p) f only y e = absurd (cc)

  line_only : {A : Type 0} (part : List (Named Tree) → Result (A × List (Named Tree)) (List ℕ)) (f : A → List (Named Tree) → Result (B × List (Named Tree)) (List ℕ)) → ((x : A) → GivesOnly (f x)) → GivesOnly (part >>= f)
  line_only part f only = record { each = λ ms y e. then_only (part ms) f only y e }

  first_only : (r : Result (B × List (Named Tree)) (List ℕ)) → ((y : B × List (Named Tree)) → r ≡ Ok y → P y.0) → (y : B) → (r then λ x. Ok x.0) ≡ Ok y → P y
  first_only (Ok x) only y e = let same : x.0 ≡ y = cc in subst P same (only x refl)
  first_only (Err p) only y e = absurd (cc)

  members_only : (r : Result (List (Named Tree)) (List ℕ)) (lines : List (Named Tree) → Result (B × List (Named Tree)) (List ℕ)) → GivesOnly lines → (y : B) → (r then λ ms. lines ms then λ x. Ok x.0) ≡ Ok y → P y
  members_only (Ok ms) lines only y e = first_only (lines ms) (only.each ms) y e
  members_only (Err p) lines only y e = absurd (cc)

  object_only : (lines : List (Named Tree) → Result (B × List (Named Tree)) (List ℕ)) → GivesOnly lines → (t : Tree) (y : B) → object lines t ≡ Ok y → P y
  object_only lines only t y e = members_only (members_of t) lines only y e

-- what is said of each record of a user of this name is said of the one that is read
pub each_user : (P : UserRecord → Type 0) (name : List ℕ) → ((full_name email : Option (Option (List ℕ))) (metadata : Option Tree) (roles : List (List ℕ)) (secret : List ℕ) → P (user_of name full_name email metadata roles secret)) → (t : Tree) (user : UserRecord) → user_form name t ≡ Ok user → P user
unfolding user_form
each_user P name each t user e =
    object_only P _ (line_only P (member (codes "email") (nullable_form text_form)) _ (λ email.
    line_only P (member (codes "full_name") (nullable_form text_form)) _ (λ full_name.
    line_only P (member (codes "metadata") object_form) _ (λ metadata.
    line_only P (member (codes "roles") (list_form (spelled_form name_in))) _ (λ roles.
    line_only P (member (codes "secret") (spelled_form secret_in)) _ (λ secret.
    line_only P no_more _ (λ end.
    line_only P (required roles) _ (λ the_roles.
    line_only P (required secret) _ (λ the_secret.
    means_only P _ (each full_name email metadata the_roles the_secret))))))))))
    t user e

-- a user has the name that it is read by
pub user_form-username : (name : List ℕ) (t : Tree) (user : UserRecord) → user_form name t ≡ Ok user → user.person.username ≡ name
user_form-username name t user e = each_user (λ u. u.person.username ≡ name) name (λ f m d r s. refl) t user e

-- and its roles rise
pub user_form-roles : (name : List ℕ) (t : Tree) (user : UserRecord) → user_form name t ≡ Ok user → is_rising user.person.roles ≡ true
user_form-roles name t user e = each_user (λ u. is_rising u.person.roles ≡ true) name (λ f m d r s. in_order-rising r) t user e
