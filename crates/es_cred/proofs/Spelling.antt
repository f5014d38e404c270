-- A field that says a name or id and a secret says them in the only spelling.
use Rattle.std.proofs.Common.{◌≡◌, ℕ, ◌+◌, List, [], ◌∷◌, ◌++◌, length, take, drop, codes, Bool, true, false, ◌||◌, ◌&&◌, eqb, cond, not, refl, sym, ap, ◌∙◌, arith, suc, zero, Some}
use Rattle.std.specs.List.{list_any, position_or_len, before_first, after_first}
use Rattle.std.specs.Bool.{⊤}
use Rattle.std.specs.Str.{is_utf8}
use Rattle.std.proofs.lemmas.Bool.{and_parts}
use Rattle.std.proofs.lemmas.Bool.Decides.{nat_tests}
use Rattle.base64.specs.Engines.{standard}
use Rattle.base64.specs.GeneralPurpose.{encode_of}
use Rattle.es_cred.specs.declared.credentials.Credentials.{Credentials}
use Rattle.es_cred.specs.declared.credentials.Credentials.TheVariants.{User, Key, Absent, Malformed}
use Rattle.es_cred.specs.declared.credentials.Scheme.{Scheme}
use Rattle.es_cred.specs.declared.credentials.Scheme.TheVariants.{Bearer, ApiKey}
use Rattle.es_cred.specs.Credentials.{pair_in, said_as, scheme_of, IsOnlySpelling, token_of}

colon_is : (b : ℕ) → eqb b 58 ≡ true → b ≡ 58
colon_is b e = grind (arith, nat_tests)

one_on : (n b : ℕ) (text : List ℕ) → text ≡ take n text ++ (58 ∷ drop (n + 1) text) → (b ∷ text) ≡ take (1 + n) (b ∷ text) ++ (58 ∷ drop ((1 + n) + 1) (b ∷ text))
one_on n b text e =
    let one : 1 + n ≡ suc n = omega arith in
    let two : suc n + 1 ≡ suc (n + 1) = omega arith in
    rw (one, two) (ap (λ (xs : List ℕ). b ∷ xs) e)

-- a text with a colon is what stands before its first one, the colon, and what stands behind it
parted : (text : List ℕ) → list_any (λ b. eqb b 58) text ≡ true → text ≡ before_first (λ b. eqb b 58) text ++ (58 ∷ after_first (λ b. eqb b 58) text)
parted [] e = cc
parted (b ∷ text) e = go (eqb b 58) refl e (parted text)
  where
    go : (c : Bool) → eqb b 58 ≡ c → (c || list_any (λ b. eqb b 58) text) ≡ true
        → (list_any (λ b. eqb b 58) text ≡ true → text ≡ before_first (λ b. eqb b 58) text ++ (58 ∷ after_first (λ b. eqb b 58) text))
        → (b ∷ text) ≡ before_first (λ b. eqb b 58) (b ∷ text) ++ (58 ∷ after_first (λ b. eqb b 58) (b ∷ text))
    go true is some rest = rw (is, colon_is b is) refl
    go false is some rest = rw is (one_on (position_or_len (λ b. eqb b 58) text) b text (rest some))

-- the pair that a text says
abbrev pub IsPairOf : Scheme → List ℕ → Credentials → Type 0
IsPairOf scheme text (User name secret) = (scheme ≡ Bearer) × (text ≡ name ++ (codes ":" ++ secret))
IsPairOf scheme text (Key id secret) = (scheme ≡ ApiKey) × (text ≡ id ++ (codes ":" ++ secret))
IsPairOf scheme text Absent = ⊤
IsPairOf scheme text Malformed = ⊤

said_pair : (scheme : Scheme) (name secret text : List ℕ) → text ≡ name ++ (58 ∷ secret) → IsPairOf scheme text (said_as scheme name secret)
said_pair Bearer name secret text e = (refl, e)
said_pair ApiKey name secret text e = (refl, e)

-- a text says no other pair than its own
pair_only : (scheme : Scheme) (text : List ℕ) → IsPairOf scheme text (pair_in scheme text)
pair_only scheme text = go (is_utf8 text && list_any (λ b. eqb b 58) text) refl
  where
    go : (c : Bool) → (is_utf8 text && list_any (λ b. eqb b 58) text) ≡ c
        → IsPairOf scheme text (cond c (said_as scheme (before_first (λ b. eqb b 58) text) (after_first (λ b. eqb b 58) text)) Malformed)
    go true e = said_pair scheme _ _ text (parted text (and_parts (is_utf8 text) (list_any (λ b. eqb b 58) text) e).1)
    go false e = tt

spelt : (value token text : List ℕ) (scheme : Scheme) (found : Credentials) → scheme_of value ≡ Some (scheme, token) → token ≡ encode_of standard text → IsPairOf scheme text found
    → IsOnlySpelling (Some value) found
spelt value token text scheme (User name secret) is coded pair =
    is ∙ ap (λ (s : Scheme). Some (s, token)) pair.0 ∙ ap (λ (t : List ℕ). Some (Bearer, t)) (coded ∙ ap (encode_of standard) pair.1)
spelt value token text scheme (Key id secret) is coded pair =
    is ∙ ap (λ (s : Scheme). Some (s, token)) pair.0 ∙ ap (λ (t : List ℕ). Some (ApiKey, t)) (coded ∙ ap (encode_of standard) pair.1)
spelt value token text scheme Absent is coded pair = tt
spelt value token text scheme Malformed is coded pair = tt

-- what is read of a token that stands for a text is said in no other spelling
pub said_only : (value token text : List ℕ) (scheme : Scheme) → scheme_of value ≡ Some (scheme, token) → token ≡ encode_of standard text → IsOnlySpelling (Some value) (pair_in scheme text)
said_only value token text scheme is coded = spelt value token text scheme (pair_in scheme text) is coded (pair_only scheme text)
