-- What holds of all that the lines of a grammar give.
use Rattle.std.proofs.Common.{◌≡◌, ℕ, List, [], ◌∷◌, Bool, true, false, Option, Some, None, Result, Ok, Err, refl, ap, subst}
use Rattle.es_tree.specs.declared.tree.Tree.{Tree}
use Rattle.es_tree.specs.declared.tree.Named.{Named}
use Rattle.es_grammar.specs.Reading.{below, if_holds}
use Rattle.es_grammar.specs.Reading.{◌>>=◌ as ◌then◌}
use Rattle.es_grammar.specs.Members.{members_of, next_of, inside}
use Rattle.es_grammar.specs.Grammar.{◌>>=◌, member, no_more, required, means, means_where, object}
use Rattle.es_grammar.proofs.Ruled.{Lines}

abbrev ok : {A : Type 0} → A → Result A (List ℕ)
ok x = Ok x

pub same_ok : {A : Type 0} (x y : A) → ok x ≡ ok y → x ≡ y
same_ok x y e = cc e

-- a step that was taken, and what came behind it
pub both_given : {A B G : Type 0} (r : Result A (List ℕ)) (f : A → Result B (List ℕ)) (y : B) → (r then f) ≡ Ok y → ((x : A) → r ≡ Ok x → f x ≡ Ok y → G) → G
both_given (Ok x) f y e use_them = use_them x refl e
both_given (Err p) f y e use_them = cc e

-- each value that the lines give has the property
pub record Yields {A : Type 0} (Has : A → Type 0) (lines : Lines A) : Type 0 where
  pub each : (ms : List (Named Tree)) (x : A) (rest : List (Named Tree)) → lines ms ≡ Ok (x, rest) → Has x

-- each value that the form reads has the property
pub record Reads {A : Type 0} (Has : A → Type 0) (form : Tree → Result A (List ℕ)) : Type 0 where
  pub each : (t : Tree) (x : A) → form t ≡ Ok x → Has x

module _ {A B : Type 0} (Has : A → Type 0) (name : List ℕ) (form : Tree → Result B (List ℕ)) (next : Option B → Lines A)
    (Is : Option B → Type 0) (absent : Is None) (present : (t : Tree) (x : B) → form t ≡ Ok x → Is (Some x)) where
  some_given : (r : Result B (List ℕ)) (found : Option B) → (below name r then λ x. Ok (Some x)) ≡ Ok found → ((x : B) → r ≡ Ok x → Is (Some x)) → Is found
  some_given (Ok x) found e is = subst Is (same_ok (Some x) found e) (is x refl)
  some_given (Err p) found e is = cc e

  inside_given : (t : Option Tree) (found : Option B) → inside name form t ≡ Ok found → Is found
  inside_given None found e = subst Is (same_ok None found e) absent
  inside_given (Some t) found e = some_given (form t) found e (present t)

  -- a line, and those behind it
  pub yields_line : ((found : Option B) → Is found → Yields Has (next found)) → Yields Has (member name form >>= next)
  yields_line later = record {
    each = λ ms x rest e.
        both_given (member name form ms) (λ taken. next taken.0 taken.1) (x, rest) e (λ taken is behind.
        both_given (next_of name ms) (λ at. inside name form at.0 then λ value. Ok (value, at.1)) taken is (λ at first second.
        both_given (inside name form at.0) (λ value. Ok (value, at.1)) taken second (λ value gives same.
        (later taken.0 (subst Is (ap (λ (pair : Option B × List (Named Tree)). pair.0) (same_ok (value, at.1) taken same)) (inside_given at.0 value gives))).each taken.1 x rest behind)));
  }

module _ {A : Type 0} (Has : A → Type 0) where
  -- no other member
  pub yields_end : (next : Unit {0} → Lines A) → Yields Has (next tt) → Yields Has (no_more >>= next)
  yields_end next later = record { each = at_end } where
    at_end : (ms : List (Named Tree)) (x : A) (rest : List (Named Tree)) → (no_more >>= next) ms ≡ Ok (x, rest) → Has x
    at_end [] x rest e = later.each [] x rest e
    at_end (m ∷ ms) x rest e = cc e

  -- a member that has to be there
  pub yields_required : {B : Type 0} (found : Option B) (next : B → Lines A) → ((x : B) → found ≡ Some x → Yields Has (next x)) → Yields Has (required found >>= next)
  yields_required (Some y) next later = record { each = λ ms x rest e. (later y refl).each ms x rest e }
  yields_required None next later = record { each = λ ms x rest e. cc e }

  pub yields_means : (x : A) → Has x → Yields Has (means x)
  yields_means x has = record { each = λ ms y rest e. subst Has (ap (λ (pair : A × List (Named Tree)). pair.0) (same_ok (x, ms) (y, rest) e)) has }

  rule_given : (b : Bool) (x y : A) (ms rest : List (Named Tree)) → ◌then◌ {B = A × List (Named Tree)} (if_holds b x) (λ z. Ok (z, ms)) ≡ Ok (y, rest) → x ≡ y
  rule_given true x y ms rest e = ap (λ (pair : A × List (Named Tree)). pair.0) (same_ok (x, ms) (y, rest) e)
  rule_given false x y ms rest e = cc e

  -- where a rule over the members holds
  pub yields_means_where : (rule : A → Bool) (x : A) → Has x → Yields Has (means_where rule x)
  yields_means_where rule x has = record { each = λ ms y rest e. subst Has (rule_given (rule x) x y ms rest e) has }

  -- the object of these lines
  pub reads_object : (lines : Lines A) → Yields Has lines → Reads Has (object lines)
  reads_object lines all = record {
    each = λ t x e.
        both_given (members_of t) (λ ms. lines ms then λ y. Ok y.0) x e (λ ms is later.
        both_given (lines ms) (λ y. Ok y.0) x later (λ y gives same.
        subst Has (same_ok y.0 x same) (all.each ms y.0 y.1 gives)));
  }
