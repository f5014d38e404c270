-- Options, one more word and its value at a time.
use Rattle.std.proofs.Common.{◌≡◌, ℕ, List, [], ◌∷◌, map, Option, Some, None, refl, sym, ap, ◌∙◌}
use Rattle.esec_node.specs.Options.{Options, options_from, next_option}

pub one_more : (o : Option Options) (name value : List ℕ) (words : List (List ℕ)) → options_from o (name ∷ (value ∷ words)) ≡ options_from (next_option o name value) words
one_more None name value words = refl
one_more (Some o) name value words = refl

pub no_more : (o : Option Options) → options_from o [] ≡ o
no_more None = refl
no_more (Some o) = refl

pub half_more : (o : Option Options) (name : List ℕ) → options_from o (name ∷ []) ≡ None
half_more None name = refl
half_more (Some o) name = refl

-- one option was taken off the words
pub turned : {A : Type 0} (f : A → List ℕ) (o next : Option Options) (rest behind more : List A) (name value : A) (name_bytes value_bytes : List ℕ)
    → rest ≡ name ∷ behind → behind ≡ value ∷ more → name_bytes ≡ f name → value_bytes ≡ f value → next ≡ next_option o name_bytes value_bytes
    → options_from next (map f more) ≡ options_from o (map f rest)
turned f o next rest behind more name value name_bytes value_bytes first second named valued is =
    ap (λ (q : Option Options). options_from q (map f more)) (is ∙ (λ i. next_option o (named i) (valued i)))
    ∙ sym (one_more o (f name) (f value) (map f more))
    ∙ sym (ap (λ ws. options_from o (map f ws)) (first ∙ ap (λ ws. name ∷ ws) second))
