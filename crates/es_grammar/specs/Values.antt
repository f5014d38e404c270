-- Forms of values.
use Rattle.std.specs.Prelude.{ℕ, ◌+◌, ℤ, List, [], ◌∷◌, Option, Some, None, Result, Ok, Err, Bool, true, false, ◌&&◌, not, int_lt, decimal}
use Rattle.es_tree.specs.declared.tree.Tree.{Tree, out-Tree}
use Rattle.es_tree.specs.declared.tree.Tree.TheOpen.{Tree-F}
use Rattle.es_grammar.specs.Reading.{◌>>=◌, below, wanted, if_holds}

abbrev pub text_in : Tree-F Tree → Result (List ℕ) (List ℕ)
text_in Tree-F.Null = Err []
text_in (Tree-F.Bool b) = Err []
text_in (Tree-F.Int z) = Err []
text_in (Tree-F.Text s) = Ok s
text_in (Tree-F.List ts) = Err []
text_in (Tree-F.Object ms) = Err []

-- a text
abbrev pub text_form : Tree → Result (List ℕ) (List ℕ)
text_form t = text_in (out-Tree t)

-- a text that spells something
abbrev pub spelled_form : {A : Type 0} → (List ℕ → Option A) → Tree → Result A (List ℕ)
spelled_form named t = text_form t >>= λ s. wanted (named s)

abbrev pub truth_in : Tree-F Tree → Result Bool (List ℕ)
truth_in Tree-F.Null = Err []
truth_in (Tree-F.Bool b) = Ok b
truth_in (Tree-F.Int z) = Err []
truth_in (Tree-F.Text s) = Err []
truth_in (Tree-F.List ts) = Err []
truth_in (Tree-F.Object ms) = Err []

-- a truth value
abbrev pub truth_form : Tree → Result Bool (List ℕ)
truth_form t = truth_in (out-Tree t)

abbrev pub is_between : ℤ → ℤ → ℤ → Bool
is_between least greatest z = not (int_lt z least) && not (int_lt greatest z)

abbrev pub whole_in : ℤ → ℤ → Tree-F Tree → Result ℤ (List ℕ)
whole_in least greatest Tree-F.Null = Err []
whole_in least greatest (Tree-F.Bool b) = Err []
whole_in least greatest (Tree-F.Int z) = if_holds (is_between least greatest z) z
whole_in least greatest (Tree-F.Text s) = Err []
whole_in least greatest (Tree-F.List ts) = Err []
whole_in least greatest (Tree-F.Object ms) = Err []

-- a whole number from the least to the greatest
abbrev pub whole_form : ℤ → ℤ → Tree → Result ℤ (List ℕ)
whole_form least greatest t = whole_in least greatest (out-Tree t)

-- any tree, kept as it is
abbrev pub any_form : Tree → Result Tree (List ℕ)
any_form t = Ok t

abbrev pub object_in : Tree → Tree-F Tree → Result Tree (List ℕ)
object_in t Tree-F.Null = Err []
object_in t (Tree-F.Bool b) = Err []
object_in t (Tree-F.Int z) = Err []
object_in t (Tree-F.Text s) = Err []
object_in t (Tree-F.List ts) = Err []
object_in t (Tree-F.Object ms) = Ok t

-- an object, kept as it is
abbrev pub object_form : Tree → Result Tree (List ℕ)
object_form t = object_in t (out-Tree t)

abbrev pub is_object_in : Tree-F Tree → Bool
is_object_in Tree-F.Null = false
is_object_in (Tree-F.Bool b) = false
is_object_in (Tree-F.Int z) = false
is_object_in (Tree-F.Text s) = false
is_object_in (Tree-F.List ts) = false
is_object_in (Tree-F.Object ms) = true

abbrev pub is_object : Tree → Bool
is_object t = is_object_in (out-Tree t)

abbrev pub nullable_in : {A : Type 0} → (Tree → Result A (List ℕ)) → Tree → Tree-F Tree → Result (Option A) (List ℕ)
nullable_in form t Tree-F.Null = Ok None
nullable_in form t (Tree-F.Bool b) = form t >>= λ x. Ok (Some x)
nullable_in form t (Tree-F.Int z) = form t >>= λ x. Ok (Some x)
nullable_in form t (Tree-F.Text s) = form t >>= λ x. Ok (Some x)
nullable_in form t (Tree-F.List ts) = form t >>= λ x. Ok (Some x)
nullable_in form t (Tree-F.Object ms) = form t >>= λ x. Ok (Some x)

-- null, or a value of the form
abbrev pub nullable_form : {A : Type 0} → (Tree → Result A (List ℕ)) → Tree → Result (Option A) (List ℕ)
nullable_form form t = nullable_in form t (out-Tree t)

-- the items in order, each of the form, counted from the number on
abbrev pub items_of : {A B : Type 0} → (A → Result B (List ℕ)) → ℕ → List A → Result (List B) (List ℕ)
items_of form n [] = Ok []
items_of form n (t ∷ ts) = do
  x ← below (decimal n) (form t)
  xs ← items_of form (n + 1) ts
  Ok (x ∷ xs)

abbrev pub list_in : {A : Type 0} → (Tree → Result A (List ℕ)) → Tree-F Tree → Result (List A) (List ℕ)
list_in form Tree-F.Null = Err []
list_in form (Tree-F.Bool b) = Err []
list_in form (Tree-F.Int z) = Err []
list_in form (Tree-F.Text s) = Err []
list_in form (Tree-F.List ts) = items_of form 0 ts
list_in form (Tree-F.Object ms) = Err []

-- a list of values of the form
abbrev pub list_form : {A : Type 0} → (Tree → Result A (List ℕ)) → Tree → Result (List A) (List ℕ)
list_form form t = list_in form (out-Tree t)

-- a list of the one value of the form
abbrev pub one_of : {A : Type 0} → (Tree → Result A (List ℕ)) → Tree → Result (List A) (List ℕ)
one_of form t = form t >>= λ x. Ok (x ∷ [])

abbrev pub one_in : {A : Type 0} → (Tree → Result A (List ℕ)) → Tree → Tree-F Tree → Result (List A) (List ℕ)
one_in form t Tree-F.Null = one_of form t
one_in form t (Tree-F.Bool b) = one_of form t
one_in form t (Tree-F.Int z) = one_of form t
one_in form t (Tree-F.Text s) = one_of form t
one_in form t (Tree-F.List ts) = items_of form 0 ts
one_in form t (Tree-F.Object ms) = one_of form t

-- a value of the form, or a list of them
abbrev pub one_or_list_form : {A : Type 0} → (Tree → Result A (List ℕ)) → Tree → Result (List A) (List ℕ)
one_or_list_form form t = one_in form t (out-Tree t)

abbrev pub has_some : {A : Type 0} → List A → Bool
has_some [] = false
has_some (x ∷ xs) = true

-- a value of the form, or a list of at least one
abbrev pub one_or_more_form : {A : Type 0} → (Tree → Result A (List ℕ)) → Tree → Result (List A) (List ℕ)
one_or_more_form form t = one_or_list_form form t >>= λ xs. if_holds (has_some xs) xs

abbrev pub empty_list_in : Tree-F Tree → Result (Unit {0}) (List ℕ)
empty_list_in Tree-F.Null = Err []
empty_list_in (Tree-F.Bool b) = Err []
empty_list_in (Tree-F.Int z) = Err []
empty_list_in (Tree-F.Text s) = Err []
empty_list_in (Tree-F.List []) = Ok tt
empty_list_in (Tree-F.List (t ∷ ts)) = Err []
empty_list_in (Tree-F.Object ms) = Err []

-- an empty list
abbrev pub empty_list_form : Tree → Result (Unit {0}) (List ℕ)
empty_list_form t = empty_list_in (out-Tree t)

-- what is said of a value, where there is one
abbrev pub if_given : {A : Type 0} → (A → Bool) → Option A → Bool
if_given says None = true
if_given says (Some x) = says x
