-- The tables at paths of one to four segments.
use Rattle.std.proofs.Common.{◌≡◌, ◌≢◌, ℕ, ◌<◌, ◌≤◌, Bool, true, false, ◌&&◌, List, [], ◌∷◌, length, codes, Some, None, refl, arith}
use Rattle.std.specs.Prelude.{bytes_eq, nat_eq, if◌then◌else◌}
use Rattle.std.proofs.lemmas.Bool.Decides.{nat_tests}
use Rattle.std.proofs.lemmas.Slice.Eq.{bytes_eq-Decides}
use Rattle.es_route.specs.declared.path.Path.{Path}
use Rattle.es_route.specs.declared.path.Path.TheVariants as path
use Rattle.es_route.specs.Rows.{kind_in, has_bytes, is_of_cluster, starts_in_cluster, cluster_rows, index_rows, row_in, row_of}
use Rattle.es_route.specs.Paths.{found_in, found_of, cluster_row, index_row, path_row, with_parameters}

unless_true : (r : Bool) → (r ≡ true → ⊥) → r ≡ false
unless_true true not = absurd (not refl)
unless_true false not = refl

-- a text that isn't the word
pub differs : (text word : List ℕ) → text ≢ word → bytes_eq text word ≡ false
differs text word not = unless_true (bytes_eq text word) (λ e. not ((bytes_eq-Decides text word).0 e))

and_false : (b : Bool) → (b && false) ≡ false
and_false true = refl
and_false false = refl

-- ---- paths of the cluster

pub one_bulk : (a : List ℕ) → a ≡ codes "_bulk" → Some (cluster_row 0, []) ≡ found_in cluster_rows (a ∷ [])
unfolding found_in cluster_row
one_bulk a is = rw (is)

pub one_search : (a : List ℕ) → a ≡ codes "_search" → Some (cluster_row 1, []) ≡ found_in cluster_rows (a ∷ [])
unfolding found_in cluster_row
one_search a is = rw (is)

pub one_other : (a : List ℕ) → a ≢ codes "_bulk" → a ≢ codes "_search" → None ≡ found_in cluster_rows (a ∷ [])
unfolding found_in
one_other a bulk search_ = rw (differs a (codes "_bulk") bulk, differs a (codes "_search") search_)

pub two_elsewhere : (a b : List ℕ) → a ≢ codes "_security" → None ≡ found_in cluster_rows (a ∷ b ∷ [])
unfolding found_in
two_elsewhere a b not = rw (differs a (codes "_security") not)

pub two_authenticate : (b : List ℕ) → b ≡ codes "_authenticate" → Some (cluster_row 2, []) ≡ found_in cluster_rows (codes "_security" ∷ b ∷ [])
unfolding found_in cluster_row
two_authenticate b is = rw (is)

pub two_keys : (b : List ℕ) → b ≡ codes "api_key" → Some (cluster_row 3, []) ≡ found_in cluster_rows (codes "_security" ∷ b ∷ [])
unfolding found_in cluster_row
two_keys b is = rw (is)

pub two_other : (b : List ℕ) → b ≢ codes "_authenticate" → b ≢ codes "api_key" → None ≡ found_in cluster_rows (codes "_security" ∷ b ∷ [])
unfolding found_in
two_other b authenticate keys = rw (differs b (codes "_authenticate") authenticate, differs b (codes "api_key") keys)

pub three_empty : (a b c : List ℕ) → has_bytes c ≡ false → None ≡ found_in cluster_rows (a ∷ b ∷ c ∷ [])
unfolding found_in
three_empty a b [] none = simp and_false
three_empty a b (x ∷ c) none = cc

pub three_elsewhere : (a b c : List ℕ) → a ≢ codes "_security" → None ≡ found_in cluster_rows (a ∷ b ∷ c ∷ [])
unfolding found_in
three_elsewhere a b c not = rw (differs a (codes "_security") not)

pub three_key : (b c : List ℕ) → b ≡ codes "api_key" → has_bytes c ≡ true → Some (cluster_row 4, c ∷ []) ≡ found_in cluster_rows (codes "_security" ∷ b ∷ c ∷ [])
unfolding found_in cluster_row
three_key b c is some = rw (is, some)

pub three_role : (b c : List ℕ) → b ≡ codes "role" → has_bytes c ≡ true → Some (cluster_row 6, c ∷ []) ≡ found_in cluster_rows (codes "_security" ∷ b ∷ c ∷ [])
unfolding found_in cluster_row
three_role b c is some = rw (is, some)

pub three_other : (b c : List ℕ) → b ≢ codes "api_key" → b ≢ codes "role" → b ≢ codes "user" → None ≡ found_in cluster_rows (codes "_security" ∷ b ∷ c ∷ [])
unfolding found_in
three_other b c key role user = rw (differs b (codes "api_key") key, differs b (codes "role") role, differs b (codes "user") user)

pub three_privileges : (c : List ℕ) → c ≡ codes "_has_privileges" → Some (cluster_row 5, []) ≡ found_in cluster_rows (codes "_security" ∷ codes "user" ∷ c ∷ [])
unfolding found_in cluster_row
three_privileges c is = rw (is)

pub three_user : (c : List ℕ) → has_bytes c ≡ true → c ≢ codes "_has_privileges" → Some (cluster_row 7, c ∷ []) ≡ found_in cluster_rows (codes "_security" ∷ codes "user" ∷ c ∷ [])
unfolding found_in cluster_row
three_user c some not = rw (differs c (codes "_has_privileges") not, some)

pub four_first : (a b c d : List ℕ) → a ≢ codes "_security" → None ≡ found_in cluster_rows (a ∷ b ∷ c ∷ d ∷ [])
unfolding found_in
four_first a b c d not = rw (differs a (codes "_security") not)

pub four_second : (b c d : List ℕ) → b ≢ codes "role" → None ≡ found_in cluster_rows (codes "_security" ∷ b ∷ c ∷ d ∷ [])
unfolding found_in
four_second b c d not = rw (differs b (codes "role") not)

pub four_third : (c d : List ℕ) → has_bytes c ≡ false → None ≡ found_in cluster_rows (codes "_security" ∷ codes "role" ∷ c ∷ d ∷ [])
unfolding found_in
four_third c d none = rw none

pub four_fourth : (c d : List ℕ) → d ≢ codes "_clear_cache" → None ≡ found_in cluster_rows (codes "_security" ∷ codes "role" ∷ c ∷ d ∷ [])
unfolding found_in
four_fourth c d not = rw (differs d (codes "_clear_cache") not) (simp and_false)

pub four_cache : (c d : List ℕ) → has_bytes c ≡ true → d ≡ codes "_clear_cache" → Some (cluster_row 8, c ∷ []) ≡ found_in cluster_rows (codes "_security" ∷ codes "role" ∷ c ∷ d ∷ [])
unfolding found_in cluster_row
four_cache c d some is = rw (is, some)

-- ---- paths of indices

pub index_one : (a : List ℕ) → has_bytes a ≡ true → Some (index_row 0, a ∷ []) ≡ found_in index_rows (a ∷ [])
unfolding found_in index_row
index_one a some = rw (some)

pub index_one_empty : (a : List ℕ) → has_bytes a ≡ false → None ≡ found_in index_rows (a ∷ [])
unfolding found_in
index_one_empty a none = rw none

pub index_two_empty : (a b : List ℕ) → has_bytes a ≡ false → None ≡ found_in index_rows (a ∷ b ∷ [])
unfolding found_in
index_two_empty a b none = rw none

pub index_two_other : (a b : List ℕ) → b ≢ codes "_bulk" → b ≢ codes "_mapping" → b ≢ codes "_search" → None ≡ found_in index_rows (a ∷ b ∷ [])
unfolding found_in
index_two_other a b bulk mapping search_ = rw (differs b (codes "_bulk") bulk, differs b (codes "_mapping") mapping, differs b (codes "_search") search_) (simp and_false)

pub index_bulk : (a b : List ℕ) → has_bytes a ≡ true → b ≡ codes "_bulk" → Some (index_row 1, a ∷ []) ≡ found_in index_rows (a ∷ b ∷ [])
unfolding found_in index_row
index_bulk a b some is = rw (is, some)

pub index_mapping : (a b : List ℕ) → has_bytes a ≡ true → b ≡ codes "_mapping" → Some (index_row 2, a ∷ []) ≡ found_in index_rows (a ∷ b ∷ [])
unfolding found_in index_row
index_mapping a b some is = rw (is, some)

pub index_search : (a b : List ℕ) → has_bytes a ≡ true → b ≡ codes "_search" → Some (index_row 3, a ∷ []) ≡ found_in index_rows (a ∷ b ∷ [])
unfolding found_in index_row
index_search a b some is = rw (is, some)

pub index_three_first : (a b c : List ℕ) → has_bytes a ≡ false → None ≡ found_in index_rows (a ∷ b ∷ c ∷ [])
unfolding found_in
index_three_first a b c none = rw none

pub index_three_third : (a b c : List ℕ) → has_bytes c ≡ false → None ≡ found_in index_rows (a ∷ b ∷ c ∷ [])
unfolding found_in
index_three_third a b [] none = simp and_false
index_three_third a b (x ∷ c) none = cc

pub index_three_other : (a b c : List ℕ) → b ≢ codes "_create" → b ≢ codes "_doc" → None ≡ found_in index_rows (a ∷ b ∷ c ∷ [])
unfolding found_in
index_three_other a b c create doc = rw (differs b (codes "_create") create, differs b (codes "_doc") doc) (simp and_false)

pub index_create : (a b c : List ℕ) → has_bytes a ≡ true → has_bytes c ≡ true → b ≡ codes "_create" → Some (index_row 4, a ∷ c ∷ []) ≡ found_in index_rows (a ∷ b ∷ c ∷ [])
unfolding found_in index_row
index_create a b c first third is = rw (is, first, third)

pub index_document : (a b c : List ℕ) → has_bytes a ≡ true → has_bytes c ≡ true → b ≡ codes "_doc" → Some (index_row 5, a ∷ c ∷ []) ≡ found_in index_rows (a ∷ b ∷ c ∷ [])
unfolding found_in index_row
index_document a b c first third is = rw (is, first, third)

pub index_four : (a b c d : List ℕ) → None ≡ found_in index_rows (a ∷ b ∷ c ∷ d ∷ [])
unfolding found_in
index_four a b c d = refl

-- ---- both

-- a path is looked up by its first segment
pub of_cluster : (a : List ℕ) (others : List (List ℕ)) → is_of_cluster a ≡ true → found_of (a ∷ others) ≡ found_in cluster_rows (a ∷ others)
unfolding found_of found_in row_of
of_cluster a others is = rw is

pub of_index : (a : List ℕ) (others : List (List ℕ)) → is_of_cluster a ≡ false → found_of (a ∷ others) ≡ found_in index_rows (a ∷ others)
unfolding found_of found_in row_of
of_index a others is = rw is

shorter : (k n : ℕ) → k ≤ 4 → 4 < n → nat_eq k n ≡ false
shorter k n few many = grind (arith, nat_tests)

-- no path has more than four segments
pub too_long : (segments : List (List ℕ)) → 4 < length segments → found_of segments ≡ None
unfolding found_of row_of
too_long segments long =
    let one = shorter 1 (length segments) (omega arith) long in
    let two = shorter 2 (length segments) (omega arith) long in
    let three = shorter 3 (length segments) (omega arith) long in
    let four = shorter 4 (length segments) (omega arith) long in
    elim (starts_in_cluster segments) as (λ b. with_parameters segments (if b then row_in cluster_rows segments else row_in index_rows segments) ≡ None) [
      | true ↦ rw (one, two, three, four)
      | false ↦ rw (one, two, three)
    ]

-- a path has no other methods
module _ (m : List ℕ) (delete : m ≢ codes "DELETE") (get : m ≢ codes "GET") (post : m ≢ codes "POST") (put : m ≢ codes "PUT") where
  pub no_kind : (p : Path) → None ≡ kind_in (path_row p).methods m
  unfolding cluster_row index_row
  no_kind path.Bulk = rw (differs m (codes "POST") post)
  no_kind path.Search = rw (differs m (codes "GET") get, differs m (codes "POST") post)
  no_kind path.Authenticate = rw (differs m (codes "GET") get)
  no_kind path.Keys = rw (differs m (codes "DELETE") delete, differs m (codes "GET") get, differs m (codes "POST") post, differs m (codes "PUT") put)
  no_kind (path.Key x) = rw (differs m (codes "PUT") put)
  no_kind path.HasPrivileges = rw (differs m (codes "GET") get, differs m (codes "POST") post)
  no_kind (path.Role x) = rw (differs m (codes "DELETE") delete, differs m (codes "GET") get, differs m (codes "POST") post, differs m (codes "PUT") put)
  no_kind (path.User x) = rw (differs m (codes "DELETE") delete, differs m (codes "GET") get, differs m (codes "POST") post, differs m (codes "PUT") put)
  no_kind (path.RoleCache x) = rw (differs m (codes "POST") post, differs m (codes "PUT") put)
  no_kind (path.Index x) = rw (differs m (codes "DELETE") delete, differs m (codes "PUT") put)
  no_kind (path.IndexBulk x) = rw (differs m (codes "POST") post)
  no_kind (path.Mapping x) = rw (differs m (codes "GET") get, differs m (codes "PUT") put)
  no_kind (path.IndexSearch x) = rw (differs m (codes "GET") get, differs m (codes "POST") post)
  no_kind (path.Create x y) = rw (differs m (codes "POST") post, differs m (codes "PUT") put)
  no_kind (path.Document x y) = rw (differs m (codes "DELETE") delete, differs m (codes "GET") get, differs m (codes "POST") post, differs m (codes "PUT") put)
