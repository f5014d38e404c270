-- The paths, and what is asked of each by which method.
use Rattle.std.specs.Prelude.{ℕ, Bool, true, false, ◌&&◌, ◌||◌, not, nat_eq, List, [], ◌∷◌, ◌++◌, length, codes, bytes_eq, Option, Some, None, if◌then◌else◌}
use Rattle.std.specs.List.{starts_with}
use Rattle.es_request.specs.declared.kinds.RouteKind.{RouteKind}
use Rattle.es_request.specs.declared.kinds.RouteKind.TheVariants as kind

-- a piece of a path: a word, or a parameter that isn't empty
pub data Piece : Type 0 where
  word : List ℕ → Piece
  parameter : Piece

-- a path, and its methods in byte order with what is asked by each
pub record Row : Type 0 where
  pub pieces : List Piece
  pub methods : List (List ℕ × RouteKind)

abbrev pub row : List Piece → List (List ℕ × RouteKind) → Row
row pieces methods = record { pieces = pieces; methods = methods }

abbrev pub named : {A : Type 0} → List ℕ → A → List ℕ × A
named name x = (name, x)

-- methods
abbrev pub delete : RouteKind → List ℕ × RouteKind
delete = named (codes "DELETE")

abbrev pub get : RouteKind → List ℕ × RouteKind
get = named (codes "GET")

abbrev pub post : RouteKind → List ℕ × RouteKind
post = named (codes "POST")

abbrev pub put : RouteKind → List ℕ × RouteKind
put = named (codes "PUT")

-- paths whose first segment begins with a low line; where two fit, the earlier one goes before
abbrev pub cluster_rows : List Row
cluster_rows =
    row (word (codes "_bulk") ∷ []) (post kind.Bulk ∷ [])
    ∷ row (word (codes "_search") ∷ []) (get kind.Search ∷ post kind.Search ∷ [])
    ∷ row (word (codes "_security") ∷ word (codes "_authenticate") ∷ []) (get kind.Authenticate ∷ [])
    ∷ row (word (codes "_security") ∷ word (codes "api_key") ∷ [])
    (delete kind.Invalidate ∷ get kind.ListKeys ∷ post kind.CreateKey ∷ put kind.CreateKey ∷ [])
    ∷ row (word (codes "_security") ∷ word (codes "api_key") ∷ parameter ∷ []) (put kind.UpdateKey ∷ [])
    ∷ row (word (codes "_security") ∷ word (codes "user") ∷ word (codes "_has_privileges") ∷ []) (get kind.HasPrivileges ∷ post kind.HasPrivileges ∷ [])
    ∷ row (word (codes "_security") ∷ word (codes "role") ∷ parameter ∷ [])
    (delete kind.DeleteRole ∷ get kind.GetRole ∷ post kind.PutRole ∷ put kind.PutRole ∷ [])
    ∷ row (word (codes "_security") ∷ word (codes "user") ∷ parameter ∷ [])
    (delete kind.DeleteUser ∷ get kind.GetUser ∷ post kind.PutUser ∷ put kind.PutUser ∷ [])
    ∷ row (word (codes "_security") ∷ word (codes "role") ∷ parameter ∷ word (codes "_clear_cache") ∷ []) (post kind.ClearCache ∷ put kind.ClearCache ∷ [])
    ∷ []

-- all other paths
abbrev pub index_rows : List Row
index_rows =
    row (parameter ∷ []) (delete kind.DeleteIndex ∷ put kind.CreateIndex ∷ [])
    ∷ row (parameter ∷ word (codes "_bulk") ∷ []) (post kind.Bulk ∷ [])
    ∷ row (parameter ∷ word (codes "_mapping") ∷ []) (get kind.GetMapping ∷ put kind.PutMapping ∷ [])
    ∷ row (parameter ∷ word (codes "_search") ∷ []) (get kind.Search ∷ post kind.Search ∷ [])
    ∷ row (parameter ∷ word (codes "_create") ∷ parameter ∷ []) (post kind.CreateDocument ∷ put kind.CreateDocument ∷ [])
    ∷ row (parameter ∷ word (codes "_doc") ∷ parameter ∷ [])
    (delete kind.DeleteDocument ∷ get kind.GetDocument ∷ post kind.PutDocument ∷ put kind.PutDocument ∷ [])
    ∷ []

abbrev pub has_bytes : List ℕ → Bool
has_bytes [] = false
has_bytes (b ∷ bs) = true

-- a word is equal byte for byte, and a parameter isn't empty
abbrev pub piece_fits : Piece → List ℕ → Bool
piece_fits (word w) segment = bytes_eq segment w
piece_fits parameter segment = has_bytes segment

abbrev pub pieces_fit : List Piece → List (List ℕ) → Bool
pieces_fit [] segments = true
pieces_fit (p ∷ ps) [] = true
pieces_fit (p ∷ ps) (s ∷ ss) = piece_fits p s && pieces_fit ps ss

-- there are as many segments as pieces, and each fits its piece
abbrev pub row_fits : Row → List (List ℕ) → Bool
row_fits r segments = nat_eq (length r.pieces) (length segments) && pieces_fit r.pieces segments

-- the first row that fits
abbrev pub row_in : List Row → List (List ℕ) → Option Row
row_in [] segments = None
row_in (r ∷ rows) segments = if row_fits r segments then Some r else row_in rows segments

-- the segment is every index's name, or begins a list with it
abbrev pub is_everywhere : List ℕ → Bool
is_everywhere segment = bytes_eq segment (codes "_all") || starts_with nat_eq segment (codes "_all,")

-- whether a path with this first segment is looked up among those of the cluster
abbrev pub is_of_cluster : List ℕ → Bool
is_of_cluster segment = starts_with nat_eq segment (codes "_") && not (is_everywhere segment)

abbrev pub starts_in_cluster : List (List ℕ) → Bool
starts_in_cluster [] = false
starts_in_cluster (segment ∷ segments) = is_of_cluster segment

-- the path that these segments are
unfoldable pub row_of : List (List ℕ) → Option Row
row_of segments = if starts_in_cluster segments then row_in cluster_rows segments else row_in index_rows segments

abbrev pub parameter_at : Piece → List ℕ → List (List ℕ) → List (List ℕ)
parameter_at (word w) segment parameters = parameters
parameter_at parameter segment parameters = segment ∷ parameters

-- the segments at the parameters of the pieces
abbrev pub parameters_in : List Piece → List (List ℕ) → List (List ℕ)
parameters_in [] segments = []
parameters_in (p ∷ ps) [] = []
parameters_in (p ∷ ps) (s ∷ ss) = parameter_at p s (parameters_in ps ss)

-- what is asked by a method
abbrev pub kind_in : List (List ℕ × RouteKind) → List ℕ → Option RouteKind
kind_in [] method = None
kind_in (m ∷ methods) method = if bytes_eq method m.0 then Some m.1 else kind_in methods method

-- the methods, as the field `allow` lists them (RFC 9110, section 10.2.1)
abbrev pub allow_of : List (List ℕ × RouteKind) → List ℕ
allow_of [] = []
allow_of (m ∷ []) = m.0
allow_of (m ∷ n ∷ methods) = m.0 ++ (codes ", " ++ allow_of (n ∷ methods))
