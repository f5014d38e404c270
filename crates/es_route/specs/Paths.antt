-- The paths and targets as the code has them.
use Rattle.std.specs.Prelude.{◌≡◌, ℕ, ◌<◌, List, [], ◌∷◌, length, Option, Some, None, slice_index_or, Result, Ok, Err, if◌then◌else◌}
use Rattle.std.specs.Str.{is_utf8}
use Rattle.percent_encoding.specs.Percent.{percent_decode}
use Rattle.es_response.specs.Reply.{ReplyValue}
use Rattle.es_reply.specs.Bodies.{bad_path_reply}
use Rattle.es_route.specs.declared.target.Target as code_target
use Rattle.es_route.specs.declared.segments.Segments.{Segments}
use Rattle.es_route.specs.declared.segments.Segments.TheVariants.{One, Two, Three, Four, More}
use Rattle.es_route.specs.declared.path.Path.{Path}
use Rattle.es_route.specs.declared.path.Path.TheVariants as path
use Rattle.es_route.specs.declared.asking.Found as code_found
use Rattle.es_route.specs.declared.asking.Asked as code_asked
use Rattle.es_route.specs.Targets.{Target, decoded}
use Rattle.es_route.specs.Rows.{Row, row, row_in, row_of, cluster_rows, index_rows, parameters_in}
use Rattle.es_route.specs.Reading.{Asked, ◌then◌}

-- a target by the texts that it lends
abbrev pub target_as : code_target.Target → Target
target_as target = record { path = target.path.now; query = target.query.now }

-- a path's segments, or that there are more than four
abbrev pub SegmentsAre : Segments → List (List ℕ) → Type 0
SegmentsAre (One a) segments = segments ≡ a.now ∷ []
SegmentsAre (Two a b) segments = segments ≡ a.now ∷ b.now ∷ []
SegmentsAre (Three a b c) segments = segments ≡ a.now ∷ b.now ∷ c.now ∷ []
SegmentsAre (Four a b c d) segments = segments ≡ a.now ∷ b.now ∷ c.now ∷ d.now ∷ []
SegmentsAre More segments = 4 < length segments

-- the row at a place of a table
abbrev pub no_row : Row
no_row = row [] []

unfoldable pub cluster_row : ℕ → Row
cluster_row place = slice_index_or cluster_rows place no_row

unfoldable pub index_row : ℕ → Row
index_row place = slice_index_or index_rows place no_row

-- a path's row
abbrev pub path_row : Path → Row
path_row path.Bulk = cluster_row 0
path_row path.Search = cluster_row 1
path_row path.Authenticate = cluster_row 2
path_row path.Keys = cluster_row 3
path_row (path.Key id) = cluster_row 4
path_row path.HasPrivileges = cluster_row 5
path_row (path.Role name) = cluster_row 6
path_row (path.User name) = cluster_row 7
path_row (path.RoleCache name) = cluster_row 8
path_row (path.Index name) = index_row 0
path_row (path.IndexBulk name) = index_row 1
path_row (path.Mapping name) = index_row 2
path_row (path.IndexSearch name) = index_row 3
path_row (path.Create name id) = index_row 4
path_row (path.Document name id) = index_row 5

-- its parameters
abbrev pub path_parameters : Path → List (List ℕ)
path_parameters path.Bulk = []
path_parameters path.Search = []
path_parameters path.Authenticate = []
path_parameters path.Keys = []
path_parameters (path.Key id) = id.now ∷ []
path_parameters path.HasPrivileges = []
path_parameters (path.Role name) = name.now ∷ []
path_parameters (path.User name) = name.now ∷ []
path_parameters (path.RoleCache name) = name.now ∷ []
path_parameters (path.Index name) = name.now ∷ []
path_parameters (path.IndexBulk name) = name.now ∷ []
path_parameters (path.Mapping name) = name.now ∷ []
path_parameters (path.IndexSearch name) = name.now ∷ []
path_parameters (path.Create name id) = name.now ∷ id.now ∷ []
path_parameters (path.Document name id) = name.now ∷ id.now ∷ []

abbrev pub path_as : Path → Row × List (List ℕ)
path_as found = (path_row found, path_parameters found)

-- a row with the segments at its parameters
abbrev pub with_parameters : List (List ℕ) → Option Row → Option (Row × List (List ℕ))
with_parameters segments None = None
with_parameters segments (Some r) = Some (r, parameters_in r.pieces segments)

-- the first row of a table that fits, with the parameters
unfoldable pub found_in : List Row → List (List ℕ) → Option (Row × List (List ℕ))
found_in rows segments = with_parameters segments (row_in rows segments)

-- the path that these segments are, with its parameters
unfoldable pub found_of : List (List ℕ) → Option (Row × List (List ℕ))
found_of segments = with_parameters segments (row_of segments)

-- one parameter as it is meant
abbrev pub decoded_one : List ℕ → Result (List ℕ) ReplyValue
decoded_one segment = if is_utf8 (percent_decode segment) then Ok (percent_decode segment) else Err bad_path_reply

-- a row with its parameters, decoded
abbrev pub decoded_at : Row × List (List ℕ) → Result (Row × List (List ℕ)) ReplyValue
decoded_at found = decoded found.1 then λ pieces. Ok (found.0, pieces)

-- a row and decoded parameters
abbrev pub found_as : code_found.Found → Row × List (List ℕ)
found_as found = (path_row found.path, found.pieces)

-- what is asked, as definitions have it
abbrev pub asked_as : code_asked.Asked → Asked
asked_as asked = record { kind = asked.kind; pieces = asked.pieces }
