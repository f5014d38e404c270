-- A reply as contracts see it, and its bytes on the wire.
use Rattle.std.specs.Prelude.{ℕ, Bool, true, false, ◌==◌, ◌||◌, if◌then◌else◌, List, [], ◌++◌, length, codes, decimal, Option, Some, None}
use Rattle.json.specs.Print.{quoted}

-- status, the methods that a 405 allows, and the printed body
pub record ReplyValue : Type 0 where
  pub status : ℕ
  pub allow : List ℕ
  pub body : List ℕ

-- the end of a line
abbrev pub crlf : List ℕ
crlf = codes "\r\n"

-- the phrase behind a status (RFC 9110, section 15), and none behind others
abbrev pub phrase_of : ℕ → List ℕ
phrase_of status =
    if status == 200 then codes "OK"
    else if status == 201 then codes "Created"
    else if status == 400 then codes "Bad Request"
    else if status == 401 then codes "Unauthorized"
    else if status == 403 then codes "Forbidden"
    else if status == 404 then codes "Not Found"
    else if status == 405 then codes "Method Not Allowed"
    else if status == 409 then codes "Conflict"
    else if status == 411 then codes "Length Required"
    else if status == 413 then codes "Payload Too Large"
    else if status == 415 then codes "Unsupported Media Type"
    else if status == 431 then codes "Request Header Fields Too Large"
    else if status == 501 then codes "Not Implemented"
    else if status == 503 then codes "Service Unavailable"
    else []

-- the status line
abbrev pub status_line : ℕ → List ℕ
status_line status = codes "HTTP/1.1 " ++ (decimal status ++ (codes " " ++ (phrase_of status ++ crlf)))

-- a line where it applies
abbrev pub line_if : Bool → List ℕ → List ℕ
line_if true line = line
line_if false line = []

-- the line with the methods that are allowed, of a 405
abbrev pub allow_line : ReplyValue → List ℕ
allow_line r = line_if (r.status == 405) (codes "allow: " ++ (r.allow ++ crlf))

-- the line with the length of the body
abbrev pub length_line : List ℕ → List ℕ
length_line body = codes "content-length: " ++ (decimal (length body) ++ crlf)

-- the line with the place, where the response has one
abbrev pub place_line : Option ℕ → List ℕ
place_line None = []
place_line (Some place) = codes "esec-place: " ++ (decimal place ++ crlf)

-- the bytes of a response: the status line, the fields in this order where they apply, an empty line, and the body
unfoldable pub response : ReplyValue → Option ℕ → Bool → List ℕ
response r place close =
    status_line r.status
    ++ (allow_line r
    ++ (line_if close (codes "connection: close\r\n")
    ++ (length_line r.body
    ++ (codes "content-type: application/json\r\n"
    ++ (place_line place
    ++ (line_if (r.status == 401) (codes "www-authenticate: Bearer, ApiKey\r\n")
    ++ (crlf
    ++ r.body)))))))

-- {"error":{"reason":REASON,"type":KIND},"status":STATUS}, in compact JSON
unfoldable pub error_body : ℕ → List ℕ → List ℕ → List ℕ
error_body status kind reason =
    codes "{\"error\":{\"reason\":" ++ (quoted reason ++ (codes ",\"type\":" ++ (quoted kind ++ (codes "},\"status\":" ++ (decimal status ++ codes "}")))))

-- an error's reply
abbrev pub error_reply : ℕ → List ℕ → List ℕ → ReplyValue
error_reply status kind reason = record { status = status; allow = []; body = error_body status kind reason }

-- why a head or its framing isn't taken, or that memory was refused
abbrev pub fixed_error : ℕ → ReplyValue
fixed_error status =
    if status == 400 then error_reply 400 (codes "framing") (codes "bad head")
    else if status == 411 then error_reply 411 (codes "framing") (codes "transfer coding is not supported")
    else if status == 413 then error_reply 413 (codes "framing") (codes "the body is too large")
    else if status == 415 then error_reply 415 (codes "framing") (codes "content coding is not supported")
    else if status == 431 then error_reply 431 (codes "framing") (codes "the head is too large")
    else error_reply 503 (codes "out_of_memory") (codes "out of memory")

-- the statuses of the fixed responses
abbrev pub is_fixed : ℕ → Bool
is_fixed status =
    (status == 400) || (status == 411) || (status == 413) || (status == 415) || (status == 431) || (status == 503)

-- the whole response without a place, after which the connection closes
abbrev pub fixed_response : ℕ → List ℕ
fixed_response status = response (fixed_error status) None true
