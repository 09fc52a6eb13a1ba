-- The bytes of an answer (RFC 9112 4 Status Line, 5 Field Syntax; RFC 9110 8.3 Content-Type, 10.2.1 Allow, 10.2.2
-- Location).
use Rattle.std.specs.Prelude.{ℕ, ◌==◌, List, [], ◌∷◌, ◌++◌, length, codes, decimal, if◌then◌else◌, Option, Some, None}
use Rattle.std.specs.Prelude.{Bool}
use Rattle.lcm_replies.specs.declared.reply.Reply.{Reply}

-- the reason of a status (RFC 9110 15 Status Codes)
unfoldable pub reason : ℕ → List ℕ
reason status =
    if status == 200 then codes "OK"
    else (if status == 201 then codes "Created"
    else (if status == 202 then codes "Accepted"
    else (if status == 204 then codes "No Content"
    else (if status == 400 then codes "Bad Request"
    else (if status == 404 then codes "Not Found"
    else (if status == 405 then codes "Method Not Allowed"
    else (if status == 409 then codes "Conflict"
    else (if status == 413 then codes "Content Too Large"
    else (if status == 415 then codes "Unsupported Media Type"
    else (if status == 422 then codes "Unprocessable Content"
    else (if status == 500 then codes "Internal Server Error"
    else (if status == 503 then codes "Service Unavailable"
    else (if status == 507 then codes "Insufficient Storage"
    else [])))))))))))))

-- the end of a line of the head
abbrev pub line_end : List ℕ
line_end = 13 ∷ 10 ∷ []

-- a field line
unfoldable pub field : List ℕ → List ℕ → List ℕ
field name value = name ++ (58 ∷ 32 ∷ value) ++ line_end

-- a field line, where there is a value
abbrev pub optional_field : List ℕ → Option (List ℕ) → List ℕ
optional_field name None = []
optional_field name (Some value) = field name value

unfoldable pub status_line : ℕ → List ℕ
status_line status = codes "HTTP/1.1 " ++ decimal status ++ 32 ∷ reason status ++ line_end

-- the media type of a body
abbrev pub media_type : Bool → List ℕ
media_type problem = if problem then codes "application/problem+json" else codes "application/json"

-- the lines that describe a body of this length; an empty body has its length alone, and 204 has neither line (RFC 9110
-- 15.3.5)
abbrev pub content_fields : ℕ → Bool → ℕ → List ℕ
content_fields status problem size =
    if status == 204 then []
    else (if size == 0 then field (codes "Content-Length") (decimal size)
    else field (codes "Content-Type") (media_type problem) ++ field (codes "Content-Length") (decimal size))

-- the line that says that the connection ends with the answer (RFC 9110 7.6.1 Connection; RFC 9112 9.6 Tear-down)
abbrev pub last_field : Bool → List ℕ
last_field last = if last then field (codes "Connection") (codes "close") else []

-- the body that is told (RFC 9457 3): that of 500 and of 503 is fixed, so that they can be told without memory
unfoldable pub body_told : Reply → List ℕ
body_told r =
    if r.status == 500 then codes "{\"detail\":\"journal fault\",\"status\":500}"
    else (if r.status == 503 then codes "{\"detail\":\"no memory\",\"status\":503}" else r.body)

-- the head of a reply with a body of this length: status line, Location, Allow, the lines on the body, Connection, an
-- empty line
unfoldable pub head_text : Reply → ℕ → List ℕ
head_text r size =
    status_line r.status ++ optional_field (codes "Location") r.location ++ optional_field (codes "Allow") r.allow
    ++ content_fields r.status r.problem size ++ last_field r.last ++ line_end

-- the bytes of a reply
abbrev pub text : Reply → List ℕ
text r = head_text r (length (body_told r)) ++ body_told r
