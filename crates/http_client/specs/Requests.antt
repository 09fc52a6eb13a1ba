-- The requests that a client sends (RFC 9112 3 and 6; the choice of fields is this project's own).
use Rattle.std.specs.Prelude.{ℕ, List, [], ◌∷◌, ◌++◌, codes, decimal, length}

-- the request line (RFC 9112 3)
abbrev pub request_line : List ℕ → List ℕ → List ℕ
request_line method path = method ++ (codes " " ++ (path ++ codes " HTTP/1.1\r\n"))

-- the lines that tell of a body: its media type and its length (RFC 9110 8.3 and 8.6); of no body they tell nothing
abbrev pub content_lines : List ℕ → List ℕ
content_lines [] = []
content_lines (byte ∷ rest) =
    codes "Content-Type: application/json\r\n" ++ (codes "Content-Length: "
    ++ (decimal (length (byte ∷ rest)) ++ codes "\r\n"))

-- a request that is its connection's only one: the line, the host, what is told of the body, and the body
abbrev pub request : List ℕ → List ℕ → List ℕ → List ℕ → List ℕ
request method host path body =
    request_line method path ++ (codes "Host: " ++ (host ++ (codes "\r\n"
    ++ (content_lines body ++ (codes "Connection: close\r\n\r\n" ++ body)))))
