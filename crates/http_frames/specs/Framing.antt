-- How the body of a request is framed, by the values of its header fields.
use Rattle.std.specs.Prelude.{ℕ, ◌==◌, ◌&&◌, ◌||◌, Bool, List, [], ◌∷◌, map, filter, length, nat_le, nat_lt}
use Rattle.std.specs.Prelude.{if◌then◌else◌, codes, Option, Some, None}
use Rattle.std.specs.List.{list_any, list_all, slice_split}
use Rattle.std.specs.Str.{str_eq_ignore_ascii_case}
use Rattle.std.specs.Str.Parse.{digits_value}
use Rattle.std.specs.Char.{is_ascii_digit}
use Rattle.httparse.specs.Ascii.{comma}
use Rattle.httparse.specs.Grammar.{RequestHead, is_ows}
use Rattle.httparse.specs.Spans.{name_and_value}
use Rattle.http_frames.specs.declared.TheConstants.{BODY_BYTES}
use Rattle.http_frames.specs.declared.framing.Frame.{Frame}
use Rattle.http_frames.specs.declared.framing.Frame.TheVariants.{NoBody, Sized, Chunked, TooLong, Broken}

-- the words are the same in any case of letters (RFC 9110 5.1, Field Names)
unfoldable pub is_same_word : List ℕ → List ℕ → Bool
is_same_word a b = str_eq_ignore_ascii_case a b

-- the values of the fields of this name, in any case of letters, in order (RFC 9112 5, Field Syntax)
unfoldable pub values_of : List ℕ → List (List ℕ × List ℕ) → List (List ℕ)
values_of name fields = map (λ f. f.1) (filter (λ f. is_same_word f.0 name) fields)

-- the name of each field and its value without blanks at its ends
abbrev pub fields_of : RequestHead → List (List ℕ × List ℕ)
fields_of h = map name_and_value h.fields

-- the value is decimal digits, one at least (RFC 9112 6.2, Content-Length)
unfoldable pub is_length : List ℕ → Bool
is_length value = nat_lt 0 (length value) && list_all is_ascii_digit value

-- a body of this length, where the limit allows it (own rule)
abbrev pub sized : ℕ → Frame
sized n = if nat_le n BODY_BYTES then Sized n else TooLong

-- the framing by this value of Content-Length: its length, if it is one (RFC 9112 6.2)
unfoldable pub announced : List ℕ → Frame
announced value = if is_length value then sized (digits_value 10 value) else Broken

-- the framing by this value of Transfer-Encoding: "chunked" alone, in any case of letters (RFC 9112 6.1,
-- Transfer-Encoding)
unfoldable pub coded : List ℕ → Frame
coded value = if is_same_word value (codes "chunked") then Chunked else Broken

-- the framing by the values of Content-Length and of Transfer-Encoding: one length, or the coding
-- "chunked" alone, or neither (RFC 9112 6.3, Message Body Length; what has both or a list is broken: own rule)
unfoldable pub framed : List (List ℕ) → List (List ℕ) → Frame
framed [] [] = NoBody
framed (value ∷ []) [] = announced value
framed [] (value ∷ []) = coded value
framed lengths codings = Broken

-- the framing of the request that has these fields
unfoldable pub frame_of_fields : List (List ℕ × List ℕ) → Frame
frame_of_fields fields =
    framed (values_of (codes "content-length") fields) (values_of (codes "transfer-encoding") fields)

-- the framing of the request with this head
abbrev pub frame : RequestHead → Frame
frame h = frame_of_fields (fields_of h)

-- commas, spaces and tabs part the options of a Connection field (RFC 9110 7.6.1, Connection)
abbrev pub parts_options : ℕ → Bool
parts_options b = (b == comma) || is_ows b

-- an option of a Connection field is "close" (RFC 9112 9.6, Tear-down)
unfoldable pub has_close : List ℕ → Bool
has_close value = list_any (λ option. is_same_word option (codes "close")) (slice_split parts_options value)

-- some Connection field asks for the connection to be closed
unfoldable pub asks_to_close : List (List ℕ × List ℕ) → Bool
asks_to_close fields = list_any has_close (values_of (codes "connection") fields)

-- the connection ends behind this request: it asks so, or it is of HTTP/1.0 (RFC 9112 9.3, Persistence; 9.6)
abbrev pub closes : RequestHead → Bool
closes h = (h.minor == 0) || asks_to_close (fields_of h)

-- the first of the values, if there is one
abbrev pub first_value : List (List ℕ) → Option (List ℕ)
first_value [] = None
first_value (value ∷ values) = Some value

-- the value of the first Content-Type field, if there is one (RFC 9110 8.3, Content-Type)
unfoldable pub media : List (List ℕ × List ℕ) → Option (List ℕ)
media fields = first_value (values_of (codes "content-type") fields)
