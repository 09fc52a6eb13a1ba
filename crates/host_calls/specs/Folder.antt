-- A folder in which a file stands at one path or none does, and nothing at others.
use Rattle.std.specs.Prelude.{ℕ, Bool, List, Option, Some, None, if◌then◌else◌}
use Rattle.std.specs.Str.{bytes_eq}
use Rattle.std.specs.declared.io.ErrorKind.{ErrorKind}
use Rattle.host_calls.specs.Files.{Answer, FileCalls, FilesState, Standing, fault, new_file, yes}

-- the file with this content, where one stands
abbrev pub standing_with : Bool → List ℕ → Option Standing
standing_with stands content = if stands then Some (record new_file { content = content }) else None

-- it says no to nothing: a call succeeded, or failed so
abbrev pub answer_with : Option ErrorKind → Answer
answer_with None = yes
answer_with (Some kind) = fault kind

-- what it tells
abbrev pub folder_state : List ℕ → Option Standing → Bool → FileCalls → Option ErrorKind → FilesState
folder_state path here synced calls failed = record {
  at = λ p. if bytes_eq p path then here else None;
  named = λ _. synced;
  calls = calls;
  last = answer_with failed;
}
