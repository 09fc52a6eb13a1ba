-- What is said where a program listens, and where it can't (own rule, docs/FORMATS.md, "The program").
use Rattle.std.specs.Prelude.{ℕ, List, ◌++◌, codes}

-- it listens at these two addresses
abbrev pub listening_line : List ℕ → List ℕ → List ℕ
listening_line orchestrator element = codes "vnfm: listening at " ++ (orchestrator ++ (codes
    " for the orchestrator, at " ++ (element ++ codes " for the element manager\n")))

-- one of them can't be had
abbrev pub no_listening_line : List ℕ → List ℕ → List ℕ
no_listening_line orchestrator element = codes "vnfm: one of these addresses can't be had: " ++ (orchestrator ++ (codes
    " for the orchestrator, " ++ (element ++ codes " for the element manager\n")))
