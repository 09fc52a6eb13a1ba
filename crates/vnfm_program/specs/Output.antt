-- What a person and a program see of a run: the texts that go to standard output and standard error (own rule,
-- docs/FORMATS.md).
use Rattle.std.specs.Prelude.{◌≡◌, ◌⊎◌, ℕ, List, ◌++◌, codes, if◌then◌else◌, Bool, Option, Some, None}
use Rattle.program_words.specs.declared.page.Page.{Page}
use Rattle.program_words.specs.Lines.{IsLineOf}
use Rattle.program_words.specs.Pages.{text_of}
use Rattle.program_words.specs.declared.reason.Reason.{Reason}
use Rattle.site_traits.specs.Counts.{called, called_in_vain}
use Rattle.vnfm_commands.specs.Ending.{Output}

-- this text was put in one call, or none of it
pub record PutsText (tells : Type 0) (text : List ℕ) (put : Bool) (a b : Output) : Type 0 where
  pub bytes : tells → b.bytes ≡ (if put then a.bytes ++ text else a.bytes)
  pub counts : b.counts ≡ (if put then called a.counts else called_in_vain a.counts)

-- the page was put in one call, and the status says whether it was
pub record Prints (tells : Type 0) (page : Page) (status : ℕ) (a b : Output) : Type 0 where
  pub put : Bool
  pub status_is : status ≡ (if put then 0 else 7)
  pub text : PutsText tells (text_of page) put a b

-- there was no memory, and the status and one put say so
pub record Starves (tells : Type 0) (status : ℕ) (a b : Output) : Type 0 where
  pub status_is : status ≡ 6
  pub put : Bool
  pub text : PutsText tells (codes "no memory\nvnfm: there was no memory\n") put a b

-- this line was put in one call, or none of it
pub record Says (tells : Type 0) (line : List ℕ) (a b : Output) : Type 0 where
  pub put : Bool
  pub text : PutsText tells line put a b

-- The reason's line was put in one call, or, where there was no memory for it, one that says so. Where there is nothing
-- to say nothing was put.
abbrev pub Explains : Type 0 → Option Reason → List (List ℕ) → Output → Output → Type 0
Explains tells None words a b = b ≡ a
Explains tells (Some reason) words a b = Says tells (codes "vnfm: there was no memory to say why\n") a b
    ⊎ ((line : List ℕ) × IsLineOf reason words line × Says tells line a b)
