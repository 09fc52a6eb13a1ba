-- The lines between a manager and an infrastructure: how each call and each reply is spelled (own format, docs/VIM.md).
use Rattle.std.specs.Prelude.{ℕ, ◌<◌, ◌≤◌, ◌^◌, List, [], ◌∷◌, ◌++◌, All, codes, decimal, length, map}
use Rattle.hex.specs.Hex.{encode_lower}
use Rattle.lcm_events.specs.declared.acts.Act.{Act}
use Rattle.lcm_events.specs.declared.attempts.Tag.{Tag}
use Rattle.lcm_events.specs.declared.attempts.Way.{Way}
use Rattle.lcm_events.specs.declared.attempts.Way.TheVariants.{Forward, Undo}
use Rattle.lcm_events.specs.declared.changes.DefKind.{DefKind}
use Rattle.lcm_events.specs.declared.changes.DefKind.TheVariants.{Link, Storage, Compute, Port}
use Rattle.lcm_events.specs.declared.changes.Verb.{Verb}
use Rattle.lcm_events.specs.declared.changes.Verb.TheVariants.{Create, Remove, Start, Stop}
use Rattle.vnfm_base.specs.Text.{IsName}
use Rattle.vim_wire.specs.declared.lines.VimCall.{VimCall}
use Rattle.vim_wire.specs.declared.lines.VimCall.TheVariants.{Begin, Look, Abort}
use Rattle.vim_wire.specs.declared.lines.VimReply.{VimReply}
use Rattle.vim_wire.specs.declared.lines.VimReply.TheVariants.{Begun, Refused, Absent, Running, Done, Broken, Aborted}
use Rattle.vim_wire.specs.declared.lines.VimReply.TheVariants.{Asked}
use Rattle.vim_wire.specs.Parts.{joined}

-- a line: its fields with one space between each two, and a line feed
abbrev pub line : List (List ℕ) → List ℕ
line fields = joined 32 fields ++ 10 ∷ []

-- a name: x and two lower-case hexadecimal digits for each of its bytes
abbrev pub name_field : List ℕ → List ℕ
name_field name = 120 ∷ encode_lower name

-- whether an attempt makes its change or undoes it
abbrev pub way_word : Way → List ℕ
way_word Forward = codes "F"
way_word Undo = codes "U"

-- an attempt of a manager: five parts with a full stop between each two
abbrev pub tag_field : ℕ → Tag → List ℕ
tag_field manager tag =
    joined 46 (decimal manager ∷ decimal tag.occ ∷ decimal tag.change ∷ decimal tag.attempt ∷ way_word tag.way ∷ [])

-- what an act does
abbrev pub verb_word : Verb → List ℕ
verb_word Create = codes "CREATE"
verb_word Remove = codes "REMOVE"
verb_word Start = codes "START"
verb_word Stop = codes "STOP"

-- the kind of resource that it is done to
abbrev pub kind_word : DefKind → List ℕ
kind_word Link = codes "LINK"
kind_word Storage = codes "STORAGE"
kind_word Compute = codes "COMPUTE"
kind_word Port = codes "PORT"

-- an act: its nine members in order, then the names that it is done on
abbrev pub act_fields : Act → List (List ℕ)
act_fields act = verb_word act.verb ∷ kind_word act.kind ∷ name_field act.template ∷ name_field act.vdu
    ∷ decimal act.serial
    ∷ name_field act.vim ∷ name_field act.zone ∷ decimal act.size ∷ decimal act.cpus ∷ map name_field act.on

-- a call of a manager
abbrev pub call_fields : VimCall → List (List ℕ)
call_fields (Begin manager tag act) = codes "BEGIN" ∷ tag_field manager tag ∷ act_fields act
call_fields (Look manager tag) = codes "LOOK" ∷ tag_field manager tag ∷ []
call_fields (Abort manager tag) = codes "ABORT" ∷ tag_field manager tag ∷ []

-- a reply of an infrastructure
abbrev pub reply_fields : VimReply → List (List ℕ)
reply_fields Begun = codes "BEGUN" ∷ []
reply_fields (Refused code) = codes "REFUSED" ∷ decimal code ∷ []
reply_fields Absent = codes "ABSENT" ∷ []
reply_fields Running = codes "RUNNING" ∷ []
reply_fields (Done name) = codes "DONE" ∷ name_field name ∷ []
reply_fields (Broken code) = codes "BROKEN" ∷ decimal code ∷ []
reply_fields Aborted = codes "ABORTED" ∷ []
reply_fields Asked = codes "ASKED" ∷ []

-- the lines of a call and of a reply
abbrev pub call_line : VimCall → List ℕ
call_line call = line (call_fields call)

abbrev pub reply_line : VimReply → List ℕ
reply_line reply = line (reply_fields reply)

-- each number of the attempt fits its type
pub record IsTagged (manager : ℕ) (tag : Tag) : Type 0 where
  pub manager_fits : manager < 2 ^ 32
  pub occ : tag.occ < 2 ^ 64
  pub change : tag.change < 2 ^ 16
  pub attempt : tag.attempt < 2 ^ 32

-- each number of the act fits its type, and each text is a name
pub record IsAct (act : Act) : Type 0 where
  pub template : IsName act.template
  pub vdu : IsName act.vdu
  pub serial : act.serial < 2 ^ 32
  pub vim : IsName act.vim
  pub zone : IsName act.zone
  pub size : act.size < 2 ^ 64
  pub cpus : act.cpus < 2 ^ 32
  pub on : All IsName act.on

-- a call of such values
abbrev pub IsTyped : VimCall → Type 0
IsTyped (Begin manager tag act) = IsTagged manager tag × IsAct act
IsTyped (Look manager tag) = IsTagged manager tag
IsTyped (Abort manager tag) = IsTagged manager tag

-- a call that has a line: one of such values whose line is at most 131,072 bytes long
abbrev pub IsCall : VimCall → Type 0
IsCall call = IsTyped call × (length (call_line call) ≤ 131072)

-- a reply that has a line: its number fits its type, or its text is a name
abbrev pub IsReply : VimReply → Type 0
IsReply (Refused code) = code < 2 ^ 32
IsReply (Broken code) = code < 2 ^ 32
IsReply (Done name) = IsName name
IsReply Begun = Unit {0}
IsReply Absent = Unit {0}
IsReply Running = Unit {0}
IsReply Aborted = Unit {0}
IsReply Asked = Unit {0}
