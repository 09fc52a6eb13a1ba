-- What is to be said of a run (own rule, docs/FORMATS.md).
use Rattle.std.specs.Prelude.{◌==◌, if◌then◌else◌, ℕ, List, [], ◌∷◌, codes, Bool, true, false, Option, Some, None}
use Rattle.std.specs.Str.{bytes_eq}
use Rattle.outside_edges.specs.declared.real_site.WhyLost.{WhyLost}
use Rattle.program_words.specs.declared.reason.Kind.{Kind}
use Rattle.program_words.specs.declared.reason.Kind.TheVariants.{Serving, Trying, Other}
use Rattle.program_words.specs.declared.reason.Reason.{Reason}
use Rattle.program_words.specs.declared.reason.Reason.TheVariants as say
use Rattle.served_account.specs.declared.account.Account.{Account}
use Rattle.served_account.specs.declared.account.Hearing.{Hearing}
use Rattle.served_account.specs.declared.account.Hearing.TheVariants as hearing

-- of a run whose disk call failed: why its file was lost, or that to which the journal goes, or that none could be
-- opened at all
abbrev pub lost_reason : Option WhyLost → Option WhyLost → Reason
lost_reason (Some why) spare = say.Lost why
lost_reason None (Some why) = say.LostSpare why
lost_reason None None = say.NoDevice

-- where so many requests were answered: that there was none, or that the bytes that were left weren't answered
abbrev pub hearing_reason : ℕ → Hearing → Option Reason
hearing_reason answered hearing.NotYet = None
hearing_reason answered hearing.Request = None
hearing_reason answered hearing.End = if answered == 0 then Some say.NoRequest else None
hearing_reason answered last = Some (say.Unanswered answered last)

-- of a run with status 0: that its answer wasn't delivered, or what of its input wasn't answered
abbrev pub delivery_reason : Bool → Account → Option Reason
delivery_reason true account = Some say.Undelivered
delivery_reason false account = hearing_reason account.answered account.last

-- what kind of run these words are for, by the command's name
abbrev pub kind_of : List (List ℕ) → Kind
kind_of [] = Other
kind_of (name ∷ rest) = if bytes_eq name (codes "serve") then Serving
    else (if bytes_eq name (codes "trial") then Trying else Other)

-- of a run with status 0: one that served many connections has nothing to say of the last
abbrev pub done_reason : Kind → Bool → Account → Option Reason
done_reason Serving undelivered account = None
done_reason kind undelivered account = delivery_reason undelivered account

-- of a run with status 3: a trial, which has no file, passes its room
abbrev pub site_reason : Kind → Option WhyLost → Option WhyLost → Reason
site_reason Trying lost spare = say.TrialRoom
site_reason kind lost spare = lost_reason lost spare

-- of a run with status 4: one that serves has addresses in place of standard input
abbrev pub door_reason : Kind → Reason
door_reason Serving = say.Addresses
door_reason kind = say.Input

-- of a run of this kind by its status
abbrev pub reason_of : Kind → ℕ → Option WhyLost → Option WhyLost → Bool → Account → Option Reason
reason_of kind status lost spare undelivered account =
    if status == 0 then done_reason kind undelivered account
    else (if status == 2 then Some say.Words
    else (if status == 3 then Some (site_reason kind lost spare)
    else (if status == 4 then Some (door_reason kind)
    else (if status == 5 then Some say.NoJournal
    else (if status == 6 then Some say.NoMemory
    else (if status == 7 then Some say.Output
    else (if status == 8 then Some say.Record
    else (if status == 9 then Some say.Room
    else (if status == 10 then Some (say.Descriptor account.broken)
    else (if status == 11 then Some say.Taken else None))))))))))
