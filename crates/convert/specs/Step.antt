-- What one sequence gives, on either side, by the lines of a table (document 01, 'The two pipes': To UTF-8, From UTF-8,
-- Substitute; document 02, request 3: skipping). The Unicode side is a parameter.
-- Contents: settings; skipping, whatever the step (`skipping`); to Unicode: the code point of a code, or its substitute
-- (`to_step`); from Unicode: what a code point is written as, or its substitute (`from_step`).
use Rattle.std.specs.Prelude.{Option as Optional, Some}
use Rattle.std.specs.Prelude.{if◌then◌else◌, ℕ, ◌≡◌, List, [], ◌∷◌, Bool, true, false, eqb, take}
use Rattle.std.specs.Prelude.{Option as Optional, Some, None}
use Rattle.std.proofs.Math.Option.{Option, none, some}
use Rattle.utf.specs.Scheme.{Side}
use Rattle.utf.specs.declared.utf8.Sequence.{Sequence}
use Rattle.utf.specs.declared.utf8.Sequence.TheVariants as sequence
use Rattle.utf.specs.declared.utf8.Stop.{Stop}
use Rattle.utf.specs.declared.utf8.Stop.TheVariants as stopped
use Rattle.table.specs.States.{cut_of}
use Rattle.table.specs.Codes.{bytes_of}
use Rattle.table.specs.Meaning.{Line, Table, steps_of, is_substituted, reader, writer}
use Rattle.table.specs.declared.states.Cut.{Cut}
use Rattle.table.specs.declared.states.Cut.TheVariants as cut
use Rattle.table.specs.declared.states.CutStop.TheVariants as cut_stop
use Rattle.table.specs.declared.lookup.Mapping.{Mapping}
use Rattle.convert.specs.Run.{Gives, give, stop, SequenceStep}
use Rattle.convert.specs.declared.WrittenAs.{WrittenAs}
use Rattle.convert.specs.declared.WrittenAs.TheVariants as written
use Rattle.convert.specs.declared.Settings.{Settings}

-- the settings of a conversion that does not substitute, and of one that does, by whether fallback is on; neither skips
abbrev pub strict : Bool → Settings
strict fallback = record { fallback = fallback; substitute = false; skip = false }

abbrev pub substituting : Bool → Settings
substituting fallback = record { fallback = fallback; substitute = true; skip = false }

-- settings, with skipping on or off
abbrev pub with_skip : Bool → Settings → Settings
with_skip skip settings = record { fallback = settings.fallback; substitute = settings.substitute; skip = skip }

-- ## Skipping

-- where skipping is on, an illegal sequence of n bytes gives these bytes; the state stays, and nothing else changes
abbrev pub skipped : Bool → List ℕ → ℕ → Gives → Gives
skipped skip bs row (give cs n next) = give cs n next
skipped skip bs row (stop stopped.CutShort) = stop stopped.CutShort
skipped skip bs row (stop (stopped.Illegal n)) = if skip then give bs n row else stop (stopped.Illegal n)
skipped skip bs row (stop stopped.Unassigned) = stop stopped.Unassigned

-- a step with skipping around it
abbrev pub skipping : Bool → List ℕ → SequenceStep → SequenceStep
skipping skip bs step row s = skipped skip bs row (step row s)

-- ## To Unicode

-- what stands for an unassigned code of n bytes: U+001A for one byte where subchar1 is given, else U+FFFD
abbrev pub substitute_point : Option ℕ → ℕ → ℕ
substitute_point none n = 0xfffd
substitute_point (some b) n = if eqb n 1 then 0x1a else 0xfffd

-- the code point of a complete code of n bytes, by the line that reads it
abbrev pub point_for : Option ℕ → Bool → ℕ → Option Line → Sequence
point_for sub1 substitute n (some l) = sequence.Scalar l.point n
point_for sub1 substitute n none =
    if substitute then sequence.Scalar (substitute_point sub1 n) n else sequence.Stopped stopped.Unassigned

-- the code point that a code reads as, by the line that reads it
abbrev pub read_as : Option Line → Option ℕ
read_as none = none
read_as (some l) = some l.point

-- the choice towards Unicode, as the function hands it back
abbrev pub point_read_as : Optional ℕ → Option ℕ
point_read_as (Some c) = some c
point_read_as None = none

abbrev pub on_cut : Table → Bool → List ℕ → Cut → Sequence
on_cut t substitute s (cut.Stopped cut_stop.CutShort) = sequence.Stopped stopped.CutShort
on_cut t substitute s (cut.Stopped (cut_stop.Illegal n)) = sequence.Stopped (stopped.Illegal n)
on_cut t substitute s (cut.Complete n e) = point_for t.subchar1 substitute n (reader (take n s) t.lines)

-- one sequence of the table's bytes, cut by the states from its initial row on
unfoldable pub to_sequence : Table → Settings → ℕ → List ℕ → Sequence
to_sequence t settings row s = on_cut t settings.substitute s (cut_of (steps_of t) row s)

abbrev pub encoded : Side → ℕ → Sequence → Gives
encoded u row (sequence.Scalar c n) = give (u.encode c) n row
encoded u row (sequence.Stopped w) = stop w

-- the same, given to a side of Unicode, skipping aside
unfoldable pub to_plain : Side → Table → Settings → SequenceStep
to_plain u t settings row s = encoded u row (to_sequence t settings row s)

-- and where skipping is on U+FFFD for an illegal one
unfoldable pub to_step : Side → Table → Settings → SequenceStep
to_step u t settings = skipping settings.skip (u.encode 0xfffd) (to_plain u t settings)

-- ## From Unicode

-- what a code point becomes: its code; subchar1; or nothing that the table has
pub data Written : Type 0 where
  code : List ℕ → Written
  subchar1 : Written
  nothing : Written

-- `|0` always writes, `|1` only with fallback on, `|2` is substituted by subchar1; no other line writes
abbrev pub written_by : Bool → Option Line → Written
written_by fallback none = nothing
written_by fallback (some l) =
    if eqb l.indicator 0 then code l.code else
    if eqb l.indicator 1 then (if fallback then code l.code else nothing) else
    if is_substituted l then subchar1 else
    nothing

-- the choice from Unicode, as the function hands it back
abbrev pub written_in : WrittenAs → Written
written_in (written.Code c) = code (bytes_of c)
written_in written.Subchar1 = subchar1
written_in written.Nothing = nothing

-- a code that is written is the code of the line that was found
abbrev pub OwnCode : Optional Mapping → WrittenAs → Type 0
OwnCode f (written.Code c) = (m : Mapping) × (f ≡ Some m) × (m.code ≡ c)
OwnCode f written.Subchar1 = Unit {0}
OwnCode f written.Nothing = Unit {0}

-- what a code point is written as
unfoldable pub writes : Table → Bool → ℕ → Written
writes t fallback c = written_by fallback (writer c t.lines)

abbrev pub sub1_bytes : Option ℕ → List ℕ → List ℕ
sub1_bytes none c = c
sub1_bytes (some b) c = b ∷ []

-- a code that stands for a code point of n bytes where substituting is on
abbrev pub substituted : Bool → List ℕ → ℕ → ℕ → Gives
substituted substitute c n row = if substitute then give c n row else stop stopped.Unassigned

-- the bytes for a code point read from n bytes; a `|2` line is only in tables with subchar1 (T8)
abbrev pub sent_for : Table → Bool → ℕ → ℕ → Written → Gives
sent_for t substitute row n (code c) = give c n row
sent_for t substitute row n subchar1 = substituted substitute (sub1_bytes t.subchar1 t.subchar) n row
sent_for t substitute row n nothing = substituted substitute t.subchar n row

-- a stop on the Unicode side: an illegal sequence counts as one code unit, however far the decoder had to look
abbrev pub stopped_by : Side → Stop → Stop
stopped_by u stopped.CutShort = stopped.CutShort
stopped_by u (stopped.Illegal n) = stopped.Illegal u.unit
stopped_by u stopped.Unassigned = stopped.Unassigned

abbrev pub on_sequence : Side → Table → Bool → Bool → ℕ → Sequence → Gives
on_sequence u t fallback substitute row (sequence.Stopped w) = stop (stopped_by u w)
on_sequence u t fallback substitute row (sequence.Scalar c n) = sent_for t substitute row n (writes t fallback c)

-- one sequence of the Unicode side, skipping aside
unfoldable pub from_plain : Side → Table → Settings → SequenceStep
from_plain u t settings row s = on_sequence u t settings.fallback settings.substitute row (u.decode s)

-- and where skipping is on subchar for an illegal one
unfoldable pub from_step : Side → Table → Settings → SequenceStep
from_step u t settings = skipping settings.skip t.subchar (from_plain u t settings)
