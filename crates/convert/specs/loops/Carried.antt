-- What the inner functions of a conversion in pieces speak of: a run with the place of the mark behind it, the scheme
-- behind the mark, and calls that no answer stands before.
use Rattle.std.specs.Prelude.{Option as Optional}
use Rattle.utf.specs.declared.utf8.Stop.{Stop}
use Rattle.std.specs.Prelude.{if◌then◌else◌, ℕ, ◌≤◌, List, ◌≡◌, Bool, true, false, eqb}
use Rattle.std.specs.Prelude.{Option, Some, None, Result, Ok, Err}
use Rattle.utf.specs.declared.utf32.ByteOrder.{ByteOrder}
use Rattle.std.proofs.Math.Option.{none}
use Rattle.utf.specs.Utf32.{mark_at}
use Rattle.utf.specs.Scheme.{ordered_by}
use Rattle.utf.specs.declared.utf8.Stop.TheVariants as stopped
use Rattle.utf.specs.declared.utf32.ByteOrder.TheVariants.{Big}
use Rattle.utf.specs.declared.scheme.Scheme.{Scheme}
use Rattle.utf.specs.declared.scheme.Scheme.TheVariants as scheme
use Rattle.table.specs.Limits.{limits}
use Rattle.table.specs.Meaning.{Table, steps_of}
use Rattle.table.specs.Slices.{Slices}
use Rattle.table.specs.Memory.{table_in}
use Rattle.table.specs.Valid.{valid}
use Rattle.table.specs.declared.valid.Record.{Record}
use Rattle.convert.specs.Run.{Run, converted_of}
use Rattle.convert.specs.Pieces.{Carry, PieceRun, unless, state_at, place_at, is_nothing, kept_fits, stands_in}
use Rattle.convert.specs.Pieces.{carry_in}
use Rattle.convert.specs.Pieces.{refused_piece, piece_guarded}
use Rattle.convert.specs.declared.Settings.{Settings}
use Rattle.convert.specs.declared.pieces.Way.{Way}
use Rattle.convert.specs.declared.pieces.Way.TheVariants.{ToUnicode, FromUnicode}
use Rattle.convert.specs.declared.RunEnd.TheVariants.{AllRead, OutputFull, BadTable, Stopped}
use Rattle.convert.specs.declared.pieces.PieceEnd.{PieceEnd}
use Rattle.convert.specs.declared.pieces.PieceEnd.TheVariants.{Ended, BadKept}
use Rattle.convert.specs.declared.pieces.Kept.{Kept}
use Rattle.convert.specs.declared.pieces.Ran.{Ran}

-- a run, as the functions hand it on
abbrev pub ran_of : Run → Ran
ran_of r = record { done = converted_of r; mark = place_at r.state }

-- the same run, ended in this state
abbrev pub with_state : ℕ → Run → Run
with_state st r = record { end = r.end; read = r.read; bytes = r.bytes; state = st }

-- the scheme of the text from here on
abbrev pub scheme_behind : Scheme → Optional ByteOrder → Scheme
scheme_behind scheme.Utf8 p = scheme.Utf8
scheme_behind scheme.Utf32Be p = scheme.Utf32Be
scheme_behind scheme.Utf32Le p = scheme.Utf32Le
scheme_behind scheme.Utf32 None = scheme.Utf32
scheme_behind scheme.Utf32 (Some order) = ordered_by order

-- where the mark is behind n bytes of s that were read
abbrev pub place_behind : Option ByteOrder → Optional ByteOrder
place_behind None = Some Big
place_behind (Some order) = Some order

abbrev pub plain_after : Optional ByteOrder → List ℕ → ℕ → Optional ByteOrder
plain_after None s n = if eqb n 0 then None else place_behind (mark_at s)
plain_after (Some order) s n = Some order

abbrev pub mark_after : Scheme → Optional ByteOrder → List ℕ → ℕ → Optional ByteOrder
mark_after scheme.Utf8 p s n = p
mark_after scheme.Utf32Be p s n = p
mark_after scheme.Utf32Le p s n = p
mark_after scheme.Utf32 p s n = plain_after p s n

-- these bytes kept, the mark there, no answer standing
abbrev pub carry_of : List ℕ → Optional ByteOrder → Carry
carry_of s p = record { bytes = s; state = state_at p; stands = none }

-- the mark of plain UTF-32 is to be written
abbrev pub is_due : Way → Scheme → Optional ByteOrder → Bool
is_due way e (Some order) = false
is_due FromUnicode e None = false
is_due ToUnicode scheme.Utf8 None = false
is_due ToUnicode scheme.Utf32Be None = false
is_due ToUnicode scheme.Utf32Le None = false
is_due ToUnicode scheme.Utf32 None = true

-- what every call asks first: it ends at once, whatever it would come to; or record and memory are valid, the kept
-- state is one, and no answer stands
abbrev pub Guards : Way → Scheme → Record → Slices → Settings → Kept → Result Table PieceEnd → Type 0
Guards way e rec m settings k (Err h) =
    (r : PieceRun)
    → piece_guarded way e limits rec m settings k (unless (stands_in k.standing) (carry_in k) r) ≡ refused_piece h k
Guards way e rec m settings k (Ok t) =
    (t ≡ table_in rec m)
    × (valid limits rec m ≡ true)
    × (kept_fits way e (steps_of (table_in rec m)) settings k ≡ true)
    × (is_nothing k.standing ≡ true)

-- a call that ended by 60 or 42
abbrev pub is_refused : PieceEnd → Bool
is_refused (Ended AllRead) = false
is_refused (Ended OutputFull) = false
is_refused (Ended BadTable) = true
is_refused (Ended (Stopped w)) = false
is_refused BadKept = true

-- the length beside a 52 that stands is at most four
abbrev pub FewBytes : Optional Stop → Type 0
FewBytes None = Unit {0}
FewBytes (Some stopped.CutShort) = Unit {0}
FewBytes (Some (stopped.Illegal n)) = n ≤ 4
FewBytes (Some stopped.Unassigned) = Unit {0}
