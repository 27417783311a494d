-- What the inner functions speak of: a record, a scheme and a kept state where the numbers stand for one, or what is
-- wrong with the call; a table as one value; a conversion and a call in pieces, either way.
use Rattle.std.specs.Prelude.{if◌then◌else◌, ℕ, List, eqb, leb, Option, Some, None, Result, Ok, Err}
use Rattle.lists.specs.Pick.{◌and◌, ◌or◌}
use Rattle.utf.specs.declared.scheme.Scheme.{Scheme}
use Rattle.table.specs.Limits.{limits}
use Rattle.table.specs.Slices.{Slices, slices}
use Rattle.table.specs.declared.valid.Record.{Record}
use Rattle.table.specs.declared.states.Code.{Code}
use Rattle.convert.specs.Run.{Run}
use Rattle.convert.specs.Convert.{to_tested, from_tested}
use Rattle.convert.specs.Pieces.{place_at, PieceAnswer, piece_tested, close_tested}
use Rattle.convert.specs.declared.Settings.{Settings}
use Rattle.convert.specs.declared.pieces.Way.{Way}
use Rattle.convert.specs.declared.pieces.Way.TheVariants.{ToUnicode, FromUnicode}
use Rattle.utf.specs.declared.utf32.ByteOrder.{ByteOrder}
use Rattle.utf.specs.declared.utf8.Stop.{Stop}
use Rattle.convert.specs.declared.pieces.Kept.{Kept}
use Rattle.cabi.specs.declared.Misuse.{Misuse}
use Rattle.cabi.specs.declared.Misuse.TheVariants as misuse
use Rattle.cabi.specs.declared.RawTable.{RawTable}
use Rattle.cabi.specs.Exported.{record_in, if_fewer, if_short, scheme_in, stands_alone, standing_in, kept_in}

-- the record, where the numbers are enough
abbrev pub record_of : List ℕ → Option Record
record_of ns = if_fewer 7 ns None (Some (record_in ns))

-- a call's number, or what is wrong with it
abbrev pub number_of : Result ℕ Misuse → ℕ
number_of (Ok n) = n
number_of (Err misuse.Short) = 70
number_of (Err misuse.NoScheme) = 71

-- the record, where there is space for n results too
abbrev pub record_beside : ℕ → List ℕ → List ℕ → Result Record Misuse
record_beside n rec result = if_short n rec result (Err misuse.Short) (Ok (record_in rec))

abbrev pub with_scheme : Result Record Misuse → Option Scheme → Result (Record × Scheme) Misuse
with_scheme (Err w) o = Err w
with_scheme (Ok r) None = Err misuse.NoScheme
with_scheme (Ok r) (Some e) = Ok (r, e)

-- the record and the scheme of a conversion, which has three results
abbrev pub asked : List ℕ → ℕ → List ℕ → Result (Record × Scheme) Misuse
asked rec n result = with_scheme (record_beside 3 rec result) (scheme_in n)

-- the memory of a table as C lends it
abbrev pub memory_in : RawTable → Slices
memory_in t = slices t.states.now t.lines.codes.now t.lines.infos.now t.lines.order.now

-- a run either way, with space for `room` bytes
abbrev pub run_exported : Way → Record → Slices → Settings → List ℕ → ℕ → Scheme → Run
run_exported ToUnicode r m settings input room e = to_tested e limits r m settings input room
run_exported FromUnicode r m settings input room e = from_tested e limits r m settings input room

-- the kept state, where the numbers are enough; its parts, where their numbers stand for them
abbrev pub kept_of : List ℕ → Option Kept
kept_of ns = if_fewer 5 ns None (Some (kept_in ns))

abbrev pub place_of : ℕ → Option (Option ByteOrder)
place_of mark = if leb mark 2 then Some (place_at mark) else None

abbrev pub standing_of : ℕ → ℕ → Option (Option Stop)
standing_of number length =
    if eqb number 52 or eqb length 0 and stands_alone number then Some (standing_in number length) else None

abbrev pub kept_from : Code → Option (Option ByteOrder) → Option (Option Stop) → Option Kept
kept_from b None s = None
kept_from b (Some m) None = None
kept_from b (Some m) (Some s) = Some (record { bytes = b; mark = m; standing = s })

-- a call on a piece, with space for `room` bytes; no piece is the close
abbrev pub call_exported : Way → Record → Slices → Kept → Settings → Option (List ℕ) → ℕ → Scheme → PieceAnswer
call_exported way r m k settings (Some input) room e = piece_tested way e limits r m settings k input room
call_exported way r m k settings None room e = close_tested way e limits r m settings k room
