-- What a look-up answers: the table's line that reads a code, or the one that says what becomes of a code point
-- (document 01, 'The two pipes').
use Rattle.std.specs.Prelude.{if◌then◌else◌, ℕ, ◌+◌, ◌≡◌, true, List, map, take, eqb, Option as Optional, Some, None}
use Rattle.std.proofs.Math.Option.{Option, none, some}
use Rattle.lists.specs.Order.{In}
use Rattle.table.specs.Limits.{Limits}
use Rattle.table.specs.Codes.{bytes_of}
use Rattle.table.specs.Meaning.{Line, is_read, decides_point, reader, writer}
use Rattle.table.specs.Stored.{Stored, point_in, rank_in, extra_in, padded}
use Rattle.table.specs.Slices.{slices}
use Rattle.table.specs.Memory.{stored_list, lines_in}
use Rattle.table.specs.Valid.{valid}
use Rattle.table.specs.declared.states.Code.{Code}
use Rattle.table.specs.declared.valid.Record.{Record}
use Rattle.table.specs.declared.lookup.Use.{Use}
use Rattle.table.specs.declared.lookup.Use.TheVariants.{RoundTrip, Fallback, Substituted, ReverseFallback}
use Rattle.table.specs.declared.lookup.Mapping.{Mapping}

-- the indicator's digit
abbrev pub indicator_of : Use → ℕ
indicator_of RoundTrip = 0
indicator_of Fallback = 1
indicator_of Substituted = 2
indicator_of ReverseFallback = 3

abbrev pub as_line : Mapping → Line
as_line m = record { point = m.point; code = bytes_of m.code; indicator = indicator_of m.used }

abbrev pub line_found : Optional Mapping → Option Line
line_found (Some m) = some (as_line m)
line_found None = none

-- a stored line as it is found
abbrev pub use_in : ℕ → Use
use_in rank =
    if eqb rank 0 then RoundTrip else
    if eqb rank 1 then ReverseFallback else
    if eqb rank 2 then Fallback else
    Substituted

abbrev pub mapping_in : Stored → Mapping
mapping_in e =
    record {
      point = point_in e.info;
      code = record { bits = e.bits; len = extra_in e.info + 1 };
      used = use_in (rank_in e.info);
    }

-- the line that reads a code; no line has a code of no bytes, of more than four, or with bits after the last byte
abbrev pub reader_of : Code → List Line → Option Line
reader_of code ls = if padded code.len code.bits then reader (bytes_of code) ls else none

-- the stored lines as they are found
unfoldable pub mappings_in : Record → List ℕ → List ℕ → List Mapping
mappings_in rec codes infos = map mapping_in (stored_list (take rec.mappings codes) (take rec.mappings infos))

-- THE ANSWER for a code: on memory that passes the test behind 60 the table's reader; on any memory nothing, or a
-- stored line that is read and has just this code
pub record CodeFound (rec : Record) (codes infos : List ℕ) (code : Code) (r : Optional Mapping) : Type 0 where
  pub on-valid : (lim : Limits) (states order : List ℕ)
      → valid lim rec (slices states codes infos order) ≡ true
      → line_found r ≡ reader_of code (lines_in rec codes infos)
  pub on-any : (m : Mapping) → r ≡ Some m
      → In m (mappings_in rec codes infos) × (is_read (as_line m) ≡ true) × (m.code ≡ code)

-- THE ANSWER for a code point: the table's writer; on any memory nothing, or a stored line that says what becomes of it
-- (no `|3` line)
pub record PointFound (rec : Record) (codes infos order : List ℕ) (point : ℕ) (r : Optional Mapping) : Type 0 where
  pub on-valid : (lim : Limits) (states : List ℕ)
      → valid lim rec (slices states codes infos order) ≡ true
      → line_found r ≡ writer point (lines_in rec codes infos)
  pub on-any : (m : Mapping) → r ≡ Some m
      → In m (mappings_in rec codes infos) × (decides_point (as_line m) ≡ true) × (m.point ≡ point)
