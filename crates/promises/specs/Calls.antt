-- Calls of the library's public functions. Each is a call of which the function's own contract holds, so what is said
-- of all calls is said of every call that can be made. A word such as `text_of` is an argument, a result, or a slice
-- at entry or exit.
use Rattle.std.specs.Prelude.{ℕ, ◌≤◌, ◌≡◌, Bool, List, [], length, take}
use borrow.Fn.Kinds.{Out}
use Rattle.utf.specs.declared.scheme.Scheme.{Scheme}
use Rattle.std.proofs.Math.Option.{none}
use Rattle.table.specs.Limits.{limits}
use Rattle.table.specs.Meaning.{Table}
use Rattle.table.specs.Grammar.{TableText}
use Rattle.table.specs.Slices.{Slices, slices, Lent}
use Rattle.table.specs.Held.{memory_of}
use Rattle.table.specs.declared.states.Code.{Code}
use Rattle.table.specs.declared.valid.Record.{Record}
use Rattle.table.specs.Load.{refusal_in}
use Rattle.convert.specs.declared.Settings.{Settings}
use Rattle.convert.specs.declared.pieces.Way.{Way}
use Rattle.convert.specs.declared.pieces.Kept.{Kept}
use Rattle.convert.specs.declared.pieces.Pieced.{Pieced}
use Rattle.table.proofs.load.load.Reads as load
use Rattle.table.proofs.load.load.Kinds as of-load
use Rattle.table.proofs.valid.memory_valid.Reads as memory-valid
use Rattle.table.proofs.valid.memory_valid.Kinds as of-memory-valid
use Rattle.table.proofs.lookup.find_code.Reads as find-code
use Rattle.table.proofs.lookup.find_code.Kinds as of-find-code
use Rattle.table.proofs.lookup.find_point.Reads as find-point
use Rattle.table.proofs.lookup.find_point.Kinds as of-find-point
use Rattle.convert.proofs.to_unicode.Reads as to-unicode
use Rattle.convert.proofs.to_unicode.Kinds as of-to-unicode
use Rattle.convert.proofs.from_unicode.Reads as from-unicode
use Rattle.convert.proofs.pieces.convert_piece.Reads as convert-piece
use Rattle.convert.proofs.pieces.convert_piece.Kinds as of-convert-piece
use Rattle.convert.proofs.pieces.close.Reads as close
use Rattle.convert.proofs.pieces.close.Kinds as of-close
use Rattle.audit.proofs.audit.Reads as audit
use Rattle.audit.proofs.audit.Kinds as of-audit
use Rattle.cabi.proofs.oboepond_load.Reads as oboepond-load
use Rattle.cabi.proofs.oboepond_load.Kinds as of-oboepond-load
use Rattle.cabi.proofs.oboepond_audit.Reads as oboepond-audit
use Rattle.cabi.proofs.oboepond_audit.Kinds as of-oboepond-audit
use Rattle.promises.specs.Called.{Called}

-- ## `load`: a text into four lent slices

abbrev pub LoadCall : Type 1
LoadCall = Called 5 of-load.ps of-load.r load.Post

abbrev pub text_of : LoadCall → List ℕ
text_of c = c.args.0.now

-- the lent slices when it is called, and when it returns
abbrev pub lent_to : LoadCall → Slices
lent_to c =
    slices c.args.1.0.now c.args.1.1.0.now c.args.1.1.1.0.now c.args.1.1.1.1.0.now

abbrev pub left_after : LoadCall → Slices
left_after c =
    slices c.exit.1.0.now c.exit.1.1.0.now c.exit.1.1.1.0.now c.exit.1.1.1.1.0.now

-- it may be loaded: the slices are long enough, and the text is no longer than allowed
pub record MayLoad (c : LoadCall) : Type 0 where
  pub long-enough : Lent limits (lent_to c)
  pub short-enough : length (text_of c) ≤ limits.text

-- it was accepted, and its text writes the table t
pub record AcceptedAs (c : LoadCall) (t : Table) : Type 0 where
  pub accepted : refusal_in c.result ≡ none
  pub of-grammar : TableText (text_of c) t

-- ## `memory_valid`: the test behind 60

abbrev pub ValidCall : Type 1
ValidCall = Called 1 of-memory-valid.ps of-memory-valid.r memory-valid.Post

abbrev pub record_tested : ValidCall → Record
record_tested c = c.args.0.rec

abbrev pub slices_tested : ValidCall → Slices
slices_tested c = memory_of c.args.0

-- ## `find_code`, `find_point`: look-up

abbrev pub CodeCall : Type 1
CodeCall = Called 1 of-find-code.ps of-find-code.r find-code.Post

abbrev pub PointCall : Type 1
PointCall = Called 1 of-find-point.ps of-find-point.r find-point.Post

-- ## `to_unicode`, `from_unicode`: the two conversions, of one signature

abbrev pub ConversionCall : Out 3 of-to-unicode.ps of-to-unicode.r → Type 1
ConversionCall Post = Called 3 of-to-unicode.ps of-to-unicode.r Post

abbrev pub ToCall : Type 1
ToCall = ConversionCall to-unicode.Post

abbrev pub FromCall : Type 1
FromCall = ConversionCall from-unicode.Post

module _ {Post : Out 3 of-to-unicode.ps of-to-unicode.r} where
  abbrev pub record_given : ConversionCall Post → Record
  record_given c = c.args.0.rec

  abbrev pub slices_given : ConversionCall Post → Slices
  slices_given c = memory_of c.args.0

  abbrev pub input_of : ConversionCall Post → List ℕ
  input_of c = c.args.1.0.now

  -- the output slice when it is called, and when it returns
  abbrev pub output_lent : ConversionCall Post → List ℕ
  output_lent c = c.args.1.1.0.now

  abbrev pub output_after : ConversionCall Post → List ℕ
  output_after c = c.exit.1.1.0.now

  abbrev pub settings_of : ConversionCall Post → Settings
  settings_of c = c.args.1.1.1.0

  abbrev pub scheme_of : ConversionCall Post → Scheme
  scheme_of c = c.args.1.1.1.1.0

  -- the bytes that it wrote
  abbrev pub written_by : ConversionCall Post → List ℕ
  written_by c = take c.result.written (output_after c)

-- ## `convert_piece`, `close`: a conversion in pieces

abbrev pub PieceFunctionCall : Type 1
PieceFunctionCall = Called 3 of-convert-piece.ps of-convert-piece.r convert-piece.Post

abbrev pub CloseFunctionCall : Type 1
CloseFunctionCall = Called 2 of-close.ps of-close.r close.Post

-- the parts of either: what it got, and the output slice when it was called; what it handed back, and the output slice
-- when it returned. A close has no piece
pub record PieceParts : Type 0 where
  pub way : Way
  pub table : Record
  pub memory : Slices
  pub came : Kept
  pub piece : List ℕ
  pub lent : List ℕ
  pub settings : Settings
  pub scheme : Scheme
  pub result : Pieced
  pub after : List ℕ

abbrev pub piece_parts : PieceFunctionCall → PieceParts
piece_parts c =
    record {
      way = c.args.0;
      table = c.args.1.0.rec;
      memory = memory_of c.args.1.0;
      came = c.args.1.1.0;
      piece = c.args.1.1.1.0.now;
      lent = c.args.1.1.1.1.0.now;
      settings = c.args.1.1.1.1.1.0;
      scheme = c.args.1.1.1.1.1.1.0;
      result = c.result;
      after = c.exit.1.1.1.1.0.now;
    }

abbrev pub close_parts : CloseFunctionCall → PieceParts
close_parts c =
    record {
      way = c.args.0;
      table = c.args.1.0.rec;
      memory = memory_of c.args.1.0;
      came = c.args.1.1.0;
      piece = [];
      lent = c.args.1.1.1.0.now;
      settings = c.args.1.1.1.1.0;
      scheme = c.args.1.1.1.1.1.0;
      result = c.result;
      after = c.exit.1.1.1.0.now;
    }

-- ## `audit`: codes that do not round-trip

abbrev pub AuditFunctionCall : Type 1
AuditFunctionCall = Called 2 of-audit.ps of-audit.r audit.Post

abbrev pub record_audited : AuditFunctionCall → Record
record_audited c = c.args.0.rec

abbrev pub slices_audited : AuditFunctionCall → Slices
slices_audited c = memory_of c.args.0

abbrev pub fallback_of : AuditFunctionCall → Bool
fallback_of c = c.args.1.0

abbrev pub position_of : AuditFunctionCall → Code
position_of c = c.args.1.1.0

abbrev pub allowance_of : AuditFunctionCall → ℕ
allowance_of c = c.args.1.1.1.0

-- the space for entries when it is called, and when it returns
abbrev pub space_lent : AuditFunctionCall → List ℕ
space_lent c = c.args.1.1.1.1.0.now

abbrev pub space_afterwards : AuditFunctionCall → List ℕ
space_afterwards c = c.exit.1.1.1.1.0.now

-- ## `oboepond_load`, `oboepond_audit`: what C calls; the record and the results are numbers in lent slices

abbrev pub LoadExportCall : Type 1
LoadExportCall = Called 7 of-oboepond-load.ps of-oboepond-load.r oboepond-load.Post

-- the slice for the record when it is called, and when it returns
abbrev pub record_lent : LoadExportCall → List ℕ
record_lent c = c.args.1.0.now

abbrev pub record_after : LoadExportCall → List ℕ
record_after c = c.exit.1.0.now

abbrev pub AuditExportCall : Type 1
AuditExportCall = Called 7 of-oboepond-audit.ps of-oboepond-audit.r oboepond-audit.Post

-- the position that it got: its bits and its length
abbrev pub bits_given : AuditExportCall → ℕ
bits_given c = c.args.1.1.1.1.1.1.0

abbrev pub length_given : AuditExportCall → ℕ
length_given c = c.args.1.1.1.1.1.1.1.0

-- the slices for entries and for results when it is called, and when it returns
abbrev pub entries_lent : AuditExportCall → List ℕ
entries_lent c = c.args.1.1.1.1.1.1.1.1.1.0.now

abbrev pub entries_after : AuditExportCall → List ℕ
entries_after c = c.exit.1.1.1.1.1.1.1.1.1.0.now

abbrev pub results_lent : AuditExportCall → List ℕ
results_lent c = c.args.1.1.1.1.1.1.1.1.1.1.0.now

abbrev pub results_after : AuditExportCall → List ℕ
results_after c = c.exit.1.1.1.1.1.1.1.1.1.1.0.now
