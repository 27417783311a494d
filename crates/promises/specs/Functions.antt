-- The public functions, for the examiner: none of them has a `requires`, so every call gets its answer, and each
-- meets its contract (`statement` is the kit's own: run on any arguments, the compiled routine is safe, ends, and
-- what `ensures` says then holds).
use contract.Lifetimes.{Lfts}
use borrow.Fn.Kinds.{Dens}
use Rattle.table.proofs.load.load.Reads as load
use Rattle.table.proofs.load.load.Kinds as of-load
use Rattle.table.proofs.load.load.Statement as load-meets
use Rattle.table.proofs.valid.memory_valid.Reads as memory-valid
use Rattle.table.proofs.valid.memory_valid.Kinds as of-memory-valid
use Rattle.table.proofs.valid.memory_valid.Statement as memory-valid-meets
use Rattle.table.proofs.lookup.find_code.Reads as find-code
use Rattle.table.proofs.lookup.find_code.Kinds as of-find-code
use Rattle.table.proofs.lookup.find_code.Statement as find-code-meets
use Rattle.table.proofs.lookup.find_point.Reads as find-point
use Rattle.table.proofs.lookup.find_point.Kinds as of-find-point
use Rattle.table.proofs.lookup.find_point.Statement as find-point-meets
use Rattle.convert.proofs.to_unicode.Reads as to-unicode
use Rattle.convert.proofs.to_unicode.Kinds as of-to-unicode
use Rattle.convert.proofs.to_unicode.Statement as to-unicode-meets
use Rattle.convert.proofs.from_unicode.Reads as from-unicode
use Rattle.convert.proofs.from_unicode.Kinds as of-from-unicode
use Rattle.convert.proofs.from_unicode.Statement as from-unicode-meets
use Rattle.convert.proofs.pieces.convert_piece.Reads as convert-piece
use Rattle.convert.proofs.pieces.convert_piece.Kinds as of-convert-piece
use Rattle.convert.proofs.pieces.convert_piece.Statement as convert-piece-meets
use Rattle.convert.proofs.pieces.close.Reads as close
use Rattle.convert.proofs.pieces.close.Kinds as of-close
use Rattle.convert.proofs.pieces.close.Statement as close-meets
use Rattle.audit.proofs.audit.Reads as audit
use Rattle.audit.proofs.audit.Kinds as of-audit
use Rattle.audit.proofs.audit.Statement as audit-meets
use Rattle.frames.proofs.report.report_table.Reads as report-table
use Rattle.frames.proofs.report.report_table.Kinds as of-report-table
use Rattle.frames.proofs.report.report_table.Statement as report-table-meets
use Rattle.frames.proofs.report.report_frames.Reads as report-frames
use Rattle.frames.proofs.report.report_frames.Kinds as of-report-frames
use Rattle.frames.proofs.report.report_frames.Statement as report-frames-meets
use Rattle.frames.proofs.report.report_last.Reads as report-last
use Rattle.frames.proofs.report.report_last.Kinds as of-report-last
use Rattle.frames.proofs.report.report_last.Statement as report-last-meets
use Rattle.frames.proofs.pages.list_codes.Reads as list-codes
use Rattle.frames.proofs.pages.list_codes.Kinds as of-list-codes
use Rattle.frames.proofs.pages.list_codes.Statement as list-codes-meets
use Rattle.frames.proofs.pages.report_closing.Reads as report-closing
use Rattle.frames.proofs.pages.report_closing.Kinds as of-report-closing
use Rattle.frames.proofs.pages.report_closing.Statement as report-closing-meets
use Rattle.cabi.proofs.oboepond_load.Reads as oboepond-load
use Rattle.cabi.proofs.oboepond_load.Kinds as of-oboepond-load
use Rattle.cabi.proofs.oboepond_load.Statement as oboepond-load-meets
use Rattle.cabi.proofs.oboepond_check.Reads as oboepond-check
use Rattle.cabi.proofs.oboepond_check.Kinds as of-oboepond-check
use Rattle.cabi.proofs.oboepond_check.Statement as oboepond-check-meets
use Rattle.cabi.proofs.oboepond_to_unicode.Reads as oboepond-to-unicode
use Rattle.cabi.proofs.oboepond_to_unicode.Kinds as of-oboepond-to-unicode
use Rattle.cabi.proofs.oboepond_to_unicode.Statement as oboepond-to-unicode-meets
use Rattle.cabi.proofs.oboepond_to_utf8.Reads as oboepond-to-utf8
use Rattle.cabi.proofs.oboepond_to_utf8.Kinds as of-oboepond-to-utf8
use Rattle.cabi.proofs.oboepond_to_utf8.Statement as oboepond-to-utf8-meets
use Rattle.cabi.proofs.oboepond_from_unicode.Reads as oboepond-from-unicode
use Rattle.cabi.proofs.oboepond_from_unicode.Kinds as of-oboepond-from-unicode
use Rattle.cabi.proofs.oboepond_from_unicode.Statement as oboepond-from-unicode-meets
use Rattle.cabi.proofs.oboepond_from_utf8.Reads as oboepond-from-utf8
use Rattle.cabi.proofs.oboepond_from_utf8.Kinds as of-oboepond-from-utf8
use Rattle.cabi.proofs.oboepond_from_utf8.Statement as oboepond-from-utf8-meets
use Rattle.cabi.proofs.pieces.oboepond_to_unicode_piece.Reads as oboepond-to-unicode-piece
use Rattle.cabi.proofs.pieces.oboepond_to_unicode_piece.Kinds as of-oboepond-to-unicode-piece
use Rattle.cabi.proofs.pieces.oboepond_to_unicode_piece.Statement as oboepond-to-unicode-piece-meets
use Rattle.cabi.proofs.pieces.oboepond_from_unicode_piece.Reads as oboepond-from-unicode-piece
use Rattle.cabi.proofs.pieces.oboepond_from_unicode_piece.Kinds as of-oboepond-from-unicode-piece
use Rattle.cabi.proofs.pieces.oboepond_from_unicode_piece.Statement as oboepond-from-unicode-piece-meets
use Rattle.cabi.proofs.pieces.oboepond_to_unicode_close.Reads as oboepond-to-unicode-close
use Rattle.cabi.proofs.pieces.oboepond_to_unicode_close.Kinds as of-oboepond-to-unicode-close
use Rattle.cabi.proofs.pieces.oboepond_to_unicode_close.Statement as oboepond-to-unicode-close-meets
use Rattle.cabi.proofs.pieces.oboepond_from_unicode_close.Reads as oboepond-from-unicode-close
use Rattle.cabi.proofs.pieces.oboepond_from_unicode_close.Kinds as of-oboepond-from-unicode-close
use Rattle.cabi.proofs.pieces.oboepond_from_unicode_close.Statement as oboepond-from-unicode-close-meets
use Rattle.cabi.proofs.oboepond_audit.Reads as oboepond-audit
use Rattle.cabi.proofs.oboepond_audit.Kinds as of-oboepond-audit
use Rattle.cabi.proofs.oboepond_audit.Statement as oboepond-audit-meets

-- no caller has to check anything beforehand: what a function asks of its arguments holds of any
pub record AskNothing : Type 1 where
  pub load_asks : (κs : Lfts 5) (args : Dens κs of-load.ps) → load.Pre κs args
  pub memory-valid-asks : (κs : Lfts 1) (args : Dens κs of-memory-valid.ps) → memory-valid.Pre κs args
  pub find-code-asks : (κs : Lfts 1) (args : Dens κs of-find-code.ps) → find-code.Pre κs args
  pub find-point-asks : (κs : Lfts 1) (args : Dens κs of-find-point.ps) → find-point.Pre κs args
  pub to-unicode-asks : (κs : Lfts 3) (args : Dens κs of-to-unicode.ps) → to-unicode.Pre κs args
  pub from-unicode-asks : (κs : Lfts 3) (args : Dens κs of-from-unicode.ps) → from-unicode.Pre κs args
  pub convert-piece-asks : (κs : Lfts 3) (args : Dens κs of-convert-piece.ps) → convert-piece.Pre κs args
  pub close-asks : (κs : Lfts 2) (args : Dens κs of-close.ps) → close.Pre κs args
  pub audit-asks : (κs : Lfts 2) (args : Dens κs of-audit.ps) → audit.Pre κs args
  pub report-table-asks : (κs : Lfts 1) (args : Dens κs of-report-table.ps) → report-table.Pre κs args
  pub report-frames-asks : (κs : Lfts 4) (args : Dens κs of-report-frames.ps) → report-frames.Pre κs args
  pub report-last-asks : (κs : Lfts 3) (args : Dens κs of-report-last.ps) → report-last.Pre κs args
  pub list-codes-asks : (κs : Lfts 2) (args : Dens κs of-list-codes.ps) → list-codes.Pre κs args
  pub report-closing-asks : (κs : Lfts 1) (args : Dens κs of-report-closing.ps) → report-closing.Pre κs args
  pub oboepond-load-asks : (κs : Lfts 7) (args : Dens κs of-oboepond-load.ps) → oboepond-load.Pre κs args
  pub oboepond-check-asks : (κs : Lfts 5) (args : Dens κs of-oboepond-check.ps) → oboepond-check.Pre κs args
  pub oboepond-to-unicode-asks : (κs : Lfts 8) (args : Dens κs of-oboepond-to-unicode.ps)
      → oboepond-to-unicode.Pre κs args
  pub oboepond-to-utf8-asks : (κs : Lfts 8) (args : Dens κs of-oboepond-to-utf8.ps) → oboepond-to-utf8.Pre κs args
  pub oboepond-from-unicode-asks : (κs : Lfts 8) (args : Dens κs of-oboepond-from-unicode.ps)
      → oboepond-from-unicode.Pre κs args
  pub oboepond-from-utf8-asks : (κs : Lfts 8) (args : Dens κs of-oboepond-from-utf8.ps) → oboepond-from-utf8.Pre κs args
  pub oboepond-to-unicode-piece-asks : (κs : Lfts 9) (args : Dens κs of-oboepond-to-unicode-piece.ps)
      → oboepond-to-unicode-piece.Pre κs args
  pub oboepond-from-unicode-piece-asks : (κs : Lfts 9) (args : Dens κs of-oboepond-from-unicode-piece.ps)
      → oboepond-from-unicode-piece.Pre κs args
  pub oboepond-to-unicode-close-asks : (κs : Lfts 8) (args : Dens κs of-oboepond-to-unicode-close.ps)
      → oboepond-to-unicode-close.Pre κs args
  pub oboepond-from-unicode-close-asks : (κs : Lfts 8) (args : Dens κs of-oboepond-from-unicode-close.ps)
      → oboepond-from-unicode-close.Pre κs args
  pub oboepond-audit-asks : (κs : Lfts 7) (args : Dens κs of-oboepond-audit.ps) → oboepond-audit.Pre κs args

-- each meets its contract
pub record MeetTheirs (M : Type 1) : Type 2 where
  pub load : load-meets.statement M
  pub memory-valid : memory-valid-meets.statement M
  pub find-code : find-code-meets.statement M
  pub find-point : find-point-meets.statement M
  pub to-unicode : to-unicode-meets.statement M
  pub from-unicode : from-unicode-meets.statement M
  pub convert-piece : convert-piece-meets.statement M
  pub close : close-meets.statement M
  pub audit : audit-meets.statement M
  pub report-table : report-table-meets.statement M
  pub report-frames : report-frames-meets.statement M
  pub report-last : report-last-meets.statement M
  pub list-codes : list-codes-meets.statement M
  pub report-closing : report-closing-meets.statement M
  pub oboepond-load : oboepond-load-meets.statement M
  pub oboepond-check : oboepond-check-meets.statement M
  pub oboepond-to-unicode : oboepond-to-unicode-meets.statement M
  pub oboepond-to-utf8 : oboepond-to-utf8-meets.statement M
  pub oboepond-from-unicode : oboepond-from-unicode-meets.statement M
  pub oboepond-from-utf8 : oboepond-from-utf8-meets.statement M
  pub oboepond-to-unicode-piece : oboepond-to-unicode-piece-meets.statement M
  pub oboepond-from-unicode-piece : oboepond-from-unicode-piece-meets.statement M
  pub oboepond-to-unicode-close : oboepond-to-unicode-close-meets.statement M
  pub oboepond-from-unicode-close : oboepond-from-unicode-close-meets.statement M
  pub oboepond-audit : oboepond-audit-meets.statement M
