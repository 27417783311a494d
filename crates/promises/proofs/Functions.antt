-- No public function asks anything of its caller, and each meets its contract.
use Rattle.promises.specs.Functions.{AskNothing, MeetTheirs}
use Rattle.table.proofs.load.load.Met as load
use Rattle.table.proofs.valid.memory_valid.Met as memory-valid
use Rattle.table.proofs.lookup.find_code.Met as find-code
use Rattle.table.proofs.lookup.find_point.Met as find-point
use Rattle.convert.proofs.to_unicode.Met as to-unicode
use Rattle.convert.proofs.from_unicode.Met as from-unicode
use Rattle.convert.proofs.pieces.convert_piece.Met as convert-piece
use Rattle.convert.proofs.pieces.close.Met as close
use Rattle.audit.proofs.audit.Met as audit
use Rattle.frames.proofs.report.report_table.Met as report-table
use Rattle.frames.proofs.report.report_frames.Met as report-frames
use Rattle.frames.proofs.report.report_last.Met as report-last
use Rattle.frames.proofs.pages.list_codes.Met as list-codes
use Rattle.frames.proofs.pages.report_closing.Met as report-closing
use Rattle.cabi.proofs.oboepond_load.Met as oboepond-load
use Rattle.cabi.proofs.oboepond_check.Met as oboepond-check
use Rattle.cabi.proofs.oboepond_to_unicode.Met as oboepond-to-unicode
use Rattle.cabi.proofs.oboepond_to_utf8.Met as oboepond-to-utf8
use Rattle.cabi.proofs.oboepond_from_unicode.Met as oboepond-from-unicode
use Rattle.cabi.proofs.oboepond_from_utf8.Met as oboepond-from-utf8
use Rattle.cabi.proofs.pieces.oboepond_to_unicode_piece.Met as oboepond-to-unicode-piece
use Rattle.cabi.proofs.pieces.oboepond_from_unicode_piece.Met as oboepond-from-unicode-piece
use Rattle.cabi.proofs.pieces.oboepond_to_unicode_close.Met as oboepond-to-unicode-close
use Rattle.cabi.proofs.pieces.oboepond_from_unicode_close.Met as oboepond-from-unicode-close
use Rattle.cabi.proofs.oboepond_audit.Met as oboepond-audit

pub ask-nothing : AskNothing
ask-nothing =
    record {
      load_asks = λ κs args. tt;
      memory-valid-asks = λ κs args. tt;
      find-code-asks = λ κs args. tt;
      find-point-asks = λ κs args. tt;
      to-unicode-asks = λ κs args. tt;
      from-unicode-asks = λ κs args. tt;
      convert-piece-asks = λ κs args. tt;
      close-asks = λ κs args. tt;
      audit-asks = λ κs args. tt;
      report-table-asks = λ κs args. tt;
      report-frames-asks = λ κs args. tt;
      report-last-asks = λ κs args. tt;
      list-codes-asks = λ κs args. tt;
      report-closing-asks = λ κs args. tt;
      oboepond-load-asks = λ κs args. tt;
      oboepond-check-asks = λ κs args. tt;
      oboepond-to-unicode-asks = λ κs args. tt;
      oboepond-to-utf8-asks = λ κs args. tt;
      oboepond-from-unicode-asks = λ κs args. tt;
      oboepond-from-utf8-asks = λ κs args. tt;
      oboepond-to-unicode-piece-asks = λ κs args. tt;
      oboepond-from-unicode-piece-asks = λ κs args. tt;
      oboepond-to-unicode-close-asks = λ κs args. tt;
      oboepond-from-unicode-close-asks = λ κs args. tt;
      oboepond-audit-asks = λ κs args. tt;
    }

pub meet-theirs : (M : Type 1) → MeetTheirs M
meet-theirs M =
    record {
      load = load.met;
      memory-valid = memory-valid.met;
      find-code = find-code.met;
      find-point = find-point.met;
      to-unicode = to-unicode.met;
      from-unicode = from-unicode.met;
      convert-piece = convert-piece.met;
      close = close.met;
      audit = audit.met;
      report-table = report-table.met;
      report-frames = report-frames.met;
      report-last = report-last.met;
      list-codes = list-codes.met;
      report-closing = report-closing.met;
      oboepond-load = oboepond-load.met;
      oboepond-check = oboepond-check.met;
      oboepond-to-unicode = oboepond-to-unicode.met;
      oboepond-to-utf8 = oboepond-to-utf8.met;
      oboepond-from-unicode = oboepond-from-unicode.met;
      oboepond-from-utf8 = oboepond-from-utf8.met;
      oboepond-to-unicode-piece = oboepond-to-unicode-piece.met;
      oboepond-from-unicode-piece = oboepond-from-unicode-piece.met;
      oboepond-to-unicode-close = oboepond-to-unicode-close.met;
      oboepond-from-unicode-close = oboepond-from-unicode-close.met;
      oboepond-audit = oboepond-audit.met;
    }
