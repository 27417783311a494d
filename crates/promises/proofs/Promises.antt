-- EVERYTHING THAT IS PROMISED, PROVED: `promises`, one theorem, from the theorems of the crates.
use mathlib.Core.Path.{◌≡◌, sym, ◌∙◌}
use mathlib.Core.Logic.{◌↔◌}
use mathlib.Core.Bool.{true}
use Rattle.table.specs.Limits.{limits}
use Rattle.table.specs.Meaning.{Table, steps_of}
use Rattle.table.specs.Forms.{FormOf, SameTable, SameMemory}
use Rattle.table.specs.Load.{record_handed}
use Rattle.table.proofs.CodeList.{prefix-free}
use Rattle.table.proofs.TextRead as text
use Rattle.table.proofs.NumbersRead as numbers
use Rattle.table.proofs.ValidLaws.{valid-form, form-valid}
use Rattle.table.proofs.ValidLaws as forms
use Rattle.utf.proofs.RoundTrip.{utf8-encode-decode}
use Rattle.utf.proofs.WellFormed.{decodes-well-formed, cut-short-begins}
use Rattle.utf.proofs.FourBytes.{utf32-decodes, utf32-encode-decode, utf32-cut-short, utf32-illegal}
use Rattle.utf.specs.Scheme.{side_of}
use Rattle.convert.proofs.PlainSteps.{lawful}
use Rattle.convert.proofs.SkippedRuns as runs
use Rattle.audit.proofs.Causes as causes
use Rattle.audit.proofs.Starred.{starred}
use Rattle.frames.proofs.OutputCases.{k-whole, no_table}
use Rattle.promises.specs.Calls.{LoadCall, AcceptedAs, left_after, ValidCall, record_tested, slices_tested}
use Rattle.promises.specs.Words.{Words}
use Rattle.promises.specs.Promises.{Demand1, Demand2, Demand3, IllegalSequences, InBursts, Promises}
use Rattle.promises.proofs.Functions.{ask-nothing, meet-theirs}
use Rattle.promises.proofs.LoadCalls as load
use Rattle.promises.proofs.Refusals as refusals
use Rattle.promises.proofs.ConversionCalls as conversions
use Rattle.promises.proofs.IllegalCalls as illegal
use Rattle.promises.proofs.PieceFunctionCalls as pieces
use Rattle.promises.proofs.StandingCalls as standing
use Rattle.promises.proofs.AuditCalls as audits
use Rattle.promises.proofs.ExportCalls as exports
use Rattle.promises.proofs.ProgramCalls as program

-- two accepted texts
one_form : (c d : LoadCall) (t u : Table) → AcceptedAs c t → AcceptedAs d u
    → SameTable t u ↔ SameMemory limits (record_handed c.result) (record_handed d.result) (left_after c) (left_after d)
one_form c d t u a b =
    let f = load.leaves-form c t a in
    let g = load.leaves-form d u b in
    let p = (load.loaded c t a).proper in
    let q = (load.loaded d u b).proper in (
      λ s. forms.one_form limits t u f.0 g.0 f.1 g.1 s (record_handed c.result) (record_handed d.result) (left_after c) (left_after d) f.2 g.2,
      λ s. forms.forms-apart limits t u f.0 g.0 f.1 g.1 (record_handed c.result) (record_handed d.result) (left_after c) (left_after d) s f.2 g.2,
    )

-- the test behind 60
valid-exactly : (c : ValidCall) → Words (record_tested c) (slices_tested c) → (c.result ≡ true) ↔ FormOf limits (record_tested c) (slices_tested c)
valid-exactly c w = (
  λ e. valid-form limits (record_tested c) (slices_tested c) (sym c.post ∙ e) w.codes-fit w.subchar-fits,
  λ h. c.post ∙ form-valid limits h.table h.proper h.keeps (record_tested c) (slices_tested c) h.form,
)

demand1 : Demand1
demand1 =
    record {
      ask-nothing = ask-nothing;
      meet-theirs = meet-theirs;
      load-answers = λ c. (c.post.0, c.post.1.0, c.post.1.1);
      load-refuses = refusals.load-refuses;
      refused-record = refusals.refused-record;
      refused-writes-zeros = exports.refused-writes-zeros;
      refused-early = refusals.refused-early;
      refused-later = refusals.refused-later;
      beyond-untouched = refusals.beyond-untouched;
      ten-exactly = numbers.ten-exactly;
      twelve-exactly = numbers.twelve-exactly;
      fourteen-exactly = numbers.fourteen-exactly;
      fifteen-exactly = numbers.fifteen-exactly;
      valid-answers = λ c. c.post;
      to-answers = conversions.to-answers;
      from-answers = conversions.from-answers;
      to-refuses = conversions.to-refuses;
      from-refuses = conversions.from-refuses;
      piece-answers = pieces.piece-answers;
      close-answers = pieces.close-answers;
      piece-refuses = pieces.piece-refuses;
      close-refuses = pieces.close-refuses;
      audit-answers = audits.audit-answers;
      audit-refuses = audits.audit-refuses;
      audit-refused-writes = exports.audit-refused-writes;
      code-found = λ c. c.post;
      point-found = λ c. c.post;
    }

demand2 : Demand2
demand2 =
    record {
      accepted-exactly = load.accepted-exactly;
      accepted-means = load.accepted-means;
      one_table = text.one_table;
      leaves-form = load.leaves-form;
      leaves-valid = load.leaves-valid;
      one_form = one_form;
      valid-exactly = valid-exactly;
      to-by-text = conversions.to-by-text;
      from-by-text = conversions.from-by-text;
      written-reads = conversions.written-reads;
      utf8-decodes = decodes-well-formed;
      utf8-encodes = utf8-encode-decode;
      utf8-cut-short = cut-short-begins;
      utf32-decodes = utf32-decodes;
      utf32-encodes = utf32-encode-decode;
      utf32-cut-short = utf32-cut-short;
      utf32-illegal = utf32-illegal;
      plain-written = conversions.plain-written;
      plain-full = conversions.plain-full;
      plain-marked = conversions.plain-marked;
      plain-unmarked = conversions.plain-unmarked;
      writes-text = conversions.writes-text;
      reads-back = conversions.reads-back;
      reads-back-whole = conversions.reads-back-whole;
      prefix-free = λ t s r i j. prefix-free (steps_of t) 4 0 s r i j;
      room-enough = conversions.room-enough;
      from-room-enough = conversions.from-room-enough;
      to-more-space = conversions.to-more-space;
      from-more-space = conversions.from-more-space;
      there_and_back = conversions.there_and_back;
    }

demand3 : Demand3
demand3 =
    record {
      all-clauses = audits.all-clauses;
      cause-zero = causes.cause-round-trip;
      home-by-calls = conversions.home-by-calls;
      cause-one = causes.cause-one;
      cause-two = causes.cause-two;
      cause-three = causes.cause-three;
      cause-four = causes.cause-four;
    }

illegal-sequences : IllegalSequences
illegal-sequences =
    record {
      to-length-none = λ c. illegal.length_none c.result.end;
      from-length-none = λ c. illegal.length_none c.result.end;
      takes-in = λ e t settings keeps s bytes n q. runs.to-takes-in (side_of e) t settings limits keeps s bytes n q;
      to-length = illegal.to-length;
      from-length = illegal.from-length;
      to-never = illegal.to-never;
      from-never = illegal.from-never;
      to-parts = λ e. runs.to-parts (side_of e);
      from_parts = λ e. runs.from_parts (side_of e) (lawful e);
    }

in-bursts : InBursts
in-bursts =
    record {
      all-pieces = pieces.all-pieces;
      piece-final = pieces.piece-final;
      close-final = pieces.close-final;
      piece-stands = pieces.piece-stands;
      close-stands = pieces.close-stands;
      stands_on = standing.stands_on;
      close-short = pieces.close-short;
      close-afresh = pieces.close-afresh;
      bad-kept = pieces.bad-kept;
      bad-kept-close = pieces.bad-kept-close;
    }

pub promises : Promises
promises =
    record {
      demand1 = demand1;
      demand2 = demand2;
      demand3 = demand3;
      illegal-sequences = illegal-sequences;
      in-bursts = in-bursts;
      starred = starred;
      program = record { whole-output = program.whole-output; no_table = no_table; k-output = k-whole };
    }
