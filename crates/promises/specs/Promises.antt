-- EVERYTHING THAT IS PROMISED, as one record over calls of the public functions: the three demands, clause by clause,
-- the starred cases, and the program. It is proved whole as `promises` in proofs/Promises.antt; docs/PROMISES.md goes
-- through its fields.
use Rattle.std.specs.Prelude.{Some, None}
use Rattle.std.specs.Prelude.{ℕ, ◌+◌, ◌-◌, ◌*◌, ◌<◌, ◌≤◌, ◌≡◌, ◌↔◌, Bool, true}
use Rattle.std.specs.Prelude.{false, List, [], ◌∷◌, ◌++◌, map, length, drop}
use Rattle.std.proofs.Math.Option.{none, some}
use Rattle.std.specs.Prelude.{Some}
use Rattle.lists.specs.Ascii.{ascii}
use Rattle.lists.specs.Order.{All, In}
use Rattle.utf.specs.Utf8.{Scalar, decode_one, encode_of}
use Rattle.utf.specs.WellFormed.{StartsWith, Begins}
use Rattle.utf.specs.Utf32.{word_in, encode_in, decode_in, mark_in}
use Rattle.utf.specs.Scheme.{ordered_by, side_of}
use Rattle.utf.specs.declared.utf8.Sequence.TheVariants as sequence
use Rattle.utf.specs.declared.utf8.Stop.{Stop}
use Rattle.utf.specs.declared.utf8.Stop.TheVariants as stopped
use Rattle.utf.specs.declared.utf32.ByteOrder.{ByteOrder}
use Rattle.utf.specs.declared.utf32.ByteOrder.TheVariants.{Big}
use Rattle.utf.specs.declared.scheme.Scheme.{Scheme}
use Rattle.utf.specs.declared.scheme.Scheme.TheVariants.{Utf32Be, Utf32}
use Rattle.table.specs.Limits.{Limits, limits}
use Rattle.table.specs.States.{is_code, end_kind}
use Rattle.table.specs.Illegal.{TakesIn}
use Rattle.table.specs.Codes.{AllByte}
use Rattle.table.specs.Meaning.{Line, Table, steps_of, reader}
use Rattle.table.specs.Rules.{Keeps}
use Rattle.table.specs.Grammar.{TableText, N10, N12, N14, N15, Keyed}
use Rattle.table.specs.Memory.{Form, Proper}
use Rattle.table.specs.Forms.{FormOf, SameTable, SameMemory}
use Rattle.table.specs.Valid.{valid}
use Rattle.table.specs.Numbers.{cond, refusal_number, answer_number}
use Rattle.table.specs.Load.{Reading, zero_record, loaded_by, given, given_number, left_in}
use Rattle.table.specs.Load.{refusal_in, line_refused, record_handed}
use Rattle.table.specs.FirstLine.{conditions_at}
use Rattle.table.specs.TableK.{k_text}
use Rattle.table.specs.declared.load.Refusal.{Refusal}
use Rattle.table.specs.declared.load.Refusal.TheVariants as refusal
use Rattle.convert.specs.Run.{give, stop, after, ended_with, end_number, end_length}
use Rattle.convert.specs.Step.{code, writes, strict, with_skip, to_step, from_step}
use Rattle.convert.specs.Convert.{mark_of, to_side, from_side, to_run, from_run, to_tested, from_tested}
use Rattle.convert.specs.Claims.{WellFormedText, points_in, ReadsAs, ReadsAsFirst}
use Rattle.convert.specs.Claims.{RoundTripCode, frame_of, RoundTrips, InParts}
use Rattle.convert.specs.Pieces.{piece_tested, close_tested}
use Rattle.convert.specs.PieceClaims.{one_run, fresh_kept, Closing, last_end, last_kept, InPieces}
use Rattle.convert.specs.PieceClaims.{InTurn as PiecesInTurn}
use Rattle.convert.specs.declared.RunEnd.TheVariants.{AllRead, OutputFull, BadTable, Stopped}
use Rattle.convert.specs.declared.Settings.{Settings}
use Rattle.convert.specs.declared.pieces.Way.{Way}
use Rattle.convert.specs.declared.pieces.PieceEnd.TheVariants.{Ended, BadKept}
use Rattle.audit.specs.Audit.{cause_of, complete_codes, entry_number, audit_tested, refused, Looked, ending_of}
use Rattle.audit.specs.Demand.{InTurn, Claims}
use Rattle.audit.specs.Cases.{Starred}
use Rattle.frames.specs.Output.{output_of, program_output}
use Rattle.promises.specs.Functions.{AskNothing, MeetTheirs}
use Rattle.promises.specs.Calls.{LoadCall, text_of, lent_to, left_after, MayLoad, AcceptedAs, ValidCall}
use Rattle.promises.specs.Calls.{record_tested, slices_tested}
use Rattle.promises.specs.Calls.{CodeCall, PointCall, ToCall, FromCall, record_given, slices_given, input_of}
use Rattle.promises.specs.Calls.{output_lent, output_after}
use Rattle.promises.specs.Calls.{settings_of, scheme_of, written_by, AuditFunctionCall, record_audited, slices_audited}
use Rattle.promises.specs.Calls.{fallback_of, position_of}
use Rattle.promises.specs.Calls.{allowance_of, space_lent, space_afterwards}
use Rattle.promises.specs.Calls.{PieceFunctionCall, CloseFunctionCall, piece_parts, close_parts}
use Rattle.promises.specs.Calls.{LoadExportCall, record_lent, record_after}
use Rattle.promises.specs.Calls.{AuditExportCall, bits_given, length_given, entries_lent, entries_after}
use Rattle.promises.specs.Calls.{results_lent, results_after}
use Rattle.promises.specs.Words.{RefusedFor, Zeroed, AllZeroed, SameBeyond, Words, AnswersBy, OnLoaded, AuditsBy}
use Rattle.promises.specs.Words.{call_of, FindsCode, FindsPoint}
use Rattle.promises.specs.Words.{AnswersPiece, DidNothing, memory_valid, kept_fitting, piece_call_of, close_call_of}
use Rattle.promises.specs.Words.{PieceOn}
use Rattle.promises.specs.Program.{Begun, Course, written, Reads}
use Rattle.table.specs.declared.states.EndKind.TheVariants.{Unassigned}

-- DEMAND 1: any table text, any table memory, any bytes get an answer; what is handed back and left in lent memory is
-- fixed
pub record Demand1 : Type 2 where
  -- the functions that users call ask nothing of their callers, and each meets its contract
  pub ask-nothing : AskNothing
  pub meet-theirs : (M : Type 1) → MeetTheirs M
  -- `load`: answer, number and the four slices, whatever the text and the slices
  pub load-answers : (c : LoadCall)
      → let g = given limits (text_of c) (lent_to c) in
      (c.result ≡ loaded_by g) × (answer_number c.result ≡ given_number g)
      × (left_after c ≡ left_in limits g (lent_to c))
  -- a refusal is given exactly for its reason: 1, then 2, both with line 0; else the first line at which a condition
  -- holds, with the lowest number that holds there; 27 with the count of lines plus 1
  pub load-refuses : (c : LoadCall) (x : Refusal) (k : ℕ)
      → ((refusal_in c.result ≡ some x) × (line_refused c.result ≡ k)) ↔ RefusedFor c x k
  -- and hands back a record of zeros
  pub refused-record : (c : LoadCall) (x : Refusal) → refusal_in c.result ≡ some x
      → record_handed c.result ≡ zero_record
  -- for C: with a number other than 0 and 70 (a slice is too short) the record's seven numbers are zeros, and those
  -- behind them as before
  pub refused-writes-zeros : (c : LoadExportCall) → (c.result ≡ 0 → ⊥) → (c.result ≡ 70 → ⊥)
      → Zeroed 7 (record_lent c) (record_after c)
  -- 1 and 2 leave the memory as it was, the others zero what is needed of it
  pub refused-early : (c : LoadCall) (x : Refusal) → refusal_in c.result ≡ some x → refusal_number x ≤ 2
      → left_after c ≡ lent_to c
  pub refused-later : (c : LoadCall) (x : Refusal) → refusal_in c.result ≡ some x → 2 < refusal_number x
      → AllZeroed (lent_to c) (left_after c)
  -- numbers past the needed ones are never touched
  pub beyond-untouched : (c : LoadCall) → SameBeyond (lent_to c) (left_after c)
  -- of the conditions at a line, 10, 12, 14 and 15 hold exactly where the grammar says so, whatever was read before
  pub ten-exactly : (lim : Limits) (r : Reading) (s : List ℕ)
      → In (cond refusal.NoForm true) (conditions_at lim r s) ↔ N10 r.phase s
  pub twelve-exactly : (lim : Limits) (r : Reading) (s : List ℕ)
      → In (cond refusal.UnfitValue true) (conditions_at lim r s) ↔ Keyed N12 r.phase s
  pub fourteen-exactly : (lim : Limits) (r : Reading) (s : List ℕ)
      → In (cond refusal.NotBuilt true) (conditions_at lim r s) ↔ N14 r.phase (length r.rows) s
  pub fifteen-exactly : (lim : Limits) (r : Reading) (s : List ℕ)
      → In (cond refusal.OutOfRange true) (conditions_at lim r s)
      ↔ Keyed (N15 lim.rows (length r.rows)) r.phase s
  -- `memory_valid`: the test behind 60, on any record and memory
  pub valid-answers : (c : ValidCall) → c.result ≡ valid limits (record_tested c) (slices_tested c)
  -- `to_unicode`, `from_unicode`: on any record, memory, bytes, output and scheme; 60 reads and writes nothing
  pub to-answers : (c : ToCall)
      → let room = length (output_lent c) in
      AnswersBy (to_tested (scheme_of c) limits (record_given c) (slices_given c) (settings_of c) (input_of c) room) c
  pub from-answers : (c : FromCall)
      → let room = length (output_lent c) in
      AnswersBy (from_tested (scheme_of c) limits (record_given c) (slices_given c) (settings_of c) (input_of c) room) c
  pub to-refuses : (c : ToCall) → valid limits (record_given c) (slices_given c) ≡ false
      → AnswersBy (ended_with BadTable 0) c × (output_after c ≡ output_lent c)
  pub from-refuses : (c : FromCall) → valid limits (record_given c) (slices_given c) ≡ false
      → AnswersBy (ended_with BadTable 0) c × (output_after c ≡ output_lent c)
  -- `convert_piece`, `close`: on any record, memory, kept state, bytes, output, scheme and settings
  pub piece-answers : (c : PieceFunctionCall)
      → let p = piece_parts c in
      let room = length p.lent in
      AnswersPiece
      (piece_tested p.way p.scheme limits p.table p.memory p.settings p.came p.piece room) p
  pub close-answers : (c : CloseFunctionCall)
      → let p = close_parts c in
      let room = length p.lent in
      AnswersPiece (close_tested p.way p.scheme limits p.table p.memory p.settings p.came room) p
  -- 60, then 42: nothing is read or written, the kept state is handed back as it came, the output is as it was
  pub piece-refuses : (c : PieceFunctionCall)
      → let p = piece_parts c in
      (memory_valid p ≡ false → DidNothing (Ended BadTable) p)
      × (memory_valid p ≡ true → kept_fitting p ≡ false → DidNothing BadKept p)
  pub close-refuses : (c : CloseFunctionCall)
      → let p = close_parts c in
      (memory_valid p ≡ false → DidNothing (Ended BadTable) p)
      × (memory_valid p ≡ true → kept_fitting p ≡ false → DidNothing BadKept p)
  -- `audit`: on any record, memory, position, allowance and space; 60 and 40 leave the space untouched
  pub audit-answers : (c : AuditFunctionCall)
      → let space = length (space_lent c) in
      let a = audit_tested limits (record_audited c) (slices_audited c)
      (fallback_of c) (position_of c) (allowance_of c) space in
      AuditsBy a c
  pub audit-refuses : (c : AuditFunctionCall) → (ending_of c.result ≡ Looked → ⊥)
      → AuditsBy (refused (ending_of c.result) (position_of c)) c × (space_afterwards c ≡ space_lent c)
  -- for C: with a number other than 0 and 70 the results are no entries, the position as it came, not finished, count
  -- 0; the numbers behind them, and the entries, are as before
  pub audit-refused-writes : (c : AuditExportCall) → (c.result ≡ 0 → ⊥) → (c.result ≡ 70 → ⊥)
      → (results_after c ≡ 0 ∷ bits_given c ∷ length_given c ∷ 0 ∷ 0 ∷ drop 5 (results_lent c))
      × (entries_after c ≡ entries_lent c)
  -- `find_code`, `find_point`: on any memory nothing, or a stored line; on memory that is valid the table's own line
  pub code-found : (c : CodeCall) → FindsCode c
  pub point-found : (c : PointCall) → FindsPoint c

-- DEMAND 2: accepted exactly when the rules are kept; conversion by the table, in UTF-8 (RFC 3629) or UTF-32 (source
-- document 002)
pub record Demand2 : Type 1 where
  -- a text that may be loaded is accepted exactly when it is of the grammar and its rows and lines keep T1 to T10
  pub accepted-exactly : (c : LoadCall) → MayLoad c
      → (refusal_in c.result ≡ none) ↔ ((t : Table) × TableText (text_of c) t × Keeps limits t)
  -- an accepted text is of the grammar, and it writes one table
  pub accepted-means : (c : LoadCall) → refusal_in c.result ≡ none → (t : Table) × AcceptedAs c t
  pub one_table : (text : List ℕ) (t u : Table) → TableText text t → TableText text u → t ≡ u
  -- an accepted text leaves the form of its table; its table has rows of 256 cells and lines of bytes, and keeps the
  -- rules
  pub leaves-form : (c : LoadCall) (t : Table) → AcceptedAs c t
      → Proper t × Keeps limits t × Form limits t (record_handed c.result) (left_after c)
  pub leaves-valid : (c : LoadCall) → refusal_in c.result ≡ none
      → valid limits (record_handed c.result) (left_after c) ≡ true
  -- one form for one meaning: two accepted texts leave the same record and the same needed numbers exactly when their
  -- tables are the same
  pub one_form : (c d : LoadCall) (t u : Table) → AcceptedAs c t → AcceptedAs d u
      → SameTable t u
      ↔ SameMemory limits (record_handed c.result) (record_handed d.result) (left_after c) (left_after d)
  -- the test behind 60 holds exactly where some table that keeps the rules has this record and memory as its form
  pub valid-exactly : (c : ValidCall) → Words (record_tested c) (slices_tested c)
      → (c.result ≡ true) ↔ FormOf limits (record_tested c) (slices_tested c)
  -- on what the load of a text left, the conversions go by that text's own rows and lines, in every scheme
  pub to-by-text : (l : LoadCall) (t : Table) → AcceptedAs l t → (c : ToCall) → OnLoaded l c
      → AnswersBy (to_run (scheme_of c) t (settings_of c) (input_of c) (length (output_lent c))) c
  pub from-by-text : (l : LoadCall) (t : Table) → AcceptedAs l t → (c : FromCall) → OnLoaded l c
      → AnswersBy (from_run (scheme_of c) t (settings_of c) (input_of c) (length (output_lent c))) c
  -- what is written reads (T10): the code that a code point is written as reads as some code point, in every scheme and
  -- setting, whatever stands behind it
  pub written-reads : (l : LoadCall) (t : Table) → AcceptedAs l t → (fallback : Bool) (u : ℕ) (c : List ℕ)
      → writes t fallback u ≡ code c
      → (v : ℕ) × ((e : Scheme) (settings : Settings) (rest : List ℕ)
      → to_step (side_of e) t settings 0 (c ++ rest) ≡ give ((side_of e).encode v) (length c) 0)
  -- UTF-8 is RFC 3629's: what decodes is a well-formed sequence and its value, the encoding of a scalar value decodes,
  -- 51 is a proper beginning
  pub utf8-decodes : (s : List ℕ) (c n : ℕ) → (decode_one s ≡ sequence.Scalar c n) ↔ StartsWith s c n
  pub utf8-encodes : (c : ℕ) (rest : List ℕ) → Scalar c
      → decode_one (encode_of c ++ rest) ≡ sequence.Scalar c (length (encode_of c))
  pub utf8-cut-short : (s : List ℕ) → (decode_one s ≡ sequence.Stopped stopped.CutShort) ↔ Begins s
  -- UTF-32 in either byte order is source document 002's: what decodes is the four bytes of a scalar value, the
  -- encoding of a scalar value decodes, 51 is fewer than four bytes, 52 any other number (surrogates, above 10FFFF)
  pub utf32-decodes : (order : ByteOrder) (s : List ℕ) (c n : ℕ) → All (λ b. b < 256) s
      → (decode_in order s ≡ sequence.Scalar c n)
      ↔ ((n ≡ 4) × Scalar c × ((rest : List ℕ) × (s ≡ encode_in order c ++ rest)))
  pub utf32-encodes : (order : ByteOrder) (c : ℕ) (rest : List ℕ) → Scalar c
      → decode_in order (encode_in order c ++ rest) ≡ sequence.Scalar c (length (encode_in order c))
  pub utf32-cut-short : (order : ByteOrder) (s : List ℕ)
      → (decode_in order s ≡ sequence.Stopped stopped.CutShort) ↔ (length s < 4)
  pub utf32-illegal : (order : ByteOrder) (s : List ℕ)
      → (decode_in order s ≡ sequence.Stopped (stopped.Illegal 4))
      ↔ ((4 ≤ length s) × (Scalar (word_in order s) → ⊥))
  -- plain UTF-32, written: the mark, then what the big-endian scheme has; with no space for the mark 50, whatever the
  -- input
  pub plain-written : (t : Table) (settings : Settings) (s : List ℕ) (room : ℕ) → 4 ≤ room
      → to_run Utf32 t settings s room ≡ after 0 (mark_in Big) (to_run Utf32Be t settings s (room - 4))
  pub plain-full : (t : Table) (settings : Settings) (s : List ℕ) (room : ℕ) → room < 4
      → to_run Utf32 t settings s room ≡ ended_with OutputFull 0
  -- plain UTF-32, read: behind a mark as the scheme of its order; else as the big-endian scheme
  pub plain-marked : (t : Table) (settings : Settings) (order : ByteOrder) (s : List ℕ) (room : ℕ)
      → from_run Utf32 t settings (mark_in order ++ s) room ≡ after 4 [] (from_run (ordered_by order) t settings s room)
  pub plain-unmarked : (t : Table) (settings : Settings) (s : List ℕ) (room : ℕ) → All (λ b. b < 256) s
      → ((order : ByteOrder) (rest : List ℕ) → s ≡ mark_in order ++ rest → ⊥)
      → from_run Utf32 t settings s room ≡ from_run Utf32Be t settings s room
  -- what is written towards Unicode is well-formed in its scheme, and read in that scheme it is the first of the
  -- input's code points, or all of them unless the answer was 50; a mark is none of them
  pub writes-text : (l : LoadCall) (t : Table) → AcceptedAs l t → (c : ToCall) → OnLoaded l c
      → WellFormedText (scheme_of c) (written_by c)
  pub reads-back : (l : LoadCall) (t : Table) → AcceptedAs l t → (c : ToCall) → OnLoaded l c
      → ReadsAsFirst (scheme_of c) (written_by c) (points_in t (settings_of c) (input_of c))
  pub reads-back-whole : (l : LoadCall) (t : Table) → AcceptedAs l t → (c : ToCall) → OnLoaded l c
      → (c.result.end ≡ OutputFull → ⊥)
      → ReadsAs (scheme_of c) (written_by c) (points_in t (settings_of c) (input_of c))
  -- no complete code begins another
  pub prefix-free : (t : Table) (s r : List ℕ) → In s (complete_codes t) → In (s ++ r) (complete_codes t) → r ≡ []
  -- space for the mark and four bytes to each byte of the input is always enough towards Unicode
  pub room-enough : (l : LoadCall) (t : Table) → AcceptedAs l t → (c : ToCall) → OnLoaded l c
      → length (mark_of (scheme_of c)) + 4 * length (input_of c) ≤ length (output_lent c)
      → c.result.end ≡ OutputFull → ⊥
  -- and from Unicode, where no mark is written, four bytes to each byte
  pub from-room-enough : (l : LoadCall) (t : Table) → AcceptedAs l t → (c : FromCall) → OnLoaded l c
      → 4 * length (input_of c) ≤ length (output_lent c) → c.result.end ≡ OutputFull → ⊥
  -- more space changes nothing unless the answer was 50
  pub to-more-space : (l : LoadCall) (t : Table) → AcceptedAs l t → (c d : ToCall) → OnLoaded l c → OnLoaded l d
      → input_of d ≡ input_of c → settings_of d ≡ settings_of c → scheme_of d ≡ scheme_of c
      → length (output_lent c) ≤ length (output_lent d)
      → (c.result.end ≡ OutputFull → ⊥) → (d.result ≡ c.result) × (written_by d ≡ written_by c)
  pub from-more-space : (l : LoadCall) (t : Table) → AcceptedAs l t → (c d : FromCall) → OnLoaded l c → OnLoaded l d
      → input_of d ≡ input_of c → settings_of d ≡ settings_of c → scheme_of d ≡ scheme_of c
      → length (output_lent c) ≤ length (output_lent d)
      → (c.result.end ≡ OutputFull → ⊥) → (d.result ≡ c.result) × (written_by d ≡ written_by c)
  -- a frame of codes that round-trip, converted and converted back in one scheme with space enough for each, is itself
  pub there_and_back : (l : LoadCall) (t : Table) → AcceptedAs l t → (c : ToCall) (d : FromCall) → OnLoaded l c
      → OnLoaded l d
      → settings_of d ≡ settings_of c → scheme_of d ≡ scheme_of c
      → (codes : List (RoundTripCode t (settings_of c).fallback)) → input_of c ≡ frame_of codes
      → length (mark_of (scheme_of c)) + 4 * length (input_of c) ≤ length (output_lent c) → input_of d ≡ written_by c
      → length (input_of c) ≤ length (output_lent d)
      → written_by d ≡ input_of c

-- ILLEGAL SEQUENCES (document 02, request 3): their length, and a conversion that skips them
pub record IllegalSequences : Type 1 where
  -- every answer but 52 has length 0
  pub to-length-none : (c : ToCall) → (end_number c.result.end ≡ 52 → ⊥) → end_length c.result.end ≡ 0
  pub from-length-none : (c : FromCall) → (end_number c.result.end ≡ 52 → ⊥) → end_length c.result.end ≡ 0
  -- which bytes an illegal sequence of a table takes in, whether it stops the conversion or is skipped
  pub takes-in : (e : Scheme) (t : Table) (settings : Settings) → Keeps limits t → (s : List ℕ) → AllByte s → (n : ℕ)
      → to_step (side_of e) t settings 0 s ≡ stop (stopped.Illegal n) → TakesIn (steps_of t) 0 t.max s n
  -- 52 towards Unicode, by the rows of the text that was loaded: the sequence is the one at the place read
  pub to-length : (l : LoadCall) (t : Table) → AcceptedAs l t → (c : ToCall) → OnLoaded l c → AllByte (input_of c)
      → end_number c.result.end ≡ 52
      → TakesIn (steps_of t) 0 t.max (drop c.result.read (input_of c)) (end_length c.result.end)
  -- 52 from Unicode: one code unit (1 byte in UTF-8, 4 in UTF-32)
  pub from-length : (c : FromCall) → end_number c.result.end ≡ 52
      → end_length c.result.end ≡ (side_of (scheme_of c)).unit
  -- with skipping on 52 is never given
  pub to-never : (c : ToCall) → (settings_of c).skip ≡ true → end_number c.result.end ≡ 52 → ⊥
  pub from-never : (c : FromCall) → (settings_of c).skip ≡ true → end_number c.result.end ≡ 52 → ⊥
  -- behind any mark, with space enough: a frame converted with skipping gives, in parts, what the conversion that does
  -- not skip gives of each part by itself, with U+FFFD or subchar for each illegal sequence between them
  pub to-parts : (e : Scheme) (t : Table) (settings : Settings) (s : List ℕ) (room : ℕ)
      → let u = side_of e in
      let r = to_side u t (with_skip true settings) s room in
      (r.end ≡ OutputFull → ⊥) → InParts (to_step u t (with_skip false settings)) (u.encode 0xfffd) s r
  pub from_parts : (e : Scheme) (t : Table) (settings : Settings) (s : List ℕ) (room : ℕ)
      → let u = side_of e in
      let r = from_side u t (with_skip true settings) s room in
      (r.end ≡ OutputFull → ⊥) → InParts (from_step u t (with_skip false settings)) t.subchar s r

-- IN BURSTS (document 02, request 4): a conversion in pieces, over any list of calls
pub record InBursts : Type 1 where
  -- given a load that accepted its text, a frame, and any list of calls on what the load left, one way, in one scheme
  -- and with one setting, the first afresh, each later one with the kept state that the one before handed back, each on
  -- any beginning of what is unread, with any space; and then closes, each but the last answered 50: every clause of
  -- `InPieces` holds. The conversion in one piece, which they are held to, has any space that is enough for it
  pub all-pieces : (l : LoadCall) (t : Table) → AcceptedAs l t → (way : Way) (e : Scheme) (settings : Settings)
      → (frame : List ℕ) → AllByte frame → (room : ℕ)
      → let whole = one_run way e t settings frame room in
      (whole.end ≡ OutputFull → ⊥) → (cs : List PieceFunctionCall) (ds : List CloseFunctionCall)
      → All (PieceOn l way e settings) (map piece_parts cs) → All (PieceOn l way e settings) (map close_parts ds)
      → PiecesInTurn frame fresh_kept (map piece_call_of cs)
      → Closing (last_kept fresh_kept (map piece_call_of cs)) (map close_call_of ds)
      → InPieces way e whole frame (map piece_call_of cs) (map close_call_of ds)
  -- a call answered 51, 52 or 53 keeps that answer
  pub piece-final : (c : PieceFunctionCall) (w : Stop) → c.result.end ≡ Ended (Stopped w)
      → c.result.kept.standing ≡ Some w
  pub close-final : (c : CloseFunctionCall) (w : Stop) → c.result.end ≡ Ended (Stopped w)
      → c.result.kept.standing ≡ Some w
  -- and an answer that is kept is given again, nothing being read, written or changed
  pub piece-stands : (c : PieceFunctionCall) (w : Stop)
      → let p = piece_parts c in
      p.came.standing ≡ Some w → memory_valid p ≡ true → kept_fitting p ≡ true
      → DidNothing (Ended (Stopped w)) p
  pub close-stands : (c : CloseFunctionCall) (w : Stop)
      → let p = close_parts c in
      p.came.standing ≡ Some w → memory_valid p ≡ true → kept_fitting p ≡ true
      → DidNothing (Ended (Stopped w)) p
  -- so where the last of such calls and closes is answered 51, 52 or 53, every call with what was then kept, whatever
  -- its piece and space, and every close gives that answer and does nothing
  pub stands_on : (l : LoadCall) (t : Table) → AcceptedAs l t → (way : Way) (e : Scheme) (settings : Settings)
      → (frame : List ℕ) → AllByte frame → (room : ℕ)
      → ((one_run way e t settings frame room).end ≡ OutputFull → ⊥)
      → (cs : List PieceFunctionCall) (ds : List CloseFunctionCall)
      → All (PieceOn l way e settings) (map piece_parts cs) → All (PieceOn l way e settings) (map close_parts ds)
      → PiecesInTurn frame fresh_kept (map piece_call_of cs)
      → Closing (last_kept fresh_kept (map piece_call_of cs)) (map close_call_of ds)
      → let kept = last_kept (last_kept fresh_kept (map piece_call_of cs)) (map close_call_of ds) in
      (w : Stop) → last_end (last_end (Ended AllRead) (map piece_call_of cs)) (map close_call_of ds) ≡ Ended (Stopped w)
      → ((c : PieceFunctionCall) → PieceOn l way e settings (piece_parts c) → (piece_parts c).came ≡ kept
      → DidNothing (Ended (Stopped w)) (piece_parts c))
      × ((d : CloseFunctionCall) → PieceOn l way e settings (close_parts d) → (close_parts d).came ≡ kept
      → DidNothing (Ended (Stopped w)) (close_parts d))
  -- a close is 51 where bytes are kept and no answer stands
  pub close-short : (c : CloseFunctionCall)
      → let p = close_parts c in
      memory_valid p ≡ true → kept_fitting p ≡ true → p.came.standing ≡ None → 0 < p.came.bytes.len
      → (p.result.end ≡ Ended (Stopped stopped.CutShort)) × (p.after ≡ p.lent)
  -- a close answered 0 makes a fresh start
  pub close-afresh : (c : CloseFunctionCall) → c.result.end ≡ Ended AllRead → c.result.kept ≡ fresh_kept
  -- on memory that is valid 42 is given exactly where what came is no kept state
  pub bad-kept : (c : PieceFunctionCall)
      → let p = piece_parts c in
      memory_valid p ≡ true → (p.result.end ≡ BadKept) ↔ (kept_fitting p ≡ false)
  pub bad-kept-close : (c : CloseFunctionCall)
      → let p = close_parts c in
      memory_valid p ≡ true → (p.result.end ≡ BadKept) ↔ (kept_fitting p ≡ false)

-- DEMAND 3: the audit, over any list of calls
pub record Demand3 : Type 1 where
  -- given a load that accepted its text, and any list of audit calls (the empty one too) on what it left, under one
  -- fallback setting, the first at the beginning and each later one at the position that the one before handed back:
  -- every clause of demand 3 holds
  pub all-clauses : (l : LoadCall) (t : Table) → AcceptedAs l t → (fallback : Bool) (cs : List AuditFunctionCall)
      → InTurn (record_handed l.result) (left_after l) fallback (map call_of cs)
      → Claims t fallback entry_number (map call_of cs)
  -- a code has cause 0 exactly when it round-trips (document 01: comes home), by the text's lines
  pub cause-zero : (t : Table) (fallback : Bool) (c : List ℕ) → (cause_of t fallback c ≡ 0) ↔ RoundTrips t fallback c
  -- and that is what the two strict conversions show, in any scheme, with space for a code each
  pub home-by-calls : (l : LoadCall) (t : Table) → AcceptedAs l t → (fallback : Bool) (s : List ℕ) → AllByte s
      → is_code (steps_of t) 0 s ≡ true
      → (c : ToCall) (d : FromCall) → OnLoaded l c → OnLoaded l d → settings_of c ≡ strict fallback
      → settings_of d ≡ strict fallback → scheme_of d ≡ scheme_of c
      → input_of c ≡ s → input_of d ≡ written_by c
      → length (mark_of (scheme_of c)) + 4 ≤ length (output_lent c) → 4 ≤ length (output_lent d)
      → RoundTrips t fallback s ↔ ((c.result.end ≡ AllRead) × (d.result.end ≡ AllRead) × (written_by d ≡ s))
  -- the causes otherwise, the lowest that holds: ended by `u`; no line reads it; written as another code; not written
  pub cause-one : (t : Table) (fallback : Bool) (c : List ℕ) → (RoundTrips t fallback c → ⊥)
      → end_kind (steps_of t) 0 c ≡ Some Unassigned → cause_of t fallback c ≡ 1
  pub cause-two : (t : Table) (fallback : Bool) (c : List ℕ) → (end_kind (steps_of t) 0 c ≡ Some Unassigned → ⊥)
      → reader c t.lines ≡ none → cause_of t fallback c ≡ 2
  pub cause-three : (t : Table) (fallback : Bool) (c : List ℕ) → (end_kind (steps_of t) 0 c ≡ Some Unassigned → ⊥)
      → (l : Line) (d : List ℕ)
      → reader c t.lines ≡ some l → writes t fallback l.point ≡ code d → (d ≡ c → ⊥) → cause_of t fallback c ≡ 3
  pub cause-four : (t : Table) (fallback : Bool) (c : List ℕ) → (end_kind (steps_of t) 0 c ≡ Some Unassigned → ⊥)
      → (l : Line)
      → reader c t.lines ≡ some l → ((d : List ℕ) → writes t fallback l.point ≡ code d → ⊥)
      → cause_of t fallback c ≡ 4

-- THE PROGRAM: its calls, in its order, write what document 01 says for the table's text and the input
pub record TheProgram : Type 1 where
  pub whole-output : (b : Begun) (c : Course b) (input : List ℕ) → Reads b c input
      → written b c ≡ output_of (text_of b.load) input
  -- where the table cannot be read, and where it is empty, that is all; table K with the frame 817C33
  pub no_table : (input : List ℕ) → (program_output none input ≡ ascii "NO TABLE\n")
      × (program_output (some []) input ≡ ascii "TABLE REFUSED 27 1\n")
  pub k-output : output_of k_text (ascii "817C33\n")
      ≡ ascii "TABLE OK 6\n0 3 E2889233\n3F 2\n817D 3\n8180 1\nLOOKED 7 LISTED 3\n"

-- ALL OF IT
pub record Promises : Type 2 where
  pub demand1 : Demand1
  pub demand2 : Demand2
  pub demand3 : Demand3
  pub illegal-sequences : IllegalSequences
  pub in-bursts : InBursts
  -- the starred cases 1 to 8, over the terms of the functions' contracts on what the load of K's text left
  pub starred : Starred
  pub program : TheProgram
