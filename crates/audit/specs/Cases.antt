-- The starred cases (document 01, 'Table K, and what it gives', 1 to 8), 1, 2 and 6 in UTF-32, and illegal sequences
-- (document 02, request 3): what the load of K's own text answers, and what calls on the record and memory that it left
-- answer, in the words of the functions' own promises, whatever the lent slices held before.
-- Contents: a question and its reply; what a caller sees; the cases, in their order; `Starred`. Proved in
-- proofs/Starred.antt.
use Rattle.std.specs.Prelude.{ℕ, ◌≡◌, Bool, true, false, List, [], ◌∷◌, ◌++◌, map, length, drop, Ok}
use Rattle.lists.specs.Order.{All}
use Rattle.utf.specs.declared.scheme.Scheme.{Scheme}
use Rattle.utf.specs.declared.scheme.Scheme.TheVariants.{Utf8, Utf32Be, Utf32Le, Utf32}
use Rattle.table.specs.Limits.{limits}
use Rattle.table.specs.Codes.{code_of}
use Rattle.table.specs.Slices.{Slices, Lent}
use Rattle.table.specs.Numbers.{Loaded}
use Rattle.table.specs.Load.{loaded_by, given, left_in, record_handed}
use Rattle.table.specs.TableK.{k_text}
use Rattle.table.specs.declared.states.Code.{Code}
use Rattle.table.specs.declared.valid.Record.{Record}
use Rattle.convert.specs.Run.{Run, converted_of, put_out, end_number, end_length}
use Rattle.convert.specs.Step.{strict, substituting, with_skip}
use Rattle.convert.specs.Convert.{to_tested, from_tested}
use Rattle.convert.specs.declared.Settings.{Settings}
use Rattle.audit.specs.Audit.{Finding, Answer, ending_number, audit_tested, entry_number, audited_of, ending_of}
use Rattle.audit.specs.Audit.{handed_on, space_after}

-- a setting off or on
abbrev off : Bool
off = false

abbrev on : Bool
on = true

-- a call: to Unicode and from it (scheme, settings, input), of the audit (fallback, position, allowance)
pub data Question : Type 0 where
  to_unicode : Scheme → Settings → List ℕ → Question
  from_unicode : Scheme → Settings → List ℕ → Question
  audit : Bool → List ℕ → ℕ → Question

-- what is expected: a conversion's number, the length of an illegal sequence, bytes read and output; an audit call's
-- number, entries, count, position, and whether it is finished
pub data Reply : Type 0 where
  answered : ℕ → ℕ → ℕ → List ℕ → Reply
  audited : ℕ → List Finding → ℕ → List ℕ → Bool → Reply

-- any answer but 52 has length 0; 52 has one, and here no output before it
abbrev converted : ℕ → ℕ → List ℕ → Reply
converted number read output = answered number 0 read output

abbrev illegal : ℕ → ℕ → Reply
illegal long read = answered 52 long read []

-- what a caller sees: a conversion's number and length, bytes read and written, and the output slice afterwards; an
-- audit call's number, entries written, count, position, whether it is finished, and the space for entries afterwards
pub data Seen : Type 0 where
  conversion : ℕ → ℕ → ℕ → ℕ → List ℕ → Seen
  call : ℕ → ℕ → ℕ → Code → Bool → List ℕ → Seen

-- by the functions' promises, where the lent output slice was `out`
abbrev pub converts : Run → List ℕ → Seen
converts r out =
    let d = converted_of r in
    conversion (end_number d.end) (end_length d.end) d.read d.written (put_out r out)

abbrev pub calls : Code → Answer → List ℕ → Seen
calls pos a out =
    let r = audited_of a in
    let d = handed_on pos r in
    call (ending_number (ending_of r)) d.written d.count d.position d.finished (space_after a out)

-- on a record and slices
abbrev pub ask_on : Record → Slices → List ℕ → Question → Seen
ask_on rec m out (to_unicode e settings input) =
    converts (to_tested e limits rec m settings input (length out)) out
ask_on rec m out (from_unicode e settings input) =
    converts (from_tested e limits rec m settings input (length out)) out
ask_on rec m out (audit fallback position allowance) =
    let pos = code_of position in calls pos (audit_tested limits rec m fallback pos allowance (length out)) out

-- on the record and the slices that the load of K's text gave and left
unfoldable pub ask : Slices → List ℕ → Question → Seen
ask old out q =
    let g = given limits k_text old in ask_on (record_handed (loaded_by g)) (left_in limits g old) out q

-- what is expected, as a caller sees it: output or entries at the front of the slice, and after them its old values
abbrev pub seen_as : Reply → List ℕ → Seen
seen_as (answered number long read output) out =
    conversion number long read (length output) (output ++ drop (length output) out)
seen_as (audited number entries count position finished) out =
    call number (length entries) count (code_of position) finished
    (map entry_number entries ++ drop (length entries) out)

-- a call with an output slice of this length, and its reply
pub record Case : Type 0 where
  pub question : Question
  pub space : ℕ
  pub reply : Reply

abbrev the : Question → ℕ → Reply → Case
the q n r = record { question = q; space = n; reply = r }

abbrev cause : List ℕ → ℕ → Finding
cause c w = record { code = c; cause = w }

abbrev k_list : List Finding
k_list = cause (0x3f ∷ []) 2 ∷ cause (0x81 ∷ 0x7d ∷ []) 3 ∷ cause (0x81 ∷ 0x80 ∷ []) 1 ∷ []

-- settings with skipping off, and the same with it on
abbrev unskipped : List Settings
unskipped = strict off ∷ strict on ∷ substituting off ∷ substituting on ∷ []

abbrev skips : List Settings → List Settings
skips = map (with_skip on)

abbrev either : List Settings → List Settings
either l = l ++ skips l

-- a case that names no setting holds under every one
abbrev every : List Settings
every = either unskipped

abbrev strictly : List Settings
strictly = either (strict off ∷ strict on ∷ [])

abbrev substitutes : List Settings
substitutes = either (substituting off ∷ substituting on ∷ [])

abbrev with_fallback : List Settings
with_fallback = either (strict on ∷ substituting on ∷ [])

abbrev off_on : List Bool
off_on = off ∷ on ∷ []

abbrev to_in : Scheme → List Settings → List ℕ → ℕ → Reply → List Case
to_in e under input space reply = map (λ settings. the (to_unicode e settings input) space reply) under

abbrev from_in : Scheme → List Settings → List ℕ → ℕ → Reply → List Case
from_in e under input space reply = map (λ settings. the (from_unicode e settings input) space reply) under

-- a case that names no scheme is of UTF-8
abbrev to : List Settings → List ℕ → ℕ → Reply → List Case
to = to_in Utf8

abbrev from : List Settings → List ℕ → ℕ → Reply → List Case
from = from_in Utf8

abbrev auditing : List ℕ → ℕ → ℕ → Reply → List Case
auditing position allowance space reply = map (λ fallback. the (audit fallback position allowance) space reply) off_on

-- cases 1 to 8, in their order, three of them in UTF-32, and illegal sequences
unfoldable pub cases : List Case
cases =
    -- 1: 81 7C 33 gives E2 88 92 33, read 3
    to every (0x81 ∷ 0x7c ∷ 0x33 ∷ []) 16 (converted 0 3 (0xe2 ∷ 0x88 ∷ 0x92 ∷ 0x33 ∷ []))
    -- 2: E2 88 92 33 gives 81 7C 33
    ++ from every (0xe2 ∷ 0x88 ∷ 0x92 ∷ 0x33 ∷ []) 16 (converted 0 4 (0x81 ∷ 0x7c ∷ 0x33 ∷ []))
    -- 3: EF BC 8D 33, fallback off, strict: 53, read 0. Substitute: 3F 33. Fallback on: 81 7C 33
    ++ from (either (strict off ∷ [])) (0xef ∷ 0xbc ∷ 0x8d ∷ 0x33 ∷ []) 16 (converted 53 0 [])
    ++ from (either (substituting off ∷ [])) (0xef ∷ 0xbc ∷ 0x8d ∷ 0x33 ∷ []) 16 (converted 0 4 (0x3f ∷ 0x33 ∷ []))
    ++ from with_fallback (0xef ∷ 0xbc ∷ 0x8d ∷ 0x33 ∷ []) 16 (converted 0 4 (0x81 ∷ 0x7c ∷ 0x33 ∷ []))
    -- 4: 81 alone: 51, read 0. 81 2D 33: 52, read 0, and length 1. Empty: 0, read 0
    ++ to every (0x81 ∷ []) 16 (converted 51 0 [])
    ++ to unskipped (0x81 ∷ 0x2d ∷ 0x33 ∷ []) 16 (illegal 1 0)
    ++ to every [] 16 (converted 0 0 [])
    -- 4, skipping: 81 2D 33 gives EF BF BD 2D 33, read 3
    ++ to (skips unskipped) (0x81 ∷ 0x2d ∷ 0x33 ∷ []) 16 (converted 0 3 (0xef ∷ 0xbf ∷ 0xbd ∷ 0x2d ∷ 0x33 ∷ []))
    -- 5: 81 80, substitute: EF BF BD; strict: 53
    ++ to substitutes (0x81 ∷ 0x80 ∷ []) 16 (converted 0 2 (0xef ∷ 0xbf ∷ 0xbd ∷ []))
    ++ to strictly (0x81 ∷ 0x80 ∷ []) 16 (converted 53 0 [])
    -- 6: 81 7C with two bytes of space: 50, read 0, written 0
    ++ to every (0x81 ∷ 0x7c ∷ []) 2 (converted 50 0 [])
    -- 7: 7 complete codes; the list is 3F cause 2, 81 7D cause 3, 81 80 cause 1: one call from the beginning, finished
    ++ auditing [] 16 16 (audited 0 k_list 7 (0x81 ∷ 0x80 ∷ []) true)
    -- 8: allowance 0 at the beginning: count 0, not finished. Position 81: 40
    ++ auditing [] 0 16 (audited 0 [] 0 [] false)
    ++ auditing (0x81 ∷ []) 16 16 (audited 40 [] 0 (0x81 ∷ []) false)
    -- 1 in UTF-32: the mark, 2212, 33; in the little-endian scheme no mark
    ++ to_in Utf32 every (0x81 ∷ 0x7c ∷ 0x33 ∷ []) 16
    (converted 0 3 (0 ∷ 0 ∷ 0xfe ∷ 0xff ∷ 0 ∷ 0 ∷ 0x22 ∷ 0x12 ∷ 0 ∷ 0 ∷ 0 ∷ 0x33 ∷ []))
    ++ to_in Utf32Le every (0x81 ∷ 0x7c ∷ 0x33 ∷ []) 16
    (converted 0 3 (0x12 ∷ 0x22 ∷ 0 ∷ 0 ∷ 0x33 ∷ 0 ∷ 0 ∷ 0 ∷ []))
    -- 2 in UTF-32: behind a mark in either order; FF FE 00 00 is no mark in the big-endian scheme: 52
    ++ from_in Utf32 every (0 ∷ 0 ∷ 0xfe ∷ 0xff ∷ 0 ∷ 0 ∷ 0x22 ∷ 0x12 ∷ 0 ∷ 0 ∷ 0 ∷ 0x33 ∷ []) 16
    (converted 0 12 (0x81 ∷ 0x7c ∷ 0x33 ∷ []))
    ++ from_in Utf32 every (0xff ∷ 0xfe ∷ 0 ∷ 0 ∷ 0x12 ∷ 0x22 ∷ 0 ∷ 0 ∷ 0x33 ∷ 0 ∷ 0 ∷ 0 ∷ []) 16
    (converted 0 12 (0x81 ∷ 0x7c ∷ 0x33 ∷ []))
    ++ from_in Utf32Be unskipped (0xff ∷ 0xfe ∷ 0 ∷ 0 ∷ []) 16 (illegal 4 0)
    -- and three bytes left over: 51; a pair of surrogates: 52; FEFF in front, text in the big-endian scheme: 53, strict
    ++ from_in Utf32Be every (0 ∷ 0 ∷ 0x22 ∷ []) 16 (converted 51 0 [])
    ++ from_in Utf32Be unskipped (0 ∷ 0 ∷ 0xd8 ∷ 0x3d ∷ 0 ∷ 0 ∷ 0xde ∷ 0 ∷ []) 16 (illegal 4 0)
    ++ from_in Utf32Be strictly (0 ∷ 0 ∷ 0xfe ∷ 0xff ∷ []) 16 (converted 53 0 [])
    -- 6 in UTF-32: no space for the mark is 50, of an empty text too
    ++ to_in Utf32 every (0x81 ∷ 0x7c ∷ []) 3 (converted 50 0 [])
    ++ to_in Utf32 every [] 3 (converted 50 0 [])
    ++ to_in Utf32 every [] 4 (converted 0 0 (0 ∷ 0 ∷ 0xfe ∷ 0xff ∷ []))
    -- illegal sequences: 81 FF has length 2; in 81 81 the second byte could begin a code: length 1, and 51 behind it;
    -- with two bytes of space for U+FFFD: 50
    ++ to unskipped (0x81 ∷ 0xff ∷ 0x33 ∷ []) 16 (illegal 2 0)
    ++ to (skips unskipped) (0x81 ∷ 0xff ∷ 0x33 ∷ []) 16 (converted 0 3 (0xef ∷ 0xbf ∷ 0xbd ∷ 0x33 ∷ []))
    ++ to unskipped (0x81 ∷ 0x81 ∷ []) 16 (illegal 1 0)
    ++ to (skips unskipped) (0x81 ∷ 0x81 ∷ []) 16 (converted 51 1 (0xef ∷ 0xbf ∷ 0xbd ∷ []))
    ++ to (skips unskipped) (0x81 ∷ 0x2d ∷ []) 2 (converted 50 0 [])
    -- from UTF-8 each byte alone: C0 AD gives two subchars, E2 88 33 two and then 33; in UTF-32 four bytes
    ++ from unskipped (0xc0 ∷ 0xad ∷ []) 16 (illegal 1 0)
    ++ from (skips unskipped) (0xc0 ∷ 0xad ∷ []) 16 (converted 0 2 (0x3f ∷ 0x3f ∷ []))
    ++ from (skips unskipped) (0xe2 ∷ 0x88 ∷ 0x33 ∷ []) 16 (converted 0 3 (0x3f ∷ 0x3f ∷ 0x33 ∷ []))
    ++ from_in Utf32Be (skips unskipped) (0 ∷ 0 ∷ 0xd8 ∷ 0x3d ∷ 0 ∷ 0 ∷ 0 ∷ 0x33 ∷ []) 16
    (converted 0 8 (0x3f ∷ 0x33 ∷ []))

-- K's text is accepted, with this record
abbrev pub k_loaded : Loaded
k_loaded =
    Ok
    (record {
      rows = 2;
      mappings = 6;
      min = 1;
      max = 2;
      subchar = record { bits = 0x3f000000; len = 1 };
      subchar1 = 0;
    })

-- a case holds, whatever the output slice held
abbrev pub Holds : Slices → Case → Type 0
Holds old c = (out : List ℕ) → length out ≡ c.space → ask old out c.question ≡ seen_as c.reply out

-- THE STARRED CASES: whatever was held by slices that are long enough, K's text is accepted with K's record, and each
-- case holds
abbrev pub Starred : Type 0
Starred =
    (old : Slices) → Lent limits old
    → (loaded_by (given limits k_text old) ≡ k_loaded) × All (Holds old) cases
