-- The numbers handed back for a text, in the order of document 01's table 'Numbers handed back for a text': `n1` to
-- `n27` say when each holds; `n28` is document 02's (request 5). 1 and 2 are asked before the text is read, 27 behind
-- its last line, the others at a line, given what came before it. What a line is, the readers say (Header.antt,
-- Row.antt, Mapping.antt); 10, 12, 14 and 15 as sentences on its bytes: N10 to N15 of Grammar.antt.
-- Contents: the number of a refusal; n1 to n28; conditions, and the lowest that holds; the conditions at each kind of
-- line.
-- Cases: proofs/HeaderCases.antt, proofs/TextCases.antt
use Rattle.table.specs.Header.{ReadValue}
use Rattle.std.specs.Prelude.{Some, None}
use Rattle.table.specs.Header.{ReadLine}
use Rattle.std.specs.Prelude.{if◌then◌else◌, ℕ, ◌+◌, Bool, true, false, not, List, Result, Ok, Err, ⊤}
use Rattle.std.specs.Prelude.{[], ◌∷◌, length, replicate, ltb, leb, eqb}
use Rattle.lists.specs.Pick.{◌and◌, ◌or◌}
use Rattle.table.specs.Limits.{Limits, needed}
use Rattle.table.specs.Cells.{Cell, ends}
use Rattle.table.specs.Meaning.{Line, flat, steps_on}
use Rattle.table.specs.Rules.{t2, t3, t4_sub, t4_sub1, t5, t6, t7, t8, shares_bytes, shares_point, t1_rows, t1_lines}
use Rattle.table.specs.Rules.{t1_order, t10}
use Rattle.lists.specs.Tests.{any_of}
use Rattle.table.specs.Keys.{Keys, is_sbcs, min_of, max_of, subchar_of}
use Rattle.lists.specs.Options.{is_some}
use Rattle.table.specs.Header.{by_value}
use Rattle.table.specs.declared.load.Refusal.{Refusal}
use Rattle.table.specs.declared.load.Refusal.TheVariants as refusal
use Rattle.table.specs.declared.load.Refused.{Refused}
use Rattle.table.specs.declared.valid.Record.{Record}
use Rattle.table.specs.Mapping.{BodyLine, no_form, reserved, blank, ending, mapping}
use Rattle.table.specs.declared.header.HeaderLine.TheVariants as header
use Rattle.table.specs.declared.load.Phase.{Phase}
use Rattle.table.specs.declared.load.Phase.TheVariants.{Header, Mappings, Ended}
use Rattle.table.specs.declared.value.Key.{Key}
use Rattle.table.specs.declared.value.Key.TheVariants.{CodeSetName, CurMin, CurMax, ConvClass, SubChar}
use Rattle.table.specs.declared.value.Key.TheVariants.{SubChar1, State, Base, Other}

-- the number of each refusal (28 is document 02's)
abbrev pub refusal_number : Refusal → ℕ
refusal_number refusal.MemoryTooSmall = 1
refusal_number refusal.TextTooLong = 2
refusal_number refusal.NoForm = 10
refusal_number refusal.KeyAgain = 11
refusal_number refusal.UnfitValue = 12
refusal_number refusal.KeyAbsent = 13
refusal_number refusal.NotBuilt = 14
refusal_number refusal.OutOfRange = 15
refusal_number refusal.StatesBroken = 16
refusal_number refusal.NoScalar = 20
refusal_number refusal.NoSuchCode = 21
refusal_number refusal.LeadingZero = 22
refusal_number refusal.NoSubchar1 = 23
refusal_number refusal.BytesTaken = 24
refusal_number refusal.PointTaken = 25
refusal_number refusal.TooMany = 26
refusal_number refusal.NoEnd = 27
refusal_number refusal.NotReadBack = 28

-- what loading hands back: the record of an accepted text, or why and at which line it is refused
abbrev pub Loaded : Type 0
Loaded = Result Record Refused

-- the number of the answer to a text: 0 where it is accepted
abbrev pub answer_number : Loaded → ℕ
answer_number (Ok rec) = 0
answer_number (Err e) = refusal_number e.why

-- 1, before the text is read: lent memory too small; the lengths of the four slices
abbrev pub n1 : Limits → ℕ → ℕ → ℕ → ℕ → Bool
n1 lim s c i o = ltb s (needed lim) or ltb c lim.mappings or ltb i lim.mappings or ltb o lim.mappings

-- 2, before it is read: the text is too long
abbrev pub n2 : Limits → List ℕ → Bool
n2 lim text = ltb lim.text (length text)

-- 10: a line of no form that may stand in its part of the text, nor one named under 14. Before CHARMAP
abbrev pub n10 : ReadLine → Bool
n10 None = true
n10 (Some header.Blank) = false
n10 (Some header.Charmap) = false
n10 (Some (header.Known k v q e)) = false

-- 10 from CHARMAP on; behind END CHARMAP (ended) neither a mapping nor END CHARMAP may stand
abbrev pub n10_behind : Bool → BodyLine → Bool
n10_behind ended no_form = true
n10_behind ended reserved = false
n10_behind ended blank = false
n10_behind ended ending = ended
n10_behind ended (mapping u c d) = ended

-- 11: once-only key again
unfoldable pub n11 : Keys → Key → Bool
n11 h CodeSetName = h.name
n11 h CurMin = is_some h.min
n11 h CurMax = is_some h.max
n11 h ConvClass = is_some h.class
n11 h SubChar = is_some h.subchar
n11 h SubChar1 = is_some h.subchar1
n11 h State = false
n11 h Base = false
n11 h Other = false

-- 12: known key, malformed value; what 14 or 15 refuses is let through
unfoldable pub n12 : ReadValue → Bool
n12 v = by_value true false false (λ w l o. false) v

-- what must stand before CHARMAP: the required keys, and a row, which SBCS may be without
abbrev pub nothing_absent : Keys → ℕ → Bool
nothing_absent h rows =
    h.name
    and is_some h.min
    and is_some h.max
    and is_some h.class
    and is_some h.subchar
    and (is_sbcs h.class or leb 1 rows)

-- 13, at CHARMAP behind so many rows: required key or row absent
unfoldable pub n13 : Keys → ℕ → Bool
n13 h rows = not (nothing_absent h rows)

-- 14 of a row: `surrogates`, `initial` off row 0, or an entry with letter `s` or an end with a next row other than 0
unfoldable pub row_unbuilt : ℕ → ℕ → Bool → Bool
row_unbuilt rows w l = l or eqb w 2 or (eqb w 1 and ltb 0 rows)

-- 14 of a header line: class DBCS or EBCDIC_STATEFUL, icu:base, or such a row
unfoldable pub n14 : ℕ → ReadValue → Bool
n14 rows v = by_value false true false (λ w l o. row_unbuilt rows w l) v

-- 14 of a line from CHARMAP on: second CHARMAP, indicator 4, several code points or a `+` in a mapping
abbrev pub n14_behind : BodyLine → Bool
n14_behind no_form = false
n14_behind reserved = true
n14_behind blank = false
n14_behind ending = false
n14_behind (mapping u c d) = false

-- 15 of a row: an entry with a falling range or a next row over 7f, or one row more than T1 allows
unfoldable pub row_over : Limits → ℕ → Bool → Bool
row_over lim rows o = o or not (t1_rows lim (rows + 1))

unfoldable pub n15 : Limits → ℕ → ReadValue → Bool
n15 lim rows v = by_value false false false (λ w l o. row_over lim rows o) v

-- the rows at CHARMAP: SBCS without any has one row `0-ff`
unfoldable pub rows_at : Keys → List (List Cell) → List (List Cell)
rows_at h rows =
    if is_sbcs h.class then (if eqb (length rows) 0 then replicate 256 ends ∷ [] else rows) else rows

-- T2, T3, T4 and the order of mb_cur_min and mb_cur_max
abbrev pub keeps_states : Keys → List (List Cell) → Bool
keeps_states h rows =
    t1_order (min_of h) (max_of h)
    and t2 (length rows) (flat rows)
    and t3 (steps_on rows) (max_of h)
    and t4_sub (steps_on rows) (subchar_of h)
    and t4_sub1 (steps_on rows) h.subchar1

-- 16, at CHARMAP: one of them broken
unfoldable pub n16 : Keys → List (List Cell) → Bool
n16 h rows = not (keeps_states h rows)

-- 20, 21, 22, 23: the mapping breaks T6, T5, T7, T8. What came before it: the header, its rows, the lines with the last
-- one first
unfoldable pub n20 : Line → Bool
n20 l = not (t6 l)

unfoldable pub n21 : Keys → List (List Cell) → Line → Bool
n21 h rows l = not (t5 (steps_on rows) (min_of h) (max_of h) l)

unfoldable pub n22 : Line → Bool
n22 l = not (t7 l)

unfoldable pub n23 : Keys → Line → Bool
n23 h l = not (t8 h.subchar1 l)

-- 24, 25: T9 with an earlier line, bytes and code point
unfoldable pub n24 : List Line → Line → Bool
n24 ls l = any_of (λ x. shares_bytes x l) ls

unfoldable pub n25 : List Line → Line → Bool
n25 ls l = any_of (λ x. shares_point x l) ls

-- 26: one mapping more than T1 allows
unfoldable pub n26 : Limits → List Line → Bool
n26 lim ls = not (t1_lines lim (length ls + 1))

-- 27, behind the last line: END CHARMAP never came
abbrev pub n27 : Phase → Bool
n27 Header = true
n27 Mappings = true
n27 Ended = false

-- 28, at END CHARMAP: the lines break T10
unfoldable pub n28 : List Line → Bool
n28 ls = not (t10 ls)

-- a refusal, and whether it holds
pub record Cond : Type 0 where
  pub refusal : Refusal
  pub holds : Bool

abbrev pub cond : Refusal → Bool → Cond
cond r b = record { refusal = r; holds = b }

-- what the conditions at a line say: none holds, or the refusal of one that does
abbrev pub Verdict : Type 0
Verdict = Result ⊤ Refusal

-- the first condition that holds. Conditions are listed by rising number, so it is the lowest
unfoldable pub lowest : List Cond → Verdict
lowest [] = Ok tt
lowest (c ∷ cs) = let r = lowest cs in if c.holds then Err c.refusal else r

-- of the conditions at a line 16, 20 to 26 and 28 are about T1 to T10, the others about the grammar; of T1 the grammar
-- itself asks for a row (13) and allows no row beyond the last (15)
abbrev pub is_rule : Refusal → Bool
is_rule x = leb 16 (refusal_number x)

-- the first condition of the grammar that holds
unfoldable pub in_form : List Cond → Verdict
in_form [] = Ok tt
in_form (c ∷ cs) = let r = in_form cs in
    if is_rule c.refusal then r else if c.holds then Err c.refusal else r

-- a line of no form before CHARMAP, and a blank one
abbrev pub form_conditions : ReadLine → List Cond
form_conditions x = cond refusal.NoForm (n10 x) ∷ []

-- a header line behind so many rows
unfoldable pub key_conditions : Limits → Keys → ℕ → Key → ReadValue → List Cond
key_conditions lim h rows k v =
    cond refusal.KeyAgain (n11 h k)
    ∷ cond refusal.UnfitValue (n12 v)
    ∷ cond refusal.NotBuilt (n14 rows v)
    ∷ cond refusal.OutOfRange (n15 lim rows v)
    ∷ []

-- the line CHARMAP
unfoldable pub charmap_conditions : Keys → List (List Cell) → List Cond
charmap_conditions h rows =
    cond refusal.KeyAbsent (n13 h (length rows))
    ∷ cond refusal.StatesBroken (n16 h (rows_at h rows))
    ∷ []

-- a line from CHARMAP on, by its form
abbrev pub behind_conditions : Bool → BodyLine → List Cond
behind_conditions ended f =
    cond refusal.NoForm (n10_behind ended f)
    ∷ cond refusal.NotBuilt (n14_behind f)
    ∷ []

-- a mapping line
unfoldable pub mapping_conditions : Limits → Keys → List (List Cell) → List Line → Line → List Cond
mapping_conditions lim h rows ls l =
    cond refusal.NoScalar (n20 l)
    ∷ cond refusal.NoSuchCode (n21 h rows l)
    ∷ cond refusal.LeadingZero (n22 l)
    ∷ cond refusal.NoSubchar1 (n23 h l)
    ∷ cond refusal.BytesTaken (n24 ls l)
    ∷ cond refusal.PointTaken (n25 ls l)
    ∷ cond refusal.TooMany (n26 lim ls)
    ∷ []

-- the line END CHARMAP
abbrev pub end_conditions : List Line → List Cond
end_conditions ls = cond refusal.NotReadBack (n28 ls) ∷ []
