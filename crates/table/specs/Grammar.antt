-- WHICH TEXTS ARE TABLES: document 01's 'Table text', 'State rows' and 'Mapping' as sentences. There is no reader in
-- it: no place in a line, no order of tests.
-- A form `X .. s r` says that s is an X and then r; one with s alone, that s is an X to its end. Blanks stand before a
-- token (`Token`) and at the end.
-- Contents: lines, tokens, lines of words, mapping lines, header lines, known keys and values, state rows, a text,
-- numbers 10, 12, 14, 15. The loader takes just these, with these values. Each form: proofs/LinesRead, SeriesRead,
-- MappingRead, HeaderRead, ValueRead, RowRead, RowWritten, FormsRead; what rows say, and which entries 14 and 15 name:
-- RowSays, RowEntries; whole texts: TextRead (`accepted-exactly`); the numbers: NumbersRead.
-- Cases: proofs/TextCases.antt (table K, and K with every liberty)
use Rattle.std.specs.Prelude.{if◌then◌else◌, ℕ, ◌+◌, ◌*◌, ◌<◌, ◌≤◌, ◌-◌, ◌≡◌, ◌⊎◌, Bool}
use Rattle.std.specs.Prelude.{true, false, List, [], ◌∷◌, ◌++◌, map, reverse, length}
use Rattle.std.proofs.Math.Option.{Option, none, some}
use Rattle.lists.specs.Order.{All, In}
use Rattle.lists.specs.Ascii.{ascii, byte}
use Rattle.table.specs.Cells.{Cell, illegal}
use Rattle.table.specs.Meaning.{Line, Table}
use Rattle.lists.specs.Strings.{same}
use Rattle.table.specs.Row.{meaning, row_of}
use Rattle.table.specs.declared.load.Phase.{Phase}
use Rattle.table.specs.declared.load.Phase.TheVariants.{Header, Mappings, Ended}
use Rattle.table.specs.Row.{Entry}
use Rattle.table.specs.declared.value.Key.{Key}
use Rattle.table.specs.declared.value.Key.TheVariants.{CodeSetName, CurMin, CurMax, ConvClass, SubChar}
use Rattle.table.specs.declared.value.Key.TheVariants.{SubChar1, State, Base, Other}

-- ## Lines: they end in LF or CR LF, and the last may lack an end

-- the last byte is no CR
abbrev pub EndsPlain : List ℕ → Type 0
EndsPlain [] = Unit {0}
EndsPlain (b ∷ []) = b ≡ byte "\r" → ⊥
EndsPlain (b ∷ d ∷ l) = EndsPlain (d ∷ l)

-- s is the line l with its end, and then t
abbrev pub WithEnd : List ℕ → List ℕ → List ℕ → Type 0
WithEnd l s t =
    ((s ≡ l ++ (ascii "\n" ++ t)) × EndsPlain l)
    ⊎ ((s ≡ l ++ (ascii "\r\n" ++ t))
    ⊎ ((s ≡ l) × (t ≡ []) × (1 ≤ length l)))

-- the lines of a text: without LF in them, each with its end
abbrev pub Lines : List (List ℕ) → List ℕ → Type 0
Lines [] s = s ≡ []
Lines (l ∷ ls) s = (t : List ℕ) × All (λ b. b ≡ byte "\n" → ⊥) l × WithEnd l s t × Lines ls t

-- ## Tokens: blanks and tabs may stand around them, and not inside

abbrev pub Blanks : List ℕ → Type 0
Blanks w = All (λ b. (b ≡ byte " ") ⊎ (b ≡ byte "\t")) w

-- the token w, maybe with blanks before it
pub record Token (w s r : List ℕ) : Type 0 where
  pub gap : List ℕ
  pub blanks : Blanks gap
  pub whole : s ≡ gap ++ (w ++ r)

-- h is the hexadecimal digit of value v: `0` to `9`, `A` to `F` or `a` to `f`
abbrev pub Digit : ℕ → ℕ → Type 0
Digit v h =
    ((v ≤ 9) × (h ≡ byte "0" + v))
    ⊎ ((10 ≤ v) × (v ≤ 15) × ((h ≡ byte "A" + (v - 10)) ⊎ (h ≡ byte "a" + (v - 10))))

-- u is the number n followed by the digits ds
abbrev pub Hex : ℕ → List ℕ → ℕ → Type 0
Hex n [] u = u ≡ n
Hex n (h ∷ ds) u = (v : ℕ) × Digit v h × Hex (n * 16 + v) ds u

-- at least one digit and at most k, of value u
abbrev pub Digits : ℕ → ℕ → List ℕ → Type 0
Digits k u ds = (1 ≤ length ds) × (length ds ≤ k) × Hex 0 ds u

-- `<U` 1 to 6 digits `>`
abbrev pub Point : ℕ → List ℕ → List ℕ → Type 0
Point u s r = (ds : List ℕ) × Digits 6 u ds × Token (ascii "<U" ++ (ds ++ ascii ">")) s r

-- `\xhh`
abbrev pub Byte : ℕ → List ℕ → List ℕ → Type 0
Byte v s r = (high : ℕ) × (low : ℕ) × Hex 0 (high ∷ low ∷ []) v × Token (ascii "\\x" ++ (high ∷ low ∷ [])) s r

-- the number of a state row: one or two digits
abbrev pub Number : ℕ → List ℕ → List ℕ → Type 0
Number v s r = (ds : List ℕ) × Digits 2 v ds × Token ds s r

-- the line ends here, or a comment starts, in which any byte may stand
abbrev pub Closes : List ℕ → Type 0
Closes s = Blanks s ⊎ ((text : List ℕ) × Token (ascii "#") s text)

-- ## Lines of words, and blank and comment lines

abbrev pub BlankLine : List ℕ → Type 0
BlankLine s = Closes s

abbrev pub CharmapLine : List ℕ → Type 0
CharmapLine s = (m : List ℕ) × Token (ascii "CHARMAP") s m × Closes m

-- between the two words a blank or tab, or more
abbrev pub EndLine : List ℕ → Type 0
EndLine s = (b : ℕ) × (m : List ℕ) × Token (ascii "END" ++ (b ∷ [])) s m × Blanks (b ∷ []) × CharmapLine m

-- ## Mapping lines

-- further tokens X of the values vs; plus: a `+` stands before one of them
abbrev pub More : (ℕ → List ℕ → List ℕ → Type 0) → List ℕ → Bool → List ℕ → List ℕ → Type 0
More X [] plus s r = (plus ≡ false) × (s ≡ r)
More X (v ∷ vs) plus s r =
    ((m : List ℕ) × X v s m × More X vs plus m r)
    ⊎ ((k : List ℕ) × (m : List ℕ) × (later : Bool) × (plus ≡ true)
    × Token (ascii "+") s k × X v k m × More X vs later m r)

-- one token X or more
abbrev pub Series : (ℕ → List ℕ → List ℕ → Type 0) → List ℕ → Bool → List ℕ → List ℕ → Type 0
Series X [] plus s r = ⊥
Series X (v ∷ vs) plus s r = (m : List ℕ) × X v s m × More X vs plus m r

-- `|` and a digit 0 to 4; no indicator reads as `|0`
abbrev pub Indicator : ℕ → List ℕ → List ℕ → Type 0
Indicator d s r = ((d ≤ 4) × Token (ascii "|" ++ ((byte "0" + d) ∷ [])) s r) ⊎ ((d ≡ 0) × (s ≡ r))

-- code points us, bytes c, an indicator d; joined, plus: whether a `+` stands among the code points, among the bytes
pub record AnyMapping (us c : List ℕ) (joined plus : Bool) (d : ℕ) (s : List ℕ) : Type 0 where
  pub behind-points : List ℕ
  pub behind-bytes : List ℕ
  pub behind-all : List ℕ
  pub points : Series Point us joined s behind-points
  pub bytes : Series Byte c plus behind-points behind-bytes
  pub indicator : Indicator d behind-bytes behind-all
  pub closed : Closes behind-all

-- a mapping: one code point, no `+`, an indicator 0 to 3
abbrev pub MappingLine : Line → List ℕ → Type 0
MappingLine l s = (l.indicator ≤ 3) × AnyMapping (l.point ∷ []) l.code false false l.indicator s

-- what 14 names in a mapping: several code points (only between them may a `+` stand there), a `+` between bytes,
-- indicator 4
abbrev pub UnbuiltMapping : List ℕ → Type 0
UnbuiltMapping s =
    (us : List ℕ) × (c : List ℕ) × (joined : Bool) × (plus : Bool) × (d : ℕ) × AnyMapping us c joined plus d s
    × ((2 ≤ length us) ⊎ ((plus ≡ true) ⊎ (d ≡ 4)))

-- ## Header lines: `<key> value`

-- a byte of a key: 21 to 7E without `<`, `>`, `#`
pub record KeyByte (b : ℕ) : Type 0 where
  pub from : 0x21 ≤ b
  pub to : b < 0x7f
  pub no-open : b ≡ byte "<" → ⊥
  pub no-close : b ≡ byte ">" → ⊥
  pub no-hash : b ≡ byte "#" → ⊥

-- a byte that may stand outside quotes: none from 80 up, no CR, no `#`; `"` opens quotes
pub record Outside (b : ℕ) : Type 0 where
  pub no-quote : b ≡ byte "\"" → ⊥
  pub no-hash : b ≡ byte "#" → ⊥
  pub no-cr : b ≡ byte "\r" → ⊥
  pub low : b < 128

-- v is what stands before the comment r or the line's end, its first byte inside quotes or not; an open quote ends with
-- its line
abbrev pub Content : Bool → List ℕ → List ℕ → Type 0
Content true [] r = r ≡ []
Content false [] r = (r ≡ []) ⊎ ((text : List ℕ) × (r ≡ ascii "#" ++ text))
Content true (b ∷ v) r = ((b ≡ byte "\"") × Content false v r) ⊎ ((b ≡ byte "\"" → ⊥) × Content true v r)
Content false (b ∷ v) r = ((b ≡ byte "\"") × Content true v r) ⊎ (Outside b × Content false v r)

-- a key and what follows it
pub record Pair : Type 0 where
  pub key : List ℕ
  pub value : List ℕ

pub record KeyLine (p : Pair) (s : List ℕ) : Type 0 where
  pub tail : List ℕ
  pub bytes : All KeyByte p.key
  pub some : 1 ≤ length p.key
  pub opens : Token (ascii "<" ++ (p.key ++ ascii ">")) s (p.value ++ tail)
  pub content : Content false p.value tail

-- ## Known keys and their values

abbrev pub key_text : Key → List ℕ
key_text CodeSetName = ascii "code_set_name"
key_text CurMin = ascii "mb_cur_min"
key_text CurMax = ascii "mb_cur_max"
key_text ConvClass = ascii "uconv_class"
key_text SubChar = ascii "subchar"
key_text SubChar1 = ascii "subchar1"
key_text State = ascii "icu:state"
key_text Base = ascii "icu:base"
key_text Other = []

-- w in quotes; an open quote ends with its line
abbrev pub Quoted : List ℕ → List ℕ → Type 0
Quoted w v =
    All (λ b. b ≡ byte "\"" → ⊥) w
    × (((m : List ℕ) × Token (ascii "\"" ++ (w ++ ascii "\"")) v m × Blanks m) ⊎ Token (ascii "\"" ++ w) v [])

-- code_set_name: quoted, not empty
abbrev pub NameValue : List ℕ → Type 0
NameValue v = (w : List ℕ) × (1 ≤ length w) × Quoted w v

-- mb_cur_min, mb_cur_max: a digit 1 to 4
abbrev pub SizeValue : ℕ → List ℕ → Type 0
SizeValue d v = (1 ≤ d) × (d ≤ 4) × ((m : List ℕ) × Token ((byte "0" + d) ∷ []) v m × Blanks m)

-- uconv_class: quoted, one of these; the last two are under 14
abbrev pub classes : List (List ℕ)
classes = ascii "SBCS" ∷ ascii "MBCS" ∷ ascii "DBCS" ∷ ascii "EBCDIC_STATEFUL" ∷ []

-- bytes as `\xhh`, one or more
abbrev pub BytesValue : List ℕ → List ℕ → Type 0
BytesValue c v = (m : List ℕ) × Series Byte c false v m × Blanks m

-- subchar: 1 to 4 bytes
abbrev pub SubcharValue : List ℕ → List ℕ → Type 0
SubcharValue c v = (length c ≤ 4) × BytesValue c v

-- ## State rows

-- a sign and a number
abbrev pub Signed : List ℕ → ℕ → List ℕ → List ℕ → Type 0
Signed w v s r = (m : List ℕ) × Token w s m × Number v m r

-- `- number`, or the same byte
abbrev pub To : ℕ → ℕ → List ℕ → List ℕ → Type 0
To lo hi s r = Signed (ascii "-") hi s r ⊎ ((hi ≡ lo) × (s ≡ r))

-- `: number`, or no next row (256)
abbrev pub Next : ℕ → List ℕ → List ℕ → Type 0
Next n s r = Signed (ascii ":") n s r ⊎ ((n ≡ 256) × (s ≡ r))

-- a letter: 2 `p`, 3 `u`, 4 `i`, 5 `s`; 1 for none
abbrev pub Letter : ℕ → List ℕ → List ℕ → Type 0
Letter k s r =
    ((k ≡ 2) × Token (ascii "p") s r) ⊎ (((k ≡ 3) × Token (ascii "u") s r)
    ⊎ (((k ≡ 4) × Token (ascii "i") s r) ⊎ (((k ≡ 5) × Token (ascii "s") s r) ⊎ ((k ≡ 1) × (s ≡ r)))))

-- `.` and a letter or nothing; 0 for no point
abbrev pub Kind : ℕ → List ℕ → List ℕ → Type 0
Kind k s r = ((m : List ℕ) × Token (ascii ".") s m × Letter k m r) ⊎ ((k ≡ 0) × (s ≡ r))

-- `number [- number] [: number] [. [letter]]`
pub record EntryText (e : Entry) (s r : List ℕ) : Type 0 where
  pub behind-lo : List ℕ
  pub behind-hi : List ℕ
  pub behind-next : List ℕ
  pub lo : Number e.lo s behind-lo
  pub hi : To e.lo e.hi behind-lo behind-hi
  pub next : Next e.next behind-hi behind-next
  pub kind : Kind e.kind behind-next r

-- further entries, each after a comma
abbrev pub MoreEntries : List Entry → List ℕ → Type 0
MoreEntries [] s = Blanks s
MoreEntries (e ∷ es) s = (m : List ℕ) × (r : List ℕ) × Token (ascii ",") s m × EntryText e m r × MoreEntries es r

-- one entry or more
abbrev pub Entries : List Entry → List ℕ → Type 0
Entries [] s = ⊥
Entries (e ∷ es) s = (r : List ℕ) × EntryText e s r × MoreEntries es r

-- a word, a comma and entries
abbrev pub Opened : List ℕ → List Entry → List ℕ → Type 0
Opened w es s = (m : List ℕ) × (r : List ℕ) × Token w s m × Token (ascii ",") m r × Entries es r

-- a list of entries, maybe empty; or 1 `initial`, 2 `surrogates` before entries
abbrev pub RowValue : ℕ → List Entry → List ℕ → Type 0
RowValue k es v =
    ((k ≡ 0) × (((es ≡ []) × Blanks v) ⊎ Entries es v))
    ⊎ (((k ≡ 1) × Opened (ascii "initial") es v) ⊎ ((k ≡ 2) × Opened (ascii "surrogates") es v))

-- e names the byte b
abbrev pub Names : Entry → ℕ → Type 0
Names e b = (e.lo ≤ b) × (b ≤ e.hi)

-- v is what entries say of the byte b: the last one that names it decides (`meaning`); if none does, it is w
abbrev pub SaysElse : Cell → List Entry → ℕ → Cell → Type 0
SaysElse w es b v =
    (All (λ e. Names e b → ⊥) es × (v ≡ w))
    ⊎ ((before : List Entry) × (e : Entry) × (after : List Entry)
    × (es ≡ before ++ (e ∷ after)) × Names e b × All (λ x. Names x b → ⊥) after × (v ≡ meaning e))

-- a byte not named is illegal
abbrev pub RowSays : List Entry → ℕ → Cell → Type 0
RowSays es b v = SaysElse illegal es b v

-- 14 of an entry: letter `s`, or an end with a next row other than 0
abbrev pub UnbuiltEntry : Entry → Type 0
UnbuiltEntry e = (e.kind ≡ 5) ⊎ ((e.kind ≡ 0 → ⊥) × (e.next ≡ 256 → ⊥) × (e.next ≡ 0 → ⊥))

-- 15 of an entry: a falling range, or a next row over 7f
abbrev pub OverEntry : Entry → Type 0
OverEntry e = (e.hi < e.lo) ⊎ ((e.next ≡ 256 → ⊥) × (0x7f < e.next))

-- row n of a text: `initial` may open row 0, and 14 and 15 name none of its entries
pub record StateRow (n : ℕ) (es : List Entry) (v : List ℕ) : Type 0 where
  pub word : ℕ
  pub form : RowValue word es v
  pub opening : (word ≡ 0) ⊎ ((word ≡ 1) × (n ≡ 0))
  pub built : All (λ e. UnbuiltEntry e → ⊥) es
  pub ranged : All (λ e. OverEntry e → ⊥) es

abbrev pub StateRows : ℕ → List (List Entry) → List (List ℕ) → Type 0
StateRows n [] [] = Unit {0}
StateRows n [] (v ∷ vs) = ⊥
StateRows n (es ∷ ess) [] = ⊥
StateRows n (es ∷ ess) (v ∷ vs) = StateRow n es v × StateRows (n + 1) ess vs

-- ## A text

-- the values that a key is given, in order
unfoldable pub values_of : Key → List Pair → List (List ℕ)
values_of k [] = []
values_of k (p ∷ ps) = let r = values_of k ps in if same p.key (key_text k) then p.value ∷ r else r

-- a key that is there once, with such a value
abbrev pub Once : Key → (List ℕ → Type 0) → List Pair → Type 0
Once k P ps = (v : List ℕ) × (values_of k ps ≡ v ∷ []) × P v

-- subchar1 is optional: one byte
abbrev pub Perhaps : Option ℕ → List Pair → Type 0
Perhaps none ps = values_of SubChar1 ps ≡ []
Perhaps (some b) ps = Once SubChar1 (BytesValue (b ∷ [])) ps

-- `0-ff`
abbrev pub every_byte : Entry
every_byte = record { lo = 0; hi = 255; next = 256; kind = 0 }

-- the rows of a table, by its class: one for each state line; SBCS without state lines has one row `0-ff`
abbrev pub RowsAre : List ℕ → List (List Entry) → List (List Cell) → Type 0
RowsAre class ess rows =
    ((1 ≤ length ess) × (rows ≡ map row_of ess))
    ⊎ ((ess ≡ []) × (class ≡ ascii "SBCS") × (rows ≡ row_of (every_byte ∷ []) ∷ []))

-- what a header says: required keys once each, class SBCS or MBCS, subchar1 or not, rows;
-- icu:base does not stand there, and keys that are not named here are ignored
pub record HeaderSays (ps : List Pair) (t : Table) : Type 0 where
  pub class : List ℕ
  pub entries : List (List Entry)
  pub name : Once CodeSetName NameValue ps
  pub min : Once CurMin (SizeValue t.min) ps
  pub max : Once CurMax (SizeValue t.max) ps
  pub quoted : Once ConvClass (Quoted class) ps
  pub built : (class ≡ ascii "SBCS") ⊎ (class ≡ ascii "MBCS")
  pub subchar : Once SubChar (SubcharValue t.subchar) ps
  pub subchar1 : Perhaps t.subchar1 ps
  pub no-base : values_of Base ps ≡ []
  pub states : StateRows 0 entries (values_of State ps)
  pub rows : RowsAre class entries t.rows

-- lines that are an X of each of these, in this order, with blank and comment lines anywhere
module _ {A : Type 0} (X : A → List ℕ → Type 0) where
  abbrev pub Listed : List A → List (List ℕ) → Type 0
  Listed xs [] = xs ≡ []
  Listed xs (s ∷ ss) =
      (BlankLine s × Listed xs ss)
      ⊎ ((x : A) × (rest : List A) × (xs ≡ x ∷ rest) × X x s × Listed rest ss)

-- a text of the grammar, and the table that it writes: header, CHARMAP, mappings, END CHARMAP, and nothing else behind
-- it. A table's lines stand with the last one first
pub record TableText (text : List ℕ) (t : Table) : Type 0 where
  pub pairs : List Pair
  pub header : List (List ℕ)
  pub charmap : List ℕ
  pub body : List (List ℕ)
  pub ending : List ℕ
  pub rest : List (List ℕ)
  pub lines : Lines (header ++ (charmap ∷ (body ++ (ending ∷ rest)))) text
  pub keys : Listed KeyLine pairs header
  pub charmap-line : CharmapLine charmap
  pub mappings : Listed MappingLine (reverse t.lines) body
  pub end_line : EndLine ending
  pub nothing-else : All BlankLine rest
  pub says : HeaderSays pairs t

-- ## The numbers that the grammar decides, at a line s in its part of the text; n rows stand before it

-- 10: no form that may stand there, nor one that 14 names
abbrev pub N10 : Phase → List ℕ → Type 0
N10 Header s = (BlankLine s → ⊥) × (CharmapLine s → ⊥) × ((p : Pair) → KeyLine p s → ⊥)
N10 Mappings s =
    (BlankLine s → ⊥) × (CharmapLine s → ⊥) × (EndLine s → ⊥)
    × ((us c : List ℕ) (joined plus : Bool) (d : ℕ) → AnyMapping us c joined plus d s → ⊥)
N10 Ended s = (BlankLine s → ⊥) × (CharmapLine s → ⊥)

-- a header line whose key and value satisfy P
abbrev pub Keyed : (Pair → Type 0) → Phase → List ℕ → Type 0
Keyed P Header s = (p : Pair) × KeyLine p s × P p
Keyed P Mappings s = ⊥
Keyed P Ended s = ⊥

-- the form of a key's value; what 14 and 15 name has it
abbrev pub Fit : Key → List ℕ → Type 0
Fit CodeSetName v = NameValue v
Fit CurMin v = (d : ℕ) × SizeValue d v
Fit CurMax v = (d : ℕ) × SizeValue d v
Fit ConvClass v = (w : List ℕ) × Quoted w v × In w classes
Fit SubChar v = (c : List ℕ) × SubcharValue c v
Fit SubChar1 v = (b : ℕ) × BytesValue (b ∷ []) v
Fit State v = (k : ℕ) × (es : List Entry) × RowValue k es v
Fit Base v = Unit {0}
Fit Other v = Unit {0}

-- 12: a known key, and a value that has not its form
abbrev pub N12 : Pair → Type 0
N12 p = (k : Key) × (p.key ≡ key_text k) × (Fit k p.value → ⊥)

-- 14 of a row: `surrogates`, `initial` off row 0, such an entry
abbrev pub UnbuiltRow : ℕ → List ℕ → Type 0
UnbuiltRow n v =
    (k : ℕ) × (es : List Entry) × RowValue k es v
    × ((k ≡ 2) ⊎ (((k ≡ 1) × (1 ≤ n)) ⊎ ((e : Entry) × In e es × UnbuiltEntry e)))

-- 14 of a header line: icu:base, class DBCS or EBCDIC_STATEFUL, such a row
abbrev pub UnbuiltPair : ℕ → Pair → Type 0
UnbuiltPair n p =
    (p.key ≡ key_text Base)
    ⊎ (((p.key ≡ key_text ConvClass) × (Quoted (ascii "DBCS") p.value ⊎ Quoted (ascii "EBCDIC_STATEFUL") p.value))
    ⊎ ((p.key ≡ key_text State) × UnbuiltRow n p.value))

-- 14: such a line, a second CHARMAP, such a mapping
abbrev pub N14 : Phase → ℕ → List ℕ → Type 0
N14 Header n s = Keyed (UnbuiltPair n) Header s
N14 Mappings n s = CharmapLine s ⊎ UnbuiltMapping s
N14 Ended n s = CharmapLine s

-- 15: a row with such an entry, or one row more than the limit
abbrev pub N15 : ℕ → ℕ → Pair → Type 0
N15 limit n p =
    (p.key ≡ key_text State)
    × ((k : ℕ) × (es : List Entry) × RowValue k es p.value
    × (((e : Entry) × In e es × OverEntry e) ⊎ (limit ≤ n)))
