-- The complete codes in byte order, the code that comes next, and how many lie between two positions (document 01, 'The
-- audit of codes'); and bytes as one number of 32 bits (`packed`).
use Rattle.std.specs.Prelude.{ℕ, zero, suc, ◌+◌, ◌*◌, ◌/◌, ◌%◌, ◌<◌, List, [], ◌∷◌, ◌++◌, map, length}
use Rattle.std.specs.Prelude.{Option, Some, None}
use Rattle.lists.specs.Strings.{after, up_to}
use Rattle.table.specs.States.{Rows, longest}
use Rattle.table.specs.declared.states.Step.{Step}
use Rattle.table.specs.declared.states.Step.TheVariants.{Illegal, Ends, Leads}
use Rattle.table.specs.declared.states.Code.{Code}

-- the codes that begin with the byte b; sub n gives the rests of codes from row n on
abbrev pub codes_on : (ℕ → List (List ℕ)) → ℕ → Step → List (List ℕ)
codes_on sub b Illegal = []
codes_on sub b (Ends e) = (b ∷ []) ∷ []
codes_on sub b (Leads n) = map (λ s. b ∷ s) (sub n)

-- the codes of a row that begin with one of the m bytes from b on
unfoldable pub scan : (ℕ → List (List ℕ)) → Rows → ℕ → ℕ → ℕ → List (List ℕ)
scan sub step row zero b = []
scan sub step row (suc m) b = codes_on sub b (step row b) ++ scan sub step row m (b + 1)

-- the codes of at most f bytes from a row on, in byte order
unfoldable pub codes_from : Rows → ℕ → ℕ → List (List ℕ)
codes_from step zero row = []
codes_from step (suc f) row = scan (codes_from step f) step row 256 0

-- all complete codes from the initial row on
abbrev pub all_codes : Rows → ℕ → List (List ℕ)
all_codes step row = codes_from step longest row

-- how many complete codes come after p, up to and including q
abbrev pub count_between : Rows → ℕ → List ℕ → List ℕ → ℕ
count_between step row p q = length (up_to q (after p (all_codes step row)))

-- 2^32: a number of 32 bits is below it
abbrev pub word32 : ℕ
word32 = 4294967296

-- 2^24: the unit of a code's first byte in its 32 bits
abbrev pub first_byte_unit : ℕ
first_byte_unit = 16777216

-- bytes as a number of 32 bits, the first on top
unfoldable pub packed : List ℕ → ℕ
packed [] = 0
packed (b ∷ s) = b * first_byte_unit + packed s / 256

abbrev pub code_of : List ℕ → Code
code_of s = record { bits = packed s; len = length s }

-- the n bytes that a number of 32 bits holds, the first on top
unfoldable pub unpacked : ℕ → ℕ → List ℕ
unpacked zero v = []
unpacked (suc n) v = v / first_byte_unit ∷ unpacked n (v % first_byte_unit * 256)

abbrev pub bytes_of : Code → List ℕ
bytes_of c = unpacked c.len c.bits

abbrev pub first_code : List (List ℕ) → Option Code
first_code [] = None
first_code (s ∷ l) = Some (code_of s)

-- the first complete code after p
abbrev pub next_of : Rows → ℕ → List ℕ → Option Code
next_of step row p = first_code (after p (all_codes step row))

-- every element is a byte
unfoldable pub AllByte : List ℕ → Type 0
AllByte [] = Unit {0}
AllByte (b ∷ s) = (b < 256) × AllByte s
