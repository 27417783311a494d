-- UTF-8 (document 01, 'The two pipes': RFC 3629), over the length: a code point is a lead byte and k trail bytes of six
-- bits each.
-- Contents: stop_number; scalar values; what a lead byte says; one sequence decoded (`decode_one`); a code point
-- encoded (`encode_of`), and put into an output slice. Which sequences these are, row by row of RFC 3629's table:
-- WellFormed.antt.
-- Cases: proofs/Vectors.antt
use Rattle.std.specs.Prelude.{if◌then◌else◌, ℕ, zero, suc, ◌+◌, ◌-◌, ◌*◌, ◌%◌, ◌/◌, ◌^◌}
use Rattle.std.specs.Prelude.{◌≤◌, ◌<◌, List, [], ◌∷◌, Bool, false, ltb, eqb, length}
use Rattle.std.specs.Prelude.{Option, Some, None, Result, Ok, Err}
use Rattle.lists.specs.Pick.{◌or◌}
use Rattle.lists.specs.Between.{between}
use Rattle.lists.specs.Place.{fits, placed}
use Rattle.utf.specs.declared.utf8.Stop.{Stop}
use Rattle.utf.specs.declared.utf8.Stop.TheVariants as stop
use Rattle.utf.specs.declared.utf8.Sequence.{Sequence}
use Rattle.utf.specs.declared.utf8.Sequence.TheVariants as sequence
use Rattle.utf.specs.declared.utf8.Lead.{Lead}
use Rattle.utf.specs.declared.utf8.PutError.{PutError}
use Rattle.utf.specs.declared.utf8.PutError.TheVariants.{NoRoom, NotScalar}

-- document 01's number for each stop
abbrev pub stop_number : Stop → ℕ
stop_number stop.CutShort = 51
stop_number (stop.Illegal n) = 52
stop_number stop.Unassigned = 53

-- a scalar value: a code point, at most 10FFFF, that is no surrogate
pub record Scalar (c : ℕ) : Type 0 where
  pub below : c < 0x110000
  pub plain : (0xd800 ≤ c) × (c < 0xe000) → ⊥

-- the same as a test
unfoldable pub is_scalar : ℕ → Bool
is_scalar c = ltb c 0xd800 or (if ltb c 0xe000 then false else ltb c 0x110000)

-- what marks a lead byte before k trail bytes
abbrev pub lead_mark : ℕ → ℕ
lead_mark zero = 0
lead_mark (suc zero) = 0xc0
lead_mark (suc (suc zero)) = 0xe0
lead_mark (suc (suc (suc k))) = 0xf0

-- a lead byte that says: k trail bytes follow, the first of them from lo to hi; v are the lead's own bits
abbrev pub leads : ℕ → ℕ → ℕ → ℕ → Option Lead
leads k lo hi v = Some (record { trails = k; lo = lo; hi = hi; top = v })

-- what a lead byte says, if it is legal
abbrev pub lead_of : ℕ → Option Lead
lead_of b =
    if ltb b 0x80 then leads 0 0x80 0xbf (b - lead_mark 0) else
    if ltb b 0xc2 then None else
    if ltb b 0xe0 then leads 1 0x80 0xbf (b - lead_mark 1) else
    if ltb b 0xf0
    then leads 2 (if eqb b 0xe0 then 0xa0 else 0x80) (if eqb b 0xed then 0x9f else 0xbf) (b - lead_mark 2)
    else
    if ltb b 0xf5
    then leads 3 (if eqb b 0xf0 then 0x90 else 0x80) (if eqb b 0xf4 then 0x8f else 0xbf) (b - lead_mark 3)
    else None

-- k trail bytes, the first of them from lo to hi, after n bytes that gave v
abbrev pub trails_of : ℕ → ℕ → ℕ → ℕ → ℕ → List ℕ → Sequence
trails_of zero lo hi v n s = sequence.Scalar v n
trails_of (suc k) lo hi v n [] = sequence.Stopped stop.CutShort
trails_of (suc k) lo hi v n (x ∷ s) =
    if between lo hi x then trails_of k 0x80 0xbf (v * 64 + x % 64) (n + 1) s else
    sequence.Stopped (stop.Illegal (n + 1))

-- what follows a lead byte
abbrev pub after_lead : Option Lead → List ℕ → Sequence
after_lead (Some l) s = trails_of l.trails l.lo l.hi l.top 1 s
after_lead None s = sequence.Stopped (stop.Illegal 1)

-- the sequence at the front of a list of bytes
unfoldable pub decode_one : List ℕ → Sequence
decode_one [] = sequence.Stopped stop.CutShort
decode_one (b ∷ s) = after_lead (lead_of b) s

-- the trail byte at the front of s after n bytes, its six bits put under v
abbrev pub trail_in : ℕ → ℕ → ℕ → ℕ → List ℕ → Result (ℕ × ℕ) Stop
trail_in lo hi v n [] = Err stop.CutShort
trail_in lo hi v n (x ∷ s) = if between lo hi x then Ok (v * 64 + x % 64, n + 1) else Err (stop.Illegal (n + 1))

-- a scalar value and the count of its bytes, or a stop, as a sequence
abbrev pub sequence_of : Result (ℕ × ℕ) Stop → Sequence
sequence_of (Ok r) = sequence.Scalar r.0 r.1
sequence_of (Err w) = sequence.Stopped w

-- how many trail bytes a code point takes
abbrev pub trail_count : ℕ → ℕ
trail_count c = if ltb c 0x80 then 0 else if ltb c 0x800 then 1 else if ltb c 0x10000 then 2 else 3

-- the six bits above the k lowest groups of six, as a trail byte
abbrev pub trail_byte : ℕ → ℕ → ℕ
trail_byte c k = 0x80 + c / 2 ^ (6 * k) % 64

-- all that stands above the k lowest groups of six, as a lead byte
abbrev pub lead_byte : ℕ → ℕ → ℕ
lead_byte c k = lead_mark k + c / 2 ^ (6 * k)

-- the k lowest groups as trail bytes, the highest first
abbrev pub trail_bytes : ℕ → ℕ → List ℕ
trail_bytes c zero = []
trail_bytes c (suc k) = trail_byte c k ∷ trail_bytes c k

-- a code point's bytes
unfoldable pub encode_of : ℕ → List ℕ
encode_of c = lead_byte c (trail_count c) ∷ trail_bytes c (trail_count c)

-- the answer of putting new into old from `at` on if it fits; a conversion gives NoRoom the number 50
abbrev pub put_answer : List ℕ → ℕ → List ℕ → Result ℕ PutError
put_answer old at new = if fits old at new then Ok (length new) else Err NoRoom

-- old after new is put into it from `at` on if it fits
abbrev pub put_into : List ℕ → ℕ → List ℕ → List ℕ
put_into old at new = if fits old at new then placed old at new else old

-- the answer of encoding c into old from `at` on, whatever a code point's bytes are (`encode`)
unfoldable pub encode_answer : (ℕ → List ℕ) → ℕ → List ℕ → ℕ → Result ℕ PutError
encode_answer encode c old at = if is_scalar c then put_answer old at (encode c) else Err NotScalar

-- old after encoding c into it from `at` on
unfoldable pub encode_into : (ℕ → List ℕ) → ℕ → List ℕ → ℕ → List ℕ
encode_into encode c old at = if is_scalar c then put_into old at (encode c) else old
