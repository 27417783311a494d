-- Looking up and inserting, over stored mappings.
use Rattle.std.specs.Prelude.{if◌then◌else◌, ℕ, ◌+◌, ◌-◌, ◌*◌, ◌^◌, ◌<◌, ◌≤◌, Bool, false}
use Rattle.std.specs.Prelude.{◌≡◌, List, map, ltb, eqb, length, take, get_or}
use Rattle.std.proofs.Math.Option.{none, some}
use Rattle.lists.specs.Pick.{◌and◌}
use Rattle.lists.specs.Order.{All, Rising, prefix_length, first_of, Pairs}
use Rattle.table.specs.Stored.{Stored, mk, point_in, extra_in, stored_is_read, stored_decides}
use Rattle.table.specs.Stored.{less, point_less, read_clash}
use Rattle.table.specs.Stored.{write_clash}
use Rattle.table.specs.Memory.{stored_list, stored_at, order_of, SlicesHold}
use Rattle.table.specs.declared.store.Spot.{Spot}
use Rattle.lists.specs.Tests.{any_of}

-- a stored mapping that reads a code of len bytes
unfoldable pub reads_code : ℕ → ℕ → Stored → Bool
reads_code bits len e = eqb e.bits bits and eqb (extra_in e.info + 1) len and stored_is_read e

-- a stored mapping that says what becomes of a code point
unfoldable pub writes_point : ℕ → Stored → Bool
writes_point point e = eqb (point_in e.info) point and stored_decides e

-- a place of the first n stored mappings, and f holds there
unfoldable pub is_at : ℕ → List ℕ → List ℕ → ℕ → Bool
is_at n codes infos at = ltb at n and ltb at (length codes) and ltb at (length infos)

unfoldable pub holds_at : (Stored → Bool) → ℕ → List ℕ → List ℕ → ℕ → Bool
holds_at f n codes infos at = is_at n codes infos at and f (stored_at codes infos at)

-- the first stored mapping that satisfies f is at this place, or there is none
abbrev pub FirstAt : (Stored → Bool) → ℕ → List ℕ → List ℕ → ℕ → Type 0
FirstAt f n codes infos at =
    first_of f (stored_list (take n codes) (take n infos))
    ≡ (if holds_at f n codes infos at then some (stored_at codes infos at) else none)

-- ## Where a search by halving ends
-- the key of the first order
abbrev pub stored_key : Stored → ℕ
stored_key e = e.bits * 4294967296 + e.info

-- the gap behind the last line: 2 ranks, more than any line has that is looked for
abbrev pub far : ℕ
far = 4194304

-- the line at the place has the key looked for plus the gap
abbrev pub KeyGap : (ℕ → ℕ) → ℕ → ℕ → ℕ → Type 0
KeyGap key sought at gap = key at ≡ sought + gap

-- of n lines, the one at the place has the gap; behind the last the gap is `far`
abbrev pub GapAt : (ℕ → ℕ → Type 0) → ℕ → ℕ → ℕ → Type 0
GapAt Has n at gap = (at < n → Has at gap) × (n ≤ at → gap ≡ far)

abbrev pub CodeGap : List ℕ → List ℕ → Stored → ℕ → ℕ → Type 0
CodeGap codes infos e = KeyGap (λ at. stored_key (stored_at codes infos at)) (stored_key e)

-- the code point of the line at a place of the second order; 2^21, more than any, where the index is out of range
abbrev pub point_seen : List ℕ → List ℕ → ℕ → ℕ
point_seen infos order at =
    let k = get_or order at 0 in
    if ltb k (length infos) then point_in (get_or infos k 0) else 2097152

abbrev pub PointGap : List ℕ → List ℕ → ℕ → ℕ → ℕ → Type 0
PointGap infos order point = KeyGap (point_seen infos order) point

-- the line at the place reads the code if and only if the gap is less than `far`; the gap is then its rank and code
-- point, and the code has 1 to 4 bytes
pub record GapTells (bits len n : ℕ) (codes infos : List ℕ) (at gap : ℕ) : Type 0 where
  pub told : holds_at (reads_code bits len) n codes infos at ≡ ltb gap far
  pub held : gap < far → stored_at codes infos at ≡ mk bits ((len - 1) * 16777216 + gap)
  pub few : gap < far → (1 ≤ len) × (len ≤ 4)

-- a place of the first n stored mappings is that of one that has the code point
pub record HasPoint (point n : ℕ) (codes infos : List ℕ) (at : ℕ) : Type 0 where
  pub in-codes : at < n → at < length codes
  pub in-infos : at < n → at < length infos
  pub its-point : at < n → point_in (get_or infos at 0) ≡ point

-- a power of two
abbrev pub Power : ℕ → Type 0
Power size = (j : ℕ) × (size ≡ 2 ^ j)

-- the largest power of two that is at most n
abbrev pub WindowOf : ℕ → ℕ → Type 0
WindowOf n size = Power size × (size ≤ n) × (n < size * 2)

-- after a look at a line with a key: the window begins at `next`, or ends at that line
abbrev pub after_look : ℕ → ℕ → Spot → ℕ → Spot
after_look key sought s next =
    if ltb key sought then record { at = next; gap = s.gap } else record { at = s.at; gap = key - sought }

-- what is told of each of n places is a key
abbrev pub Tells : ℕ → (ℕ → ℕ → Type 0) → (ℕ → ℕ) → Type 0
Tells n Told keys = (k r : ℕ) → k < n → Told k r → r ≡ keys k

-- the keys before the place are less than the one sought, those from it on are not
abbrev pub Parts : (ℕ → ℕ) → ℕ → ℕ → ℕ → Type 0
Parts keys sought n place =
    (place ≤ n) × ((at : ℕ) → at < n → (keys at < sought → at < place) × (sought ≤ keys at → place ≤ at))

-- where a search among n keys ends: the gap there, and the place that parts them, if one does
pub record Halved (keys : ℕ → ℕ) (sought n : ℕ) (s : Spot) : Type 0 where
  pub inside : s.at ≤ n
  pub ends : GapAt (KeyGap keys sought) n s.at s.gap
  pub parted : (place : ℕ) → Parts keys sought n place → s.at ≡ place

-- where a stored mapping belongs in either order
abbrev pub place_in : Stored → List Stored → ℕ
place_in e es = prefix_length (λ x. less x e) es

abbrev pub point_place_in : Stored → List Stored → ℕ
point_place_in e es = prefix_length (λ x. point_less x e) es

-- the stored mappings in the second order
abbrev pub picked : List ℕ → List ℕ → List ℕ → List Stored
picked bs is ord = map (stored_at bs is) ord

-- some stored line is read and shares the new one's bytes / is written and shares its code point
unfoldable pub read_taken : Stored → List Stored → Bool
read_taken e es = any_of (λ x. read_clash x e) es

unfoldable pub write_taken : Stored → List Stored → Bool
write_taken e es = any_of (λ x. write_clash x e) es

-- what insertion starts from: n rising stored mappings, their order, room for one more, and a mapping that is not
-- stored
pub record Ready (n : ℕ) (codes infos order : List ℕ) (e : Stored) : Type 0 where
  pub codes-room : n < length codes
  pub infos-room : n < length infos
  pub order-room : n < length order
  pub rising : Rising less (stored_list (take n codes) (take n infos))
  pub ordered-is : take n order ≡ order_of (stored_list (take n codes) (take n infos))
  pub fresh : All (λ x. x ≡ e → ⊥) (stored_list (take n codes) (take n infos))

-- two stored lines keep T9
abbrev pub Apart : Stored → Stored → Type 0
Apart a b = (read_clash a b ≡ false) × (write_clash a b ≡ false)

abbrev pub AllApart : List Stored → Type 0
AllApart l = Pairs Apart l

-- the mapping slices hold n stored mappings that rise and keep T9
pub record Kept (limit n : ℕ) (codes infos order : List ℕ) : Type 0 where
  pub es : List Stored
  pub count : length es ≡ n
  pub rising : Rising less es
  pub apart : AllApart es
  pub stored : SlicesHold limit es codes infos order
