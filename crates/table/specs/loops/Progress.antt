-- Between two lines of a text: what the lent memory holds of what was read. Only the loader's own functions speak of
-- it.
-- Contents: keys as the code's struct; a head, lines and memory that are proper; `Holding`; what stays; a step that was
-- taken.
use Rattle.std.specs.Prelude.{if◌then◌else◌, ℕ, ◌≤◌, ◌≡◌, true, false, List, length, take, drop, ltb}
use Rattle.std.specs.Prelude.{Result, Ok, Err, ⊤}
use Rattle.std.proofs.Math.Option.{Option, none, some}
use Rattle.lists.specs.Order.{All}
use Rattle.table.specs.Limits.{Limits, limits, needed}
use Rattle.table.specs.Cells.{Cell}
use Rattle.table.specs.Codes.{code_of, bytes_of}
use Rattle.table.specs.Meaning.{Line}
use Rattle.table.specs.Rules.{t6, t9}
use Rattle.table.specs.Stored.{Stored, padded}
use Rattle.table.specs.Slices.{Slices, slices, Lent}
use Rattle.table.specs.Memory.{sorted, stored_list, SlicesHold, numbers_of, sub1_of, sub1_in, ProperLine}
use Rattle.lists.specs.Place.{filled}
use Rattle.table.specs.Keys.{sbcs, mbcs, class_by, Keys, min_of, max_of, subchar_of, Class as ConvClass}
use Rattle.table.specs.Load.{LineStep, goes_on, stop}
use Rattle.table.specs.loops.Search.{Kept}
use Rattle.table.specs.declared.header.Head.{Head}
use Rattle.table.specs.declared.load.Phase.{Phase}
use Rattle.table.specs.declared.load.Phase.TheVariants.{Header, Mappings}
use Rattle.table.specs.declared.load.Loader.{Loader}
use Rattle.table.specs.declared.valid.Record.{Record}
use Rattle.table.specs.declared.load.Refusal.{Refusal}

-- the value x of a key for which the code keeps the number n: 0 where the key has not come
abbrev pub kept : {A : Type 0} → ℕ → A → Option A
kept n x = if ltb 0 n then some x else none

-- the keys that the code's struct holds
abbrev pub keys_in : Head → Keys
keys_in h =
    record {
      name = h.name;
      min = kept h.min h.min;
      max = kept h.max h.max;
      class = kept h.class (class_by h.class);
      subchar = kept h.sub.len (bytes_of h.sub);
      subchar1 = sub1_in h.sub1;
    }

-- and the struct that holds keys and a count of rows; nothing else holds them (proofs/KeyLaws.antt)
abbrev pub class_number : Option ConvClass → ℕ
class_number none = 0
class_number (some sbcs) = 1
class_number (some mbcs) = 2

abbrev pub head_of : Keys → ℕ → Head
head_of k n =
    record {
      name = k.name;
      min = min_of k;
      max = max_of k;
      class = class_number k.class;
      sub = code_of (subchar_of k);
      sub1 = sub1_of k.subchar1;
      rows = n;
    }

abbrev pub empty_head : Head
empty_head =
    record { name = false; min = 0; max = 0; class = 0; sub = record { bits = 0; len = 0 }; sub1 = 0; rows = 0 }

-- the struct with the count of these rows
abbrev pub head_at : Head → List (List Cell) → Head
head_at h rows =
    record {
      name = h.name;
      min = h.min;
      max = h.max;
      class = h.class;
      sub = h.sub;
      sub1 = h.sub1;
      rows = length rows;
    }

-- the record that the struct and a count of mappings give
abbrev pub record_in : Head → ℕ → Record
record_in h n = record { rows = h.rows; mappings = n; min = h.min; max = h.max; subchar = h.sub; subchar1 = h.sub1 }

-- the values a header can have given
pub record ProperHead (h : Head) : Type 0 where
  pub min-small : h.min ≤ 4
  pub max-small : h.max ≤ 4
  pub class-small : h.class ≤ 2
  pub sub-short : h.sub.len ≤ 4
  pub sub-none : h.sub.len ≡ 0 → h.sub.bits ≡ 0
  pub sub-padded : 1 ≤ h.sub.len → padded h.sub.len h.sub.bits ≡ true
  pub sub1-small : h.sub1 ≤ 256

-- a stored line is proper, of one to four bytes, and keeps T6
pub record GoodLine (l : Line) : Type 0 where
  pub proper : ProperLine l
  pub some_bytes : 1 ≤ length l.code
  pub few_bytes : length l.code ≤ 4
  pub scalar : t6 l ≡ true

-- the memory holds these rows and lines, zeros behind them
pub record Holding (lim : Limits) (h : Head) (n : ℕ) (rows : List (List Cell)) (ls : List Line)
    (m : Slices) : Type 0 where
  pub head-proper : ProperHead h
  pub rows-count : h.rows ≡ length rows
  pub rows_few : length rows ≤ lim.rows
  pub rows-full : All (λ r. length r ≡ 256) rows
  pub states-are : take (needed lim) m.states ≡ filled (needed lim) (numbers_of rows)
  pub lines-count : length ls ≡ n
  pub lines-good : All GoodLine ls
  pub lines-apart : t9 ls ≡ true
  pub stored : SlicesHold lim.mappings (sorted ls) m.codes m.infos m.order

-- the memory holds some rows and lines
pub record Held (lim : Limits) (h : Head) (n : ℕ) (m : Slices) : Type 0 where
  pub rows : List (List Cell)
  pub lines : List Line
  pub holding : Holding lim h n rows lines m

-- the numbers past the needed places are untouched
pub record Beyond (lim : Limits) (m m' : Slices) : Type 0 where
  pub states-rest : drop (needed lim) m'.states ≡ drop (needed lim) m.states
  pub codes-rest : drop lim.mappings m'.codes ≡ drop lim.mappings m.codes
  pub infos-rest : drop lim.mappings m'.infos ≡ drop lim.mappings m.infos
  pub order-rest : drop lim.mappings m'.order ≡ drop lim.mappings m.order

-- the slices that a loader reads into
abbrev pub slices_in : Loader → Slices
slices_in l = slices l.states.now l.codes.now l.infos.now l.order.now

-- the mappings that it holds, in the form that insertion needs
abbrev pub stored_in : Loader → List Stored
stored_in l = stored_list (take l.mappings l.codes.now) (take l.mappings l.infos.now)

abbrev pub KeptIn : Loader → Type 0
KeptIn l = Kept limits.mappings l.mappings l.codes.now l.infos.now l.order.now

-- the two are of the same slices, whatever these hold
abbrev pub SameSlices : Loader → Loader → Type 0
SameSlices a b =
    (b.states.ghost_name ≡ a.states.ghost_name)
    × (b.codes.ghost_name ≡ a.codes.ghost_name)
    × (b.infos.ghost_name ≡ a.infos.ghost_name)
    × (b.order.ghost_name ≡ a.order.ghost_name)
    × (length b.states.now ≡ length a.states.now)
    × (length b.codes.now ≡ length a.codes.now)
    × (length b.infos.now ≡ length a.infos.now)
    × (length b.order.now ≡ length a.order.now)

-- the loader answers, and it is left, as the step of the definition says: part, header, count of mappings and memory
abbrev pub StepTaken : Limits → LineStep → Result ⊤ Refusal → Phase → Head → ℕ → Slices → Type 0
StepTaken lim (stop x) r p h n m = r ≡ Err x
StepTaken lim (goes_on g) r p h n m =
    (r ≡ Ok tt) × (p ≡ g.phase) × (keys_in h ≡ g.head) × Holding lim h n g.rows g.lines m

abbrev pub Taken : LineStep → Result ⊤ Refusal → Loader → Type 0
Taken step r l = StepTaken limits step r l.phase l.head l.mappings (slices_in l)

-- a loader before CHARMAP, and between CHARMAP and END CHARMAP
pub record IsHeader (l : Loader) : Type 0 where
  pub phase : l.phase ≡ Header
  pub none-yet : l.mappings ≡ 0
  pub lent : Lent limits (slices_in l)
  pub held : Held limits l.head l.mappings (slices_in l)

pub record IsBody (l : Loader) : Type 0 where
  pub phase : l.phase ≡ Mappings
  pub lent : Lent limits (slices_in l)
  pub held : Held limits l.head l.mappings (slices_in l)
