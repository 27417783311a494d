-- T1 to T9 (document 01, 'What every table keeps') and T10 (document 02, request 5), one definition each, over rows and
-- lines alone. `Keeps` is a table that keeps them all.
use Rattle.std.specs.Prelude.{if◌then◌else◌, ℕ, ◌≡◌, Bool, true, false, List, [], ◌∷◌, length, get_or, ltb, leb, eqb}
use Rattle.std.specs.Prelude.{Option as Optional, Some, None}
use Rattle.std.proofs.Math.Option.{Option, none, some}
use Rattle.lists.specs.Pick.{◌and◌, ◌or◌, ◌implies◌}
use Rattle.table.specs.Limits.{Limits}
use Rattle.table.specs.States.{Rows, end_kind, is_code, within, leads_to}
use Rattle.table.specs.Meaning.{Line, Table, flat, steps_of, is_read, decides_point, has_code, writes_code}
use Rattle.table.specs.Meaning.{is_substituted, only_writes, reader}
use Rattle.lists.specs.Options.{is_some}
use Rattle.lists.specs.Strings.{same}
use Rattle.lists.specs.Tests.{all_of, any_of}
use Rattle.table.specs.Cells.{Cell, cell_step}
use Rattle.table.specs.declared.states.EndKind.{EndKind}
use Rattle.table.specs.declared.states.EndKind.TheVariants.{Assigned, AnyPoint, Unassigned}

-- T1: at least one row, no more rows and mappings than the limits, mb_cur_min no larger than mb_cur_max, both 1 to 4
abbrev pub t1_rows : Limits → ℕ → Bool
t1_rows lim n = leb 1 n and leb n lim.rows

abbrev pub t1_lines : Limits → ℕ → Bool
t1_lines lim n = leb n lim.mappings

abbrev pub t1_order : ℕ → ℕ → Bool
t1_order min max = leb min max

abbrev pub t1_sizes : ℕ → ℕ → Bool
t1_sizes min max = leb 1 min and t1_order min max and leb max 4

-- T2: a row led to exists (n rows there are) and is not row 0
abbrev pub t2_row : ℕ → ℕ → Bool
t2_row n m = leb 1 m and ltb m n

abbrev pub t2 : ℕ → List Cell → Bool
t2 n cells = all_of (λ c. leads_to (t2_row n) (cell_step c)) cells

-- T3: no way from row 0 leads on more than mb_cur_max minus 1 times
abbrev pub t3 : Rows → ℕ → Bool
t3 step max = within step max 0

-- T4: subchar is a complete code; subchar1, if given, is one of one byte
abbrev pub t4_sub : Rows → List ℕ → Bool
t4_sub step c = is_code step 0 c

abbrev pub t4_sub1 : Rows → Option ℕ → Bool
t4_sub1 step none = true
t4_sub1 step (some b) = is_code step 0 (b ∷ [])

-- T5: a `|0`, `|1` or `|3` line has a complete code, not ended by `u`, of mb_cur_min to mb_cur_max bytes; above U+FFFF
-- it needs `p`
abbrev pub t5_kind : ℕ → Optional EndKind → Bool
t5_kind point (Some AnyPoint) = true
t5_kind point (Some Assigned) = leb point 0xffff
t5_kind point (Some Unassigned) = false
t5_kind point None = false

abbrev pub t5 : Rows → ℕ → ℕ → Line → Bool
t5 step min max l =
    has_code l
    implies (leb min (length l.code)
    and leb (length l.code) max
    and t5_kind l.point (end_kind step 0 l.code))

-- T6: code points are at most U+10FFFF and no surrogate
abbrev pub t6 : Line → Bool
t6 l = ltb l.point 0xd800 or (if ltb l.point 0xe000 then false else leb l.point 0x10ffff)

-- T7: a code of two or more bytes that begins 00 is not in a `|0` or `|1` line
abbrev pub t7 : Line → Bool
t7 l =
    writes_code l implies (leb (length l.code) 1 or (if eqb (get_or l.code 0 0) 0 then false else true))

-- T8: a `|2` line has exactly the subchar1 byte
abbrev pub t8_byte : Option ℕ → List ℕ → Bool
t8_byte none c = false
t8_byte (some b) c = same c (b ∷ [])

abbrev pub t8 : Option ℕ → Line → Bool
t8 sub1 l = is_substituted l implies t8_byte sub1 l.code

-- T9: no two lines of `|0` and `|3` share bytes
abbrev pub shares_bytes : Line → Line → Bool
shares_bytes a b = is_read a and is_read b and same a.code b.code

-- T9: no two lines of `|0`, `|1` and `|2` share a code point
abbrev pub shares_point : Line → Line → Bool
shares_point a b = decides_point a and decides_point b and eqb a.point b.point

unfoldable pub t9 : List Line → Bool
t9 [] = true
t9 (l ∷ ls) =
    let r = t9 ls in
    if any_of (λ x. shares_bytes x l) ls then false else if any_of (λ x. shares_point x l) ls then false else r

-- T10: the code of a `|1` line is read by a `|0` or `|3` line
unfoldable pub t10 : List Line → Bool
t10 ls = all_of (λ l. only_writes l implies is_some (reader l.code ls)) ls

-- T1 to T9, which are asked line by line: a table that keeps them still does with its last line left out
pub record KeepsSoFar (lim : Limits) (t : Table) : Type 0 where
  pub rule1-rows : t1_rows lim (length t.rows) ≡ true
  pub rule1-lines : t1_lines lim (length t.lines) ≡ true
  pub rule1-sizes : t1_sizes t.min t.max ≡ true
  pub rule2 : t2 (length t.rows) (flat t.rows) ≡ true
  pub rule3 : t3 (steps_of t) t.max ≡ true
  pub rule4-sub : t4_sub (steps_of t) t.subchar ≡ true
  pub rule4-sub1 : t4_sub1 (steps_of t) t.subchar1 ≡ true
  pub rule5 : all_of (t5 (steps_of t) t.min t.max) t.lines ≡ true
  pub rule6 : all_of t6 t.lines ≡ true
  pub rule7 : all_of t7 t.lines ≡ true
  pub rule8 : all_of (t8 t.subchar1) t.lines ≡ true
  pub rule9 : t9 t.lines ≡ true

-- a table that keeps them all; only of all lines together can T10 be asked
pub record Keeps (lim : Limits) (t : Table) : Type 0 where
  pub so_far : KeepsSoFar lim t
  pub rule10 : t10 t.lines ≡ true
