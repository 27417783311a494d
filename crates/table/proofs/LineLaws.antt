-- The rules of a stored line, by its numbers and in the order of the code.
-- t5-rank-4, t5-rank-other, t7-and-t8      T5, and T7 with T8, by rank, length and bytes
-- line-unformed, line-formed     the test of a line, in the order of the code
-- common-line                    the quick test of a common line: what passes keeps the rules (cited by docs/RULES.md)
use mathlib.Core.Path.{◌≡◌, refl, sym, ap, ◌∙◌, subst}
use mathlib.Core.Bool.{Bool, true, false}
use mathlib.Core.Option.{none, some}
use mathlib.Core.List.{List, [], ◌∷◌}
use Prim.Native.Nat.{ℕ, zero, suc, ◌+◌, ◌-◌, ◌/◌, ◌≤◌}
use native.Mathlib.Numerals.{add-one}
use native.Mathlib.Omega.{arith}
use lib.Dec.{leb, eqb}
use lib.ListN.{length, get_or}
use borrow.Author.Tests.{eqb-true, eqb-false, ne_eqb, le-leb, lt-leb}
use Rattle.lists.specs.Pick.{pick}
use Rattle.lists.proofs.Cases.{pick_yes}
use Rattle.lists.proofs.Choice.{pick-false-false, pick-true-false}
use Rattle.table.specs.States.{Rows, end_kind}
use Rattle.table.specs.Codes.{unpacked}
use Rattle.table.specs.Meaning.{Line, has_code}
use Rattle.table.specs.Rules.{t5, t5_kind, t6, t7, t8, t8_byte}
use Rattle.table.specs.Stored.{Stored, point_in, rank_in, extra_in, indicator_in, line_in, is_rank, stored_ok}
use Rattle.table.specs.Memory.{sub1_in}
use Rattle.table.specs.loops.Common.{CommonCode}
use Rattle.table.specs.Valid.{line_ok}
use Rattle.table.specs.declared.valid.Record.{Record}
use Rattle.table.proofs.Ranks.{rank-case}
use Rattle.table.proofs.Packing.{length-unpacked}
use Rattle.table.proofs.StoredLine.{ok-rank}
use Rattle.lists.proofs.Conjunctions.{and-shift}
use Rattle.lists.specs.Strings.{same}

-- the rules of a stored line by its numbers
module _ (e : Stored) where
  abbrev rank : ℕ
  rank = rank_in e.info

  abbrev extra : ℕ
  extra = extra_in e.info

  abbrev bytes : List ℕ
  bytes = unpacked (extra + 1) e.bits

  -- the line, if its rank were r
  abbrev ranked : ℕ → Line
  ranked r = record { point = point_in e.info; code = bytes; indicator = indicator_in r }

  -- T5
  module _ (step : Rows) (min max : ℕ) where
    pub t5-rank-4 : rank ≡ 4 → t5 step min max (line_in e) ≡ true
    unfolding line_in
    t5-rank-4 h = ap (λ (r : ℕ). t5 step min max (ranked r)) h

    pub t5-rank-other : is_rank rank ≡ true → (rank ≡ 4 → ⊥)
        → t5 step min max (line_in e)
        ≡ pick (leb min (extra + 1))
        (pick (leb (extra + 1) max) (t5_kind (point_in e.info) (end_kind step 0 bytes)) false) false
    unfolding line_in
    t5-rank-other h d = pick_yes (has_code (ranked rank)) _ true (coded rank h d) ∙ rw (length-unpacked (extra + 1) e.bits)
      where
        coded : (r : ℕ) → is_rank r ≡ true → (r ≡ 4 → ⊥) → has_code (ranked r) ≡ true
        coded =
            rank-case (λ r. (r ≡ 4 → ⊥) → has_code (ranked r) ≡ true) (λ d. refl) (λ d. refl) (λ d. refl)
            (λ d. absurd (d refl))

  -- T7 and T8
  first_byte : get_or bytes 0 0 ≡ e.bits / 16777216
  unfolding unpacked
  first_byte = rw (add-one extra)

  one_byte : leb (extra + 1) 1 ≡ eqb extra 0
  one_byte = go (eqb extra 0) refl
    where
      go : (t : Bool) → eqb extra 0 ≡ t → leb (extra + 1) 1 ≡ t
      go true p = let q = eqb-true extra 0 p in le-leb (extra + 1) 1 (omega arith)
      go false p = let q = eqb-false extra 0 p in lt-leb (extra + 1) 1 (omega arith)

  -- T7 of a line whose code is written
  abbrev lead : Bool
  lead = pick (eqb extra 0) true (pick (eqb (e.bits / 16777216) 0) false true)

  lead_is : pick (leb (length bytes) 1) true (pick (eqb (get_or bytes 0 0) 0) false true) ≡ lead
  lead_is = rw (length-unpacked (extra + 1) e.bits, one_byte, first_byte)

  same-one : (n v b : ℕ) → same (unpacked (n + 1) v) (b ∷ []) ≡ pick (eqb n 0) (eqb (v / 16777216) b) false
  unfolding same unpacked
  same-one zero v b = pick-true-false (eqb (v / 16777216) b)
  same-one (suc n) v b = rw (add-one (suc n), ne_eqb (suc n) 0 (λ e. omega arith)) (pick-false-false (eqb (v / 16777216) b))

  t8-byte : (sub1 : ℕ)
      → t8_byte (sub1_in sub1) bytes
      ≡ pick (eqb sub1 0) false (pick (eqb extra 0) (eqb (e.bits / 16777216) (sub1 - 1)) false)
  t8-byte sub1 = go (eqb sub1 0)
    where
      go : (t : Bool)
          → t8_byte (pick t none (some (sub1 - 1))) bytes
          ≡ pick t false (pick (eqb extra 0) (eqb (e.bits / 16777216) (sub1 - 1)) false)
      go true = refl
      go false = same-one extra e.bits (sub1 - 1)

  pub t7-and-t8 : (sub1 : ℕ) → stored_ok e ≡ true → pick (t7 (line_in e)) (t8 (sub1_in sub1) (line_in e)) false
      ≡ pick (eqb rank 4) (pick (eqb sub1 0) false (pick (eqb extra 0) (eqb (e.bits / 16777216) (sub1 - 1)) false))
      (pick (eqb rank 1) true lead)
  unfolding line_in
  t7-and-t8 sub1 h =
      rank-case
      (λ r. pick (t7 (ranked r)) (t8 (sub1_in sub1) (ranked r)) false
      ≡ pick (eqb r 4) (pick (eqb sub1 0) false (pick (eqb extra 0) (eqb (e.bits / 16777216) (sub1 - 1)) false))
      (pick (eqb r 1) true lead))
      (pick-true-false _ ∙ lead_is) refl (pick-true-false _ ∙ lead_is) (t8-byte sub1) rank (ok-rank e h)

-- a stored line by its tests in the order of the code
module _ (step : Rows) (rec : Record) (e : Stored) where
  pub line-unformed : stored_ok e ≡ false → line_ok step rec e ≡ false
  unfolding line_ok
  line-unformed h = rw h

  pub line-formed : stored_ok e ≡ true → line_ok step rec e
      ≡ pick (t6 (record { point = point_in e.info; code = []; indicator = 0 }))
      (pick (pick (t7 (line_in e)) (t8 (sub1_in rec.subchar1) (line_in e)) false)
      (t5 step rec.min rec.max (line_in e)) false) false
  unfolding line_ok line_in
  line-formed h =
      ap (λ (t : Bool). pick t (pick (t5 step rec.min rec.max (line_in e))
      (pick (t6 (line_in e)) (pick (t7 (line_in e)) (t8 (sub1_in rec.subchar1) (line_in e)) false) false) false) false) h
      ∙ sym (and-shift (t5 step rec.min rec.max (line_in e)) (t6 (line_in e))
      (pick (t7 (line_in e)) (t8 (sub1_in rec.subchar1) (line_in e)) false))

-- the first test of a line: what passes keeps the rules
first-kept : (rank extra b : ℕ)
    → (b ≡ 0 → extra + 1 ≡ 1)
    → pick (eqb rank 1) true (pick (eqb extra 0) true (pick (eqb b 0) false true)) ≡ true
first-kept rank extra b h = go (eqb rank 1) (eqb extra 0) refl (eqb b 0) refl
  where
    go : (x y : Bool)
        → eqb extra 0 ≡ y
        → (z : Bool)
        → eqb b 0 ≡ z
        → pick x true (pick y true (pick z false true)) ≡ true
    go true y p z q = refl
    go false true p z q = refl
    go false false p true q = absurd (eqb-false extra 0 p (omega (arith, h (eqb-true b 0 q))))
    go false false p false q = refl

module _ (step : Rows) (rec : Record) (e : Stored)
    (common : CommonCode step rec.min rec.max (extra_in e.info + 1) e.bits)
    (written : rank_in e.info ≤ 2) where
  common-formed : stored_ok e ≡ true
  unfolding stored_ok
  common-formed = rw (le-leb (rank_in e.info) 2 written, common.its-form)

  no-two : rank_in e.info ≡ 4 → ⊥
  no-two q = omega (arith, written)

  common-t5 : point_in e.info ≤ 0xffff → t5 step rec.min rec.max (line_in e) ≡ true
  common-t5 p =
      t5-rank-other e step rec.min rec.max (ok-rank e common-formed) no-two
      ∙ rw (
        le-leb rec.min (extra_in e.info + 1) common.at_least,
        le-leb (extra_in e.info + 1) rec.max common.at_most,
      ) (common.its-end (point_in e.info) p)

  common-rest : pick (t7 (line_in e)) (t8 (sub1_in rec.subchar1) (line_in e)) false ≡ true
  common-rest =
      t7-and-t8 e rec.subchar1 common-formed
      ∙ rw (ne_eqb (rank_in e.info) 4 no-two)
      (first-kept (rank_in e.info) (extra_in e.info) (e.bits / 16777216) common.its-first)

  common-kept : point_in e.info ≤ 0xffff
      → t6 (record { point = point_in e.info; code = []; indicator = 0 }) ≡ true
      → line_ok step rec e ≡ true
  common-kept p t = line-formed step rec e common-formed ∙ rw (t, common-rest, common-t5 p)

pub common-line : (step : Rows) (rec : Record) (e : Stored) (extra : ℕ)
    → extra_in e.info ≡ extra
    → CommonCode step rec.min rec.max (extra + 1) e.bits
    → rank_in e.info ≤ 2
    → point_in e.info ≤ 0xffff
    → t6 (record { point = point_in e.info; code = []; indicator = 0 }) ≡ true
    → line_ok step rec e ≡ true
common-line step rec e extra same common written p t =
    common-kept step rec e (subst (λ (n : ℕ). CommonCode step rec.min rec.max (n + 1) e.bits)
    (sym same) common) written p t
