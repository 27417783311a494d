-- What a look-up's answer says of the table in memory that passes the test behind 60.
use Rattle.std.specs.Prelude.{Option, Some, None}
use Prim.Native.Nat.{ℕ, ◌≤◌}
use mathlib.Core.Path.{◌≡◌, refl, sym, ap, ◌∙◌, subst}
use mathlib.Core.Bool.{true, false}
use mathlib.Core.Option.{none}
use mathlib.Core.List.{List}
use lib.Dec.{eqb}
use lib.ListN.{length, take}
use borrow.Author.Tests.{eqb-true, eq-eqb}
use Rattle.lists.specs.Pick.{pick}
use Rattle.lists.proofs.Laws.{and_yes, and_left, and_right}
use Rattle.lists.proofs.Cases.{pick_yes}
use Rattle.lists.proofs.Choice.{⇔⇒≡}
use Rattle.lists.proofs.Order.{All-In⁻, In-map⁻}
use Rattle.table.specs.Limits.{Limits, limits, needed}
use Rattle.table.specs.States.{step_at}
use Rattle.table.specs.Codes.{packed, unpacked, code_of, bytes_of, AllByte}
use Rattle.table.specs.Meaning.{reader, writer}
use Rattle.table.specs.Stored.{padded}
use Rattle.table.specs.Slices.{Slices}
use Rattle.table.specs.Memory.{stored_list, lines_in, table_in}
use Rattle.table.specs.Valid.{valid}
use Rattle.table.specs.Lookup.{line_found, mapping_in, mappings_in, CodeFound, PointFound}
use Rattle.table.specs.Held.{IsPadded}
use Rattle.table.specs.declared.states.Code.{Code}
use Rattle.table.specs.declared.valid.Record.{Record}
use Rattle.table.specs.declared.lookup.Mapping.{Mapping}
use Rattle.table.proofs.Packing.{length-unpacked, unpacked-packed, pack-unpack, packed-padded}
use Rattle.table.proofs.StoredLine.{ok-padded}
use Rattle.lists.proofs.Strings.{same⇒≡, same_refl}
use Rattle.table.proofs.TestParts.{tested, LineKept, Tested⇒LineKept}
use Rattle.table.proofs.TableParts.{table-lines}
use Rattle.lists.specs.Strings.{same}

-- two codes of the form have the same bytes where their numbers agree
pub same_codes : (c d : Code) → padded c.len c.bits ≡ true → padded d.len d.bits ≡ true
    → same (bytes_of c) (bytes_of d) ≡ pick (eqb c.bits d.bits) (eqb c.len d.len) false
same_codes c d p q = ⇔⇒≡ (same (bytes_of c) (bytes_of d)) (pick (eqb c.bits d.bits) (eqb c.len d.len) false) there back
  where
    there : same (bytes_of c) (bytes_of d) ≡ true → pick (eqb c.bits d.bits) (eqb c.len d.len) false ≡ true
    there h =
        let e = same⇒≡ (bytes_of c) (bytes_of d) h in
        and_yes (eqb c.bits d.bits) _
        (eq-eqb c.bits d.bits (sym (pack-unpack c.len c.bits p) ∙ ap packed e ∙ pack-unpack d.len d.bits q))
        (eq-eqb c.len d.len (sym (length-unpacked c.len c.bits) ∙ ap (λ (s : List ℕ). length s) e ∙ length-unpacked d.len d.bits))

    back : pick (eqb c.bits d.bits) (eqb c.len d.len) false ≡ true → same (bytes_of c) (bytes_of d) ≡ true
    back h =
        let b = eqb-true c.bits d.bits (and_left (eqb c.bits d.bits) _ h) in
        let n = eqb-true c.len d.len (and_right (eqb c.bits d.bits) _ h) in
        subst (λ (s : List ℕ). same (bytes_of c) s ≡ true) (λ i. unpacked (n i) (b i)) (same_refl (bytes_of c))

module _ (lim : Limits) (rec : Record) (lent : Slices) (ok : valid lim rec lent ≡ true) where
  module _ (code : Code) (r : Option Mapping) (f : CodeFound rec lent.codes lent.infos code r) where
    -- the table's line that reads the code
    pub code_reads : padded code.len code.bits ≡ true → reader (bytes_of code) (table_in rec lent).lines ≡ line_found r
    code_reads p =
        ap (reader (bytes_of code)) (table-lines rec lent)
        ∙ sym (f.on-valid lim lent.states lent.order ok ∙ pick_yes (padded code.len code.bits) (reader (bytes_of code) (lines_in rec lent.codes lent.infos)) none p)

  -- the same for a code by its bytes
  pub bytes_read : (c : List ℕ) → AllByte c → 1 ≤ length c → length c ≤ 4 → (r : Option Mapping) → CodeFound rec lent.codes lent.infos (code_of c) r
      → reader c (table_in rec lent).lines ≡ line_found r
  bytes_read c b lo hi r f =
      ap (λ (s : List ℕ). reader s (table_in rec lent).lines) (sym (unpacked-packed c b hi)) ∙ code_reads (code_of c) r f (packed-padded c b lo hi)

  module _ (point : ℕ) (r : Option Mapping) (f : PointFound rec lent.codes lent.infos lent.order point r) where
    -- the table's line that says what becomes of the code point
    pub point-writes : writer point (table_in rec lent).lines ≡ line_found r
    point-writes = ap (writer point) (table-lines rec lent) ∙ sym (f.on-valid lim lent.states ok)

    -- the code of the line has zeros in its unused bits
    pub point-padded : (m : Mapping) → r ≡ Some m → padded m.code.len m.code.bits ≡ true
    unfolding mappings_in
    point-padded m e =
        let es = stored_list (take rec.mappings lent.codes) (take rec.mappings lent.infos) in
        let s = In-map⁻ mapping_in m es (f.on-any m e).0 in
        let kept = All-In⁻ (LineKept (step_at (take (needed lim) lent.states)) rec) s.0 es (Tested⇒LineKept lim rec lent (tested lim rec lent ok)) s.1.0 in
        subst (λ (x : Mapping). padded x.code.len x.code.bits ≡ true) (sym s.1.1) (ok-padded s.0 kept.formed)

-- the same of what was found
pub found-padded : (rec : Record) (lent : Slices) → valid limits rec lent ≡ true → (point : ℕ) (r : Option Mapping) → PointFound rec lent.codes lent.infos lent.order point r → IsPadded r
found-padded rec lent ok point (Some m) f = point-padded limits rec lent ok point (Some m) f m refl
found-padded rec lent ok point None f = tt
