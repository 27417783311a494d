-- What the four look-ups answer, by the place they looked at: the line behind the stored mapping there, or nothing.
-- code-line, code-nothing      for a code
-- point-line, point-nothing    for a code point
use Rattle.std.specs.Prelude.{Some, None}
use Prim.Native.Nat.{ℕ, ◌+◌, ◌≤◌}
use native.Mathlib.Omega.{arith}
use mathlib.Core.Path.{◌≡◌, refl, sym, ap, ◌∙◌, subst}
use mathlib.Core.Bool.{Bool, true, false}
use mathlib.Core.Option
use mathlib.Core.Option.{none, some}
use mathlib.Core.List.{List, map}
use lib.Dec.{leb, eqb}
use lib.ListN.{length, take}
use borrow.Author.Tests.{eqb-true, eqb-false, le-leb, lt-leb, leb-true, leb-false}
use Rattle.lists.specs.Pick.{pick}
use Rattle.lists.specs.Order.{All, In, Rising, first_of}
use Rattle.lists.proofs.Laws.{clash, ¬true⇒false, and_left, and_right}
use Rattle.lists.proofs.Cases.{pick_no}
use Rattle.lists.proofs.Choice.{and_comm}
use Rattle.lists.proofs.Order.{All-⇒, All-In⁺, first_of-none, In-map⁺}
use Rattle.lists.proofs.First.{first_of-map}
use Rattle.table.specs.Limits.{Limits}
use Rattle.table.specs.Codes.{bytes_of, unpacked}
use Rattle.table.specs.Meaning.{Line, is_read, decides_point, reader, writer}
use Rattle.table.specs.Stored.{Stored, point_in, rank_in, extra_in, indicator_in, line_in, padded, stored_ok, stored_is_read, stored_decides, less}
use Rattle.table.specs.Slices.{slices}
use Rattle.table.specs.Memory.{stored_list, stored_at, lines_in}
use Rattle.table.specs.loops.Search.{reads_code, writes_point, holds_at, FirstAt}
use Rattle.table.specs.Valid.{store_ok, valid}
use Rattle.table.specs.Lookup.{indicator_of, as_line, use_in, mapping_in, mappings_in, reader_of, CodeFound, PointFound}
use Rattle.table.specs.declared.states.Code.{Code}
use Rattle.table.specs.declared.valid.Record.{Record}
use Rattle.table.specs.declared.lookup.Use.TheVariants.{RoundTrip, Fallback, Substituted, ReverseFallback}
use Rattle.table.specs.declared.lookup.Mapping.{Mapping}
use Rattle.table.proofs.StoredLine.{ok-padded, padded-length}
use Rattle.table.proofs.StoreLaws.{ok-codes, ok-infos, store-rising, code-only, point-only}
use Rattle.table.proofs.Finding.{Reads, reads_code⇒Reads}
use Rattle.table.proofs.Places.{Inside, in-entries, holds_at_lem}
use Rattle.table.proofs.TestParts.{Tested, tested, lines-formed}
use Rattle.table.proofs.LookupLaws.{same_codes}
use Rattle.lists.proofs.Conjunctions.{and-shift}
use Rattle.lists.specs.Strings.{same}

-- a stored line as it is found is the line itself
use-line : (rank : ℕ) → indicator_of (use_in rank) ≡ indicator_in rank
use-line rank = go (eqb rank 0) (eqb rank 1) (eqb rank 2)
  where
    go : (x y z : Bool)
        → indicator_of (pick x RoundTrip (pick y ReverseFallback (pick z Fallback Substituted)))
        ≡ pick x 0 (pick y 3 (pick z 1 2))
    go true y z = refl
    go false true z = refl
    go false false true = refl
    go false false false = refl

mapping-line : (e : Stored) → as_line (mapping_in e) ≡ line_in e
unfolding line_in
mapping-line e =
    ap (λ (d : ℕ). record {
      point = point_in e.info;
      code = unpacked (extra_in e.info + 1) e.bits;
      indicator = d;
    }) (use-line (rank_in e.info))

-- which are read and which are written, by rank
read-rank : (r : ℕ) → pick (eqb (indicator_in r) 0) true (eqb (indicator_in r) 3) ≡ leb r 1
read-rank r = go (eqb r 0) refl (eqb r 1) refl (eqb r 2)
  where
    go : (x : Bool) → eqb r 0 ≡ x → (y : Bool) → eqb r 1 ≡ y → (z : Bool)
        → pick (eqb (pick x 0 (pick y 3 (pick z 1 2))) 0) true (eqb (pick x 0 (pick y 3 (pick z 1 2))) 3) ≡ leb r 1
    go true p y q z = let a = eqb-true r 0 p in sym (le-leb r 1 (omega arith))
    go false p true q z = let a = eqb-true r 1 q in sym (le-leb r 1 (omega arith))
    go false p false q true = let a = eqb-false r 0 p in let b = eqb-false r 1 q in sym (lt-leb r 1 (omega arith))
    go false p false q false = let a = eqb-false r 0 p in let b = eqb-false r 1 q in sym (lt-leb r 1 (omega arith))

write-rank : (r : ℕ)
    → pick (eqb (indicator_in r) 0) true (pick (eqb (indicator_in r) 1) true (eqb (indicator_in r) 2))
    ≡ pick (eqb r 1) false true
write-rank r = go (eqb r 0) refl (eqb r 1) refl (eqb r 2)
  where
    digit : Bool → Bool → Bool → ℕ
    digit x y z = pick x 0 (pick y 3 (pick z 1 2))

    go : (x : Bool) → eqb r 0 ≡ x → (y : Bool) → eqb r 1 ≡ y → (z : Bool)
        → pick (eqb (digit x y z) 0) true (pick (eqb (digit x y z) 1) true (eqb (digit x y z) 2)) ≡ pick y false true
    go true p true q z = absurd (let a = eqb-true r 0 p in let b = eqb-true r 1 q in omega arith)
    go true p false q z = refl
    go false p true q z = refl
    go false p false q true = refl
    go false p false q false = refl

module _ (e : Stored) where
  line_read : is_read (line_in e) ≡ stored_is_read e
  unfolding line_in
  line_read = read-rank (rank_in e.info)

  line-written : decides_point (line_in e) ≡ stored_decides e
  unfolding line_in
  line-written = write-rank (rank_in e.info)

  -- a stored mapping of the form reads a code where its line does
  reads-line : (c : Code) → stored_ok e ≡ true → padded c.len c.bits ≡ true
      → reads_code c.bits c.len e ≡ pick (is_read (line_in e)) (same (line_in e).code (bytes_of c)) false
  unfolding reads_code line_in
  reads-line c ok p =
      and-shift (stored_is_read e) (eqb e.bits c.bits) (eqb (extra_in e.info + 1) c.len)
      ∙ (λ i. pick (sym line_read i)
      (sym (same_codes (record { bits = e.bits; len = extra_in e.info + 1 }) c (ok-padded e ok) p) i) false)

  writes_line : (point : ℕ) → writes_point point e ≡ pick (decides_point (line_in e)) (eqb (line_in e).point point) false
  unfolding writes_point line_in
  writes_line point =
      and_comm (eqb (point_in e.info) point) (stored_decides e)
      ∙ ap (λ (t : Bool). pick t (eqb (point_in e.info) point) false) (sym line-written)

-- the table's reader and writer, by the stored mappings
module _ (es : List Stored) where
  reader-is : All (λ e. stored_ok e ≡ true) es
      → (c : Code)
      → reader_of c (map line_in es) ≡ Option.map line_in (first_of (reads_code c.bits c.len) es)
  reader-is oks c = go (padded c.len c.bits) refl
    where
      go : (t : Bool) → padded c.len c.bits ≡ t
          → pick t (reader (bytes_of c) (map line_in es)) none
          ≡ Option.map line_in (first_of (reads_code c.bits c.len) es)
      go true p =
          first_of-map line_in (reads_code c.bits c.len) (λ l. pick (is_read l) (same l.code (bytes_of c)) false) es
          (All-⇒ (λ e ok. reads-line e c ok p) es oks)
      go false p =
          ap (Option.map line_in) (sym (first_of-none (reads_code c.bits c.len) es
          (All-⇒ (λ e ok. ¬true⇒false (reads_code c.bits c.len e) (λ q.
          let w = reads_code⇒Reads c.bits c.len e q in
          clash ((λ i. padded (sym w.its-len i) (sym w.its-code i)) ∙ ok-padded e ok) p)) es oks)))

  writer-is : (point : ℕ) → writer point (map line_in es) ≡ Option.map line_in (first_of (writes_point point) es)
  writer-is point =
      first_of-map line_in (writes_point point) (λ l. pick (decides_point l) (eqb l.point point) false) es
      (All-In⁺ es (λ e i. writes_line e point))

-- nothing is no line
no-mapping : (A : Type 0) (m : Mapping) → None ≡ Some m → A
no-mapping A m e = absurd (let z : ◌≡◌ {A = ℕ} 0 1 = cc in omega arith)

module _ (rec : Record) (codes infos : List ℕ) where
  abbrev n : ℕ
  n = rec.mappings

  abbrev es : List Stored
  es = stored_list (take n codes) (take n infos)

  stored-in : (at : ℕ) → Inside n codes infos at → In (mapping_in (stored_at codes infos at)) (mappings_in rec codes infos)
  unfolding mappings_in
  stored-in at w = In-map⁺ mapping_in (stored_at codes infos at) es (in-entries n codes infos at w)

  module _ (lim : Limits) (states order : List ℕ) (ok : valid lim rec (slices states codes infos order) ≡ true) where
    passed : Tested lim rec (slices states codes infos order)
    passed = tested lim rec (slices states codes infos order) ok

    reader-held : (c : Code)
        → reader_of c (lines_in rec codes infos) ≡ Option.map line_in (first_of (reads_code c.bits c.len) es)
    unfolding lines_in
    reader-held = reader-is es (lines-formed lim rec (slices states codes infos order) passed)

  writer-held : (point : ℕ)
      → writer point (lines_in rec codes infos) ≡ Option.map line_in (first_of (writes_point point) es)
  unfolding lines_in
  writer-held = writer-is es

  -- ## For a code
  module _ (c : Code) (at : ℕ) where
    abbrev here : Stored
    here = stored_at codes infos at

    -- the line at a place reads it
    pub code-line : holds_at (reads_code c.bits c.len) n codes infos at ≡ true
        → CodeFound rec codes infos c (Some (mapping_in here))
    unfolding line_in
    code-line h =
        let w = holds_at_lem (reads_code c.bits c.len) n codes infos at h in
        let r = reads_code⇒Reads c.bits c.len here w.1 in
        record {
          on-valid = λ lim states order ok.
              ap some (mapping-line here)
              ∙ sym (reader-held lim states order ok c
              ∙ ap (Option.map line_in) (code-only lim.mappings n codes infos order
              (passed lim states order ok).store_ok c.bits c.len at h));
          on-any = λ m e. any_code r w.0 m e;
        }
      where
        any_code : Reads c.bits c.len here
            → Inside n codes infos at
            → (m : Mapping)
            → Some (mapping_in here) ≡ Some m
            → In m (mappings_in rec codes infos) × (is_read (as_line m) ≡ true) × (m.code ≡ c)
        any_code r w m e =
            let k : mapping_in here ≡ m = cc in
            let reads : is_read (as_line (mapping_in here)) ≡ true =
            ap is_read (mapping-line here) ∙ line_read here ∙ le-leb (rank_in here.info) 1 r.its-rank in
            let code : (mapping_in here).code ≡ c = (λ i. record { bits = r.its-code i; len = r.its-len i }) in (
              subst (λ (x : Mapping). In x (mappings_in rec codes infos)) k (stored-in at w),
              subst (λ (x : Mapping). is_read (as_line x) ≡ true) k reads,
              subst (λ (x : Mapping). x.code ≡ c) k code,
            )

    -- the one at the place that the search gives does not
    pub code-nothing : (Rising less es → n ≤ length codes → n ≤ length infos → c.len ≤ 4
        → FirstAt (reads_code c.bits c.len) n codes infos at)
        → holds_at (reads_code c.bits c.len) n codes infos at ≡ false → CodeFound rec codes infos c None
    code-nothing first h = record {
      on-valid = λ lim states order ok. sym (unread lim states order ok (leb c.len 4) refl);
      on-any = λ m e. no-mapping (In m (mappings_in rec codes infos) × (is_read (as_line m) ≡ true) × (m.code ≡ c)) m e;
    }
      where
        unread : (lim : Limits) (states order : List ℕ) → valid lim rec (slices states codes infos order) ≡ true
            → (t : Bool) → leb c.len 4 ≡ t → reader_of c (lines_in rec codes infos) ≡ none
        unread lim states order ok true p =
            let st = (passed lim states order ok).store_ok in
            let e =
            first (store-rising lim.mappings n codes infos order st)
            (ok-codes lim.mappings n codes infos order st) (ok-infos lim.mappings n codes infos order st)
            (leb-true c.len 4 p) in
            reader-held lim states order ok c
            ∙ ap (Option.map line_in) (e
            ∙ pick_no (holds_at (reads_code c.bits c.len) n codes infos at) (some here) none h)
        unread lim states order ok false p =
            pick_no (padded c.len c.bits) (reader (bytes_of c) (lines_in rec codes infos)) none
            (¬true⇒false (padded c.len c.bits)
            (λ q. let a = leb-false c.len 4 p in omega (arith, (padded-length c.len c.bits q).1)))

  -- ## For a code point
  module _ (order : List ℕ) (point at : ℕ) where
    abbrev there : Stored
    there = stored_at codes infos at

    -- the line at a place says what becomes of it
    pub point-line : holds_at (writes_point point) n codes infos at ≡ true
        → PointFound rec codes infos order point (Some (mapping_in there))
    point-line h =
        let w = holds_at_lem (writes_point point) n codes infos at h in
        record {
          on-valid = λ lim states ok.
              ap some (mapping-line there)
              ∙ sym (writer-held point ∙ ap (Option.map line_in)
              (point-only lim.mappings n codes infos order (passed lim states order ok).store_ok point at h));
          on-any = λ m e. any-point (sym (writes_line there point) ∙ w.1) w.0 m e;
        }
      where
        any-point : pick (decides_point (line_in there)) (eqb (line_in there).point point) false ≡ true
            → Inside n codes infos at
            → (m : Mapping) → Some (mapping_in there) ≡ Some m
            → In m (mappings_in rec codes infos) × (decides_point (as_line m) ≡ true) × (m.point ≡ point)
        any-point r w m e =
            let k : mapping_in there ≡ m = cc in
            let j : line_in there ≡ as_line m = sym (mapping-line there) ∙ ap as_line k in (
              subst (λ (x : Mapping). In x (mappings_in rec codes infos)) k (stored-in at w),
              subst (λ (x : Line). decides_point x ≡ true) j (and_left (decides_point (line_in there)) _ r),
              subst (λ (x : Line). x.point ≡ point) j
                  (eqb-true (line_in there).point point (and_right (decides_point (line_in there)) _ r)),
            )

    -- the one at the place that the search gives does not
    pub point-nothing : ((limit : ℕ) → store_ok limit n codes infos order ≡ true
        → FirstAt (writes_point point) n codes infos at)
        → holds_at (writes_point point) n codes infos at ≡ false → PointFound rec codes infos order point None
    point-nothing first h = record {
      on-valid = λ lim states ok.
          sym (writer-held point
          ∙ ap (Option.map line_in) (first lim.mappings (passed lim states order ok).store_ok
          ∙ pick_no (holds_at (writes_point point) n codes infos at) (some there) none h));
      on-any =
          λ m e. no-mapping (In m (mappings_in rec codes infos) × (decides_point (as_line m) ≡ true)
          × (m.point ≡ point)) m e;
    }
