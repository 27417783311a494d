-- What a header says, and what reading it has given: the same, both ways, and one table for one header.
-- in_order_lem        the lines so far in the text's order       header-said      what was read up to CHARMAP is what the header says
-- key-asked       no condition holds at a line of it         nothing-absent   nor at CHARMAP
-- says-one        one header says one table
use Rattle.table.specs.declared.value.Class.TheVariants.{Sbcs, Mbcs}
use Rattle.table.specs.declared.states.Code.{Code}
use Rattle.table.specs.Codes.{code_of}
use Rattle.std.specs.Prelude.{Some}
use Rattle.table.specs.Header.{ReadValue}
use Prim.Native.Nat.{ℕ, suc, ◌+◌, ◌<◌, ◌≤◌}
use mathlib.Core.Path.{◌≡◌, refl, sym, ap, ◌∙◌, subst}
use mathlib.Core.Logic.{◌⊎◌, inl, inr}
use mathlib.Core.Bool.{Bool, true, false, not}
use mathlib.Core.Option.{Option, none, some}
use mathlib.Core.List.{List, [], ◌∷◌, ◌++◌, map, reverse, reverse_aux, reverse_aux-eq}
use native.Mathlib.Omega.{arith}
use lib.ListN.{length, replicate, length-append, length-reverse_aux}
use lib.Dec.{eqb, leb}
use borrow.Author.Tests.{lt-leb, eqb-true, eqb-false, leb-true, le-leb, not-false}
use Rattle.lists.specs.Pick.{pick}
use Rattle.lists.specs.Ascii.{ascii}
use Rattle.table.specs.Limits.{Limits}
use Rattle.table.specs.Cells.{Cell, ends}
use Rattle.table.specs.Codes.{packed}
use Rattle.table.specs.Meaning.{Line, Table}
use Rattle.table.specs.Keys.{sbcs, mbcs, Keys, is_sbcs, min_of, max_of, subchar_of, Class as ConvClasses}
use Rattle.table.specs.Row.{row_of, overwritten, meaning}
use Rattle.table.specs.Header.{class_name, value_of}
use Rattle.table.specs.Numbers.{n11, n12, n13, n14, n15, row_unbuilt, rows_at, nothing_absent}
use Rattle.table.specs.Grammar.{Pair, key_text, NameValue, SizeValue, Quoted, BytesValue, SubcharValue, StateRow, StateRows, values_of, Once, Perhaps, every_byte, RowsAre, HeaderSays}
use Rattle.lists.proofs.Strings.{same_refl}
use Rattle.table.proofs.Packing.{pack-one-way}
use Rattle.table.proofs.Judged.{table_with}
use Rattle.table.proofs.ValueRead.{name-reads, min-reads, max-reads, class-reads, sub-reads, sub1-reads, BytesValue⇒AllByte}
use Rattle.table.proofs.RowRead.{row_reads}
use Rattle.table.proofs.RowEntries.{none-unbuilt, none_over}
use Rattle.table.proofs.KeysHeld.{pair, KeyMeans, OnceGiven, Slot, flag, given1, ClassOf, Subchar1Of, Slots, RowsHeld, HeaderKept}
use Rattle.lists.specs.Strings.{same}
use Rattle.lists.specs.Options.{is_some}
use Rattle.lists.specs.Place.{fill_range}
use Rattle.lists.proofs.Laws.{and_yes, and_left, and_right}
use Rattle.lists.proofs.Choice.{pick-true-true}
use Rattle.table.proofs.OneMore.{rows_over}
use Rattle.table.specs.Row.{Entry}
use Rattle.table.specs.declared.value.Key.{Key}
use Rattle.table.specs.declared.value.Key.TheVariants.{CodeSetName, CurMin, CurMax, ConvClass, SubChar, SubChar1, State, Base, Other}
use Rattle.table.specs.declared.value.Value.TheVariants.{Min, Max, Class, Sub, Sub1, Row}

-- ## The lines of a header, the last one first, and in the text's order

values-reverse : (k : Key) (ps qs : List Pair) → values_of k (reverse_aux ps qs) ≡ reverse_aux (values_of k ps) (values_of k qs)
unfolding values_of
values-reverse k [] qs = refl
values-reverse k (p ∷ ps) qs = values-reverse k ps (p ∷ qs) ∙ by_key_lem (same p.key (key_text k))
  where
    by_key_lem : (x : Bool) → reverse_aux (values_of k ps) (pick x (p.value ∷ values_of k qs) (values_of k qs)) ≡ reverse_aux (pick x (p.value ∷ values_of k ps) (values_of k ps)) (values_of k qs)
    by_key_lem true = refl
    by_key_lem false = refl

none-reversed : (k : Key) (ps : List Pair) → values_of k ps ≡ [] → values_of k (reverse ps) ≡ []
unfolding values_of
none-reversed k ps e = values-reverse k ps [] ∙ ap reverse e

slot-reversed : {n : ℕ} {P : List ℕ → Type 0} (k : Key) (ps : List Pair) → Slot n P (values_of k ps) → Slot n P (values_of k (reverse ps))
unfolding values_of
slot-reversed {n} {P} k ps s = by-slot s.either
  where
    by-slot : OnceGiven n P (values_of k ps) → Slot n P (values_of k (reverse ps))
    by-slot (inl (z, e)) = record { either = inl (z, none-reversed k ps e) }
    by-slot (inr (one, (v, e, f))) = record { either = inr (one, (v, values-reverse k ps [] ∙ ap reverse e, f)) }

-- the same as `HeaderKept`, in the text's order
abbrev pub Ordered : Keys → List (List Cell) → List Pair → Type 0
Ordered h rows qs = Slots h qs × RowsHeld rows (values_of State qs) (values_of Base qs)

pub in_order_lem : (h : Keys) (rows : List (List Cell)) (ps : List Pair) → HeaderKept h rows ps → Ordered h rows (reverse ps)
unfolding values_of
in_order_lem h rows ps (s, r) = (
  (
    slot-reversed CodeSetName ps s.0,
    slot-reversed CurMin ps s.1,
    slot-reversed CurMax ps s.2,
    slot-reversed ConvClass ps s.3,
    slot-reversed SubChar ps s.4,
    slot-reversed SubChar1 ps s.5,
  ),
  record {
    entries = r.entries;
    states = subst (StateRows 0 r.entries) (sym (values-reverse State ps [])) r.states;
    rows_are = r.rows_are;
    counted = r.counted;
    no-base = none-reversed Base ps r.no-base;
  },
)

-- ## From what was read to what the header says

flag_one : (b : Bool) → b ≡ true → 1 ≤ flag b
flag_one b e = let z : flag b ≡ 1 = ap flag e in omega arith

given-once : (n : ℕ) (P : List ℕ → Type 0) (vs : List (List ℕ)) → Slot n P vs → 1 ≤ n → (v : List ℕ) × (vs ≡ v ∷ []) × P v
given-once n P vs s one = by-slot s.either
  where
    by-slot : OnceGiven n P vs → (v : List ℕ) × (vs ≡ v ∷ []) × P v
    by-slot (inl (z, e)) = absurd (omega arith)
    by-slot (inr (one, g)) = g

unset : (n : ℕ) (P : List ℕ → Type 0) (vs : List (List ℕ)) → Slot n P vs → vs ≡ [] → n ≡ 0
unset n P vs s e = by-slot s.either
  where
    by-slot : OnceGiven n P vs → n ≡ 0
    by-slot (inl (z, x)) = z
    by-slot (inr (one, (v, x, f))) = absurd (let k : ◌≡◌ {A = ℕ} 0 1 = ap length (sym e ∙ x) in omega arith)

every_byte_lem : row_of (every_byte ∷ []) ≡ replicate 256 ends
unfolding row_of overwritten fill_range meaning
every_byte_lem = refl

none_is : (o : Option ℕ) → given1 o ≡ 0 → o ≡ none
none_is none e = refl
none_is (some b) e = absurd (omega arith)

sub1-says : (o : Option ℕ) (ps : List Pair) → Slot (given1 o) (Subchar1Of o) (values_of SubChar1 ps) → Perhaps o ps
sub1-says o ps s = by-slot s.either
  where
    by-slot : OnceGiven (given1 o) (Subchar1Of o) (values_of SubChar1 ps) → Perhaps o ps
    by-slot (inl (z, e)) = subst (λ (x : Option ℕ). Perhaps x ps) (sym (none_is o z)) e
    by-slot (inr (one, (v, e, (b, k, f)))) = subst (λ (x : Option ℕ). Perhaps x ps) (sym k) (v, e, f)

-- the rows at CHARMAP
none-long : (ess : List (List Entry)) → length ess ≡ 0 → ess ≡ []
none-long [] e = refl
none-long (x ∷ ess) e = absurd (omega arith)

rows-some : (h : Keys) (rows : List (List Cell)) → eqb (length rows) 0 ≡ false → rows_at h rows ≡ rows
unfolding rows_at
rows-some h rows e = by-class (is_sbcs h.class)
  where
    by-class : (x : Bool) → pick x (pick (eqb (length rows) 0) (replicate 256 ends ∷ []) rows) rows ≡ rows
    by-class true = rw e
    by-class false = refl

rows_none : (h : Keys) (rows : List (List Cell)) → h.class ≡ some sbcs → eqb (length rows) 0 ≡ true → rows_at h rows ≡ replicate 256 ends ∷ []
unfolding rows_at
rows_none h rows c e = rw (c, e)

rows-say : (h : Keys) (rows : List (List Cell)) (w : List ℕ) (ess : List (List Entry)) → ((h.class ≡ some sbcs) × (w ≡ ascii "SBCS")) ⊎ ((h.class ≡ some mbcs) × (w ≡ ascii "MBCS"))
    → length rows ≡ length ess → rows ≡ map row_of ess → pick (is_sbcs h.class) true (leb 1 (length rows)) ≡ true → RowsAre w ess (rows_at h rows)
rows-say h rows w ess c n r k = by_count (eqb (length rows) 0) refl c
  where
    by_count : (x : Bool) → eqb (length rows) 0 ≡ x → ((h.class ≡ some sbcs) × (w ≡ ascii "SBCS")) ⊎ ((h.class ≡ some mbcs) × (w ≡ ascii "MBCS")) → RowsAre w ess (rows_at h rows)
    by_count false e d = let m = eqb-false (length rows) 0 e in inl (omega arith, rows-some h rows e ∙ r)
    by_count true e (inl (d, s)) =
        let m = eqb-true (length rows) 0 e in
        inr (none-long ess (omega arith), s, rows_none h rows d e ∙ ap (λ (l : List Cell). l ∷ []) (sym every_byte_lem))
    by_count true e (inr (d, s)) =
        let z : leb 1 (length rows) ≡ true = sym (ap (λ (c : Option ConvClasses). pick (is_sbcs c) true (leb 1 (length rows))) d) ∙ k in
        let o = leb-true 1 (length rows) z in
        let m = eqb-true (length rows) 0 e in
        absurd (omega arith)

module _ (h : Keys) (rows : List (List Cell)) (ps : List Pair) (ls : List Line) (held : Ordered h rows ps) where
  -- at CHARMAP, with nothing absent
  says-by : pick (is_sbcs h.class) true (leb 1 (length rows)) ≡ true → h.name ≡ true → 1 ≤ given1 h.min → 1 ≤ given1 h.max → 1 ≤ given1 h.class → 1 ≤ given1 h.subchar
      → HeaderSays ps (table_with h (rows_at h rows) ls)
  says-by k name min max class sub =
      let s = held.0 in
      let r = held.1 in
      let c = given-once (given1 h.class) (ClassOf h.class) (values_of ConvClass ps) s.3 class in
      by-class c.0 c.1 c.2 s r
    where
      made : (w : List ℕ) → Once ConvClass (Quoted w) ps → (w ≡ ascii "SBCS") ⊎ (w ≡ ascii "MBCS") → ((h.class ≡ some sbcs) × (w ≡ ascii "SBCS")) ⊎ ((h.class ≡ some mbcs) × (w ≡ ascii "MBCS"))
          → Slots h ps → RowsHeld rows (values_of State ps) (values_of Base ps) → HeaderSays ps (table_with h (rows_at h rows) ls)
      made w q b d s r =
          record {
            class = w;
            entries = r.entries;
            name = given-once (flag h.name) NameValue (values_of CodeSetName ps) s.0 (let e : flag h.name ≡ 1 = ap flag name in omega arith);
            min = given-once (given1 h.min) (SizeValue (min_of h)) (values_of CurMin ps) s.1 min;
            max = given-once (given1 h.max) (SizeValue (max_of h)) (values_of CurMax ps) s.2 max;
            quoted = q;
            built = b;
            subchar = given-once (given1 h.subchar) (SubcharValue (subchar_of h)) (values_of SubChar ps) s.4 sub;
            subchar1 = sub1-says h.subchar1 ps s.5;
            no-base = r.no-base;
            states = r.states;
            rows = rows-say h rows w r.entries d r.counted r.rows_are k;
          }

      by-class : (v : List ℕ) → values_of ConvClass ps ≡ v ∷ [] → ClassOf h.class v → Slots h ps → RowsHeld rows (values_of State ps) (values_of Base ps)
          → HeaderSays ps (table_with h (rows_at h rows) ls)
      by-class v e (inl (d, q)) s r = made (ascii "SBCS") (v, e, q) (inl refl) (inl (d, refl)) s r
      by-class v e (inr (d, q)) s r = made (ascii "MBCS") (v, e, q) (inr refl) (inr (d, refl)) s r

  pub header-said : n13 h (length rows) ≡ false → HeaderSays ps (table_with h (rows_at h rows) ls)
  unfolding n13
  header-said e =
      let a0 = not-false (nothing_absent h (length rows)) e in
      let a1 = and_right h.name _ a0 in
      let a2 = and_right (is_some h.min) _ a1 in
      let a3 = and_right (is_some h.max) _ a2 in
      let a4 = and_right (is_some h.class) _ a3 in
      says-by (and_right (is_some h.subchar) _ a4) (and_left h.name _ a0) (flag_one (is_some h.min) (and_left (is_some h.min) _ a1))
      (flag_one (is_some h.max) (and_left (is_some h.max) _ a2)) (flag_one (is_some h.class) (and_left (is_some h.class) _ a3))
      (flag_one (is_some h.subchar) (and_left (is_some h.subchar) _ a4))

-- ## From what the header says to what reading asks at each line

only : (vs ws : List (List ℕ)) (x v : List ℕ) → reverse_aux vs (x ∷ ws) ≡ v ∷ [] → (vs ≡ []) × (x ≡ v)
only [] ws x v e = (refl, cc)
only (y ∷ vs) ws x v e = let k : length (reverse_aux vs (y ∷ x ∷ ws)) ≡ 1 = ap length e in absurd (omega (arith, k, length-reverse_aux vs (y ∷ x ∷ ws)))

values-here : (k : Key) (v : List ℕ) (ps qs : List Pair) → values_of k (reverse_aux ps (pair (key_text k) v ∷ qs)) ≡ reverse_aux (values_of k ps) (v ∷ values_of k qs)
unfolding values_of
values-here k v ps qs = values-reverse k ps (pair (key_text k) v ∷ qs) ∙ rw (same_refl (key_text k))

once-here : (k : Key) (v : List ℕ) (P : List ℕ → Type 0) (ps qs : List Pair) → Once k P (reverse_aux ps (pair (key_text k) v ∷ qs)) → (values_of k ps ≡ []) × P v
once-here k v P ps qs (x, e, f) =
    let o = only (values_of k ps) (values_of k qs) v x (sym (values-here k v ps qs) ∙ e) in
    (o.0, subst P (sym o.1) f)

-- no condition of the grammar holds at a line of key k and value x
pub record Asked (lim : Limits) (h : Keys) (n : ℕ) (k : Key) (x : ReadValue) : Type 0 where
  pub again : n11 h k ≡ false
  pub fit : n12 x ≡ false
  pub built : n14 n x ≡ false
  pub ranged : n15 lim n x ≡ false

flag-none : (b : Bool) → flag b ≡ 0 → b ≡ false
flag-none false e = refl
flag-none true e = absurd (omega arith)

-- rows: as many as values, and each value has its row
rows_long : (n : ℕ) (ess : List (List Entry)) (vs : List (List ℕ)) → StateRows n ess vs → length ess ≡ length vs
rows_long n [] [] s = refl
rows_long n [] (v ∷ vs) s = absurd s
rows_long n (es ∷ ess) [] s = absurd s
rows_long n (es ∷ ess) (v ∷ vs) s = omega (arith, rows_long (n + 1) ess vs s.1)

row_at : (n : ℕ) (ess : List (List Entry)) (vs ws : List (List ℕ)) (v : List ℕ) → StateRows n ess (vs ++ (v ∷ ws)) → (es : List Entry) × StateRow (n + length vs) es v
row_at n [] [] ws v s = absurd s
row_at n [] (x ∷ vs) ws v s = absurd s
row_at n (es ∷ ess) [] ws v s = (es, let e : n ≡ n + 0 = omega arith in subst (λ (m : ℕ). StateRow m es v) e s.0)
row_at n (es ∷ ess) (x ∷ vs) ws v s =
    let r = row_at (n + 1) ess vs ws v s.1 in
    let e : n + 1 + length vs ≡ n + suc (length vs) = omega arith in
    (r.0, subst (λ (m : ℕ). StateRow m r.0 v) e r.1)

word-built : (n k : ℕ) → (k ≡ 0) ⊎ ((k ≡ 1) × (n ≡ 0)) → row_unbuilt n k false ≡ false
unfolding row_unbuilt
word-built n k (inl e) = rw e
word-built n k (inr (e, z)) = rw (e, z)

row-asked : (lim : Limits) (h : Keys) (n : ℕ) (es : List Entry) (v : List ℕ) → StateRow n es v → n < lim.rows → Asked lim h n State (value_of State v)
unfolding n11 n12 n14 n15
row-asked lim h n es v r room =
    let e : value_of State v ≡ Some (Row r.word false false) = (row_reads r.word es v r.form).1 ∙ (λ i. Some (Row r.word ((none-unbuilt es).1 r.built i) ((none_over es).1 r.ranged i))) in
    subst (Asked lim h n State) (sym e)
    (record { again = refl; fit = refl; built = word-built n r.word r.opening; ranged = rows_over lim n false ∙ lt-leb lim.rows n room })

module _ (lim : Limits) (h : Keys) (rows : List (List Cell)) (ps qs : List Pair) (v : List ℕ) (t : Table) (held : HeaderKept h rows ps) where
  name-asked : Once CodeSetName NameValue (reverse_aux ps (pair (key_text CodeSetName) v ∷ qs)) → Asked lim h (length rows) CodeSetName (value_of CodeSetName v)
  unfolding n11 n12 n14 n15
  name-asked o =
      let a = once-here CodeSetName v NameValue ps qs o in
      let z = unset (flag h.name) NameValue (values_of CodeSetName ps) held.0.0 a.0 in
      subst (Asked lim h (length rows) CodeSetName) (sym (name-reads v a.1)) (record { again = flag-none h.name z; fit = refl; built = refl; ranged = refl })

  min-asked : Once CurMin (SizeValue t.min) (reverse_aux ps (pair (key_text CurMin) v ∷ qs)) → Asked lim h (length rows) CurMin (value_of CurMin v)
  unfolding n11 n12 n14 n15
  min-asked o =
      let a = once-here CurMin v (SizeValue t.min) ps qs o in
      let z = unset (given1 h.min) (SizeValue (min_of h)) (values_of CurMin ps) held.0.1 a.0 in
      subst (Asked lim h (length rows) CurMin) (sym (min-reads t.min v a.1)) (record { again = flag-none (is_some h.min) z; fit = refl; built = refl; ranged = refl })

  max-asked : Once CurMax (SizeValue t.max) (reverse_aux ps (pair (key_text CurMax) v ∷ qs)) → Asked lim h (length rows) CurMax (value_of CurMax v)
  unfolding n11 n12 n14 n15
  max-asked o =
      let a = once-here CurMax v (SizeValue t.max) ps qs o in
      let z = unset (given1 h.max) (SizeValue (max_of h)) (values_of CurMax ps) held.0.2 a.0 in
      subst (Asked lim h (length rows) CurMax) (sym (max-reads t.max v a.1)) (record { again = flag-none (is_some h.max) z; fit = refl; built = refl; ranged = refl })

  class-asked : (w : List ℕ) → (w ≡ ascii "SBCS") ⊎ (w ≡ ascii "MBCS") → Once ConvClass (Quoted w) (reverse_aux ps (pair (key_text ConvClass) v ∷ qs)) → Asked lim h (length rows) ConvClass (value_of ConvClass v)
  unfolding n11 n12 n14 n15 class_name same
  class-asked w b o = by-class b
    where
      zero-class : is_some h.class ≡ false
      zero-class = flag-none (is_some h.class) (unset (given1 h.class) (ClassOf h.class) (values_of ConvClass ps) held.0.3 (once-here ConvClass v (Quoted w) ps qs o).0)

      by-class : (w ≡ ascii "SBCS") ⊎ (w ≡ ascii "MBCS") → Asked lim h (length rows) ConvClass (value_of ConvClass v)
      by-class (inl e) =
          subst (Asked lim h (length rows) ConvClass) (sym (class-reads w v (once-here ConvClass v (Quoted w) ps qs o).1 ∙ ap class_name e))
          (record { again = zero-class; fit = refl; built = refl; ranged = refl })
      by-class (inr e) =
          subst (Asked lim h (length rows) ConvClass) (sym (class-reads w v (once-here ConvClass v (Quoted w) ps qs o).1 ∙ ap class_name e))
          (record { again = zero-class; fit = refl; built = refl; ranged = refl })

  sub-asked : Once SubChar (SubcharValue t.subchar) (reverse_aux ps (pair (key_text SubChar) v ∷ qs)) → Asked lim h (length rows) SubChar (value_of SubChar v)
  unfolding n11 n12 n14 n15
  sub-asked o =
      let a = once-here SubChar v (SubcharValue t.subchar) ps qs o in
      let z = unset (given1 h.subchar) (SubcharValue (subchar_of h)) (values_of SubChar ps) held.0.4 a.0 in
      subst (Asked lim h (length rows) SubChar) (sym (sub-reads t.subchar v a.1)) (record { again = flag-none (is_some h.subchar) z; fit = refl; built = refl; ranged = refl })

  -- a value of a key that is not given is none
  given-not : (k : Key) → values_of k (reverse_aux ps (pair (key_text k) v ∷ qs)) ≡ [] → ⊥
  given-not k e =
      let z : length (reverse_aux (values_of k ps) (v ∷ values_of k qs)) ≡ 0 = ap length (sym (values-here k v ps qs) ∙ e) in
      omega (arith, z, length-reverse_aux (values_of k ps) (v ∷ values_of k qs))

  sub1-asked : (o : Option ℕ) → Perhaps o (reverse_aux ps (pair (key_text SubChar1) v ∷ qs)) → Asked lim h (length rows) SubChar1 (value_of SubChar1 v)
  unfolding n11 n12 n14 n15
  sub1-asked none o = absurd (given-not SubChar1 o)
  sub1-asked (some b) o =
      let a = once-here SubChar1 v (BytesValue (b ∷ [])) ps qs o in
      let z = unset (given1 h.subchar1) (Subchar1Of h.subchar1) (values_of SubChar1 ps) held.0.5 a.0 in
      subst (Asked lim h (length rows) SubChar1) (sym (sub1-reads b v a.1)) (record { again = flag-none (is_some h.subchar1) z; fit = refl; built = refl; ranged = refl })

  state-asked : (ess : List (List Entry)) → length ess ≤ lim.rows → StateRows 0 ess (values_of State (reverse_aux ps (pair (key_text State) v ∷ qs))) → Asked lim h (length rows) State (value_of State v)
  state-asked ess room s =
      let vs : List (List ℕ) = reverse (values_of State ps) in
      let ws : List (List ℕ) = values_of State qs in
      let s2 = subst (StateRows 0 ess) (values-here State v ps qs ∙ reverse_aux-eq (values_of State ps) (v ∷ ws)) s in
      let r = row_at 0 ess vs ws v s2 in
      let n : 0 + length vs ≡ length rows = omega (arith, rows_long 0 held.1.entries vs held.1.states, held.1.counted) in
      row-asked lim h (length rows) r.0 v (subst (λ (x : ℕ). StateRow x r.0 v) n r.1) (omega (arith, n, rows_long 0 ess (vs ++ (v ∷ ws)) s2, length-append vs (v ∷ ws)))

  -- whatever the key
  pub key-asked : (w : List ℕ) (k : Key) → KeyMeans w k → (y : HeaderSays (reverse_aux ps (pair w v ∷ qs)) t) → length y.entries ≤ lim.rows → Asked lim h (length rows) k (value_of k v)
  unfolding n11 n12 n14 n15 value_of
  key-asked w CodeSetName m y room = name-asked (subst (λ (x : List ℕ). Once CodeSetName NameValue (reverse_aux ps (pair x v ∷ qs))) m y.name)
  key-asked w CurMin m y room = min-asked (subst (λ (x : List ℕ). Once CurMin (SizeValue t.min) (reverse_aux ps (pair x v ∷ qs))) m y.min)
  key-asked w CurMax m y room = max-asked (subst (λ (x : List ℕ). Once CurMax (SizeValue t.max) (reverse_aux ps (pair x v ∷ qs))) m y.max)
  key-asked w ConvClass m y room = class-asked y.class y.built (subst (λ (x : List ℕ). Once ConvClass (Quoted y.class) (reverse_aux ps (pair x v ∷ qs))) m y.quoted)
  key-asked w SubChar m y room = sub-asked (subst (λ (x : List ℕ). Once SubChar (SubcharValue t.subchar) (reverse_aux ps (pair x v ∷ qs))) m y.subchar)
  key-asked w SubChar1 m y room = sub1-asked t.subchar1 (subst (λ (x : List ℕ). Perhaps t.subchar1 (reverse_aux ps (pair x v ∷ qs))) m y.subchar1)
  key-asked w State m y room =
      state-asked y.entries room (subst (λ (x : List ℕ). StateRows 0 y.entries (values_of State (reverse_aux ps (pair x v ∷ qs)))) m y.states)
  key-asked w Base m y room = absurd (given-not Base (subst (λ (x : List ℕ). values_of Base (reverse_aux ps (pair x v ∷ qs)) ≡ []) m y.no-base))
  key-asked w Other m y room = record { again = refl; fit = refl; built = refl; ranged = refl }

-- ## At CHARMAP nothing is absent

present : (n : ℕ) (P : List ℕ → Type 0) (vs : List (List ℕ)) (v : List ℕ) → Slot n P vs → vs ≡ v ∷ [] → 1 ≤ n
present n P vs v s e = by-slot s.either
  where
    by-slot : OnceGiven n P vs → 1 ≤ n
    by-slot (inl (z, x)) = absurd (let k : ◌≡◌ {A = ℕ} 1 0 = ap length (sym e ∙ x) in omega arith)
    by-slot (inr (one, g)) = one

flag-set : (b : Bool) → 1 ≤ flag b → b ≡ true
flag-set true e = refl
flag-set false e = absurd (omega arith)

same-value : (vs : List (List ℕ)) (v w : List ℕ) → vs ≡ v ∷ [] → vs ≡ w ∷ [] → v ≡ w
same-value vs v w e f = let k : v ∷ [] ≡ w ∷ [] = sym e ∙ f in cc

-- one word in quotes is not two classes
one_class : (v : List ℕ) → Quoted (ascii "SBCS") v → Quoted (ascii "MBCS") v → ⊥
unfolding class_name same
one_class v p q =
    let e : Some (Class Sbcs) ≡ Some (Class Mbcs) = sym (class-reads (ascii "SBCS") v p) ∙ class-reads (ascii "MBCS") v q in
    let k : ◌≡◌ {A = ℕ} 1 2 = cc in
    omega arith

class-one : (c : Option ConvClasses) (v : List ℕ) → Quoted (ascii "SBCS") v → ClassOf c v → c ≡ some sbcs
class-one c v q (inl (e, p)) = e
class-one c v q (inr (e, p)) = absurd (one_class v q p)

module _ (h : Keys) (rows : List (List Cell)) (ps : List Pair) (t : Table) (held : Ordered h rows ps) (y : HeaderSays ps t) where
  row-present : pick (is_sbcs h.class) true (leb 1 (length rows)) ≡ true
  row-present = by_rows y.rows
    where
      by_rows : RowsAre y.class y.entries t.rows → pick (is_sbcs h.class) true (leb 1 (length rows)) ≡ true
      by_rows (inl (one, e)) =
          let a = rows_long 0 held.1.entries (values_of State ps) held.1.states in
          let b = rows_long 0 y.entries (values_of State ps) y.states in
          let c = held.1.counted in
          rw (le-leb 1 (length rows) (omega arith)) (pick-true-true (is_sbcs h.class))
      by_rows (inr (e, w, x)) =
          let o = y.quoted in
          let c = given-once (given1 h.class) (ClassOf h.class) (values_of ConvClass ps) held.0.3 (present (given1 h.class) (ClassOf h.class) (values_of ConvClass ps) o.0 held.0.3 o.1) in
          let q : Quoted (ascii "SBCS") c.0 = subst (λ (z : List ℕ). Quoted z c.0) w (subst (Quoted y.class) (same-value (values_of ConvClass ps) o.0 c.0 o.1 c.1) o.2) in
          rw (class-one h.class c.0 q c.2)

  pub nothing-absent : n13 h (length rows) ≡ false
  unfolding n13
  nothing-absent =
      let s = held.0 in
      ap not (and_yes h.name _ (flag-set h.name (present (flag h.name) NameValue (values_of CodeSetName ps) y.name.0 s.0 y.name.1))
      (and_yes (is_some h.min) _ (flag-set (is_some h.min) (present (given1 h.min) (SizeValue (min_of h)) (values_of CurMin ps) y.min.0 s.1 y.min.1))
      (and_yes (is_some h.max) _ (flag-set (is_some h.max) (present (given1 h.max) (SizeValue (max_of h)) (values_of CurMax ps) y.max.0 s.2 y.max.1))
      (and_yes (is_some h.class) _
      (flag-set (is_some h.class) (present (given1 h.class) (ClassOf h.class) (values_of ConvClass ps) y.quoted.0 s.3 y.quoted.1))
      (and_yes (is_some h.subchar) _
      (flag-set (is_some h.subchar) (present (given1 h.subchar) (SubcharValue (subchar_of h)) (values_of SubChar ps) y.subchar.0 s.4 y.subchar.1))
      row-present)))))

-- ## One header says one table

one-min : (a b : ℕ) (ps : List Pair) → Once CurMin (SizeValue a) ps → Once CurMin (SizeValue b) ps → a ≡ b
one-min a b ps (v, e, f) (w, g, i) =
    let k : Some (Min a) ≡ Some (Min b) = sym (min-reads a v f) ∙ min-reads b v (subst (SizeValue b) (same-value (values_of CurMin ps) w v g e) i) in cc

one-max : (a b : ℕ) (ps : List Pair) → Once CurMax (SizeValue a) ps → Once CurMax (SizeValue b) ps → a ≡ b
one-max a b ps (v, e, f) (w, g, i) =
    let k : Some (Max a) ≡ Some (Max b) = sym (max-reads a v f) ∙ max-reads b v (subst (SizeValue b) (same-value (values_of CurMax ps) w v g e) i) in cc

one-sub : (c d : List ℕ) (ps : List Pair) → Once SubChar (SubcharValue c) ps → Once SubChar (SubcharValue d) ps → c ≡ d
one-sub c d ps (v, e, f) (w, g, i) =
    let j : SubcharValue d v = subst (SubcharValue d) (same-value (values_of SubChar ps) w v g e) i in
    let k : Some (Sub (code_of c)) ≡ Some (Sub (code_of d)) = sym (sub-reads c v f) ∙ sub-reads d v j in
    let same : code_of c ≡ code_of d = cc in
    let p : packed c ≡ packed d = ap (λ (x : Code). x.bits) same in
    let n : length c ≡ length d = ap (λ (x : Code). x.len) same in
    pack-one-way c d (BytesValue⇒AllByte c v f.1) (BytesValue⇒AllByte d v j.1) n f.0 p

once-none : (k : Key) (P : List ℕ → Type 0) (ps : List Pair) → Once k P ps → values_of k ps ≡ [] → ⊥
once-none k P ps (v, e, f) z = let n : ◌≡◌ {A = ℕ} 1 0 = ap length (sym e ∙ z) in omega arith

one-sub1 : (a b : Option ℕ) (ps : List Pair) → Perhaps a ps → Perhaps b ps → a ≡ b
one-sub1 none none ps x y = refl
one-sub1 none (some b) ps x y = absurd (once-none SubChar1 (BytesValue (b ∷ [])) ps y x)
one-sub1 (some a) none ps x y = absurd (once-none SubChar1 (BytesValue (a ∷ [])) ps x y)
one-sub1 (some a) (some b) ps (v, e, f) (w, g, i) =
    let k : Some (Sub1 a) ≡ Some (Sub1 b) = sym (sub1-reads a v f) ∙ sub1-reads b v (subst (BytesValue (b ∷ [])) (same-value (values_of SubChar1 ps) w v g e) i) in
    let n : a ≡ b = cc in
    ap some n

one-entries : (n : ℕ) (a b : List (List Entry)) (vs : List (List ℕ)) → StateRows n a vs → StateRows n b vs → a ≡ b
one-entries n [] [] vs s r = refl
one-entries n [] (y ∷ b) [] s r = absurd r
one-entries n [] (y ∷ b) (v ∷ vs) s r = absurd s
one-entries n (x ∷ a) [] [] s r = absurd s
one-entries n (x ∷ a) [] (v ∷ vs) s r = absurd r
one-entries n (x ∷ a) (y ∷ b) [] s r = absurd s
one-entries n (x ∷ a) (y ∷ b) (v ∷ vs) s r =
    let e : x ≡ y = sym (row_reads s.0.word x v s.0.form).0 ∙ (row_reads r.0.word y v r.0.form).0 in
    let f = one-entries (n + 1) a b vs s.1 r.1 in
    λ i. e i ∷ f i

one-rows : (a b : List (List Entry)) (c d : List ℕ) (rows other : List (List Cell)) → a ≡ b → RowsAre c a rows → RowsAre d b other → rows ≡ other
one-rows a b c d rows other e (inl (one, r)) (inl (two, s)) = r ∙ ap (map row_of) e ∙ sym s
one-rows a b c d rows other e (inl (one, r)) (inr (z, w, s)) = absurd (let n : length a ≡ 0 = ap length (e ∙ z) in omega arith)
one-rows a b c d rows other e (inr (z, w, r)) (inl (two, s)) = absurd (let n : length b ≡ 0 = ap length (sym e ∙ z) in omega arith)
one-rows a b c d rows other e (inr (z, w, r)) (inr (y, x, s)) = r ∙ sym s

pub says-one : (ps : List Pair) (t u : Table) → HeaderSays ps t → HeaderSays ps u → t.lines ≡ u.lines → t ≡ u
says-one ps t u y z l =
    let r = one-rows y.entries z.entries y.class z.class t.rows u.rows (one-entries 0 y.entries z.entries (values_of State ps) y.states z.states) y.rows z.rows in
    let a = one-min t.min u.min ps y.min z.min in
    let b = one-max t.max u.max ps y.max z.max in
    let c = one-sub t.subchar u.subchar ps y.subchar z.subchar in
    let d = one-sub1 t.subchar1 u.subchar1 ps y.subchar1 z.subchar1 in
    λ i. record { rows = r i; lines = l i; min = a i; max = b i; subchar = c i; subchar1 = d i }
