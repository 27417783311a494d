-- What the lines of a header have given so far, key by key, by the grammar: none yet, or one value of its form; and the rows.
-- key-means    which key a word is                       HeaderKept    what the head and the rows hold of the lines so far, the last one first
-- key-passes   a line that passes the conditions of the grammar: the head with its value holds one line more
use Rattle.table.specs.declared.value.Class.{Class as NamedClass}
use Rattle.table.specs.Keys.{number_of_class}
use Rattle.table.specs.declared.value.Class.TheVariants.{Sbcs, Mbcs}
use Rattle.table.specs.Codes.{code_of}
use Rattle.std.specs.Prelude.{Some, None}
use Rattle.table.specs.Header.{ReadValue}
use Prim.Native.Nat.{ℕ, suc, ◌+◌, ◌≤◌}
use mathlib.Core.Path.{◌≡◌, refl, sym, ap, ◌∙◌, subst}
use mathlib.Core.Logic.{◌⊎◌, inl, inr}
use mathlib.Core.Bool.{Bool, true, false}
use mathlib.Core.Option.{Option, some}
use mathlib.Core.List.{List, [], ◌∷◌, ◌++◌, map, reverse, reverse-cons, map-append}
use native.Mathlib.Omega.{arith}
use lib.ListN.{length, length-append}
use lib.Dec.{ltb, leb, eqb}
use borrow.Author.Tests.{ltb-false}
use Rattle.lists.specs.Pick.{pick}
use Rattle.lists.specs.Order.{In}
use Rattle.lists.specs.Ascii.{ascii}
use Rattle.lists.proofs.Laws.{clash}
use Rattle.lists.proofs.Cases.{pick-case}
use Rattle.lists.proofs.Chains.{or-no-left, or-no-right}
use Rattle.table.specs.Limits.{Limits}
use Rattle.table.specs.Cells.{Cell}
use Rattle.table.specs.Keys.{sbcs, mbcs, class_by, Keys, min_of, max_of, subchar_of, Class as ConvClasses}
use Rattle.table.specs.Row.{entries_of, row_of, unbuilt_entry, over_entry}
use Rattle.table.specs.Header.{key_of, class_name, value_of, is_row}
use Rattle.table.specs.Numbers.{n11, n12, n14, n15, row_unbuilt}
use Rattle.table.specs.Load.{keep_value, keep_row}
use Rattle.table.specs.Grammar.{Pair, key_text, classes, NameValue, SizeValue, Quoted, BytesValue, SubcharValue, RowValue, StateRow, StateRows, values_of}
use Rattle.lists.proofs.Strings.{same⇒≡}
use Rattle.table.proofs.Packing.{unpacked-packed}
use Rattle.table.proofs.ValueRead.{name-cases, min_cases, max_cases, ClassCase, class_cases, sub_cases, sub1-cases, BytesValue⇒AllByte}
use Rattle.table.proofs.RowWritten.{RowCase, row-cases}
use Rattle.table.proofs.RowEntries.{none-unbuilt, none_over}
use Rattle.lists.specs.Strings.{same}
use Rattle.lists.specs.Tests.{any_of}
use Rattle.lists.specs.Options.{is_some}
use Rattle.table.proofs.OneMore.{rows_over}
use Rattle.table.specs.Row.{Entry}
use Rattle.table.specs.declared.value.Key.{Key}
use Rattle.table.specs.declared.value.Key.TheVariants.{CodeSetName, CurMin, CurMax, ConvClass, SubChar, SubChar1, State, Base, Other}
use Rattle.table.specs.declared.value.Value.TheVariants.{Any, Name, Min, Max, Class, Sub, Sub1, Row, Unbuilt}

abbrev pub pair : List ℕ → List ℕ → Pair
pair w v = record { key = w; value = v }

-- ## Which key a word is

abbrev pub KeyMeans : List ℕ → Key → Type 0
KeyMeans w CodeSetName = w ≡ key_text CodeSetName
KeyMeans w CurMin = w ≡ key_text CurMin
KeyMeans w CurMax = w ≡ key_text CurMax
KeyMeans w ConvClass = w ≡ key_text ConvClass
KeyMeans w SubChar = w ≡ key_text SubChar
KeyMeans w SubChar1 = w ≡ key_text SubChar1
KeyMeans w State = w ≡ key_text State
KeyMeans w Base = w ≡ key_text Base
KeyMeans w Other =
    (same w (key_text CodeSetName) ≡ false) × (same w (key_text CurMin) ≡ false) × (same w (key_text CurMax) ≡ false) × (same w (key_text ConvClass) ≡ false)
    × (same w (key_text SubChar) ≡ false) × (same w (key_text SubChar1) ≡ false) × (same w (key_text State) ≡ false) × (same w (key_text Base) ≡ false)

pub key-means : (w : List ℕ) → KeyMeans w (key_of w)
unfolding key_of
key-means w =
    pick-case P (same w (key_text CodeSetName)) _ _ (same⇒≡ w (key_text CodeSetName))
    (λ a. pick-case P (same w (key_text CurMin)) _ _ (same⇒≡ w (key_text CurMin))
    (λ b. pick-case P (same w (key_text CurMax)) _ _ (same⇒≡ w (key_text CurMax))
    (λ c. pick-case P (same w (key_text ConvClass)) _ _ (same⇒≡ w (key_text ConvClass))
    (λ d. pick-case P (same w (key_text SubChar)) _ _ (same⇒≡ w (key_text SubChar))
    (λ e. pick-case P (same w (key_text SubChar1)) _ _ (same⇒≡ w (key_text SubChar1))
    (λ f. pick-case P (same w (key_text State)) _ _ (same⇒≡ w (key_text State))
    (λ g. pick-case P (same w (key_text Base)) _ _ (same⇒≡ w (key_text Base)) (λ h. (a, b, c, d, e, f, g, h)))))))))
  where
    P : Key → Type 0
    P k = KeyMeans w k

-- ## What is kept, key by key

-- a once-only key: not given yet (n is 0), or given once, with a value of its form
abbrev pub OnceGiven : ℕ → (List ℕ → Type 0) → List (List ℕ) → Type 0
OnceGiven n P vs = ((n ≡ 0) × (vs ≡ [])) ⊎ ((1 ≤ n) × ((v : List ℕ) × (vs ≡ v ∷ []) × P v))

pub record Slot (n : ℕ) (P : List ℕ → Type 0) (vs : List (List ℕ)) : Type 0 where
  pub either : OnceGiven n P vs

none_yet : (n : ℕ) (P : List ℕ → Type 0) (vs : List (List ℕ)) → Slot n P vs → n ≡ 0 → vs ≡ []
none_yet n P vs s z = by-slot s.either
  where
    by-slot : OnceGiven n P vs → vs ≡ []
    by-slot (inl (a, b)) = b
    by-slot (inr (a, b)) = absurd (omega arith)

-- its first value
given : {n m : ℕ} {P Q : List ℕ → Type 0} {vs : List (List ℕ)} (v : List ℕ) → Slot n P vs → n ≡ 0 → 1 ≤ m → Q v → Slot m Q (v ∷ vs)
given {n} {m} {P} {Q} {vs} v s z one q = record { either = inr (one, (v, ap (λ (l : List (List ℕ)). v ∷ l) (none_yet n P vs s z), q)) }

abbrev pub flag : Bool → ℕ
flag false = 0
flag true = 1

-- 1 where a value is given
abbrev pub given1 : {A : Type 0} → Option A → ℕ
given1 o = flag (is_some o)

abbrev pub ClassOf : Option ConvClasses → List ℕ → Type 0
ClassOf c v = ((c ≡ some sbcs) × Quoted (ascii "SBCS") v) ⊎ ((c ≡ some mbcs) × Quoted (ascii "MBCS") v)

abbrev pub Subchar1Of : Option ℕ → List ℕ → Type 0
Subchar1Of o v = (b : ℕ) × (o ≡ some b) × BytesValue (b ∷ []) v

-- ps are the lines so far, the last one first
abbrev pub Slots : Keys → List Pair → Type 0
Slots h ps =
    Slot (flag h.name) NameValue (values_of CodeSetName ps)
    × Slot (given1 h.min) (SizeValue (min_of h)) (values_of CurMin ps)
    × Slot (given1 h.max) (SizeValue (max_of h)) (values_of CurMax ps)
    × Slot (given1 h.class) (ClassOf h.class) (values_of ConvClass ps)
    × Slot (given1 h.subchar) (SubcharValue (subchar_of h)) (values_of SubChar ps)
    × Slot (given1 h.subchar1) (Subchar1Of h.subchar1) (values_of SubChar1 ps)

-- the rows so far; vs are the values of icu:state in the text's order, bs those of icu:base
pub record RowsHeld (rows : List (List Cell)) (vs bs : List (List ℕ)) : Type 0 where
  pub entries : List (List Entry)
  pub states : StateRows 0 entries vs
  pub rows_are : rows ≡ map row_of entries
  pub counted : length rows ≡ length entries
  pub no-base : bs ≡ []

abbrev pub HeaderKept : Keys → List (List Cell) → List Pair → Type 0
HeaderKept h rows ps = Slots h ps × RowsHeld rows (reverse (values_of State ps)) (values_of Base ps)

-- one row more
rows_more : (n : ℕ) (ess : List (List Entry)) (vs : List (List ℕ)) (es : List Entry) (v : List ℕ) → StateRows n ess vs → StateRow (n + length ess) es v
    → StateRows n (ess ++ (es ∷ [])) (vs ++ (v ∷ []))
rows_more n [] [] es v s r = (let e : n + 0 ≡ n = omega arith in subst (λ (m : ℕ). StateRow m es v) e r, tt)
rows_more n [] (x ∷ vs) es v s r = absurd s
rows_more n (e ∷ ess) [] es v s r = absurd s
rows_more n (e ∷ ess) (x ∷ vs) es v s r =
    let k : n + suc (length ess) ≡ n + 1 + length ess = omega arith in
    (s.0, rows_more (n + 1) ess vs es v s.1 (subst (λ (m : ℕ). StateRow m es v) k r))

rows-own : (rows : List (List Cell)) (vs bs : List (List ℕ)) (v : List ℕ) → StateRow (length rows) (entries_of v) v → RowsHeld rows (reverse vs) bs
    → RowsHeld (rows ++ (row_of (entries_of v) ∷ [])) (reverse (v ∷ vs)) bs
rows-own rows vs bs v x r =
    let c = r.counted in
    let e : length rows ≡ 0 + length r.entries = omega arith in
    record {
      entries = r.entries ++ (entries_of v ∷ []);
      states = subst (StateRows 0 (r.entries ++ (entries_of v ∷ []))) (sym (reverse-cons v vs))
          (rows_more 0 r.entries (reverse vs) (entries_of v) v r.states (subst (λ (m : ℕ). StateRow m (entries_of v) v) e x));
      rows_are = ap (λ (l : List (List Cell)). l ++ (row_of (entries_of v) ∷ [])) r.rows_are ∙ sym (map-append row_of r.entries (entries_of v ∷ []));
      counted = omega (arith, length-append rows (row_of (entries_of v) ∷ []), length-append r.entries (entries_of v ∷ []));
      no-base = r.no-base;
    }

-- ## A line that passes the conditions of the grammar

unfit : {A : Type 0} (x : ReadValue) → x ≡ None → n12 x ≡ false → A
unfolding n12
unfit x e f = absurd (clash (ap n12 e) f)

later : {A : Type 0} (n : ℕ) (x : ReadValue) → x ≡ Some Unbuilt → n14 n x ≡ false → A
unfolding n14
later n x e f = absurd (clash (ap (n14 n) e) f)

none_kept : (n : ℕ) → ltb 0 n ≡ false → n ≡ 0
none_kept n e = let k = ltb-false 0 n e in omega arith

-- a row that passes
row-opening : (n k : ℕ) (es : List Entry) (v : List ℕ) → RowValue k es v → pick (eqb k 2) true (pick (eqb k 1) (ltb 0 n) false) ≡ false → (k ≡ 0) ⊎ ((k ≡ 1) × (n ≡ 0))
row-opening n k es v (inl (z, f)) e = inl z
row-opening n k es v (inr (inl (z, f))) e = inr (z, none_kept n (ap (λ (x : ℕ). pick (eqb x 2) true (pick (eqb x 1) (ltb 0 n) false)) (sym z) ∙ e))
row-opening n k es v (inr (inr (z, f))) e = absurd (clash (ap (λ (x : ℕ). pick (eqb x 2) true (pick (eqb x 1) (ltb 0 n) false)) z) e)

row-passed : (lim : Limits) (n k : ℕ) (l o : Bool) (v : List ℕ) → RowValue k (entries_of v) v → l ≡ any_of unbuilt_entry (entries_of v) → o ≡ any_of over_entry (entries_of v)
    → n14 n (Some (Row k l o)) ≡ false → n15 lim n (Some (Row k l o)) ≡ false → StateRow n (entries_of v) v
unfolding n14 n15 row_unbuilt
row-passed lim n k l o v f x y e g =
    record {
      word = k;
      form = f;
      opening = row-opening n k (entries_of v) v f (or-no-right l (pick (eqb k 2) true (pick (eqb k 1) (ltb 0 n) false)) e);
      built = (none-unbuilt (entries_of v)).0 (sym x ∙ or-no-left l (pick (eqb k 2) true (pick (eqb k 1) (ltb 0 n) false)) e);
      ranged = (none_over (entries_of v)).0 (sym y ∙ or-no-left o (leb lim.rows n) (sym (rows_over lim n o) ∙ g));
    }

module _ (lim : Limits) (h : Keys) (rows : List (List Cell)) (ps : List Pair) (v : List ℕ) (held : HeaderKept h rows ps) where
  -- behind a line of the key w, read as x
  abbrev After : List ℕ → ReadValue → Type 0
  After w x = HeaderKept (keep_value h x) (keep_row x v rows) (pair w v ∷ ps)

  -- the line passes
  abbrev pub Passes : List ℕ → Key → Type 0
  Passes w k = n11 h k ≡ false → n12 (value_of k v) ≡ false → n14 (length rows) (value_of k v) ≡ false → n15 lim (length rows) (value_of k v) ≡ false → After w (value_of k v)

  slots : Slots h ps
  slots = held.0

  name-passes : Passes (key_text CodeSetName) CodeSetName
  unfolding n11 keep_value keep_row is_row values_of same
  name-passes again fit built ranged = by-case (name-cases v) slots
    where
      by-case : (value_of CodeSetName v ≡ None) ⊎ ((value_of CodeSetName v ≡ Some Name) × NameValue v) → Slots h ps → After (key_text CodeSetName) (value_of CodeSetName v)
      by-case (inl u) s = unfit (value_of CodeSetName v) u fit
      by-case (inr (e, f)) s = subst (After (key_text CodeSetName)) (sym e) ((given v s.0 (ap flag again) (omega arith) f, s.1, s.2, s.3, s.4, s.5), held.1)

  min-passes : Passes (key_text CurMin) CurMin
  unfolding n11 keep_value keep_row is_row values_of same
  min-passes again fit built ranged = by-case (min_cases v) slots
    where
      by-case : (value_of CurMin v ≡ None) ⊎ ((d : ℕ) × (value_of CurMin v ≡ Some (Min d)) × SizeValue d v) → Slots h ps → After (key_text CurMin) (value_of CurMin v)
      by-case (inl u) s = unfit (value_of CurMin v) u fit
      by-case (inr (d, e, f)) s = subst (After (key_text CurMin)) (sym e) ((s.0, given v s.1 (ap flag again) (omega arith) f, s.2, s.3, s.4, s.5), held.1)

  max-passes : Passes (key_text CurMax) CurMax
  unfolding n11 keep_value keep_row is_row values_of same
  max-passes again fit built ranged = by-case (max_cases v) slots
    where
      by-case : (value_of CurMax v ≡ None) ⊎ ((d : ℕ) × (value_of CurMax v ≡ Some (Max d)) × SizeValue d v) → Slots h ps → After (key_text CurMax) (value_of CurMax v)
      by-case (inl u) s = unfit (value_of CurMax v) u fit
      by-case (inr (d, e, f)) s = subst (After (key_text CurMax)) (sym e) ((s.0, s.1, given v s.2 (ap flag again) (omega arith) f, s.3, s.4, s.5), held.1)

  class-passes : Passes (key_text ConvClass) ConvClass
  unfolding n11 class_name keep_value keep_row is_row values_of same
  class-passes again fit built ranged = by-case (class_cases v) slots
    where
      kept : (c : NamedClass) → ClassOf (some (class_by (number_of_class c))) v → Slots h ps → After (key_text ConvClass) (Some (Class c))
      kept c f s = ((s.0, s.1, s.2, given v s.3 (ap flag again) (omega arith) f, s.4, s.5), held.1)

      by_word : (w : List ℕ) → Quoted w v → value_of ConvClass v ≡ class_name w → In w classes
          → Slots h ps → After (key_text ConvClass) (value_of ConvClass v)
      by_word w q e (inl i) s = subst (After (key_text ConvClass)) (sym (e ∙ ap class_name i)) (kept Sbcs (inl (refl, subst (λ (x : List ℕ). Quoted x v) i q)) s)
      by_word w q e (inr (inl i)) s = subst (After (key_text ConvClass)) (sym (e ∙ ap class_name i)) (kept Mbcs (inr (refl, subst (λ (x : List ℕ). Quoted x v) i q)) s)
      by_word w q e (inr (inr (inl i))) s = later (length rows) (value_of ConvClass v) (e ∙ ap class_name i) built
      by_word w q e (inr (inr (inr (inl i)))) s = later (length rows) (value_of ConvClass v) (e ∙ ap class_name i) built
      by_word w q e (inr (inr (inr (inr i)))) s = absurd i

      by-case : ClassCase v → Slots h ps → After (key_text ConvClass) (value_of ConvClass v)
      by-case (inl u) s = unfit (value_of ConvClass v) u fit
      by-case (inr (w, q, e, i)) s = by_word w q e i s

  sub-passes : Passes (key_text SubChar) SubChar
  unfolding n11 keep_value keep_row is_row values_of same
  sub-passes again fit built ranged = by-case (sub_cases v) slots
    where
      by-case : (value_of SubChar v ≡ None) ⊎ ((c : List ℕ) × (value_of SubChar v ≡ Some (Sub (code_of c))) × SubcharValue c v) → Slots h ps → After (key_text SubChar) (value_of SubChar v)
      by-case (inl u) s = unfit (value_of SubChar v) u fit
      by-case (inr (c, e, f)) s =
          let g = subst (λ (x : List ℕ). SubcharValue x v) (sym (unpacked-packed c (BytesValue⇒AllByte c v f.1) f.0)) f in
          subst (After (key_text SubChar)) (sym e) ((s.0, s.1, s.2, s.3, given v s.4 (ap flag again) (omega arith) g, s.5), held.1)

  sub1-passes : Passes (key_text SubChar1) SubChar1
  unfolding n11 keep_value keep_row is_row values_of same
  sub1-passes again fit built ranged = by-case (sub1-cases v) slots
    where
      by-case : (value_of SubChar1 v ≡ None) ⊎ ((b : ℕ) × (value_of SubChar1 v ≡ Some (Sub1 b)) × BytesValue (b ∷ []) v) → Slots h ps → After (key_text SubChar1) (value_of SubChar1 v)
      by-case (inl u) s = unfit (value_of SubChar1 v) u fit
      by-case (inr (b, e, f)) s = subst (After (key_text SubChar1)) (sym e) ((s.0, s.1, s.2, s.3, s.4, given v s.5 (ap flag again) (omega arith) (b, refl, f)), held.1)

  state-passes : Passes (key_text State) State
  unfolding keep_value keep_row is_row values_of same
  state-passes again fit built ranged = by-case (row-cases v)
    where
      by-case : RowCase v → After (key_text State) (value_of State v)
      by-case (inl u) = unfit (value_of State v) u fit
      by-case (inr (k, l, o, e, f, x, y)) =
          let r = row-passed lim (length rows) k l o v f x y (sym (ap (n14 (length rows)) e) ∙ built) (sym (ap (n15 lim (length rows)) e) ∙ ranged) in
          subst (After (key_text State)) (sym e) (slots, rows-own rows (values_of State ps) (values_of Base ps) v r held.1)

  -- a key that is ignored
  other-passes : (w : List ℕ) → KeyMeans w Other → After w (Some Any)
  unfolding keep_value keep_row is_row values_of
  other-passes w (a, b, c, d, e, f, g, i) = rw (a, b, c, d, e, f, g, i) held

  -- whatever the key
  pub key-passes : (w : List ℕ) (k : Key) → KeyMeans w k → Passes w k
  unfolding value_of
  key-passes w CodeSetName m = subst (λ (x : List ℕ). Passes x CodeSetName) (sym m) name-passes
  key-passes w CurMin m = subst (λ (x : List ℕ). Passes x CurMin) (sym m) min-passes
  key-passes w CurMax m = subst (λ (x : List ℕ). Passes x CurMax) (sym m) max-passes
  key-passes w ConvClass m = subst (λ (x : List ℕ). Passes x ConvClass) (sym m) class-passes
  key-passes w SubChar m = subst (λ (x : List ℕ). Passes x SubChar) (sym m) sub-passes
  key-passes w SubChar1 m = subst (λ (x : List ℕ). Passes x SubChar1) (sym m) sub1-passes
  key-passes w State m = subst (λ (x : List ℕ). Passes x State) (sym m) state-passes
  key-passes w Base m = λ again fit built ranged. later (length rows) (Some Unbuilt) refl built
  key-passes w Other m = λ again fit built ranged. other-passes w m
