-- The numbers that the grammar decides: 10, 12, 14 and 15 hold at a line exactly where the grammar says so.
-- ten-exactly, twelve-exactly, fourteen-exactly, fifteen-exactly: of the conditions at a line, given any reading before it
use Rattle.table.specs.declared.value.Class.TheVariants.{Sbcs, Mbcs}
use Rattle.table.specs.declared.states.Code.{Code}
use Rattle.table.specs.Codes.{code_of}
use Rattle.table.specs.Header.{ReadValue}
use Rattle.std.specs.Prelude.{Some, None}
use Rattle.table.specs.Header.{ReadLine}
use Prim.Native.Nat.{ℕ, ◌<◌, ◌≤◌}
use mathlib.Core.Path.{◌≡◌, refl, sym, ap, ◌∙◌, subst}
use mathlib.Core.Logic.{◌⊎◌, inl, inr, ◌↔◌}
use mathlib.Core.Bool.{Bool, true, false}
use mathlib.Core.List.{List, [], ◌∷◌, ◌++◌}
use native.Mathlib.Omega.{arith}
use lib.ListN.{length}
use lib.Dec.{ltb, leb, eqb}
use borrow.Author.Tests.{ltb-true, lt-ltb, leb-true, le-leb, eqb-true}
use Rattle.lists.specs.Pick.{pick}
use Rattle.lists.specs.Order.{All, In}
use Rattle.lists.specs.Ascii.{ascii}
use Rattle.lists.proofs.Laws.{clash}
use Rattle.lists.proofs.Choice.{pick-true-true}
use Rattle.table.specs.Limits.{Limits}
use Rattle.table.specs.Cells.{Cell}
use Rattle.table.specs.Meaning.{Line}
use Rattle.lists.specs.Strings.{same}
use Rattle.lists.specs.Tests.{any_of}
use Rattle.table.specs.Row.{entries_of, unbuilt_entry, over_entry}
use Rattle.table.specs.Header.{key_of, class_name, value_of, header_line_of}
use Rattle.table.specs.Mapping.{BodyLine, no_form, reserved, blank, ending, mapping, body_line_of, after_end_of}
use Rattle.table.specs.Numbers.{Cond, cond, refusal_number, n11, n12, n14, n15, row_unbuilt, row_over, key_conditions, charmap_conditions, mapping_conditions, n10_behind, n14_behind, form_conditions, behind_conditions, end_conditions}
use Rattle.table.specs.Load.{Reading, line_as, header_asks, mapping_asks, last_asks, phase_asks}
use Rattle.table.specs.FirstLine.{conditions_at}
use Rattle.table.specs.Grammar.{CharmapLine, AnyMapping, UnbuiltMapping, Pair, Quoted, key_text, classes, N10, Keyed, Fit, N12, UnbuiltPair, N14, N15}
use Rattle.table.specs.Keys.{Keys}
use Rattle.table.specs.declared.header.HeaderLine.TheVariants as header
use Rattle.table.specs.declared.load.Refusal.{Refusal}
use Rattle.table.specs.declared.load.Refusal.TheVariants as refusal
use Rattle.table.specs.declared.load.Phase.{Phase}
use Rattle.table.specs.declared.load.Phase.TheVariants.{Header, Mappings, Ended}
use Rattle.table.proofs.SeriesRead.{several}
use Rattle.table.proofs.MappingRead.{form_of, any-mapping-reads, unbuilt-mapping-reads}
use Rattle.table.proofs.RowRead.{row_reads}
use Rattle.table.proofs.RowWritten.{RowCase, row-cases}
use Rattle.table.proofs.RowEntries.{some-unbuilt, some-over}
use Rattle.table.proofs.HeaderRead.{LineMeans, line-written, key-line-reads, blank-line-reads, charmap-line-reads}
use Rattle.table.proofs.ValueRead.{name-reads, name-cases, min-reads, min_cases, max-reads, max_cases, class-reads, ClassCase, class_cases, sub-reads, sub_cases, sub1-reads, sub1-cases}
use Rattle.table.proofs.FormsRead.{FormMeans, form-written, blank-body, charmap-body, end_body, LastMeans, last_written, blank-last, charmap-last}
use Rattle.table.proofs.KeysHeld.{pair, KeyMeans, key-means}
use Rattle.table.proofs.OneMore.{rows_over}
use Rattle.table.specs.declared.value.Key.{Key}
use Rattle.table.specs.declared.value.Key.TheVariants.{CodeSetName, CurMin, CurMax, ConvClass, SubChar, SubChar1, State, Base, Other}
use Rattle.table.specs.declared.value.Value.TheVariants.{Any, Name, Min, Max, Class, Sub, Sub1, Unbuilt}

-- ## Conditions of one refusal

-- none of these is about refusal x
abbrev NotOf : Refusal → List Cond → Type 0
NotOf x cs = All (λ c. refusal_number x ≡ refusal_number c.refusal → ⊥) cs

not_in : (x : Refusal) (cs : List Cond) → NotOf x cs → In (cond x true) cs → ⊥
not_in x [] a i = i
not_in x (c ∷ cs) a (inl e) = a.0 (ap (λ (y : Cond). refusal_number y.refusal) e)
not_in x (c ∷ cs) a (inr i) = not_in x cs a.1 i

-- the one condition about x, among others
in-exactly : (x : Refusal) (b : Bool) (before after : List Cond) → NotOf x before → NotOf x after → In (cond x true) (before ++ (cond x b ∷ after)) ↔ (b ≡ true)
in-exactly x b [] after u v = (there, λ e. inl (ap (cond x) (sym e)))
  where
    there : In (cond x true) (cond x b ∷ after) → b ≡ true
    there (inl e) = sym (ap (λ (y : Cond). y.holds) e)
    there (inr i) = absurd (not_in x after v i)
in-exactly x b (c ∷ before) after u v = (there (in-exactly x b before after u.1 v).0, λ e. inr ((in-exactly x b before after u.1 v).1 e))
  where
    there : (In (cond x true) (before ++ (cond x b ∷ after)) → b ≡ true) → In (cond x true) (c ∷ (before ++ (cond x b ∷ after))) → b ≡ true
    there ih (inl e) = absurd (u.0 (ap (λ (y : Cond). refusal_number y.refusal) e))
    there ih (inr i) = ih i

module _ (lim : Limits) (h : Keys) (n : ℕ) (k : Key) (v : ReadValue) where
  in-unfit : In (cond refusal.UnfitValue true) (key_conditions lim h n k v) ↔ (n12 v ≡ true)
  unfolding key_conditions
  in-unfit =
      in-exactly refusal.UnfitValue (n12 v) (cond refusal.KeyAgain (n11 h k) ∷ []) (cond refusal.NotBuilt (n14 n v) ∷ cond refusal.OutOfRange (n15 lim n v) ∷ [])
      (λ e. omega arith, tt) (λ e. omega arith, (λ e. omega arith, tt))

  in-unbuilt : In (cond refusal.NotBuilt true) (key_conditions lim h n k v) ↔ (n14 n v ≡ true)
  unfolding key_conditions
  in-unbuilt =
      in-exactly refusal.NotBuilt (n14 n v) (cond refusal.KeyAgain (n11 h k) ∷ cond refusal.UnfitValue (n12 v) ∷ []) (cond refusal.OutOfRange (n15 lim n v) ∷ [])
      (λ e. omega arith, (λ e. omega arith, tt)) (λ e. omega arith, tt)

  in-over : In (cond refusal.OutOfRange true) (key_conditions lim h n k v) ↔ (n15 lim n v ≡ true)
  unfolding key_conditions
  in-over =
      in-exactly refusal.OutOfRange (n15 lim n v) (cond refusal.KeyAgain (n11 h k) ∷ cond refusal.UnfitValue (n12 v) ∷ cond refusal.NotBuilt (n14 n v) ∷ []) []
      (λ e. omega arith, (λ e. omega arith, (λ e. omega arith, tt))) tt

  not_key : NotOf refusal.NoForm (key_conditions lim h n k v)
  unfolding key_conditions
  not_key = (λ e. omega arith, (λ e. omega arith, (λ e. omega arith, (λ e. omega arith, tt))))

-- ## A key's value

-- a test that fails for every class fails for the class of each word
class-test : (f : ReadValue → Bool) → f (Some (Class Sbcs)) ≡ false → f (Some (Class Mbcs)) ≡ false → f (Some Unbuilt) ≡ false → (w : List ℕ) → In w classes → f (class_name w) ≡ false
unfolding class_name same
class-test f a b c w (inl i) = ap (λ (x : List ℕ). f (class_name x)) i ∙ a
class-test f a b c w (inr (inl i)) = ap (λ (x : List ℕ). f (class_name x)) i ∙ b
class-test f a b c w (inr (inr (inl i))) = ap (λ (x : List ℕ). f (class_name x)) i ∙ c
class-test f a b c w (inr (inr (inr (inl i)))) = ap (λ (x : List ℕ). f (class_name x)) i ∙ c
class-test f a b c w (inr (inr (inr (inr i)))) = absurd i

-- a value that has its form is not unfit
fit-reads : (k : Key) (v : List ℕ) → Fit k v → n12 (value_of k v) ≡ false
unfolding n12 value_of
fit-reads CodeSetName v f = ap n12 (name-reads v f)
fit-reads CurMin v (d, f) = ap n12 (min-reads d v f)
fit-reads CurMax v (d, f) = ap n12 (max-reads d v f)
fit-reads ConvClass v (w, q, i) = ap n12 (class-reads w v q) ∙ class-test n12 refl refl refl w i
fit-reads SubChar v (c, f) = ap n12 (sub-reads c v f)
fit-reads SubChar1 v (b, f) = ap n12 (sub1-reads b v f)
fit-reads State v (k, es, f) = ap n12 (row_reads k es v f).1
fit-reads Base v f = refl
fit-reads Other v f = refl

-- and every value is unfit, or has its form
else-by : {A B C : Type 0} → A ⊎ B → (B → C) → A ⊎ C
else-by (inl a) f = inl a
else-by (inr b) f = inr (f b)

fit-cases : (k : Key) (v : List ℕ) → (value_of k v ≡ None) ⊎ Fit k v
fit-cases CodeSetName v = else-by (name-cases v) (λ x. x.1)
fit-cases CurMin v = else-by (min_cases v) (λ x. (x.0, x.2))
fit-cases CurMax v = else-by (max_cases v) (λ x. (x.0, x.2))
fit-cases ConvClass v = else-by (class_cases v) (λ x. (x.0, x.1, x.3))
fit-cases SubChar v = else-by (sub_cases v) (λ x. (x.0, x.2))
fit-cases SubChar1 v = else-by (sub1-cases v) (λ x. (x.0, x.2))
fit-cases State v = else-by (row-cases v) (λ x. (x.0, entries_of v, x.4))
fit-cases Base v = inr tt
fit-cases Other v = inr tt

-- the word of each key is read as that key
key-read : (k : Key) → key_of (key_text k) ≡ k
unfolding key_of same
key-read CodeSetName = refl
key-read CurMin = refl
key-read CurMax = refl
key-read ConvClass = refl
key-read SubChar = refl
key-read SubChar1 = refl
key-read State = refl
key-read Base = refl
key-read Other = refl

known-other : (k : Key) → k ≡ Other → 1 ≤ length (key_text k) → ⊥
known-other k e one = let z : length (key_text k) ≡ 0 = ap (λ (x : Key). length (key_text x)) e in omega arith

key-known : (w : List ℕ) (k : Key) → KeyMeans w k → (w ≡ key_text k) ⊎ (k ≡ Other)
key-known w CodeSetName m = inl m
key-known w CurMin m = inl m
key-known w CurMax m = inl m
key-known w ConvClass m = inl m
key-known w SubChar m = inl m
key-known w SubChar1 m = inl m
key-known w State m = inl m
key-known w Base m = inl m
key-known w Other m = inr refl

-- rows under 14 and 15, by what their entries are
unbuilt-row : (n k : ℕ) (l : Bool) (L : Type 0) → (l ≡ true) ↔ L → (row_unbuilt n k l ≡ true) ↔ ((k ≡ 2) ⊎ (((k ≡ 1) × (1 ≤ n)) ⊎ L))
unfolding row_unbuilt
unbuilt-row n k l L is = (there l refl (eqb k 2) refl (eqb k 1) refl, back)
  where
    there : (w : Bool) → l ≡ w → (x : Bool) → eqb k 2 ≡ x → (y : Bool) → eqb k 1 ≡ y → pick w true (pick x true (pick y (ltb 0 n) false)) ≡ true
        → (k ≡ 2) ⊎ (((k ≡ 1) × (1 ≤ n)) ⊎ L)
    there true r x p y q h = inr (inr (is.0 r))
    there false r true p y q h = inl (eqb-true k 2 p)
    there false r false p true q h = inr (inl (eqb-true k 1 q, ltb-true 0 n h))
    there false r false p false q h = absurd (clash h refl)

    back : (k ≡ 2) ⊎ (((k ≡ 1) × (1 ≤ n)) ⊎ L) → pick l true (pick (eqb k 2) true (pick (eqb k 1) (ltb 0 n) false)) ≡ true
    back (inl e) = rw e (pick-true-true l)
    back (inr (inl (e, one))) = rw (e, lt-ltb 0 n one) (pick-true-true l)
    back (inr (inr s)) = rw (is.1 s)

over-row : (lim : Limits) (n : ℕ) (o : Bool) (O : Type 0) → (o ≡ true) ↔ O → (row_over lim n o ≡ true) ↔ (O ⊎ (lim.rows ≤ n))
over-row lim n o O is = (λ e. there o refl (sym (rows_over lim n o) ∙ e), λ c. rows_over lim n o ∙ back c)
  where
    there : (x : Bool) → o ≡ x → pick x true (leb lim.rows n) ≡ true → O ⊎ (lim.rows ≤ n)
    there true r h = inl (is.0 r)
    there false r h = inr (leb-true lim.rows n h)

    back : O ⊎ (lim.rows ≤ n) → pick o true (leb lim.rows n) ≡ true
    back (inl s) = rw (is.1 s)
    back (inr h) = rw (le-leb lim.rows n h) (pick-true-true o)

-- a test that fails for values of all keys but three
record Silent (f : ReadValue → Bool) : Type 0 where
  unfit : f None ≡ false
  any : f (Some Any) ≡ false
  name : f (Some Name) ≡ false
  min : (d : ℕ) → f (Some (Min d)) ≡ false
  max : (d : ℕ) → f (Some (Max d)) ≡ false
  sub : (c : Code) → f (Some (Sub c)) ≡ false
  sub1 : (b : ℕ) → f (Some (Sub1 b)) ≡ false

never : {A B : Type 0} (f : ReadValue → Bool) (x : ReadValue) → f None ≡ false → (x ≡ None) ⊎ B → (B → f x ≡ false) → f x ≡ true → A
never f x z (inl u) g e = absurd (clash e (ap f u ∙ z))
never f x z (inr b) g e = absurd (clash e (g b))

speaks : (f : ReadValue → Bool) → Silent f → (k : Key) (v : List ℕ) → f (value_of k v) ≡ true → (k ≡ ConvClass) ⊎ ((k ≡ State) ⊎ (k ≡ Base))
unfolding value_of
speaks f q CodeSetName v e = never f (value_of CodeSetName v) q.unfit (name-cases v) (λ b. ap f b.0 ∙ q.name) e
speaks f q CurMin v e = never f (value_of CurMin v) q.unfit (min_cases v) (λ b. ap f b.1 ∙ q.min b.0) e
speaks f q CurMax v e = never f (value_of CurMax v) q.unfit (max_cases v) (λ b. ap f b.1 ∙ q.max b.0) e
speaks f q ConvClass v e = inl refl
speaks f q SubChar v e = never f (value_of SubChar v) q.unfit (sub_cases v) (λ b. ap f b.1 ∙ q.sub (code_of b.0)) e
speaks f q SubChar1 v e = never f (value_of SubChar1 v) q.unfit (sub1-cases v) (λ b. ap f b.1 ∙ q.sub1 b.0) e
speaks f q State v e = inr (inl refl)
speaks f q Base v e = inr (inr refl)
speaks f q Other v e = absurd (clash e q.any)

module _ (w v : List ℕ) where
  abbrev read : ReadValue
  read = value_of (key_of w) v

  -- by its word, what is read of a key
  read_as_lem : (k : Key) → w ≡ key_text k → read ≡ value_of k v
  read_as_lem k m = ap (λ (x : Key). value_of x v) (ap key_of m ∙ key-read k)

  -- 12
  twelve-pair : (n12 read ≡ true) ↔ N12 (pair w v)
  unfolding n12 value_of
  twelve-pair = (λ e. by_key_lem (key-known w (key_of w) (key-means w)) e, back)
    where
      by_key_lem : (w ≡ key_text (key_of w)) ⊎ (key_of w ≡ Other) → n12 (value_of (key_of w) v) ≡ true → N12 (pair w v)
      by_key_lem (inl m) e = (key_of w, m, λ f. clash e (fit-reads (key_of w) v f))
      by_key_lem (inr m) e = absurd (clash e (ap (λ (k : Key). n12 (value_of k v)) m))

      unfit : (k : Key) → (Fit k v → ⊥) → (value_of k v ≡ None) ⊎ Fit k v → n12 (value_of k v) ≡ true
      unfit k n (inl u) = ap n12 u
      unfit k n (inr f) = absurd (n f)

      back : N12 (pair w v) → n12 (value_of (key_of w) v) ≡ true
      back (k, m, n) = ap n12 (read_as_lem k m) ∙ unfit k n (fit-cases k v)

  -- a key that is not ignored is read as its word
  word_of : (k : Key) → (k ≡ Other → ⊥) → key_of w ≡ k → w ≡ key_text k
  word_of k n e = by-known (key-known w (key_of w) (key-means w))
    where
      by-known : (w ≡ key_text (key_of w)) ⊎ (key_of w ≡ Other) → w ≡ key_text k
      by-known (inl m) = m ∙ ap key_text e
      by-known (inr m) = absurd (n (sym e ∙ m))

  -- 14, with n rows before it
  fourteen-pair : (n : ℕ) → (n14 n read ≡ true) ↔ UnbuiltPair n (pair w v)
  unfolding n14 value_of class_name same
  fourteen-pair n = (λ e. by_key_lem (speaks (n14 n) silent (key_of w) v e) e, back)
    where
      silent : Silent (n14 n)
      silent = record { unfit = refl; any = refl; name = refl; min = λ d. refl; max = λ d. refl; sub = λ c. refl; sub1 = λ b. refl }

      by_word : w ≡ key_text ConvClass → (x : List ℕ) → Quoted x v → n14 n (class_name x) ≡ true → In x classes → UnbuiltPair n (pair w v)
      by_word m x q e (inl i) = absurd (clash e (ap (λ (y : List ℕ). n14 n (class_name y)) i))
      by_word m x q e (inr (inl i)) = absurd (clash e (ap (λ (y : List ℕ). n14 n (class_name y)) i))
      by_word m x q e (inr (inr (inl i))) = inr (inl (m, inl (subst (λ (y : List ℕ). Quoted y v) i q)))
      by_word m x q e (inr (inr (inr (inl i)))) = inr (inl (m, inr (subst (λ (y : List ℕ). Quoted y v) i q)))
      by_word m x q e (inr (inr (inr (inr i)))) = absurd i

      by-class : w ≡ key_text ConvClass → ClassCase v → n14 n (value_of ConvClass v) ≡ true → UnbuiltPair n (pair w v)
      by-class m (inl u) e = absurd (clash e (ap (n14 n) u))
      by-class m (inr (x, q, c, i)) e = by_word m x q (sym (ap (n14 n) c) ∙ e) i

      by_row : w ≡ key_text State → RowCase v → n14 n (value_of State v) ≡ true → UnbuiltPair n (pair w v)
      by_row m (inl u) e = absurd (clash e (ap (n14 n) u))
      by_row m (inr (k, l, o, c, f, x, y)) e =
          let z : row_unbuilt n k (any_of unbuilt_entry (entries_of v)) ≡ true = ap (row_unbuilt n k) (sym x) ∙ sym (ap (n14 n) c) ∙ e in
          inr (inr (m, (k, entries_of v, f, (unbuilt-row n k (any_of unbuilt_entry (entries_of v)) _ (some-unbuilt (entries_of v))).0 z)))

      by_key_lem : (key_of w ≡ ConvClass) ⊎ ((key_of w ≡ State) ⊎ (key_of w ≡ Base)) → n14 n (value_of (key_of w) v) ≡ true → UnbuiltPair n (pair w v)
      by_key_lem (inl k) e = by-class (word_of ConvClass (λ z. known-other ConvClass z (omega arith)) k) (class_cases v) (sym (ap (λ (x : Key). n14 n (value_of x v)) k) ∙ e)
      by_key_lem (inr (inl k)) e = by_row (word_of State (λ z. known-other State z (omega arith)) k) (row-cases v) (sym (ap (λ (x : Key). n14 n (value_of x v)) k) ∙ e)
      by_key_lem (inr (inr k)) e = inl (word_of Base (λ z. known-other Base z (omega arith)) k)

      back : UnbuiltPair n (pair w v) → n14 n (value_of (key_of w) v) ≡ true
      back (inl m) = ap (n14 n) (read_as_lem Base m)
      back (inr (inl (m, inl q))) = ap (n14 n) (read_as_lem ConvClass m ∙ class-reads (ascii "DBCS") v q)
      back (inr (inl (m, inr q))) = ap (n14 n) (read_as_lem ConvClass m ∙ class-reads (ascii "EBCDIC_STATEFUL") v q)
      back (inr (inr (m, (k, es, f, c)))) = ap (n14 n) (read_as_lem State m ∙ (row_reads k es v f).1) ∙ (unbuilt-row n k (any_of unbuilt_entry es) _ (some-unbuilt es)).1 c

  -- 15
  fifteen-pair : (lim : Limits) (n : ℕ) → (n15 lim n read ≡ true) ↔ N15 lim.rows n (pair w v)
  unfolding n15 value_of
  fifteen-pair lim n = (λ e. by_key_lem (speaks (n15 lim n) silent (key_of w) v e) e, back)
    where
      silent : Silent (n15 lim n)
      silent = record { unfit = refl; any = refl; name = refl; min = λ d. refl; max = λ d. refl; sub = λ c. refl; sub1 = λ b. refl }

      by_row : w ≡ key_text State → RowCase v → n15 lim n (value_of State v) ≡ true → N15 lim.rows n (pair w v)
      by_row m (inl u) e = absurd (clash e (ap (n15 lim n) u))
      by_row m (inr (k, l, o, c, f, x, y)) e =
          let z : row_over lim n (any_of over_entry (entries_of v)) ≡ true = ap (row_over lim n) (sym y) ∙ sym (ap (n15 lim n) c) ∙ e in
          (m, (k, entries_of v, f, (over-row lim n (any_of over_entry (entries_of v)) _ (some-over (entries_of v))).0 z))

      by_key_lem : (key_of w ≡ ConvClass) ⊎ ((key_of w ≡ State) ⊎ (key_of w ≡ Base)) → n15 lim n (value_of (key_of w) v) ≡ true → N15 lim.rows n (pair w v)
      by_key_lem (inl k) e =
          never (n15 lim n) (value_of ConvClass v) refl (class_cases v) (λ b. ap (n15 lim n) b.2 ∙ class-test (n15 lim n) refl refl refl b.0 b.3)
          (sym (ap (λ (x : Key). n15 lim n (value_of x v)) k) ∙ e)
      by_key_lem (inr (inl k)) e = by_row (word_of State (λ z. known-other State z (omega arith)) k) (row-cases v) (sym (ap (λ (x : Key). n15 lim n (value_of x v)) k) ∙ e)
      by_key_lem (inr (inr k)) e = absurd (clash e (ap (λ (x : Key). n15 lim n (value_of x v)) k))

      back : N15 lim.rows n (pair w v) → n15 lim n (value_of (key_of w) v) ≡ true
      back (m, (k, es, f, c)) = ap (n15 lim n) (read_as_lem State m ∙ (row_reads k es v f).1) ∙ (over-row lim n (any_of over_entry es) _ (some-over es)).1 c

-- ## A line before CHARMAP

module _ (lim : Limits) (h : Keys) (rows : List (List Cell)) where
  -- a number of a key's value, at the line
  keyed-exactly : (x : Refusal) (f : ReadValue → Bool) (P : Pair → Type 0) → ((k : Key) (v : ReadValue) → In (cond x true) (key_conditions lim h (length rows) k v) ↔ (f v ≡ true))
      → ((w v : List ℕ) → (f (value_of (key_of w) v) ≡ true) ↔ P (pair w v)) → NotOf x (cond refusal.NoForm true ∷ []) → NotOf x (charmap_conditions h rows) → (s : List ℕ)
      → In (cond x true) (header_asks lim h rows s (header_line_of s)).conditions ↔ Keyed P Header s
  keyed-exactly x f P at is no-form no-charmap s = (there (header_line_of s) (line-written s), back)
    where
      there : (y : ReadLine) → LineMeans s y → In (cond x true) (header_asks lim h rows s y).conditions → Keyed P Header s
      there None m i = absurd (not_in x (cond refusal.NoForm true ∷ []) no-form i)
      there (Some header.Blank) m i = absurd (not_in x (form_conditions (Some header.Blank)) no-form i)
      there (Some header.Charmap) m i = absurd (not_in x (charmap_conditions h rows) no-charmap i)
      there (Some (header.Known k v q e)) (p, line, key, value, part) i =
          (p, line, (is p.key p.value).0 (ap (λ (z : Key). f (value_of z p.value)) (sym key) ∙ ap f (sym value) ∙ (at k v).0 i))

      back : Keyed P Header s → In (cond x true) (header_asks lim h rows s (header_line_of s)).conditions
      back (p, line, c) =
          let Line-read = key-line-reads p s line in
          subst (λ (y : ReadLine). In (cond x true) (header_asks lim h rows s y).conditions) (sym Line-read.line)
          ((at (key_of p.key) (value_of (key_of p.key) p.value)).1 ((is p.key p.value).1 c))

  -- 10
  header-ten : (s : List ℕ) → In (cond refusal.NoForm true) (header_asks lim h rows s (header_line_of s)).conditions ↔ N10 Header s
  unfolding charmap_conditions
  header-ten s = (there (header_line_of s) refl, back (header_line_of s) (line-written s))
    where
      there : (y : ReadLine) → header_line_of s ≡ y → In (cond refusal.NoForm true) (header_asks lim h rows s y).conditions → N10 Header s
      there None e i = (
        λ b. (let k : None ≡ Some header.Blank = sym e ∙ blank-line-reads s b in let z : ◌≡◌ {A = ℕ} 0 1 = cc in omega arith),
        λ c. (let k : None ≡ Some header.Charmap = sym e ∙ charmap-line-reads s c in let z : ◌≡◌ {A = ℕ} 0 1 = cc in omega arith),
        λ p l. (let Line-read = key-line-reads p s l in
            let k : None ≡ Some (header.Known (key_of p.key) (value_of (key_of p.key) p.value) Line-read.from Line-read.to) = sym e ∙ Line-read.line in
            let z : ◌≡◌ {A = ℕ} 0 1 = cc in omega arith),
      )
      there (Some header.Blank) e i = absurd (clash ((in-exactly refusal.NoForm false [] [] tt tt).0 i) refl)
      there (Some header.Charmap) e i = absurd (not_in refusal.NoForm (charmap_conditions h rows) (λ z. omega arith, (λ z. omega arith, tt)) i)
      there (Some (header.Known k v q z)) e i = absurd (not_in refusal.NoForm (key_conditions lim h (length rows) k v) (not_key lim h (length rows) k v) i)

      back : (y : ReadLine) → LineMeans s y → N10 Header s → In (cond refusal.NoForm true) (header_asks lim h rows s y).conditions
      back None m n = inl refl
      back (Some header.Blank) m n = absurd (n.0 m)
      back (Some header.Charmap) m n = absurd (n.1 m)
      back (Some (header.Known k v q e)) m n = absurd (n.2 m.0 m.1)

-- ## A line from CHARMAP on, by its form

in-no-form : (ended : Bool) (f : BodyLine) → In (cond refusal.NoForm true) (behind_conditions ended f) ↔ (n10_behind ended f ≡ true)
in-no-form ended f = in-exactly refusal.NoForm (n10_behind ended f) [] (cond refusal.NotBuilt (n14_behind f) ∷ []) tt (λ z. omega arith, tt)

in-reserved : (ended : Bool) (f : BodyLine) → In (cond refusal.NotBuilt true) (behind_conditions ended f) ↔ (n14_behind f ≡ true)
in-reserved ended f = in-exactly refusal.NotBuilt (n14_behind f) (cond refusal.NoForm (n10_behind ended f) ∷ []) [] (λ z. omega arith, tt) tt

-- ## A line between CHARMAP and END CHARMAP

no-form-mapped : (us c : List ℕ) (joined plus : Bool) (d : ℕ) (s : List ℕ) → AnyMapping us c joined plus d s → no_form ≡ form_of us c plus d → ⊥
no-form-mapped [] c joined plus d s m e = m.points
no-form-mapped (u ∷ us) c joined plus d s m e = by_form (pick (eqb (several 0 us) 1) true plus) (eqb d 4) e
  where
    by_form : (x y : Bool) → no_form ≡ pick x reserved (pick y reserved (mapping u c d)) → ⊥
    by_form true y k = let z : ◌≡◌ {A = ℕ} 0 1 = cc in omega arith
    by_form false true k = let z : ◌≡◌ {A = ℕ} 0 1 = cc in omega arith
    by_form false false k = let z : ◌≡◌ {A = ℕ} 0 1 = cc in omega arith

module _ (lim : Limits) (h : Keys) (rows : List (List Cell)) (ls : List Line) where
  not-mapped : (x : Refusal) → refusal_number x < 20 → (l : Line) → NotOf x (mapping_conditions lim h rows ls l)
  unfolding mapping_conditions
  not-mapped x n l =
      (λ e. omega arith, (λ e. omega arith, (λ e. omega arith, (λ e. omega arith, (λ e. omega arith, (λ e. omega arith, (λ e. omega arith, tt)))))))

  body-ten : (s : List ℕ) → In (cond refusal.NoForm true) (mapping_asks lim h rows ls (body_line_of s)).conditions ↔ N10 Mappings s
  body-ten s = (there (body_line_of s) refl, back (body_line_of s) (form-written s))
    where
      there : (f : BodyLine) → body_line_of s ≡ f → In (cond refusal.NoForm true) (mapping_asks lim h rows ls f).conditions → N10 Mappings s
      there no_form e i = (
        λ b. (let k : no_form ≡ blank = sym e ∙ blank-body s b in let z : ◌≡◌ {A = ℕ} 0 1 = cc in omega arith),
        λ c. (let k : no_form ≡ reserved = sym e ∙ charmap-body s c in let z : ◌≡◌ {A = ℕ} 0 1 = cc in omega arith),
        λ c. (let k : no_form ≡ ending = sym e ∙ end_body s c in let z : ◌≡◌ {A = ℕ} 0 1 = cc in omega arith),
        λ us c joined plus d m. no-form-mapped us c joined plus d s m (sym e ∙ any-mapping-reads us c joined plus d s m),
      )
      there reserved e i = absurd (clash ((in-no-form false reserved).0 i) refl)
      there blank e i = absurd (clash ((in-no-form false blank).0 i) refl)
      there ending e i = absurd (not_in refusal.NoForm (end_conditions ls) (λ z. omega arith, tt) i)
      there (mapping u c d) e i = absurd (not_in refusal.NoForm (mapping_conditions lim h rows ls (line_as u c d)) (not-mapped refusal.NoForm (omega arith) (line_as u c d)) i)

      back : (f : BodyLine) → FormMeans s f → N10 Mappings s → In (cond refusal.NoForm true) (mapping_asks lim h rows ls f).conditions
      back no_form m n = inl refl
      back reserved (inl m) n = absurd (n.1 m)
      back reserved (inr (us, c, joined, plus, d, m, z)) n = absurd (n.3 us c joined plus d m)
      back blank m n = absurd (n.0 m)
      back ending m n = absurd (n.2 m)
      back (mapping u c d) (z, m) n = absurd (n.3 (u ∷ []) c false false d m)

  body-fourteen : (s : List ℕ) → In (cond refusal.NotBuilt true) (mapping_asks lim h rows ls (body_line_of s)).conditions ↔ (CharmapLine s ⊎ UnbuiltMapping s)
  body-fourteen s = (there (body_line_of s) (form-written s), back)
    where
      there : (f : BodyLine) → FormMeans s f → In (cond refusal.NotBuilt true) (mapping_asks lim h rows ls f).conditions → CharmapLine s ⊎ UnbuiltMapping s
      there no_form m i = absurd (clash ((in-reserved false no_form).0 i) refl)
      there reserved m i = m
      there blank m i = absurd (clash ((in-reserved false blank).0 i) refl)
      there ending m i = absurd (not_in refusal.NotBuilt (end_conditions ls) (λ z. omega arith, tt) i)
      there (mapping u c d) m i = absurd (not_in refusal.NotBuilt (mapping_conditions lim h rows ls (line_as u c d)) (not-mapped refusal.NotBuilt (omega arith) (line_as u c d)) i)

      reserved-in : body_line_of s ≡ reserved → In (cond refusal.NotBuilt true) (mapping_asks lim h rows ls (body_line_of s)).conditions
      reserved-in e = subst (λ (f : BodyLine). In (cond refusal.NotBuilt true) (mapping_asks lim h rows ls f).conditions) (sym e) ((in-reserved false reserved).1 refl)

      back : CharmapLine s ⊎ UnbuiltMapping s → In (cond refusal.NotBuilt true) (mapping_asks lim h rows ls (body_line_of s)).conditions
      back (inl c) = reserved-in (charmap-body s c)
      back (inr m) = reserved-in (unbuilt-mapping-reads s m)

  -- a refusal of header lines alone
  body-none : (x : Refusal) → NotOf x (cond refusal.NoForm true ∷ []) → NotOf x (cond refusal.NotBuilt true ∷ []) → refusal_number x < 20 → (f : BodyLine)
      → In (cond x true) (mapping_asks lim h rows ls f).conditions → ⊥
  body-none x a b n no_form i = not_in x (behind_conditions false no_form) (a.0, b) i
  body-none x a b n reserved i = not_in x (behind_conditions false reserved) (a.0, b) i
  body-none x a b n blank i = not_in x (behind_conditions false blank) (a.0, b) i
  body-none x a b n ending i = not_in x (end_conditions ls) (λ z. omega arith, tt) i
  body-none x a b n (mapping u c d) i = not_in x (mapping_conditions lim h rows ls (line_as u c d)) (not-mapped x n (line_as u c d)) i

-- ## A line behind END CHARMAP

module _ (h : Keys) (rows : List (List Cell)) (ls : List Line) where
  last-ten : (s : List ℕ) → In (cond refusal.NoForm true) (last_asks h rows ls (after_end_of s)).conditions ↔ N10 Ended s
  last-ten s = (λ i. there (after_end_of s) refl (last_written s) i, back (after_end_of s) (last_written s))
    where
      there : (f : BodyLine) → after_end_of s ≡ f → LastMeans s f → In (cond refusal.NoForm true) (last_asks h rows ls f).conditions → N10 Ended s
      there no_form e m i = (
        λ b. (let k : no_form ≡ blank = sym e ∙ blank-last s b in let z : ◌≡◌ {A = ℕ} 0 1 = cc in omega arith),
        λ c. (let k : no_form ≡ reserved = sym e ∙ charmap-last s c in let z : ◌≡◌ {A = ℕ} 0 1 = cc in omega arith),
      )
      there reserved e m i = absurd (clash ((in-no-form true reserved).0 i) refl)
      there blank e m i = absurd (clash ((in-no-form true blank).0 i) refl)
      there ending e m i = absurd m
      there (mapping u c d) e m i = absurd m

      back : (f : BodyLine) → LastMeans s f → N10 Ended s → In (cond refusal.NoForm true) (last_asks h rows ls f).conditions
      back no_form m n = inl refl
      back reserved m n = absurd (n.1 m)
      back blank m n = absurd (n.0 m)
      back ending m n = absurd m
      back (mapping u c d) m n = absurd m

  last-fourteen : (s : List ℕ) → In (cond refusal.NotBuilt true) (last_asks h rows ls (after_end_of s)).conditions ↔ CharmapLine s
  last-fourteen s = (there (after_end_of s) (last_written s), λ c. subst (λ (f : BodyLine). In (cond refusal.NotBuilt true) (last_asks h rows ls f).conditions) (sym (charmap-last s c)) ((in-reserved true reserved).1 refl))
    where
      there : (f : BodyLine) → LastMeans s f → In (cond refusal.NotBuilt true) (last_asks h rows ls f).conditions → CharmapLine s
      there no_form m i = absurd (clash ((in-reserved true no_form).0 i) refl)
      there reserved m i = m
      there blank m i = absurd (clash ((in-reserved true blank).0 i) refl)
      there ending m i = absurd m
      there (mapping u c d) m i = absurd m

  last_none : (x : Refusal) → NotOf x (cond refusal.NoForm true ∷ []) → NotOf x (cond refusal.NotBuilt true ∷ []) → (f : BodyLine) → In (cond x true) (last_asks h rows ls f).conditions → ⊥
  last_none x a b f i = not_in x (behind_conditions true f) (a.0, b) i

-- ## Any line, given what was read before it

module _ (lim : Limits) (h : Keys) (rows : List (List Cell)) (ls : List Line) (s : List ℕ) where
  ten-at : (p : Phase) → In (cond refusal.NoForm true) (phase_asks lim p h rows ls s).conditions ↔ N10 p s
  ten-at Header = header-ten lim h rows s
  ten-at Mappings = body-ten lim h rows ls s
  ten-at Ended = last-ten h rows ls s

  twelve-at : (p : Phase) → In (cond refusal.UnfitValue true) (phase_asks lim p h rows ls s).conditions ↔ Keyed N12 p s
  unfolding charmap_conditions
  twelve-at Header =
      keyed-exactly lim h rows refusal.UnfitValue n12 N12 (in-unfit lim h (length rows)) twelve-pair (λ e. omega arith, tt) (λ e. omega arith, (λ e. omega arith, tt)) s
  twelve-at Mappings = (body-none lim h rows ls refusal.UnfitValue (λ e. omega arith, tt) (λ e. omega arith, tt) (omega arith) (body_line_of s), λ x. absurd x)
  twelve-at Ended = (last_none h rows ls refusal.UnfitValue (λ e. omega arith, tt) (λ e. omega arith, tt) (after_end_of s), λ x. absurd x)

  fourteen-at : (p : Phase) → In (cond refusal.NotBuilt true) (phase_asks lim p h rows ls s).conditions ↔ N14 p (length rows) s
  unfolding charmap_conditions
  fourteen-at Header =
      keyed-exactly lim h rows refusal.NotBuilt (n14 (length rows)) (UnbuiltPair (length rows)) (in-unbuilt lim h (length rows)) (λ w v. fourteen-pair w v (length rows))
      (λ e. omega arith, tt) (λ e. omega arith, (λ e. omega arith, tt)) s
  fourteen-at Mappings = body-fourteen lim h rows ls s
  fourteen-at Ended = last-fourteen h rows ls s

  fifteen-at : (p : Phase) → In (cond refusal.OutOfRange true) (phase_asks lim p h rows ls s).conditions ↔ Keyed (N15 lim.rows (length rows)) p s
  unfolding charmap_conditions
  fifteen-at Header =
      keyed-exactly lim h rows refusal.OutOfRange (n15 lim (length rows)) (N15 lim.rows (length rows)) (in-over lim h (length rows)) (λ w v. fifteen-pair w v lim (length rows))
      (λ e. omega arith, tt) (λ e. omega arith, (λ e. omega arith, tt)) s
  fifteen-at Mappings = (body-none lim h rows ls refusal.OutOfRange (λ e. omega arith, tt) (λ e. omega arith, tt) (omega arith) (body_line_of s), λ x. absurd x)
  fifteen-at Ended = (last_none h rows ls refusal.OutOfRange (λ e. omega arith, tt) (λ e. omega arith, tt) (after_end_of s), λ x. absurd x)

module _ (lim : Limits) (r : Reading) (s : List ℕ) where
  -- 10 IS 'OF NO FORM'
  pub ten-exactly : In (cond refusal.NoForm true) (conditions_at lim r s) ↔ N10 r.phase s
  ten-exactly = ten-at lim r.head r.rows r.lines s r.phase

  -- 12 is a known key whose value has not its form
  pub twelve-exactly : In (cond refusal.UnfitValue true) (conditions_at lim r s) ↔ Keyed N12 r.phase s
  twelve-exactly = twelve-at lim r.head r.rows r.lines s r.phase

  -- 14 and 15 are the forms that they name
  pub fourteen-exactly : In (cond refusal.NotBuilt true) (conditions_at lim r s) ↔ N14 r.phase (length r.rows) s
  fourteen-exactly = fourteen-at lim r.head r.rows r.lines s r.phase

  pub fifteen-exactly : In (cond refusal.OutOfRange true) (conditions_at lim r s) ↔ Keyed (N15 lim.rows (length r.rows)) r.phase s
  fifteen-exactly = fifteen-at lim r.head r.rows r.lines s r.phase
