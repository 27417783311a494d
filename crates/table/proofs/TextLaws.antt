-- Tokens of a line: the byte at a position or past the end, and how far a number's value and place reach.
use denote.Ref.{Bor}
use Rattle.std.specs.Slice.{IsItemAt}
use Rattle.std.specs.List.{slice_range, starts_with}
use Rattle.std.specs.Prelude.{Option, Some, None}
use mathlib.Core.Path.{◌≡◌, refl, sym, ap, subst, ◌∙◌}
use mathlib.Core.Bool.{Bool, true, false, ◌||◌, ◌&&◌}
use mathlib.Core.Logic.{◌⊎◌, inl, inr}
use mathlib.Core.List.{List, [], ◌∷◌}
use Prim.Native.Nat.{ℕ, zero, suc, ◌+◌, ◌*◌, ◌/◌, ◌^◌, ◌<◌, ◌≤◌, ◌-◌}
use native.Mathlib.Numerals.{add-one}
use native.Mathlib.Omega.{arith}
use native.Mathlib.Nat.{add-zero, mul-le-mul_right, pow-suc, pow-le-pow_right, not-suc-le-zero, le_of_suc-le-suc}
use borrow.Author.Tests.{ltb-true, ltb-false, leb-true, leb-false, eqb-false}
use lib.Dec.{ltb, leb, eqb, lit<}
use lib.ListN.{length, get_or, drop, length-drop, get_or-eq_default}
use Rattle.std.proofs.lemmas.List.{get_or-drop}
use lib.Seq.{take-length}
use Rattle.lists.proofs.Laws.{tests, drop_past, clash, ¬true⇒false}
use Rattle.lists.proofs.Cases.{pick-case}
use Rattle.lists.proofs.Choice.{pick-true-false, pick-false-false}
use Rattle.lists.specs.Pick.{pick}
use lib.Pointwise.{pointwise}
use Rattle.lists.specs.Strings.{begins, same}
use Rattle.table.specs.Codes.{packed, AllByte}
use Rattle.table.specs.Text.{digit_of, digit_in, only_if, skip_of, byte_of, ends_at, byte_at, point_digits, unicode_at, plus_at, join_at, ByteSeries, series, broken, with_byte, bytes_more, bytes_from}
use Rattle.table.specs.declared.text.ByteRun.{ByteRun}
use Rattle.table.proofs.Packing.{packed-fits}
use Rattle.table.specs.loops.Coded.{byte_run_of}

-- the byte at a position of a list, or 256 past its end
pub get_d-in : (s : List ℕ) (i : ℕ) → i < length s → get_or s i 256 ≡ get_or s i 0
get_d-in [] i h = absurd (not-suc-le-zero h)
get_d-in (x ∷ xs) zero h = refl
get_d-in (x ∷ xs) (suc i) h = get_d-in xs i (le_of_suc-le-suc h)

pub get_d-out : (s : List ℕ) (i : ℕ) → length s ≤ i → get_or s i 256 ≡ 256
get_d-out s i h = get_or-eq_default s 256 h

pub digit-none : digit_of 256 ≡ 16
unfolding digit_of
digit-none = refl

pub ruleset scan = (tests, get_d-in, get_d-out, digit-none, drop_past)

-- what `get` lends: a byte of the list, or the list from a place on
pub item-some : (s : List ℕ) (at : ℕ) (o : Option (Bor ℕ)) (x : Bor ℕ) → IsItemAt s at o → o ≡ Some x → (at < length s) × (get_or s at 0 ≡ x.now)
item-some s at o x h e = let g = subst (λ (r : Option (Bor ℕ)). IsItemAt s at r) e h in (g.3.0, sym (g.4 (omega arith) 0))

pub item-none : (s : List ℕ) (at : ℕ) (o : Option (Bor ℕ)) → IsItemAt s at o → o ≡ None → length s ≤ at
item-none s at o h e = let g = subst (λ (r : Option (Bor ℕ)). IsItemAt s at r) e h in g.3

-- a list that was cut off at a place is read as the line from there on
pub record Front (s t : List ℕ) (at : ℕ) : Type 0 where
  pub rest : t ≡ drop at s
  pub size : length t ≡ length s - at
  pub here : get_or s at 256 ≡ get_or t 0 256
  pub there : (k : ℕ) → get_or s (at + k) 256 ≡ get_or t k 256

pub front : (s t : List ℕ) (at : ℕ) → t ≡ slice_range s at (length s) → Front s t at
front s t at e =
    let n : length s - at ≡ length (drop at s) = sym (length-drop at s) in
    let d : t ≡ drop at s = e ∙ rw n (take-length (drop at s)) in
    let k : at + 0 ≡ at = omega arith in
    record {
      rest = d;
      size = ap length d ∙ length-drop at s;
      here = rw (d, get_or-drop at s 0 256, k);
      there = λ n. rw (d, get_or-drop at s n 256);
    }

-- the library's test for a prefix
pub starts-begins : (w t : List ℕ) → starts_with eqb t w ≡ begins w t
unfolding begins
starts-begins [] t = refl
starts-begins (a ∷ w) [] = refl
starts-begins (a ∷ w) (b ∷ t) = rw (← starts-begins w t) (both (eqb a b) _)
  where
    both : (p q : Bool) → (p && q) ≡ pick p q false
    both true q = refl
    both false q = refl

-- the library's `==`
pub same_pointwise : (s w : List ℕ) → pointwise eqb s w ≡ same s w
unfolding same
same_pointwise [] [] = refl
same_pointwise [] (b ∷ w) = refl
same_pointwise (a ∷ s) [] = refl
same_pointwise (a ∷ s) (b ∷ w) = rw (← same_pointwise s w) (both (eqb a b) _)
  where
    both : (p q : Bool) → (p && q) ≡ pick p q false
    both true q = refl
    both false q = refl

-- of other lengths
pub same_lengths : (s w : List ℕ) → (length s ≡ length w → ⊥) → same s w ≡ false
unfolding same
same_lengths [] [] k = absurd (k refl)
same_lengths [] (b ∷ w) k = refl
same_lengths (a ∷ s) [] k = refl
same_lengths (a ∷ s) (b ∷ w) k =
    rw (same_lengths s w (λ e. k (omega (arith, e)))) (pick-false-false (eqb a b))

-- nothing, whatever a test says
pub none-if : (t : Bool) → only_if t None ≡ None
none-if true = refl
none-if false = refl

pub outside : (n at : ℕ) → (n < at) ⊎ (n < n) → n ≤ at
outside n at (inl h) = omega arith
outside n at (inr h) = absurd (omega arith)

-- a blank is passed over, and another byte is not
pub skip-by : (at b : ℕ) (bs : List ℕ) → skip_of at (b ∷ bs) ≡ pick (pick (eqb b 32) true (eqb b 9)) (skip_of (at + 1) bs) at
unfolding skip_of
skip-by at b bs = either (eqb b 32) (eqb b 9) (skip_of (at + 1) bs)
  where
    either : (x y : Bool) (r : ℕ) → pick x r (pick y r at) ≡ pick (pick x true y) r at
    either true y r = refl
    either false y r = refl

pub skip-forth : (at : ℕ) (bs : List ℕ) → at ≤ skip_of at bs
unfolding skip_of
skip-forth at [] = omega arith
skip-forth at (b ∷ bs) =
    let h = skip-forth (at + 1) bs in
    pick-case P (eqb b 32) _ _ (λ _. omega arith) (λ _. pick-case P (eqb b 9) _ _ (λ _. omega arith) (λ _. omega arith))
  where
    P : ℕ → Type 0
    P r = at ≤ r

-- a byte that was asked for its digit
pub digit-is : (b v : ℕ) → Some v ≡ digit_in b → (digit_of b ≡ v) × (v < 16)
digit-is b v = pick-case P (ltb (digit_of b) 16) _ _ (λ h e. let k : v ≡ digit_of b = cc in (sym k, omega (arith, ltb-true (digit_of b) 16 h))) (λ h e. absurd (cc))
  where
    P : Option ℕ → Type 0
    P o = Some v ≡ o → (digit_of b ≡ v) × (v < 16)

pub digit-isnt : (b : ℕ) → None ≡ digit_in b → 16 ≤ digit_of b
digit-isnt b = pick-case P (ltb (digit_of b) 16) _ _ (λ h e. absurd (cc)) (λ h e. ltb-false (digit_of b) 16 h)
  where
    P : Option ℕ → Type 0
    P o = None ≡ o → 16 ≤ digit_of b

pub digit-most : (b : ℕ) → digit_of b ≤ 16
unfolding digit_of
digit-most b =
    pick-case P (ltb b 48) _ _ (λ _. omega arith)
    (λ _. pick-case P (leb b 57) _ _ (λ h. omega (arith, leb-true b 57 h))
    (λ _. pick-case P (ltb b 65) _ _ (λ _. omega arith)
    (λ _. pick-case P (leb b 70) _ _ (λ h. omega (arith, leb-true b 70 h))
    (λ _. pick-case P (ltb b 97) _ _ (λ _. omega arith)
    (λ _. pick-case P (leb b 102) _ _ (λ h. omega (arith, leb-true b 102 h)) (λ _. omega arith))))))
  where
    P : ℕ → Type 0
    P n = n ≤ 16

pub digit_end : (b : ℕ) → None ≡ digit_in b → digit_of b ≡ 16
digit_end b e = omega (arith, digit-isnt b e, digit-most b)

-- a number of n hexadecimal digits, with one more digit
pub hex-more : (n v d : ℕ) → v < 16 ^ n → d < 16 → v * 16 + d < 16 ^ (n + 1)
hex-more n v d hv hd = rw (add-one, pow-suc) (omega arith)

pub hex-small : (n v : ℕ) → n ≤ 6 → v < 16 ^ n → v < 16777216
hex-small n v hn hv = omega (arith, pow-le-pow_right {n = 16} (lit< tt) hn)

-- a place where the line does not end stands in it
pub ends-inside : (s : List ℕ) (at : ℕ) → ends_at s at ≡ false → at < length s
unfolding ends_at
ends-inside s at e = leb-false (length s) at (¬true⇒false (leb (length s) at) (λ h. clash (rw h) e))

pub ends_inside : (s : List ℕ) (at : ℕ) → false ≡ ends_at s at → at < length s
ends_inside s at e = ends-inside s at (sym e)

-- a number, if there is one, has a value below k and its place at or past `at`
abbrev pub Forth : ℕ → ℕ → Option (ℕ × ℕ) → Type 0
Forth k at None = Unit {0}
Forth k at (Some (v, q)) = (v < k) × (at ≤ q)

pub byte-forth : (s : List ℕ) (at : ℕ) → Forth 256 (at + 1) (byte_at s at)
unfolding byte_at
byte-forth s at =
    pick-case P (eqb (byte_of s at) 92) _ _
    (λ _. pick-case P (eqb (byte_of s (at + 1)) 120) _ _
    (λ _. pick-case P (ltb (digit_of (byte_of s (at + 2))) 16) _ _
    (λ h. pick-case P (ltb (digit_of (byte_of s (at + 3))) 16) _ _
    (λ l. let x = ltb-true (digit_of (byte_of s (at + 2))) 16 h in let y = ltb-true (digit_of (byte_of s (at + 3))) 16 l in (omega arith, omega arith))
    (λ _. tt)) (λ _. tt)) (λ _. tt)) (λ _. tt)
  where
    P : Option (ℕ × ℕ) → Type 0
    P n = Forth 256 (at + 1) n

pub forth-past : (k at q : ℕ) (n : Option (ℕ × ℕ)) → at ≤ q → Forth k q n → Forth k at n
forth-past k at q None le h = tt
forth-past k at q (Some (v, e)) le h = (h.0, omega arith)

under : (x k : ℕ) → x ≤ k → eqb x k ≡ false → x < k
under x k h e = let n = eqb-false x k e in omega arith

hex-forth : (n v at : ℕ) (l : List ℕ) → n ≤ 6 → v < 16 ^ n → Forth 16777216 (at + 1) (point_digits n v at l)
unfolding point_digits
hex-forth n v at [] le lt = tt
hex-forth n v at (b ∷ bs) le lt =
    pick-case P (eqb b 62) _ _ (λ _. pick-case P (eqb n 0) _ _ (λ _. tt) (λ _. (hex-small n v le lt, omega arith)))
    (λ _. pick-case P (eqb (digit_of b) 16) _ _ (λ _. tt)
    (λ d. pick-case P (eqb n 6) _ _ (λ _. tt)
    (λ m. forth-past 16777216 (at + 1) (at + 1 + 1) (point_digits (n + 1) (v * 16 + digit_of b) (at + 1) bs) (omega arith)
    (hex-forth (n + 1) (v * 16 + digit_of b) (at + 1) bs (omega (arith, under n 6 le m)) (hex-more n v (digit_of b) lt (under (digit_of b) 16 (digit-most b) d))))))
  where
    P : Option (ℕ × ℕ) → Type 0
    P r = Forth 16777216 (at + 1) r

pub unicode-forth : (s : List ℕ) (at : ℕ) → Forth 16777216 (at + 1) (unicode_at s at)
unfolding unicode_at
unicode-forth s at =
    pick-case P (eqb (byte_of s at) 60) _ _
    (λ _. pick-case P (eqb (byte_of s (at + 1)) 85) _ _
    (λ _. forth-past 16777216 (at + 1) (at + 2 + 1) (point_digits 0 0 (at + 2) (drop (at + 2) s)) (omega arith) (hex-forth 0 0 (at + 2) (drop (at + 2) s) (omega arith) (lit< tt)))
    (λ _. tt)) (λ _. tt)
  where
    P : Option (ℕ × ℕ) → Type 0
    P r = Forth 16777216 (at + 1) r

-- the bytes of a series are bytes
abbrev pub SeriesByte : ByteSeries → Type 0
SeriesByte broken = Unit {0}
SeriesByte (series l m e) = AllByte l

with_byte_lem : (v : ℕ) (p : Bool) (r : ByteSeries) → v < 256 → SeriesByte r → SeriesByte (with_byte v p r)
unfolding AllByte
with_byte_lem v p broken h a = tt
with_byte_lem v p (series l m e) h a = (h, a)

pub more_bytes : (f : ℕ) (s : List ℕ) (q at : ℕ) (n : Option (ℕ × ℕ)) → Forth 256 at n → SeriesByte (bytes_more f s q n)
unfolding bytes_more AllByte
more_bytes zero s q at None h = pick-case SeriesByte (plus_at s q) _ _ (λ _. tt) (λ _. tt)
more_bytes zero s q at (Some (v, e)) h = tt
more_bytes (suc f) s q at None h = pick-case SeriesByte (plus_at s q) _ _ (λ _. tt) (λ _. tt)
more_bytes (suc f) s q at (Some (v, e)) h = with_byte_lem v (plus_at s q) (bytes_more f s e (byte_at s (join_at s e))) h.0 (more_bytes f s e _ (byte_at s (join_at s e)) (byte-forth s (join_at s e)))

-- bytes by their weights, of which the first is w
unfoldable pub weighed : ℕ → List ℕ → ℕ
weighed w [] = 0
weighed w (v ∷ l) = v * w + weighed (w / 256) l

no-weight : (l : List ℕ) → weighed 0 l ≡ 0
unfolding weighed
no-weight [] = refl
no-weight (v ∷ l) = omega (arith, no-weight l)

fourth-weight : (l : List ℕ) → AllByte l → packed l / 16777216 ≡ weighed 1 l
unfolding packed weighed AllByte
fourth-weight [] a = refl
fourth-weight (v ∷ l) a = omega (arith, a.0, packed-fits l a.1, no-weight l)

third-weight : (l : List ℕ) → AllByte l → packed l / 65536 ≡ weighed 256 l
unfolding packed weighed AllByte
third-weight [] a = refl
third-weight (v ∷ l) a = omega (arith, fourth-weight l a.1)

second-weight : (l : List ℕ) → AllByte l → packed l / 256 ≡ weighed 65536 l
unfolding packed weighed AllByte
second-weight [] a = refl
second-weight (v ∷ l) a = omega (arith, third-weight l a.1)

-- the first four bytes of any number have a weight
packed-weights : (l : List ℕ) → AllByte l → packed l ≡ weighed 16777216 l
unfolding packed weighed AllByte
packed-weights [] a = refl
packed-weights (v ∷ l) a = omega (arith, second-weight l a.1)

-- a run of which c bytes are read, b by their weights; w is the next weight
unfoldable pub on_run : ℕ → ℕ → ℕ → Bool → ByteSeries → Option ByteRun
on_run b w c joined broken = None
on_run b w c joined (series l m e) = Some (record { bits = b + weighed w l; len = c + length l; joined = pick joined true m; end = e })

start-run : (v : ℕ) (r : ByteSeries) → v < 256 → SeriesByte r → byte_run_of (with_byte v false r) ≡ on_run (v * 16777216) 65536 1 false r
unfolding on_run weighed AllByte
start-run v broken h a = refl
start-run v (series l m e) h a =
    let k : packed (v ∷ l) ≡ v * 16777216 + weighed 65536 l = packed-weights (v ∷ l) (h, a) in
    let n : suc (length l) ≡ 1 + length l = omega arith in
    rw (k, n)

pub run-start : (s : List ℕ) (v e : ℕ) → v < 256
    → byte_run_of (bytes_from s (Some (v, e))) ≡ on_run (v * 16777216) 65536 1 false (bytes_more (length s) s e (byte_at s (join_at s e)))
run-start s v e h = start-run v (bytes_more (length s) s e (byte_at s (join_at s e))) h (more_bytes (length s) s e _ (byte_at s (join_at s e)) (byte-forth s (join_at s e)))

with-run : (b w c v : ℕ) (j p : Bool) (r : ByteSeries) → on_run b w c j (with_byte v p r) ≡ on_run (b + v * w) (w / 256) (c + 1) (j || p) r
unfolding on_run weighed
with-run b w c v j p broken = refl
with-run b w c v j p (series l m e) =
    let k : b + (v * w + weighed (w / 256) l) ≡ b + v * w + weighed (w / 256) l = omega arith in
    let n : c + suc (length l) ≡ c + 1 + length l = omega arith in
    rw (k, n, or-or j p m)
  where
    or-or : (j p m : Bool) → pick j true (pick p true m) ≡ pick (j || p) true m
    or-or true p m = refl
    or-or false p m = refl

-- one byte more
pub run_more : (f b w c : ℕ) (j : Bool) (s : List ℕ) (q v e : ℕ)
    → on_run b w c j (bytes_more (suc f) s q (Some (v, e))) ≡ on_run (b + v * w) (w / 256) (c + 1) (j || plus_at s q) (bytes_more f s e (byte_at s (join_at s e)))
unfolding bytes_more
run_more f b w c j s q v e = with-run b w c v j (plus_at s q) (bytes_more f s e (byte_at s (join_at s e)))

-- no byte more: a `+` may not stand there
pub run-wrong : (f b w c : ℕ) (j : Bool) (s : List ℕ) (q : ℕ) → plus_at s q ≡ true → on_run b w c j (bytes_more f s q None) ≡ None
unfolding bytes_more on_run
run-wrong zero b w c j s q h = rw h
run-wrong (suc f) b w c j s q h = rw h

pub run-done : (f b w c : ℕ) (j : Bool) (s : List ℕ) (q : ℕ) → plus_at s q ≡ false → on_run b w c j (bytes_more f s q None) ≡ Some (record { bits = b; len = c; joined = j; end = q })
unfolding bytes_more on_run weighed
run-done zero b w c j s q h = rw (h, add-zero b, add-zero c, pick-true-false j)
run-done (suc f) b w c j s q h = rw (h, add-zero b, add-zero c, pick-true-false j)

pub run-fuel : (n c : ℕ) → c ≤ n → n + 1 - c ≡ suc (n + 1 - (c + 1))
run-fuel n c h = omega arith

-- the bytes behind one with this weight fit in
abbrev pub Room : ℕ → ℕ → Type 0
Room b w = (b < 4294967296) × (b + w * 256 ≤ 4294967296)

pub room-more : (b w v : ℕ) → v < 256 → Room b w → Room (b + v * w) (w / 256)
room-more b w v h r = omega (arith, mul-le-mul_right {m = v} {n = 255} w (omega arith))
