-- What calls of a conversion in pieces keep, for the test behind 42.
-- illegal-fits      the length of an illegal sequence, beside the bytes of it that were kept
-- begun-[], begun-cut, begun-on      what is kept begins a sequence, or is what skipping in UTF-8 left of one
-- begun-short-to, begun-short-from   what begins a sequence is cut short
use Rattle.std.specs.Prelude.{Option}
use mathlib.Core.Path.{◌≡◌, refl, sym, ap, subst, ◌∙◌}
use Prim.Native.Nat.{ℕ, zero, suc, ◌+◌, ◌-◌, ◌*◌, ◌%◌, ◌≤◌, ◌<◌}
use mathlib.Core.List.{List, [], ◌∷◌, ◌++◌}
use mathlib.Core.Bool.{Bool, true, false}
use native.Mathlib.Omega.{arith}
use borrow.Author.Tests.{le-leb, eq-eqb, ltb-true, ltb-false}
use lib.Dec.{ltb, leb}
use lib.ListN.{length, drop, length-drop}
use Rattle.lists.specs.Pick.{pick}
use Rattle.lists.specs.Between.{between}
use Rattle.lists.specs.Order.{All}
use Rattle.lists.proofs.Laws.{clash, and_yes, and_right}
use Rattle.lists.proofs.Cases.{pick-case}
use Rattle.lists.proofs.Choice.{pick-true-true, pick-true-false}
use Rattle.lists.proofs.Between.{between-yes⁺, between-yes⁻}
use Rattle.utf.specs.Utf8.{lead_of, trails_of, after_lead, decode_one}
use Rattle.utf.specs.Utf32.{decode_in}
use Rattle.utf.specs.Scheme.{Side, utf8, utf32, side_of}
use Rattle.utf.specs.declared.utf8.Lead.{Lead}
use Rattle.utf.specs.declared.utf8.Stop.TheVariants as stopped
use Rattle.utf.specs.declared.utf8.Sequence.{Sequence}
use Rattle.utf.specs.declared.utf8.Sequence.TheVariants as sequence
use Rattle.utf.specs.declared.utf32.ByteOrder.{ByteOrder}
use Rattle.utf.specs.declared.utf32.ByteOrder.TheVariants.{Big, Little}
use Rattle.utf.specs.declared.scheme.Scheme.{Scheme}
use Rattle.utf.specs.declared.scheme.Scheme.TheVariants as scheme
use Rattle.utf.proofs.Leads.{lead-case}
use Rattle.utf.proofs.FourBytes.{utf32-cut-short}
use Rattle.table.specs.States.{Rows, longest, broken_length, cut_from, cut_of}
use Rattle.table.specs.Illegal.{all_lead}
use Rattle.table.specs.Meaning.{Table, steps_of}
use Rattle.table.specs.declared.states.Step.{Step}
use Rattle.table.specs.declared.states.Step.TheVariants as row
use Rattle.table.specs.declared.states.Cut.{Cut}
use Rattle.table.specs.declared.states.Cut.TheVariants as cut
use Rattle.table.specs.declared.states.CutStop.TheVariants as cut_stop
use Rattle.table.proofs.RowLaws.{on_step, cut_from-∷, led_on, all_lead-∷}
use Rattle.table.proofs.Cuts.{cut-short-leads}
use Rattle.table.proofs.Broken.{broken-length, illegal-some, illegal-inside}
use Rattle.convert.specs.Run.{give, stop, SequenceStep, run_of}
use Rattle.convert.specs.Step.{to_plain, to_step, from_plain, from_step}
use Rattle.convert.specs.Pieces.{in_state, from_step_in, step_in, length_fits, is_short, is_short_cut, trailing, trails_in, begun}
use Rattle.convert.specs.declared.Settings.{Settings}
use Rattle.convert.specs.declared.pieces.Way.{Way}
use Rattle.convert.specs.declared.pieces.Way.TheVariants.{ToUnicode, FromUnicode}
use Rattle.convert.specs.loops.Inner.{Sound}
use Rattle.convert.proofs.Runs.{every-run}
use Rattle.convert.proofs.PlainSteps.{utf8-lawful, to-illegal, to-plain-sound, to-plain-alone, from-illegal, from-plain-sound, from-plain-alone}
use Rattle.convert.proofs.Skipping.{given_by, stopped_by_lem}
use Rattle.convert.proofs.Steps.{from-stopped}
use Rattle.convert.proofs.PieceSteps.{in_state-give⁻, in_state-stop⁻, step_in-sound}
use Rattle.convert.proofs.PieceStops.{seen-beyond, to-short⁻, to-short⁺, from-short⁻, from_step_in-case, plain-cut, step_in-pieceable}

-- ## An illegal sequence is not shorter than a beginning of it that led on

none-by : (broken k m : ℕ) (x : Step) (go : ℕ → Cut) → k ≤ broken → ((n : ℕ) → go n ≡ cut.Stopped (cut_stop.Illegal m) → k ≤ m)
    → on_step x broken k go ≡ cut.Stopped (cut_stop.Illegal m) → k ≤ m
none-by broken k m row.Illegal go h ih c = let q : broken ≡ m = cc in omega arith
none-by broken k m (row.Ends e) go h ih c = absurd (let z : ◌≡◌ {A = ℕ} 0 1 = cc in omega arith)
none-by broken k m (row.Leads n) go h ih c = ih n c

led-by : (broken k j m : ℕ) (x : Step) (go : ℕ → Cut) (all : ℕ → Bool) → ((n : ℕ) → all n ≡ true → go n ≡ cut.Stopped (cut_stop.Illegal m) → j ≤ m)
    → led_on x false all ≡ true → on_step x broken k go ≡ cut.Stopped (cut_stop.Illegal m) → j ≤ m
led-by broken k j m row.Illegal go all ih a c = absurd (clash a refl)
led-by broken k j m (row.Ends e) go all ih a c = absurd (clash a refl)
led-by broken k j m (row.Leads n) go all ih a c = ih n a c

module _ (step : Rows) (first : ℕ) where
  led-beyond : (f at k : ℕ) (s t : List ℕ) (m : ℕ) → all_lead step at s ≡ true → length s ≤ f
      → cut_from step first f at k (s ++ t) ≡ cut.Stopped (cut_stop.Illegal m) → k + length s ≤ m
  unfolding cut_from all_lead
  led-beyond zero at k [] t m a h c = let q : k ≡ m = cc in omega arith
  led-beyond zero at k (b ∷ s) t m a h c = absurd (omega arith)
  led-beyond (suc f) at k [] [] m a h c = absurd (let z : ◌≡◌ {A = ℕ} 0 1 = cc in omega arith)
  led-beyond (suc f) at k [] (b ∷ t) m a h c =
      let r = none-by (broken_length (step first b) k) k m (step at b) (λ n. cut_from step first f n (k + 1) t) (broken-length (step first b) k).0
      (λ n q. let i = led-beyond f n (k + 1) [] t m refl (omega arith) q in omega arith)
      (sym (cut_from-∷ step first f at k b t (step at b) refl) ∙ c) in
      omega arith
  led-beyond (suc f) at k (b ∷ s) t m a h c =
      led-by (broken_length (step first b) k) k (k + suc (length s)) m (step at b) (λ n. cut_from step first f n (k + 1) (s ++ t)) (λ n. all_lead step n s)
      (λ n p q. let i = led-beyond f n (k + 1) s t m p (omega arith) q in omega arith)
      (sym (all_lead-∷ step at b s (step at b) refl) ∙ a)
      (sym (cut_from-∷ step first f at k b (s ++ t) (step at b) refl) ∙ c)

short-beyond : (step : Rows) (first : ℕ) (s t : List ℕ) (m : ℕ) → cut_of step first s ≡ cut.Stopped cut_stop.CutShort
    → cut_of step first (s ++ t) ≡ cut.Stopped (cut_stop.Illegal m) → length s ≤ m
short-beyond step first s t m e c =
    let r = cut-short-leads step first longest first 0 s e in
    omega (arith, led-beyond step first longest first 0 s t m r.0 (omega (arith, r.1)) c)

module _ (u : Side) (t : Table) (settings : Settings) (s : List ℕ) where
  to-states : (n : ℕ) → to_step u t settings 0 s ≡ stop (stopped.Illegal n) → cut_of (steps_of t) 0 s ≡ cut.Stopped (cut_stop.Illegal n)
  unfolding to_step
  to-states n e = to-illegal t settings 0 u s n (stopped_by_lem settings.skip (u.encode 0xfffd) 0 (to_plain u t settings 0 s) (stopped.Illegal n) e).0

  from-unit : (n : ℕ) → from_step u t settings 0 s ≡ stop (stopped.Illegal n) → u.unit ≡ n
  unfolding from_step
  from-unit n e = (from-illegal u t settings 0 s n (stopped_by_lem settings.skip t.subchar 0 (from_plain u t settings 0 s) (stopped.Illegal n) e).0).2

-- THE LENGTH of an illegal sequence, beside the bytes of it that were kept
pub illegal-fits : (way : Way) (e : Scheme) (t : Table) (settings : Settings) (st : ℕ) (old u : List ℕ) (n : ℕ)
    → step_in way e t settings st (old ++ u) ≡ stop (stopped.Illegal n)
    → (0 < length old → step_in way e t settings st old ≡ stop stopped.CutShort)
    → length_fits way e (length old) n ≡ true
unfolding step_in
illegal-fits ToUnicode e t settings st old u n q h =
    let c = to-states (side_of e) t settings (old ++ u) n (in_state-stop⁻ st (to_step (side_of e) t settings 0 (old ++ u)) (stopped.Illegal n) q) in
    let beyond : length old ≤ n =
    pick-case (λ (x : ℕ). length old ≤ n) (ltb 0 (length old)) 0 0
    (λ w. short-beyond (steps_of t) 0 old u n
    (to-short⁻ t settings 0 (side_of e) old (in_state-stop⁻ st (to_step (side_of e) t settings 0 old) stopped.CutShort (h (ltb-true 0 (length old) w)))) c)
    (λ w. omega (arith, ltb-false 0 (length old) w)) in
    and_yes (leb 1 n) _ (le-leb 1 n (illegal-some (steps_of t) 0 (old ++ u) n c))
    (and_yes (leb (length old) n) _ (le-leb (length old) n beyond) (le-leb n longest (illegal-inside (steps_of t) 0 (old ++ u) n c).1))
illegal-fits FromUnicode e t settings st old u n q h =
    from_step_in-case t settings (old ++ u) (λ g. g ≡ stop (stopped.Illegal n) → length_fits FromUnicode e (length old) n ≡ true) e st
    (λ v m side same w.
    eq-eqb n (side_of e).unit (sym (from-unit v t settings (old ++ u) n (in_state-stop⁻ m (from_step v t settings 0 (old ++ u)) (stopped.Illegal n) w)) ∙ same))
    (λ order k w. absurd (let z : ◌≡◌ {A = ℕ} 0 1 = cc in omega arith))
    q

-- ## What begins a sequence

is_short⁻ : (x : Sequence) → is_short x ≡ true → x ≡ sequence.Stopped stopped.CutShort
is_short⁻ (sequence.Scalar c n) e = absurd (clash e refl)
is_short⁻ (sequence.Stopped stopped.CutShort) e = refl
is_short⁻ (sequence.Stopped (stopped.Illegal n)) e = absurd (clash e refl)
is_short⁻ (sequence.Stopped stopped.Unassigned) e = absurd (clash e refl)

is_short_cut⁻ : (x : Cut) → is_short_cut x ≡ true → x ≡ cut.Stopped cut_stop.CutShort
is_short_cut⁻ (cut.Complete n kind) e = absurd (clash e refl)
is_short_cut⁻ (cut.Stopped cut_stop.CutShort) e = refl
is_short_cut⁻ (cut.Stopped (cut_stop.Illegal n)) e = absurd (clash e refl)

-- up to three bytes of UTF-32
begun-four : (order : ByteOrder) (s : List ℕ) → length s ≤ 3 → pick (is_short (decode_in order s)) true false ≡ true
begun-four order s h = ap (λ (x : Sequence). pick (is_short x) true false) ((utf32-cut-short order s).1 (omega arith))

pub begun-[] : (way : Way) (e : Scheme) (t : Table) (settings : Settings) → begun way e (steps_of t) settings.skip [] ≡ true
unfolding cut_from decode_one
begun-[] ToUnicode e t settings = refl
begun-[] FromUnicode scheme.Utf8 t settings = refl
begun-[] FromUnicode scheme.Utf32Be t settings = begun-four Big [] (omega arith)
begun-[] FromUnicode scheme.Utf32Le t settings = begun-four Little [] (omega arith)
begun-[] FromUnicode scheme.Utf32 t settings = begun-four Big [] (omega arith)

pub begun-cut : (way : Way) (e : Scheme) (t : Table) (settings : Settings) (st : ℕ) (s : List ℕ)
    → step_in way e t settings st s ≡ stop stopped.CutShort → begun way e (steps_of t) settings.skip s ≡ true
unfolding step_in
begun-cut ToUnicode e t settings st s q =
    ap is_short_cut (to-short⁻ t settings 0 (side_of e) s (in_state-stop⁻ st (to_step (side_of e) t settings 0 s) stopped.CutShort q))
begun-cut FromUnicode scheme.Utf8 t settings st s q =
    ap (λ (x : Sequence). pick (is_short x) true (trails_in scheme.Utf8 settings.skip s))
    (from-short⁻ utf8 t settings 0 s (in_state-stop⁻ st (from_step utf8 t settings 0 s) stopped.CutShort q))
begun-cut FromUnicode scheme.Utf32Be t settings st s q = begun-four Big s ((step_in-pieceable FromUnicode scheme.Utf32Be t settings).short st s q)
begun-cut FromUnicode scheme.Utf32Le t settings st s q = begun-four Little s ((step_in-pieceable FromUnicode scheme.Utf32Le t settings).short st s q)
begun-cut FromUnicode scheme.Utf32 t settings st s q = begun-four Big s ((step_in-pieceable FromUnicode scheme.Utf32 t settings).short st s q)

pub begun-short-to : (e : Scheme) (t : Table) (settings : Settings) (st : ℕ) (s : List ℕ)
    → begun ToUnicode e (steps_of t) settings.skip s ≡ true → step_in ToUnicode e t settings st s ≡ stop stopped.CutShort
unfolding step_in
begun-short-to e t settings st s b = ap (in_state st) (to-short⁺ t settings 0 (side_of e) s (is_short_cut⁻ (cut_of (steps_of t) 0 s) b))

-- of a scheme, where no trail bytes were left by skipping
short-decodes : (a b : Bool) → b ≡ false → pick a true b ≡ true → a ≡ true
short-decodes a b f e = sym (ap (pick a true) f ∙ pick-true-false a) ∙ e

pub begun-short-from : (e : Scheme) (t : Table) (settings : Settings) (st : ℕ) (s : List ℕ) → trails_in e settings.skip s ≡ false
    → begun FromUnicode e (steps_of t) settings.skip s ≡ true → step_in FromUnicode e t settings st s ≡ stop stopped.CutShort
unfolding step_in
begun-short-from e t settings st s f b = by e (is_short⁻ ((side_of e).decode s) (short-decodes (is_short ((side_of e).decode s)) (trails_in e settings.skip s) f b))
  where
    by : (e : Scheme) → (side_of e).decode s ≡ sequence.Stopped stopped.CutShort → from_step_in e t settings st s ≡ stop stopped.CutShort
    by scheme.Utf8 q = ap (in_state st) (from-stopped utf8 t settings 0 s stopped.CutShort q)
    by scheme.Utf32Be q = ap (in_state st) (from-stopped (utf32 Big) t settings 0 s stopped.CutShort q)
    by scheme.Utf32Le q = ap (in_state st) (from-stopped (utf32 Little) t settings 0 s stopped.CutShort q)
    by scheme.Utf32 q = plain-cut t settings st s ((utf32-cut-short Big s).0 q)

-- ## What is left of a beginning

-- a run that stops inside of what its first sequence takes has read none of it
none_read : (step : SequenceStep) → Sound step → (s : List ℕ) (st room m : ℕ) → ((bs : List ℕ) (n next : ℕ) → step st s ≡ give bs n next → m ≤ n)
    → (run_of step st 0 s room).read < m → (run_of step st 0 s room).read ≡ 0
none_read step so s st room m =
    every-run step so (λ st s room r. ((bs : List ℕ) (n next : ℕ) → step st s ≡ give bs n next → m ≤ n) → r.read < m → r.read ≡ 0)
    (λ st room f i. refl)
    (λ st s room h w e f i. refl)
    (λ st s room h bs n next e l f i. refl)
    (λ st s room h bs n next e l r ih f i. absurd (omega (arith, f bs n next e)))
    s st room

module _ (t : Table) (settings : Settings) (s r bs : List ℕ) (n next : ℕ) where
  -- towards Unicode, skipping or not
  to-takes : (u : Side) → cut_of (steps_of t) 0 s ≡ cut.Stopped cut_stop.CutShort → to_step u t settings 0 (s ++ r) ≡ give bs n next → length s ≤ n
  unfolding to_step
  to-takes u c e =
      given_by (u.encode 0xfffd) 0 (length s ≤ n) settings.skip (to_plain u t settings 0 (s ++ r)) bs n next e
      (λ q.
      let p = (stopped_by_lem settings.skip (u.encode 0xfffd) 0 (to_plain u t settings 0 s) stopped.CutShort (to-short⁺ t settings 0 u s c)).0 in
      let b = seen-beyond (to_plain u t settings 0) (give bs n next) n (λ x y. (to-plain-sound u t settings).grows 0 x y bs n next)
      (λ x. to-plain-alone u t settings 0 x bs n next) s r (λ z. let y = sym p ∙ z in let z : ◌≡◌ {A = ℕ} 0 1 = cc in omega arith) q in
      omega arith)
      (λ on q b z. short-beyond (steps_of t) 0 s r n c (to-illegal t settings 0 u (s ++ r) n q))

  -- from UTF-8, where skipping is off
  utf8-takes : settings.skip ≡ false → decode_one s ≡ sequence.Stopped stopped.CutShort → from_step utf8 t settings 0 (s ++ r) ≡ give bs n next → length s ≤ n
  unfolding from_step
  utf8-takes off c e =
      given_by t.subchar 0 (length s ≤ n) settings.skip (from_plain utf8 t settings 0 (s ++ r)) bs n next e
      (λ q.
      let p =
      (stopped_by_lem settings.skip t.subchar 0 (from_plain utf8 t settings 0 s) stopped.CutShort (from-stopped utf8 t settings 0 s stopped.CutShort c)).0 in
      let b = seen-beyond (from_plain utf8 t settings 0) (give bs n next) n (λ x y. (from-plain-sound utf8 utf8-lawful t settings).grows 0 x y bs n next)
      (λ x. from-plain-alone utf8 utf8-lawful t settings 0 x bs n next) s r (λ z. let y = sym p ∙ z in let z : ◌≡◌ {A = ℕ} 0 1 = cc in omega arith) q in
      omega arith)
      (λ on q b z. absurd (clash on off))

-- UTF-8: behind the lead byte of what is cut short are trail bytes
abbrev Trail : ℕ → Type 0
Trail x = between 0x80 0xbf x ≡ true

trails-trail : (k lo hi v n : ℕ) (s : List ℕ) → 0x80 ≤ lo → hi ≤ 0xbf → trails_of k lo hi v n s ≡ sequence.Stopped stopped.CutShort → All Trail s
trails-trail zero lo hi v n s a b e = absurd (let z : ◌≡◌ {A = ℕ} 0 1 = cc in omega arith)
trails-trail (suc k) lo hi v n [] a b e = tt
trails-trail (suc k) lo hi v n (x ∷ s) a b e =
    pick-case (λ (o : Sequence). o ≡ sequence.Stopped stopped.CutShort → All Trail (x ∷ s)) (between lo hi x) _ _
    (λ t q.
    let r = between-yes⁻ lo hi x t in
    (between-yes⁺ 0x80 0xbf x (omega (arith, r.0)) (omega (arith, r.1)), trails-trail k 0x80 0xbf (v * 64 + x % 64) (n + 1) s (omega arith) (omega arith) q))
    (λ t q. absurd (let z : ◌≡◌ {A = ℕ} 0 1 = cc in omega arith))
    e

lead-trail : (b : ℕ) (s : List ℕ) → after_lead (lead_of b) s ≡ sequence.Stopped stopped.CutShort → All Trail s
lead-trail b s =
    lead-case (λ (l : Option Lead). after_lead l s ≡ sequence.Stopped stopped.CutShort → All Trail s) b
    (λ u. trails-trail 0 0x80 0xbf (b - 0) 1 s (omega arith) (omega arith))
    (λ u e. absurd (let z : ◌≡◌ {A = ℕ} 0 1 = cc in omega arith))
    (λ u. trails-trail 1 0x80 0xbf (b - 0xc0) 1 s (omega arith) (omega arith))
    (λ u. trails-trail 2 0xa0 0xbf (b - 0xe0) 1 s (omega arith) (omega arith))
    (λ u. trails-trail 2 0x80 0x9f (b - 0xe0) 1 s (omega arith) (omega arith))
    (λ u. trails-trail 2 0x80 0xbf (b - 0xe0) 1 s (omega arith) (omega arith))
    (λ u. trails-trail 3 0x90 0xbf (b - 0xf0) 1 s (omega arith) (omega arith))
    (λ u. trails-trail 3 0x80 0x8f (b - 0xf0) 1 s (omega arith) (omega arith))
    (λ u. trails-trail 3 0x80 0xbf (b - 0xf0) 1 s (omega arith) (omega arith))
    (λ u e. absurd (let z : ◌≡◌ {A = ℕ} 0 1 = cc in omega arith))

trailing⇒Trail : (b : ℕ) (s : List ℕ) → trailing (b ∷ s) ≡ true → All Trail s
trailing⇒Trail b [] e = tt
trailing⇒Trail b (c ∷ []) e = (and_right (between 0x80 0xbf b) _ e, tt)
trailing⇒Trail b (c ∷ d ∷ s) e = absurd (clash e refl)

trailing-drop : (m : ℕ) (s : List ℕ) → All Trail s → m < length s → length s ≤ 2 → trailing (drop m s) ≡ true
trailing-drop m [] h i l = absurd (omega arith)
trailing-drop zero (a ∷ []) h i l = h.0
trailing-drop (suc m) (a ∷ []) h i l = absurd (omega arith)
trailing-drop zero (a ∷ b ∷ []) h i l = and_yes (between 0x80 0xbf a) _ h.0 h.1.0
trailing-drop (suc zero) (a ∷ b ∷ []) h i l = h.1.0
trailing-drop (suc (suc m)) (a ∷ b ∷ []) h i l = absurd (omega arith)
trailing-drop m (a ∷ b ∷ c ∷ s) h i l = absurd (omega arith)

-- skipping leaves some of them
part-begun : (skip : Bool) (m : ℕ) (s : List ℕ) → skip ≡ true → length s ≤ 3 → m < length s
    → pick (is_short (decode_one s)) true (trails_in scheme.Utf8 skip s) ≡ true
    → pick (is_short (decode_one (drop m s))) true (trails_in scheme.Utf8 skip (drop m s)) ≡ true
unfolding decode_one
part-begun skip zero s on l i b = b
part-begun skip (suc m) [] on l i b = absurd (omega arith)
part-begun skip (suc m) (x ∷ s) on l i b =
    let tail : All Trail s =
    pick-case (λ (y : Bool). y ≡ true → All Trail s) (is_short (after_lead (lead_of x) s)) true (trails_in scheme.Utf8 skip (x ∷ s))
    (λ w q. lead-trail x s (is_short⁻ (after_lead (lead_of x) s) w))
    (λ w q. trailing⇒Trail x s (and_right skip (trailing (x ∷ s)) q)) b in
    let left = trailing-drop m s tail (omega arith) (omega arith) in
    ap (pick (is_short (decode_one (drop m s))) true) (and_yes skip (trailing (drop m s)) on left) ∙ pick-true-true (is_short (decode_one (drop m s)))

-- WHAT IS LEFT of a beginning that a run stopped in begins a sequence too
pub begun-on : (way : Way) (e : Scheme) (t : Table) (settings : Settings) (st : ℕ) (s u : List ℕ) (room : ℕ)
    → begun way e (steps_of t) settings.skip s ≡ true → length s ≤ 3
    → let r = run_of (step_in way e t settings) st 0 (s ++ u) room in
    r.read < length s → begun way e (steps_of t) settings.skip (drop r.read s) ≡ true
unfolding step_in
begun-on ToUnicode e t settings st s u room b l i =
    let c = is_short_cut⁻ (cut_of (steps_of t) 0 s) b in
    let z = none_read (step_in ToUnicode e t settings) (step_in-sound ToUnicode e t settings) (s ++ u) st room (length s)
    (λ bs n next q.
    let k = in_state-give⁻ st (to_step (side_of e) t settings 0 (s ++ u)) bs n next q in
    to-takes t settings s u bs n k.1.0 (side_of e) c k.1.1) i in
    subst (λ (m : ℕ). begun ToUnicode e (steps_of t) settings.skip (drop m s) ≡ true) (sym z) b
begun-on FromUnicode scheme.Utf8 t settings st s u room b l i =
    let r = run_of (step_in FromUnicode scheme.Utf8 t settings) st 0 (s ++ u) room in
    pick-case (λ (x : ℕ). begun FromUnicode scheme.Utf8 (steps_of t) settings.skip (drop r.read s) ≡ true) settings.skip 0 0
    (λ on. part-begun settings.skip r.read s on l i b)
    (λ off.
    let none : trails_in scheme.Utf8 settings.skip s ≡ false = ap (λ (k : Bool). pick k (trailing s) false) off in
    let c = is_short⁻ (decode_one s) (short-decodes (is_short (decode_one s)) (trails_in scheme.Utf8 settings.skip s) none b) in
    let z = none_read (step_in FromUnicode scheme.Utf8 t settings) (step_in-sound FromUnicode scheme.Utf8 t settings) (s ++ u) st room (length s)
    (λ bs n next q. let k = in_state-give⁻ st (from_step utf8 t settings 0 (s ++ u)) bs n next q in utf8-takes t settings s u bs n k.1.0 off c k.1.1) i in
    subst (λ (m : ℕ). begun FromUnicode scheme.Utf8 (steps_of t) settings.skip (drop m s) ≡ true) (sym z) b)
begun-on FromUnicode scheme.Utf32Be t settings st s u room b l i =
    let m = (run_of (step_in FromUnicode scheme.Utf32Be t settings) st 0 (s ++ u) room).read in begun-four Big (drop m s) (omega (arith, length-drop m s))
begun-on FromUnicode scheme.Utf32Le t settings st s u room b l i =
    let m = (run_of (step_in FromUnicode scheme.Utf32Le t settings) st 0 (s ++ u) room).read in begun-four Little (drop m s) (omega (arith, length-drop m s))
begun-on FromUnicode scheme.Utf32 t settings st s u room b l i =
    let m = (run_of (step_in FromUnicode scheme.Utf32 t settings) st 0 (s ++ u) room).read in begun-four Big (drop m s) (omega (arith, length-drop m s))
