-- Where the step of a conversion in pieces stops, and how much it gives.
-- step_in-pieceable   a stop stays under more input, unless it is 'cut short', and then there are at most three bytes
-- step_in-four-to, step_in-four-from   a sequence gives at most four bytes
-- to-short⁻, to-short⁺, from-short⁻, plain-cut   what is cut short, by the states and by the decoder
-- from_step_in-case   a sequence of a scheme is one of its sides, or a mark      seen-beyond   what a beginning does not show
use Rattle.std.specs.Prelude.{Option as Optional, Some, None}
use mathlib.Core.Path.{◌≡◌, refl, sym, ap, ◌∙◌}
use Prim.Native.Nat.{ℕ, zero, suc, ◌≤◌, ◌<◌}
use mathlib.Core.List.{List, [], ◌++◌}
use mathlib.Core.Bool.{Bool, true, false}
use mathlib.Core.Option.{Option, none, some}
use native.Mathlib.Omega.{arith}
use borrow.Author.Tests.{ltb-true, ltb-false}
use lib.Dec.{ltb}
use lib.ListN.{length, take, drop, take-append-drop}
use lib.Seq.{take-append-le}
use Rattle.lists.proofs.Cases.{pick-case}
use Rattle.utf.specs.Utf8.{decode_one}
use Rattle.utf.specs.Utf32.{mark_at, decode_in}
use Rattle.utf.specs.Scheme.{Side, utf8, utf32, side_of}
use Rattle.utf.specs.declared.utf8.Stop.{Stop}
use Rattle.utf.specs.declared.utf8.Stop.TheVariants as stopped
use Rattle.utf.specs.declared.utf8.Sequence.{Sequence}
use Rattle.utf.specs.declared.utf8.Sequence.TheVariants as sequence
use Rattle.utf.specs.declared.utf32.ByteOrder.{ByteOrder}
use Rattle.utf.specs.declared.utf32.ByteOrder.TheVariants.{Big, Little}
use Rattle.utf.specs.declared.scheme.Scheme.{Scheme}
use Rattle.utf.specs.declared.scheme.Scheme.TheVariants as scheme
use Rattle.utf.proofs.MoreInput.{more-input-same, short-fills}
use Rattle.utf.proofs.FourBytes.{utf32-same, utf32-cut-short, mark_at⇒long}
use Rattle.utf.proofs.Puts.{length-encode}
use Rattle.utf.proofs.RoundTrip.{utf8-decode-encode}
use Rattle.table.specs.Limits.{Limits}
use Rattle.table.specs.States.{longest, cut_of}
use Rattle.table.specs.Codes.{AllByte}
use Rattle.table.specs.Meaning.{Line, Table, steps_of, reader}
use Rattle.table.specs.Rules.{Keeps}
use Rattle.table.specs.declared.states.Cut.{Cut}
use Rattle.table.specs.declared.states.Cut.TheVariants as cut
use Rattle.table.specs.declared.states.CutStop.TheVariants as cut_stop
use Rattle.table.proofs.Cuts.{cut-more, cut-within, cut-short-leads}
use Rattle.convert.specs.Run.{Gives, give, stop, SequenceStep}
use Rattle.convert.specs.Step.{skipped, point_for, on_cut, to_sequence, to_plain, to_step}
use Rattle.convert.specs.Step.{Written, code, subchar1, nothing, writes, sent_for, on_sequence, from_plain, from_step}
use Rattle.convert.specs.Pieces.{state_of, in_state, keep_state, by_mark, from_step_in, step_in}
use Rattle.convert.specs.declared.Settings.{Settings}
use Rattle.convert.specs.declared.pieces.Way.{Way}
use Rattle.convert.specs.declared.pieces.Way.TheVariants.{ToUnicode, FromUnicode}
use Rattle.convert.specs.loops.Inner.{Pieceable, AtMost}
use Rattle.convert.proofs.PlainSteps.{utf8-lawful, lawful, stop-by, to-complete}
use Rattle.convert.proofs.Skipping.{stopped_by_lem}
use Rattle.convert.proofs.Steps.{to-gives, from-stopped}
use Rattle.convert.proofs.FourEach.{to-four, from-four}
use Rattle.convert.proofs.PieceSteps.{in_state-give⁻, in_state-stop⁻, mark_at-++, from-short}

-- what is seen in a list from n bytes alone, whatever follows, and is not seen in a beginning, takes more than that
pub seen-beyond : {A : Type 0} (f : List ℕ → A) (x : A) (n : ℕ) → ((s t : List ℕ) → f s ≡ x → f (s ++ t) ≡ x) → ((s : List ℕ) → f s ≡ x → f (take n s) ≡ x)
    → (s t : List ℕ) → (f s ≡ x → ⊥) → f (s ++ t) ≡ x → length s < n
seen-beyond f x n grows alone s t h e =
    pick-case (λ (m : ℕ). length s < n) (ltb (length s) n) 0 0
    (λ q. ltb-true (length s) n q)
    (λ q.
    let front = alone (s ++ t) e in
    let same = take-append-le n s t (ltb-false (length s) n q) in
    absurd (h (ap f (sym (take-append-drop n s)) ∙ grows (take n s) (drop n s) (ap f (sym same) ∙ front))))

-- ## Towards Unicode

point-stop : (sub1 : Option ℕ) (substitute : Bool) (m : ℕ) (o : Option Line) (w : Stop)
    → point_for sub1 substitute m o ≡ sequence.Stopped w → w ≡ stopped.Unassigned
point-stop sub1 substitute m (some l) w e = absurd (let z : ◌≡◌ {A = ℕ} 0 1 = cc in omega arith)
point-stop sub1 true m none w e = absurd (let z : ◌≡◌ {A = ℕ} 0 1 = cc in omega arith)
point-stop sub1 false m none w e = cc

module _ (t : Table) (settings : Settings) (row : ℕ) where
  -- only the states make a sequence cut short
  short-by : (s : List ℕ) (x : Cut) → on_cut t settings.substitute s x ≡ sequence.Stopped stopped.CutShort → x ≡ cut.Stopped cut_stop.CutShort
  short-by s (cut.Stopped cut_stop.CutShort) e = refl
  short-by s (cut.Stopped (cut_stop.Illegal n)) e = absurd (let z : ◌≡◌ {A = ℕ} 0 1 = cc in omega arith)
  short-by s (cut.Complete n kind) e =
      let q = point-stop t.subchar1 settings.substitute n (reader (take n s) t.lines) stopped.CutShort e in
      absurd (let z : ◌≡◌ {A = ℕ} 0 1 = cc in omega arith)

  pub to-short⁻ : (u : Side) (s : List ℕ) → to_step u t settings row s ≡ stop stopped.CutShort → cut_of (steps_of t) row s ≡ cut.Stopped cut_stop.CutShort
  unfolding to_step to_plain to_sequence
  to-short⁻ u s e =
      let q = (stopped_by_lem settings.skip (u.encode 0xfffd) row (to_plain u t settings row s) stopped.CutShort e).0 in
      short-by s (cut_of (steps_of t) row s) (stop-by t settings row u (to_sequence t settings row s) stopped.CutShort q)

  pub to-short⁺ : (u : Side) (s : List ℕ) → cut_of (steps_of t) row s ≡ cut.Stopped cut_stop.CutShort → to_step u t settings row s ≡ stop stopped.CutShort
  unfolding to_sequence
  to-short⁺ u s q = to-gives t settings row u s (sequence.Stopped stopped.CutShort) (ap (on_cut t settings.substitute s) q)

  -- more input changes nothing else
  same_by : (s r : List ℕ) (x : Cut) → cut_of (steps_of t) row s ≡ x → (x ≡ cut.Stopped cut_stop.CutShort → ⊥)
      → to_sequence t settings row (s ++ r) ≡ to_sequence t settings row s
  unfolding to_sequence
  same_by s r (cut.Stopped cut_stop.CutShort) q h = absurd (h refl)
  same_by s r (cut.Stopped (cut_stop.Illegal n)) q h =
      let m = cut-more (steps_of t) row longest row 0 s r (λ z. h (sym q ∙ z)) in
      ap (on_cut t settings.substitute (s ++ r)) (m ∙ q) ∙ sym (ap (on_cut t settings.substitute s) q)
  same_by s r (cut.Complete n kind) q h =
      let m = cut-more (steps_of t) row longest row 0 s r (λ z. h (sym q ∙ z)) in
      let w = cut-within (steps_of t) s row n kind q in
      to-complete t settings row (s ++ r) n kind (m ∙ q)
      ∙ ap (λ (x : List ℕ). point_for t.subchar1 settings.substitute n (reader x t.lines)) (take-append-le n s r w.2)
      ∙ sym (to-complete t settings row s n kind q)

  to_same : (u : Side) (s r : List ℕ) → (to_step u t settings row s ≡ stop stopped.CutShort → ⊥) → to_step u t settings row (s ++ r) ≡ to_step u t settings row s
  to_same u s r h =
      to-gives t settings row u (s ++ r) (to_sequence t settings row s) (same_by s r (cut_of (steps_of t) row s) refl (λ z. h (to-short⁺ u s z)))
      ∙ sym (to-gives t settings row u s (to_sequence t settings row s) refl)

-- ## From Unicode

sent-stop : (t : Table) (substitute : Bool) (row m : ℕ) (x : Written) (w : Stop) → sent_for t substitute row m x ≡ stop w → w ≡ stopped.Unassigned
sent-stop t substitute row m (code c) w e = absurd (let z : ◌≡◌ {A = ℕ} 0 1 = cc in omega arith)
sent-stop t true row m subchar1 w e = absurd (let z : ◌≡◌ {A = ℕ} 0 1 = cc in omega arith)
sent-stop t false row m subchar1 w e = cc
sent-stop t true row m nothing w e = absurd (let z : ◌≡◌ {A = ℕ} 0 1 = cc in omega arith)
sent-stop t false row m nothing w e = cc

-- a side on which more input changes nothing but what is cut short, and that has at most three bytes
pub record ShortSide (u : Side) : Type 0 where
  pub same : (s t : List ℕ) → (u.decode s ≡ sequence.Stopped stopped.CutShort → ⊥) → u.decode (s ++ t) ≡ u.decode s
  pub few : (s : List ℕ) → u.decode s ≡ sequence.Stopped stopped.CutShort → length s ≤ 3

-- what fills a beginning up in UTF-8 is at most four bytes, and more than it
utf8-few : (s : List ℕ) → decode_one s ≡ sequence.Stopped stopped.CutShort → length s ≤ 3
utf8-few s e =
    let r = short-fills s e in
    let q = sequence.Scalar r.code r.size in
    let b = seen-beyond decode_one q r.size (λ x t. utf8-lawful.grows x t r.code r.size) (λ x. utf8-lawful.alone x r.code r.size)
    s r.bytes (λ z. let z : ◌≡◌ {A = ℕ} 0 1 = cc in omega arith) r.reads in
    omega (arith, (utf8-decode-encode (s ++ r.bytes) r.code r.size r.reads).count, length-encode r.code)

utf8-short : ShortSide utf8
utf8-short = record { same = more-input-same; few = utf8-few }

utf32-short : (order : ByteOrder) → ShortSide (utf32 order)
utf32-short order = record {
  same = λ s t h. pick-case (λ (n : ℕ). decode_in order (s ++ t) ≡ decode_in order s) (ltb (length s) 4) 0 0
      (λ q. absurd (h ((utf32-cut-short order s).1 (ltb-true (length s) 4 q))))
      (λ q. utf32-same order s t (ltb-false (length s) 4 q));
  few = λ s e. omega (arith, (utf32-cut-short order s).0 e);
}

module _ (u : Side) (t : Table) (settings : Settings) (row : ℕ) where
  sequence-short : (x : Sequence) → on_sequence u t settings.fallback settings.substitute row x ≡ stop stopped.CutShort
      → x ≡ sequence.Stopped stopped.CutShort
  sequence-short (sequence.Stopped stopped.CutShort) e = refl
  sequence-short (sequence.Stopped (stopped.Illegal n)) e = absurd (let z : ◌≡◌ {A = ℕ} 0 1 = cc in omega arith)
  sequence-short (sequence.Stopped stopped.Unassigned) e = absurd (let z : ◌≡◌ {A = ℕ} 0 1 = cc in omega arith)
  sequence-short (sequence.Scalar c n) e =
      let q = sent-stop t settings.substitute row n (writes t settings.fallback c) stopped.CutShort e in
      absurd (let z : ◌≡◌ {A = ℕ} 0 1 = cc in omega arith)

  pub from-short⁻ : (s : List ℕ) → from_step u t settings row s ≡ stop stopped.CutShort → u.decode s ≡ sequence.Stopped stopped.CutShort
  unfolding from_step from_plain
  from-short⁻ s e = sequence-short (u.decode s) (stopped_by_lem settings.skip t.subchar row (from_plain u t settings row s) stopped.CutShort e).0

  from-same : (s r : List ℕ) → ShortSide u → (from_step u t settings row s ≡ stop stopped.CutShort → ⊥)
      → from_step u t settings row (s ++ r) ≡ from_step u t settings row s
  unfolding from_step from_plain
  from-same s r side h =
      ap (λ (x : Sequence). skipped settings.skip t.subchar row (on_sequence u t settings.fallback settings.substitute row x))
      (side.same s r (λ z. h (from-stopped u t settings row s stopped.CutShort z)))

-- a sequence of a scheme: on one of its sides, from row 0 on, or a mark
module _ (t : Table) (settings : Settings) (s : List ℕ) (P : Gives → Type 0) where
  mark-case : (k : Optional ByteOrder) → mark_at s ≡ k → P (in_state 1 (from_step (utf32 Big) t settings 0 s))
      → ((order : ByteOrder) → mark_at s ≡ Some order → P (give [] 4 (state_of order)))
      → P (by_mark k (from_step (utf32 Big) t settings 0 s))
  mark-case None q plain marked = plain
  mark-case (Some order) q plain marked = marked order q

  pub from_step_in-case : (e : Scheme) (st : ℕ) → ((u : Side) (m : ℕ) → ShortSide u → u.unit ≡ (side_of e).unit → P (in_state m (from_step u t settings 0 s)))
      → ((order : ByteOrder) → mark_at s ≡ Some order → P (give [] 4 (state_of order)))
      → P (from_step_in e t settings st s)
  from_step_in-case scheme.Utf8 st plain marked = plain utf8 st utf8-short refl
  from_step_in-case scheme.Utf32Be st plain marked = plain (utf32 Big) st (utf32-short Big) refl
  from_step_in-case scheme.Utf32Le st plain marked = plain (utf32 Little) st (utf32-short Little) refl
  from_step_in-case scheme.Utf32 zero plain marked = mark-case (mark_at s) refl (plain (utf32 Big) 1 (utf32-short Big) refl) marked
  from_step_in-case scheme.Utf32 (suc zero) plain marked = plain (utf32 Big) 1 (utf32-short Big) refl
  from_step_in-case scheme.Utf32 (suc (suc st)) plain marked = plain (utf32 Little) 2 (utf32-short Little) refl

-- ## Either way

-- more input changes nothing but what is cut short, and that has at most three bytes
record ShortStep (step : SequenceStep) : Type 0 where
  same : (st : ℕ) (s r : List ℕ) → (step st s ≡ stop stopped.CutShort → ⊥) → step st (s ++ r) ≡ step st s
  few : (st : ℕ) (s : List ℕ) → step st s ≡ stop stopped.CutShort → length s ≤ 3

keep_state-short : (step : SequenceStep) → ((s r : List ℕ) → (step 0 s ≡ stop stopped.CutShort → ⊥) → step 0 (s ++ r) ≡ step 0 s)
    → ((s : List ℕ) → step 0 s ≡ stop stopped.CutShort → length s ≤ 3) → ShortStep (keep_state step)
keep_state-short step same few = record {
  same = λ st s r h. ap (in_state st) (same s r (λ z. h (ap (in_state st) z)));
  few = λ st s e. few s (in_state-stop⁻ st (step 0 s) stopped.CutShort e);
}

module _ (t : Table) (settings : Settings) where
  side-short : (u : Side) → ShortSide u → ShortStep (keep_state (from_step u t settings))
  side-short u side =
      keep_state-short (from_step u t settings) (λ s r. from-same u t settings 0 s r side) (λ s e. side.few s (from-short⁻ u t settings 0 s e))

  -- plain UTF-32
  pub plain-cut : (st : ℕ) (s : List ℕ) → length s < 4 → from_step_in scheme.Utf32 t settings st s ≡ stop stopped.CutShort
  plain-cut zero s h =
      mark-case t settings s (λ g. g ≡ stop stopped.CutShort) (mark_at s) refl (ap (in_state 1) (from-short t settings Big s h))
      (λ order q. absurd (omega (arith, mark_at⇒long order s q)))
  plain-cut (suc zero) s h = ap (in_state 1) (from-short t settings Big s h)
  plain-cut (suc (suc st)) s h = ap (in_state 2) (from-short t settings Little s h)

  plain-few : (st : ℕ) (s : List ℕ) → from_step_in scheme.Utf32 t settings st s ≡ stop stopped.CutShort → length s ≤ 3
  plain-few st s =
      from_step_in-case t settings s (λ g. g ≡ stop stopped.CutShort → length s ≤ 3) scheme.Utf32 st
      (λ u m side q e. side.few s (from-short⁻ u t settings 0 s (in_state-stop⁻ m (from_step u t settings 0 s) stopped.CutShort e)))
      (λ order q e. absurd (let z : ◌≡◌ {A = ℕ} 0 1 = cc in omega arith))

  plain-same : (st : ℕ) (s r : List ℕ) → 4 ≤ length s → from_step_in scheme.Utf32 t settings st (s ++ r) ≡ from_step_in scheme.Utf32 t settings st s
  plain-same st s r long = by st
    where
      side : (order : ByteOrder) → from_step (utf32 order) t settings 0 (s ++ r) ≡ from_step (utf32 order) t settings 0 s
      side order =
          from-same (utf32 order) t settings 0 s r (utf32-short order)
          (λ z. omega (arith, (utf32-short order).few s (from-short⁻ (utf32 order) t settings 0 s z)))

      by : (st : ℕ) → from_step_in scheme.Utf32 t settings st (s ++ r) ≡ from_step_in scheme.Utf32 t settings st s
      by zero = λ i. by_mark (mark_at-++ s r long i) (side Big i)
      by (suc zero) = ap (in_state 1) (side Big)
      by (suc (suc st)) = ap (in_state 2) (side Little)

  from-in-short : (e : Scheme) → ShortStep (from_step_in e t settings)
  from-in-short scheme.Utf8 = side-short utf8 utf8-short
  from-in-short scheme.Utf32Be = side-short (utf32 Big) (utf32-short Big)
  from-in-short scheme.Utf32Le = side-short (utf32 Little) (utf32-short Little)
  from-in-short scheme.Utf32 = record {
    same = λ st s r h. pick-case (λ (n : ℕ). from_step_in scheme.Utf32 t settings st (s ++ r) ≡ from_step_in scheme.Utf32 t settings st s) (ltb (length s) 4) 0 0
        (λ q. absurd (h (plain-cut st s (ltb-true (length s) 4 q))))
        (λ q. plain-same st s r (ltb-false (length s) 4 q));
    few = plain-few;
  }

  step_in-short : (way : Way) (e : Scheme) → ShortStep (step_in way e t settings)
  unfolding step_in
  step_in-short ToUnicode e =
      keep_state-short (to_step (side_of e) t settings) (to_same t settings 0 (side_of e))
      (λ s q. omega (arith, (cut-short-leads (steps_of t) 0 longest 0 0 s (to-short⁻ t settings 0 (side_of e) s q)).1))
  step_in-short FromUnicode e = from-in-short e

pub step_in-pieceable : (way : Way) (e : Scheme) (t : Table) (settings : Settings) → Pieceable (step_in way e t settings)
step_in-pieceable way e t settings = record {
  stays = λ st s r w h q. (step_in-short t settings way e).same st s r (λ z. h (let y : stop w ≡ stop stopped.CutShort = sym q ∙ z in cc)) ∙ q;
  short = (step_in-short t settings way e).few;
}

-- ## What a sequence gives has at most four bytes

pub step_in-four-to : (e : Scheme) (t : Table) (settings : Settings) → AtMost 4 (step_in ToUnicode e t settings)
unfolding step_in
step_in-four-to e t settings st s bs n next q =
    let k = in_state-give⁻ st (to_step (side_of e) t settings 0 s) bs n next q in
    to-four (side_of e) (lawful e) t settings 0 s bs n k.1.0 k.1.1

module _ (lim : Limits) (t : Table) (keeps : Keeps lim t) (bytes : AllByte t.subchar) where
  pub step_in-four-from : (e : Scheme) (settings : Settings) → AtMost 4 (step_in FromUnicode e t settings)
  unfolding step_in
  step_in-four-from e settings st s bs n next =
      from_step_in-case t settings s (λ g. g ≡ give bs n next → length bs ≤ 4) e st
      (λ u m side w q. let k = in_state-give⁻ m (from_step u t settings 0 s) bs n next q in from-four lim t keeps bytes u settings 0 s bs n k.1.0 k.1.1)
      (λ order w q. let b : [] ≡ bs = cc in omega (arith, ap length b))
