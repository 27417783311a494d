-- Every scheme is held in a lawful side of Unicode. Both steps, skipping aside, are sound and settled: what they give, and an illegal
-- sequence, has some bytes, lies in the input and stays under more input; and what is read towards Unicode is a scalar value.
use mathlib.Core.Path.{◌≡◌, refl, sym, ap, subst, ◌∙◌}
use Prim.Native.Nat.{ℕ, ◌+◌, ◌-◌, ◌≤◌, ◌<◌}
use mathlib.Core.List.{List, [], ◌∷◌, ◌++◌, append-nil}
use mathlib.Core.Bool.{Bool, true, false}
use mathlib.Core.Option.{Option, none, some}
use native.Mathlib.Omega.{arith}
use borrow.Author.Tests.{ltb-true, ltb-false, leb-true}
use lib.Dec.{ltb, eqb}
use lib.ListN.{length, take, drop, take-append-drop}
use lib.Seq.{take-append-le, take_at, take-take, length-take-le}
use Rattle.lists.proofs.Laws.{clash}
use Rattle.lists.proofs.Cases.{pick-case}
use Rattle.utf.specs.Utf8.{Scalar, encode_of, decode_one}
use Rattle.utf.specs.Utf32.{decode_in}
use Rattle.utf.specs.Scheme.{Side, utf8, utf32, side_of}
use Rattle.utf.specs.declared.utf8.Stop.{Stop}
use Rattle.utf.specs.declared.utf8.Stop.TheVariants as stopped
use Rattle.utf.specs.declared.utf32.ByteOrder.{ByteOrder}
use Rattle.utf.specs.declared.utf32.ByteOrder.TheVariants.{Big, Little}
use Rattle.utf.specs.declared.scheme.Scheme.{Scheme}
use Rattle.utf.specs.declared.scheme.Scheme.TheVariants as scheme
use Rattle.utf.specs.declared.utf8.Sequence.{Sequence}
use Rattle.utf.specs.declared.utf8.Sequence.TheVariants as sequence
use Rattle.utf.proofs.Puts.{length-encode}
use Rattle.utf.proofs.RoundTrip.{utf8-encode-decode, utf8-decode-encode, reads-within}
use Rattle.utf.proofs.MoreInput.{more-input-same}
use Rattle.utf.proofs.Words.{length-encode_in}
use Rattle.utf.proofs.FourBytes.{decode_in⇒Read, utf32-encode-decode, utf32-same, utf32-long}
use Rattle.table.specs.States.{longest, cut_of, end_kind}
use Rattle.table.specs.Meaning.{Line, Table, steps_of, reader}
use Rattle.table.specs.Rules.{t6}
use Rattle.table.specs.declared.states.Cut.{Cut}
use Rattle.table.specs.declared.states.Cut.TheVariants as cut
use Rattle.table.specs.declared.states.CutStop.TheVariants as cut_stop
use Rattle.table.proofs.Cuts.{cut-complete, cut-code, cut-within, cut-more}
use Rattle.table.proofs.Broken.{illegal-some, illegal-inside}
use Rattle.table.proofs.FormLines.{reader-keeps}
use Rattle.convert.specs.Run.{give, stop}
use Rattle.convert.specs.Step.{substitute_point, point_for, on_cut, to_sequence, encoded, to_plain, Written, code, subchar1, nothing, writes, sent_for, on_sequence, from_plain}
use Rattle.convert.specs.declared.Settings.{Settings}
use Rattle.lists.specs.Tests.{all_of}
use Rattle.convert.specs.loops.Inner.{Sound, Settled, GivesAlone, Stays, LawfulSide}
use Rattle.table.specs.declared.states.EndKind.{EndKind}

-- what decodes in UTF-8 is the encoding of its value
utf8-alone : (s : List ℕ) (c n : ℕ) → decode_one s ≡ sequence.Scalar c n → decode_one (take n s) ≡ sequence.Scalar c n
utf8-alone s c n e =
    let r = utf8-decode-encode s c n e in
    let front : take n s ≡ encode_of c ++ [] =
    ap (take n) r.bytes ∙ take_at (encode_of c) (drop n s) n (sym r.count) ∙ sym (append-nil (encode_of c)) in
    ap decode_one front ∙ utf8-encode-decode c [] r.scalar ∙ ap (sequence.Scalar c) (sym r.count)

-- no bytes are no illegal sequence
utf8-some : (s : List ℕ) (n : ℕ) → decode_one s ≡ sequence.Stopped (stopped.Illegal n) → 1 ≤ length s
unfolding decode_one
utf8-some [] n e = absurd (let z : ◌≡◌ {A = ℕ} 0 1 = cc in omega arith)
utf8-some (b ∷ s) n e = omega arith

pub utf8-lawful : LawfulSide utf8
utf8-lawful = record {
  some = λ c. omega (arith, length-encode c);
  few = λ c. omega (arith, length-encode c);
  put_reads = utf8-encode-decode;
  scalar = λ s c n e. (reads-within s c n e).scalar;
  positive = λ s c n e. (reads-within s c n e).some;
  within = λ s c n e. (reads-within s c n e).within;
  grows = λ s t c n e. more-input-same s t (λ q. let z : ◌≡◌ {A = ℕ} 0 1 = cc in omega arith) ∙ e;
  alone = utf8-alone;
  unit-some = omega arith;
  unit-within = utf8-some;
  illegal-grows = λ s t n e. more-input-same s t (λ q. let z : ◌≡◌ {A = ℕ} 0 1 = cc in omega arith) ∙ e;
}

-- what decodes in UTF-32 is four bytes
utf32-alone : (order : ByteOrder) (s : List ℕ) (c n : ℕ) → decode_in order s ≡ sequence.Scalar c n → decode_in order (take n s) ≡ sequence.Scalar c n
utf32-alone order s c n e =
    let r = decode_in⇒Read order s c n e in
    let l : length (take 4 s) ≡ 4 = length-take-le 4 s r.long in
    ap (λ (k : ℕ). decode_in order (take k s)) r.count
    ∙ sym (utf32-same order (take 4 s) (drop 4 s) (omega arith))
    ∙ ap (decode_in order) (take-append-drop 4 s)
    ∙ e

pub utf32-lawful : (order : ByteOrder) → LawfulSide (utf32 order)
utf32-lawful order = record {
  some = λ c. omega (arith, length-encode_in order c);
  few = λ c. omega (arith, length-encode_in order c);
  put_reads = utf32-encode-decode order;
  scalar = λ s c n e. (decode_in⇒Read order s c n e).scalar;
  positive = λ s c n e. omega (arith, (decode_in⇒Read order s c n e).count);
  within = λ s c n e. let r = decode_in⇒Read order s c n e in omega (arith, r.count, r.long);
  grows = λ s t c n e. utf32-same order s t (decode_in⇒Read order s c n e).long ∙ e;
  alone = utf32-alone order;
  unit-some = omega arith;
  unit-within = utf32-long order;
  illegal-grows = λ s t n e. utf32-same order s t (utf32-long order s n e) ∙ e;
}

pub lawful : (e : Scheme) → LawfulSide (side_of e)
lawful scheme.Utf8 = utf8-lawful
lawful scheme.Utf32Be = utf32-lawful Big
lawful scheme.Utf32Le = utf32-lawful Little
lawful scheme.Utf32 = utf32-lawful Big

-- TO UNICODE. A code point was read from a complete code of one to four bytes
pub record ReadFrom (t : Table) (row : ℕ) (s : List ℕ) (n : ℕ) : Type 0 where
  pub kind : EndKind
  pub whole : cut_of (steps_of t) row s ≡ cut.Complete n kind
  pub some : 0 < n
  pub inside : n ≤ length s
  pub few : n ≤ longest

point-count : (sub1 : Option ℕ) (substitute : Bool) (m : ℕ) (o : Option Line) (c n : ℕ) → point_for sub1 substitute m o ≡ sequence.Scalar c n → m ≡ n
point-count sub1 substitute m (some l) c n e = cc
point-count sub1 true m none c n e = cc
point-count sub1 false m none c n e = absurd (let z : ◌≡◌ {A = ℕ} 0 1 = cc in omega arith)

point-legal : (sub1 : Option ℕ) (substitute : Bool) (m : ℕ) (o : Option Line) (n : ℕ) → point_for sub1 substitute m o ≡ sequence.Stopped (stopped.Illegal n) → ⊥
point-legal sub1 substitute m (some l) n e = let z : ◌≡◌ {A = ℕ} 0 1 = cc in omega arith
point-legal sub1 true m none n e = let z : ◌≡◌ {A = ℕ} 0 1 = cc in omega arith
point-legal sub1 false m none n e = let z : ◌≡◌ {A = ℕ} 0 1 = cc in omega arith

module _ (t : Table) (settings : Settings) (row : ℕ) where
  read_by : (s : List ℕ) (c n : ℕ) (x : Cut) → cut_of (steps_of t) row s ≡ x → on_cut t settings.substitute s x ≡ sequence.Scalar c n → ReadFrom t row s n
  read_by s c n (cut.Stopped cut_stop.CutShort) q e = absurd (let z : ◌≡◌ {A = ℕ} 0 1 = cc in omega arith)
  read_by s c n (cut.Stopped (cut_stop.Illegal k)) q e = absurd (let z : ◌≡◌ {A = ℕ} 0 1 = cc in omega arith)
  read_by s c n (cut.Complete m kind) q e =
      let k = point-count t.subchar1 settings.substitute m (reader (take m s) t.lines) c n e in
      let w : cut_of (steps_of t) row s ≡ cut.Complete n kind = q ∙ ap (λ (j : ℕ). cut.Complete j kind) k in
      let r = cut-within (steps_of t) s row n kind w in
      record { kind = kind; whole = w; some = r.0; inside = r.2; few = r.1 }

  pub read-from : (s : List ℕ) (c n : ℕ) → to_sequence t settings row s ≡ sequence.Scalar c n → ReadFrom t row s n
  unfolding to_sequence
  read-from s c n e = read_by s c n (cut_of (steps_of t) row s) refl e

  -- a complete code, by the line that reads it
  pub to-complete : (s : List ℕ) (n : ℕ) (kind : EndKind) → cut_of (steps_of t) row s ≡ cut.Complete n kind
      → to_sequence t settings row s ≡ point_for t.subchar1 settings.substitute n (reader (take n s) t.lines)
  unfolding to_sequence
  to-complete s n kind q = ap (on_cut t settings.substitute s) q

  to-more : (s rest : List ℕ) (c n : ℕ) → to_sequence t settings row s ≡ sequence.Scalar c n → to_sequence t settings row (s ++ rest) ≡ sequence.Scalar c n
  to-more s rest c n e =
      let r = read-from s c n e in
      let w = r.whole in
      let m = cut-more (steps_of t) row longest row 0 s rest (λ q. let z : ◌≡◌ {A = ℕ} 0 1 = cc in omega arith) in
      to-complete (s ++ rest) n r.kind (m ∙ w)
      ∙ rw (take-append-le n s rest r.inside) (sym (to-complete s n r.kind w) ∙ e)

  -- a code point, encoded
  pub record Encoded (u : Side) (s bs : List ℕ) (n next : ℕ) : Type 0 where
    pub point : ℕ
    pub reads : to_sequence t settings row s ≡ sequence.Scalar point n
    pub spelt : u.encode point ≡ bs
    pub stays : row ≡ next

  encoded-by : (u : Side) (s bs : List ℕ) (n next : ℕ) (x : Sequence) → to_sequence t settings row s ≡ x → encoded u row x ≡ give bs n next
      → Encoded u s bs n next
  encoded-by u s bs n next (sequence.Stopped w) q e = absurd (let z : ◌≡◌ {A = ℕ} 0 1 = cc in omega arith)
  encoded-by u s bs n next (sequence.Scalar c m) q e =
      let k : m ≡ n = cc in
      record { point = c; reads = q ∙ ap (sequence.Scalar c) k; spelt = cc; stays = cc }

  pub to_plain⇒Encoded : (u : Side) (s bs : List ℕ) (n next : ℕ) → to_plain u t settings row s ≡ give bs n next → Encoded u s bs n next
  unfolding to_plain
  to_plain⇒Encoded u s bs n next e = encoded-by u s bs n next (to_sequence t settings row s) refl e

  pub to-plain : (u : Side) (s : List ℕ) (x : Sequence) → to_sequence t settings row s ≡ x → to_plain u t settings row s ≡ encoded u row x
  unfolding to_plain
  to-plain u s x q = ap (encoded u row) q

  -- a stop does not depend on the Unicode side
  stops-by : (u v : Side) (x : Sequence) (w : Stop) → encoded u row x ≡ stop w → encoded v row x ≡ stop w
  stops-by u v (sequence.Scalar c n) w e = absurd (let z : ◌≡◌ {A = ℕ} 0 1 = cc in omega arith)
  stops-by u v (sequence.Stopped y) w e = e

  pub to-stops : (u v : Side) (s : List ℕ) (w : Stop) → to_plain u t settings row s ≡ stop w → to_plain v t settings row s ≡ stop w
  unfolding to_plain
  to-stops u v s w e = stops-by u v (to_sequence t settings row s) w e

  -- only the states make a sequence illegal
  illegal-by : (s : List ℕ) (n : ℕ) (x : Cut) → on_cut t settings.substitute s x ≡ sequence.Stopped (stopped.Illegal n) → x ≡ cut.Stopped (cut_stop.Illegal n)
  illegal-by s n (cut.Stopped cut_stop.CutShort) e = absurd (let z : ◌≡◌ {A = ℕ} 0 1 = cc in omega arith)
  illegal-by s n (cut.Stopped (cut_stop.Illegal k)) e = let q : k ≡ n = cc in ap (λ (j : ℕ). cut.Stopped (cut_stop.Illegal j)) q
  illegal-by s n (cut.Complete m kind) e = absurd (point-legal t.subchar1 settings.substitute m (reader (take m s) t.lines) n e)

  pub stop-by : (u : Side) (x : Sequence) (w : Stop) → encoded u row x ≡ stop w → x ≡ sequence.Stopped w
  stop-by u (sequence.Scalar c n) w e = absurd (let z : ◌≡◌ {A = ℕ} 0 1 = cc in omega arith)
  stop-by u (sequence.Stopped y) w e = let q : y ≡ w = cc in ap sequence.Stopped q

  pub to-illegal : (u : Side) (s : List ℕ) (n : ℕ) → to_plain u t settings row s ≡ stop (stopped.Illegal n) → cut_of (steps_of t) row s ≡ cut.Stopped (cut_stop.Illegal n)
  unfolding to_plain to_sequence
  to-illegal u s n e = illegal-by s n (cut_of (steps_of t) row s) (stop-by u (to_sequence t settings row s) (stopped.Illegal n) e)

  illegal-more : (u : Side) (s rest : List ℕ) (n : ℕ) → to_plain u t settings row s ≡ stop (stopped.Illegal n) → to_plain u t settings row (s ++ rest) ≡ stop (stopped.Illegal n)
  unfolding to_sequence
  illegal-more u s rest n e =
      let w = to-illegal u s n e in
      let m = cut-more (steps_of t) row longest row 0 s rest (λ q. let z : ◌≡◌ {A = ℕ} 0 1 = cc in omega arith) in
      to-plain u (s ++ rest) (sequence.Stopped (stopped.Illegal n)) (ap (on_cut t settings.substitute (s ++ rest)) (m ∙ w))

  -- a complete code reads alone as it does in front of others
  code-alone : (s : List ℕ) (c n : ℕ) → to_sequence t settings row s ≡ sequence.Scalar c n → to_sequence t settings row (take n s) ≡ sequence.Scalar c n
  code-alone s c n e =
      let r = read-from s c n e in
      let k = cut-complete (steps_of t) row longest row 0 s n r.kind r.whole in
      let z : n - 0 ≡ n = omega arith in
      let l : length (take n s) ≡ n = length-take-le n s r.inside in
      let m : 0 + length (take n s) ≡ n = omega arith in
      let ends = k.ends in
      let w : cut_of (steps_of t) row (take n s) ≡ cut.Complete n r.kind =
      ap (cut_of (steps_of t) row) (sym (append-nil (take n s)))
      ∙ cut-code (steps_of t) row longest row 0 (take n s) [] r.kind (ap (λ (j : ℕ). end_kind (steps_of t) row (take j s)) (sym z) ∙ ends)
      (omega (arith, r.few))
      ∙ ap (λ (j : ℕ). cut.Complete j r.kind) m in
      to-complete (take n s) n r.kind w
      ∙ ap (λ (x : List ℕ). point_for t.subchar1 settings.substitute n (reader x t.lines)) (take-take n n s (omega arith))
      ∙ sym (to-complete s n r.kind r.whole)
      ∙ e

pub to-plain-sound : (u : Side) (t : Table) (settings : Settings) → Sound (to_plain u t settings)
to-plain-sound u t settings = record {
  some = λ row s bs n next e. let k = to_plain⇒Encoded t settings row u s bs n next e in (read-from t settings row s k.point n k.reads).some;
  within = λ row s bs n next e. let k = to_plain⇒Encoded t settings row u s bs n next e in (read-from t settings row s k.point n k.reads).inside;
  grows = λ row s rest bs n next e.
      let k = to_plain⇒Encoded t settings row u s bs n next e in
      let c = k.point in
      to-plain t settings row u (s ++ rest) (sequence.Scalar c n) (to-more t settings row s rest c n k.reads)
      ∙ sym (to-plain t settings row u s (sequence.Scalar c n) k.reads)
      ∙ e;
}

pub to-plain-settled : (u : Side) (t : Table) (settings : Settings) → Settled (to_plain u t settings)
to-plain-settled u t settings = record {
  illegal-some = λ row s n e. illegal-some (steps_of t) row s n (to-illegal t settings row u s n e);
  illegal-within = λ row s n e. (illegal-inside (steps_of t) row s n (to-illegal t settings row u s n e)).0;
  illegal-stays = λ row s rest n e. illegal-more t settings row u s rest n e;
}

pub to-plain-alone : (u : Side) (t : Table) (settings : Settings) → GivesAlone (to_plain u t settings)
to-plain-alone u t settings row s bs n next e =
    let k = to_plain⇒Encoded t settings row u s bs n next e in
    let c = k.point in
    to-plain t settings row u (take n s) (sequence.Scalar c n) (code-alone t settings row s c n k.reads)
    ∙ sym (to-plain t settings row u s (sequence.Scalar c n) k.reads)
    ∙ e

pub to-plain-stays : (u : Side) (t : Table) (settings : Settings) → Stays (to_plain u t settings)
to-plain-stays u t settings row s bs n next e = (to_plain⇒Encoded t settings row u s bs n next e).stays

-- T6: a line's code point is a scalar value
t6-scalar : (l : Line) → t6 l ≡ true → Scalar l.point
t6-scalar l =
    pick-case (λ (b : Bool). b ≡ true → Scalar l.point) (ltb l.point 0xd800) _ _
    (λ p e. let a = ltb-true l.point 0xd800 p in record { below = omega arith; plain = λ w. omega (arith, w.0) })
    (λ p. pick-case (λ (b : Bool). b ≡ true → Scalar l.point) (ltb l.point 0xe000) _ _
    (λ q e. absurd (clash e refl))
    (λ q e.
    let a = ltb-false l.point 0xe000 q in
    let b = leb-true l.point 0x10ffff e in
    record { below = omega arith; plain = λ w. omega (arith, w.1) }))

pub reader-scalar : (t : Table) (c : List ℕ) (l : Line) → all_of t6 t.lines ≡ true → reader c t.lines ≡ some l → Scalar l.point
reader-scalar t c l ok e = t6-scalar l (reader-keeps t6 c t.lines l ok e)

substitute-scalar : (sub1 : Option ℕ) (n : ℕ) → Scalar (substitute_point sub1 n)
substitute-scalar none n = record { below = omega arith; plain = λ w. omega (arith, w.1) }
substitute-scalar (some b) n =
    pick-case Scalar (eqb n 1) _ _
    (λ q. record { below = omega arith; plain = λ w. omega (arith, w.0) })
    (λ q. record { below = omega arith; plain = λ w. omega (arith, w.1) })

point-scalar : (sub1 : Option ℕ) (substitute : Bool) (m : ℕ) (o : Option Line) (c n : ℕ) → ((l : Line) → o ≡ some l → Scalar l.point) → point_for sub1 substitute m o ≡ sequence.Scalar c n → Scalar c
point-scalar sub1 substitute m (some l) c n h e = let q : l.point ≡ c = cc in subst Scalar q (h l refl)
point-scalar sub1 true m none c n h e = let q : substitute_point sub1 m ≡ c = cc in subst Scalar q (substitute-scalar sub1 m)
point-scalar sub1 false m none c n h e = absurd (let z : ◌≡◌ {A = ℕ} 0 1 = cc in omega arith)

-- what is read is a scalar value, substitutes too
pub to-scalar : (t : Table) (settings : Settings) (row : ℕ) (s : List ℕ) (c n : ℕ) → all_of t6 t.lines ≡ true
    → to_sequence t settings row s ≡ sequence.Scalar c n → Scalar c
to-scalar t settings row s c n ok e =
    let r = read-from t settings row s c n e in
    point-scalar t.subchar1 settings.substitute n (reader (take n s) t.lines) c n
    (λ l q. reader-scalar t (take n s) l ok q)
    (sym (to-complete t settings row s n r.kind r.whole) ∙ e)

-- FROM UNICODE
sent-gives : (t : Table) (substitute : Bool) (row m : ℕ) (w : Written) (bs : List ℕ) (n next : ℕ) → sent_for t substitute row m w ≡ give bs n next → (m ≡ n) × (row ≡ next)
sent-gives t substitute row m (code c) bs n next e = (cc, cc)
sent-gives t true row m subchar1 bs n next e = (cc, cc)
sent-gives t false row m subchar1 bs n next e = absurd (let z : ◌≡◌ {A = ℕ} 0 1 = cc in omega arith)
sent-gives t true row m nothing bs n next e = (cc, cc)
sent-gives t false row m nothing bs n next e = absurd (let z : ◌≡◌ {A = ℕ} 0 1 = cc in omega arith)

sent-legal : (t : Table) (substitute : Bool) (row m : ℕ) (w : Written) (n : ℕ) → sent_for t substitute row m w ≡ stop (stopped.Illegal n) → ⊥
sent-legal t substitute row m (code c) n e = let z : ◌≡◌ {A = ℕ} 0 1 = cc in omega arith
sent-legal t true row m subchar1 n e = let z : ◌≡◌ {A = ℕ} 0 1 = cc in omega arith
sent-legal t false row m subchar1 n e = let z : ◌≡◌ {A = ℕ} 0 1 = cc in omega arith
sent-legal t true row m nothing n e = let z : ◌≡◌ {A = ℕ} 0 1 = cc in omega arith
sent-legal t false row m nothing n e = let z : ◌≡◌ {A = ℕ} 0 1 = cc in omega arith

module _ (u : Side) (t : Table) (settings : Settings) (row : ℕ) where
  from-by : (s bs : List ℕ) (n next : ℕ) (x : Sequence) → u.decode s ≡ x → on_sequence u t settings.fallback settings.substitute row x ≡ give bs n next
      → (c : ℕ) × (u.decode s ≡ sequence.Scalar c n)
  from-by s bs n next (sequence.Stopped w) q e = absurd (let z : ◌≡◌ {A = ℕ} 0 1 = cc in omega arith)
  from-by s bs n next (sequence.Scalar c m) q e = (c, q ∙ ap (sequence.Scalar c) (sent-gives t settings.substitute row m (writes t settings.fallback c) bs n next e).0)

  -- what is written was read as a code point
  from-point : (s bs : List ℕ) (n next : ℕ) → from_plain u t settings row s ≡ give bs n next → (c : ℕ) × (u.decode s ≡ sequence.Scalar c n)
  unfolding from_plain
  from-point s bs n next e = from-by s bs n next (u.decode s) refl e

  pub from-plain : (s : List ℕ) (x : Sequence) → u.decode s ≡ x
      → from_plain u t settings row s ≡ on_sequence u t settings.fallback settings.substitute row x
  unfolding from_plain
  from-plain s x q = ap (on_sequence u t settings.fallback settings.substitute row) q

  stays_by : (bs : List ℕ) (n next : ℕ) (x : Sequence) → on_sequence u t settings.fallback settings.substitute row x ≡ give bs n next → row ≡ next
  stays_by bs n next (sequence.Stopped w) e = absurd (let z : ◌≡◌ {A = ℕ} 0 1 = cc in omega arith)
  stays_by bs n next (sequence.Scalar c m) e = (sent-gives t settings.substitute row m (writes t settings.fallback c) bs n next e).1

  from-stays : (s bs : List ℕ) (n next : ℕ) → from_plain u t settings row s ≡ give bs n next → row ≡ next
  unfolding from_plain
  from-stays s bs n next e = stays_by bs n next (u.decode s) e

  -- only the decoder makes a sequence illegal
  from-illegal-by : (s : List ℕ) (n : ℕ) (x : Sequence) → u.decode s ≡ x
      → on_sequence u t settings.fallback settings.substitute row x ≡ stop (stopped.Illegal n)
      → (m : ℕ) × (u.decode s ≡ sequence.Stopped (stopped.Illegal m)) × (u.unit ≡ n)
  from-illegal-by s n (sequence.Stopped stopped.CutShort) q e = absurd (let z : ◌≡◌ {A = ℕ} 0 1 = cc in omega arith)
  from-illegal-by s n (sequence.Stopped (stopped.Illegal m)) q e = (m, q, cc)
  from-illegal-by s n (sequence.Stopped stopped.Unassigned) q e = absurd (let z : ◌≡◌ {A = ℕ} 0 1 = cc in omega arith)
  from-illegal-by s n (sequence.Scalar c m) q e = absurd (sent-legal t settings.substitute row m (writes t settings.fallback c) n e)

  pub from-illegal : (s : List ℕ) (n : ℕ) → from_plain u t settings row s ≡ stop (stopped.Illegal n)
      → (m : ℕ) × (u.decode s ≡ sequence.Stopped (stopped.Illegal m)) × (u.unit ≡ n)
  unfolding from_plain
  from-illegal s n e = from-illegal-by s n (u.decode s) refl e

pub from-plain-sound : (u : Side) → LawfulSide u → (t : Table) (settings : Settings) → Sound (from_plain u t settings)
from-plain-sound u law t settings = record {
  some = λ row s bs n next e. let k = from-point u t settings row s bs n next e in law.positive s k.0 n k.1;
  within = λ row s bs n next e. let k = from-point u t settings row s bs n next e in law.within s k.0 n k.1;
  grows = λ row s rest bs n next e.
      let k = from-point u t settings row s bs n next e in
      from-plain u t settings row (s ++ rest) (sequence.Scalar k.0 n) (law.grows s rest k.0 n k.1)
      ∙ sym (from-plain u t settings row s (sequence.Scalar k.0 n) k.1)
      ∙ e;
}

pub from-plain-settled : (u : Side) → LawfulSide u → (t : Table) (settings : Settings) → Settled (from_plain u t settings)
from-plain-settled u law t settings = record {
  illegal-some = λ row s n e. let k = from-illegal u t settings row s n e in omega (arith, law.unit-some, k.2);
  illegal-within = λ row s n e. let k = from-illegal u t settings row s n e in omega (arith, law.unit-within s k.0 k.1, k.2);
  illegal-stays = λ row s rest n e.
      let k = from-illegal u t settings row s n e in
      from-plain u t settings row (s ++ rest) (sequence.Stopped (stopped.Illegal k.0)) (law.illegal-grows s rest k.0 k.1)
      ∙ ap (λ (j : ℕ). stop (stopped.Illegal j)) k.2;
}

pub from-plain-alone : (u : Side) → LawfulSide u → (t : Table) (settings : Settings) → GivesAlone (from_plain u t settings)
from-plain-alone u law t settings row s bs n next e =
    let k = from-point u t settings row s bs n next e in
    from-plain u t settings row (take n s) (sequence.Scalar k.0 n) (law.alone s k.0 n k.1)
    ∙ sym (from-plain u t settings row s (sequence.Scalar k.0 n) k.1)
    ∙ e

pub from-plain-stays : (u : Side) (t : Table) (settings : Settings) → Stays (from_plain u t settings)
from-plain-stays u t settings row s bs n next e = from-stays u t settings row s bs n next e
