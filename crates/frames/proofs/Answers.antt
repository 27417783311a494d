-- The lines of the report by what was answered on the way: the load's answer, the frame that was read, and its conversion.
use Rattle.std.proofs.Common.{◌≡◌, ℕ, ◌+◌, ◌≤◌, Bool, true, false, List, [], length, take, drop, Ok, Err, sym, refl, ap, ◌∙◌, arith, length-append, length-take-le, take_at, le-leb}
use mathlib.Core.Option.{Option, none, some}
use Rattle.lists.specs.Pick.{pick}
use Rattle.lists.specs.Place.{fits, placed}
use Rattle.table.specs.Numbers.{refusal_number, Loaded}
use Rattle.table.specs.declared.load.Refused.{Refused}
use Rattle.table.specs.declared.valid.Record.{Record}
use Rattle.convert.specs.Run.{Run, converted_of, put_out, end_number}
use Rattle.convert.specs.declared.Converted.{Converted}
use Rattle.frames.specs.Lines.{ok_line, refused_line, answer_line, parsed, parsed_answer, parsed_into, put_into, count_put, put_count, room_after}
use Rattle.frames.specs.Report.{table_line}
use Rattle.std.specs.Prelude.{Option as Returned, Some, None}
use Rattle.frames.proofs.RoundTrip.{parsed-short}

-- a conversion's answer, and the text that it left
module _ (r : Run) (old text : List ℕ) (d : Converted) (e : d ≡ converted_of r) (p : text ≡ put_out r old) where
  written_is : length r.bytes ≡ d.written
  written_is = sym (ap (λ (x : Converted). x.written) e)

  pub written-fits : d.written ≤ length text
  written-fits = rw p (rw (length-append r.bytes (drop (length r.bytes) old)) (omega (arith, written_is)))

  pub answer_line-≡ : (converted : Run) → r ≡ converted → (number : ℕ) → number ≡ end_number d.end
      → answer_line number d.read (take d.written text) ≡ answer_line (end_number converted.end) converted.read converted.bytes
  answer_line-≡ converted same number n =
      let bytes : take d.written text ≡ r.bytes = rw p (take_at r.bytes (drop (length r.bytes) old) d.written written_is) in
      let number_is : number ≡ end_number r.end = n ∙ ap (λ (x : Converted). end_number x.end) e in
      let read : d.read ≡ r.read = ap (λ (x : Converted). x.read) e in
      rw (bytes, number_is, read, same)

-- a frame that was read stands at the front of memory that takes 4,096 bytes
module _ (old : List ℕ) (room : 4096 ≤ length old) where
  frame-by : (o : Option (List ℕ)) → ((s : List ℕ) → o ≡ some s → length s ≤ 4096) → (n : ℕ) → Some n ≡ parsed_answer old o
      → (o ≡ some (take n (parsed_into old o))) × (n ≤ length (parsed_into old o))
  unfolding parsed_answer parsed_into put_into
  frame-by none short n e = let z : ◌≡◌ {A = ℕ} 0 1 = cc in absurd (omega arith)
  frame-by (some s) short n e =
      let l = short s refl in
      let t = le-leb (0 + length s) (length old) (omega arith) in
      let m : Some n ≡ Some (length s) = e ∙ simp t in
      let k : length s ≡ n = cc in
      simp t (ap some (sym (take_at s (drop (0 + length s) old) n k)), rw (length-append s (drop (0 + length s) old)) (omega arith))

  bad-by : (o : Option (List ℕ)) → ((s : List ℕ) → o ≡ some s → length s ≤ 4096) → None ≡ parsed_answer old o → o ≡ none
  unfolding parsed_answer
  bad-by none short e = refl
  bad-by (some s) short e =
      let l = short s refl in
      let m : None ≡ Some (length s) = e ∙ simp (le-leb (0 + length s) (length old) (omega arith)) in
      let z : ◌≡◌ {A = ℕ} 0 1 = cc in
      absurd (omega arith)

  pub Some⇒parsed : (line new : List ℕ) (n : ℕ) → new ≡ parsed_into old (parsed line) → Some n ≡ parsed_answer old (parsed line)
      → (some (take n new) ≡ parsed line) × (n ≤ length new)
  Some⇒parsed line new n w e = let r = frame-by (parsed line) (parsed-short line) n e in (rw w (sym r.0), rw w r.1)

  pub None⇒parsed : (line : List ℕ) → None ≡ parsed_answer old (parsed line) → parsed line ≡ none
  None⇒parsed line e = bad-by (parsed line) (parsed-short line) e

-- a text that is put is as good as its equal
pub put_into-≡ : (old : List ℕ) (at : ℕ) {text other : List ℕ} → text ≡ other → (room : Returned ℕ) (new : List ℕ)
    → (room ≡ room_after old at text) × (new ≡ put_into old at text) → (room ≡ room_after old at other) × (new ≡ put_into old at other)
put_into-≡ old at e room new w = (rw (← e) w.0, rw (← e) w.1)

-- what stands at the front of old after a text was put there
module _ (old text : List ℕ) where
  pub count-is : (n : ℕ) (room : Returned ℕ) → n ≡ count_put room → room ≡ room_after old 0 text → n ≡ put_count old text
  unfolding put_count
  count-is n room e h = e ∙ ap count_put h

  pub count_fits : put_count old text ≤ length (put_into old 0 text)
  unfolding put_count room_after put_into
  count_fits = go (fits old 0 text) refl
    where
      go : (t : Bool) → fits old 0 text ≡ t → count_put (pick t (Some (0 + length text)) None) ≤ length (pick t (placed old 0 text) old)
      go true e = omega (arith, length-append text (drop (0 + length text) old))
      go false e = omega arith

  -- the answer of a function that puts a text at the front and counts it
  pub counted-put : (n : ℕ) (room : Returned ℕ) (new : List ℕ) → n ≡ count_put room → (room ≡ room_after old 0 text) × (new ≡ put_into old 0 text)
      → ((n ≡ put_count old text) × (new ≡ put_into old 0 text)) × ((n ≤ length new) × (n ≡ length (take n new)))
  counted-put n room new e w =
      let k = count-is n room e w.0 in
      let f : n ≤ length new = rw (k, w.1) count_fits in
      ((k, w.1), (f, sym (length-take-le n new f)))

-- nothing was put
pub put-nothing : (old : List ℕ) → (0 ≡ put_count old []) × (old ≡ put_into old 0 [])
unfolding put_count room_after put_into
put-nothing old = let t = le-leb 0 (length old) (omega arith) in (simp t, simp t)

-- the table's line, by the answer
module _ (l : Loaded) where
  pub accepted-line : (rec : Record) → l ≡ Ok rec → ok_line rec.mappings ≡ table_line l
  unfolding table_line
  accepted-line rec e = rw e

  pub refused-line : (x : Refused) → l ≡ Err x → refused_line (refusal_number x.why) x.line ≡ table_line l
  unfolding table_line
  refused-line x e = rw e
