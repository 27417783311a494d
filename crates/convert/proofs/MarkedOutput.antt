-- A conversion that is written behind the scheme's mark, in what the mark leaves of the output.
-- mark-full   the mark does not fit       answer-behind, output-behind   it does: the answer, and the output
use mathlib.Core.Path.{◌≡◌, sym, ap, ◌∙◌}
use Prim.Native.Nat.{ℕ, ◌+◌, ◌-◌, ◌≤◌}
use mathlib.Core.Bool.{true, false}
use mathlib.Core.List.{List, ◌++◌}
use native.Mathlib.Omega.{arith}
use borrow.Author.Tests.{leb-true, leb-false}
use lib.ListN.{length, take, drop, length-drop}
use Rattle.lists.specs.Pick.{pick}
use Rattle.lists.specs.Place.{fits, placed}
use Rattle.lists.proofs.Cases.{pick_yes, pick_no}
use Rattle.lists.proofs.Parts.{take_drop_all}
use Rattle.utf.specs.Scheme.{Side, side_of}
use Rattle.utf.specs.declared.scheme.Scheme.{Scheme}
use Rattle.convert.specs.Run.{Run, after, ended_with, converted_of, put_out}
use Rattle.convert.specs.Convert.{mark_of, write_in}
use Rattle.convert.specs.declared.Converted.{Converted}
use Rattle.convert.specs.declared.RunEnd.TheVariants.{OutputFull}
use Rattle.convert.proofs.Marked.{drop-marked, put-behind, written_behind}
use Rattle.convert.proofs.Schemes.{write_in-full, write_in-mark}

module _ (e : Scheme) (run : Side → ℕ → Run) (old new : List ℕ)
    (put : new ≡ pick (fits old 0 (mark_of e)) (placed old 0 (mark_of e)) old) where
  pub mark-full : fits old 0 (mark_of e) ≡ false → (ended_with OutputFull 0 ≡ write_in e run (length old)) × (new ≡ put_out (write_in e run (length old)) old)
  mark-full f =
      let l = leb-false (0 + length (mark_of e)) (length old) f in
      let w = write_in-full run e (length old) (omega (arith, l)) in
      (sym w, put ∙ pick_no _ _ _ f ∙ ap (λ (r : Run). put_out r old) (sym w))

  module _ (fit : fits old 0 (mark_of e) ≡ true) (n : ℕ) (count : n ≡ length (mark_of e)) where
    -- what is lent on
    abbrev lent : List ℕ
    lent = take (length new - n) (drop n new)

    abbrev behind : Run
    behind = run (side_of e) (length lent)

    room : n ≤ length old
    room = omega (arith, leb-true (0 + length (mark_of e)) (length old) fit, count)

    was-put : new ≡ placed old 0 (mark_of e)
    was-put = put ∙ pick_yes _ _ _ fit

    lent_is : lent ≡ drop n old
    lent_is = take_drop_all new n ∙ drop-marked (mark_of e) n (sym count) old new was-put

    whole : after 0 (mark_of e) behind ≡ write_in e run (length old)
    whole =
        let l : length lent ≡ length old - length (mark_of e) = ap (λ (x : List ℕ). length x) lent_is ∙ length-drop n old ∙ ap (λ (k : ℕ). length old - k) count in
        sym (write_in-mark run e (length old) (omega (arith, count, room)) ∙ ap (λ (k : ℕ). after 0 (mark_of e) (run (side_of e) k)) (sym l))

    pub answer-behind : (d : Converted) → d ≡ converted_of behind
        → ◌≡◌ {A = Converted} (record { end = d.end; read = d.read; written = d.written + n }) (converted_of (write_in e run (length old)))
    answer-behind d is = written_behind (mark_of e) n (sym count) behind d is ∙ ap converted_of whole

    pub output-behind : (part : List ℕ) → part ≡ put_out behind lent
        → take n new ++ (part ++ drop (length new - n) (drop n new)) ≡ put_out (write_in e run (length old)) old
    output-behind part is =
        put-behind (mark_of e) n (sym count) old new was-put behind (length new - n) part (omega arith) (is ∙ ap (put_out behind) lent_is)
        ∙ ap (λ (r : Run). put_out r old) whole
