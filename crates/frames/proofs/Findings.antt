-- The lines of findings: each has at most 11 bytes, its entry's number gives it back, and they are put one after the other.
use Rattle.std.proofs.Common.{◌≡◌, ℕ, ◌+◌, ◌*◌, ◌<◌, ◌≤◌, eqb, List, [], ◌∷◌, ◌++◌, map, length, get_or, drop, sym, refl, ap, ◌∙◌, arith, length-append}
use lib.Seq.{sets, sets-eq, length-sets}
use Rattle.lists.specs.Order.{All}
use Rattle.lists.proofs.Cases.{pick-case}
use Rattle.lists.proofs.Laws.{drop-∷, drop_past}
use Rattle.lists.proofs.Stores.{sets-++}
use Rattle.table.specs.Codes.{bytes_of}
use Rattle.table.proofs.Packing.{unpacked-packed}
use Rattle.audit.specs.Audit.{Finding, entry_number}
use Rattle.audit.specs.declared.AuditEntry.{AuditEntry}
use Rattle.audit.proofs.EntryNumbers.{entry-back}
use Rattle.audit.proofs.Forward.{Found}
use Rattle.frames.specs.Lines.{decimal_count, finding_line, room_after, put_into}
use Rattle.frames.specs.loops.Inner.{hex_count, entry_line, entry_lines}
use Rattle.frames.specs.Pages.{finding_lines}
use Rattle.std.specs.Prelude.{Some, None}
use Rattle.frames.proofs.Digits.{count-one}
use Rattle.frames.proofs.Writes.{Wrote, wrote-all, length-finding, was-put, was-full}

-- each has at most 11 bytes
short-hex : (n : ℕ) → n ≤ 4 → hex_count n ≤ 8
unfolding hex_count
short-hex n h = pick-case (λ (m : ℕ). m ≤ 8) (eqb n 0) 1 (2 * n) (λ t. omega arith) (λ t. omega arith)

one-digit : (n : ℕ) → n ≤ 4 → decimal_count n ≡ 1
one-digit n h = count-one n (omega arith)

line-short : (f : Finding) → Found f → length (finding_line f.code f.cause) ≤ 11
line-short f h = omega (arith, length-finding f.code f.cause, short-hex (length f.code) h.short, one-digit f.cause h.most)

pub lines-short : (l : List Finding) → All Found l → length (finding_lines l) ≤ 11 * length l
unfolding finding_lines
lines-short [] h = omega arith
lines-short (f ∷ l) h = omega (arith, length-append (finding_line f.code f.cause) (finding_lines l), line-short f h.0, lines-short l h.1)

-- its number gives it back
line-back : (f : Finding) → Found f → entry_line (entry_number f) ≡ finding_line f.code f.cause
line-back f h =
    ap (λ (e : AuditEntry). finding_line (bytes_of e.code) e.cause) (entry-back f h.bytes h.short)
    ∙ ap (λ (c : List ℕ). finding_line c f.cause) (unpacked-packed f.code h.bytes h.short)

pub lines-back : (l : List Finding) → All Found l → entry_lines (map entry_number l) ≡ finding_lines l
unfolding entry_lines finding_lines
lines-back [] h = refl
lines-back (f ∷ l) h = (λ i. line-back f h.0 i ++ lines-back l h.1 i)

-- of the lines of es, which have room in old, those before the i-th were put: p is the place behind them, out what they left
pub record Putting (es old out : List ℕ) (i p : ℕ) : Type 0 where
  pub bytes : sets out p (entry_lines (drop i es)) ≡ sets old 0 (entry_lines es)
  pub places : p + length (entry_lines (drop i es)) ≡ length (entry_lines es)
  pub same : length out ≡ length old
  pub room : length (entry_lines es) ≤ length old

pub putting-start : (es old : List ℕ) → length (entry_lines es) ≤ length old → Putting es old old 0 0
putting-start es old h = record { bytes = refl; places = omega arith; same = refl; room = h }

module _ {es old out : List ℕ} {i p : ℕ} (w : Putting es old out i p) where
  module _ (h : i < length es) where
    abbrev line : List ℕ
    line = entry_line (get_or es i 0)

    next-line : entry_lines (drop i es) ≡ line ++ entry_lines (drop (i + 1) es)
    unfolding entry_lines
    next-line = rw (drop-∷ es i h)

    next-length : length (entry_lines (drop i es)) ≡ length line + length (entry_lines (drop (i + 1) es))
    next-length = ap length next-line ∙ length-append line (entry_lines (drop (i + 1) es))

    pub putting-more : (q : ℕ) (new : List ℕ) → Some q ≡ room_after out p line → new ≡ put_into out p line → Putting es old new (i + 1) q
    putting-more q new e k =
        let r = was-put out p line q e in
        let n : new ≡ sets out p line = k ∙ r.2 ∙ sym (sets-eq line out p r.0) in
        record {
          bytes =
              (λ j. sets (n j) (r.1 j) (entry_lines (drop (i + 1) es))) ∙ sym (sets-++ out p line (entry_lines (drop (i + 1) es)))
              ∙ ap (sets out p) (sym next-line) ∙ w.bytes;
          places = omega (arith, r.1, next-length, w.places);
          same = ap length n ∙ length-sets out p line ∙ w.same;
          room = w.room;
        }

    pub putting-fits : None ≡ room_after out p line → ⊥
    putting-fits e = omega (arith, (was-full out p line e).0, next-length, w.places, w.same, w.room)

  pub putting-all : length es ≤ i → (p ≡ length (entry_lines es)) × (out ≡ put_into old 0 (entry_lines es))
  unfolding entry_lines
  putting-all h =
      let e : entry_lines (drop i es) ≡ [] = ap entry_lines (drop_past es i h) in
      let n : p ≡ length (entry_lines es) = omega (arith, ap length e, w.places) in
      let a : Wrote old 0 (entry_lines es) p out = record { bytes = ap (sets out p) (sym e) ∙ w.bytes; place = omega arith } in
      (n, (wrote-all a (omega (arith, w.room))).1)
