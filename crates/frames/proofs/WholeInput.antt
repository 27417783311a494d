-- What is put for an input does not depend on the pieces that it comes in, nor on the room of each call.
use Rattle.std.proofs.Common.{◌≡◌, ℕ, List, [], ◌∷◌, ◌++◌, map, length, drop, sym, refl, ap, ◌∙◌, subst, append_assoc, append-nil, arith}
use mathlib.Core.List.{flatten, append-eq-nil_iff}
use Rattle.lists.specs.Order.{All}
use Rattle.table.specs.Slices.{Slices}
use Rattle.table.specs.declared.valid.Record.{Record}
use Rattle.frames.specs.Stream.{InputLine, whole, cut_lines, last_line}
use Rattle.frames.specs.loops.Inner.{feed, feed_all, Ample}
use Rattle.frames.specs.Report.{convert_in, line_report, lines_report, reporting_of}
use Rattle.frames.specs.loops.Inputs.{Piece, AfterCalls, calls_on, in_pieces, all_text}
use Rattle.frames.proofs.Pieces.{Within, chunks-join}
use Rattle.frames.proofs.EnoughCalls.{enough-pieces}
use Rattle.frames.proofs.Reports.{Reported, reported-none, reported-then, lines-append, reporting-feeds, reporting-line, reporting-memory}
use Rattle.frames.proofs.Widths.{line-fits}

module _ (write : InputLine → List ℕ) (cap : ℕ) where
  -- calls on a piece report its first lines, and leave memory and what is held as a next call needs them
  record Calls (h : InputLine) (s : List ℕ) (r : AfterCalls) : Type 0 where
    reported : Reported write cap h s r.text r.held r.unread
    fitting : Within cap r.held
    size : length r.memory ≡ cap

  calls-on : (rooms memory : List ℕ) (h : InputLine) (s : List ℕ) → length memory ≡ cap → Within cap h → Calls h s (calls_on write memory h s rooms)
  unfolding calls_on
  calls-on [] memory h s c w = record { reported = reported-none write cap h s; fitting = w; size = c }
  calls-on (room ∷ rooms) memory h s c w =
      let r = reporting_of write memory h s room in
      let one : Reported write cap h s r.text r.held (drop r.taken s) =
      subst (λ (k : ℕ). Within k h → Reported write k h s r.text r.held (drop r.taken s)) c (reporting-feeds write memory h s room) w in
      let fitting : Within cap r.held = subst (λ (k : ℕ). Within k h → Within k r.held) c (reporting-line write memory h s room) w in
      let q = calls-on rooms r.memory r.held (drop r.taken s) (reporting-memory write memory h s room ∙ c) fitting in
      record { reported = reported-then write cap one q.reported; fitting = q.fitting; size = q.size }

  -- the lines that are reported and the last one are all lines
  record Through (h : InputLine) (pieces : List Piece) (r : AfterCalls) : Type 0 where
    lines : List InputLine
    text : r.text ≡ lines_report write lines
    rest : feed_all cap h (map (λ (p : Piece). p.bytes) pieces) ≡ lines ++ last_line r.held

  through : (pieces : List Piece) (memory : List ℕ) (h : InputLine) → length memory ≡ cap → Within cap h
      → (in_pieces write memory h pieces).unread ≡ [] → Through h pieces (in_pieces write memory h pieces)
  unfolding in_pieces feed_all feed lines_report
  through [] memory h c w u = record { lines = []; text = refl; rest = refl }
  through (p ∷ pieces) memory h c w u =
      let r = calls_on write memory h p.bytes p.rooms in
      let k = calls-on p.rooms memory h p.bytes c w in
      let none = (append-eq-nil_iff {p = r.unread} {q = (in_pieces write r.memory r.held pieces).unread}).0 u in
      let q = through pieces r.memory r.held k.size k.fitting none.1 in
      let ls = k.reported.lines in
      let f : feed cap h p.bytes ≡ record { lines = ls; held = r.held } = k.reported.rest ∙ rw (none.0, append-nil ls) in
      record {
        lines = ls ++ q.lines;
        text = rw (k.reported.text, q.text) (sym (lines-append write ls q.lines));
        rest = rw (f, q.rest) (sym (append_assoc ls q.lines _));
      }

-- THE OUTPUT DOES NOT DEPEND ON HOW THE INPUT ARRIVES: if each piece is read through, it is a line for each line of the whole input
pub whole-input : (write : InputLine → List ℕ) (memory : List ℕ) (pieces : List Piece) → (in_pieces write memory (whole []) pieces).unread ≡ []
    → all_text write memory pieces ≡ lines_report write (cut_lines (length memory) (flatten (map (λ (p : Piece). p.bytes) pieces)))
whole-input write memory pieces u =
    let t = through write (length memory) pieces memory (whole []) refl (omega arith) u in
    let last = last_line (in_pieces write memory (whole []) pieces).held in
    rw t.text (sym (lines-append write t.lines last))
    ∙ ap (lines_report write) (sym t.rest ∙ chunks-join (length memory) (map (λ (p : Piece). p.bytes) pieces))

-- so two ways in which the same bytes come give the same output
pub same-output : (write : InputLine → List ℕ) (memory : List ℕ) (some others : List Piece)
    → (in_pieces write memory (whole []) some).unread ≡ [] → (in_pieces write memory (whole []) others).unread ≡ []
    → flatten (map (λ (p : Piece). p.bytes) some) ≡ flatten (map (λ (p : Piece). p.bytes) others) → all_text write memory some ≡ all_text write memory others
same-output write memory some others u v e =
    whole-input write memory some u
    ∙ ap (λ (s : List ℕ). lines_report write (cut_lines (length memory) s)) e
    ∙ sym (whole-input write memory others v)

-- THE PROGRAM'S REPORT: with as many calls as bytes, each with room for the widest line, every piece is read through, and nothing is left to suppose
module _ (rec : Record) (m : Slices) (memory : List ℕ) (pieces : List Piece) (a : All (Ample 32777) pieces) where
  abbrev write : InputLine → List ℕ
  write = line_report (convert_in rec m)

  pub program-reads : (in_pieces write memory (whole []) pieces).unread ≡ []
  program-reads = enough-pieces write 32777 (line-fits rec m) pieces a memory (whole [])

  pub program-input : all_text write memory pieces ≡ lines_report write (cut_lines (length memory) (flatten (map (λ (p : Piece). p.bytes) pieces)))
  program-input = whole-input write memory pieces program-reads
