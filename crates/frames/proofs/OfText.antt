-- The frames' lines over what loading an accepted text gave and left are those by the text's own rows and lines.
use Rattle.std.proofs.Common.{◌≡◌, ℕ, false, List, [], map, length, ap, ◌∙◌}
use mathlib.Core.List.{flatten}
use Rattle.lists.specs.Order.{All}
use Rattle.utf.specs.declared.scheme.Scheme.TheVariants.{Utf8}
use Rattle.table.specs.Limits.{limits}
use Rattle.table.specs.Meaning.{Table}
use Rattle.table.specs.Slices.{Slices}
use Rattle.table.specs.Load.{read, accepted, loaded_by, given, left_in, record_handed}
use Rattle.convert.specs.Run.{Run}
use Rattle.convert.specs.Step.{substituting}
use Rattle.convert.specs.Convert.{to_run}
use Rattle.convert.proofs.LoadedText.{to-loaded}
use Rattle.frames.specs.Stream.{whole, cut_lines}
use Rattle.frames.specs.Report.{convert_in, line_report, lines_report}
use Rattle.frames.specs.loops.Inputs.{Piece, in_pieces, all_text}
use Rattle.frames.specs.loops.Inner.{Ample}
use Rattle.frames.proofs.WholeInput.{whole-input, program-reads}

module _ (text : List ℕ) (old : Slices) (t : Table) (e : given limits text old ≡ read (accepted t)) where
  -- the conversion in the program, after the load
  abbrev pub loaded : List ℕ → Run
  loaded = let m = left_in limits (given limits text old) old in convert_in (record_handed (loaded_by (given limits text old))) m

  -- the conversion by the text's table
  abbrev pub by_text : List ℕ → Run
  by_text s = to_run Utf8 t (substituting false) s 16384

  converts-by-text : loaded ≡ by_text
  unfolding convert_in
  converts-by-text = λ i s. to-loaded text old t e Utf8 (substituting false) s 16384 i

  -- ALL LINES OF FRAMES, for an input that comes in any pieces, each of which is read through
  pub read-by-text : (memory : List ℕ) (pieces : List Piece) → (in_pieces (line_report loaded) memory (whole []) pieces).unread ≡ []
      → all_text (line_report loaded) memory pieces ≡ lines_report (line_report by_text) (cut_lines (length memory) (flatten (map (λ p. p.bytes) pieces)))
  read-by-text memory pieces u =
      whole-input (line_report loaded) memory pieces u
      ∙ ap (λ (convert : List ℕ → Run). lines_report (line_report convert) (cut_lines (length memory) (flatten (map (λ p. p.bytes) pieces)))) converts-by-text

  -- and with as many calls as bytes, each with room for the widest line, every piece is
  pub frames-by-text : (memory : List ℕ) (pieces : List Piece) → All (Ample 32777) pieces
      → all_text (line_report loaded) memory pieces ≡ lines_report (line_report by_text) (cut_lines (length memory) (flatten (map (λ p. p.bytes) pieces)))
  frames-by-text memory pieces h =
      let m = left_in limits (given limits text old) old in
      read-by-text memory pieces (program-reads (record_handed (loaded_by (given limits text old))) m memory pieces h)
