-- THE WHOLE OUTPUT OF REAL CALLS: `load`, `report_table`, `report_frames`, `report_last`, `list_codes` and `report_closing`, each as the function's own
-- contract has it, called in the program's order with what the calls before handed back, put just what document 01 has the program write.
use Prim.Native.Nat.{ℕ}
use native.Mathlib.Omega.{arith}
use mathlib.Core.Path.{◌≡◌, refl, sym, ap, ◌∙◌, subst}
use mathlib.Core.List.{List, [], ◌∷◌, ◌++◌, map, flatten}
use Rattle.std.proofs.Math.Option.{none, some}
use Rattle.table.specs.Limits.{limits}
use Rattle.table.specs.Slices.{Slices}
use Rattle.table.specs.Numbers.{Loaded}
use Rattle.table.specs.Load.{Outcome, accepted, refused, load_of, loaded_as, loaded_by, given, record_handed, refusal_in}
use Rattle.table.specs.declared.load.Refusal.{Refusal}
use Rattle.frames.specs.Lines.{closing_line}
use Rattle.frames.specs.Report.{table_line}
use Rattle.frames.specs.loops.Inputs.{Piece, last_listed}
use Rattle.frames.specs.Pages.{nothing_yet}
use Rattle.frames.specs.Output.{output_for, output_of}
use Rattle.frames.specs.loops.Claims.{only_accepted, pages_put, all_put, Through}
use Rattle.table.proofs.GivenText.{given-lent}
use Rattle.frames.proofs.Output as output
use Rattle.promises.specs.Calls.{text_of, lent_to, left_after}
use Rattle.promises.specs.Program.{PieceCalls, table_put, closing_listing, closing_put, Begun, Rest, Course, stops, goes, written, Reads}
use Rattle.promises.proofs.LoadCalls.{answered, slices-left}
use Rattle.promises.proofs.FrameCalls.{piece_of, frames-put}
use Rattle.promises.proofs.PageCalls.{page_rooms, list_put_lem}
use Rattle.promises.proofs.EndCalls.{table-put, sums-small, closing-put}

-- the bytes of pieces, without the calls on them
bytes_same : (ps : List PieceCalls) → flatten (map (λ (p : Piece). p.bytes) (map piece_of ps)) ≡ flatten (map (λ (p : PieceCalls). p.bytes) ps)
unfolding flatten
bytes_same [] = refl
bytes_same (p ∷ ps) = ap (λ (s : List ℕ). p.bytes ++ s) (bytes_same ps)

line-alone : (why : Refusal) (o : Outcome) → refusal_in (loaded_as o) ≡ some why → (input : List ℕ) → table_line (loaded_as o) ≡ output_for o input
unfolding table_line
line-alone why (accepted t) e input = let z : ◌≡◌ {A = ℕ} 0 1 = cc in absurd (omega arith)
line-alone why (refused x k) e input = refl

module _ (b : Begun) where
  abbrev text : List ℕ
  text = text_of b.load

  abbrev l : Loaded
  l = b.load.result

  abbrev m : Slices
  m = left_after b.load

  outcome-is : l ≡ loaded_as (load_of limits text)
  outcome-is = answered b.load ∙ ap loaded_by (given-lent limits text (lent_to b.load) b.may_load.long-enough b.may_load.short-enough)

  first-line : table_put b.table ≡ table_line l
  first-line = table-put b.table text b.may_load.short-enough (b.gets ∙ outcome-is) b.room ∙ ap table_line b.gets

  -- a refused table: its line is all
  stops-there : (why : Refusal) → refusal_in l ≡ some why → (input : List ℕ) → table_put b.table ≡ output_of text input
  unfolding output_of
  stops-there why e input =
      first-line ∙ ap table_line outcome-is ∙ line-alone why (load_of limits text) (ap refusal_in (sym outcome-is) ∙ e) input

  -- the claim over the definitions, on what the load handed back and left
  module _ (line : List ℕ) (pieces : List Piece) (rooms : List ℕ) where
    abbrev Claimed : Loaded → Slices → Type 0
    Claimed x y =
        (refusal_in x ≡ none → Through x y line pieces rooms)
        → all_put x y line pieces rooms ≡ output_of text (flatten (map (λ (p : Piece). p.bytes) pieces))

    claimed : Claimed l m
    claimed =
        let old = lent_to b.load in
        subst (λ (x : Loaded). Claimed x m) (sym (answered b.load))
        (subst (λ (y : Slices). Claimed (loaded_by (given limits text old)) y) (sym (slices-left b.load))
        (output.whole-output text old line pieces rooms b.may_load.short-enough b.may_load.long-enough))

  goes_on : (e : refusal_in l ≡ none) (r : Rest b) → written b (goes e r) ≡ output_of text (flatten (map (λ (p : PieceCalls). p.bytes) r.pieces))
  goes_on e r =
      let rooms = page_rooms r.pages in
      let done = (last_listed nothing_yet (pages_put l m rooms)).reached in
      let f = frames-put (record_handed l) m r.line r.pieces r.last r.frames in
      let p = list_put_lem (record_handed l) m (λ d. closing_listing r.closing ≡ d) r.pages nothing_yet r.list in
      let c : closing_put r.closing ≡ closing_line done.looked done.listed =
      closing-put r.closing done p.then (sums-small (record_handed l) m rooms nothing_yet (omega arith)) r.room in
      (λ i. first-line i ++ only_accepted (sym e i) (f.0 i ++ (p.text i ++ c i)))
      ∙ claimed r.line (map piece_of r.pieces) rooms (λ a. record { long = r.long; read = f.1; listed = p.ended })
      ∙ ap (output_of text) (bytes_same r.pieces)

-- the whole output, of the functions' own calls
pub whole-output : (b : Begun) (c : Course b) (input : List ℕ) → Reads b c input → written b c ≡ output_of (text_of b.load) input
whole-output b (stops why e) input h = stops-there b why e input
whole-output b (goes e r) input h = goes_on b e r ∙ ap (output_of (text_of b.load)) h
