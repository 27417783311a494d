-- Calls of `report_frames` on one piece of input after the other and then of `report_last`, each as the function's own contract has it:
-- what they put is what the definitions put for an input that comes so.
use Prim.Native.Nat.{ℕ, ◌+◌, ◌≤◌}
use native.Mathlib.Omega.{arith}
use mathlib.Core.Path.{◌≡◌, refl, sym, ap, ◌∙◌, subst}
use mathlib.Core.List.{List, [], ◌∷◌, ◌++◌, map}
use lib.ListN.{length, drop}
use lib.Seq.{drop-drop}
use Rattle.lists.proofs.Laws.{drop_past}
use Rattle.table.specs.Slices.{Slices}
use Rattle.table.specs.declared.valid.Record.{Record}
use Rattle.frames.specs.Lines.{put_into}
use Rattle.frames.specs.Stream.{InputLine, whole, too_long, last_line, partial_in, partial_of}
use Rattle.frames.specs.Report.{convert_in, line_report, lines_report, Reporting, reporting_of, progress_of}
use Rattle.frames.specs.loops.Inputs.{Piece, calls_on, in_pieces, all_text}
use Rattle.std.specs.Prelude.{Option, Some}
use Rattle.frames.specs.declared.report.Progress.{Progress}
use Rattle.frames.proofs.PartialLines.{last_some, last_none}
use Rattle.frames.proofs.Reports.{held_in-none, reporting-fits, reporting-held}
use Rattle.frames.proofs.Fronts.{front-taken, counted-taken}
use Rattle.frames.proofs.Widths.{line-fits}
use Rattle.promises.specs.Program.{FramesCall, frames_record, frames_slices, piece_given, from_of, line_of, partial_given, line_after, frames_out, frames_out_after, put_by, OnPiece, PieceCalls, OnPieces, put_by_all, frames_put, LastCall, last_record, last_slices, last_line_of, last_partial, last_out, last_out_after, last_put, AtEnd}

-- the line that is put for a line of the input
abbrev write : Record → Slices → InputLine → List ℕ
write rec m = line_report (convert_in rec m)

-- the contract, read
abbrev report_by : FramesCall → Reporting
report_by c = reporting_of (write (frames_record c) (frames_slices c)) (line_of c) (partial_in (line_of c) (partial_given c)) (drop (from_of c) (piece_given c)) (length (frames_out c))

record Reading (c : FramesCall) : Type 0 where
  answer : c.result ≡ progress_of (from_of c) (report_by c)
  memory : line_after c ≡ (report_by c).memory
  text : put_by c ≡ (report_by c).text

reading : (c : FramesCall) → Reading c
reading c =
    let r = report_by c in
    let p : (c.result ≡ progress_of (from_of c) r) × (line_after c ≡ r.memory) × (frames_out_after c ≡ put_into (frames_out c) 0 r.text) = c.post.0 in
    let fits = reporting-fits (write (frames_record c) (frames_slices c)) (line_of c) (partial_in (line_of c) (partial_given c)) (drop (from_of c) (piece_given c)) (length (frames_out c)) in
    record {
      answer = p.0;
      memory = p.1;
      text = front-taken (frames_out c) r.text fits _ _ (ap (λ (x : Progress). x.put) p.0) p.2;
    }

abbrev pub frames_rooms : List FramesCall → List ℕ
frames_rooms cs = map (λ (c : FramesCall). length (frames_out c)) cs

module _ (rec : Record) (m : Slices) where
  -- they do what the definition says of a piece
  record Piecewise (next : List ℕ → Option ℕ → Type 0) (line : List ℕ) (h : InputLine) (s : List ℕ) (cs : List FramesCall) : Type 0 where
    text : put_by_all cs ≡ (calls_on (write rec m) line h s (frames_rooms cs)).text
    through : (calls_on (write rec m) line h s (frames_rooms cs)).unread ≡ []
    known : let r = calls_on (write rec m) line h s (frames_rooms cs) in partial_in r.memory (partial_of r.held) ≡ r.held
    then : let r = calls_on (write rec m) line h s (frames_rooms cs) in next r.memory (partial_of r.held)

  on-piece : (bytes : List ℕ) (next : List ℕ → Option ℕ → Type 0) (cs : List FramesCall) (from : ℕ) (line : List ℕ) (h : InputLine)
      → partial_in line (partial_of h) ≡ h
      → OnPiece rec m bytes next from line (partial_of h) cs → Piecewise next line h (drop from bytes) cs
  unfolding put_by_all calls_on
  on-piece bytes next [] from line h k o = record { text = refl; through = drop_past bytes from o.0; known = k; then = o.1 }
  on-piece bytes next (c ∷ cs) from line h k o =
      let (a, b, d, f, l, p, rest) = o in
      let room = length (frames_out c) in
      let r : Reporting = reporting_of (write rec m) line h (drop from bytes) room in
      let e : report_by c ≡ r =
      (λ i. reporting_of (write (a i) (b i)) (l i) (partial_in (l i) (p i)) (drop (f i) (d i)) room)
      ∙ ap (λ (x : InputLine). reporting_of (write rec m) line x (drop from bytes) room) k in
      let w = reading c in
      let answer : c.result ≡ progress_of from r = w.answer ∙ (λ i. progress_of (f i) (e i)) in
      let memory : line_after c ≡ r.memory = w.memory ∙ ap (λ (x : Reporting). x.memory) e in
      let q : OnPiece rec m bytes next (from + r.taken) r.memory (partial_of r.held) cs =
      subst (λ (x : Progress). OnPiece rec m bytes next x.at r.memory x.held cs) answer
      (subst (λ (x : List ℕ). OnPiece rec m bytes next c.result.at x c.result.held cs) memory rest) in
      let ih = on-piece bytes next cs (from + r.taken) r.memory r.held (reporting-held (write rec m) line h (drop from bytes) room k) q in
      let ih' = subst (λ (s : List ℕ). Piecewise next r.memory r.held s cs) (sym (drop-drop r.taken from bytes)) ih in
      record {
        text = (λ i. (w.text ∙ ap (λ (x : Reporting). x.text) e) i ++ ih'.text i);
        through = ih'.through;
        known = ih'.known;
        then = ih'.then;
      }

abbrev pub piece_of : PieceCalls → Piece
piece_of p = record { bytes = p.bytes; rooms = frames_rooms p.calls }

module _ (rec : Record) (m : Slices) where
  record Inputwise (next : List ℕ → Option ℕ → Type 0) (line : List ℕ) (h : InputLine) (ps : List PieceCalls) : Type 0 where
    text : frames_put ps ≡ (in_pieces (write rec m) line h (map piece_of ps)).text
    through : (in_pieces (write rec m) line h (map piece_of ps)).unread ≡ []
    known : let r = in_pieces (write rec m) line h (map piece_of ps) in partial_in r.memory (partial_of r.held) ≡ r.held
    then : let r = in_pieces (write rec m) line h (map piece_of ps) in next r.memory (partial_of r.held)

  in-pieces : (next : List ℕ → Option ℕ → Type 0) (ps : List PieceCalls) (line : List ℕ) (h : InputLine) → partial_in line (partial_of h) ≡ h
      → OnPieces rec m next line (partial_of h) ps → Inputwise next line h ps
  unfolding frames_put in_pieces
  in-pieces next [] line h k o = record { text = refl; through = refl; known = k; then = o }
  in-pieces next (p ∷ ps) line h k o =
      let w = on-piece rec m p.bytes (λ line' held'. OnPieces rec m next line' held' ps) p.calls 0 line h k o in
      let r = calls_on (write rec m) line h p.bytes (frames_rooms p.calls) in
      let ih = in-pieces next ps r.memory r.held w.known w.then in
      record {
        text = (λ i. w.text i ++ ih.text i);
        through = (λ i. w.through i ++ ih.through i);
        known = ih.known;
        then = ih.then;
      }

last_fits : (rec : Record) (m : Slices) (h : InputLine) → length (lines_report (write rec m) (last_line h)) ≤ 32777
last_fits rec m (whole []) = omega (arith, ap length (last_none (write rec m) (whole []) refl))
last_fits rec m (whole (b ∷ s)) =
    let n : whole (b ∷ s) ≡ whole [] → ⊥ = (λ e. let z : ◌≡◌ {A = ℕ} 0 1 = cc in omega arith) in
    omega (arith, ap length (last_some (write rec m) (whole (b ∷ s)) n), line-fits rec m (whole (b ∷ s)))
last_fits rec m too_long =
    let n : too_long ≡ whole [] → ⊥ = (λ e. let z : ◌≡◌ {A = ℕ} 0 1 = cc in omega arith) in
    omega (arith, ap length (last_some (write rec m) too_long n), line-fits rec m too_long)

last-is : (rec : Record) (m : Slices) (c : LastCall) (line : List ℕ) (h : InputLine) → partial_in line (partial_of h) ≡ h → AtEnd rec m c line (partial_of h)
    → last_put c ≡ lines_report (write rec m) (last_line h)
last-is rec m c line h k o =
    let (a, b, l, p, room) = o in
    let text = lines_report (write (last_record c) (last_slices c)) (last_line (partial_in (last_line_of c) (last_partial c))) in
    let e : text ≡ lines_report (write rec m) (last_line h) =
    (λ i. lines_report (write (a i) (b i)) (last_line (partial_in (l i) (p i)))) ∙ ap (λ (x : InputLine). lines_report (write rec m) (last_line x)) k in
    let f = last_fits (last_record c) (last_slices c) (partial_in (last_line_of c) (last_partial c)) in
    counted-taken (last_out c) text (omega arith) c.result (last_out_after c) c.post.0 ∙ e

-- ALL LINES OF FRAMES: what the calls put is what the definitions put, and every piece is read through
pub frames-put : (rec : Record) (m : Slices) (line : List ℕ) (ps : List PieceCalls) (c : LastCall)
    → OnPieces rec m (AtEnd rec m c) line (Some 0) ps
    → (frames_put ps ++ last_put c ≡ all_text (write rec m) line (map piece_of ps))
    × ((in_pieces (write rec m) line (whole []) (map piece_of ps)).unread ≡ [])
unfolding partial_of
frames-put rec m line ps c o =
    let w = in-pieces rec m (AtEnd rec m c) ps line (whole []) (held_in-none line) o in
    let r = in_pieces (write rec m) line (whole []) (map piece_of ps) in
    let e = last-is rec m c r.memory r.held w.known w.then in
    ((λ i. w.text i ++ e i), w.through)
