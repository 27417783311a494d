-- The tests first, then the piece.
use mathlib.Core.Path.{◌≡◌, refl, ap, ◌∙◌}
use mathlib.Core.List.{List}
use Prim.Native.Nat.{ℕ}
use lib.ListN.{length}
use Rattle.table.specs.Limits.{limits}
use Rattle.table.specs.Slices.{Slices}
use Rattle.table.specs.Held.{memory_of}
use Rattle.table.specs.Meaning.{Table}
use Rattle.table.specs.Memory.{table_in}
use Rattle.convert.proofs.PieceTests.{kept_fits⇒is_held, kept_fits⇒mark_fits}
use Rattle.convert.proofs.PieceGuard.{answers_by, guarded-open}
use Rattle.convert.specs.Run.{put_bytes}
use Rattle.convert.specs.Pieces.{PieceRun, pieced_of, unless, piece_behind, stands_in, carry_in, PieceAnswer, piece_guarded, piece_tested}
use Rattle.convert.proofs.PieceDue.{mark_fits-untouched}
use Rattle.convert.proofs.pieces.convert_piece.Goals as goal

pub behind_due-requires : goal.behind_due-requires
behind_due-requires c =
    let memory : Slices = memory_of c.args.lent in
    let a = c.args in
    let g = c.in-Ok.ensures in
    let fits = g.2 in
    (kept_fits⇒is_held a.way a.scheme _ a.settings a.kept fits, g.3, mark_fits-untouched a.way a.scheme _ a.kept.mark (kept_fits⇒mark_fits a.way a.scheme _ a.settings a.kept fits))

pub returns-in-Err : goal.returns-in-Err
unfolding piece_tested
returns-in-Err c =
    let memory : Slices = memory_of c.args.lent in
    let old : List ℕ = c.args.out.now in
    let answer : PieceAnswer = let a = c.args in piece_tested a.way a.scheme limits a.lent.rec memory a.settings a.kept a.input.now (length old) in
    let run_by : Table → PieceRun = λ t. let a = c.args in piece_behind a.way a.scheme t a.settings (carry_in a.kept) a.input.now (length old) in
    let run : PieceRun = run_by (table_in c.args.lent.rec memory) in
    let as-guarded : let a = c.args in answer ≡ piece_guarded a.way a.scheme limits a.lent.rec memory a.settings a.kept (unless (stands_in a.kept.standing) (carry_in a.kept) run) = refl in
    let g = c.in-Err.ensures in
    let all = answers_by old answer _ (as-guarded ∙ g run) c.idle.ensures refl in
    record { answer = all.0; written = all.1; number = all.2; illegal = all.3 }

pub returns-in-Ok : goal.returns-in-Ok
unfolding piece_tested
returns-in-Ok c =
    let memory : Slices = memory_of c.args.lent in
    let old : List ℕ = c.args.out.now in
    let answer : PieceAnswer = let a = c.args in piece_tested a.way a.scheme limits a.lent.rec memory a.settings a.kept a.input.now (length old) in
    let run_by : Table → PieceRun = λ t. let a = c.args in piece_behind a.way a.scheme t a.settings (carry_in a.kept) a.input.now (length old) in
    let run : PieceRun = run_by (table_in c.args.lent.rec memory) in
    let as-guarded : let a = c.args in answer ≡ piece_guarded a.way a.scheme limits a.lent.rec memory a.settings a.kept (unless (stands_in a.kept.standing) (carry_in a.kept) run) = refl in
    let a = c.args in
    let g = c.in-Ok.ensures in
    let all = answers_by old answer _
    (as-guarded ∙ guarded-open a.way a.scheme a.lent.rec memory a.settings a.kept g.1 g.2 g.3 run) (c.behind_due.ensures.0 ∙ ap (λ (t : Table). pieced_of (run_by t)) g.0) (c.behind_due.ensures.1 ∙ ap (λ (t : Table). put_bytes (run_by t).bytes old) g.0) in
    record { answer = all.0; written = all.1; number = all.2; illegal = all.3 }
