-- The tests first, then the close.
use mathlib.Core.Path.{◌≡◌, refl, ◌∙◌}
use mathlib.Core.List.{List}
use Prim.Native.Nat.{ℕ}
use lib.ListN.{length}
use Rattle.table.specs.Limits.{limits}
use Rattle.table.specs.Slices.{Slices}
use Rattle.table.specs.Held.{memory_of}
use Rattle.convert.proofs.PieceTests.{kept_fits⇒is_held}
use Rattle.convert.proofs.PieceGuard.{answers_by, guarded-on}
use Rattle.table.specs.Codes.{bytes_of}
use Rattle.convert.specs.Pieces.{PieceRun, unless, state_at, due_in, close_bytes, close_in, stands_in, carry_in, PieceAnswer, answered_piece, piece_guarded, close_tested}
use Rattle.convert.proofs.pieces.close.Goals as goal

pub close_open-requires : goal.close_open-requires
close_open-requires c =
    let memory : Slices = memory_of c.args.lent in
    let a = c.args in
    let g = c.in-Ok.ensures in
    let fits = g.2 in
    (kept_fits⇒is_held a.way a.scheme _ a.settings a.kept fits, g.3)

pub returns-in-Err : goal.returns-in-Err
unfolding close_tested close_in
returns-in-Err c =
    let memory : Slices = memory_of c.args.lent in
    let old : List ℕ = c.args.out.now in
    let answer : PieceAnswer = let a = c.args in close_tested a.way a.scheme limits a.lent.rec memory a.settings a.kept (length old) in
    let run : PieceRun = let a = c.args in close_bytes (due_in a.way a.scheme (state_at a.kept.mark)) (carry_in a.kept) (bytes_of a.kept.bytes) (length old) in
    let as-guarded : let a = c.args in answer ≡ piece_guarded a.way a.scheme limits a.lent.rec memory a.settings a.kept (unless (stands_in a.kept.standing) (carry_in a.kept) run) = refl in
    let g = c.in-Err.ensures in
    let all = answers_by old answer _ (as-guarded ∙ g run) c.idle.ensures refl in
    record { answer = all.0; written = all.1; number = all.2; illegal = all.3 }

pub returns-in-Ok : goal.returns-in-Ok
unfolding close_tested
returns-in-Ok c =
    let memory : Slices = memory_of c.args.lent in
    let old : List ℕ = c.args.out.now in
    let answer : PieceAnswer = let a = c.args in close_tested a.way a.scheme limits a.lent.rec memory a.settings a.kept (length old) in
    let goes_on : let a = c.args in answer ≡ piece_guarded a.way a.scheme limits a.lent.rec memory a.settings a.kept (close_in a.way a.scheme (carry_in a.kept) (length old)) = refl in
    let a = c.args in
    let g = c.in-Ok.ensures in
    let all = answers_by old answer (answered_piece (close_in a.way a.scheme (carry_in a.kept) (length old)))
    (goes_on ∙ guarded-on a.way a.scheme a.lent.rec memory a.settings a.kept (close_in a.way a.scheme (carry_in a.kept) (length old)) g.1 g.2)
    c.close_open.ensures.0 c.close_open.ensures.1 in
    record { answer = all.0; written = all.1; number = all.2; illegal = all.3 }
