-- The tests, one after the other.
use mathlib.Core.Path.{◌≡◌, sym, ap, ◌∙◌}
use mathlib.Core.Bool.{Bool, true}
use Rattle.table.specs.States.{Rows}
use Rattle.table.specs.Meaning.{steps_of}
use lib.Dec.{eqb}
use Rattle.lists.specs.Pick.{◌and◌}
use Rattle.convert.specs.Pieces.{is_held, is_nothing, mark_fits}
use Rattle.convert.proofs.PieceTests.{kept_fits-held, kept_fits-mark, kept_fits-stands, kept_fits-begun}
use Rattle.convert.proofs.pieces.kept_fits.Goals as goal

pub returns-then-not-is_held : goal.returns-then-not-is_held
returns-then-not-is_held c =
    let rows : Rows = steps_of c.args.table.now in
    let a = c.args in
    kept_fits-held a.way a.scheme rows a.settings a.kept (sym c.is_held.ensures ∙ c.if-not-is_held.true)

pub returns-then-not-mark_fits : goal.returns-then-not-mark_fits
returns-then-not-mark_fits c =
    let rows : Rows = steps_of c.args.table.now in
    let held : is_held c.args.kept.bytes ≡ true = sym c.is_held.ensures ∙ c.if-not-is_held.false in
    let marks : let a = c.args in mark_fits a.way a.scheme c.is_untouched.result a.kept.mark ≡ c.mark_fits.result = sym c.mark_fits.ensures in
    let untouched : (b : Bool) → c.mark_fits.result ≡ b → let a = c.args in mark_fits a.way a.scheme (eqb a.kept.bytes.len 0 and is_nothing a.kept.standing) a.kept.mark ≡ b = λ b e. let a = c.args in
    ap (λ (x : Bool). mark_fits a.way a.scheme x a.kept.mark) (sym c.is_untouched.ensures) ∙ marks ∙ e in
    let a = c.args in
    kept_fits-mark a.way a.scheme rows a.settings a.kept held (untouched _ (c.if-not-mark_fits.true))

pub returns-then-not-standing_fits : goal.returns-then-not-standing_fits
returns-then-not-standing_fits c =
    let rows : Rows = steps_of c.args.table.now in
    let held : is_held c.args.kept.bytes ≡ true = sym c.is_held.ensures ∙ c.if-not-is_held.false in
    let marks : let a = c.args in mark_fits a.way a.scheme c.is_untouched.result a.kept.mark ≡ c.mark_fits.result = sym c.mark_fits.ensures in
    let untouched : (b : Bool) → c.mark_fits.result ≡ b → let a = c.args in mark_fits a.way a.scheme (eqb a.kept.bytes.len 0 and is_nothing a.kept.standing) a.kept.mark ≡ b = λ b e. let a = c.args in
    ap (λ (x : Bool). mark_fits a.way a.scheme x a.kept.mark) (sym c.is_untouched.ensures) ∙ marks ∙ e in
    let a = c.args in
    kept_fits-stands a.way a.scheme rows a.settings a.kept held (untouched _ (c.if-not-mark_fits.false))
    (sym c.standing_fits.ensures ∙ c.if-not-standing_fits.true)

pub returns : goal.returns
returns c =
    let rows : Rows = steps_of c.args.table.now in
    let held : is_held c.args.kept.bytes ≡ true = sym c.is_held.ensures ∙ c.if-not-is_held.false in
    let marks : let a = c.args in mark_fits a.way a.scheme c.is_untouched.result a.kept.mark ≡ c.mark_fits.result = sym c.mark_fits.ensures in
    let untouched : (b : Bool) → c.mark_fits.result ≡ b → let a = c.args in mark_fits a.way a.scheme (eqb a.kept.bytes.len 0 and is_nothing a.kept.standing) a.kept.mark ≡ b = λ b e. let a = c.args in
    ap (λ (x : Bool). mark_fits a.way a.scheme x a.kept.mark) (sym c.is_untouched.ensures) ∙ marks ∙ e in
    let a = c.args in
    c.is_begun_by.ensures
    ∙ kept_fits-begun a.way a.scheme rows a.settings a.kept held (untouched _ (c.if-not-mark_fits.false))
    (sym c.standing_fits.ensures ∙ c.if-not-standing_fits.false)
