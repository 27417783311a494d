use Rattle.std.proofs.Common.{◌∙◌}
use Rattle.lists.proofs.Laws.{tests}
use Rattle.frames.specs.Lines.{is_hex}
use Rattle.frames.proofs.Frame.{digits-test}
use Rattle.frames.proofs.lines.is_hex.Goals as goal
use Rattle.frames.proofs.lines.is_hex.Goals.{then-line-lt2-via-then-line-lt2, then-line-lt2-via-else-line-lt2+then-line-gt-FRAME_DIGITS, then-line-lt2-via-else-line-lt2+else-line-gt-FRAME_DIGITS+then-line-ne0}

pub returns-then-line-lt2 : goal.returns-then-line-lt2
unfolding is_hex
returns-then-line-lt2 c =
    elim c.then-line-lt2.branch [
      | then-line-lt2-via-then-line-lt2 w ↦ search tests
      | then-line-lt2-via-else-line-lt2+then-line-gt-FRAME_DIGITS w ↦ search tests
      | then-line-lt2-via-else-line-lt2+else-line-gt-FRAME_DIGITS+then-line-ne0 w ↦ search tests
    ]

pub returns : goal.returns
unfolding is_hex
returns c =
    c.all_digits.ensures ∙ digits-test c.args.line.now ∙ search tests
