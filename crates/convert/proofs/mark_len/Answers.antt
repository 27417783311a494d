-- Only plain UTF-32 has a mark.
use mathlib.Core.Path.{sym, ap, ◌∙◌}
use lib.ListN.{length}
use Rattle.utf.specs.declared.utf32.ByteOrder.TheVariants.{Big}
use Rattle.utf.specs.declared.scheme.Scheme.{Scheme}
use Rattle.utf.proofs.Words.{length-encode_in}
use Rattle.convert.specs.Convert.{mark_of}
use Rattle.convert.proofs.mark_len.Goals as goal

pub returns-in-Utf32 : goal.returns-in-Utf32
returns-in-Utf32 c =
    sym (ap (λ (x : Scheme). length (mark_of x)) c.in-Utf32.is ∙ length-encode_in Big 0xfeff)
