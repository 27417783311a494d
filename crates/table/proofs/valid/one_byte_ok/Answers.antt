-- Each test that passes is a field of CommonCode; where one fails the answer is no.
use Prim.Native.Nat.{◌%◌}
use Rattle.table.specs.Stored.{padded}
use Rattle.table.specs.Rules.{t5_kind}
use borrow.Author.Tests.{eq-eqb}
use native.Mathlib.Omega.{arith}
use mathlib.Core.Path.{refl, sym, ap, ◌∙◌}
use Rattle.table.proofs.valid.one_byte_ok.Goals as goal

pub returns : goal.returns
unfolding padded
returns c =
    λ e. record {
      its-form = eq-eqb (c.args.bits % 16777216) 0
          (omega arith);
      at_least = omega arith;
      at_most = omega arith;
      its-first = λ z. refl;
      its-end = λ point p. ap
          (t5_kind point) (sym c.last_kind.ensures) ∙ sym (c.is_assigned.ensures point p) ∙ e;
    }
