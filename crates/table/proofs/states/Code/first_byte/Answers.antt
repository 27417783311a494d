use Prim.Native.Nat.{ℕ}
use mathlib.Core.List.{List}
use mathlib.Core.Path.{sym, ap}
use lib.ListN.{get_or}
use borrow.Author.Rules.{rules}
use Rattle.table.specs.Codes.{unpacked}
use Rattle.table.proofs.Marks.{unpacked-more}
use Rattle.table.proofs.states.Code.first_byte.Goals as goal

pub returns-then-self-eq0 : goal.returns-then-self-eq0
unfolding unpacked
returns-then-self-eq0 c =
    search rules

pub returns : goal.returns
returns c =
    sym (ap (λ (s : List ℕ). get_or s 0 0) (unpacked-more c.args.self.len
    c.args.self.bits c.if-self-eq0.false))
