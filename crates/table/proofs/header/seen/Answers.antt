use mathlib.Core.Logic.{inl, inr}
use mathlib.Core.Path.{sym}
use Rattle.table.specs.Codes.{bytes_of}
use Rattle.table.specs.Numbers.{n11}
use Rattle.table.proofs.KeyLaws.{is_some-kept, is_some-sub1_in}
use Rattle.table.proofs.header.seen.Goals as goal

pub returns-in-CodeSetName : goal.returns-in-CodeSetName
unfolding n11
returns-in-CodeSetName c =
    rw c.in-CodeSetName.is

pub returns-in-CurMin : goal.returns-in-CurMin
unfolding n11
returns-in-CurMin c =
    let h = c.args.h in
    rw c.in-CurMin.is (sym (is_some-kept h.min h.min))

pub returns-in-CurMax : goal.returns-in-CurMax
unfolding n11
returns-in-CurMax c =
    let h = c.args.h in
    rw c.in-CurMax.is (sym (is_some-kept h.max h.max))

pub returns-in-ConvClass : goal.returns-in-ConvClass
unfolding n11
returns-in-ConvClass c =
    let h = c.args.h in
    rw c.in-ConvClass.is (sym (is_some-kept h.class _))

pub returns-in-SubChar : goal.returns-in-SubChar
unfolding n11
returns-in-SubChar c =
    let h = c.args.h in
    rw c.in-SubChar.is (sym (is_some-kept h.sub.len (bytes_of h.sub)))

pub returns-in-SubChar1 : goal.returns-in-SubChar1
unfolding n11
returns-in-SubChar1 c =
    let h = c.args.h in
    rw c.in-SubChar1.is (sym (is_some-sub1_in h.sub1))

pub returns-in-State : goal.returns-in-State
unfolding n11
returns-in-State c =
    elim c.in-State.is [
      | inl e ↦ rw e
      | inr (inl e) ↦ rw e
      | inr (inr e) ↦ rw e
    ]
