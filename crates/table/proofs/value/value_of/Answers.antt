use Rattle.table.specs.Header.{value_of}
use Rattle.table.proofs.HeaderLaws.{min-digit, max-digit}
use Rattle.table.proofs.value.value_of.Goals as goal

pub returns-in-CodeSetName : goal.returns-in-CodeSetName
unfolding value_of
returns-in-CodeSetName c =
    rw (c.in-CodeSetName.is, ← c.name_value.ensures)

pub returns-in_err-digit_value-in-CurMin : goal.returns-in_err-digit_value-in-CurMin
unfolding value_of
returns-in_err-digit_value-in-CurMin c =
    let d = c.in_err-digit_value-in-CurMin in
    rw (c.from_residual.ensures, c.in-CurMin.is, min-digit, ← c.digit_value.ensures, d.was)

pub returns-in_ok-digit_value-in-CurMin : goal.returns-in_ok-digit_value-in-CurMin
unfolding value_of
returns-in_ok-digit_value-in-CurMin c =
    rw (c.in-CurMin.is, min-digit, ← c.digit_value.ensures, c.in_ok-digit_value-in-CurMin.was)

pub returns-in_err-digit_value-in-CurMax : goal.returns-in_err-digit_value-in-CurMax
unfolding value_of
returns-in_err-digit_value-in-CurMax c =
    let d = c.in_err-digit_value-in-CurMax in
    rw (
      c.from_residual-in_err-digit_value-in-CurMax.ensures,
      c.in-CurMax.is,
      max-digit,
      ← c.digit_value-in-CurMax.ensures,
      d.was,
    )

pub returns-in_ok-digit_value-in-CurMax : goal.returns-in_ok-digit_value-in-CurMax
unfolding value_of
returns-in_ok-digit_value-in-CurMax c =
    rw (c.in-CurMax.is, max-digit, ← c.digit_value-in-CurMax.ensures, c.in_ok-digit_value-in-CurMax.was)

pub returns-in-ConvClass : goal.returns-in-ConvClass
unfolding value_of
returns-in-ConvClass c =
    rw (c.in-ConvClass.is, ← c.class_value.ensures)

pub returns-in-SubChar : goal.returns-in-SubChar
unfolding value_of
returns-in-SubChar c =
    rw (c.in-SubChar.is, ← c.sub_value.ensures)

pub returns-in-SubChar1 : goal.returns-in-SubChar1
unfolding value_of
returns-in-SubChar1 c =
    rw (c.in-SubChar1.is, ← c.sub1_value.ensures)

pub returns-in-State : goal.returns-in-State
unfolding value_of
returns-in-State c =
    rw (c.in-State.is, ← c.row_value.ensures)

pub returns-in-Base : goal.returns-in-Base
unfolding value_of
returns-in-Base c =
    rw c.in-Base.is

pub returns-in-Other : goal.returns-in-Other
unfolding value_of
returns-in-Other c =
    rw c.in-Other.is
