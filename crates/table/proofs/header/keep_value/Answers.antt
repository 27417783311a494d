use mathlib.Core.Logic.{inl, inr}
use native.Mathlib.Omega.{arith}
use Rattle.table.specs.loops.Ranges.{InRange}
use Rattle.table.proofs.KeyLaws.{keep_in, kept-as}
use Rattle.table.proofs.header.keep_value.Goals as goal

pub overflow_add-result : goal.overflow_add-result
unfolding InRange
overflow_add-result c =
    let h = rw (c.in-Some.is, c.in-Sub1.is) at c.requires.1 in omega arith

pub returns-in_default : goal.returns-in_default
unfolding keep_in
returns-in_default c = kept-as c.args.h c.args.v c.requires.1 c.requires.2 _ (rw c.in_default.is)

pub returns-in-Any : goal.returns-in-Any
unfolding keep_in
returns-in-Any c =
    elim c.in-Any.is [
      | inl e ↦ kept-as c.args.h c.args.v c.requires.1 c.requires.2 _ (rw (c.in-Some.is, e))
      | inr e ↦ kept-as c.args.h c.args.v c.requires.1 c.requires.2 _ (rw (c.in-Some.is, e))
    ]

pub returns-in-Name : goal.returns-in-Name
unfolding keep_in
returns-in-Name c = kept-as c.args.h c.args.v c.requires.1 c.requires.2 _ (rw (c.in-Some.is, c.in-Name.is))

pub returns-in-Min : goal.returns-in-Min
unfolding keep_in
returns-in-Min c = kept-as c.args.h c.args.v c.requires.1 c.requires.2 _ (rw (c.in-Some.is, c.in-Min.is))

pub returns-in-Max : goal.returns-in-Max
unfolding keep_in
returns-in-Max c = kept-as c.args.h c.args.v c.requires.1 c.requires.2 _ (rw (c.in-Some.is, c.in-Max.is))

pub returns-in-Class : goal.returns-in-Class
unfolding keep_in
returns-in-Class c = kept-as c.args.h c.args.v c.requires.1 c.requires.2 _ (rw (c.in-Some.is, c.in-Class.is, ← c.number.ensures))

pub returns-in-Sub : goal.returns-in-Sub
unfolding keep_in
returns-in-Sub c = kept-as c.args.h c.args.v c.requires.1 c.requires.2 _ (rw (c.in-Some.is, c.in-Sub.is))

pub returns-in-Sub1 : goal.returns-in-Sub1
unfolding keep_in
returns-in-Sub1 c = kept-as c.args.h c.args.v c.requires.1 c.requires.2 _ (rw (c.in-Some.is, c.in-Sub1.is))

pub returns-in-Row : goal.returns-in-Row
unfolding keep_in
returns-in-Row c = kept-as c.args.h c.args.v c.requires.1 c.requires.2 _ (rw (c.in-Some.is, c.in-Row.is))
