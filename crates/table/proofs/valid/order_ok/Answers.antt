-- Invariant: the test of all indices is that of those from k on behind the last one, whose key is at hand.
use Rattle.table.proofs.TestLoops.{ordered-none, ordered-out, ordered-start, index-out, index-more, index-no, index-end}
use native.Mathlib.Omega.{arith}
use mathlib.Core.Path.{sym, ◌∙◌}
use Rattle.table.proofs.valid.order_ok.Goals as goal

pub returns-then-order-eq0 : goal.returns-then-order-eq0
returns-then-order-eq0 c =
    let a = c.args in
    ordered-none a.codes.now a.infos.now a.order.now c.if-order-eq0.true

pub returns-then-codes-p : goal.returns-then-codes-p
returns-then-codes-p c =
    let a = c.args in
    ordered-out a.codes.now a.infos.now a.order.now c.if-order-eq0.false c.if-codes-p.true

pub loop-k-init : goal.loop-k-init
loop-k-init c =
    let a = c.args in (
      ordered-start a.codes.now a.infos.now a.order.now c.if-order-eq0.false
          c.if-codes-p.false,
      omega arith,
      omega arith,
      c.order_key-key.ensures,
    )

pub returns-then-codes-q : goal.returns-then-codes-q
returns-then-codes-q c =
    let a = c.args in
    let l = c.loop-k in
    sym (l.invariant.0 ∙ index-out a.codes.now a.infos.now a.order.now l.p l.k c.loop-k-test.true c.if-codes-q.true)

pub loop-k-preserved : goal.loop-k-preserved
loop-k-preserved c =
    let a = c.args in
    let l = c.loop-k in (
      l.invariant.0 ∙ index-more a.codes.now a.infos.now a.order.now l.p l.k
          c.loop-k-test.true c.if-codes-q.false
          (sym c.keys_next.ensures ∙ c.if-not-keys_next.false),
      omega arith,
      omega arith,
      c.order_key-next.ensures,
    )

pub returns-then-not-keys_next : goal.returns-then-not-keys_next
returns-then-not-keys_next c =
    let a = c.args in
    let l = c.loop-k in
    sym (l.invariant.0 ∙ index-no a.codes.now a.infos.now a.order.now l.p l.k
    c.loop-k-test.true c.if-codes-q.false
    (sym c.keys_next.ensures ∙ c.if-not-keys_next.true))

pub returns : goal.returns
returns c =
    let a = c.args in
    let l = c.loop-k in
    sym (l.invariant.0 ∙ index-end a.codes.now a.infos.now a.order.now l.p l.k c.loop-k-test.false)
