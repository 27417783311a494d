use mathlib.Core.Path.{sym, ap, ◌∙◌}
use Rattle.table.specs.Limits.{limits, needed}
use Rattle.table.specs.Slices.{Slices}
use Rattle.table.specs.Load.{load_of, states_of, codes_of, infos_of, ordered_of}
use Rattle.table.proofs.RunSteps.{start-holds, slices-left, refused-left, out-refused, left-after}
use Rattle.table.proofs.load.Loader.load.Goals as goal

pub read-loaded-requires-clause-start : goal.read-loaded-requires-clause-start
read-loaded-requires-clause-start c =
    let w = c.wipe.ensures in
    let p = c.requires.start in
    (w.reading.0 ∙ p.0, w.reading.2 ∙ p.1, start-holds limits _ _ _ _ _ _ _ _ w.states w.codes w.infos w.order, w.reading.1 ∙ p.2)

pub returns-then-is_err-clause-left : goal.returns-then-is_err-clause-left
returns-then-is_err-clause-left c =
    let out = load_of limits c.args.text.now in
    let old = c.args.self.now in
    let zero = c.wipe.new.self in
    let mid = c.read-loaded.new.self in
    let new = c.wipe-then-is_err.new.self in
    let w = c.wipe.ensures in
    let z = c.wipe-then-is_err.ensures in
    let b = c.read-loaded.ensures.beyond in
    let r = out-refused out c.read-loaded.result c.read-loaded.ensures.answer (sym c.is_err.ensures.value ∙ c.if-is_err.true) in
    slices-left limits out old.states.now old.codes.now old.infos.now old.order.now
    zero.states.now zero.codes.now zero.infos.now zero.order.now new.states.now new.codes.now new.infos.now new.order.now
    w.states w.codes w.infos w.order
    (refused-left (needed limits) states_of out r.0 r.1 zero.states.now mid.states.now _ r.2 z.states b.states-rest)
    (refused-left limits.mappings codes_of out r.0 r.1 zero.codes.now mid.codes.now _ r.2 z.codes b.codes-rest)
    (refused-left limits.mappings infos_of out r.0 r.1 zero.infos.now mid.infos.now _ r.2 z.infos b.infos-rest)
    (refused-left limits.mappings ordered_of out r.0 r.1 zero.order.now mid.order.now _ r.2 z.order b.order-rest)

pub returns-else-is_err-clause-left : goal.returns-else-is_err-clause-left
returns-else-is_err-clause-left c =
    let out = load_of limits c.args.text.now in
    let old = c.args.self.now in
    let zero = c.wipe.new.self in
    let new = c.read-loaded.new.self in
    let w = c.wipe.ensures in
    let k = left-after c.read-loaded.result _ (sym c.is_err.ensures.value ∙ c.if-is_err.false) c.read-loaded.ensures.left in
    slices-left limits out old.states.now old.codes.now old.infos.now old.order.now
    zero.states.now zero.codes.now zero.infos.now zero.order.now new.states.now new.codes.now new.infos.now new.order.now
    w.states w.codes w.infos w.order
    (ap (λ (m : Slices). m.states) k) (ap (λ (m : Slices). m.codes) k) (ap (λ (m : Slices). m.infos) k) (ap (λ (m : Slices). m.order) k)
