-- Invariant (Going): loading the text from `at` on gives the outcome of the whole; the memory holds what was read, and
-- past the needed places it is as it was.
-- Measure: bytes left.
use Prim.Native.Nat.{ℕ, ◌+◌, ◌-◌}
use mathlib.Core.Path.{◌≡◌, refl, sym, ap, subst, ◌∙◌}
use mathlib.Core.List.{[]}
use native.Mathlib.Omega.{arith}
use borrow.Author.Rules.{rules}
use lib.ListN.{take, drop}
use Rattle.table.specs.Limits.{limits, needed}
use Rattle.table.specs.Text.{lines_of}
use Rattle.table.specs.Numbers.{lowest}
use Rattle.table.specs.Load.{Reading, LineStep, goes_on, stop, reading, line_step, table_of, accepted, refused, outcome_at, load_go, load_of, states_of, codes_of, infos_of, ordered_of, loaded_as}
use Rattle.table.specs.loops.Progress.{keys_in, Holding}
use Rattle.table.specs.loops.Progress.{slices_in}
use Rattle.table.specs.declared.header.Head.{Head}
use Rattle.table.specs.declared.load.Phase.{Phase}
use Rattle.table.specs.declared.load.Phase.TheVariants.{Header, Mappings, Ended}
use Rattle.table.specs.declared.load.Refusal.TheVariants.{NoEnd}
use Rattle.table.proofs.Accepted.{stop-outcome}
use Rattle.table.proofs.LineSteps.{unchanged, beyond-trans, same-trans}
use Rattle.table.proofs.RunSteps.{run_step, run_end, taken-stop, taken-on, none_yet, accepted-left, record-left, accepted-as}
use Rattle.table.proofs.load.Loader.read.Goals as goal

-- the last line is read: END CHARMAP came or did not
not-ended : (k : ℕ) (r : Reading) (p : Phase) → (p ≡ Ended → ⊥) → outcome_at k r p ≡ refused NoEnd (k + 1)
unfolding outcome_at
not-ended k r Header h = refl
not-ended k r Mappings h = refl
not-ended k r Ended h = absurd (h refl)

ended : (k : ℕ) (r : Reading) (p : Phase) → p ≡ Ended → outcome_at k r p ≡ accepted (table_of r)
unfolding outcome_at
ended k r p e = ap (outcome_at k r) e

pub loop-at-init : goal.loop-at-init
unfolding load_of
loop-at-init c =
    let l = c.args.self.now in
    let p = c.requires.start in
    record {
      rows = [];
      lines = [];
      pending = (λ j. load_go lowest limits 0 (lines_of c.args.text.now) (goes_on (reading (sym p.0 j) (keys_in (sym p.3 j)) [] [])));
      holding =
          subst (λ (n : ℕ). Holding limits l.head n [] [] (slices_in l)) (sym p.1)
          (subst (λ (h : Head). Holding limits h 0 [] [] (slices_in l)) (sym p.3) p.2);
      none-yet-read = λ e. refl;
      beyond = unchanged limits (slices_in l);
      same = search rules;
      counted = search rules;
      inside = search rules;
    }

pub returns-in-Err-clause-answer : goal.returns-in-Err-clause-answer
returns-in-Err-clause-answer c =
    let l = c.loop-at in
    let i = l.invariant in
    let a = c.args in
    let e = c.cut_line-c in
    let x = c.in-Err.why in
    let n = c.take_line.new.self in
    let t : LineStep = line_step lowest limits (reading l.self.phase (keys_in l.self.head) i.rows i.lines)
    (take (e.result.stop - l.at) (drop l.at a.text.now)) in
    let q : t ≡ stop x = taken-stop limits n.phase n.head n.mappings (slices_in n) t c.take_line.result x
    (c.take_line.ensures.taken i.rows i.lines i.holding) c.in-Err.is in
    sym (ap loaded_as (i.pending
    ∙ run_step limits a.text.now l.at e.result.stop e.result.next l.line _
    c.loop-at-test.true e.ensures.0 e.ensures.1
    ∙ ap (load_go lowest limits (l.line + 1) (lines_of (drop e.result.next a.text.now))) q
    ∙ stop-outcome lowest limits (l.line + 1) _ x))

pub returns-in-Err-clause-beyond : goal.returns-in-Err-clause-beyond
returns-in-Err-clause-beyond c =
    beyond-trans limits (slices_in c.args.self.now) (slices_in c.loop-at.self) _ c.loop-at.invariant.beyond c.take_line.ensures.beyond

pub loop-at-preserved : goal.loop-at-preserved
loop-at-preserved c =
    let l = c.loop-at in
    let i = l.invariant in
    let a = c.args in
    let e = c.cut_line-c in
    let n = c.take_line.new.self in
    let t : LineStep = line_step lowest limits (reading l.self.phase (keys_in l.self.head) i.rows i.lines)
    (take (e.result.stop - l.at) (drop l.at a.text.now)) in
    let g = taken-on limits n.phase n.head n.mappings (slices_in n) t c.take_line.result
    (c.take_line.ensures.taken i.rows i.lines i.holding) c.in_default.is in
    record {
      rows = g.rows;
      lines = g.lines;
      pending =
          i.pending
          ∙ run_step limits a.text.now l.at e.result.stop e.result.next l.line _
          c.loop-at-test.true e.ensures.0 e.ensures.1
          ∙ ap (load_go lowest limits (l.line + 1) (lines_of (drop e.result.next a.text.now))) g.step_is;
      holding = g.holding;
      none-yet-read = none_yet limits (reading l.self.phase (keys_in l.self.head) i.rows i.lines) _ _ g.step_is;
      beyond = beyond-trans limits (slices_in a.self.now) (slices_in l.self) (slices_in n) i.beyond c.take_line.ensures.beyond;
      same = same-trans a.self.now l.self n i.same c.take_line.ensures.same;
      counted = omega (arith, i.counted, e.ensures.4);
      inside = e.ensures.5;
    }

pub returns-in-Ended-clause-answer : goal.returns-in-Ended-clause-answer
unfolding table_of
returns-in-Ended-clause-answer c =
    let l = c.loop-at in
    let i = l.invariant in
    let a = c.args in
    let r : load_of limits a.text.now ≡ accepted (table_of (reading l.self.phase (keys_in l.self.head) i.rows i.lines)) =
    i.pending ∙ run_end limits a.text.now l.at l.line _ c.loop-at-test.false
    ∙ ended l.line _ l.self.phase c.in-Ended.is in
    let n = record-left limits a.text.now l.self.phase l.self.head l.self.mappings i.rows i.lines _ (omega arith) i.holding r in
    accepted-as _ _ _ r (c.record_of.ensures ∙ n)

pub returns-in-Ended-clause-left : goal.returns-in-Ended-clause-left
unfolding table_of
returns-in-Ended-clause-left c =
    let l = c.loop-at in
    let i = l.invariant in
    let a = c.args in
    let old = a.self.now in
    let new = l.self in
    let h = i.holding in
    let m = h.stored in
    let r : load_of limits a.text.now ≡ accepted (table_of (reading l.self.phase (keys_in l.self.head) i.rows i.lines)) =
    i.pending ∙ run_end limits a.text.now l.at l.line _ c.loop-at-test.false
    ∙ ended l.line _ l.self.phase c.in-Ended.is in
    (λ j. record {
      states = accepted-left (needed limits) states_of _ _ old.states.now new.states.now r h.states-are i.beyond.states-rest j;
      codes = accepted-left limits.mappings codes_of _ _ old.codes.now new.codes.now r m.codes-are i.beyond.codes-rest j;
      infos = accepted-left limits.mappings infos_of _ _ old.infos.now new.infos.now r m.infos-are i.beyond.infos-rest j;
      order = accepted-left limits.mappings ordered_of _ _ old.order.now new.order.now r m.order_is i.beyond.order-rest j;
    })

pub returns-in_default-phase : goal.returns-in_default-phase
returns-in_default-phase c =
    let l = c.loop-at in
    let i = l.invariant in
    record {
      answer = sym (ap loaded_as (i.pending
          ∙ run_end limits c.args.text.now l.at l.line _ c.loop-at-test.false
          ∙ not-ended l.line _ l.self.phase c.in_default-phase.not-Ended));
      left = tt;
      beyond = i.beyond;
      same = i.same;
    }
