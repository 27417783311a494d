-- 60 where the test fails, else the conversion.
use mathlib.Core.Path.{refl}
use lib.ListN.{length}
use Rattle.table.specs.Held.{memory_of}
use Rattle.convert.specs.Convert.{from_run, from_tested}
use Rattle.convert.proofs.Tested.{tested-yes, tested-no}
use Rattle.convert.proofs.from_unicode.Goals as goal

pub returns-in-Ok : goal.returns-in-Ok
unfolding from_tested
returns-in-Ok c =
    let a = c.args in
    let held = c.in-Ok.ensures in
    let all =
    tested-yes a.lent.rec (memory_of a.lent) (λ t. from_run a.scheme t a.settings a.input.now (length a.out.now)) c.from_scheme.result a.out.now
    c.from_scheme.new.out held.valid c.in-Ok.table held.table c.from_scheme.ensures.answer c.from_scheme.ensures.written in
    record { answer = all.0; written = all.1; number = all.2; illegal = all.3 }

pub returns-in-Err : goal.returns-in-Err
unfolding from_tested
returns-in-Err c =
    let a = c.args in
    let all =
    tested-no a.lent.rec (memory_of a.lent) (λ t. from_run a.scheme t a.settings a.input.now (length a.out.now)) c.ended.result a.out.now a.out.now
    c.in-Err.ensures.valid c.ended.ensures refl in
    record { answer = all.0; written = all.1; number = all.2; illegal = all.3 }
