-- What the two look-ups found, and what the conversions choose by it, decides.
use mathlib.Core.Bool.{true, false}
use mathlib.Core.Path.{sym, ◌∙◌}
use Rattle.audit.proofs.FoundCauses.{back-padded, equal-codes, cause-unread, cause-subchar1, cause-unwritten, cause-own, cause-other}
use Rattle.audit.proofs.find_cause.Goals as goal

pub returns-in_default : goal.returns-in_default
returns-in_default c =
    let a = c.args in
    c.lowest_cause.ensures
    ∙ cause-unread a.table.now a.fallback a.code c.requires c.find_code.result c.find_code.ensures.reads
    c.read_as.result c.read_as.ensures c.in_default.is

pub returns-in-Code : goal.returns-in-Code
returns-in-Code c =
    let a = c.args in
    let w = c.write_as in
    let back = c.in-Code.back in
    let zeros = back-padded c.find_point-found.result c.find_point-found.ensures.padded w.result w.ensures.1 back c.in-Code.is in
    cause-own a.table.now a.fallback a.code c.requires c.find_code.result c.find_code.ensures.reads
    c.read_as.result c.read_as.ensures c.in-Some.point c.in-Some.is
    c.find_point-found.result c.find_point-found.ensures.writes w.result w.ensures.0 back c.in-Code.is
    (equal-codes back a.code zeros c.requires true (sym c.if-eq.true ∙ c.eq.ensures))

pub returns-in-Code-2 : goal.returns-in-Code-2
returns-in-Code-2 c =
    let a = c.args in
    let w = c.write_as in
    let back = c.in-Code.back in
    let zeros = back-padded c.find_point-found.result c.find_point-found.ensures.padded w.result w.ensures.1 back c.in-Code.is in
    c.lowest_cause-in-Code-2.ensures
    ∙ cause-other a.table.now a.fallback a.code c.requires c.find_code.result c.find_code.ensures.reads
    c.read_as.result c.read_as.ensures c.in-Some.point c.in-Some.is
    c.find_point-found.result c.find_point-found.ensures.writes w.result w.ensures.0 back c.in-Code.is
    (equal-codes back a.code zeros c.requires false (sym c.if-eq.false ∙ c.eq.ensures))

pub returns-in-Subchar1 : goal.returns-in-Subchar1
returns-in-Subchar1 c =
    let a = c.args in
    c.lowest_cause-in-Subchar1.ensures
    ∙ cause-subchar1 a.table.now a.fallback a.code c.requires c.find_code.result c.find_code.ensures.reads
    c.read_as.result c.read_as.ensures c.in-Some.point c.in-Some.is
    c.find_point-found.result c.find_point-found.ensures.writes
    c.write_as.result c.write_as.ensures.0 c.in-Subchar1.is

pub returns-in-Nothing : goal.returns-in-Nothing
returns-in-Nothing c =
    let a = c.args in
    c.lowest_cause-in-Nothing.ensures
    ∙ cause-unwritten a.table.now a.fallback a.code c.requires c.find_code.result c.find_code.ensures.reads
    c.read_as.result c.read_as.ensures c.in-Some.point c.in-Some.is
    c.find_point-found.result c.find_point-found.ensures.writes
    c.write_as.result c.write_as.ensures.0 c.in-Nothing.is
