use Rattle.std.proofs.Common.{◌≡◌, ℕ, sym, ap, ◌∙◌}
use Rattle.table.specs.Codes.{bytes_of}
use Rattle.audit.specs.Audit.{entry_in}
use Rattle.audit.specs.declared.AuditEntry.{AuditEntry}
use Rattle.frames.specs.Lines.{finding_line, room_after, put_into}
use Rattle.frames.specs.loops.Inner.{entry_line}
use Rattle.frames.proofs.Findings.{putting-more, putting-fits, putting-all}
use Rattle.frames.proofs.pages.put_findings.Goals as goal

-- the line of an entry, by its parts
line-is : (e : AuditEntry) (n : ℕ) → e ≡ entry_in n → finding_line (bytes_of e.code) e.cause ≡ entry_line n
line-is e n q = ap (λ (x : AuditEntry). finding_line (bytes_of x.code) x.cause) q

pub loop-number-preserved : goal.loop-number-preserved
loop-number-preserved c =
    let l = c.loop-number in
    let q = line-is _ _ c.entry_in-entry.ensures in
    putting-more l.invariant c.loop-number-test.true c.in-Some.next c.put_finding.new.out
    (sym c.in-Some.is ∙ c.put_finding.ensures.0 ∙ ap (room_after l.out l.put) q) (c.put_finding.ensures.1 ∙ ap (put_into l.out l.put) q)

pub returns-in_default : goal.returns-in_default
returns-in_default c =
    let l = c.loop-number in
    let fits_next : ⊥ =
    putting-fits l.invariant c.loop-number-test.true
    (sym c.in_default.is ∙ c.put_finding.ensures.0 ∙ ap (room_after l.out l.put) (line-is _ _ c.entry_in-entry.ensures)) in
    absurd fits_next

pub returns-after-loop-number : goal.returns-after-loop-number
returns-after-loop-number c =
    let r = putting-all c.loop-number.invariant c.loop-number-test.false in
    record { count = r.0; written = r.1 }
