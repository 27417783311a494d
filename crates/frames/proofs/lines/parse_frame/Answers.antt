use Rattle.std.proofs.Common.{sym, ◌∙◌, arith}
use Rattle.frames.proofs.Frame.{frame-dash, frame-bad, frame-full, frame-read, is_hex⁻}
use Rattle.frames.proofs.lines.parse_frame.Goals as goal

pub returns-then-is_dash : goal.returns-then-is_dash
returns-then-is_dash c =
    let r = frame-dash c.args.line.now c.args.out.now (sym c.is_dash.ensures ∙ c.if-is_dash.true) in
    record { answer = r.0; written = r.1 }

pub returns-then-not-is_hex : goal.returns-then-not-is_hex
returns-then-not-is_hex c =
    let r = frame-bad c.args.line.now c.args.out.now
    (sym c.is_dash.ensures ∙ c.if-is_dash.false)
    (sym c.is_hex.ensures ∙ c.if-not-is_hex.true) in
    record { answer = r.0; written = r.1 }

pub returns-then-out-count : goal.returns-then-out-count
returns-then-out-count c =
    let r = frame-full c.args.line.now c.args.out.now
    (sym c.is_dash.ensures ∙ c.if-is_dash.false)
    (sym c.is_hex.ensures ∙ c.if-not-is_hex.false)
    (omega arith) in
    record { answer = r.0; written = r.1 }

pub write_frame-requires : goal.write_frame-requires
write_frame-requires c =
    let r = is_hex⁻ c.args.line.now
    (sym c.is_hex.ensures
    ∙ c.if-not-is_hex.false) in
    (omega arith, omega arith, r.3)

pub returns : goal.returns
returns c =
    let r = frame-read c.args.line.now c.args.out.now
    (sym c.is_dash.ensures ∙ c.if-is_dash.false)
    (sym c.is_hex.ensures ∙ c.if-not-is_hex.false)
    (omega arith) in
    record { answer = r.0; written = c.write_frame.ensures ∙ r.1 }
