-- With nothing kept the piece alone; else kept bytes and the front of the piece, joined.
use mathlib.Core.Path.{◌≡◌, sym, ap, ◌∙◌}
use Prim.Native.Nat.{ℕ}
use mathlib.Core.List.{List, []}
use native.Mathlib.Omega.{arith}
use lib.ListN.{length, take, drop, length-append}
use lib.Seq.{take_at, drop_at}
use Rattle.table.specs.Codes.{bytes_of}
use Rattle.table.proofs.Packing.{length-unpacked, unpacked-none}
use Rattle.convert.specs.Run.{SequenceStep, put_bytes}
use Rattle.convert.specs.Pieces.{PieceRun, piece_on, pieced_of, step_in}
use Rattle.convert.specs.loops.Carried.{carry_of}
use Rattle.convert.proofs.pieces.through.Goals as goal

pub returns-then-bytes-eq0 : goal.returns-then-bytes-eq0
returns-then-bytes-eq0 c =
    let step : SequenceStep = let a = c.args in
    step_in a.way a.scheme a.table.now a.settings in
    let call : List ℕ → PieceRun = λ old. let a = c.args in piece_on step (carry_of old a.mark) a.input.now (length a.out.now) in
    let a = c.args in
    let e : [] ≡ bytes_of a.bytes = sym (unpacked-none a.bytes.len a.bytes.bits (omega (arith, c.if-bytes-eq0.true))) in (
      c.alone.ensures.0 ∙ ap (λ (x : List ℕ). pieced_of (call x)) e,
      c.alone.ensures.1 ∙ ap (λ (x : List ℕ). put_bytes (call x).bytes a.out.now) e,
    )

pub through_joined-requires : goal.through_joined-requires
through_joined-requires c =
    let long : length (bytes_of c.args.bytes) ≡ c.args.bytes.len = length-unpacked c.args.bytes.len c.args.bytes.bits in
    let a = c.args in
    let n = a.bytes.len in
    let e = c.join-n.ensures.1 in
    let l = ap length e ∙ length-append (bytes_of a.bytes) (take 3 a.input.now) in
    (c.requires, omega (arith, l, long), ap (drop n) e ∙ drop_at (bytes_of a.bytes) (take 3 a.input.now) n long)

pub returns : goal.returns
returns c =
    let joined : List ℕ = take c.join-n.result c.join-n.new.buffer in
    let long : length (bytes_of c.args.bytes) ≡ c.args.bytes.len = length-unpacked c.args.bytes.len c.args.bytes.bits in
    let step : SequenceStep = let a = c.args in
    step_in a.way a.scheme a.table.now a.settings in
    let call : List ℕ → PieceRun = λ old. let a = c.args in piece_on step (carry_of old a.mark) a.input.now (length a.out.now) in
    let a = c.args in
    let n = a.bytes.len in
    let e : take n joined ≡ bytes_of a.bytes = ap (take n) c.join-n.ensures.1 ∙ take_at (bytes_of a.bytes) (take 3 a.input.now) n long in (
      c.through_joined.ensures.0 ∙ ap (λ (x : List ℕ). pieced_of (call x)) e,
      c.through_joined.ensures.1 ∙ ap (λ (x : List ℕ). put_bytes (call x).bytes a.out.now) e,
    )
