-- The highest bit that is set, by the kit's law of leading zeros.
use Rattle.table.proofs.Halving.{window-of}
use Rattle.table.proofs.store.window.Goals as goal

pub returns : goal.returns
returns c =
    window-of c.args.n c.requires c.ranges.n.fits
