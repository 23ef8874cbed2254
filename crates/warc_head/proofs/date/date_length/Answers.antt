use Rattle.warc_head.proofs.Words.{arith, refl}
use Rattle.warc_head.specs.Date.{date_length}
use Rattle.warc_head.proofs.date.date_length.Goals as goal

pub returns-then-fits-4 : goal.returns-then-fits-4
unfolding date_length
returns-then-fits-4 c =
    rw (
      ← c.fits.ensures,
      c.if-fits.false,
      ← c.fits-else-fits.ensures,
      c.if-fits-2.false,
      ← c.fits-else-fits-2.ensures,
      c.if-fits-3.false,
      ← c.fits-else-fits-3.ensures,
      c.if-fits-4.true,
    ) refl

pub returns-then-fits-5 : goal.returns-then-fits-5
unfolding date_length
returns-then-fits-5 c =
    rw (
      ← c.fits.ensures,
      c.if-fits.false,
      ← c.fits-else-fits.ensures,
      c.if-fits-2.false,
      ← c.fits-else-fits-2.ensures,
      c.if-fits-3.false,
      ← c.fits-else-fits-3.ensures,
      c.if-fits-4.false,
      ← c.fits-else-fits-4.ensures,
      c.if-fits-5.true,
    ) refl

pub returns-then-has_fraction : goal.returns-then-has_fraction
unfolding date_length
returns-then-has_fraction c =
    rw (
      ← c.fits.ensures,
      c.if-fits.false,
      ← c.fits-else-fits.ensures,
      c.if-fits-2.false,
      ← c.fits-else-fits-2.ensures,
      c.if-fits-3.false,
      ← c.fits-else-fits-3.ensures,
      c.if-fits-4.false,
      ← c.fits-else-fits-4.ensures,
      c.if-fits-5.false,
      ← c.has_fraction.ensures,
      c.if-has_fraction.true,
    ) refl

pub returns-else-has_fraction : goal.returns-else-has_fraction
unfolding date_length
returns-else-has_fraction c = grind arith
