use Rattle.warc_head.proofs.Words.{nat_tests, arith}
use Rattle.warc_head.proofs.DateLemmas.{fits_by_zip}
use Rattle.warc_head.proofs.date.fits.Goals as goal

pub returns-then-form-text : goal.returns-then-form-text
returns-then-form-text c = grind (arith, fits_by_zip c.args.form.now c.args.text.now)

pub returns-else-form-text : goal.returns-else-form-text
returns-else-form-text c = grind (arith, fits_by_zip c.args.form.now c.args.text.now, nat_tests)
