use Rattle.warc_head.proofs.Words.{◌∙◌, ◌&&◌, ap, arith, drop, take_rest}
use Rattle.warc_head.proofs.DateLemmas.{short_fraction}
use Rattle.warc_head.specs.Date.{is_fraction}
use Rattle.warc_head.proofs.date.has_fraction.Goals as goal

pub returns-then-text-lt19 : goal.returns-then-text-lt19
returns-then-text-lt19 c = grind (arith, short_fraction)

pub returns : goal.returns
returns c =
    c.is_fraction.ensures
    ∙ (ap is_fraction (take_rest c.args.text.now 19)
    ∙ ap (λ t. t && is_fraction (drop 19 c.args.text.now)) c.if-not-fits.ensures)
