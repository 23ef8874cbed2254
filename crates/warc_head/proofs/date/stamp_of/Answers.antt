use Rattle.warc_head.proofs.Words.{arith, ◌≡◌, true}
use Rattle.warc_head.specs.Date.{fits, to_the_second}
use Rattle.warc_head.proofs.DateLemmas.{whole_fits, digits_of-digits}
use Rattle.warc_head.proofs.date.stamp_of.Goals as goal

pub full_date-whole-requires : goal.full_date-whole-requires
full_date-whole-requires c =
    let w = whole_fits c.args.text.now c.in-Some.size (grind arith) in
    record { text = w.1; whole = w.0 }

pub is_moment-requires : goal.is_moment-requires
is_moment-requires c = grind (arith, whole_fits)

pub returns-clause-digits : goal.returns-clause-digits
returns-clause-digits c =
    let fit : fits to_the_second c.full_date-whole.result ≡ true = grind (arith, whole_fits) in
    rw c.digits_of.ensures (digits_of-digits c.full_date-whole.result fit)
