use Rattle.warc_head.proofs.Words.{arith, ◌≡◌, ◌∙◌, List, true, sym, Field, fields_at}
use Rattle.warc_head.specs.Mandatory.{each_once, none_missing, none_repeated, mandatory}
use Rattle.warc_head.proofs.MandatoryLemmas.{required_is, length_once, date_once, kind_once}
use Rattle.warc_head.proofs.mandatory.mandatory_values.Goals as goal

pub returns-then-not-none_missing-clause-err : goal.returns-then-not-none_missing-clause-err
unfolding each_once
returns-then-not-none_missing-clause-err c =
    let fields = fields_at c.args.text.now c.args.spans.now in
    let missing = c.none_missing.ensures c.args.text.now fields c.occurrences_in-found.ensures in
    grind arith

pub returns-then-not-none_repeated-clause-err : goal.returns-then-not-none_repeated-clause-err
unfolding each_once
returns-then-not-none_repeated-clause-err c =
    let fields = fields_at c.args.text.now c.args.spans.now in
    let missing = c.none_missing.ensures c.args.text.now fields c.occurrences_in-found.ensures in
    let repeated = c.none_repeated.ensures c.args.text.now fields c.occurrences_in-found.ensures in
    grind arith

-- at the end, none is missing and none is repeated
module _ (c : goal.After-value-3) where
  abbrev fields : List Field
  fields = fields_at c.args.text.now c.args.spans.now

  some : none_missing mandatory fields ≡ true
  some = sym (c.none_missing.ensures c.args.text.now fields c.occurrences_in-found.ensures)
      ∙ c.if-not-none_missing.false

  single : none_repeated mandatory fields ≡ true
  single = sym (c.none_repeated.ensures c.args.text.now fields c.occurrences_in-found.ensures)
      ∙ c.if-not-none_repeated.false

pub returns-clause-once : goal.returns-clause-once
unfolding each_once
returns-clause-once c = grind (arith, some, single)

pub returns-clause-length : goal.returns-clause-length
returns-clause-length c = grind (arith, length_once (fields c) (some c) (single c), required_is)

pub returns-clause-date : goal.returns-clause-date
returns-clause-date c = grind (arith, date_once (fields c) (some c) (single c), required_is)

pub returns-clause-kind : goal.returns-clause-kind
returns-clause-kind c = grind (arith, kind_once (fields c) (some c) (single c), required_is)
