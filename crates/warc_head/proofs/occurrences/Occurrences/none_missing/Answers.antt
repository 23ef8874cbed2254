use Rattle.warc_head.proofs.Words.{◌∙◌, ◌&&◌, codes, field_values}
use Rattle.warc_head.proofs.MandatoryLemmas.{missing_regrouped}
use Rattle.warc_head.proofs.occurrences.Occurrences.none_missing.Goals as goal

pub returns : goal.returns
returns c =
    λ text fields all.
    let a = c.is_some.ensures text (field_values (codes "WARC-Record-ID") fields) all.record_id in
    let b = c.is_some-2.ensures text (field_values (codes "Content-Length") fields) all.length in
    let d = c.is_some-3.ensures text (field_values (codes "WARC-Date") fields) all.date in
    let e = c.is_some-4.ensures text (field_values (codes "WARC-Type") fields) all.kind in
    (λ i. ((a i && b i) && d i) && e i) ∙ missing_regrouped fields
