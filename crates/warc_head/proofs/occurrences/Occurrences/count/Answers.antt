use Rattle.warc_head.proofs.Words.{◌≡◌, ◌++◌, ◌∷◌, [], List, ℕ, codes, length, arith, Field}
use Rattle.warc_head.proofs.Words.{field_values, append-nil}
use Rattle.warc_head.specs.declared.occurrence.Occurrence.{Occurrence}
use Rattle.warc_head.specs.Mandatory.{Occurs, values_in}
use Rattle.warc_head.proofs.MandatoryLemmas.{values_more}
use Rattle.std.proofs.lemmas.List.{length-map}
use Rattle.std.proofs.lemmas.Slice.Eq.{bytes_eq-Decides}
use Rattle.warc_head.proofs.occurrences.Occurrences.count.Goals as goal

-- the values of a name, with those that the last field adds
counted : (text wanted : List ℕ) (last : Field) (fields : List Field) (o : Occurrence)
    → Occurs text (field_values wanted fields ++ values_in wanted last) o
    → Occurs text (field_values wanted (fields ++ last ∷ [])) o
counted text wanted last fields o h = grind (arith, values_more)

-- a field of a name of another length adds none
kept : (text wanted : List ℕ) (last : Field) (fields : List Field) (o : Occurrence)
    → (length last.name ≡ length wanted → ⊥) → Occurs text (field_values wanted fields) o
    → Occurs text (field_values wanted (fields ++ last ∷ [])) o
kept text wanted last fields o other h = grind (arith, values_more, length-map, bytes_eq-Decides, append-nil)

pub returns-then-size-eq9 : goal.returns-then-size-eq9
returns-then-size-eq9 c = λ fields all.
    let date = c.count.ensures (field_values (codes "WARC-Date") fields) all.date in
    let kind = c.count-then-size-eq9.ensures (field_values (codes "WARC-Type") fields) all.kind in
    grind (arith, kept, counted, codes)

pub returns-then-size-eq14 : goal.returns-then-size-eq14
returns-then-size-eq14 c = λ fields all.
    let record_id = c.count-then-size-eq14.ensures (field_values (codes "WARC-Record-ID") fields) all.record_id in
    let length = c.count-then-size-eq14-2.ensures (field_values (codes "Content-Length") fields) all.length in
    grind (arith, kept, counted, codes)
