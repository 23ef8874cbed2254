use Rattle.query_core.proofs.Words.{[], ℕ, ◌∙◌, ◌∷◌, ◌≡◌, ◌≤◌, AllZip, Err, IsAnswerFaultOf, IsIndex, Known, LINE_LIMIT}
use Rattle.query_core.proofs.Words.{List, Member, Ok, Option, Some, ap, arith, collection, get_or, length, length-map}
use Rattle.query_core.proofs.Words.{map, nat_tests, refl, same_part, selected, suc, true, wrote_nothing}
use Rattle.std.proofs.Common.{IfErr, Result}
use Rattle.devices.specs.Device.{next_count}
use Rattle.merge_core.specs.Failures.{RaisedAt}
use Rattle.query_core.specs.{AnswerCounts.CountsAnswer, Paging.are_sizes, QueryLaws.NoLineIsAtFault}
use Rattle.query_core.specs.{declared.fault.AnswerFault.AnswerFault, declared.merging.TheConstants.SOURCES_LIMIT}
use Rattle.query_core.specs.Refusals.{Refuses, bad_sizes_or_too_many}
use Rattle.std.proofs.lemmas.List.{get_or-set_same}
use Rattle.scan_core.specs.Scanning.{IsPagesFault}
use Rattle.source_core.specs.Slices.{slice_text}
use Rattle.query_core.proofs.PagesLemmas.{all_positive}
use Rattle.scan_core.proofs.scanning.write_pages.Goals as goal

-- sources in memory tell their bytes
known_texts : {S : Type 0} (text : S → List ℕ) (sources : List S) → Known (map (λ s. Some (text s)) sources) (map text sources)
known_texts text [] = tt
known_texts text (s ∷ ss) = (refl, known_texts text ss)

abbrev zeros : {S : Type 0} → List S → List ℕ
zeros ss = map (λ s. 0) ss

zero_at : {S : Type 0} (ss : List S) (i : ℕ) → get_or (zeros ss) i 0 ≡ 0
zero_at (s ∷ ss) (suc i) = zero_at ss i
zero_at ss i = grind arith

-- no count of 0 rises where all stay 0
none_raised : {S : Type 0} (i : ℕ) (old new : List S) → RaisedAt i (zeros old) (zeros new) → ⊥
none_raised i old new h =
    grind (arith, zero_at new i, get_or-set_same (zeros old) i (next_count (get_or (zeros old) i 0)) 0 h.0, zero_at)

-- pages over indexes meet no fault of a line or of a source
pages_fault : {S : Type 0} → NoLineIsAtFault
    → (r : Result ℕ AnswerFault) (tolds : List (Option (List ℕ))) (texts : List (List ℕ)) (members : List (List Member))
    (old new : List S) (o o' : ℕ) (sizes : List ℕ) (count : ℕ) (X : Type 0) → Known tolds texts
    → AllZip (IsIndex LINE_LIMIT) texts members
    → IfErr r (IsAnswerFaultOf tolds) → CountsAnswer r (zeros old) (zeros new) o o'
    → are_sizes sizes ≡ true → count ≤ SOURCES_LIMIT → Refuses (bad_sizes_or_too_many sizes count) r X
    → IfErr r IsPagesFault
pages_fault law (Ok n) tolds texts members old new o o' sizes count X known are f counts sized h refused = tt
pages_fault law (Err fault) tolds texts members old new o o' sizes count X known are f counts sized h refused =
    let named = law tolds fault f texts members known are in grind (arith, none_raised, nat_tests)

pub returns-in_err-sources-clause-pages : goal.returns-in_err-sources-clause-pages
returns-in_err-sources-clause-pages g c = λ members are.
    let q = c.args.query.now in
    let chain = c.pages_join.ensures.one (same_part q.collapse) (selected q (collection members))
    (c.pages_are_selected.ensures.rise q members) q.resume c.args.sizes.now
    (all_positive c.args.sizes.now c.requires.sizes) in
    grind (arith, wrote_nothing)

pub returns-clause-pages : goal.returns-clause-pages
returns-clause-pages g c = λ members are.
    let ok = c.pages.ensures in
    let texts = ap (map slice_text) c.deref_mut.ensures.value ∙ c.in_ok-sources.ensures in
    let known = rw texts at (known_texts slice_text c.deref_mut.result.now) in
    let same = simp length-map at (ap length texts) in
    let number : length c.deref_mut.result.now ≤ SOURCES_LIMIT = omega arith in
    record {
      wrote = rw (← ok.pages.whole _ members known are) ok.pages.holds;
      fault = pages_fault c.indexes_have_no_line_at_fault.ensures c.pages.result _ _ members c.deref_mut.result.now
          c.pages.new.sources _ _ c.args.sizes.now (length c.deref_mut.result.now) _ known are ok.fault ok.failures
          c.requires.sizes number ok.refused;
    }
