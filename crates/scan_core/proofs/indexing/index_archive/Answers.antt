use Rattle.query_core.proofs.Words.{ℕ, ◌↔◌, ◌≡◌, Err, List, Ok, arith, cases_lt, err_from_is_err_and, length, true}
use Rattle.std.proofs.Common.{Result}
use Rattle.index_core.specs.{Indexing.IsName, Indexing.is_among, declared.fault.IndexFault.IndexFault}
use Rattle.index_core.specs.declared.fault.IndexFault.TheVariants.{BadName, DuplicateName}
use Rattle.index_core.proofs.AddingLemmas.{by_heads_named}
use Rattle.scan_core.specs.Archives.{IsNewName}
use Rattle.scan_core.proofs.indexing.index_archive.Goals as goal

-- a name that is neither bad nor used
is_new : {names : List (List ℕ)} {name : List ℕ} {n : ℕ}
    → (◌≡◌ {A = Result ℕ IndexFault} (Ok n) (Err BadName)) ↔ ¬ (IsName name)
    → (◌≡◌ {A = Result ℕ IndexFault} (Ok n) (Err DuplicateName)) ↔ (IsName name × (is_among names name ≡ true))
    → IsNewName names name
is_new {name} bad duplicate = grind (arith, cases_lt 0 (length name), cases_lt 255 (length name))

pub returns-in_err-add-clause-refused : goal.returns-in_err-add-clause-refused
returns-in_err-add-clause-refused g c =
    let p = err_from_is_err_and c.from_residual.result c.from_residual.ensures.1 in
    rw (p.1, p.2, ← c.as_str.ensures.value) (grind arith)

pub returns-clause-index : goal.returns-clause-index
returns-clause-index g c =
    let adds = c.in_ok-add.ensures.adds in
    let named = by_heads_named _ _ _ _ adds.2.1.0 adds.0 adds.2.1.1 in
    rw (← c.as_str.ensures.value) (grind (arith, is_new))
