use Rattle.std.proofs.Common.{[], ap, arith, length, refl, string_bytes}
use Rattle.std.proofs.lemmas.List.{length-map, take_all}
use Rattle.index_core.specs.declared.fault.IndexFault.TheVariants.{Memory}
use Rattle.merge_core.proofs.Many.{map_set_same}
use Rattle.scan_core.proofs.ArchiveLemmas.{counts_at, first_fault, one_more, unread_at}
use Rattle.scan_core.proofs.indexing.index_archives.Goals as goal

pub loop-i-init : goal.loop-i-init
loop-i-init g c = record {
  names = refl;
  rest = refl;
  failures = refl;
  held = c.new-indexer.ensures;
  number = ap length c.new-indexes.ensures.items;
  indexed = record { captures = []; indexed = grind arith; are_indexes = grind arith };
}

pub loop-i-preserved : goal.loop-i-preserved
loop-i-preserved g c =
    one_more c.loop-i.invariant (omega arith) _ _ c.in-Ok.index _ _ (ap string_bytes c.index_archive.ensures.name)
    c.in-Ok.ensures.failures c.in-Ok.ensures.held c.in-Ok.ensures.index c.in-Ok-push.ensures.items

-- ---- an archive isn't indexed

pub returns-in-Err-clause-names : goal.returns-in-Err-clause-names
returns-in-Err-clause-names g c = grind (arith, map_set_same)

pub returns-in-Err-clause-refused : goal.returns-in-Err-clause-refused
returns-in-Err-clause-refused g c =
    first_fault c.loop-i.invariant (omega arith) _ c.in-Err.fault c.in-Err.ensures.refused

pub returns-in-Err-clause-unread : goal.returns-in-Err-clause-unread
returns-in-Err-clause-unread g c = unread_at c.loop-i.invariant (omega arith) _ _ c.in-Err.fault c.in-Err.ensures.unread

pub returns-in-Err-clause-failures : goal.returns-in-Err-clause-failures
returns-in-Err-clause-failures g c =
    counts_at c.loop-i.invariant (omega arith) _ _ c.in-Err.fault c.in-Err.ensures.failures

-- ---- its index can't be kept

pub returns-in-Err-push-clause-names : goal.returns-in-Err-push-clause-names
returns-in-Err-push-clause-names g c = grind (arith, map_set_same)

pub returns-in-Err-push-clause-refused : goal.returns-in-Err-push-clause-refused
returns-in-Err-push-clause-refused g c =
    first_fault c.loop-i.invariant (omega arith) c.index-inputs-i.result Memory c.in-Ok.ensures.index.is_new

pub returns-in-Err-push-clause-unread : goal.returns-in-Err-push-clause-unread
returns-in-Err-push-clause-unread g c =
    unread_at c.loop-i.invariant (omega arith) c.index-inputs-i.result c.index_archive.new.archive Memory
    (λ n. absurd n)

pub returns-in-Err-push-clause-failures : goal.returns-in-Err-push-clause-failures
returns-in-Err-push-clause-failures g c = counts_at c.loop-i.invariant (omega arith) _ _ Memory c.in-Ok.ensures.failures

-- ---- all are indexed

pub returns-clause-indexes : goal.returns-clause-indexes
returns-clause-indexes g c = grind (arith, take_all, length-map)
