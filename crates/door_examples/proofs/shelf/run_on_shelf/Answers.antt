use Rattle.door_examples.proofs.ShelfRuns.{list_runs, query_runs, unknown_runs, verify_runs}
use Rattle.door_examples.proofs.shelf.run_on_shelf.Goals as goal

pub returns : goal.returns
returns g c archive index input zero =
    let ends = c.run_on.ensures.done zero in
    record {
      list = list_runs _ _ _ archive index input _ _ _ ends c.one_reading.ensures c.plain_archive_is_its_records.ensures.whole;
      verify = verify_runs _ _ _ archive index input _ _ _ ends c.one_reading.ensures c.plain_archive_is_its_records.ensures.whole;
      query = query_runs _ _ _ archive index input _ _ _ ends;
      unknown = unknown_runs _ _ _ archive index input _ _ _ ends;
    }
