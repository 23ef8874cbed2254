use Rattle.std.proofs.Common.{List, ap, ℕ}
use Rattle.door_examples.proofs.ShelfWrites.{writes}
use Rattle.door_examples.proofs.shelf.perform_on_shelf.Goals as goal

pub returns : goal.returns
returns g c archive index input is =
    let all = λ (bytes : List ℕ) (name : List ℕ). bytes in
    writes (record {
      reading = c.one_reading.ensures;
      records = c.plain_archive_is_its_records.ensures.whole;
      stands = c.one_thing_stands_at_an_offset.ensures.one;
      captures = c.archive_has_one_list_of_captures.ensures.whole;
      members = c.index_has_one_list_of_members.ensures;
      pages = c.pages_write_one_text.ensures;
      replies = c.replies_over_indexes_are_one.ensures;
      scan = c.scan_writes_one_text.ensures;
    }) _ _ _ _ _ _ _ _ _ (ap all archive) (ap all index) input is c.perform.ensures.performs
