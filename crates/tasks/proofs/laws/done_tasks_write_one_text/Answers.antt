use Rattle.std.proofs.Common.{◌≡◌}
use Rattle.tasks.proofs.OneTextLemmas.{CallsAreOne, done_one, exit_one}
use Rattle.tasks.proofs.laws.done_tasks_write_one_text.Goals as goal

-- what the laws of the calls say
laws_of : (g : _) (c : goal.After-scan_writes_one_text g) → CallsAreOne
laws_of g c = record {
  zero = c.status_zero_is_done.ensures;
  lists = c.list_writes_one_text.ensures;
  verifies = c.verify_writes_one_text.ensures;
  adds = c.index_writes_one_text.ensures.adds;
  merges = c.merge_writes_one_text.ensures;
  answers = c.answer_writes_one_text.ensures;
  pages = c.pages_write_one_text.ensures;
  replies = c.conversation_over_indexes_writes_one_text.ensures;
  fetches = c.get_writes_one_text.ensures.offset;
  fetches_at = c.get_writes_one_text.ensures.length;
  fetches_member = c.get_writes_one_text.ensures.member;
  scans = c.scan_writes_one_text.ensures;
}

pub returns-clause-done : goal.returns-clause-done
returns-clause-done g c = λ task written before here this there that known a b.
    (done_one (laws_of g c) _ before (written this) (written that) (this ≡ here) (that ≡ there) task known
    (rw a.0 at a.1) (rw b.0 at b.1)).0

pub returns-clause-exit : goal.returns-clause-exit
returns-clause-exit g c = λ task written flushed failures before old this that known alone e a b.
    exit_one written flushed failures (laws_of g c) _ task before old this that known alone e a b
