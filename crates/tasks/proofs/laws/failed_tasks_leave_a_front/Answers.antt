use Rattle.std.proofs.Common.{◌≡◌, ap, ◌∙◌}
use Rattle.tasks.proofs.FrontLemmas.{CallsHaveFronts, exit_front, front_left}
use Rattle.tasks.proofs.laws.failed_tasks_leave_a_front.Goals as goal

-- what the laws of the calls say
laws_of : (g : _) (c : goal.After-faults_of_scans_leave_a_front g) → CallsHaveFronts
laws_of g c = record {
  merge = c.merge_writes_one_text.ensures;
  merges = c.faults_leave_a_front.ensures.merge;
  answer = c.answer_writes_one_text.ensures;
  answers = c.faults_leave_a_front.ensures.answer;
  page = c.pages_write_one_text.ensures;
  pages = c.faults_leave_a_front.ensures.pages;
  reply = c.conversation_over_indexes_writes_one_text.ensures;
  replies = c.faults_leave_a_front.ensures.serve;
  fetch = c.get_writes_one_text.ensures.offset;
  fetches = c.get_writes_one_text.ensures.offset_front;
  fetch_at = c.get_writes_one_text.ensures.length;
  fetches_at = c.get_writes_one_text.ensures.length_front;
  fetch_member = c.get_writes_one_text.ensures.member;
  fetches_member = c.get_writes_one_text.ensures.member_front;
  scan = c.scan_writes_one_text.ensures;
  scans = c.faults_of_scans_leave_a_front.ensures;
}

pub returns-clause-ended : goal.returns-clause-ended
returns-clause-ended g c = λ task outcome written before here this there that known ends a b.
    front_left (laws_of g c) _ before (written this) (written that) outcome (this ≡ here) (that ≡ there)
    (λ e. ap written e ∙ b.0) task known ends (rw a.0 at a.1) (rw b.0 at b.1)

pub returns-clause-exit : goal.returns-clause-exit
returns-clause-exit g c = λ task written flushed failures before old this that status known ends alone e a b.
    exit_front written flushed failures (laws_of g c) _ task before old this that known ends alone e a status b
