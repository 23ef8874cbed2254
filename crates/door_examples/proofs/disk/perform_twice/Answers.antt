use Rattle.command_line.specs.Commands.{view}
use Rattle.door_examples.proofs.DiskLemmas.{disk_known}
use Rattle.door_examples.proofs.disk.perform_twice.Goals as goal

pub returns-clause-same : goal.returns-clause-same
returns-clause-same g c indexes first second before begins also =
    let files = c.args.files.now in let bytes = g.D.Disk.bytes_of in
    c.done_tasks_write_one_text.ensures.done (view c.args.task.now) g.O.Output.written before
    c.args.out.now c.perform-first.new.out c.args.other.now c.perform.new.out
    (disk_known (bytes files.archives.now) (bytes files.indexes.now) files.input.now (view c.args.task.now) indexes)
    (begins, rw first at c.perform-first.ensures.performs) (also, rw second at c.perform.ensures.performs)

pub returns-clause-front : goal.returns-clause-front
returns-clause-front g c indexes ends first before begins also =
    let files = c.args.files.now in let bytes = g.D.Disk.bytes_of in
    c.failed_tasks_leave_a_front.ensures.ended (view c.args.task.now) c.perform.result g.O.Output.written before
    c.args.out.now c.perform-first.new.out c.args.other.now c.perform.new.out
    (disk_known (bytes files.archives.now) (bytes files.indexes.now) files.input.now (view c.args.task.now) indexes) ends
    (begins, rw first at c.perform-first.ensures.performs) (also, c.perform.ensures.performs)
