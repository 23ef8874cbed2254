use Rattle.tasks.proofs.opening.AnyArchiveArchiveOver.over.Goals as goal

pub returns : goal.returns
returns g c = (c.open.ensures.unread, tt)
