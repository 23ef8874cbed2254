use Rattle.archives.proofs.either_archive.EitherArchiveArchive.next_capture.Goals as goal

pub returns-in-Plain-clause-takes : goal.returns-in-Plain-clause-takes
returns-in-Plain-clause-takes g c = rw c.in-Plain.is c.next_capture.ensures.takes

pub returns-in-Packed-clause-takes : goal.returns-in-Packed-clause-takes
returns-in-Packed-clause-takes g c = rw c.in-Packed.is c.next_capture-in-Packed.ensures.takes

pub returns-in-Failed-clause-takes : goal.returns-in-Failed-clause-takes
returns-in-Failed-clause-takes g c = rw c.in-Failed.is c.next_capture-in-Failed.ensures.takes
