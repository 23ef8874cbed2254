use Rattle.std.proofs.Common.{◌≡◌, ◌∙◌, ap}
use Rattle.tasks.proofs.FrontLemmas.{got_part, got_whole}
use Rattle.tasks.proofs.laws.get_writes_one_record.Goals as goal

pub returns-clause-whole : goal.returns-clause-whole
returns-clause-whole g c = λ len offset name written before old new a.
    got_whole before (written new) _ len offset name (new ≡ old) (rw a.0 at a.1)

pub returns-clause-front : goal.returns-clause-front
returns-clause-front g c = λ len offset name outcome written before old new a other.
    got_part before (written new) _ len offset name (new ≡ old) (λ e. ap written e ∙ a.0) outcome (rw a.0 at a.1) other
