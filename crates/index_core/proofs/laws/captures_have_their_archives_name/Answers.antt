use Rattle.archives.specs.Packing.{form_to}
use Rattle.index_core.proofs.AddingLemmas.{by_heads_named}
use Rattle.index_core.proofs.laws.captures_have_their_archives_name.Goals as goal

pub returns : goal.returns
returns c = λ types limits limit packing. by_heads_named types limits (form_to limit packing)
