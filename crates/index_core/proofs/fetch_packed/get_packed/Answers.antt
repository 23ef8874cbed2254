use Rattle.index_core.proofs.Words.{drop, inl, refl}
use Rattle.std.proofs.Common.{option_map}
use Rattle.archives.specs.PackedState.{packed_state}
use Rattle.archives.proofs.MemberLemmas.{some_known}
use Rattle.index_core.proofs.MemberFetchLemmas.{fault_there}
use Rattle.index_core.proofs.fetch_packed.get_packed.Goals as goal

pub returns-in-NoMemory-clause-fetches : goal.returns-in-NoMemory-clause-fetches
returns-in-NoMemory-clause-fetches g c =
    let bytes = option_map (drop c.args.offset) (packed_state c.args.file.now).ahead in
    let w = g.O.Output.written c.args.out.now in
    rw c.no_memory.ensures (fault_there c.args.asked c.args.offset w w _ bytes refl (some_known bytes λ b e. inl refl))
