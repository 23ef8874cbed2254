use Rattle.query_core.proofs.Words.{chain_law, matches, member_place, place_cmp, place_cmp_total, rises_collapsed}
use Rattle.query_core.proofs.Words.{rises_filter, same_part, selected}
use Rattle.query_core.proofs.{PageChains.captures_wanted, WriterLemmas.captures_are}
use Rattle.query_core.proofs.laws.pages_rise.Goals as goal

pub returns : goal.returns
returns c = λ q lines sizes pages rise positive chain.
    let selects = rises_filter member_place place_cmp place_cmp_total (λ m. matches q m.values) lines rise in
    let joined = (chain_law member_place place_cmp (same_part q.collapse) place_cmp_total (selected q lines) q.resume
    sizes pages selects positive chain).0 in
    rw joined (
      rises_collapsed member_place place_cmp (same_part q.collapse) place_cmp_total (selected q lines) q.resume selects,
      rw (← captures_are q lines) at (captures_wanted q.resume q lines),
    )
