use Rattle.std.proofs.Common.{ap, refl, rules, sym}
use Rattle.tasks.specs.Indexing.{AddsOne, bytes_of_name}
use Rattle.outcomes.specs.Outcome.{ends_command}
use Rattle.tasks.specs.Writes.{CountsWrites}
use Rattle.tasks.proofs.EachLemmas.{goes_over-calls, match_bool-of}
use Rattle.tasks.proofs.WriteCounts.{counts_over, index_counts}
use Rattle.tasks.proofs.indexing.index_all.Goals as goal

pub returns-clause-indexes : goal.returns-clause-indexes
returns-clause-indexes g c =
    let tells = g.F.Opener.tells_archive c.args.files.now in
    let added = c.with_each-added.result in
    let over = goes_over-calls _ _ (AddsOne tells (g.F.Opener.archive_failed c.args.files.now) (bytes_of_name c.args.input)) (λ held. held)
    (λ indexer name ended left met. search rules) _ _ _ _ _ c.with_each-added.ensures in (
      c.with_each-added.new.state,
      added,
      rw (sym c.new-indexer.ensures) over,
      match_bool-of (ends_command added)
          c.write_index.ensures.ended c.write_index.ensures.written,
    )

pub returns-clause-writes : goal.returns-clause-writes
unfolding ends_command
returns-clause-writes g c =
    let added : CountsWrites c.with_each-added.result 0 0 = counts_over _ _ _ _ _ refl
    (goes_over-calls _ _ (λ old name ended new. CountsWrites ended old new) (λ held. 0)
    (λ indexer name ended left met. search rules) _ _ _ _ _ c.with_each-added.ensures) in
    let ended = c.write_index.ensures.ended in
    index_counts c.with_each-added.result c.write_index.result (g.O.Output.failures c.args.out.now)
    (g.O.Output.failures c.write_index.new.out) added
    (λ e. ((ended e).0, ap g.O.Output.failures (ended e).1)) c.write_index.ensures.writes
