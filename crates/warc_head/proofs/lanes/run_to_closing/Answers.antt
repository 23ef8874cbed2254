use Rattle.warc_head.proofs.Words.{◌≡◌, ◌+◌, arith}
use Rattle.warc_head.proofs.LaneLemmas.{both_bound, both_none}
use Rattle.warc_head.proofs.lanes.run_to_closing.Goals as goal

pub returns-clause-bound : goal.returns-clause-bound
returns-clause-bound c =
    both_bound c.args.text.now (c.args.at + 1) (c.args.at + 3) 10 _ (omega arith) (omega arith) c.first_set.ensures

pub returns-clause-none : goal.returns-clause-none
returns-clause-none c k below p q =
    let first : c.args.at + 1 + k ≡ c.args.at + k + 1 = omega arith in
    let second : c.args.at + 3 + k ≡ c.args.at + k + 3 = omega arith in
    both_none c.args.text.now (c.args.at + 1) (c.args.at + 3) 10 _ (omega arith)
    (omega arith) c.first_set.ensures k below (rw first p) (rw second q)
