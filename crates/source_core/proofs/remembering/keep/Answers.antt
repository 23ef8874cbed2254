use Rattle.source_core.proofs.Words.{◌++◌, ◌≡◌, arith, length, rules}
use Rattle.source_core.proofs.RememberedLemmas.{all_still_kept, newly_kept}
use Rattle.source_core.specs.Remembered.{IsKept}
use Rattle.std.proofs.lemmas.List.Elements.{All-set}
use Rattle.source_core.proofs.remembering.keep.Goals as goal

pub returns-then-is_ok : goal.returns-then-is_ok
returns-then-is_ok c = λ text all known.
    let fronts = c.args.fronts.now.items in let front = c.args.front.now in
    let grown : c.extend_from_slice.new.self.items ≡ fronts ++ front = search rules in
    let size : c.len-start.result ≡ length fronts = grind arith in
    rw (grown, size) (All-set (λ line. IsKept text (fronts ++ front) line) c.args.lines.now.items
    c.args.place _ (newly_kept text fronts front c.args.from c.args.offset known)
    (all_still_kept text fronts front c.args.lines.now.items all))
