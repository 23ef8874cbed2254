use Rattle.source_core.proofs.Words.{◌+◌, ◌<◌, ◌≡◌, arith, length, length-drop, length-take}
use Rattle.source_core.proofs.RememberedLemmas.{begins_behind, front_behind}
use Rattle.std.proofs.lemmas.List.{take_rest}
use Rattle.source_core.proofs.remembering.line_in.Goals as goal

pub returns : goal.returns
returns c = λ text extent h.
    let bytes = c.args.bytes.now in let feed = c.in_ok-feed.feed in let first = c.in_ok-feed.ensures in
    let inside : feed < length bytes = first.0.high in
    let there : c.in_ok-offset.offset ≡ c.args.at + (feed + 1) = grind arith in
    let rest = take_rest bytes (feed + 1) in let part = c.line_part-length.ensures in
    rw (there, rest) (record {
      short = grind (arith, length-take, length-drop, h.most);
      begins = λ t e. begins_behind t bytes c.args.at (h.bytes t e) (omega arith) feed first.0 first.1;
      reads = λ t e. (
        c.line_part-length.result.1,
        front_behind text extent c.args.at feed c.min.result c.line_part-length.result.0 bytes t _ h e inside
            (rw rest at part.within) (rw rest at part.part),
      );
    })
