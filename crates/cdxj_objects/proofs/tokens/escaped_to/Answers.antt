use Rattle.std.proofs.Common.{◌+◌, length-drop, arith}
use Rattle.std.proofs.lemmas.List.Sums.{prefix_len-le-length}
use Rattle.cdxj_objects.proofs.EscapeLaw.{passes, run_to}
use Rattle.cdxj_objects.proofs.tokens.escaped_to.Goals as goal

pub escapes-init : goal.escapes-init
escapes-init c =
    let text = c.args.text.now in
    record {
      inside = grind (arith, prefix_len-le-length, length-drop);
      order = grind arith;
      goes_on = run_to text (c.args.at + 1) _ c.requires c.place_of_either-end.ensures;
    }

pub escapes-preserved : goal.escapes-preserved
escapes-preserved c =
    let text = c.args.text.now in
    let start = c.args.at + 1 in
    let behind = c.in_ok-behind.behind in
    let escape = c.in_ok-behind.ensures in
    let to_escape = passes text start c.escapes.end behind c.escapes.invariant.goes_on escape.goes_on in
    record {
      inside = grind (arith, prefix_len-le-length, length-drop, escape.inside);
      order = grind (arith, escape.moves);
      goes_on = passes text start behind _ to_escape (run_to text behind _ c.requires
          c.place_of_either-end-in-escapes.ensures);
    }
