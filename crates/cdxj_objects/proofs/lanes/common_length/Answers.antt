use Rattle.std.proofs.Common.{arith}
use Rattle.std.proofs.Common.{◌≡◌, ◌%◌, ◌^◌, ◌≤◌, length, drop, not, ap, sym, ◌∙◌, take-take, arith, rules}
use Rattle.std.specs.Int.{w8}
use Rattle.std.specs.List.{prefix_len}
use Rattle.std.proofs.lemmas.List.Sums.{prefix_len-le-length}
use lib.Lanes.{chunk, zip2, mask_l}
use Rattle.std.proofs.lemmas.List.{map-id}
use Rattle.std.proofs.lemmas.Simd.{length-chunk, length-zip2, tops_compared, mask_l-mod, first_set_mask_l}
use Rattle.cdxj_objects.proofs.LaneLemmas.{differ, same_front}
use Rattle.cdxj_objects.proofs.lanes.common_length.Goals as goal

pub returns : goal.returns
returns c =
    let text = c.args.text.now in
    let at = c.args.at in
    let front = c.args.front.bytes in
    let whole : length front ≡ 16 = search rules in
    let others = zip2 differ (chunk at 16 text) (chunk 0 16 front) in
    let lanes = length-chunk at 16 text c.requires in
    let fronts = length-chunk 0 16 front (omega arith) in
    let all : length others ≡ 16 = length-zip2 differ (chunk at 16 text) (chunk 0 16 front) (omega arith) ∙ lanes in
    let mask = ap (λ l. mask_l l % 2 ^ 64) (tops_compared w8 differ (chunk at 16 text) (chunk 0 16 front))
    ∙ mask_l-mod others 64 (omega arith) in
    let first : c.first_set.result ≡ prefix_len not others =
    grind (arith, map-id, mask, first_set_mask_l (λ other. other) others 16 all) in
    let few : c.first_set.result ≤ 16 = omega (arith, first, prefix_len-le-length not others) in
    sym (take-take c.first_set.result 16 (drop at text) few)
    ∙ same_front c.first_set.result (chunk at 16 text) (chunk 0 16 front) (omega (arith, first))
    ∙ take-take c.first_set.result 16 front few
