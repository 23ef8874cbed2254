use Rattle.merge_core.proofs.Words.{◌∙◌, Bor, Line, ap, map, member_place, place_cmp, rising}
use Rattle.cdxj_places.proofs.RisingAlike.{rising_referred}
use Rattle.merge_core.proofs.sink.in_places.Goals as goal

pub returns : goal.returns
returns c =
    ap (map (λ (e : Bor Line). e.now)) c.in_ok-sort_by_place.ensures
    ∙ rising_referred (λ (e : Bor Line). e.now) member_place place_cmp c.in_ok-lines.lines.items
    ∙ ap (rising member_place place_cmp) c.in_ok-lines.ensures
