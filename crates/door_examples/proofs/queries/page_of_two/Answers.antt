use Rattle.std.proofs.Common.{◌∷◌, [], Some, ap}
use Rattle.door_examples.proofs.queries.page_of_two.Goals as goal

pub returns-in-Ok-page : goal.returns-in-Ok-page
returns-in-Ok-page g c = record {
  page = λ one two is_first is_second. (
    c.in-Ok.query,
    c.in-Ok.ensures.value,
    c.in-Ok-page.ensures.page (c.args.first.now ∷ c.args.second.now ∷ []) (one ∷ two ∷ [])
        (ap Some c.new.ensures.text, (ap Some c.new-2.ensures.text, tt)) (is_first, (is_second, tt)),
  );
}
