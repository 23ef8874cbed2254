use Rattle.index_core.proofs.Words.{◌≡◌, [], ◌∷◌, ◌++◌, map, ◌∙◌, is_among}
use Rattle.std.proofs.Common.{false}
use Rattle.std.specs.String.{string_bytes}
use Rattle.index_core.proofs.NameLemmas.{new_goes_last}
use Rattle.index_core.proofs.names.Names.add.Goals.{in-Ok, in-Err}
use Rattle.index_core.proofs.names.Names.add.Goals as goal

pub returns-clause-ok : goal.returns-clause-ok
returns-clause-ok c =
    let keys = c.self.inside.set.keys in
    let text = c.in_ok-copy.ensures.ok in
    let absent : is_among (map string_bytes keys) (string_bytes c.in_ok-copy.copy) ≡ false =
    (λ i. is_among (c.self.view_is i) (text i)) ∙ c.requires in
    elim c.match-insert.branch [
      | in-Ok w ↦ rw w.result-is
          (new_goes_last string_bytes keys c.insert.new.self.keys c.in_ok-copy.copy absent w.in-Ok.ensures.keys
          ∙ (λ i. c.self.view_is i ++ text i ∷ []))
      | in-Err w ↦ rw w.result-is tt
    ]
