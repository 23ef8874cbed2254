use Rattle.std.specs.List.{AllWithin}
use Rattle.cdxj_places.specs.Abbreviated.{StartsWith}
use Rattle.cdxj_places.proofs.abbreviation.shared_start.Given as goal

abbrev pub invariant-loop-thing : goal.invariant-loop-thing
invariant-loop-thing g l = AllWithin (λ e. StartsWith l.shared (g.T.HasPlace.place_of e).key) l.things 0 l.thing-index
