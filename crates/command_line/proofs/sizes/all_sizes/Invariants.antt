use Rattle.std.proofs.Common.{◌≡◌, ◌++◌, drop, map, option_map}
use Rattle.command_line.specs.Sizes.{all_sizes}
use Rattle.command_line.proofs.sizes.all_sizes.Given as goal

-- the sizes so far, and then those of the parts that are left
abbrev pub invariant-loop-part : goal.invariant-loop-part
invariant-loop-part l =
    option_map (λ later. l.sizes.items ++ later) (all_sizes (map (λ part. part.now) (drop l.part-index l.parts)))
    ≡ all_sizes (map (λ part. part.now) l.parts)
