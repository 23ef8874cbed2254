use Rattle.std.proofs.Common.{◌-◌, ◌≤◌, length}
use Rattle.cdxj_keys.specs.PlainUrls.{HasInnerDots}
use Rattle.cdxj_keys.proofs.plain_url.has_inner_dots.Given as goal

abbrev pub invariant-dots : goal.invariant-dots
invariant-dots l = (l.at ≤ length l.path) × HasInnerDots l.path l.at

abbrev pub decreases-dots : goal.decreases-dots
decreases-dots l = length l.path - l.at
