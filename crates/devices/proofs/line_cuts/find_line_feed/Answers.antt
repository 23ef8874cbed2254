use Rattle.std.proofs.Common.{arith}
use Rattle.devices.proofs.LineFeeds.{first_line_feed}
use Rattle.devices.proofs.line_cuts.find_line_feed.Goals as goal

pub returns : goal.returns
returns c = grind (arith, first_line_feed)
