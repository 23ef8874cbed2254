-- What contracts see of a pair.
use Rattle.cdxj_places.specs.Pairs.{Pair}
use Rattle.cdxj_places.specs.declared.pair.Pair.{Pair as BorrowedPair}

abbrev pub pair_view : BorrowedPair → Pair
pair_view p = (p.key.now, p.stamp)
