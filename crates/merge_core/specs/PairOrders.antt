-- The order of pairs of key and stamp, in words.
use Rattle.std.specs.Prelude.{◌≡◌, false, ⊤, Bool, Option, Some, None}
use Rattle.std.specs.Ordering.{is_gt, is_lt}
use Rattle.std.specs.declared.cmp.Ordering.TheVariants.{Less, Equal}
use Rattle.cdxj_places.specs.Pairs.{Pair, pair_cmp}
use Rattle.cdxj_core.specs.Members.{Member, member_pair}

abbrev pub Below : Pair → Pair → Type 0
Below p q = pair_cmp p q ≡ Less

-- neither is below the other
abbrev pub Alike : Pair → Pair → Type 0
Alike p q = pair_cmp p q ≡ Equal

-- not above
abbrev pub Upto : Pair → Pair → Type 0
Upto p q = is_gt (pair_cmp p q) ≡ false

-- the member's pair is below this one
abbrev pub is_low : Pair → Member → Bool
is_low pair m = is_lt (pair_cmp (member_pair m) pair)

-- the pair stands above the bound, or there is none
abbrev pub IsAbove : Option Pair → Pair → Type 0
IsAbove None pair = ⊤
IsAbove (Some bound) pair = Below bound pair

-- the pair stands at the bound or below it
abbrev pub IsUpto : Option Pair → Pair → Type 0
IsUpto None pair = ⊥
IsUpto (Some bound) pair = Upto pair bound
