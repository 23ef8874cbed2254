use Rattle.query_core.proofs.Words.{[], ℕ, ◌∷◌, ◌≡◌, List, arith, drop, refl, suc, zero}
use Rattle.scan_core.specs.Scanning.{LeavesUnread}
use Rattle.scan_core.proofs.laws.refused_scans_leave_archives_unread.Goals as goal

-- what is equal from a place on is so from the next
drop_more : (i : ℕ) (states : List ℕ) → drop (suc i) states ≡ drop 1 (drop i states)
drop_more zero states = refl
drop_more (suc i) [] = grind arith
drop_more (suc i) (s ∷ states) = drop_more i states

pub returns-clause-later : goal.returns-clause-later
unfolding LeavesUnread
returns-clause-later c = λ states new i fault h. grind (arith, drop_more i new, drop_more i states)
