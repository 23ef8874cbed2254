use Rattle.merge_core.proofs.Words.{◌-◌, ◌^◌, ◌≡◌, CursorState, map, min, sum, take}
use Rattle.merge_core.proofs.state.MergeState.lines.Given as goal

abbrev pub invariant-loop-cursor : goal.invariant-loop-cursor
invariant-loop-cursor l =
    l.lines ≡ min (sum (map (λ (c : CursorState). c.count) (take l.cursor-index l.self.cursors.items))) (2 ^ 64 - 1)
