use Rattle.source_core.proofs.Words.{ℕ, ◌++◌, ◌+◌, ◌-◌, ◌∙◌, ◌≡◌, ◌≤◌, AreBytesAt, BeginsWith, List, ReadsOn, Some}
use Rattle.source_core.proofs.Words.{arith, common_steps, held_from, length, length-append, length-drop, length-take}
use Rattle.source_core.proofs.Words.{refl, rules, subst, take}
use Rattle.source_core.proofs.Parts.{cut_short, given_more, given_out}
use Rattle.source_core.proofs.{LongestLines.front_least, WindowLemmas.held_behind, WindowLemmas.held_reads}
use Rattle.source_core.proofs.cursor.Cursor.next.Goals.{After-line_part-length, In_ok-extend_from_slice}
use Rattle.source_core.proofs.cursor.Cursor.next.Goals as goal

-- what is held where the line goes on
abbrev held : (g : _) → After-line_part-length g → List ℕ
held g c = held_from c.hold.new.self c.loop-self.self-inside.at

-- these are the source's bytes
stands : (g : _) (c : After-line_part-length g) → AreBytesAt (g.S.Source.text c.hold.new.source)
    (g.S.Source.extent c.hold.new.source) c.loop-self.self-inside.at (held g c)
stands g c = grind arith

-- the part that was found is one of them
inside : (g : _) (c : After-line_part-length g) → c.line_part-length.result.0 ≤ length (held g c)
inside g c = grind arith

-- the line goes on with it
reads : (g : _) (c : After-line_part-length g) (t : List ℕ) → g.S.Source.text c.args.source.now ≡ Some t
    → ReadsOn t c.args.self.now.at (c.loop-self.line.items ++ take c.line_part-length.result.0 (held g c))
    c.line_part-length.result.1
reads g c t e =
    let inv = c.loop-self.invariant in let source = c.hold.new.source in
    held_reads _ _ c.args.self.now.at _ c.loop-self.line.items (held g c) _ t _
    (subst (λ at. AreBytesAt (g.S.Source.text source) (g.S.Source.extent source) at (held g c)) inv.at (stands g c))
    (c.in_ok-hold.ensures.source.0.0 ∙ inv.text ∙ e) (inside g c) refl
    (rw c.from-held.ensures at c.line_part-length.ensures.part) (inv.told t e).1

grown : (g : _) (c : In_ok-extend_from_slice g) → c.extend_from_slice.new.self.items ≡ c.loop-self.line.items
    ++ take c.line_part-length.result.0 (held_from c.hold.new.self c.loop-self.self-inside.at)
grown g c = search rules

longer : (g : _) (c : In_ok-extend_from_slice g) → length c.extend_from_slice.new.self.items
    ≡ length c.loop-self.line.items + c.line_part-length.result.0
longer g c = grind (arith, length-take)

-- and the source stands behind it
behind : (g : _) (c : After-line_part-length g) → AreBytesAt (g.S.Source.text c.hold.new.source)
    (g.S.Source.extent c.hold.new.source) (c.loop-self.self-inside.at + c.line_part-length.result.0)
    (held_from c.hold.new.self (c.loop-self.self-inside.at + c.line_part-length.result.0))
behind g c = rw (held_behind c.hold.new.self c.loop-self.self-inside.at c.line_part-length.result.0 (inside g c))
    (given_out _ _ _ _ _ (stands g c) (inside g c))

left : (g : _) (c : After-line_part-length g)
    → length (held_from c.hold.new.self (c.loop-self.self-inside.at + c.line_part-length.result.0))
    ≡ length (held g c) - c.line_part-length.result.0
left g c = grind (arith, length-drop)

pub returns-in_err-hold : goal.returns-in_err-hold
returns-in_err-hold g c = grind arith

pub returns-in_err-extend_from_slice : goal.returns-in_err-extend_from_slice
returns-in_err-extend_from_slice g c = grind arith

pub returns-then-is_empty : goal.returns-then-is_empty
returns-then-is_empty g c =
    let there : c.loop-self.self-inside.at ≡ c.args.self.now.at = grind arith in
    grind (arith, common_steps)

pub returns-then-length-len : goal.returns-then-length-len
returns-then-length-len g c =
    let reads = reads g (goal.at.returns-then-length-len g c).After-line_part-length in
    grind (arith, front_least, length-append, length-take)

pub returns-then-ends-clause-given : goal.returns-then-ends-clause-given
returns-then-ends-clause-given g c = λ t e.
    let here = goal.at.returns-then-ends-clause-given g c in let long = longer g here.In_ok-extend_from_slice in
    let reads = rw (← grown g here.In_ok-extend_from_slice, c.if-ends.true) at
    (reads g here.After-line_part-length t e) in
    grind arith

pub returns-then-ends-clause-filled : goal.returns-then-ends-clause-filled
returns-then-ends-clause-filled g c = behind g (goal.at.returns-then-ends-clause-filled g c).After-line_part-length

pub returns-then-ends-clause-stands : goal.returns-then-ends-clause-stands
returns-then-ends-clause-stands g c =
    grind (arith, returns-then-ends-clause-filled, given_more, returns-then-ends-clause-given)

pub returns-then-ends-clause-most : goal.returns-then-ends-clause-most
returns-then-ends-clause-most g c = grind (arith, common_steps, returns-then-ends-clause-given)

pub returns-then-ends-clause-gave : goal.returns-then-ends-clause-gave
returns-then-ends-clause-gave g c =
    let here = (goal.at.returns-then-ends-clause-gave g c).After-line_part-length in let rest = left g here in
    omega arith

pub loop-self-preserved : goal.loop-self-preserved
loop-self-preserved g c =
    let here = goal.at.loop-self-preserved g c in let long = longer g here.In_ok-extend_from_slice in
    let stands = behind g here.After-line_part-length in let within = inside g here.After-line_part-length in
    let told : (t : List ℕ) → g.S.Source.text c.args.source.now ≡ Some t → (length t ≡ c.size-size.result)
    × BeginsWith t c.args.self.now.at c.extend_from_slice.new.self.items = λ t e. (
      (c.loop-self.invariant.told t e).0,
      rw (grown g here.In_ok-extend_from_slice) (rw c.if-ends.false at
          (reads g here.After-line_part-length t e)),
    ) in
    grind (arith, front_least)

pub returns : goal.returns
returns g c = grind (arith, cut_short, given_more)
