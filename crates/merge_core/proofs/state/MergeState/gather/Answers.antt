use Rattle.merge_core.proofs.Words.{[], ◌+◌, ◌∙◌, ◌∷◌, ◌≡◌, AllByRecursion, HaltedGroup, IsAbove, IsPermutation-sym}
use Rattle.merge_core.proofs.Words.{Member, MergeState, Option, Pair, Upto, WaitingLine, ap, arith, boxed_lines}
use Rattle.merge_core.proofs.Words.{each_weaker, inputs, map-append, member_pair, pair_cmp_total, refl, sym}
use Rattle.merge_core.proofs.Words.{tied_itself, waiting_pair}
use Rattle.merge_core.proofs.{PairOrder.upto_itself, SourceLemmas.each_done, StateLemmas.long_of}
use Rattle.merge_core.proofs.MergeLemmas.{Gathers, TakenNext, gathers_on, gathers_start, on_fault, taken_next}
use Rattle.merge_core.proofs.GroupLemmas.{each_permuted, from_waited, not_before}
use Rattle.merge_core.proofs.state.MergeState.gather.Goals.{After-push, After-read_on, In_ok-read_on}
use Rattle.merge_core.proofs.state.MergeState.gather.Goals as goal

-- what a source's further lines make of the group
drained : (g : _) (c : In_ok-read_on g) → Gathers (g.R.Range.past c.args.range.now) g.S.Source
    c.args.sources.now c.args.self.now (member_pair c.with_start-keyed.result) (c.sources.i + 1)
    c.read_on.new.sources c.read_on.new.self (c.with_start-keyed.result ∷ boxed_lines c.read_on.new.rest.items)
drained g c =
    let inv = c.sources.invariant in let read = c.in_ok-read_on.ensures.read in
    let pair = member_pair c.with_start-keyed.result in
    gathers_on inv.gathers {m' = c.read_on.new.self} (c.with_start-keyed.result ∷ []) refl read.took (omega arith) inv.inside
    read.aligned c.read_on.ensures.moved
    (from_waited pair (c.sources.i + 1) c.sources.i read.took.input.waits _ _ read.later read.queue_is inv.gathers.from)

-- the line that is taken next
abbrev taken_line : (g : _) → After-push g → WaitingLine
taken_line g c = record { member = c.next-in-sources.inside.line.value; source = c.next-in-sources.inside.source }

abbrev popped_merge : (g : _) → After-push g → MergeState
popped_merge g c = record c.read_on.new.self { queue = c.pop_at.new.self }

-- what it makes of the group
taken : (g : _) (c : After-push g)
    (h : Gathers (g.R.Range.past c.args.range.now) g.S.Source
    c.args.sources.now c.args.self.now (member_pair c.with_start-keyed.result) (c.sources.i + 1)
    c.read_on.new.sources c.read_on.new.self (c.with_start-keyed.result ∷ boxed_lines c.read_on.new.rest.items))
    → TakenNext h (taken_line g c) (popped_merge g c)
taken g c h =
    let took = c.in-Some-pop_at.ensures in let is = sym c.next-in-sources.view_is in
    taken_next h (taken_line g c) (popped_merge g c) refl (rw is at took.out) (rw is at took.first) (grind arith)

pub sources-init : goal.sources-init
sources-init g c =
    let old = c.args.self.now in let now : MergeState = record c.args.self.now { queue = c.pop.new.self } in
    let left = c.pop.new.self in
    let from : Member → WaitingLine = λ m. record { member = m; source = c.next.inside.source } in
    let w = from c.with_start-keyed.result in
    let is = sym c.next.view_is ∙ ap from (sym (c.with_start-keyed.ensures ∙ c.deref.ensures)) in
    let pair = waiting_pair w in let out = rw is at c.in-Some.ensures.out in
    let later = rw is at c.in-Some.ensures.first in
    let least = each_permuted (λ (v : WaitingLine). Upto pair (waiting_pair v)) (w ∷ left) old.queue
    (IsPermutation-sym old.queue (w ∷ left) out) (upto_itself pair, each_weaker (λ v. not_before v w) left later) in
    let t = taken_next (gathers_start (g.R.Range.past c.args.range.now) g.S.Source c.args.sources.now old pair c.requires.ready.aligned least) w now refl out later
    (tied_itself pair_cmp_total pair) in
    let above = λ (b : Option Pair) (h : AllByRecursion (λ (v : WaitingLine). IsAbove b (waiting_pair v)) old.queue).
    (each_permuted (λ (v : WaitingLine). IsAbove b (waiting_pair v)) old.queue (w ∷ left) out h).0 in
    grind arith

pub pop_at-requires : goal.pop_at-requires
pop_at-requires g c = grind (arith, drained, each_weaker)

pub sources-smaller : goal.sources-smaller
sources-smaller g c =
    let here = goal.at.sources-smaller g c in let t = taken g here.After-push (drained g here.In_ok-read_on) in
    let read = c.in_ok-read_on.ensures.read in
    omega (arith, read.fewer)

pub sources-preserved : goal.sources-preserved
sources-preserved g c =
    let here = goal.at.sources-preserved g c in let t = taken g here.After-push (drained g here.In_ok-read_on) in
    grind (arith, map-append)

pub returns-in_default-pop_at : goal.returns-in_default-pop_at
returns-in_default-pop_at g c = grind (arith, drained)

-- the lines of the pair were being taken
halted : (g : _) (c : After-read_on g) (m : MergeState) → m.cursors.items ≡ c.read_on.new.self.cursors.items
    → HaltedGroup (g.R.Range.past c.args.range.now) g.S.Source.text c.args.sources.now c.args.self.now
    c.read_on.new.sources m
halted g c m same = record {
  pair = member_pair c.with_start-keyed.result;
  above = c.sources.invariant.above;
  least = c.sources.invariant.least;
  read = λ texts known low.
      let h = c.sources.invariant.gathers in
      rw same (c.read_on.ensures.most (each_done _ g.S.Source.text (λ m. Upto (member_pair m)
      (member_pair c.with_start-keyed.result)) c.sources.sources (inputs c.sources.self) texts (long_of h.aligned)
      (rw h.kept known) (h.gathered texts known low).0.upto));
}

pub returns-in_err-read_on-clause-gathered : goal.returns-in_err-read_on-clause-gathered
returns-in_err-read_on-clause-gathered g c =
    on_fault _ _ _ _ c.from_residual.ensures.1
    (halted g (goal.at.returns-in_err-read_on-clause-gathered g c).After-read_on _ refl)

pub returns-in_err-push-clause-gathered : goal.returns-in_err-push-clause-gathered
returns-in_err-push-clause-gathered g c =
    on_fault _ _ _ _ c.from_residual-in_err-push.ensures.1
    (halted g (goal.at.returns-in_err-push-clause-gathered g c).After-read_on _ refl)
