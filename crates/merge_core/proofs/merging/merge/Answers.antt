use Rattle.merge_core.proofs.Words.{ℕ, ◌++◌, ◌+◌, ◌-◌, ◌^◌, ◌∷◌, ◌≡◌, Grouped, HoldsFew, List, Member, Reached, Some}
use Rattle.merge_core.proofs.Words.{arith, boxed_lines, each_rising, grows_not, inl, inr, length, length-map, max}
use Rattle.merge_core.proofs.Words.{member_pair, member_place, min, place_cmp, place_cmp_total, refl, rising}
use Rattle.merge_core.proofs.{CountLemmas.held_most, CountLemmas.reached_read_to, Many.moved_trans}
use Rattle.merge_core.proofs.MergeLemmas.{below_next, broken_there, halted_there, on_fault, reached_next, reached_same}
use Rattle.merge_core.proofs.merging.merge.Goals.{After-pass_group}
use Rattle.merge_core.proofs.merging.merge.Goals as goal

abbrev group : (g : _) → After-pass_group g → List Member
group g c = c.in-Some.first.value ∷ boxed_lines c.gather.new.rest.items

-- the lines before this group, and those with it
abbrev taken : (g : _) → After-pass_group g → List Member
taken g c = c.loop-rest.invariant.came.taken ++ rising member_place place_cmp (group g c)

grouped : (g : _) (c : After-pass_group g) → Grouped (g.R.Range.past c.args.range.now) g.S.Source
    c.loop-rest.sources c.loop-rest.merge c.gather.new.sources c.gather.new.self (member_pair c.in-Some.first.value)
    (group g c)
grouped g c = grind arith

reached : (g : _) (c : After-pass_group g) → Reached (g.R.Range.past c.args.range.now) g.S.Source
    c.args.sources.now c.args.merge.now c.gather.new.sources c.gather.new.self (Some (member_pair c.in-Some.first.value)) (taken g c)
reached g c =
    let ok = c.in_ok-first.ensures in
    reached_next c.loop-rest.invariant.came.reached (grouped g c) ok.ready c.gather.ensures.moved (grind arith)

-- the waiting lines and the group are one line of each source, and as many as share a pair
most_lines : (g : _) (c : After-pass_group g) (now : ℕ)
    → now ≡ max c.gather.new.self.most_lines (min (length c.gather.new.self.queue + 1 + length c.gather.new.rest.items)
    (2 ^ 64 - 1))
    → HoldsFew g.S.Source c.args.sources.now c.args.merge.now.most_lines now
most_lines g c now is texts indexes known are most share h =
    let before = c.loop-rest.invariant.most_lines texts indexes known are most share h in
    let few = held_most c.loop-rest.invariant.came.reached (grouped g c) (reached g c) texts indexes known are most
    share in
    grind (arith, length-map)

order : (g : _) (c : After-pass_group g)
    → rising member_place place_cmp (c.deref.result.now ∷ boxed_lines c.deref-in-Some.result.now)
    ≡ rising member_place place_cmp (group g c)
order g c = cc

pub returns-in_err-first-clause-moved : goal.returns-in_err-first-clause-moved
returns-in_err-first-clause-moved g c = grind (arith, moved_trans)

pub returns-in_err-more-clause-moved : goal.returns-in_err-more-clause-moved
returns-in_err-more-clause-moved g c = grind (arith, moved_trans)

pub returns-then-not-more-clause-moved : goal.returns-then-not-more-clause-moved
returns-then-not-more-clause-moved g c = grind (arith, moved_trans)

pub loop-rest-preserved : goal.loop-rest-preserved
loop-rest-preserved g c =
    let here = (goal.at.loop-rest-preserved g c).After-pass_group in
    let few = most_lines g here c.recycle.new.self.most_lines c.recycle.ensures.most_lines in
    grind (arith, reached, reached_same)

pub returns-clause-most_lines : goal.returns-clause-most_lines
returns-clause-most_lines g c = simp c.gather.ensures.most_lines c.loop-rest.invariant.most_lines

pub returns-in_err-first-clause-most_lines : goal.returns-in_err-first-clause-most_lines
returns-in_err-first-clause-most_lines g c = rw c.gather.ensures.most_lines c.loop-rest.invariant.most_lines

pub returns-in_err-first-clause-ended : goal.returns-in_err-first-clause-ended
returns-in_err-first-clause-ended g c =
    let came = c.loop-rest.invariant.came in
    on_fault _ _ _ _ c.from_residual.ensures.1 (
      broken_there came _ refl,
      halted_there came _ c.loop-rest.invariant.further c.in_err-first.ensures.gathered (grows_not _),
    )

pub returns-in_err-more-clause-most_lines : goal.returns-in_err-more-clause-most_lines
returns-in_err-more-clause-most_lines g c = rw c.gather.ensures.most_lines c.loop-rest.invariant.most_lines

pub returns-in_err-more-clause-ended : goal.returns-in_err-more-clause-ended
returns-in_err-more-clause-ended g c =
    let here = (goal.at.returns-in_err-more-clause-ended g c).After-pass_group in
    let came = c.loop-rest.invariant.came in let gathered = grouped g here in
    on_fault _ _ _ _ c.from_residual-in_err-more.ensures.1 (
      elim c.in_err-more.ensures.passed [
        | inl k ↦ broken_there came _ (grind arith)
        | inr k ↦ record {
          sources = c.gather.new.sources;
          merge = c.gather.new.self;
          bound = Some (member_pair c.in-Some.first.value);
          taken = taken g here;
          reached = reached g here;
          wrote = grind (arith, order g here);
        }
      ],
      halted_there came _ c.loop-rest.invariant.further (record {
        pair = member_pair c.in-Some.first.value;
        above = gathered.above;
        least = gathered.least;
        read = λ texts known low. reached_read_to (reached g here) texts (rw came.reached.kept.0 at known);
      }) c.pass_group.ensures.grows,
    )

pub returns-then-not-more-clause-most_lines : goal.returns-then-not-more-clause-most_lines
returns-then-not-more-clause-most_lines g c =
    most_lines g (goal.at.returns-then-not-more-clause-most_lines g c).After-pass_group c.recycle.new.self.most_lines
    c.recycle.ensures.most_lines

pub returns-then-not-more-clause-ended : goal.returns-then-not-more-clause-ended
returns-then-not-more-clause-ended g c =
    let here = (goal.at.returns-then-not-more-clause-ended g c).After-pass_group in
    let came = c.loop-rest.invariant.came in let gathered = grouped g here in
    let now = reached_same c.recycle.new.self c.recycle.ensures.kept (reached g here) in
    let above = gathered.above came.bound came.reached.above in
    record {
      so_far = grind (arith, order);
      last = λ e. record {
        pair = member_pair c.in-Some.first.value;
        earlier = came.taken;
        group = rising member_place place_cmp (group g here);
        state = c.loop-rest.sink;
        middle = g.O.Output.written c.loop-rest.out;
        bound_is = refl;
        split = refl;
        below = grind (arith, below_next);
        alike = each_rising member_place place_cmp place_cmp_total _ (group g here) gathered.each;
        more = c.loop-rest.invariant.further;
        came = came.came;
      };
      ended = grind arith;
      enough = grind arith;
      further = grind arith;
    }
