use Rattle.cdxj_objects.proofs.BegunLaw.{first_inside, first_stand, first_walked}
use Rattle.cdxj_objects.proofs.WalkLaw.{walk_ends}
use Rattle.cdxj_objects.proofs.walk.members_at.Goals as goal

pub members-init : goal.members-init
members-init c =
    let t = c.args.text.now in
    let is = c.in_ok-first.ensures in
    record {
      inside = first_inside t c.args.object c.requires.printable c.in_ok-first.first is;
      walked = first_walked t c.args.object c.requires.printable c.in_ok-first.first is;
      stand = first_stand t c.args.object c.requires.printable c.in_ok-first.first is;
    }

pub returns-then-at-text : goal.returns-then-at-text
returns-then-at-text c =
    walk_ends c.args.text.now c.args.object c.members.at c.members.members (c.byte_is.ensures.within c.if-not-byte_is.false)
    (c.byte_is.ensures.is c.if-not-byte_is.false) c.members.invariant.walked c.members.invariant.stand
    (c.byte_is-2.ensures.within c.if-byte_is.true) (c.byte_is-2.ensures.is c.if-byte_is.true) c.if-at-text.true
