use Rattle.std.proofs.Common.{◌≡◌, ◌+◌, ◌≤◌, ◌*◌, ◌%◌, ◌^◌, length, drop, refl, ap, subst, ◌∙◌, sym, arith}
use Rattle.deflate_bits.specs.Buffers.{bit_offset}
use Rattle.crc_32.specs.Crc.{crc_after}
use Rattle.inflate.specs.Inflating.{place_of}
use Rattle.gzip_members.specs.Bodies.{TextSoFar, text_so_far}
use Rattle.gzip_members.proofs.StepLemmas.{Slid, Grown, StopsAt, all-given, unpacked-left, goes-on, refused-left, stops-by, why-later}
use Rattle.gzip_members.proofs.body.Body.unpack.Goals as goal

pub returns-in-Ok-clause-left : goal.returns-in-Ok-clause-left
returns-in-Ok-clause-left c =
    let old = c.args.self.now in let new = c.stop_at.new.self in let w = c.slide.new.self in let v = c.unpack.new.self in
    let s : TextSoFar = record { text = w.text; given = w.given; checksum = old.checksum; size = old.size } in
    let u : TextSoFar = record { text = v.text; given = v.given; checksum = c.update-self.result; size = c.longer-self.result } in
    let slid : Slid (text_so_far old) s c.slide.ensures.kept.0 = record {
      parts = c.slide.ensures.kept.1;
      kept = c.slide.ensures.kept.2;
      given = all-given old.window.given old.window.text c.requires.given old.given;
      given_then = all-given w.given w.text c.slide.ensures.given c.slide.ensures.inside;
      checksum = refl;
      size = refl;
    } in
    let since : c.since-text.result.now ≡ drop (length w.text) v.text = c.since-text.ensures ∙ ap (λ n. drop n v.text) c.len-from.ensures in
    let grown : Grown s u = record {
      longer = c.in-Ok.ensures.grown;
      given = c.unpack.ensures.given;
      checksum = c.update-self.ensures.after ∙ ap (crc_after old.checksum) since;
      size = c.longer-self.ensures ∙ ap (λ xs. (old.size + length xs) % 2 ^ 32) since;
    } in
    let e : text_so_far new ≡ u = c.stop_at.ensures.text in
    let P : TextSoFar → Type 0 = λ x. Grown s x in
    let few : old.bits ≤ 8 * length c.args.bytes.now = omega arith in
    let inside : bit_offset c.in-Ok.stopped.moved.held ≤ 8 * length c.args.bytes.now = omega (arith, c.in-Ok.ensures.buffers) in
    let at : place_of new.inflater ≡ place_of c.unpack.new.inflater = ap place_of c.stop_at.ensures.inflater in
    let stop : StopsAt old new (bit_offset c.in-Ok.stopped.moved.held) c.stop_at.result c.in-Ok.stopped.stop =
    stops-by c.in-Ok.stopped.stop old new (place_of c.unpack.new.inflater) (bit_offset c.in-Ok.stopped.moved.held) c.stop_at.result at c.in-Ok.ensures.ended
    c.stop_at.ensures.ended c.stop_at.ensures.paused in
    unpacked-left old new s c.slide.ensures.kept.0 c.args.bytes.now c.bits_behind-held.result c.args.is_whole c.in-Ok.stopped c.stop_at.result
    c.requires.stage c.has_ended-is_place.ensures.place slid (subst P (sym e) grown) few c.bits_behind-held.ensures.offset inside stop
    (place_of c.unpack.new.inflater) v.text at (ap (λ (t : TextSoFar). t.text) e) c.in-Ok.ensures.data

pub returns-in-Err-clause-left : goal.returns-in-Err-clause-left
returns-in-Err-clause-left c =
    let old = c.args.self.now in let w = c.slide.new.self in
    let s : TextSoFar = record { text = w.text; given = w.given; checksum = old.checksum; size = old.size } in
    let slid : Slid (text_so_far old) s c.slide.ensures.kept.0 = record {
      parts = c.slide.ensures.kept.1;
      kept = c.slide.ensures.kept.2;
      given = all-given old.window.given old.window.text c.requires.given old.given;
      given_then = all-given w.given w.text c.slide.ensures.given c.slide.ensures.inside;
      checksum = refl;
      size = refl;
    } in
    let few : old.bits ≤ 8 * length c.args.bytes.now = omega arith in
    refused-left old _ s c.slide.ensures.kept.0 c.args.bytes.now c.bits_behind-held.result c.args.is_whole c.in-Err.fault (place_of c.unpack.new.inflater) c.unpack.new.self.text
    c.requires.stage refl c.has_ended-is_place.ensures.place slid few c.bits_behind-held.ensures.offset c.in-Err.ensures.data

pub returns-in-Ok-clause-moves : goal.returns-in-Ok-clause-moves
returns-in-Ok-clause-moves c =
    let w = c.slide.new.self in let v = c.unpack.new.self in
    let given : w.given ≡ length w.text = all-given w.given w.text c.slide.ensures.given c.slide.ensures.inside in
    let e : text_so_far c.stop_at.new.self ≡ record { text = v.text; given = v.given; checksum = c.update-self.result; size = c.longer-self.result } =
    c.stop_at.ensures.text in
    let g : c.stop_at.new.self.window.given ≡ w.given = ap (λ (t : TextSoFar). t.given) e ∙ c.unpack.ensures.given in
    goes-on c.in-Ok.stopped.stop c.args.self.now.stage c.stop_at.new.self.stage c.stop_at.new.self.window c.args.is_whole c.stop_at.new.self.bits
    (bit_offset c.in-Ok.stopped.moved.held) c.stop_at.result (length c.args.bytes.now) c.requires.stage c.stop_at.ensures.ended c.stop_at.ensures.paused
    (λ p. why-later 131072 290 c.args.bytes.now v.text c.stop_at.new.self.window.text c.in-Ok.stopped.moved.held c.args.is_whole
    (ap (λ (t : TextSoFar). t.text) e) (c.in-Ok.ensures.paused p))
    (omega (arith, c.slide.ensures.room))
