-- A report on an archive, one record further, at the end, and at a fault.
use Rattle.index_core.proofs.Words.{arith, ◌≡◌, ℕ, List, [], ◌∷◌, ◌++◌, inl, Option, None}
use Rattle.index_core.proofs.Words.{Some, Ok, Err, IfSome, ap, refl, subst, append-nil}
use Rattle.index_core.proofs.Words.{append_assoc, Appends, Fault, AppendsPrefix}
use Rattle.index_core.proofs.Words.{Appends-none, Appends-join, Archive, IndexFault}
use Rattle.std.proofs.lemmas.List.{map-append}
use Rattle.std.proofs.lemmas.List.Concat.{flat_map-append}
use Rattle.std.specs.List.{flat_map}
use Rattle.devices.proofs.DeviceLemmas.{AppendsPrefix-behind}
use Rattle.archives.specs.Form.{Form, Placed, Comes, ComesRecord, Follow, IsLawful, IsPossibleFault}
use Rattle.archives.specs.Form.{StandsFrom, end_of}
use Rattle.archives.proofs.RecordWalks.{walks_more}
use Rattle.index_core.specs.Report.{ReadTo, Reports, SaysOf, Wording, WritesFault, fault_line}
use Rattle.warc_core.specs.declared.fault.Cause.TheVariants as causes
use Rattle.index_core.specs.declared.fault.IndexFault.TheVariants as faults

pub follow_push : {X : Type 0} (form : Form) (law : IsLawful form) (placed : X → Placed) (from : ℕ) (items : List X) (o : ℕ)
    (x : X) → Follow form placed from items o → StandsFrom form o (placed x)
    → Follow form placed from (items ++ x ∷ []) (end_of (placed x).place)
follow_push form law placed from [] o x h b = (
  record {
    follows = law.further from o (placed x).place.offset h b.follows;
    stands = b.stands;
    filled = b.filled;
    fits = b.fits;
  },
  law.here (end_of (placed x).place),
)
follow_push form law placed from (y ∷ items) o x h b =
    (h.0, follow_push form law placed (end_of (placed y).place) items o x h.1 b)

one_line : {X : Type 0} (line : X → List ℕ) (items : List X) (x : X) → flat_map line (items ++ x ∷ [])
    ≡ flat_map line items ++ line x
one_line line items x = grind (arith, flat_map-append, append-nil)

module _ {A X : Type 0} (form : Form) (words : Wording A X) (left : Option (List ℕ)) where
  -- The lines of the records up to the offset were written, and these bytes of the archive are left.
  pub record Reporting (now : Option (List ℕ)) (offset : ℕ) (answer : A) (before after : Option (List ℕ)) : Type 0 where
    pub items : List X
    pub read : ReadTo form words left items offset (λ rest. now ≡ Some rest)
    pub tally_is : answer ≡ words.tally items
    pub text : Appends before after (flat_map words.line items)

  -- what holds of the bytes that are left
  behind : (now : Option (List ℕ)) (items : List X) (o : ℕ) (P : List ℕ → Type 0)
      → ReadTo form words left items o (λ rest. now ≡ Some rest) → ((rest : List ℕ) → now ≡ Some rest → P rest)
      → ReadTo form words left items o P
  behind now items o P r f = grind (arith, f)

  -- the next record of the archive is one of which this is said
  abbrev pub Says : ℕ → X → Option (List ℕ) → Option (List ℕ) → Type 0
  Says o item now after = ComesRecord form o (words.placed item) (λ r. item ≡ words.said r) now after

  -- the known archive, up to these bytes
  abbrev Known : Option (List ℕ) → List X → ℕ → Type 0
  Known now items o = IfSome left (λ archive. (rest : List ℕ) × SaysOf form words archive items o rest
      × (now ≡ Some rest))

known_more : {A X : Type 0} (form : Form) (words : Wording A X) (left now after : Option (List ℕ)) (items : List X)
    (o : ℕ) (item : X) → Known form words left now items o → Says form words left o item now after
    → Known form words left after (items ++ item ∷ []) (end_of (words.placed item).place)
known_more form words None now after items o item k c = tt
known_more form words (Some archive) None after items o item k c = absurd (grind arith)
known_more form words (Some archive) (Some bytes) None items o item k c = absurd (grind arith)
known_more form words (Some archive) (Some bytes) (Some z) items o item (rest, (records, walks, said), there) (r, same, comes, is) =
    let e : form.next o rest ≡ Ok (Some r, z) = grind arith in
    let at : end_of r.place ≡ end_of (words.placed item).place = ap (λ p. end_of p.place) same in (
      z,
      (
        records ++ r ∷ [],
        rw (← at) (walks_more form 0 archive records o rest r z walks e),
        grind (arith, map-append),
      ),
      refl,
    )

module _ {A X : Type 0} {form : Form} {words : Wording A X} {left now : Option (List ℕ)} {o : ℕ} {x : A}
    {w v : Option (List ℕ)} (law : IsLawful form) (s : Reporting form words left now o x w v) where
  -- one record more was read
  module _ (item : X) (after : Option (List ℕ)) (says : Says form words left o item now after)
      (stands : StandsFrom form o (words.placed item)) where
    abbrev end : ℕ
    end = end_of (words.placed item).place

    read_more : ReadTo form words left (s.items ++ item ∷ []) end (λ rest. after ≡ Some rest)
    read_more = record {
      follow = follow_push form law words.placed 0 s.items o item s.read.follow stands;
      known = known_more form words left now after s.items o item s.read.known says;
    }

    pub reporting_more : {y : A} {u : Option (List ℕ)} → y ≡ words.tally (s.items ++ item ∷ [])
        → Appends v u (words.line item) → Reporting form words left after end y w u
    reporting_more counts a = record {
      items = s.items ++ item ∷ [];
      read = read_more;
      tally_is = counts;
      text = rw (one_line words.line s.items item) (grind (arith, s.text, Appends-join));
    }

    -- the output failed in its line
    pub reporting_stopped : (u : Option (List ℕ)) → AppendsPrefix v u (words.line item)
        → Reports form words left (Err faults.Write) w u
    reporting_stopped u a =
        let f : Fault = record { offset = end; cause = causes.Memory } in (
          s.items ++ item ∷ [],
          f,
          (
            end,
            law.here end,
            behind form words left after _ end (λ rest. IsPossibleFault form end rest f) read_more
                (λ rest is. (law.here end, inl refl)),
          ),
          subst (AppendsPrefix w u) (grind (arith, one_line, append_assoc))
              (AppendsPrefix-behind w v u (flat_map words.line s.items) (words.line item) (fault_line f) s.text a),
        )

  -- the archive ended
  pub reporting_end : (after : Option (List ℕ)) → Comes form o (Ok None) now after → Reports form words left (Ok x) w v
  reporting_end after r = (
    s.items,
    o,
    behind form words left now s.items o (λ rest. form.next o rest ≡ Ok (None, [])) s.read (λ rest is. grind (arith, law.ended)),
    s.tally_is,
    s.text,
  )

  -- what the writing of a fault's line leaves
  pub reporting_fault : (fault : Fault) (given : IndexFault) (after u : Option (List ℕ)) (k k' : ℕ)
      → Comes form o (Err fault) now after → form.Follows o fault.offset → WritesFault fault given v u k k'
      → Reports form words left (Err given) w u
  reporting_fault fault (faults.Capture (Archive f)) after u k k' r e h = rw h.0 (
    s.items,
    (o, e, behind form words left now s.items o (λ rest. IsPossibleFault form o rest fault) s.read (λ rest is. grind arith)),
    grind (arith, s.text, Appends-join, h.1),
  )
  reporting_fault fault faults.Write after u k k' r e h = (
    s.items,
    fault,
    (o, e, behind form words left now s.items o (λ rest. IsPossibleFault form o rest fault) s.read (λ rest is. grind arith)),
    rw (← append-nil (fault_line fault))
        (AppendsPrefix-behind w v u (flat_map words.line s.items) (fault_line fault) [] s.text h.0),
  )
  reporting_fault fault given after u k k' r e h = grind arith

-- nothing was read yet
pub reporting_start : {A X : Type 0} (form : Form) → IsLawful form → (words : Wording A X) (left w : Option (List ℕ))
    (o : ℕ) (x : A) → o ≡ 0 → x ≡ words.tally [] → Reporting form words left left o x w w
reporting_start form law words left w o x at t = rw at (record {
  items = [];
  read = record { follow = law.here 0; known = nothing left };
  tally_is = t;
  text = Appends-none w;
})
  where
    nothing : (left : Option (List ℕ)) → Known form words left left [] 0
    nothing None = tt
    nothing (Some archive) = (archive, ([], (refl, refl), refl), refl)
