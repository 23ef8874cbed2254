-- An input that fails at an archive's start: no record is fetched of it, and nothing is written.
use Rattle.std.proofs.Common.{◌≡◌, ℕ, ◌-◌, ◌^◌, ◌<◌, ◌≤◌, inl, inr, Bool, true, false, List, [], length, drop, refl}
use Rattle.std.proofs.Common.{ap, arith, Option, None, Some, Err, IfSome}
use Rattle.std.specs.Prelude.{nat_lt, option_map, if◌then◌else◌}
use Rattle.std.proofs.lemmas.Bool.Decides.{nat_tests}
use Rattle.std.proofs.lemmas.List.{drop_all}
use Rattle.devices.proofs.DeviceLemmas.{Appends-none}
use Rattle.devices.specs.Device.{AppendsPrefix}
use Rattle.gzip_members.specs.Starts.{begins_member}
use Rattle.warc_core.specs.declared.next.TheConstants.{HEAD_LIMIT}
use Rattle.warc_core.specs.declared.fault.Cause.TheVariants.{Read}
use Rattle.capture_core.specs.declared.fault.CaptureFault.TheVariants.{Archive}
use Rattle.archives.specs.Failed.{bytes_in, bytes_known, packing_known}
use Rattle.archives.specs.Packing.{Packing, Packed, Plain, packing_of}
use Rattle.index_core.specs.declared.fault.IndexFault.{IndexFault}
use Rattle.index_core.specs.declared.fault.IndexFault.TheVariants.{Capture, NoRecord}
use Rattle.index_core.specs.FetchingIn.{FetchesIn, WritesOfMember}

-- the input's failure, where a record was to be read
abbrev pub unread_at : ℕ → IndexFault
unread_at offset = Capture (Archive (record { offset = offset; cause = Read }))

some_of : (left : Option (List ℕ)) {P : List ℕ → Type 0} → ((bytes : List ℕ) → P bytes) → IfSome left P
some_of None h = tt
some_of (Some bytes) h = h bytes

dropped : (left : Option (List ℕ)) (n : ℕ) {P : List ℕ → Type 0} → ((bytes : List ℕ) → P bytes)
    → IfSome (option_map (drop n) left) P
dropped None n h = tt
dropped (Some bytes) n h = h (drop n bytes)

module _ (written : Option (List ℕ)) where
  nothing : (text : List ℕ) → AppendsPrefix written written text
  nothing text = (text, record { front = []; whole = refl; grown = Appends-none written })

  none_of_member : (limit : ℕ) (bytes : List ℕ) → WritesOfMember limit bytes written written
  none_of_member limit bytes text behind e = nothing text

  pub unread-from : (packing : Packing) (offset : ℕ) (left : Option (List ℕ))
      → FetchesIn packing None offset left (Err (unread_at 0)) written written
  unread-from Plain offset left = (
    omega arith,
    some_of left (λ archive. (inr (inr refl, ([], archive, (refl, refl))), nothing _)),
  )
  unread-from Packed offset left = inr (refl, refl)

  pub unread-at : (packing : Packing) (offset len : ℕ) (left : Option (List ℕ)) → offset ≤ 2 ^ 63 - 1
      → FetchesIn packing (Some len) offset left (Err (unread_at offset)) written written
  unread-at Plain offset len left fits =
      inr (fits, (refl, dropped left offset (λ bytes. (inr (inl refl), nothing _))))
  unread-at Packed offset len left fits =
      inl (refl, dropped left offset (λ bytes. (inr (inl refl), none_of_member HEAD_LIMIT bytes)))

  none_past : (offset len : ℕ) (bytes : List ℕ) (b : Bool) → 2 ^ 63 - 1 < offset
      → nat_lt (2 ^ 63 - 1) (length bytes) ≡ b
      → FetchesIn Packed (Some len) offset (if b then None else Some bytes) (Err NoRecord) written written
  none_past offset len bytes true past e = inl tt
  none_past offset len bytes false past e =
      let short : length bytes ≤ 2 ^ 63 - 1 = grind (arith, nat_tests) in
      let fits : length bytes ≤ offset = omega arith in
      let none : drop offset bytes ≡ [] = drop_all offset bytes fits in
      inl (inl (ap begins_member none), none_of_member HEAD_LIMIT (drop offset bytes))

  past_in : (packing : Packing) (offset len : ℕ) (bytes : List ℕ) → 2 ^ 63 - 1 < offset
      → FetchesIn packing (Some len) offset (bytes_in packing bytes) (Err NoRecord) written written
  past_in Plain offset len bytes past = inl (past, refl)
  past_in Packed offset len bytes past = none_past offset len bytes (nat_lt (2 ^ 63 - 1) (length bytes)) past refl

  pub none-past : (remaining : Option (List ℕ)) (offset len : ℕ) → 2 ^ 63 - 1 < offset
      → FetchesIn (packing_known remaining) (Some len) offset (bytes_known remaining) (Err NoRecord) written written
  none-past None offset len past = inl (past, refl)
  none-past (Some bytes) offset len past = past_in (packing_of bytes) offset len bytes past
