-- What contracts see of a `Fuse`.
use Rattle.std.specs.Prelude.{◌≡◌, ℕ, ◌+◌, ◌-◌, ◌^◌, ◌<◌, ◌≤◌, min, max, Result, IfOk, IsErr}
use Rattle.devices.specs.Device.{CountsFailure}
use Rattle.devices.specs.declared.fuse.Fuse.{Fuse}

-- a fuse that has had no call
pub record IsNewFuse {D : Type 0} (device : D) (piece at : ℕ) (f : Fuse D) : Type 0 where
  pub device_is : f.device ≡ device
  pub piece_is : f.piece ≡ piece
  pub at_is : f.at ≡ at
  pub calls : f.calls ≡ 0
  pub failures : f.failures ≡ 0

-- the call of this number is the one that fails
abbrev pub IsBlown : ℕ → ℕ → Type 0
IsBlown call at = (call ≡ at) × (at < 2 ^ 64 - 1)

-- a call of a fuse was counted; it failed without touching the device within, or moved what that device moved
pub record IsFusedCall {D E : Type 0} (failures : D → ℕ) (old new : Fuse D) (r : Result ℕ E) : Type 0 where
  pub counted : new.calls ≡ min (old.calls + 1) (2 ^ 64 - 1)
  pub piece_is : new.piece ≡ old.piece
  pub at_is : new.at ≡ old.at
  pub blown : IsBlown new.calls old.at → IsErr r × (new.device ≡ old.device)
  pub passed : (IsBlown new.calls old.at → ⊥) → CountsFailure r (failures old.device) (failures new.device)
  pub most : IfOk r (λ n. n ≤ max old.piece 1)
