-- The codes of a scale's values. Assumes nothing.
use Rattle.std.specs.Prelude.{◌≡◌, ℕ, ◌<◌, Some, None, Option, ◌≢◌}

-- each value has a code from 0 to 65,535, and no two have the same
pub record Codes {V : Type 0} (coded : V → ℕ) : Type 0 where
  pub narrow : (x : V) → coded x < 65536
  pub injective : (x y : V) → coded x ≡ coded y → x ≡ y

-- a code decodes to the value that has it, and to none if no value has it
abbrev pub Decodes : {V : Type 0} → (V → ℕ) → ℕ → Option V → Type 0
Decodes coded code None = (x : _) → coded x ≢ code
Decodes coded code (Some x) = coded x ≡ code
