-- A record in 16 bytes, and read back. Assumes nothing.
use Rattle.std.specs.Prelude.{ℕ, ◌+◌, ◌*◌, ◌/◌, ◌%◌, List, [], ◌∷◌, ◌++◌, Option, slice_index}
use Rattle.std.specs.Option.{unwrap_or}
use Rattle.record.specs.declared.Record.{Record}
use Rattle.scale.specs.Order.{Scale}

-- a number in 2 or in 4 bytes, its big end first
abbrev pub half : ℕ → List ℕ
half n = n / 256 ∷ n % 256 ∷ []

abbrev pub word : ℕ → List ℕ
word n = n / 16777216 ∷ n / 65536 % 256 ∷ n / 256 % 256 ∷ n % 256 ∷ []

-- a record is stored as its rule, a zero byte, the code of its value, first, last and lag
unfoldable pub stored : {V : Type 0} → (V → ℕ) → Record V → List ℕ
stored coded r = r.rule ∷ 0 ∷ (half (coded r.value) ++ (word r.first ++ (word r.last ++ word r.lag)))

-- the number in 2 or in 4 bytes from place i on
abbrev pub half_at : List ℕ → ℕ → ℕ
half_at bytes i = slice_index bytes i * 256 + slice_index bytes (i + 1)

abbrev pub word_at : List ℕ → ℕ → ℕ
word_at bytes i = slice_index bytes i * 16777216 + slice_index bytes (i + 1) * 65536 + slice_index bytes (i + 2) * 256 + slice_index bytes (i + 3)

-- the record that 16 bytes hold, its value read from its code
abbrev pub restored : {V : Type 0} → (ℕ → V) → List ℕ → Record V
restored value bytes =
    record { rule = slice_index bytes 0; first = word_at bytes 4; last = word_at bytes 8; value = value (half_at bytes 2); lag = word_at bytes 12 }

-- the value of a code; a code of no value, which no record is stored with, is read as the lowest value
abbrev pub value_of : {V : Type 0} → Scale V → (ℕ → Option V) → ℕ → V
value_of scale decoded code = unwrap_or (decoded code) scale.lowest
