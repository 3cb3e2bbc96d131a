-- A list of values, row after row, as a source. Assumes nothing.
use Rattle.std.specs.Prelude.{◌≡◌, ℕ, ◌+◌, ◌*◌, ◌/◌, ◌<◌, ◌≤◌, cond, List, length, Ok, ◌==◌, slice_index_or}
use Rattle.source.specs.Frames.{Frames}

-- how many whole rows there are in so many values; none of width 0
abbrev pub whole_rows : ℕ → ℕ → ℕ
whole_rows n width = cond (width == 0) 0 (n / width)

-- so many rows of this width are whole in n values, and one more would not be; none of width 0
pub record Whole (n width count : ℕ) : Type 0 where
  pub fit : count * width ≤ n
  pub most : 0 < width → n < count * width + width
  pub empty : width ≡ 0 → count ≡ 0

-- the count of whole rows is that
abbrev pub WholeLengths : Type 0
WholeLengths = (n width : ℕ) → Whole n width (whole_rows n width)

-- Each tick is a row, and each place in it holds a value. `blank` stands only for places past the list.
abbrev pub rows : {V : Type 0} → V → List V → ℕ → Frames V
rows blank values width = record {
  long = whole_rows (length values) width;
  wide = width;
  holds = λ t k. Ok (slice_index_or values (t * width + k) blank);
}
