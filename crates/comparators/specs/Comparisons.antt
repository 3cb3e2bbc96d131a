-- How a sum is held against a limit. Assumes nothing.
use Rattle.std.specs.Prelude.{ℕ, Bool, not, ◌&&◌, ℤ, int_le, int_lt, nat_le}
use Rattle.comparators.specs.declared.comparison.Comparison.{Comparison}
use Rattle.comparators.specs.declared.comparison.Comparison.TheVariants.{Equal, Unequal, Below, AtMost, Above, AtLeast}

-- the number of each comparison
abbrev pub comparison_number : Comparison → ℕ
comparison_number Equal = 1
comparison_number Unequal = 2
comparison_number Below = 3
comparison_number AtMost = 4
comparison_number Above = 5
comparison_number AtLeast = 6

-- whether a comparison has this number
abbrev pub known : ℕ → Bool
known n = nat_le 1 n && nat_le n 6

-- whether two numbers are equal: each is at most the other
abbrev pub same : ℤ → ℤ → Bool
same a b = int_le a b && int_le b a

-- whether a sum meets the limit
abbrev pub meets : Comparison → ℤ → ℤ → Bool
meets Equal sum limit = same sum limit
meets Unequal sum limit = not (same sum limit)
meets Below sum limit = int_lt sum limit
meets AtMost sum limit = int_le sum limit
meets Above sum limit = int_lt limit sum
meets AtLeast sum limit = int_le limit sum
