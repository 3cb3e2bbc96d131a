-- Comparators as a source. Assumes nothing.
use Rattle.std.specs.Prelude.{ℕ, Bool, true, false, cond, List, map, length, ℤ, pos, ◌+ℤ◌, Ok, Err, Result, slice_index_or}
use Rattle.margin.specs.declared.Margin.{Margin}
use Rattle.scale.specs.declared.yes_no.YesNo.{YesNo}
use Rattle.scale.specs.declared.yes_no.YesNo.TheVariants.{No, Yes}
use Rattle.source.specs.Frames.{Frames, answer}
use Rattle.comparators.specs.Terms.{weighed}
use Rattle.comparators.specs.Comparisons.{meets}
use Rattle.source.specs.declared.fault.Fault.{Fault}
use Rattle.comparators.specs.declared.scaled.Sign.{Sign}
use Rattle.comparators.specs.declared.scaled.Sign.TheVariants.{Minus, Zero, Plus}
use Rattle.comparators.specs.declared.scaled.Scaled.{Scaled}
use Rattle.comparators.specs.declared.comparator.Comparator.{Comparator}

-- a word with sign 0 is not asked
abbrev pub asked : Sign → Bool
asked Minus = true
asked Zero = false
asked Plus = true

-- what a term makes of the answer for its word
abbrev pub of_answer : Scaled → Result Margin Fault → Result ℤ Fault
of_answer x (Ok m) = Ok (weighed x m.value)
of_answer x (Err f) = Err f

-- a term's part in the sum, where `ask` answers for the words
abbrev pub part : (ℕ → Result Margin Fault) → Scaled → Result ℤ Fault
part ask x = cond (asked x.sign) (of_answer x (ask x.word)) (Ok (pos 0))

-- whether the sum of two parts meets the limit
abbrev pub said : Comparator → ℤ → ℤ → YesNo
said c a b = cond (meets c.comparison (a +ℤ b) c.limit) Yes No

-- the first part's fault, or else the second's, or else what the comparator says of them
abbrev pub judged : Comparator → Result ℤ Fault → Result ℤ Fault → Result YesNo Fault
judged c (Err f) b = Err f
judged c (Ok a) (Err f) = Err f
judged c (Ok a) (Ok b) = Ok (said c a b)

-- what a comparator answers, where `ask` answers for the words
abbrev pub compared : (ℕ → Result Margin Fault) → Comparator → Result YesNo Fault
compared ask c = judged c (part ask c.first) (part ask c.second)

-- As long as the source below, which has layer l, and as wide as there are comparators; each answers in its place.
-- `Ok No` stands only for places past them.
abbrev pub comparing : ℕ → Frames Margin → List Comparator → Frames YesNo
comparing l below cs = record {
  long = below.long;
  wide = length cs;
  holds = λ t k. slice_index_or (map (compared (answer l below t)) cs) k (Ok No);
}
