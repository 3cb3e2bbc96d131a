-- The refusals of a question that lies outside a source. Assumes nothing.
use Rattle.std.specs.Prelude.{ℕ}
use Rattle.source.specs.declared.fault.Fault.{Fault}
use Rattle.source.specs.declared.fault.Refusal.{Refusal}
use Rattle.source.specs.declared.fault.Refusal.TheVariants.{PastLength, PastWidth}

-- the number of each refusal
abbrev pub refusal_number : Refusal → ℕ
refusal_number PastLength = 33
refusal_number PastWidth = 34

-- the fault by which a layer refuses a question, with the tick and the sample that were asked
abbrev pub refused_with : Refusal → ℕ → ℕ → ℕ → Fault
refused_with refusal l t k = record { number = refusal_number refusal; layer = l; tick = t; sample = k }
