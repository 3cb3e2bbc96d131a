-- What a source is, and what it answers. Assumes nothing.
use Rattle.std.specs.Prelude.{ℕ, cond, List, [], ◌∷◌, Some, None, Ok, Err, Option, Result, nat_le}
use Rattle.source.specs.Faults.{refused_with}
use Rattle.source.specs.declared.fault.Fault.{Fault}
use Rattle.source.specs.declared.fault.Refusal.TheVariants.{PastLength, PastWidth}

-- A length in ticks, a width in samples, and for each tick and sample below these a value or a fault. What `holds` says
-- of other ticks and samples is never answered.
pub record Frames (V : Type 0) : Type 0 where
  pub long : ℕ
  pub wide : ℕ
  pub holds : ℕ → ℕ → Result V Fault

-- why a question has no answer: the tick is past the length, or else the sample past the width
abbrev pub outside : ℕ → ℕ → ℕ → ℕ → ℕ → Option Fault
outside l long wide t k =
    cond (nat_le long t) (Some (refused_with PastLength l t k)) (cond (nat_le wide k) (Some (refused_with PastWidth l t k)) None)

-- a fault, or else what comes next
abbrev pub unless : {V : Type 0} → Option Fault → Result V Fault → Result V Fault
unless (Some f) r = Err f
unless None r = r

-- what the source of layer `l` answers to the question for sample `k` at tick `t`
abbrev pub answer : {V : Type 0} → ℕ → Frames V → ℕ → ℕ → Result V Fault
answer l f t k = unless (outside l f.long f.wide t k) (f.holds t k)

-- the fault of an answer, or else what comes next
abbrev pub fault_or : {V : Type 0} → Result V Fault → Option Fault → Option Fault
fault_or (Err f) o = Some f
fault_or (Ok v) o = o

-- the first fault among the answers to these questions
abbrev pub first_fault : {Q V : Type 0} → (Q → Result V Fault) → List Q → Option Fault
first_fault ask [] = None
first_fault ask (q ∷ qs) = fault_or (ask q) (first_fault ask qs)
