-- What it means to put a record into an outbox and to take one, by what waits in it and how much is free. Assumes nothing.
use Rattle.std.specs.Prelude.{◌≡◌, ℕ, ◌+◌, ◌≤◌, List, [], ◌∷◌, ◌++◌, Ok, Err, Result}
use Rattle.record.specs.declared.Record.{Record}
use Rattle.outbox.specs.declared.fault.PutFault.{PutFault}
use Rattle.outbox.specs.declared.fault.TakeFault.{TakeFault}
use Rattle.outbox.specs.Refusals.{put_refusal, take_refusal}

module _ {S V : Type 0} (waiting : S → List (Record V)) (free : S → ℕ) (before after : S) where
  -- the record waits after all others, and one less is free
  pub record Put (x : Record V) : Type 0 where
    pub appended : waiting after ≡ waiting before ++ x ∷ []
    pub lowered : free after + 1 ≡ free before

  -- nothing was free, and nothing has changed
  pub record NotPut (fault : PutFault) : Type 0 where
    pub number : put_refusal fault ≡ 62
    pub full : free before ≡ 0
    pub same : after ≡ before

  -- the oldest record waits no more, and no less is free
  pub record Taken (x : Record V) : Type 0 where
    pub removed : waiting before ≡ x ∷ waiting after
    pub unlowered : free before ≤ free after

  -- nothing waited, and nothing has changed
  pub record NotTaken (fault : TakeFault) : Type 0 where
    pub number : take_refusal fault ≡ 61
    pub empty : waiting before ≡ []
    pub same : after ≡ before

  -- each by its answer
  abbrev pub Puts : Record V → Result (Unit {0}) PutFault → Type 0
  Puts x (Ok u) = Put x
  Puts x (Err fault) = NotPut fault

  abbrev pub Takes : Result (Record V) TakeFault → Type 0
  Takes (Ok x) = Taken x
  Takes (Err fault) = NotTaken fault
