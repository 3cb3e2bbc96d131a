-- The queues of a table's nodes stand in front of a longer list. Assumes nothing.
use Rattle.std.proofs.Common.{◌≡◌, ℕ, ◌<◌, List, ◌++◌, length, take, drop, arith}
use Rattle.std.proofs.lemmas.List.{get_or-take, get_or_append_left}
use Rattle.engine.specs.declared.keep.Keep.{Keep}
use Rattle.engine.specs.State.{nowhere, keep_of}

module _ (size : ℕ) (qs : List Keep) where
  -- a queue of the front is that of the list
  pub in_front : (k : ℕ) → k < size → keep_of (take size qs) k ≡ keep_of qs k
  in_front k h = get_or-take size qs k nowhere h

  -- and where the front was exchanged for another, it is the other's
  module _ (part : List Keep) (long : length part ≡ size) where
    pub exchanged_front : (k : ℕ) → k < size → keep_of (part ++ drop size qs) k ≡ keep_of part k
    exchanged_front k h = get_or_append_left part (drop size qs) nowhere k (omega arith)
