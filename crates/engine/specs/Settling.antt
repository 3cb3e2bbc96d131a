-- What one tick does to one node's queue. Assumes nothing.
use Rattle.std.specs.Prelude.{◌≡◌, ℕ, suc, ◌+◌, ◌-◌, ◌<◌, ◌≤◌, true, false, List, [], ◌∷◌, ◌++◌, map, length, take, drop, ◌≢◌}
use Rattle.std.specs.List.{range_with_len}
use Rattle.queue.specs.Contents.{newest}
use Rattle.queue.specs.Regions.{Stands}
use Rattle.scale.specs.Order.{Scale}
use Rattle.table.specs.declared.node.Node.{Node}
use Rattle.table.specs.Kinds.{at_once}
use Rattle.engine.specs.declared.keep.Keep.{Keep}
use Rattle.engine.specs.Kept.{values_in}
use Rattle.engine.specs.Working.{worked}

-- the queue q has gained these values, one for each position, and is now q'; around its region the memory is as it was
pub record Gained {V : Type 0} (memory now : List V) (q q' : Keep) (more : List V) : Type 0 where
  pub begins : q'.from ≡ q.from
  pub ends : q'.to ≡ q.to
  pub count : q'.count ≡ q.count + length more
  pub stands : Stands (length memory) q.from q.to q'.at
  pub holds : values_in now q' ≡ newest (q.to - q.from) (values_in memory q ++ more)
  pub before : take q.from now ≡ take q.from memory
  pub behind : drop q.to now ≡ drop q.to memory

abbrev pub KeptOne : {V : Type 0} → (memory now : List V) → Keep → V → Keep → Type 0
KeptOne memory now q v q' = Gained memory now q q' (v ∷ [])

-- One node, from its operands' queues l and r: a sample or a node that looks back gains one position; any other gains
-- positions while both workings-out agree, up to the one of tick n.
pub record Settles {V : Type 0} (s : Scale V) (sample : V) (memory now : List V) (x : Node) (q q' l r : Keep) (n : ℕ) : Type 0 where
  pub gained : Gained memory now q q' (map (worked s sample memory x l r s.lowest) (range_with_len q.count (q'.count - q.count)))
  pub one : at_once x.kind ≡ true → q'.count ≡ suc q.count
  pub top : at_once x.kind ≡ false → q'.count ≤ suc n
  pub pass : at_once x.kind ≡ false → (p : ℕ) → q.count ≤ p → p < q'.count → worked s sample memory x l r s.lowest p ≡ worked s sample memory x l r s.highest p
  pub stop : at_once x.kind ≡ false → q'.count < suc n → worked s sample memory x l r s.lowest q'.count ≢ worked s sample memory x l r s.highest q'.count
