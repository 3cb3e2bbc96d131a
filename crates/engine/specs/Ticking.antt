-- What one tick does to the queues of all nodes, and to the ends behind them. Assumes nothing.
use Rattle.std.specs.Prelude.{◌≡◌, ℕ, suc, ◌+◌, ◌<◌, ◌≤◌, true, false, cond, List, length, Ok, Result, slice_index_or}
use Rattle.std.specs.List.{between}
use Rattle.std.specs.Option.{unwrap_or}
use Rattle.std.specs.Result.{result_ok}
use Rattle.queue.specs.Regions.{Stands, Apart}
use Rattle.scale.specs.Order.{Scale}
use Rattle.source.specs.declared.fault.Fault.{Fault}
use Rattle.table.specs.declared.node.Node.{Node}
use Rattle.table.specs.Accepting.{Accepted}
use Rattle.table.specs.Kinds.{sampled}
use Rattle.table.specs.Tables.{Table, size, blank, node}
use Rattle.engine.specs.declared.keep.Keep.{Keep}
use Rattle.engine.specs.State.{keep_of, AllAt, AllEnds}

-- the sample that an answer gives; the lowest value stands for a fault, which no tick that is accepted gets
abbrev pub sample_in : {V : Type 0} → Scale V → Result V Fault → V
sample_in s r = unwrap_or (result_ok r) s.lowest

-- What keeps every access in its place: a queue for each node, each in a region of its own behind those before it, with
-- two values between for its ends; none counts more than the ticks; windows are not turned round; operands stand before
-- their node.
pub record Sound (nodes : List Node) (qs : List Keep) (space n : ℕ) : Type 0 where
  pub each : length qs ≡ length nodes
  pub stands : (k : ℕ) → k < length nodes → Stands space (keep_of qs k).from (keep_of qs k).to (keep_of qs k).at
  pub rising : (j k : ℕ) → j < k → k < length nodes → (keep_of qs j).to + 2 ≤ (keep_of qs k).from
  pub counted : (k : ℕ) → k < length nodes → (keep_of qs k).count ≤ n
  pub windows : (k : ℕ) → k < length nodes → (slice_index_or nodes k blank).from ≤ (slice_index_or nodes k blank).to
  pub below : (k : ℕ) → k < length nodes → sampled (slice_index_or nodes k blank).kind ≡ false → ((slice_index_or nodes k blank).left < k) × ((slice_index_or nodes k blank).right < k)

-- and the ends behind each queue lie in the memory
abbrev pub EndsInside : List Node → List Keep → (space : ℕ) → Type 0
EndsInside nodes qs space = (k : ℕ) → k < length nodes → (keep_of qs k).to + 2 ≤ space

-- row n of σ is what is answered for each sample node
abbrev pub Asked : {V : Type 0} → (answers : ℕ → Result V Fault) → (ℕ → ℕ → V) → ℕ → Table → Type 0
Asked answers σ n t = (k : ℕ) → k < size t → sampled (node t k).kind ≡ true → answers (node t k).left ≡ Ok (σ n (node t k).left)

-- the queues are in the same regions as before
abbrev pub SameRegions : List Keep → List Keep → Type 0
SameRegions qs qs' = (k : ℕ) → ((keep_of qs' k).from ≡ (keep_of qs k).from) × ((keep_of qs' k).to ≡ (keep_of qs k).to)

-- the sample of node x at a tick; one that is no sample has none
abbrev pub sample_of : {V : Type 0} → Scale V → (answers : ℕ → Result V Fault) → Node → V
sample_of s answers x = cond (sampled x.kind) (sample_in s (answers x.left)) s.lowest

-- the queue of an operand of node k; a sample has none, and its own stands there
abbrev pub operand_of : List Keep → Node → (k operand : ℕ) → Keep
operand_of qs x k j = cond (sampled x.kind) (keep_of qs k) (keep_of qs j)

-- a part of the memory that no queue's region touches is as it was
abbrev pub OthersKept : {V : Type 0} → List Keep → (size : ℕ) → (memory now : List V) → Type 0
OthersKept qs size memory now = (a b : ℕ) → ((k : ℕ) → k < size → Apart (keep_of qs k).from (keep_of qs k).to a b) → between a b now ≡ between a b memory

-- so is a part that touches none of the regions 0 to size - 1
abbrev pub KeptAround : {V : Type 0} → (from to : ℕ → ℕ) → (size : ℕ) → (memory now : List V) → Type 0
KeptAround from to size memory now = (a b : ℕ) → ((k : ℕ) → k < size → Apart (from k) (to k) a b) → between a b now ≡ between a b memory

-- all but the two ends behind each queue
abbrev pub AllButEndsKept : {V : Type 0} → List Keep → (size : ℕ) → (memory now : List V) → Type 0
AllButEndsKept qs = KeptAround (λ k. (keep_of qs k).to) (λ k. (keep_of qs k).to + 2)

-- all but the queues and the ends behind them
abbrev pub AroundNodesKept : {V : Type 0} → List Keep → (size : ℕ) → (memory now : List V) → Type 0
AroundNodesKept qs = KeptAround (λ k. (keep_of qs k).from) (λ k. (keep_of qs k).to + 2)

-- and a tick takes the queues from n ticks to n + 1, for every table of these nodes and all samples whose row n was answered
abbrev pub TakenOn : {V : Type 0} → Scale V → (answers : ℕ → Result V Fault) → List Node → ℕ → (memory now : List V) → (qs qs' : List Keep) → Type 0
TakenOn {V} s answers nodes n memory now qs qs' =
    (t : Table) (σ : ℕ → ℕ → V) → Accepted t → t.nodes ≡ nodes → Asked answers σ n t → AllAt s σ n t memory qs → AllAt s σ (suc n) t now qs'

-- for every table of these nodes and all samples: queues that were those after m ticks still are
abbrev pub StillAt : {V : Type 0} → Scale V → List Node → ℕ → (memory now : List V) → List Keep → Type 0
StillAt {V} s nodes m memory now qs =
    (t : Table) (σ : ℕ → ℕ → V) → Accepted t → t.nodes ≡ nodes → AllAt s σ m t memory qs → AllAt s σ m t now qs

-- and where the queues were those after n + 1 ticks, the ends of tick n stand behind them now
abbrev pub EndsStored : {V : Type 0} → Scale V → List Node → ℕ → (memory now : List V) → List Keep → Type 0
EndsStored {V} s nodes n memory now qs =
    (t : Table) (σ : ℕ → ℕ → V) → Accepted t → t.nodes ≡ nodes → AllAt s σ (suc n) t memory qs → AllEnds s σ n t now qs

-- after tick n: the queues are those after n + 1 ticks, and behind them stand the ends of tick n
pub record Ticked {V : Type 0} (s : Scale V) (σ : ℕ → ℕ → V) (n : ℕ) (t : Table) (memory : List V) (qs : List Keep) : Type 0 where
  pub queues : AllAt s σ (suc n) t memory qs
  pub ends : AllEnds s σ n t memory qs

-- so it becomes, from the queues after n ticks, for every table of these nodes and all samples whose row n was answered
abbrev pub WholeTick : {V : Type 0} → Scale V → (answers : ℕ → Result V Fault) → List Node → ℕ → (memory now : List V) → (qs qs' : List Keep) → Type 0
WholeTick {V} s answers nodes n memory now qs qs' =
    (t : Table) (σ : ℕ → ℕ → V) → Accepted t → t.nodes ≡ nodes → Asked answers σ n t → AllAt s σ n t memory qs → Ticked s σ n t now qs'
