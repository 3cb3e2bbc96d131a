-- What the check finds, in the subject's words: each fault, which comes before which, and what an answer means.
-- Assumes nothing.
use Rattle.std.specs.Prelude.{◌≡◌, ℕ, ◌<◌, ◌≤◌, true, ◌⊎◌, length, Some, None, vec_items, slice_index_or}
use Rattle.std.specs.Option.{unwrap_or}
use Rattle.table.specs.declared.fault.TableFault.{TableFault}
use Rattle.table.specs.declared.fault.TableFault.TheVariants.{NodeCount, RuleCount, UnknownKind, Misplaced, Window, LateOperand, TooLate, NoSuchNode, Unused, TooMuchMemory}
use Rattle.table.specs.declared.kind.Sort.{Sort}
use Rattle.table.specs.declared.kind.Sort.TheVariants.{Leaf, Point, Ahead, Back}
use Rattle.table.specs.declared.node.Node.{Node}
use Rattle.table.specs.declared.node.UncheckedNode.{UncheckedNode}
use Rattle.table.specs.declared.node.UncheckedTable.{UncheckedTable}
use Rattle.table.specs.Kinds.{shape, binary, past}
use Rattle.table.specs.Tables.{Table, size, node, rule_node, meant}
use Rattle.table.specs.Lags.{worst, operands_worst}
use Rattle.table.specs.Places.{Use, need}
use Rattle.table.specs.Accepting.{LeftPlaced, RightPlaced, Accepted}
use Rattle.table.specs.Refusals.{refusal_of, checked, passes}

-- stands where nothing is written down
abbrev pub unwritten : UncheckedNode
unwritten = record { kind = 0; left = 0; right = 0; from = 0; to = 0 }

-- a window without use is 0 to 0
abbrev pub WindowPlaced : Sort → (from to : ℕ) → Type 0
WindowPlaced Leaf from to = (from ≡ 0) × (to ≡ 0)
WindowPlaced Point from to = (from ≡ 0) × (to ≡ 0)
WindowPlaced Ahead from to = Unit {0}
WindowPlaced Back from to = Unit {0}

pub record Placed (x : Node) (k : ℕ) : Type 0 where
  pub left : LeftPlaced (shape x.kind).sort x.left k
  pub right : RightPlaced (binary x.kind) x.right k
  pub window : WindowPlaced (shape x.kind).sort x.from x.to

-- the fault is there
module _ (u : UncheckedTable) where
  abbrev pub There : TableFault → Type 0
  There NodeCount = (size (meant u) ≡ 0) ⊎ (64 < size (meant u))
  There RuleCount = (length (meant u).rules ≡ 0) ⊎ (16 < length (meant u).rules)
  There (UnknownKind k) = (k < size (meant u)) × (10 ≤ (slice_index_or (vec_items u.nodes) k unwritten).kind)
  There (Misplaced k) = (k < size (meant u)) × (Placed (node (meant u) k) k → ⊥)
  There (Window k) = (k < size (meant u)) × (((node (meant u) k).to < (node (meant u) k).from) ⊎ (4095 < (node (meant u) k).to))
  There (LateOperand k) = (k < size (meant u)) × (past (node (meant u) k).kind ≡ true) × (0 < operands_worst (meant u) k)
  There (TooLate k) = (k < size (meant u)) × (16383 < worst (meant u) k)
  There (NoSuchNode r) = (r < length (meant u).rules) × (size (meant u) ≤ rule_node (meant u) r)
  There (Unused k) = (k < size (meant u)) × (Use (meant u) k → ⊥)
  There TooMuchMemory = 16384 < need (meant u)

-- the counts, then the nodes, the rules, the uses, the memory
abbrev pub stage : TableFault → ℕ
stage NodeCount = 0
stage RuleCount = 1
stage (UnknownKind k) = 2
stage (Misplaced k) = 2
stage (Window k) = 2
stage (LateOperand k) = 2
stage (TooLate k) = 2
stage (NoSuchNode r) = 3
stage (Unused k) = 4
stage TooMuchMemory = 5

abbrev pub place : TableFault → ℕ
place f = unwrap_or (refusal_of f).place 0

abbrev pub number : TableFault → ℕ
number f = (refusal_of f).number

-- within a stage the first node or rule comes first, and of one node's faults the lowest number
abbrev pub Before : TableFault → TableFault → Type 0
Before g f = (stage g < stage f) ⊎ ((stage g ≡ stage f) × ((place g < place f) ⊎ ((place g ≡ place f) × (number g < number f))))

-- the answer of the check means what it says
pub record MeansIt (u : UncheckedTable) : Type 0 where
  -- it passes if and only if no fault is there
  pub clean : checked u ≡ None → (f : TableFault) → There u f → ⊥
  pub passed : ((f : TableFault) → There u f → ⊥) → checked u ≡ None
  -- a refusal names a fault that is there, and none that comes before it is
  pub there : (f : TableFault) → checked u ≡ Some f → There u f
  pub first : (f g : TableFault) → checked u ≡ Some f → Before g f → There u g → ⊥
  -- what passes is an accepted table
  pub accepted : checked u ≡ None → Accepted (meant u)

abbrev pub Checked : Type 0
Checked = (u : UncheckedTable) → MeansIt u

-- and a table whose kinds are all known passes if and only if it is accepted
pub record Passing (t : Table) : Type 0 where
  pub accepted : passes t ≡ true → Accepted t
  pub passed : Accepted t → passes t ≡ true

abbrev pub Passed : Type 0
Passed = (t : Table) → Passing t
