-- What it means that a table is accepted. Assumes nothing.
use Rattle.std.specs.Prelude.{◌≡◌, ℕ, ◌<◌, ◌≤◌, Bool, true, false, length}
use Rattle.table.specs.declared.kind.Sort.{Sort}
use Rattle.table.specs.declared.kind.Sort.TheVariants.{Leaf, Point, Ahead, Back}
use Rattle.table.specs.Kinds.{shape, binary, past}
use Rattle.table.specs.Tables.{Table, size, node, rule_node}
use Rattle.table.specs.Lags.{worst, operands_worst}
use Rattle.table.specs.Places.{Use, need}

-- a sample's number is at most 31; a left operand stands before its node
abbrev pub LeftPlaced : Sort → (left own : ℕ) → Type 0
LeftPlaced Leaf left k = left ≤ 31
LeftPlaced Point left k = left < k
LeftPlaced Ahead left k = left < k
LeftPlaced Back left k = left < k

-- a right operand stands before its node, and is 0 where the kind has none
abbrev pub RightPlaced : (binary : Bool) → (right own : ℕ) → Type 0
RightPlaced true right k = right < k
RightPlaced false right k = right ≡ 0

-- a window does not open after it ends, and is 0 to 0 where the kind has none
abbrev pub Fits : Sort → (from to : ℕ) → Type 0
Fits Leaf from to = (from ≡ 0) × (to ≡ 0)
Fits Point from to = (from ≡ 0) × (to ≡ 0)
Fits Ahead from to = from ≤ to
Fits Back from to = from ≤ to

pub record Accepted (t : Table) : Type 0 where
  pub some_nodes : 0 < size t
  pub few_nodes : size t ≤ 64
  pub some_rules : 0 < length t.rules
  pub few_rules : length t.rules ≤ 16
  pub left : (k : ℕ) → k < size t → LeftPlaced (shape (node t k).kind).sort (node t k).left k
  pub right : (k : ℕ) → k < size t → RightPlaced (binary (node t k).kind) (node t k).right k
  pub windows : (k : ℕ) → k < size t → Fits (shape (node t k).kind).sort (node t k).from (node t k).to
  pub near : (k : ℕ) → k < size t → (node t k).to ≤ 4095
  pub prompt : (k : ℕ) → k < size t → past (node t k).kind ≡ true → operands_worst t k ≡ 0
  pub soon : (k : ℕ) → k < size t → worst t k ≤ 16383
  pub rules_fit : (r : ℕ) → r < length t.rules → rule_node t r < size t
  pub uses : (k : ℕ) → k < size t → Use t k
  pub fits : need t ≤ 16384
