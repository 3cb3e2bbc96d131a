-- The uses of a node, the places that they need, and what the whole table needs. Assumes nothing.
use Rattle.std.specs.Prelude.{◌≡◌, ℕ, zero, suc, ◌+◌, ◌-◌, ◌*◌, ◌<◌, max, Bool, true, cond, not, ◌&&◌, length, ◌==◌}
use Rattle.table.specs.declared.kind.Side.{Side}
use Rattle.table.specs.declared.kind.Side.TheVariants.{Left, Right}
use Rattle.table.specs.declared.node.Node.{Node}
use Rattle.table.specs.Kinds.{binary, sampled, past, opens}
use Rattle.table.specs.Tables.{Table, size, node, rule_node}
use Rattle.table.specs.Lags.{best, worst, operands_worst}

-- whether node number k is the operand of x on this side
abbrev pub operand : Node → Side → ℕ → Bool
operand x Left k = not (sampled x.kind) && x.left == k
operand x Right k = binary x.kind && x.right == k

-- a use of node k is a parent, by its number and its side, or a rule
pub data Use (t : Table) (k : ℕ) : Type 0 where
  parent : (j : ℕ) (side : Side) → j < size t → operand (node t j) side k ≡ true → Use t k
  rule : (r : ℕ) → r < length t.rules → rule_node t r ≡ k → Use t k

-- the greatest of f 0 to f (n - 1), 0 if there is none; and their sum
abbrev pub most : ℕ → (ℕ → ℕ) → ℕ
most zero f = 0
most (suc n) f = max (most n f) (f n)

abbrev pub total : ℕ → (ℕ → ℕ) → ℕ
total zero f = 0
total (suc n) f = total n f + f n

module _ (t : Table) where
  -- what parent j, by its operand on this side, wants of that operand beside the newest position
  abbrev pub for_parent : ℕ → Side → (j : ℕ) → ℕ
  for_parent k side j =
      let x = node t j in
      cond (past x.kind) x.to (operands_worst t j + x.to - opens x.kind side x.from - best t k)

  -- by both sides, as far as k is the operand there
  abbrev pub by_parent : ℕ → ℕ → ℕ
  by_parent k j =
      max
      (cond (operand (node t j) Left k) (for_parent k Left j) 0)
      (cond (operand (node t j) Right k) (for_parent k Right j) 0)

  -- what a rule of node k wants
  abbrev pub slack : ℕ → ℕ
  slack k = worst t k - best t k

  abbrev pub by_rule : ℕ → ℕ → ℕ
  by_rule k r = cond (rule_node t r == k) (slack k) 0

  -- how many of its newest positions node k keeps
  unfoldable pub places : ℕ → ℕ
  places k = 1 + max (most (size t) (by_parent k)) (most (length t.rules) (by_rule k))

  -- the queue memory that the table needs, in scale values: the places, and two ends for each node
  unfoldable pub need : ℕ
  need = total (size t) places + 2 * size t

  -- the most records that one tick may issue
  unfoldable pub burst : ℕ
  burst = total (length t.rules) (λ r. slack (rule_node t r) + 1)
