-- What is promised of the formulas: larger operands give a larger value, and each value is what its formula says.
-- Assumes nothing.
use Rattle.std.specs.Prelude.{◌≡◌, ℕ, ◌<◌, Bool, true, false}
use Rattle.scale.specs.Order.{Scale, Lattice, AtMost}
use Rattle.table.specs.declared.kind.Kind.{Kind}
use Rattle.table.specs.declared.kind.Side.TheVariants.{Left, Right}
use Rattle.table.specs.declared.node.Node.{Node}
use Rattle.table.specs.Accepting.{Fits, Accepted}
use Rattle.table.specs.Kinds.{shape, binary, turned}
use Rattle.table.specs.Meaning.{Means}
use Rattle.table.specs.Tables.{Table, size, node, Reads}
use Rattle.table.specs.Values.{value, value_at, val}

-- for every scale with its bounds, every accepted table and all samples
abbrev pub Everywhere : (V : Type 0) → ((s : Scale V) (t : Table) (σ : ℕ → ℕ → V) → Type 0) → Type 0
Everywhere V P = (s : Scale V) → Lattice s → (t : Table) → Accepted t → (σ : ℕ → ℕ → V) → P s t σ

-- a is at most b, or, where larger operands make smaller values, b at most a
abbrev pub Rises : {V : Type 0} → Scale V → (turned : Bool) → V → V → Type 0
Rises s true a b = AtMost s b a
Rises s false a b = AtMost s a b

-- larger operands give a larger value, and for `not` a smaller one; only the positions that the node reads count
abbrev pub Monotone : Type 0 → Type 0
Monotone V =
    (s : Scale V)
    → Lattice s
    → (x : Node) (σ : ℕ → ℕ → V) (l r l' r' : ℕ → V) (i : ℕ)
    → Fits (shape x.kind).sort x.from x.to
    → ((p : ℕ) → Reads x Left i p → AtMost s (l p) (l' p))
    → (binary x.kind ≡ true → (p : ℕ) → Reads x Right i p → AtMost s (r p) (r' p))
    → Rises s (turned x.kind) (value_at s x σ l r i) (value_at s x σ l' r' i)

-- each formula's value, and so the value of each node of a table, is what its kind means
pub record Meant (V : Type 0) : Type 0 where
  pub formulas :
      (s : Scale V)
      → Lattice s
      → (k : Kind) (c from to : ℕ) (σ : ℕ → ℕ → V) (l r : ℕ → V) (i : ℕ)
      → Means s k c from to σ l r i (value s k c from to σ l r i)
  pub nodes : Everywhere V λ s t σ.
      (k i : ℕ)
      → k < size t
      → let x = node t k in
      Means s x.kind x.left x.from x.to σ (val s σ t x.left) (val s σ t x.right) i (val s σ t k i)
