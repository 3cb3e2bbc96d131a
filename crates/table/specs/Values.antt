-- The value of each node at each position. Assumes nothing.
use Rattle.std.specs.Prelude.{ℕ, zero, suc, ◌+◌, ◌-◌, min, List, slice_index_or}
use Rattle.scale.specs.Order.{Scale}
use Rattle.table.specs.declared.kind.Kind.{Kind}
use Rattle.table.specs.declared.kind.Kind.TheVariants.{Sample, Not, And, Or, Within, Always, Until, Once, Held, Since}
use Rattle.table.specs.declared.node.Node.{Node}
use Rattle.table.specs.Tables.{Table, each}

module _ {V : Type 0} (s : Scale V) where
  -- the greatest of f at n positions from a on; over nothing, the lowest value
  unfoldable pub greatest_of : (ℕ → V) → ℕ → ℕ → V
  greatest_of f a zero = s.lowest
  greatest_of f a (suc n) = s.greater (f a) (greatest_of f (suc a) n)

  -- the least; over nothing, the highest value
  unfoldable pub least_of : (ℕ → V) → ℕ → ℕ → V
  least_of f a zero = s.highest
  least_of f a (suc n) = s.lesser (f a) (least_of f (suc a) n)

  -- the greatest and the least of f from a up to the position before b
  abbrev pub greatest : (a b : ℕ) → (ℕ → V) → V
  greatest a b f = greatest_of f a (b - a)

  abbrev pub least : (a b : ℕ) → (ℕ → V) → V
  least a b f = least_of f a (b - a)

  -- The value at position i of a node of this kind, from the samples (sample c at tick n is σ n c) and from the values
  -- of its left and right at each position. Positions below 0 drop out.
  unfoldable pub value : Kind → (sample from to : ℕ) → (ℕ → ℕ → V) → (left right : ℕ → V) → ℕ → V
  value Sample c from to σ l r i = σ i c
  value Not c from to σ l r i = s.reversed (l i)
  value And c from to σ l r i = s.lesser (l i) (r i)
  value Or c from to σ l r i = s.greater (l i) (r i)
  value Within c from to σ l r i = greatest (i + from) (i + to + 1) l
  value Always c from to σ l r i = least (i + from) (i + to + 1) l
  value Until c from to σ l r i = greatest from (to + 1) (λ j. s.lesser (r (i + j)) (least (i + from) (i + j) l))
  value Once c from to σ l r i = greatest (i - to) (i + 1 - from) l
  value Held c from to σ l r i = least (i - to) (i + 1 - from) l
  value Since c from to σ l r i = greatest from (min to i + 1) (λ j. s.lesser (r (i - j)) (least (i - j + 1) (i + 1) l))

  abbrev pub value_at : Node → (ℕ → ℕ → V) → (left right : ℕ → V) → ℕ → V
  value_at x = value x.kind x.left x.from x.to

  -- the values of all nodes, each as a function of the position
  unfoldable pub values : (ℕ → ℕ → V) → List Node → List (ℕ → V)
  values σ = each (λ i. s.lowest) (λ k x l r. value_at x σ l r)

  -- the value of node k of table t at each position
  abbrev pub val : (ℕ → ℕ → V) → Table → ℕ → ℕ → V
  val σ t k = slice_index_or (values σ t.nodes) k (λ i. s.lowest)
