-- What a scale is: an order with two ends, the lesser and the greater of two values, and a reversal. Assumes nothing.
use Rattle.std.specs.Prelude.{◌≡◌, Bool, true, cond, ◌&&◌, ◌⊎◌}

-- The parts of a scale. `lesser` and `greater` are parts of their own, so that what is proved of them by their bounds
-- alone holds for a scale whose order is not total too.
pub record Scale (V : Type 0) : Type 0 where
  pub leq : V → V → Bool
  pub lowest : V
  pub highest : V
  pub lesser : V → V → V
  pub greater : V → V → V
  pub reversed : V → V

module _ {V : Type 0} (s : Scale V) where
  -- a is at most b
  abbrev pub AtMost : V → V → Type 0
  AtMost a b = s.leq a b ≡ true

  -- whether each is at most the other
  abbrev pub same : V → V → Bool
  same a b = s.leq a b && s.leq b a

-- What a scale has to show: a total order with two ends that differ, the lesser and the greater by that order, and a
-- reversal that turns the order round and undoes itself.
pub record TotalOrder {V : Type 0} (s : Scale V) : Type 0 where
  pub total : (a b : V) → AtMost s a b ⊎ AtMost s b a
  pub trans : (a b c : V) → AtMost s a b → AtMost s b c → AtMost s a c
  pub antisym : (a b : V) → AtMost s a b → AtMost s b a → a ≡ b
  pub low : (a : V) → AtMost s s.lowest a
  pub high : (a : V) → AtMost s a s.highest
  pub differ : s.lowest ≡ s.highest → ⊥
  pub lesser_is : (a b : V) → s.lesser a b ≡ cond (s.leq a b) a b
  pub greater_is : (a b : V) → s.greater a b ≡ cond (s.leq a b) b a
  pub turns : (a b : V) → AtMost s a b → AtMost s (s.reversed b) (s.reversed a)
  pub back : (a : V) → s.reversed (s.reversed a) ≡ a

-- All that an argument about values, lags, settled positions or queues may use: a partial order with two ends that
-- differ, greatest lower and least upper bounds of two values, and the reversal.
pub record Lattice {V : Type 0} (s : Scale V) : Type 0 where
  pub reflexive : (a : V) → AtMost s a a
  pub trans : (a b c : V) → AtMost s a b → AtMost s b c → AtMost s a c
  pub antisym : (a b : V) → AtMost s a b → AtMost s b a → a ≡ b
  pub low : (a : V) → AtMost s s.lowest a
  pub high : (a : V) → AtMost s a s.highest
  pub differ : s.lowest ≡ s.highest → ⊥
  pub lesser_left : (a b : V) → AtMost s (s.lesser a b) a
  pub lesser_right : (a b : V) → AtMost s (s.lesser a b) b
  pub lesser_most : (x a b : V) → AtMost s x a → AtMost s x b → AtMost s x (s.lesser a b)
  pub greater_left : (a b : V) → AtMost s a (s.greater a b)
  pub greater_right : (a b : V) → AtMost s b (s.greater a b)
  pub greater_least : (x a b : V) → AtMost s a x → AtMost s b x → AtMost s (s.greater a b) x
  pub turns : (a b : V) → AtMost s a b → AtMost s (s.reversed b) (s.reversed a)
  pub back : (a : V) → s.reversed (s.reversed a) ≡ a

-- a total order has these bounds
abbrev pub Bounds : Type 0 → Type 0
Bounds V = (s : Scale V) → TotalOrder s → Lattice s
