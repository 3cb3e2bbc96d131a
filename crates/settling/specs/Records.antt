-- The records of a tick, and the list of all that is expected after m ticks. Assumes nothing.
use Rattle.std.specs.Prelude.{ℕ, suc, ◌-◌, cond, List, [], ◌∷◌, map, length}
use Rattle.std.specs.List.{range_with_len, flat_map}
use Rattle.scale.specs.Order.{Scale, same}
use Rattle.record.specs.declared.Record.{Record}
use Rattle.table.specs.Tables.{Table, rule_node}
use Rattle.settling.specs.Settled.{settled, verdict}

-- the record of position p alone: of this rule, with the verdicts v, issued at this tick
abbrev pub alone : {V : Type 0} → (rule tick : ℕ) → (ℕ → V) → ℕ → Record V
alone r n v p = record { rule = r; first = p; last = p; value = v p; lag = n - p }

-- one record for two neighbours
abbrev pub spanning : {V : Type 0} → Record V → Record V → Record V
spanning x y = record { rule = x.rule; first = x.first; last = y.last; value = x.value; lag = x.lag }

-- x in front of the others: in one record with the first of them if that has the same value
abbrev pub in_front : {V : Type 0} → Scale V → Record V → List (Record V) → List (Record V)
in_front s x [] = x ∷ []
in_front s x (y ∷ ys) = cond (same s x.value y.value) (spanning x y ∷ ys) (x ∷ y ∷ ys)

-- equal neighbours in one record
abbrev pub merged : {V : Type 0} → Scale V → List (Record V) → List (Record V)
merged s [] = []
merged s (x ∷ xs) = in_front s x (merged s xs)

-- what a tick tells of c positions of a rule from a on: upward, equal neighbours in one record
abbrev pub runs : {V : Type 0} → Scale V → (rule tick : ℕ) → (ℕ → V) → (a c : ℕ) → List (Record V)
runs s r n v a c = merged s (map (alone r n v) (range_with_len a c))

module _ {V : Type 0} (s : Scale V) (σ : ℕ → ℕ → V) (n : ℕ) (t : Table) where
  -- how many positions the node of rule r newly settles at tick n
  abbrev pub newly_settled : (r : ℕ) → ℕ
  newly_settled r = settled s σ (suc n) t (rule_node t r) - settled s σ n t (rule_node t r)

  -- what tick n tells of rule r: the positions that its node newly settles
  abbrev pub rule_records : (r : ℕ) → List (Record V)
  rule_records r = runs s r n (verdict s σ (suc n) t (rule_node t r)) (settled s σ n t (rule_node t r)) (newly_settled r)

  -- what tick n issues, the rules in rising order
  unfoldable pub tick_records : List (Record V)
  tick_records = flat_map rule_records (range_with_len 0 (length t.rules))

-- what m ticks issue, one tick after the other
unfoldable pub expected : {V : Type 0} → Scale V → (ℕ → ℕ → V) → ℕ → Table → List (Record V)
expected s σ m t = flat_map (λ n. tick_records s σ n t) (range_with_len 0 m)
