-- The early reading of a rule. Assumes nothing.
use Rattle.std.specs.Prelude.{ℕ, ◌+◌, cond, List, length, Some, None, Option, ◌==◌, nat_le, slice_index_or}
use Rattle.scale.specs.Order.{Scale}
use Rattle.table.specs.Tables.{Table, rule_node}
use Rattle.engine.specs.declared.state.Core.{Core}
use Rattle.engine.specs.Represents.{monitored}
use Rattle.engine.specs.State.{keep_of}
use Rattle.monitor.specs.declared.reading.ReadFault.{ReadFault}
use Rattle.monitor.specs.declared.reading.ReadFault.TheVariants.{NoRule, NoTick}

-- the number of each refusal
abbrev pub read_refusal : ReadFault → ℕ
read_refusal NoRule = 51
read_refusal NoTick = 52

-- why rule r cannot be read after so many ticks: there is no such rule, or else no tick is accepted yet
abbrev pub read_fault : Table → (ticks r : ℕ) → Option ReadFault
read_fault t ticks r = cond (nat_le (length t.rules) r) (Some NoRule) (cond (ticks == 0) (Some NoTick) None)

-- what stands behind the queue of a rule's node: its lower end, and then its upper end
abbrev pub stored_lower : {V : Type 0} → Scale V → Core → List V → (r : ℕ) → V
stored_lower s c memory r = slice_index_or memory (keep_of c.keeps (rule_node (monitored c) r)).to s.lowest

abbrev pub stored_upper : {V : Type 0} → Scale V → Core → List V → (r : ℕ) → V
stored_upper s c memory r = slice_index_or memory ((keep_of c.keeps (rule_node (monitored c) r)).to + 1) s.lowest
