-- What an early reading answers is the early ends. Assumes nothing.
use Rattle.std.proofs.Common.{◌≡◌, ℕ, ◌<◌, leb, List, length, IfOk, Ok, Err, Result, refl, ◌∙◌}
use Rattle.std.proofs.lemmas.Bool.{leb-false}
use Rattle.std.specs.Result.{result_err}
use Rattle.table_check.proofs.Lawful.{plan_accepted}
use Rattle.scale.specs.Order.{Scale}
use Rattle.table.specs.Tables.{rule_node}
use Rattle.engine.specs.declared.state.Core.{Core}
use Rattle.engine.specs.Represents.{monitored}
use Rattle.monitor.specs.declared.reading.ReadFault.{ReadFault}
use Rattle.monitor.specs.Calls.{ReadEnds}
use Rattle.monitor.specs.Reading.{read_fault, stored_lower, stored_upper}
use Rattle.monitor.proofs.Onetick.{not_refused}

module _ {V : Type 0} (s : Scale V) (c : Core) (memory : List V) (r : ℕ) where
  pub ends_read : (a : Result (V × V) ReadFault) → result_err a ≡ read_fault (monitored c) c.ticks r → IfOk a (λ e. e.0 ≡ stored_lower s c memory r) → IfOk a (λ e. e.1 ≡ stored_upper s c memory r) → IfOk a (λ e. ReadEnds s c memory r e)
  ends_read (Ok e) fault lower upper =
      let there : r < length (monitored c).rules = leb-false _ _ (not_refused (leb (length (monitored c).rules) r) _ _ fault).0 in
      record {
        lower = lower;
        upper = upper;
        early = λ σ n rep.
            let at = rep.ends n refl (rule_node (monitored c) r) ((plan_accepted c.plan).rules_fit r there) in
            (lower ∙ at.lower, upper ∙ at.upper);
      }
  ends_read (Err f) fault lower upper = tt
