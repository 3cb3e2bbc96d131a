-- All that a tick reads and tells waits at it. Assumes nothing.
use Rattle.std.proofs.Common.{◌≡◌, ℕ, suc, ◌<◌, ◌≤◌, true, false, arith}
use Rattle.std.proofs.lemmas.Bool.{both_ways, cond_both}
use Rattle.scale.specs.Order.{Scale}
use Rattle.table.specs.declared.kind.Side.{Side}
use Rattle.table.specs.Kinds.{past}
use Rattle.table.specs.Places.{operand, parent, rule}
use Rattle.table.specs.Tables.{Table, size, node, Reads}
use Rattle.settling.specs.Keeping.{EnoughWaits}
use Rattle.settling.specs.Settled.{settled}
use Rattle.settling.specs.Waiting.{Waits}
use Rattle.settling.proofs.Sorts.{span_later, span_past}

-- parent j has node k on this side
module _ {V : Type 0} (s : Scale V) (σ : ℕ → ℕ → V) (n : ℕ) (t : Table) (k p : ℕ) (now : p < settled s σ (suc n) t k) (j : ℕ) (side : Side) (h : j < size t) (e : operand (node t j) side k ≡ true) where
  -- it reads p for a position that it had not settled before tick n
  pub reads_wait : (i : ℕ) → past (node t j).kind ≡ false → settled s σ n t j ≤ i → Reads (node t j) side i p → Waits s σ n t k p
  reads_wait i on from read = record {
    is_settled = now;
    by = parent j side h e;
    not_released = cond_both (past (node t j).kind) _ _ (λ out. out ≤ p) (λ back. absurd (both_ways _ on back)) (λ _. let w = span_later _ _ _ _ _ on read in omega arith);
  }

  -- it looks back from position n
  pub past_reads_wait : past (node t j).kind ≡ true → Reads (node t j) side n p → Waits s σ n t k p
  past_reads_wait back read = record {
    is_settled = now;
    by = parent j side h e;
    not_released = cond_both (past (node t j).kind) _ _ (λ out. out ≤ p) (λ _. let w = span_past _ _ _ _ _ back read in omega arith) (λ on. absurd (both_ways _ on back));
  }

pub enough_waits : {V : Type 0} → EnoughWaits V
enough_waits s o t a σ n k p now = record {
  ahead = λ j side i h e. reads_wait s σ n t k p now j side h e i;
  back = λ j side h e. past_reads_wait s σ n t k p now j side h e;
  told = λ r h e new. record { is_settled = now; by = rule r h e; not_released = new };
}
