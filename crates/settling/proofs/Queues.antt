-- Queues that hold the newest verdicts, as many as there are places, are all that a tick has to read and tell.
-- Assumes nothing.
use Rattle.std.proofs.Common.{◌≡◌, ℕ, suc, ◌+◌, ◌-◌, ◌<◌, ◌≤◌, length, sym, refl, ◌∙◌, ap₂, ⊎_elim, arith}
use Rattle.std.proofs.lemmas.Bool.{cases_lt}
use Rattle.scale.specs.Order.{Scale, Lattice}
use Rattle.table.specs.declared.kind.Side.TheVariants.{Left, Right}
use Rattle.table.specs.declared.node.Node.{Node}
use Rattle.table.specs.Accepting.{Accepted}
use Rattle.table.specs.Places.{places}
use Rattle.table.specs.Tables.{Table, size, node, rule_node}
use Rattle.table.specs.Values.{value_at}
use Rattle.settling.specs.Records.{runs, newly_settled, rule_records}
use Rattle.settling.specs.Settled.{seen, worked_out, state, settled, verdict}
use Rattle.settling.specs.Waiting.{Waits}
use Rattle.settling.proofs.Held.{held_in_places}
use Rattle.settling.proofs.Lasting.{lasting}
use Rattle.settling.proofs.Nodes.{operands_before}
use Rattle.settling.proofs.Sorts.{LooksBack, Later, left_operand, right_operand}
use Rattle.settling.proofs.Merging.{same_runs}
use Rattle.settling.proofs.Needed.{reads_wait, past_reads_wait, enough_waits}
use Rattle.settling.proofs.Twice.{seen_in, seen_out, local}

-- q answers for the newest of the first `count` positions of v, as many as the capacity
abbrev pub Holds : {V : Type 0} → (count cap : ℕ) → (v q : ℕ → V) → Type 0
Holds count cap v q = (p : ℕ) → p < count → count ≤ p + cap → q p ≡ v p

-- a queue of this count and capacity is that of node k after m ticks
pub record Queued {V : Type 0} (s : Scale V) (σ : ℕ → ℕ → V) (m : ℕ) (t : Table) (k count cap : ℕ) (q : ℕ → V) : Type 0 where
  pub counts : count ≡ settled s σ m t k
  pub capacity : cap ≡ places t k
  pub holds : Holds count cap (verdict s σ m t k) q

module _ {V : Type 0} {s : Scale V} (o : Lattice s) {t : Table} (a : Accepted t) (σ : ℕ → ℕ → V) (n : ℕ) where
  -- what waits is seen in the queue as it is
  seen_waits : (y : V) (k c cap : ℕ) (q : ℕ → V) → k < size t → Queued s σ (suc n) t k c cap q → (p : ℕ) → (p < settled s σ (suc n) t k → Waits s σ n t k p) → seen y c q p ≡ seen y (settled s σ (suc n) t k) (verdict s σ (suc n) t k) p
  seen_waits y k c cap q h queued p waits =
      let counts = queued.counts in
      let capacity = queued.capacity in
      ⊎_elim
      (λ lt.
      let now : p < settled s σ (suc n) t k = omega arith in
      seen_in y c q p lt ∙ queued.holds p lt (omega (arith, held_in_places s o t a σ n k p h (waits now))) ∙ sym (seen_in y _ (verdict s σ (suc n) t k) p now))
      (λ ge. seen_out y c q p ge ∙ sym (seen_out y _ (verdict s σ (suc n) t k) p (omega arith)))
      (cases_lt p c)

  module _ (j : ℕ) (h : j < size t) (y : V) (lc lcap rc rcap : ℕ) (l r : ℕ → V) where
    abbrev x : Node
    x = node t j

    abbrev from_queues : ℕ → V
    from_queues = value_at s x σ (seen y lc l) (seen y rc r)

    abbrev from_states : ℕ → V
    from_states = worked_out s σ y x (state s σ (suc n) t x.left) (state s σ (suc n) t x.right)

    module _ (left : Queued s σ (suc n) t x.left lc lcap l) (right : Queued s σ (suc n) t x.right rc rcap r) where
      -- a later node, at a position that was not settled before tick n
      pub later_from_queues : Later x.kind → (i : ℕ) → settled s σ n t j ≤ i → from_queues i ≡ from_states i
      later_from_queues later i from =
          let b = operands_before a j h later.2 in
          local o x (a.windows j h) σ i _ _ _ _
          (λ p d. seen_waits y x.left lc lcap l (omega arith) left p (λ now. reads_wait s σ n t x.left p now j Left h (left_operand x later.2) i later.0 from d))
          (λ w p d. seen_waits y x.right rc rcap r (omega arith) right p (λ now. reads_wait s σ n t x.right p now j Right h (right_operand x w) i later.0 from d))

      -- a node that looks back, at position n
      pub past_from_queues : LooksBack x.kind → from_queues n ≡ from_states n
      past_from_queues back =
          let b = operands_before a j h back.2 in
          local o x (a.windows j h) σ n _ _ _ _
          (λ p d. seen_waits y x.left lc lcap l (omega arith) left p (λ now. past_reads_wait s σ n t x.left p now j Left h (left_operand x back.2) back.0 d))
          (λ w p d. seen_waits y x.right rc rcap r (omega arith) right p (λ now. past_reads_wait s σ n t x.right p now j Right h (right_operand x w) back.0 d))

  -- what was held before tick n, and what tick n settled
  pub held_on : (k c c' cap : ℕ) (q q' : ℕ → V) → k < size t → Queued s σ n t k c cap q → c' ≡ settled s σ (suc n) t k → ((p : ℕ) → p < c → c' ≤ p + cap → q' p ≡ q p) → ((p : ℕ) → c ≤ p → p < c' → c' ≤ p + cap → q' p ≡ verdict s σ (suc n) t k p) → Queued s σ (suc n) t k c' cap q'
  held_on k c c' cap q q' h queued counts kept new = record {
    counts = counts;
    capacity = queued.capacity;
    holds = λ p lt near.
        let up = lasting s o t a σ n k h in
        let was = queued.counts in
        ⊎_elim
        (λ old. kept p old near ∙ queued.holds p old (omega (arith, up.0)) ∙ up.1 p (omega arith))
        (λ ge. new p ge lt near)
        (cases_lt p c);
  }

  -- what a rule tells, from its node's queue
  pub rule_from_queue : (r c cap old : ℕ) (q : ℕ → V) → r < length t.rules → Queued s σ (suc n) t (rule_node t r) c cap q → old ≡ settled s σ n t (rule_node t r) → runs s r n q old (c - old) ≡ rule_records s σ n t r
  rule_from_queue r c cap old q h queued was =
      let k = rule_node t r in
      let fits = a.rules_fit r h in
      let now = queued.counts in
      let capacity = queued.capacity in
      let up = (lasting s o t a σ n k fits).0 in
      let new : c - old ≡ newly_settled s σ n t r = omega arith in
      same_runs s r n q (verdict s σ (suc n) t k) old (c - old) (λ p i j.
      let here : p < settled s σ (suc n) t k = omega arith in
      let waits = (enough_waits s o t a σ n k p here).told r h refl (omega arith) in
      queued.holds p (omega arith) (omega (arith, held_in_places s o t a σ n k p fits waits)))
      ∙ ap₂ (runs s r n (verdict s σ (suc n) t k)) was new
