-- How one tick takes a later node on: from where the tick before it stopped to the first position that is not known.
-- Assumes nothing.
use Rattle.std.proofs.Common.{◌≡◌, ℕ, suc, ◌<◌, ◌≤◌, ◌∙◌, subst, ⊎_elim, arith}
use Rattle.std.proofs.lemmas.Bool.{cases_lt, cases_Bool}
use Rattle.scale.specs.Order.{Scale, Lattice}
use Rattle.table.specs.declared.node.Node.{Node}
use Rattle.table.specs.Accepting.{Accepted}
use Rattle.table.specs.Tables.{Table, size, node}
use Rattle.settling.specs.Settled.{Settled, with_lowest, with_highest, known, state, settled}
use Rattle.settling.proofs.Lasting.{lasting}
use Rattle.settling.proofs.Leading.{leading_pass, leading_stop}
use Rattle.settling.proofs.Nodes.{settled_later}
use Rattle.settling.proofs.Orders.{same_equal, equal_same}
use Rattle.settling.proofs.Sorts.{Later}

module _ {V : Type 0} {s : Scale V} (o : Lattice s) {t : Table} (a : Accepted t) (σ : ℕ → ℕ → V) (n k : ℕ) (h : k < size t) (later : Later (node t k).kind) where
  abbrev x : Node
  x = node t k

  abbrev l : Settled V
  l = state s σ (suc n) t x.left

  abbrev r : Settled V
  r = state s σ (suc n) t x.right

  -- tick n goes on where the tick before it stopped, and stops at the first position on which the results do not agree
  pub next_count : (c : ℕ) → settled s σ n t k ≤ c → c ≤ suc n → ((p : ℕ) → settled s σ n t k ≤ p → p < c → with_lowest s σ x l r p ≡ with_highest s σ x l r p) → (c < suc n → with_lowest s σ x l r c ≡ with_highest s σ x l r c → ⊥) → settled s σ (suc n) t k ≡ c
  next_count c low high pass stop =
      let at = settled_later a k h s σ (suc n) later in
      let up = (lasting s o t a σ n k h).0 in
      at ∙ leading_stop (known s σ x l r) (suc n) c high
      (λ p i. ⊎_elim
      (λ lt. leading_pass (known s σ x l r) (suc n) p (subst (λ q. p < q) at (omega arith)))
      (λ ge. equal_same o _ _ (pass p ge i))
      (cases_lt p (settled s σ n t k)))
      (λ lt. ⊎_elim (λ e. absurd (stop lt (same_equal o _ _ e))) (λ e. e) (cases_Bool (known s σ x l r c)))
