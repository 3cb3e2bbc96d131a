-- What waits is among the newest settled positions, as many as the node has places. Assumes nothing.
use Rattle.std.proofs.Common.{◌≡◌, ℕ, zero, suc, ◌+◌, ◌<◌, ◌≤◌, Bool, true, false, cond, length, refl, ap, ⊎_elim, arith}
use Rattle.std.proofs.lemmas.Bool.{cases_eq, cond-true, eq-eqb}
use Rattle.scale.specs.Order.{Scale, Lattice}
use Rattle.table.specs.declared.kind.Side.{Side}
use Rattle.table.specs.declared.kind.Side.TheVariants.{Left, Right}
use Rattle.table.specs.Accepting.{Accepted}
use Rattle.table.specs.Kinds.{past}
use Rattle.table.specs.Places.{operand, Use, parent, rule, most, for_parent, by_parent, slack, by_rule, places}
use Rattle.table.specs.Tables.{Table, size, node, rule_node}
use Rattle.settling.specs.Keeping.{HeldInPlaces}
use Rattle.settling.specs.Settled.{settled}
use Rattle.settling.specs.Waiting.{released, Waits}
use Rattle.settling.proofs.Bounding.{bounded}
use Rattle.settling.proofs.Lasting.{lasting}
use Rattle.settling.proofs.Nodes.{worst_later}
use Rattle.settling.proofs.Sorts.{later_on, operand_inner}

most_over : (n : ℕ) (f : ℕ → ℕ) (j : ℕ) → j < n → f j ≤ most n f
most_over zero f j h = absurd (omega arith)
most_over (suc n) f j h = ⊎_elim (λ e. omega (arith, ap f e)) (λ ne. omega (arith, most_over n f j (omega arith))) (cases_eq j n)

-- the places are enough for each use
room_for_parent : (t : Table) (k j : ℕ) (side : Side) → j < size t → operand (node t j) side k ≡ true → for_parent t k side j < places t k
unfolding places
room_for_parent t k j side h e = omega (arith, most_over (size t) (by_parent t k) j h, of_side side e)
  where
    of_side : (side : Side) → operand (node t j) side k ≡ true → for_parent t k side j ≤ by_parent t k j
    of_side Left e = let own : cond (operand (node t j) Left k) (for_parent t k Left j) 0 ≡ for_parent t k Left j = cond-true _ _ _ e in omega arith
    of_side Right e = let own : cond (operand (node t j) Right k) (for_parent t k Right j) 0 ≡ for_parent t k Right j = cond-true _ _ _ e in omega arith

room_for_rule : (t : Table) (k r : ℕ) → r < length t.rules → rule_node t r ≡ k → slack t k < places t k
unfolding places
room_for_rule t k r h e =
    let own : by_rule t k r ≡ slack t k = cond-true _ _ _ (eq-eqb _ _ e) in
    omega (arith, most_over (length t.rules) (by_rule t k) r h)

-- by whether a parent looks back
by_case : (b : Bool) (c d c' d' : ℕ) (P : ℕ → ℕ → Type 0) → (b ≡ true → P c c') → (b ≡ false → P d d') → P (cond b c d) (cond b c' d')
by_case true c d c' d' P back on = back refl
by_case false c d c' d' P back on = on refl

module _ {V : Type 0} {s : Scale V} (o : Lattice s) {t : Table} (a : Accepted t) (σ : ℕ → ℕ → V) (n k : ℕ) (h : k < size t) where
  near : (p : ℕ) (u : Use t k) → released s σ n t k u ≤ p → settled s σ (suc n) t k ≤ p + places t k
  near p (rule r i e) still =
      omega (arith, (bounded s o t a σ (suc n) k h).1, (bounded s o t a σ n k h).0, room_for_rule t k r i e)
  near p (parent j side i e) still =
      let x = node t j in
      let now = (bounded s o t a σ (suc n) k h).1 in
      let was = (bounded s o t a σ n j i).0 in
      let enough : (out wanted : ℕ) → Type 0 = λ out wanted. out ≤ p → wanted < places t k → settled s σ (suc n) t k ≤ p + places t k in
      by_case (past x.kind) _ _ _ _ enough
      (λ back kept room. omega arith)
      (λ on kept room.
      let inner = operand_inner x side k e in
      let late = worst_later a j i (on, later_on x.kind inner on, inner) in
      omega arith)
      still (room_for_parent t k j side i e)

  -- a use releases more and more
  released_more : (u : Use t k) → released s σ n t k u ≤ released s σ (suc n) t k u
  released_more (rule r i e) = (lasting s o t a σ n k h).0
  released_more (parent j side i e) =
      by_case (past (node t j).kind) _ _ _ _ (λ was now. was ≤ now) (λ back. omega arith) (λ on. omega (arith, (lasting s o t a σ n j i).0))

  -- what a use has not released after the tick was waiting at it
  pub still_waits : (u : Use t k) (p : ℕ) → p < settled s σ (suc n) t k → released s σ (suc n) t k u ≤ p → Waits s σ n t k p
  still_waits u p i kept = record { is_settled = i; by = u; not_released = omega (arith, released_more u) }

pub held_in_places : {V : Type 0} → HeldInPlaces V
held_in_places s o t a σ n k p h w = near o a σ n k h p w.by w.not_released
