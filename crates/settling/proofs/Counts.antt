-- The list of what waits: just the positions that wait, upward, and no more of them than places. Assumes nothing.
use Rattle.std.proofs.Common.{◌≡◌, ℕ, suc, ◌<◌, ◌≤◌, true, length, ⊎_elim, arith}
use Rattle.std.specs.List.{range_with_len}
use Rattle.std.proofs.ByRecursion.{all-has, all_kept_by, kept_by_passes}
use Rattle.std.proofs.lemmas.Bool.{and_parts, and_from, or_cases, or_left, or_right, leb-true, le-leb, eqb-true, eq-eqb}
use Rattle.scale.specs.Order.{Scale}
use Rattle.table.specs.declared.kind.Side.{Side}
use Rattle.table.specs.declared.kind.Side.TheVariants.{Left, Right}
use Rattle.table.specs.Places.{Use, parent, rule, places}
use Rattle.table.specs.Tables.{Table, size}
use Rattle.table.proofs.Anywhere.{any_some, any_found}
use Rattle.settling.specs.Settled.{settled}
use Rattle.settling.specs.Keeping.{WaitingCounted}
use Rattle.settling.specs.Waiting.{released, side_keeps, parent_keeps, rule_keeps, unreleased, Waits}
use Rattle.settling.proofs.Held.{held_in_places, still_waits}
use Rattle.settling.proofs.Filters.{in_range, has_passed, few_passed, upward}
use Rattle.settling.proofs.Neighbours.{neighbours}

-- the test for a use that has not released a position finds one, and only then
module _ {V : Type 0} (s : Scale V) (σ : ℕ → ℕ → V) (m : ℕ) (t : Table) (k p : ℕ) where
  found : (u : Use t k) → released s σ m t k u ≤ p → unreleased s σ m t k p ≡ true
  found (rule r h e) kept =
      or_right _ _ (any_some (length t.rules) (rule_keeps s σ m t k p) r h (and_from _ _ (eq-eqb _ _ e) (le-leb _ _ kept)))
  found (parent j Left h e) kept =
      or_left _ _ (any_some (size t) (parent_keeps s σ m t k p) j h (or_left _ _ (and_from _ _ e (le-leb _ _ kept))))
  found (parent j Right h e) kept =
      or_left _ _ (any_some (size t) (parent_keeps s σ m t k p) j h (or_right _ _ (and_from _ _ e (le-leb _ _ kept))))

  by_side : (j : ℕ) (side : Side) → j < size t → side_keeps s σ m t k p j side ≡ true → (u : Use t k) × (released s σ m t k u ≤ p)
  by_side j side h e = let both = and_parts _ _ e in (parent j side h both.0, leb-true _ _ both.1)

  finds : unreleased s σ m t k p ≡ true → (u : Use t k) × (released s σ m t k u ≤ p)
  finds e =
      ⊎_elim
      (λ f. let j = any_found (size t) (parent_keeps s σ m t k p) f in ⊎_elim (by_side j.0 Left j.1) (by_side j.0 Right j.1) (or_cases _ _ j.2))
      (λ f.
      let r = any_found (length t.rules) (rule_keeps s σ m t k p) f in
      let both = and_parts _ _ r.2 in
      (rule r.0 r.1 (eqb-true _ _ both.0), leb-true _ _ both.1))
      (or_cases _ _ e)

pub waiting_counted : {V : Type 0} → WaitingCounted V
waiting_counted s o t a σ n k h =
    let test = unreleased s σ n t k in
    let c = settled s σ (suc n) t k in
    let waits : (p : ℕ) → p < c → test p ≡ true → Waits s σ n t k p = λ p i e. let u = finds s σ n t k p e in record { is_settled = i; by = u.0; not_released = u.1 } in
    record {
      only = λ p has.
          let passes = all-has _ _ p (kept_by_passes test (range_with_len 0 c)) has in
          let inside = all-has _ _ p (all_kept_by test _ _ (in_range test 0 c)) has in
          waits p (omega arith) passes;
      all = λ p w. has_passed test 0 c p (omega arith) (omega (arith, w.is_settled)) (found s σ n t k p w.by w.not_released);
      upward = neighbours _ _ (upward test 0 c);
      few = few_passed test 0 c (places t k) (λ p i j e. omega (arith, held_in_places s o t a σ n k p h (waits p (omega arith) e)));
      still = still_waits o a σ n k h;
    }
