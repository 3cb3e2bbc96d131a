-- A queue that holds the newest verdicts keeps all that some use has not released. Assumes nothing.
use Rattle.std.proofs.Common.{◌≡◌, ℕ, zero, suc, ◌+◌, ◌-◌, ◌<◌, ◌≤◌, min, List, map, length, get_or, ap, ◌∙◌, arith}
use Rattle.std.proofs.lemmas.List.FromFn.{length-map-range_with_len, get_or-map-range_with_len}
use Rattle.std.specs.List.{range_with_len}
use Rattle.queue.proofs.Newest.{length_newest, getD_newest}
use Rattle.scale.specs.Order.{Scale, Lattice}
use Rattle.table.specs.Accepting.{Accepted}
use Rattle.table.specs.Places.{Use, places}
use Rattle.table.specs.Tables.{Table, size}
use Rattle.settling.specs.Settled.{settled, verdict}
use Rattle.settling.specs.Waiting.{released}
use Rattle.settling.proofs.Bounding.{bounded}
use Rattle.settling.proofs.Counts.{waiting_counted}
use Rattle.settling.proofs.Held.{held_in_places}
use Rattle.settling.proofs.Lasting.{agree_itself}
use Rattle.settling.proofs.Soundness.{sound}
use Rattle.engine.specs.declared.keep.Keep.{Keep}
use Rattle.engine.specs.Kept.{values_in}
use Rattle.engine.specs.State.{At}
use Rattle.calls.specs.Promises.{QueueKeeps}

module _ {V : Type 0} {s : Scale V} (o : Lattice s) {t : Table} (a : Accepted t) (σ : ℕ → ℕ → V) (k : ℕ) (h : k < size t) where
  -- what some use has not released is among the newest, as many as places
  among_newest : (m : ℕ) (u : Use t k) (p : ℕ) → p < settled s σ m t k → released s σ m t k u ≤ p → settled s σ m t k ≤ p + places t k
  among_newest zero u p lt rel = absurd (omega (arith, (bounded s o t a σ 0 k h).1))
  among_newest (suc n) u p lt rel = held_in_places s o t a σ n k p h ((waiting_counted s o t a σ n k h).still u p lt rel)

  pub queue_keeps : (m : ℕ) (memory : List V) (q : Keep) → At s σ m t k memory q → QueueKeeps s σ m t k (values_in memory q)
  queue_keeps m memory q at =
      let c = settled s σ m t k in
      let all = map (verdict s σ m t k) (range_with_len 0 c) in
      let many : length all ≡ c = length-map-range_with_len (verdict s σ m t k) 0 c in
      let held = values_in memory q in
      let long : length held ≡ min (places t k) c = ap length at.holds ∙ length_newest (places t k) all ∙ ap (min (places t k)) many in
      record {
        few = omega (arith, long);
        there = λ u p lt rel. omega (arith, long, among_newest m u p lt rel);
        value = λ u p lt rel.
            let i = p + length held - c in
            let place : length all - places t k + i ≡ p = omega (arith, long, many, among_newest m u p lt rel) in
            ap (λ l. get_or l i s.lowest) at.holds
            ∙ getD_newest (places t k) all i s.lowest
            ∙ ap (λ j. get_or all j s.lowest) place
            ∙ get_or-map-range_with_len (verdict s σ m t k) 0 c p p s.lowest lt (omega arith)
            ∙ sound s o t a σ σ m (agree_itself m t σ) k p h lt;
      }
