-- Queues that are laid out one behind the other lie apart, and all of them within the need. Assumes nothing.
use Rattle.std.proofs.Common.{◌≡◌, ℕ, zero, suc, ◌+◌, ◌-◌, ◌*◌, ◌<◌, ◌≤◌, List, length, get_or, refl, ap, ⊎_elim, arith}
use Rattle.std.proofs.lemmas.Bool.{cases_eq}
use Rattle.queue.specs.Regions.{Stands}
use Rattle.table.specs.Places.{total, places, need}
use Rattle.table.specs.Tables.{Table, size}
use Rattle.engine.specs.declared.keep.Keep.{Keep}
use Rattle.engine.specs.Laying.{start_of, Laid}
use Rattle.engine.specs.State.{keep_of}

start_rises : (ps : List ℕ) (a b : ℕ) → a < b → start_of ps a + (get_or ps a 0 + 2) ≤ start_of ps b
start_rises ps a zero h = absurd (omega arith)
start_rises ps a (suc b) h =
    ⊎_elim
    (λ e. let same : start_of ps a + (get_or ps a 0 + 2) ≡ start_of ps b + (get_or ps b 0 + 2) = ap (λ i. start_of ps i + (get_or ps i 0 + 2)) e in omega arith)
    (λ ne. omega (arith, start_rises ps a b (omega arith)))
    (cases_eq a b)

-- the regions and their ends are the places and two for each
whole_start : (f g : ℕ → ℕ) (n : ℕ) → ((k : ℕ) → k < n → f k ≡ g k) → total n (λ k. f k + 2) ≡ total n g + 2 * n
whole_start f g zero h = refl
whole_start f g (suc n) h = omega (arith, whole_start f g n (λ k i. h k (omega arith)), h n (omega arith))

module _ (t : Table) (ps : List ℕ) (qs : List Keep) (many : length ps ≡ size t) (are : (k : ℕ) → k < length ps → get_or ps k 0 ≡ places t k) (laid : (k : ℕ) → k < length ps → Laid ps k (keep_of qs k)) where
  laid_at : (k : ℕ) → k < size t → Laid ps k (keep_of qs k)
  laid_at k h = laid k (omega arith)

  pub laid_rising : (j k : ℕ) → j < k → k < size t → (keep_of qs j).to + 2 ≤ (keep_of qs k).from
  laid_rising j k lt h = omega (arith, (laid_at j (omega arith)).ends, (laid_at k h).begins, start_rises ps j k lt)

  pub laid_inside : (k : ℕ) → k < size t → (keep_of qs k).to + 2 ≤ need t
  unfolding need
  laid_inside k h =
      let all : start_of ps (size t) ≡ total (size t) (places t) + 2 * size t = whole_start (λ j. get_or ps j 0) (places t) (size t) (λ j i. are j (omega arith)) in
      omega (arith, (laid_at k h).ends, start_rises ps k (size t) h, all)

  pub laid_stands : (k : ℕ) → k < size t → let q = keep_of qs k in Stands (need t) q.from q.to q.at
  laid_stands k h =
      let at = laid_at k h in
      record { ordered = omega (arith, at.begins, at.ends); inside = omega (arith, laid_inside k h); fits = record { holds = omega (arith, at.none); begins = omega (arith, at.head) } }

  pub laid_roomy : (k : ℕ) → k < size t → (keep_of qs k).to - (keep_of qs k).from ≡ places t k
  laid_roomy k h = omega (arith, (laid_at k h).begins, (laid_at k h).ends, are k (omega arith))

  pub laid_unsettled : (k m : ℕ) → k < size t → (keep_of qs k).count ≤ m
  laid_unsettled k m h = omega (arith, (laid_at k h).unsettled)
