-- Records in which equal neighbours are one: neighbours differ, and there are no more records than positions.
-- Assumes nothing.
use Rattle.std.proofs.Common.{◌≡◌, ℕ, zero, suc, ◌+◌, ◌-◌, ◌<◌, ◌≤◌, List, [], ◌∷◌, length, sym, ap, ◌∙◌, arith}
use Rattle.std.proofs.lemmas.Bool.{both_ways, cond_both}
use Rattle.scale.specs.Order.{Scale, Lattice, same}
use Rattle.record.specs.declared.Record.{Record}
use Rattle.settling.specs.Records.{alone, in_front, merged, runs}
use Rattle.settling.proofs.Lists.{map_same}
use Rattle.settling.proofs.Neighbours.{Linked}
use Rattle.settling.proofs.Orders.{same_equal, equal_same}

-- neighbours differ
abbrev pub Differ : {V : Type 0} → Record V → Record V → Type 0
Differ y z = y.value ≡ z.value → ⊥

module _ {V : Type 0} {s : Scale V} (o : Lattice s) where
  differ_in_front : (x : Record V) (ys : List (Record V)) → Linked Differ ys → Linked Differ (in_front s x ys)
  differ_in_front x [] h = tt
  differ_in_front x (y ∷ []) h = cond_both (same s x.value y.value) _ _ (Linked Differ) (λ e. tt) (λ e. (λ eq. both_ways _ e (equal_same o _ _ eq), tt))
  differ_in_front x (y ∷ z ∷ ys) h =
      cond_both (same s x.value y.value) _ _ (Linked Differ)
      (λ e. (λ eq. h.0 (sym (same_equal o _ _ e) ∙ eq), h.1))
      (λ e. (λ eq. both_ways _ e (equal_same o _ _ eq), h))

  pub differ_runs : (r n : ℕ) (v : ℕ → V) (a c : ℕ) → Linked Differ (runs s r n v a c)
  differ_runs r n v a zero = tt
  differ_runs r n v a (suc c) = differ_in_front (alone r n v a) (runs s r n v (a + 1) c) (differ_runs r n v (a + 1) c)

-- there are no more than positions
module _ {V : Type 0} (s : Scale V) where
  few_in_front : (x : Record V) (ys : List (Record V)) → length (in_front s x ys) ≤ suc (length ys)
  few_in_front x [] = omega arith
  few_in_front x (y ∷ ys) = cond_both (same s x.value y.value) _ _ (λ l. length l ≤ suc (suc (length ys))) (λ e. omega arith) (λ e. omega arith)

  pub few_runs : (r n : ℕ) (v : ℕ → V) (a c : ℕ) → length (runs s r n v a c) ≤ c
  few_runs r n v a zero = omega arith
  few_runs r n v a (suc c) = omega (arith, few_in_front (alone r n v a) (runs s r n v (a + 1) c), few_runs r n v (a + 1) c)

  -- the same verdicts, the same records
  pub same_runs : (r n : ℕ) (v w : ℕ → V) (a c : ℕ) → ((p : ℕ) → a ≤ p → p < a + c → v p ≡ w p) → runs s r n v a c ≡ runs s r n w a c
  same_runs r n v w a c h = ap (merged s) (map_same (alone r n v) (alone r n w) a c (λ p i j. ap (λ y. record { rule = r; first = p; last = p; value = y; lag = n - p }) (h p i j)))
