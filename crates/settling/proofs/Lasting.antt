-- What is settled stays settled with its verdict, and nothing that is known is held back. Assumes nothing.
use Rattle.std.proofs.Common.{◌≡◌, ℕ, zero, suc, ◌<◌, ◌≤◌, true, sym, refl, ◌∙◌, subst, ⊎_elim, arith}
use Rattle.std.proofs.lemmas.Bool.{both_ways, cases_lt}
use Rattle.scale.specs.Order.{Scale, Lattice}
use Rattle.table.specs.Accepting.{Accepted}
use Rattle.table.specs.Tables.{Table, size, node}
use Rattle.table.proofs.Entries.{by_number}
use Rattle.settling.specs.Settled.{seen, worked_out, with_lowest, known, state, settled, verdict}
use Rattle.settling.specs.Statements.{Agree, Lasting, Earliest}
use Rattle.settling.proofs.Leading.{leading_most, leading_pass, leading_least, leading_fails}
use Rattle.settling.proofs.Nodes.{operands_before, settled_later, settled_at_once}
use Rattle.settling.proofs.Orders.{same_equal, equal_same}
use Rattle.settling.proofs.Soundness.{sound}
use Rattle.settling.proofs.Sorts.{Later, once_or_later}
use Rattle.settling.proofs.Twice.{seen_in, pinned}

pub agree_itself : {V : Type 0} (m : ℕ) (t : Table) (σ : ℕ → ℕ → V) → Agree m t σ σ
agree_itself m t σ k n h e lt = refl

module _ {V : Type 0} {s : Scale V} (o : Lattice s) {t : Table} (a : Accepted t) (σ : ℕ → ℕ → V) where
  -- a position has one verdict, whenever it is settled
  pub one_verdict : (m n k p : ℕ) → k < size t → p < settled s σ m t k → p < settled s σ n t k → verdict s σ m t k p ≡ verdict s σ n t k p
  one_verdict m n k p h i j = sound s o t a σ σ m (agree_itself m t σ) k p h i ∙ sym (sound s o t a σ σ n (agree_itself n t σ) k p h j)

  module _ (m : ℕ) where
    abbrev Stays : ℕ → Type 0
    Stays k = settled s σ m t k ≤ settled s σ (suc m) t k

    kept : (y : V) (j : ℕ) → j < size t → Stays j → (q : ℕ) → q < settled s σ m t j → verdict s σ m t j q ≡ seen y (settled s σ (suc m) t j) (verdict s σ (suc m) t j) q
    kept y j h up q i =
        let i' : q < settled s σ (suc m) t j = omega arith in
        one_verdict m (suc m) j q h i i' ∙ sym (seen_in y (settled s σ (suc m) t j) (verdict s σ (suc m) t j) q i')

    -- both results of the next tick lie between those of this one, which agree
    stays_later : (k : ℕ) → k < size t → Later (node t k).kind → ((j : ℕ) → j < k → Stays j) → Stays k
    stays_later k h later before =
        let x = node t k in
        let b = operands_before a k h later.2 in
        let l = state s σ m t x.left in
        let r = state s σ m t x.right in
        let is = settled_later a k h s σ m later in
        let most : settled s σ m t k ≤ suc m = omega (arith, leading_most (known s σ x l r) m) in
        subst (λ n. settled s σ m t k ≤ n) (sym (settled_later a k h s σ (suc m) later))
        (leading_least (known s σ x (state s σ (suc m) t x.left) (state s σ (suc m) t x.right)) (suc m) (settled s σ m t k) most (λ p i.
        let was = same_equal o _ _ (leading_pass (known s σ x l r) m p (subst (λ n. p < n) is i)) in
        let now : (y : V) → worked_out s σ y x (state s σ (suc m) t x.left) (state s σ (suc m) t x.right) p ≡ with_lowest s σ x l r p =
        λ y. pinned o x (a.windows k h) σ p l r _ _ (λ q d. kept y _ (omega arith) (before _ b.0) q) (λ w q d. kept y _ (omega arith) (before _ b.1) q) was in
        equal_same o _ _ (now s.lowest ∙ sym (now s.highest))))

    stays : (k : ℕ) → k < size t → Stays k
    stays = by_number Stays (size t) (λ k h before.
        ⊎_elim
        (λ e. omega (arith, settled_at_once a k h s σ m e, settled_at_once a k h s σ (suc m) e))
        (λ later. stays_later k h later before)
        (once_or_later (node t k).kind))

  -- over any number of ticks
  pub rising : (m n k : ℕ) → k < size t → m ≤ n → settled s σ m t k ≤ settled s σ n t k
  rising m zero k h le = let same : m ≡ 0 = omega arith in subst (λ q. settled s σ q t k ≤ settled s σ 0 t k) (sym same) (omega arith)
  rising m (suc n) k h le =
      ⊎_elim
      (λ lt. omega (arith, rising m n k h (omega arith), stays n k h))
      (λ ge. let same : m ≡ suc n = omega arith in subst (λ q. settled s σ q t k ≤ settled s σ (suc n) t k) (sym same) (omega arith))
      (cases_lt m (suc n))

pub lasting : {V : Type 0} → Lasting V
lasting s o t a σ m k h = let up = stays o a σ m k h in (up, λ p i. one_verdict o a σ m (suc m) k p h i (omega arith))

pub earliest : {V : Type 0} → Earliest V
earliest s o t a σ m k h few e =
    ⊎_elim
    (λ now. omega (arith, settled_at_once a k h s σ m now))
    (λ later.
    let x = node t k in
    let test = known s σ x (state s σ m t x.left) (state s σ m t x.right) in
    let c = settled_later a k h s σ m later in
    both_ways _ (leading_fails test m (subst (λ i. i < m) c few)) (subst (λ i. test i ≡ true) c (equal_same o _ _ e)))
    (once_or_later (node t k).kind)
