-- A position that is settled at its own tick has its verdict as both early ends. Assumes nothing.
use Rattle.std.proofs.Common.{◌≡◌, ℕ, suc, ◌<◌, ◌≤◌, Bool, true, false, sym, ap, ◌∙◌, subst, ⊎_elim, arith}
use Rattle.std.proofs.lemmas.Bool.{cond-true, eq-eqb}
use Rattle.scale.specs.Order.{Scale, Lattice}
use Rattle.table.specs.Accepting.{Accepted}
use Rattle.table.specs.Kinds.{turned}
use Rattle.table.specs.Tables.{Table, size, node}
use Rattle.table.specs.Values.{value_at}
use Rattle.table.proofs.Entries.{by_number}
use Rattle.settling.specs.Early.{Ends, both_ends, now_then, from_ends, ends}
use Rattle.settling.specs.Settled.{with_lowest, known, state, settled, verdict}
use Rattle.settling.specs.Statements.{Decided}
use Rattle.settling.proofs.Bounding.{bounded}
use Rattle.settling.proofs.Leading.{leading_pass}
use Rattle.settling.proofs.Nodes.{operands_before, verdict_inner, settled_later}
use Rattle.settling.proofs.Orders.{same_equal}
use Rattle.settling.proofs.Sorts.{Later, once_or_later, span_later}
use Rattle.settling.proofs.Twice.{pinned}
use Rattle.settling.proofs.Early.{turned_round, ends_at_once, ends_later}

module _ {V : Type 0} {s : Scale V} (o : Lattice s) {t : Table} (a : Accepted t) (σ : ℕ → ℕ → V) (n : ℕ) where
  abbrev Both : ℕ → Type 0
  Both k = n < settled s σ (suc n) t k → ends s σ n t k ≡ both_ends (verdict s σ (suc n) t k n)

  -- from n on no position of an operand is settled but n itself, and there the ends are its verdict
  goes_on : (j p : ℕ) (e y : V) → j < size t → n ≤ p → (n < settled s σ (suc n) t j → e ≡ verdict s σ (suc n) t j n) → p < settled s σ (suc n) t j → verdict s σ (suc n) t j p ≡ now_then n e y p
  goes_on j p e y h from is lt =
      let most = (bounded s o t a σ (suc n) j h).1 in
      let here : p ≡ n = omega arith in
      ap (verdict s σ (suc n) t j) here ∙ sym (is (omega arith)) ∙ sym (cond-true _ _ _ (eq-eqb p n here))

  both_later : (k : ℕ) → k < size t → Later (node t k).kind → ((j : ℕ) → j < k → Both j) → Both k
  both_later k h later before lt =
      let x = node t k in
      let b = operands_before a k h later.2 in
      let l = state s σ (suc n) t x.left in
      let r = state s σ (suc n) t x.right in
      let el = ends s σ n t x.left in
      let er = ends s σ n t x.right in
      let equal = same_equal o _ _ (leading_pass (known s σ x l r) (suc n) n (subst (λ q. n < q) (settled_later a k h s σ (suc n) later) lt)) in
      let from : (e f y : V) → (n < l.count → e ≡ l.verdict n) → (n < r.count → f ≡ r.verdict n) → value_at s x σ (now_then n e y) (now_then n f y) n ≡ with_lowest s σ x l r n =
      λ e f y le re. pinned o x (a.windows k h) σ n l r _ _
      (λ p d. let w = span_later _ _ _ _ _ later.0 d in goes_on x.left p e y (omega arith) (omega arith) le)
      (λ q p d. let w = span_later _ _ _ _ _ later.0 d in goes_on x.right p f y (omega arith) (omega arith) re)
      equal in
      let low = from el.lower er.lower s.lowest (λ i. ap (λ q. q.lower) (before _ b.0 i)) (λ i. ap (λ q. q.lower) (before _ b.1 i)) in
      let high = from el.upper er.upper s.highest (λ i. ap (λ q. q.upper) (before _ b.0 i)) (λ i. ap (λ q. q.upper) (before _ b.1 i)) in
      let is = ap (λ v. v n) (sym (verdict_inner a k h s σ (suc n) later.2)) in
      ends_later s σ n a k h later
      ∙ either_way (turned x.kind) (from_ends s σ n t x el er) (verdict s σ (suc n) t k n) (low ∙ is) (high ∙ is)
    where
      either_way : (b : Bool) (e : Ends V) (v : V) → e.lower ≡ v → e.upper ≡ v → turned_round b e ≡ both_ends v
      either_way true e v p q = λ i. record { lower = q i; upper = p i }
      either_way false e v p q = λ i. record { lower = p i; upper = q i }

pub decided : {V : Type 0} → Decided V
decided s o t a σ n =
    by_number (Both o a σ n) (size t) (λ k h before.
    ⊎_elim (λ e lt. ends_at_once s σ n a k h e) (λ later. both_later o a σ n k h later before) (once_or_later (node t k).kind))
