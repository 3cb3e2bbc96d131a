-- A position is settled within the lags: not after the worst, and not before the best. Assumes nothing.
use Rattle.std.proofs.Common.{◌≡◌, ℕ, ◌+◌, ◌-◌, ◌<◌, ◌≤◌, true, sym, ap, subst, ⊎_elim, arith}
use Rattle.std.proofs.lemmas.Bool.{cases_lt}
use Rattle.scale.specs.Order.{Scale, Lattice}
use Rattle.table.specs.declared.kind.Side.TheVariants.{Left, Right}
use Rattle.table.specs.declared.node.Node.{Node}
use Rattle.table.specs.Accepting.{Accepted}
use Rattle.table.specs.Kinds.{at_once, opens}
use Rattle.table.specs.Lags.{best, worst}
use Rattle.table.specs.Tables.{Table, size, node}
use Rattle.table.proofs.Entries.{by_number}
use Rattle.settling.specs.Settled.{Settled, known, state, settled}
use Rattle.settling.specs.Statements.{Bounded}
use Rattle.settling.proofs.Leading.{leading_pass, leading_least}
use Rattle.settling.proofs.Nodes.{operands_before, worst_later, best_later, lag_at_once, settled_later, settled_at_once}
use Rattle.settling.proofs.Orders.{same_equal, equal_same}
use Rattle.settling.proofs.Sorts.{Later, once_or_later, span_later, greatest_left, greatest_right, least_left, least_right}
use Rattle.settling.proofs.Twice.{alike, unlike}

module _ {V : Type 0} {s : Scale V} (o : Lattice s) {t : Table} (a : Accepted t) (σ : ℕ → ℕ → V) (m : ℕ) where
  abbrev Within : ℕ → Type 0
  Within k = (m - worst t k ≤ settled s σ m t k) × (settled s σ m t k ≤ m - best t k)

  -- a later node, from its operands
  module _ (k : ℕ) (h : k < size t) (later : Later (node t k).kind) where
    abbrev x : Node
    x = node t k

    abbrev l : Settled V
    l = state s σ m t x.left

    abbrev r : Settled V
    r = state s σ m t x.right

    not_after : m - worst t x.left ≤ l.count → m - worst t x.right ≤ r.count → m - worst t k ≤ settled s σ m t k
    not_after p q =
        let wk = worst_later a k h later in
        let wl = greatest_left x.kind (worst t x.left) (worst t x.right) in
        subst (λ c. m - worst t k ≤ c) (sym (settled_later a k h s σ m later))
        (leading_least (known s σ x l r) m (m - worst t k) (omega arith) (λ i j.
        equal_same o _ _ (alike o x (a.windows k h) σ i l r
        (λ n d. let e = span_later _ _ _ _ _ later.0 d in omega arith)
        (λ b n d. let e = span_later _ _ _ _ _ later.0 d in let wr = greatest_right x.kind (worst t x.left) (worst t x.right) b in omega arith))))

    abbrev left_from : ℕ
    left_from = best t x.left + opens x.kind Left x.from

    abbrev right_from : ℕ
    right_from = best t x.right + opens x.kind Right x.from

    not_before : l.count ≤ m - best t x.left → r.count ≤ m - best t x.right → settled s σ m t k ≤ m - best t k
    not_before p q =
        let bk = best_later a k h later in
        let bl = least_left x.kind left_from right_from in
        ⊎_elim
        (λ lt. absurd (unlike o x (a.windows k h) σ (m - best t k) l r later
        (λ n d. let e = span_later _ _ _ _ _ later.0 d in omega arith)
        (λ b n d. let e = span_later _ _ _ _ _ later.0 d in let br = least_right x.kind left_from right_from b in omega arith)
        (same_equal o _ _ (leading_pass (known s σ x l r) m (m - best t k) (subst (λ c. m - best t k < c) (settled_later a k h s σ m later) lt)))))
        (λ ge. ge)
        (cases_lt (m - best t k) (settled s σ m t k))

  at_start : (k : ℕ) → k < size t → at_once (node t k).kind ≡ true → Within k
  at_start k h e =
      let c = settled_at_once a k h s σ m e in
      let none : best t k ≡ 0 = ap (λ l. l.best) (lag_at_once a k h e) in
      (omega arith, omega arith)

  within : (k : ℕ) → k < size t → Within k
  within = by_number Within (size t) (λ k h before.
      ⊎_elim
      (at_start k h)
      (λ later.
      let b = operands_before a k h later.2 in
      let pl = before _ b.0 in
      let pr = before _ b.1 in
      (not_after k h later pl.0 pr.0, not_before k h later pl.1 pr.1))
      (once_or_later (node t k).kind))

pub bounded : {V : Type 0} → Bounded V
bounded s o t a σ m k h = within o a σ m k h
