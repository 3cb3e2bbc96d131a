-- A settled verdict is the value, however the samples go on. Assumes nothing.
use Rattle.std.proofs.Common.{◌≡◌, ℕ, ◌<◌, true, sym, ap, ◌∙◌, subst, ⊎_elim, arith}
use Rattle.scale.specs.Order.{Scale, Lattice}
use Rattle.table.specs.declared.node.Node.{Node}
use Rattle.table.specs.Accepting.{Accepted}
use Rattle.table.specs.Kinds.{sampled, at_once}
use Rattle.table.specs.Lags.{worst}
use Rattle.table.specs.Tables.{Table, size, node}
use Rattle.table.specs.Values.{value_at, val}
use Rattle.table.proofs.Entries.{by_number}
use Rattle.settling.specs.Settled.{Settled, known, state, settled, verdict}
use Rattle.settling.specs.Statements.{Agree, Sound}
use Rattle.settling.proofs.Bounding.{bounded}
use Rattle.settling.proofs.Leading.{leading_pass}
use Rattle.settling.proofs.Nodes.{unsampled, operands_before, val_inner, val_sample, verdict_inner, settled_later, settled_at_once, verdict_sample}
use Rattle.settling.proofs.Orders.{same_equal}
use Rattle.settling.proofs.Sorts.{Inner, LooksBack, Later, sorts, span_past, greatest_left, greatest_right}
use Rattle.settling.proofs.Twice.{seen_in, local, pinned}

module _ {V : Type 0} {s : Scale V} (o : Lattice s) {t : Table} (a : Accepted t) (σ σ' : ℕ → ℕ → V) (m : ℕ) (agree : Agree m t σ σ') where
  abbrev True : ℕ → Type 0
  True k = (p : ℕ) → p < settled s σ m t k → verdict s σ m t k p ≡ val s σ' t k p

  module _ (k : ℕ) (h : k < size t) where
    abbrev x : Node
    x = node t k

    abbrev l : Settled V
    l = state s σ m t x.left

    abbrev r : Settled V
    r = state s σ m t x.right

    true_sample : sampled x.kind ≡ true → at_once x.kind ≡ true → True k
    true_sample e now p i =
        let c = settled_at_once a k h s σ m now in
        verdict_sample a k h s σ m e p ∙ agree k p h e (omega arith) ∙ sym (val_sample a k h s σ' e p)

    -- the value from the operands' values, with the other samples
    val_with : Inner x.kind → (p : ℕ) → value_at s x σ (val s σ' t x.left) (val s σ' t x.right) p ≡ val s σ' t k p
    val_with i p =
        unsampled s x.left x.from x.to _ _ p x.kind σ σ' i ∙ ap (λ v. v p) (sym (val_inner a k h s σ' i))

    module _ (before : (j : ℕ) → j < k → True j) where
      -- all that a node reads that looks back is settled
      true_past : LooksBack x.kind → True k
      true_past e p i =
          let b = operands_before a k h e.2 in
          let c = settled_at_once a k h s σ m e.1 in
          let none = a.prompt k h e.0 in
          let wl = greatest_left x.kind (worst t x.left) (worst t x.right) in
          let cl = (bounded s o t a σ m x.left (omega arith)).0 in
          let cr = (bounded s o t a σ m x.right (omega arith)).0 in
          ap (λ v. v p) (verdict_inner a k h s σ m e.2)
          ∙ local o x (a.windows k h) σ p _ _ (val s σ' t x.left) (val s σ' t x.right)
          (λ q d.
          let n = span_past _ _ _ _ _ e.0 d in
          let lt : q < l.count = omega arith in
          seen_in s.lowest l.count l.verdict q lt ∙ before _ b.0 q lt)
          (λ w q d.
          let n = span_past _ _ _ _ _ e.0 d in
          let wr = greatest_right x.kind (worst t x.left) (worst t x.right) w in
          let lt : q < r.count = omega arith in
          seen_in s.lowest r.count r.verdict q lt ∙ before _ b.1 q lt)
          ∙ val_with e.2 p

      -- a later node's value lies between two results that agree
      true_later : Later x.kind → True k
      true_later e p i =
          let b = operands_before a k h e.2 in
          let equal = same_equal o _ _ (leading_pass (known s σ x l r) m p (subst (λ n. p < n) (settled_later a k h s σ m e) i)) in
          ap (λ v. v p) (verdict_inner a k h s σ m e.2)
          ∙ sym (pinned o x (a.windows k h) σ p l r (val s σ' t x.left) (val s σ' t x.right) (λ q d. before _ b.0 q) (λ w q d. before _ b.1 q) equal)
          ∙ val_with e.2 p

  all_true : (k : ℕ) → k < size t → True k
  all_true = by_number True (size t) (λ k h before.
      ⊎_elim
      (λ e. true_sample k h e.0 e.1)
      (⊎_elim (true_past k h before) (true_later k h before))
      (sorts (node t k).kind))

pub sound : {V : Type 0} → Sound V
sound s o t a σ σ' m agree k p h i = all_true o a σ σ' m agree k h p i
