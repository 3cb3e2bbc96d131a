-- What is promised of settled positions and of early ends. Assumes nothing.
use Rattle.std.specs.Prelude.{◌≡◌, ℕ, suc, ◌-◌, ◌<◌, ◌≤◌, true}
use Rattle.scale.specs.Order.{AtMost}
use Rattle.table.specs.Kinds.{sampled}
use Rattle.table.specs.Lags.{best, worst}
use Rattle.table.specs.Tables.{Table, size, node}
use Rattle.table.specs.Values.{val}
use Rattle.settling.specs.Settled.{with_lowest, with_highest, state, settled, verdict}
use Rattle.settling.specs.Early.{both_ends, ends}
use Rattle.settling.specs.Formulas.{Everywhere}

-- two ways in which the samples of the sample nodes may go on after m ticks
abbrev pub Agree : {V : Type 0} → ℕ → Table → (σ σ' : ℕ → ℕ → V) → Type 0
Agree m t σ σ' = (k n : ℕ) → k < size t → sampled (node t k).kind ≡ true → n < m → σ n (node t k).left ≡ σ' n (node t k).left

-- a settled verdict is the value, however the samples go on
abbrev pub Sound : Type 0 → Type 0
Sound V = Everywhere V λ s t σ.
    (σ' : ℕ → ℕ → V) (m : ℕ)
    → Agree m t σ σ'
    → (k p : ℕ)
    → k < size t
    → p < settled s σ m t k
    → verdict s σ m t k p ≡ val s σ' t k p

-- what is settled stays settled, with its verdict
abbrev pub Lasting : Type 0 → Type 0
Lasting V = Everywhere V λ s t σ.
    (m k : ℕ)
    → k < size t
    → (settled s σ m t k ≤ settled s σ (suc m) t k)
    × ((p : ℕ) → p < settled s σ m t k → verdict s σ m t k p ≡ verdict s σ (suc m) t k p)

-- at the first position that is not settled the two results differ: nothing that is known is held back
abbrev pub Earliest : Type 0 → Type 0
Earliest V = Everywhere V λ s t σ.
    (m k : ℕ)
    → k < size t
    → settled s σ m t k < m
    → let x = node t k in let l = state s σ m t x.left in let r = state s σ m t x.right in let c = settled s σ m t k in
    with_lowest s σ x l r c ≡ with_highest s σ x l r c
    → ⊥

-- a position is settled at the latest its worst lag after it, and not before its best lag
abbrev pub Bounded : Type 0 → Type 0
Bounded V = Everywhere V λ s t σ.
    (m k : ℕ) → k < size t → (m - worst t k ≤ settled s σ m t k) × (settled s σ m t k ≤ m - best t k)

-- the value at position n lies between the early ends of tick n, however the samples go on
abbrev pub Enclosing : Type 0 → Type 0
Enclosing V = Everywhere V λ s t σ.
    (σ' : ℕ → ℕ → V) (n : ℕ)
    → Agree (suc n) t σ σ'
    → (k : ℕ)
    → k < size t
    → AtMost s (ends s σ n t k).lower (val s σ' t k n) × AtMost s (val s σ' t k n) (ends s σ n t k).upper

-- where position n is settled at tick n, both ends are its verdict
abbrev pub Decided : Type 0 → Type 0
Decided V = Everywhere V λ s t σ.
    (n k : ℕ) → k < size t → n < settled s σ (suc n) t k → ends s σ n t k ≡ both_ends (verdict s σ (suc n) t k n)
