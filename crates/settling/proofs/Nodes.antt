-- The lag, the value and the state of a node of an accepted table, from those of its operands. Assumes nothing.
use Rattle.std.proofs.Common.{◌≡◌, ℕ, ◌+◌, ◌<◌, true, sym, refl, ap, ◌∙◌, ⊎_elim}
use Rattle.std.specs.List.{range_with_len, prefix_len}
use Rattle.std.proofs.lemmas.Bool.{true≢false, false≢true, cond-true, cond-false}
use Rattle.scale.specs.Order.{Scale}
use Rattle.table.specs.declared.kind.Kind.{Kind}
use Rattle.table.specs.declared.kind.Kind.TheVariants.{Sample, Not, And, Or, Within, Always, Until, Once, Held, Since}
use Rattle.table.specs.declared.kind.Side.TheVariants.{Left, Right}
use Rattle.table.specs.declared.node.Node.{Node}
use Rattle.table.specs.Accepting.{Accepted}
use Rattle.table.specs.Kinds.{sampled, at_once, opens}
use Rattle.table.specs.Lags.{no_lag, lag_of, lags, lag, best, worst, least_operand, operands_worst}
use Rattle.table.specs.Tables.{Table, size, blank, node}
use Rattle.table.specs.Values.{value, value_at, values, val}
use Rattle.table.proofs.Entries.{entry_is, entry_from}
use Rattle.settling.specs.Settled.{Settled, with_lowest, known, settle, nothing, settle_all, state, settled, verdict}
use Rattle.settling.proofs.Sorts.{Inner, Later, sorts, before_own}

module _ {V : Type 0} (s : Scale V) (c from to : ℕ) (l r : ℕ → V) (p : ℕ) where
  -- a sample has no operands
  pub of_sample : (k : Kind) (σ : ℕ → ℕ → V) → sampled k ≡ true → value s k c from to σ l r p ≡ σ p c
  unfolding value
  of_sample Sample σ e = refl
  of_sample Not σ e = absurd (false≢true e)
  of_sample And σ e = absurd (false≢true e)
  of_sample Or σ e = absurd (false≢true e)
  of_sample Within σ e = absurd (false≢true e)
  of_sample Always σ e = absurd (false≢true e)
  of_sample Until σ e = absurd (false≢true e)
  of_sample Once σ e = absurd (false≢true e)
  of_sample Held σ e = absurd (false≢true e)
  of_sample Since σ e = absurd (false≢true e)

  -- an inner kind asks for no sample
  pub unsampled : (k : Kind) (σ σ' : ℕ → ℕ → V) → Inner k → value s k c from to σ l r p ≡ value s k c from to σ' l r p
  unfolding value
  unsampled Sample σ σ' i = absurd (true≢false i)
  unsampled Not σ σ' i = refl
  unsampled And σ σ' i = refl
  unsampled Or σ σ' i = refl
  unsampled Within σ σ' i = refl
  unsampled Always σ σ' i = refl
  unsampled Until σ σ' i = refl
  unsampled Once σ σ' i = refl
  unsampled Held σ σ' i = refl
  unsampled Since σ σ' i = refl

module _ {t : Table} (a : Accepted t) (k : ℕ) (h : k < size t) where
  abbrev x : Node
  x = node t k

  pub operands_before : Inner x.kind → (x.left < k) × (x.right < k)
  operands_before i = before_own x.kind x.left x.right k i (a.left k h) (a.right k h)

  -- lags
  lag_is : Inner x.kind → lag t k ≡ lag_of k x (lag t x.left) (lag t x.right)
  unfolding lags
  lag_is i = entry_from no_lag lag_of t.nodes blank k h (operands_before i).0 (operands_before i).1

  pub worst_later : Later x.kind → worst t k ≡ operands_worst t k + x.to
  unfolding lag_of
  worst_later e = ap (λ l. l.worst) (lag_is e.2 ∙ cond-false _ _ _ e.1)

  pub best_later : Later x.kind → best t k ≡ least_operand x.kind (best t x.left + opens x.kind Left x.from) (best t x.right + opens x.kind Right x.from)
  unfolding lag_of
  best_later e = ap (λ l. l.best) (lag_is e.2 ∙ cond-false _ _ _ e.1)

  pub lag_at_once : at_once x.kind ≡ true → lag t k ≡ no_lag
  unfolding lag_of lags
  lag_at_once e = entry_is no_lag lag_of t.nodes blank k h no_lag ∙ cond-true _ _ _ e

  module _ {V : Type 0} (s : Scale V) (σ : ℕ → ℕ → V) where
    -- values
    pub val_inner : Inner x.kind → val s σ t k ≡ value_at s x σ (val s σ t x.left) (val s σ t x.right)
    unfolding values
    val_inner i = entry_from (λ i. s.lowest) (λ k x l r. value_at s x σ l r) t.nodes blank k h (operands_before i).0 (operands_before i).1

    pub val_sample : sampled x.kind ≡ true → (p : ℕ) → val s σ t k p ≡ σ p x.left
    unfolding values
    val_sample e p = ap (λ f. f p) (entry_is (λ i. s.lowest) (λ k x l r. value_at s x σ l r) t.nodes blank k h (λ i. s.lowest)) ∙ of_sample s x.left x.from x.to _ _ p x.kind σ e

    pub val_is : (p : ℕ) → val s σ t k p ≡ value_at s x σ (val s σ t x.left) (val s σ t x.right) p
    val_is p =
        let inner : Inner x.kind → val s σ t k p ≡ value_at s x σ (val s σ t x.left) (val s σ t x.right) p = λ i. ap (λ f. f p) (val_inner i) in
        ⊎_elim
        (λ e. val_sample e.0 p ∙ sym (of_sample s x.left x.from x.to _ _ p x.kind σ e.0))
        (⊎_elim (λ e. inner e.2) (λ e. inner e.2))
        (sorts x.kind)

    -- states
    module _ (m : ℕ) where
      abbrev l : Settled V
      l = state s σ m t x.left

      abbrev r : Settled V
      r = state s σ m t x.right

      state_inner : Inner x.kind → state s σ m t k ≡ settle s σ m k x l r
      unfolding settle_all
      state_inner i = entry_from (nothing s σ) (settle s σ m) t.nodes blank k h (operands_before i).0 (operands_before i).1

      pub verdict_inner : Inner x.kind → verdict s σ m t k ≡ with_lowest s σ x l r
      unfolding settle
      verdict_inner i = ap (λ q. q.verdict) (state_inner i)

      pub settled_later : Later x.kind → settled s σ m t k ≡ prefix_len (known s σ x l r) (range_with_len 0 m)
      unfolding settle
      settled_later e = ap (λ q. q.count) (state_inner e.2) ∙ cond-false _ _ _ e.1

      pub settled_at_once : at_once x.kind ≡ true → settled s σ m t k ≡ m
      unfolding settle_all settle
      settled_at_once e = ap (λ q. q.count) (entry_is (nothing s σ) (settle s σ m) t.nodes blank k h (nothing s σ)) ∙ cond-true _ _ _ e

      pub verdict_sample : sampled x.kind ≡ true → (p : ℕ) → verdict s σ m t k p ≡ σ p x.left
      unfolding settle_all settle
      verdict_sample e p = ap (λ q. q.verdict p) (entry_is (nothing s σ) (settle s σ m) t.nodes blank k h (nothing s σ)) ∙ of_sample s x.left x.from x.to _ _ p x.kind σ e
