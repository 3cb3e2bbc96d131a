-- The early ends of a node from those of its operands, and that they enclose the value. Assumes nothing.
use Rattle.std.proofs.Common.{◌≡◌, ℕ, suc, ◌<◌, Bool, true, false, cond, sym, ap, ◌∙◌, subst, subst₂, ⊎_elim, arith}
use Rattle.std.proofs.lemmas.Bool.{cases_eq, cond-true, cond-false, eq-eqb, ne_eqb}
use Rattle.scale.specs.Order.{Scale, Lattice, AtMost}
use Rattle.table.specs.Accepting.{Accepted}
use Rattle.table.specs.Kinds.{at_once, turned}
use Rattle.table.specs.Tables.{Table, size, blank, node}
use Rattle.table.specs.Values.{val}
use Rattle.table.proofs.Entries.{by_number, entry_is, entry_from}
use Rattle.settling.specs.Early.{Ends, both_ends, exchanged, now_then, from_ends, ends_of, whole_scale, ends_all, ends}
use Rattle.settling.specs.Formulas.{Rises}
use Rattle.settling.specs.Settled.{verdict}
use Rattle.settling.specs.Statements.{Agree, Enclosing}
use Rattle.settling.proofs.Growing.{monotone}
use Rattle.settling.proofs.Nodes.{unsampled, operands_before, val_inner, settled_at_once}
use Rattle.settling.proofs.Orders.{at_most_equal}
use Rattle.settling.proofs.Soundness.{sound}
use Rattle.settling.proofs.Sorts.{Later, once_or_later}

-- the ends from the operands' ends, turned round where the kind is
abbrev pub turned_round : {V : Type 0} → Bool → Ends V → Ends V
turned_round b e = cond b (exchanged e) e

abbrev Encloses : {V : Type 0} → Scale V → Ends V → V → Type 0
Encloses s e v = AtMost s e.lower v × AtMost s v e.upper

module _ {V : Type 0} (s : Scale V) (σ : ℕ → ℕ → V) (n : ℕ) {t : Table} (a : Accepted t) (k : ℕ) (h : k < size t) where
  pub ends_at_once : at_once (node t k).kind ≡ true → ends s σ n t k ≡ both_ends (verdict s σ (suc n) t k n)
  unfolding ends_all ends_of
  ends_at_once e = entry_is (whole_scale s σ n t) (ends_of s σ n t) t.nodes blank k h (whole_scale s σ n t) ∙ cond-true _ _ _ e

  pub ends_later : Later (node t k).kind → let x = node t k in ends s σ n t k ≡ turned_round (turned x.kind) (from_ends s σ n t x (ends s σ n t x.left) (ends s σ n t x.right))
  unfolding ends_all ends_of
  ends_later e =
      let b = operands_before a k h e.2 in
      entry_from (whole_scale s σ n t) (ends_of s σ n t) t.nodes blank k h b.0 b.1 ∙ cond-false _ _ _ e.1

module _ {V : Type 0} {s : Scale V} (o : Lattice s) (n : ℕ) where
  -- an end of f at n, and an end of the scale after it
  over_low : (e : V) (f : ℕ → V) (p : ℕ) → AtMost s e (f n) → AtMost s (now_then n e s.lowest p) (f p)
  over_low e f p h =
      ⊎_elim
      (λ q. subst (λ y. AtMost s y (f p)) (sym (cond-true _ _ _ (eq-eqb p n q))) (subst (λ j. AtMost s e (f j)) (sym q) h))
      (λ q. subst (λ y. AtMost s y (f p)) (sym (cond-false _ _ _ (ne_eqb p n q))) (o.low _))
      (cases_eq p n)

  under_high : (e : V) (f : ℕ → V) (p : ℕ) → AtMost s (f n) e → AtMost s (f p) (now_then n e s.highest p)
  under_high e f p h =
      ⊎_elim
      (λ q. subst (AtMost s (f p)) (sym (cond-true _ _ _ (eq-eqb p n q))) (subst (λ j. AtMost s (f j) e) (sym q) h))
      (λ q. subst (AtMost s (f p)) (sym (cond-false _ _ _ (ne_eqb p n q))) (o.high _))
      (cases_eq p n)

  in_turn : (b : Bool) (e : Ends V) (v : V) → Rises s b e.lower v → Rises s b v e.upper → Encloses s (turned_round b e) v
  in_turn true e v p q = (q, p)
  in_turn false e v p q = (p, q)

module _ {V : Type 0} {s : Scale V} (o : Lattice s) {t : Table} (a : Accepted t) (σ σ' : ℕ → ℕ → V) (n : ℕ) (agree : Agree (suc n) t σ σ') where
  abbrev Enclosed : ℕ → Type 0
  Enclosed k = Encloses s (ends s σ n t k) (val s σ' t k n)

  enclosed_at_once : (k : ℕ) → k < size t → at_once (node t k).kind ≡ true → Enclosed k
  enclosed_at_once k h e =
      let c = settled_at_once a k h s σ (suc n) e in
      let is = sound s o t a σ σ' (suc n) agree k n h (omega arith) in
      subst (λ q. Encloses s q (val s σ' t k n)) (sym (ends_at_once s σ n a k h e)) (at_most_equal o _ _ is, at_most_equal o _ _ (sym is))

  enclosed_later : (k : ℕ) → k < size t → Later (node t k).kind → ((j : ℕ) → j < k → Enclosed j) → Enclosed k
  enclosed_later k h later before =
      let x = node t k in
      let b = operands_before a k h later.2 in
      let l = before _ b.0 in
      let r = before _ b.1 in
      let vl = val s σ' t x.left in
      let vr = val s σ' t x.right in
      let same = ap (λ v. v n) (val_inner a k h s σ' later.2) ∙ sym (unsampled s x.left x.from x.to vl vr n x.kind σ σ' later.2) in
      subst₂ (Encloses s) (sym (ends_later s σ n a k h later)) (sym same)
      (in_turn o n (turned x.kind) _ _
      (monotone s o x σ _ _ vl vr n (a.windows k h) (λ p d. over_low o n _ vl p l.0) (λ w p d. over_low o n _ vr p r.0))
      (monotone s o x σ vl vr _ _ n (a.windows k h) (λ p d. under_high o n _ vl p l.1) (λ w p d. under_high o n _ vr p r.1)))

pub enclosing : {V : Type 0} → Enclosing V
enclosing s o t a σ σ' n agree =
    by_number (Enclosed o a σ σ' n agree) (size t) (λ k h before.
    ⊎_elim (enclosed_at_once o a σ σ' n agree k h) (λ later. enclosed_later o a σ σ' n agree k h later before) (once_or_later (node t k).kind))
