-- One node worked out twice: when both results agree, when they differ, and what then lies between them. Assumes nothing.
use Rattle.std.proofs.Common.{◌≡◌, ℕ, ◌<◌, ◌≤◌, true, sym, ◌∙◌, subst, ⊎_elim}
use Rattle.std.proofs.lemmas.Bool.{cond-true, cond-false, lt-ltb, le-ltb, cases_lt}
use Rattle.scale.specs.Order.{Scale, AtMost, Lattice}
use Rattle.table.specs.declared.kind.Side.TheVariants.{Left, Right}
use Rattle.table.specs.declared.node.Node.{Node}
use Rattle.table.specs.Accepting.{Fits}
use Rattle.table.specs.Kinds.{shape, binary, turned}
use Rattle.table.specs.Tables.{Reads}
use Rattle.table.specs.Values.{value_at}
use Rattle.settling.specs.Settled.{Settled, seen, with_lowest, with_highest}
use Rattle.settling.proofs.Growing.{monotone}
use Rattle.settling.proofs.Orders.{at_most_equal, between, rises_both, rises_equal, apart}
use Rattle.settling.proofs.Sorts.{Later}

pub seen_in : {V : Type 0} (y : V) (c : ℕ) (v : ℕ → V) (p : ℕ) → p < c → seen y c v p ≡ v p
seen_in y c v p h = cond-true _ _ _ (lt-ltb p c h)

pub seen_out : {V : Type 0} (y : V) (c : ℕ) (v : ℕ → V) (p : ℕ) → c ≤ p → seen y c v p ≡ y
seen_out y c v p h = cond-false _ _ _ (le-ltb p c h)

-- what is read of both sides
module _ (x : Node) (i : ℕ) where
  abbrev pub OnLeft : (ℕ → Type 0) → Type 0
  OnLeft P = (p : ℕ) → Reads x Left i p → P p

  abbrev pub OnRight : (ℕ → Type 0) → Type 0
  OnRight P = binary x.kind ≡ true → (p : ℕ) → Reads x Right i p → P p

module _ {V : Type 0} {s : Scale V} (o : Lattice s) (x : Node) (fits : Fits (shape x.kind).sort x.from x.to) (σ : ℕ → ℕ → V) (i : ℕ) where
  -- only what is read counts
  pub local : (l r l' r' : ℕ → V) → OnLeft x i (λ p. l p ≡ l' p) → OnRight x i (λ p. r p ≡ r' p) → value_at s x σ l r i ≡ value_at s x σ l' r' i
  local l r l' r' h k =
      rises_both o (turned x.kind) _ _
      (monotone s o x σ l r l' r' i fits (λ p q. at_most_equal o _ _ (h p q)) (λ b p q. at_most_equal o _ _ (k b p q)))
      (monotone s o x σ l' r' l r i fits (λ p q. at_most_equal o _ _ (sym (h p q))) (λ b p q. at_most_equal o _ _ (sym (k b p q))))

  module _ (l r : Settled V) where
    -- where all that is read is settled, both results agree
    pub alike : OnLeft x i (λ p. p < l.count) → OnRight x i (λ p. p < r.count) → with_lowest s σ x l r i ≡ with_highest s σ x l r i
    alike h k =
        local _ _ _ _
        (λ p q. seen_in _ l.count l.verdict p (h p q) ∙ sym (seen_in _ l.count l.verdict p (h p q)))
        (λ b p q. seen_in _ r.count r.verdict p (k b p q) ∙ sym (seen_in _ r.count r.verdict p (k b p q)))

    -- where nothing that is read is settled, the value is that from y everywhere
    blind : (y : V) → OnLeft x i (λ p. l.count ≤ p) → OnRight x i (λ p. r.count ≤ p) → value_at s x σ (seen y l.count l.verdict) (seen y r.count r.verdict) i ≡ value_at s x σ (λ p. y) (λ p. y) i
    blind y h k =
        local _ _ (λ p. y) (λ p. y)
        (λ p q. seen_out y l.count l.verdict p (h p q))
        (λ b p q. seen_out y r.count r.verdict p (k b p q))

    -- so the results of a later kind differ
    pub unlike : Later x.kind → OnLeft x i (λ p. l.count ≤ p) → OnRight x i (λ p. r.count ≤ p) → with_lowest s σ x l r i ≡ with_highest s σ x l r i → ⊥
    unlike later h k e =
        apart o x.kind x.left x.from x.to σ i later.1 fits
        (rises_equal o (turned x.kind) _ _ (sym (blind s.highest h k) ∙ sym e ∙ blind s.lowest h k))

    -- where both results agree, any values that go on from what is settled give that result
    abbrev GoesOn : Settled V → (ℕ → V) → ℕ → Type 0
    GoesOn q f p = p < q.count → q.verdict p ≡ f p

    from_low : (q : Settled V) (f : ℕ → V) (p : ℕ) → GoesOn q f p → AtMost s (seen s.lowest q.count q.verdict p) (f p)
    from_low q f p h =
        ⊎_elim
        (λ lt. at_most_equal o _ _ (seen_in _ q.count q.verdict p lt ∙ h lt))
        (λ ge. subst (λ y. AtMost s y (f p)) (sym (seen_out _ q.count q.verdict p ge)) (o.low _))
        (cases_lt p q.count)

    to_high : (q : Settled V) (f : ℕ → V) (p : ℕ) → GoesOn q f p → AtMost s (f p) (seen s.highest q.count q.verdict p)
    to_high q f p h =
        ⊎_elim
        (λ lt. at_most_equal o _ _ (sym (seen_in _ q.count q.verdict p lt ∙ h lt)))
        (λ ge. subst (AtMost s (f p)) (sym (seen_out _ q.count q.verdict p ge)) (o.high _))
        (cases_lt p q.count)

    pub pinned : (f g : ℕ → V) → OnLeft x i (GoesOn l f) → OnRight x i (GoesOn r g) → with_lowest s σ x l r i ≡ with_highest s σ x l r i → value_at s x σ f g i ≡ with_lowest s σ x l r i
    pinned f g h k e =
        between o (turned x.kind) _ _ _
        (monotone s o x σ _ _ f g i fits (λ p q. from_low l f p (h p q)) (λ b p q. from_low r g p (k b p q)))
        (monotone s o x σ f g _ _ i fits (λ p q. to_high l f p (h p q)) (λ b p q. to_high r g p (k b p q)))
        e
