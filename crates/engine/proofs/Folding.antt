-- Loops over a range of positions: where they begin, one turn, and where they end. Assumes nothing.
use Rattle.std.proofs.Common.{◌≡◌, ℕ, zero, suc, [], ◌∷◌, ◌++◌, fold, add-zero, ◌+◌, ◌-◌, ◌≤◌, sym, ap, ◌∙◌, ap₂, add-one, arith}
use Rattle.std.proofs.lemmas.List.Sums.{fold_push}
use Rattle.std.proofs.lemmas.Fn.{fold_over}
use Rattle.std.proofs.iter.Yields.{nat_range_steps, Range-gives}
use Rattle.std.specs.Iterator.{FoldsItems}
use Rattle.std.specs.List.{range_with_len}
use Rattle.std.specs.declared.ops.Range.{Range}
use denote.Param.Members.{Mut, Called}
use Rattle.scale.specs.Order.{Scale, Lattice}
use Rattle.table.specs.Values.{greatest, least}
use Rattle.settling.proofs.Folds.{greatest_none, least_none, greatest_next, least_next, least_front}
use Rattle.engine.specs.Working.{until_at, since_at}

range_more : (a n : ℕ) → range_with_len a (suc n) ≡ range_with_len a n ++ (a + n) ∷ []
range_more a zero = ap (λ b. b ∷ []) (sym (add-zero a))
range_more a (suc n) = ap (λ l. a ∷ l) (range_more (a + 1) n ∙ ap (λ b. range_with_len (a + 1) n ++ b ∷ []) (omega arith))

-- what joins one position after the other makes of a range what it makes of nothing, and of one position more
module _ {V : Type 0} (join : V → ℕ → V) (a : ℕ) (up_to : ℕ → V) (more : (b : ℕ) → a ≤ b → up_to (suc b) ≡ join (up_to b) b) where
  one_joined : (p : ℕ) {m w : V} → a ≤ p → m ≡ up_to p → w ≡ join m p → w ≡ up_to (p + 1)
  one_joined p h so_far next = next ∙ ap (λ v. join v p) so_far ∙ sym (more p h) ∙ ap up_to (sym (add-one p))

  positions_joined : (n : ℕ) → fold join (up_to a) (range_with_len a n) ≡ up_to (a + n)
  positions_joined zero = ap up_to (sym (add-zero a))
  positions_joined (suc n) =
      ap (fold join (up_to a)) (range_more a n)
      ∙ one_joined (a + n) (omega arith) (positions_joined n) (fold_push join (up_to a) (range_with_len a n) (a + n))
      ∙ ap up_to (omega arith)

-- so does a fold over the range, whose closure joins a position and changes nothing that it holds
module _ {F V : Type 0} (g : Mut F (V × (ℕ × Unit {0})) V) (f : F) (join : V → ℕ → V) (one : (m : V) (p : ℕ) (n : V) (f' : F) → Called g f (m, (p, tt)) n f' → (n ≡ join m p) × (f' ≡ f)) where
  pub range_folded : (range : Range ℕ) (init r : V) → FoldsItems nat_range_steps g range f init r → (up_to : ℕ → V) → init ≡ up_to range.start → ((b : ℕ) → range.start ≤ b → up_to (suc b) ≡ join (up_to b) b) → r ≡ up_to (range.start + (range.end - range.start))
  range_folded range init r ran up_to begins more =
      fold_over nat_range_steps (λ p. p) g (λ ps v. v ≡ fold join (up_to range.start) ps) f
      (λ ps m p n f' so_far call. ((one m p n f' call).0 ∙ ap (λ v. join v p) so_far ∙ sym (fold_push join (up_to range.start) ps p), (one m p n f' call).1))
      range _ init r (Range-gives range) begins ran
      ∙ positions_joined join range.start up_to more (range.end - range.start)

module _ {V : Type 0} (s : Scale V) (l r : ℕ → V) (i : ℕ) where
  -- until and since, at j: the best so far, and the least of left as far as the next right needs it
  pub record UntilSoFar (from j : ℕ) (most run : V) : Type 0 where
    pub best : most ≡ greatest s from j (until_at s l r i from)
    pub runs : run ≡ least s (i + from) (i + j) l

  pub record SinceSoFar (from j : ℕ) (most run : V) : Type 0 where
    pub best : most ≡ greatest s from j (since_at s l r i)
    pub runs : j ≤ i → run ≡ least s (i - j + 1) (i + 1) l

-- the best of f, with its value at j
best_on : {V : Type 0} {s : Scale V} (o : Lattice s) (f : ℕ → V) {from j : ℕ} {most x m : V} → from ≤ j → most ≡ greatest s from j f → x ≡ f j → m ≡ s.greater most x → m ≡ greatest s from (j + 1) f
best_on {V} {s} o f {from} {j} {most} h best at next = one_joined (λ v p. s.greater v (f p)) from (λ p. greatest s from p f) (greatest_next o f from) j h best (next ∙ ap (s.greater most) at)

module _ {V : Type 0} {s : Scale V} (o : Lattice s) {l r : ℕ → V} {i from : ℕ} where
  pub until_begun : {most run : V} → most ≡ s.lowest → run ≡ s.highest → UntilSoFar s l r i from from most run
  until_begun low high = record { best = low ∙ sym (greatest_none o _ from from (omega arith)); runs = high ∙ sym (least_none o l (i + from) (i + from) (omega arith)) }

  pub since_begun : {most run : V} → most ≡ s.lowest → run ≡ least s (i - from + 1) (i + 1) l → SinceSoFar s l r i from from most run
  since_begun low all = record { best = low ∙ sym (greatest_none o _ from from (omega arith)); runs = λ h. all }

  module _ {j : ℕ} (h : from ≤ j) {most run x y m w : V} where
    pub until_on : UntilSoFar s l r i from j most run → x ≡ s.lesser (r (i + j)) run → m ≡ s.greater most x → y ≡ l (i + j) → w ≡ s.lesser run y → UntilSoFar s l r i from (j + 1) m w
    until_on so_far at next left longer = record {
      best = best_on o (until_at s l r i from) h so_far.best (at ∙ ap (s.lesser (r (i + j))) so_far.runs) next;
      runs =
          one_joined (λ v p. s.lesser v (l p)) (i + from) (λ p. least s (i + from) p l) (least_next o l (i + from)) (i + j) (omega arith) so_far.runs (longer ∙ ap (s.lesser run) left)
          ∙ ap (λ q. least s (i + from) q l) (omega arith);
    }

    pub since_on : j ≤ i → SinceSoFar s l r i from j most run → x ≡ s.lesser (r (i - j)) run → m ≡ s.greater most x → y ≡ l (i - j) → w ≡ s.lesser y run → SinceSoFar s l r i from (j + 1) m w
    since_on in_reach so_far at next left longer = record {
      best = best_on o (since_at s l r i) h so_far.best (at ∙ ap (s.lesser (r (i - j))) (so_far.runs in_reach)) next;
      runs = λ more.
          let start : i - (j + 1) + 1 ≡ i - j = omega arith in
          let then : suc (i - j) ≡ i - j + 1 = omega arith in
          longer
          ∙ ap₂ s.lesser left (so_far.runs in_reach ∙ ap (λ q. least s q (i + 1) l) (sym then))
          ∙ sym (least_front s l (i - j) (i + 1) (omega arith))
          ∙ ap (λ q. least s q (i + 1) l) (sym start);
    }
