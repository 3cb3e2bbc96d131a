-- What a table costs, from its lists. Assumes nothing.
use Rattle.std.proofs.Common.{◌≡◌, ℕ, zero, suc, ◌+◌, ◌-◌, ◌*◌, ◌^◌, ◌<◌, ◌≤◌, max, Bool, true, false, cond, eqb, ◌||◌, List, length, get_or, take, sum, refl, sym, ap, ap₂, subst, ⊎_elim, ◌∙◌, add-one, arith}
use Rattle.std.proofs.lemmas.Bool.{cases_eq}
use Rattle.std.proofs.lemmas.List.{get_or-take, length-take-le, take_all}
use Rattle.std.proofs.lemmas.List.Folds.{list_any_more}
use Rattle.std.proofs.lemmas.List.Sums.{fold_more}
use denote.Param.Members.{Mut}
use Rattle.std.specs.Array.{IsFromFnResultFrom}
use Rattle.std.specs.Fn.{Called}
use Rattle.std.specs.List.{fold, list_any, sum_by}
use Rattle.table.specs.declared.node.Lag.{Lag}
use Rattle.table.specs.declared.node.Node.{Node}
use Rattle.table.specs.Tables.{Table, blank}
use Rattle.table.specs.Lags.{lags}
use Rattle.table.specs.Places.{most, total, places, need, burst, slack}
use Rattle.table.specs.Refusals.{any, used}
use Rattle.table_check.specs.Judging.{of_lists, wanted_by, by_nodes, by_rules, rule_burst, is_parent}

-- what takes in one element of a list after the other is a fold
module _ {X Y : Type 0} (f : Y → X → Y) (r : ℕ → Y) (xs : List X) (d : X) (step : (i : ℕ) → i < length xs → r (suc i) ≡ f (r i) (get_or xs i d)) where
  folded_so_far : (i : ℕ) → i ≤ length xs → r i ≡ fold f (r 0) (take i xs)
  folded_so_far zero h = refl
  folded_so_far (suc i) h = step i (omega arith) ∙ ap (λ y. f y (get_or xs i d)) (folded_so_far i (omega arith)) ∙ sym (fold_more f (r 0) xs i d (omega arith)) ∙ ap (λ n. fold f (r 0) (take n xs)) (add-one i)

  folded : r (length xs) ≡ fold f (r 0) xs
  folded = folded_so_far (length xs) (omega arith) ∙ ap (fold f (r 0)) (take_all (length xs) xs (omega arith))

module _ {X : Type 0} (h : X → ℕ) (xs : List X) (d : X) where
  most_listed : most (length xs) (λ j. h (get_or xs j d)) ≡ fold (λ m x. max m (h x)) 0 xs
  most_listed = folded (λ m x. max m (h x)) (λ n. most n (λ j. h (get_or xs j d))) xs d (λ i lt. refl)

  total_listed : total (length xs) (λ j. h (get_or xs j d)) ≡ sum_by h xs
  total_listed = folded (λ m x. m + h x) (λ n. total n (λ j. h (get_or xs j d))) xs d (λ i lt. refl)

module _ {X : Type 0} (p : X → Bool) (xs : List X) (d : X) where
  any_so_far : (i : ℕ) → i ≤ length xs → any i (λ j. p (get_or xs j d)) ≡ list_any p (take i xs)
  any_so_far zero h = refl
  any_so_far (suc i) h = ap (λ b. b || p (get_or xs i d)) (any_so_far i (omega arith)) ∙ sym (list_any_more p xs i d (omega arith)) ∙ ap (λ n. list_any p (take n xs)) (add-one i)

  pub any_listed : any (length xs) (λ j. p (get_or xs j d)) ≡ list_any p xs
  any_listed = any_so_far (length xs) (omega arith) ∙ ap (list_any p) (take_all (length xs) xs (omega arith))

-- the most of equal numbers, as far as there is one
most_of_one : (a b : Bool) (s : ℕ) → max (cond a s 0) (cond b s 0) ≡ cond (a || b) s 0
most_of_one true true s = omega arith
most_of_one true false s = omega arith
most_of_one false b s = omega arith

most_where : (n : ℕ) (test : ℕ → Bool) (s : ℕ) → most n (λ j. cond (test j) s 0) ≡ cond (any n test) s 0
most_where zero test s = refl
most_where (suc n) test s = ap (λ m. max m (cond (test n) s 0)) (most_where n test s) ∙ most_of_one (any n test) (test n) s

same_total : (n : ℕ) (f g : ℕ → ℕ) → ((k : ℕ) → k < n → f k ≡ g k) → total n f ≡ total n g
same_total zero f g h = refl
same_total (suc n) f g h = omega (arith, same_total n f g (λ k i. h k (omega arith)), h n (omega arith))

module _ (nodes : List Node) (ls : List Lag) (rules : List ℕ) (are : ls ≡ lags nodes) where
  pub kept_places : (k : ℕ) → 1 + max (by_nodes ls k nodes) (by_rules ls k rules) ≡ places (of_lists nodes rules) k
  unfolding places
  kept_places k =
      let t = of_lists nodes rules in
      let parents : most (length nodes) (λ j. wanted_by (lags nodes) k (get_or nodes j blank)) ≡ by_nodes (lags nodes) k nodes = most_listed (wanted_by (lags nodes) k) nodes blank in
      let own : most (length rules) (λ r. cond (eqb (get_or rules r 0) k) (slack t k) 0) ≡ by_rules (lags nodes) k rules = most_where (length rules) (λ r. eqb (get_or rules r 0) k) (slack t k) ∙ ap (λ b. cond b (slack t k) 0) (any_listed (λ r. eqb r k) rules 0) in
      ap (λ l. 1 + max (by_nodes l k nodes) (by_rules l k rules)) are ∙ (λ i. 1 + max (sym parents i) (sym own i))

  pub whole_burst : sum_by (rule_burst ls) rules ≡ burst (of_lists nodes rules)
  unfolding burst
  whole_burst = ap (λ l. sum_by (rule_burst l) rules) are ∙ sym (total_listed (rule_burst (lags nodes)) rules 0)

-- the places that stand first in an array are all that the memory is for
pub whole_need : (nodes : List Node) (rules xs : List ℕ) → length nodes ≤ length xs → ((k : ℕ) → k < length nodes → get_or xs k 0 ≡ places (of_lists nodes rules) k) → let part = take (length nodes - 0) xs in sum part + 2 * length part ≡ need (of_lists nodes rules)
unfolding need
whole_need nodes rules xs long h =
    let n = length nodes in
    let part = take n xs in
    let cut : n - 0 ≡ n = omega arith in
    let short : length part ≡ n = length-take-le n xs long in
    let all : total n (λ j. get_or part j 0) ≡ total n (places (of_lists nodes rules)) = same_total n _ _ (λ k i. get_or-take n xs k 0 i ∙ h k i) in
    ap (λ m. sum (take m xs) + 2 * length (take m xs)) cut
    ∙ ap (λ s. s + 2 * length part) (sym (total_listed (λ x. x) part 0))
    ∙ ap (λ m. total m (λ j. get_or part j 0) + 2 * m) short
    ∙ ap (λ s. s + 2 * n) all

-- and it is little where no node keeps much
total_small : (n : ℕ) (f : ℕ → ℕ) (most : ℕ) → ((k : ℕ) → k < n → f k ≤ most) → total n f ≤ most * n
total_small zero f most h = omega arith
total_small (suc n) f most h = omega (arith, total_small n f most (λ k i. h k (omega arith)), h n (omega arith))

pub need_small : (t : Table) → length t.nodes ≤ 64 → ((k : ℕ) → k < length t.nodes → places t k ≤ 131072) → need t < 2 ^ 32
unfolding need
need_small t few h = omega (arith, total_small (length t.nodes) (places t) 131072 h)

-- whether node k is used, from the lists
pub used_listed : (nodes : List Node) (rules : List ℕ) (k : ℕ) → used (of_lists nodes rules) k ≡ (list_any (λ x. is_parent x k) nodes || list_any (λ r. eqb r k) rules)
used_listed nodes rules k = ap₂ (λ a b. a || b) (any_listed (λ x. is_parent x k) nodes blank) (any_listed (λ r. eqb r k) rules 0)

-- the elements of an array that is made by calls, where each call gives P and leaves the closure as it is
module _ {F : Type 0} (g : Mut F (ℕ × Unit {0}) ℕ) (f : F) (P : ℕ → ℕ → Type 0) (called : (i y : ℕ) (q : F) → Called g f (i, tt) y q → (q ≡ f) × P i y) where
  pub made : (n i : ℕ) (ys : List ℕ) → IsFromFnResultFrom g f ys i n → (k : ℕ) → i ≤ k → k < i + n → P k (get_or ys k 0)
  made zero i ys h k a b = absurd (omega arith)
  made (suc n) i ys h k a b =
      let here = called i h.1 h.0 h.3 in
      ⊎_elim
      (λ e. subst (λ j. P j (get_or ys j 0)) (sym e) (subst (P i) (sym (h.2.1 0)) here.1))
      (λ ne. made n (i + 1) ys (subst (λ q. IsFromFnResultFrom g q ys (i + 1) n) here.0 h.4) k (omega arith) (omega arith))
      (cases_eq k i)
