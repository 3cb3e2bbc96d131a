-- The slots read round once, from one of them on. Assumes nothing.
use Rattle.std.proofs.Common.{◌≡◌, ℕ, ◌+◌, ◌-◌, ◌<◌, ◌≤◌, List, [], ◌∷◌, ◌++◌, length, get_or, take, drop, set, sym, ap, ◌∙◌, ⊎_elim, arith}
use lib.Seq.{take-set-lt}
use Rattle.std.proofs.lemmas.List.{length-append, length-drop, length-take, set-append_left, set-append_right, drop-set-add, drop-set-lt, take-set-le, take_more, drop_more, append_assoc, append-nil, take_all, drop_all}
use Rattle.std.proofs.lemmas.Bool.{cases_lt, lt-ltb, le-ltb, cond-true, cond-false}
use Rattle.std.proofs.lemmas.Bool.Decides.{nat_tests}
use Rattle.std.proofs.lemmas.List.{places}
use Rattle.queue.specs.Contents.{slot_at}

-- the two ways to a slot: before the end, and round it
module _ (cap head i : ℕ) where
  pub slot_near : head + i < cap → slot_at cap head i ≡ head + i
  unfolding slot_at
  slot_near near = cond-true _ _ _ (lt-ltb (head + i) cap near)

  pub slot_far : cap ≤ head + i → slot_at cap head i ≡ head + i - cap
  unfolding slot_at
  slot_far far = cond-false _ _ _ (le-ltb (head + i) cap far)

-- the slots read round
unfoldable pub turned : {X : Type 0} → List X → ℕ → List X
turned slots head = drop head slots ++ take head slots

module _ {X : Type 0} (slots : List X) (head : ℕ) where
  pub length_turned : length (turned slots head) ≡ length slots
  unfolding turned
  length_turned = simp (length-append, length-drop, length-take) (omega arith)

  -- what is i-th in the round stands i slots after the head
  module _ (i : ℕ) (x : X) (h : head ≤ length slots) (lt : i < length slots) where
    abbrev n : ℕ
    n = length slots

    abbrev back : ℕ
    back = i - (n - head)

    front : length (drop head slots) ≡ n - head
    front = length-drop head slots

    slot_back : n ≤ head + i → slot_at n head i ≡ back
    slot_back far = slot_far n head i far ∙ omega arith

    pub getD_turned : get_or (turned slots head) i x ≡ get_or slots (slot_at n head i) x
    unfolding turned slot_at
    getD_turned = grind (arith, nat_tests, places)

    pub turned_set : turned (set slots (slot_at n head i) x) head ≡ set (turned slots head) i x
    unfolding turned
    turned_set =
        ⊎_elim
        (λ near. rw (slot_near n head i near, drop-set-add head slots i x, take-set-le head slots (head + i) x (omega arith)) (sym (set-append_left (drop head slots) (take head slots) i x (omega (arith, front)))))
        (λ far. rw (slot_back far, drop-set-lt head slots back x (omega arith), take-set-lt head slots back x (omega arith)) (sym (set-append_right (drop head slots) (take head slots) (n - head) i x front (omega arith))))
        (cases_lt (head + i) n)

  -- the round but for its first slot
  unfoldable pub rest : List X
  rest = drop (head + 1) slots ++ take head slots

  -- a round from the next slot on has the first slot last
  module _ (d : X) (h : head < length slots) where
    pub length_rest : length rest + 1 ≡ length slots
    unfolding rest
    length_rest = simp (length-append, length-drop, length-take) (omega arith)

    pub turned_first : turned slots head ≡ get_or slots head d ∷ rest
    unfolding turned rest
    turned_first = ap (λ l. l ++ take head slots) (drop_more slots head d h)

    turned_on : turned slots (head + 1) ≡ rest ++ get_or slots head d ∷ []
    unfolding turned rest
    turned_on = ap (λ l. drop (head + 1) slots ++ l) (take_more slots head d h) ∙ sym (append_assoc (drop (head + 1) slots) (take head slots) (get_or slots head d ∷ []))

    turned_over : length slots ≤ head + 1 → turned slots 0 ≡ turned slots (head + 1)
    unfolding turned
    turned_over end = rw (drop_all (head + 1) slots end, take_all (head + 1) slots end) (append-nil slots)

    pub turned_next : turned slots (slot_at (length slots) head 1) ≡ rest ++ get_or slots head d ∷ []
    turned_next =
        ⊎_elim
        (λ near. ap (turned slots) (slot_near (length slots) head 1 near) ∙ turned_on)
        (λ far. let first : head + 1 - length slots ≡ 0 = omega arith in ap (turned slots) (slot_far (length slots) head 1 far ∙ first) ∙ turned_over far ∙ turned_on)
        (cases_lt (head + 1) (length slots))
