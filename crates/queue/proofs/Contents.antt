-- What a queue holds: how many, which, and what one more or one less leaves. Assumes nothing.
use Rattle.std.proofs.Common.{◌≡◌, ℕ, zero, suc, ◌+◌, ◌-◌, ◌<◌, ◌≤◌, List, [], ◌∷◌, ◌++◌, length, get_or, take, drop, set, Some, None, sym, refl, ap, ◌∙◌, arith}
use Rattle.std.specs.List.{slice_get}
use Rattle.std.proofs.lemmas.List.{length-take-le, get_or-take, take_more_set, take-append-le}
use Rattle.std.proofs.lemmas.Option.{slice_get_past, slice_get_read}
use Rattle.std.proofs.lemmas.Bool.Decides.{nat_tests}
use Rattle.queue.specs.declared.Stand.{Stand}
use Rattle.queue.specs.Contents.{contents, slot_at, Fits}
use Rattle.queue.proofs.Turned.{turned, rest, length_turned, getD_turned, turned_set, length_rest, turned_first, turned_next}

-- the slot that the next element goes to is the same when the oldest has left
pub slot_after_pop : (cap next : ℕ) (at : Stand) → Fits cap at → (at.len ≡ 0 → ⊥) → next ≡ slot_at cap at.head 1 → slot_at cap next (at.len - 1) ≡ slot_at cap at.head at.len
unfolding slot_at
slot_after_pop cap next at fits some is = grind (arith, nat_tests)

take_first : {X : Type 0} (n : ℕ) (x : X) (xs : List X) → (n ≡ 0 → ⊥) → take n (x ∷ xs) ≡ x ∷ take (n - 1) xs
take_first zero x xs some = absurd (some refl)
take_first (suc n) x xs some = let one_less : n ≡ suc n - 1 = omega arith in ap (λ k. x ∷ take k xs) one_less

module _ {X : Type 0} (slots : List X) (at : Stand) where
  abbrev cap : ℕ
  cap = length slots

  abbrev round : List X
  round = turned slots at.head

  -- an empty queue holds nothing
  pub contents_none : at.len ≡ 0 → contents slots at ≡ []
  unfolding contents
  contents_none none = ap (λ n. take n (drop at.head slots ++ take at.head slots)) none

  module _ (fits : Fits cap at) where
    -- a queue holds as many as its stand says
    pub length_contents : length (contents slots at) ≡ at.len
    unfolding contents turned
    length_contents = length-take-le at.len round (omega (arith, length_turned slots at.head, fits.holds))

    -- its i-th oldest stands i slots after its head
    pub nth_contents : (i p : ℕ) (x : X) → i < at.len → p ≡ slot_at cap at.head i → x ≡ get_or slots p x → Some x ≡ slice_get (contents slots at) i
    unfolding contents turned
    nth_contents i p x lt is read =
        let there = get_or-take at.len round i x lt ∙ getD_turned slots at.head i x (omega (arith, fits.begins)) (omega (arith, fits.holds)) in
        sym (slice_get_read (contents slots at) at.len i x (sym length_contents) lt (read ∙ ap (λ j. get_or slots j x) is ∙ sym there))

    pub nth_contents_past : (i : ℕ) → at.len ≤ i → None ≡ slice_get (contents slots at) i
    nth_contents_past i past = sym (slice_get_past (contents slots at) i (omega (arith, length_contents)))

    -- one more, in the slot after its newest
    pub contents_push : (p : ℕ) (x : X) → at.len < cap → p ≡ slot_at cap at.head at.len → contents (set slots p x) (record { head = at.head; len = at.len + 1 }) ≡ contents slots at ++ x ∷ []
    unfolding contents turned
    contents_push p x room is =
        let written = turned_set slots at.head at.len x (omega (arith, fits.begins)) room in
        ap (λ j. take (at.len + 1) (turned (set slots j x) at.head)) is ∙ ap (take (at.len + 1)) written ∙ take_more_set round at.len x (omega (arith, length_turned slots at.head))

    -- its oldest leaves
    pub contents_pop : (next : ℕ) (d : X) → (at.len ≡ 0 → ⊥) → next ≡ slot_at cap at.head 1 → contents slots at ≡ get_or slots at.head d ∷ contents slots (record { head = next; len = at.len - 1 })
    unfolding contents turned
    contents_pop next d some is =
        let inside : at.head < cap = omega (arith, fits.holds, fits.begins) in
        let left = at.len - 1 in
        let on = ap (turned slots) is ∙ turned_next slots at.head d inside in
        let same = ap (take left) on ∙ take-append-le left (rest slots at.head) _ (omega (arith, length_rest slots at.head d inside, fits.holds)) in
        ap (take at.len) (turned_first slots at.head d inside) ∙ take_first at.len _ _ some ∙ ap (λ l. get_or slots at.head d ∷ l) (sym same)
