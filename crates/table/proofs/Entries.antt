-- The entry of a node from the entries before it: all that is ever used of `each`. Assumes nothing.
use Rattle.std.proofs.Common.{◌≡◌, ℕ, zero, suc, ◌+◌, ◌<◌, ◌≤◌, List, [], ◌∷◌, ◌++◌, length, get_or, take, sym, refl, ap, ◌∙◌, arith}
use Rattle.std.proofs.lemmas.List.{length_push, get_or_push, take-take, take_at, take_all, get_or-take}
use Rattle.table.specs.declared.node.Node.{Node}
use Rattle.table.specs.Tables.{after, each}

-- what follows for each number from the smaller ones holds of all below N
pub by_number : (P : ℕ → Type 0) (N : ℕ) → ((k : ℕ) → k < N → ((j : ℕ) → j < k → P j) → P k) → (k : ℕ) → k < N → P k
by_number P N step k h = step k h (earlier k (omega arith))
  where
    earlier : (b : ℕ) → b ≤ N → (j : ℕ) → j < b → P j
    earlier zero c j i = absurd (omega arith)
    earlier (suc b) c j i = step j (omega arith) (λ q e. earlier b (omega arith) q (omega arith))

module _ {X : Type 0} (none : X) (entry : ℕ → Node → X → X → X) where
  -- the entry of x behind those that are done
  abbrev next : List X → Node → X
  next done x = entry (length done) x (get_or done x.left none) (get_or done x.right none)

  -- what is done stays in front
  front : (xs : List Node) (done : List X) → take (length done) (after none entry xs done) ≡ done
  unfolding after
  front [] done = take_all _ done (omega arith)
  front (x ∷ xs) done =
      let more = done ++ next done x ∷ [] in
      sym (take-take (length done) (length more) _ (omega (arith, length_push done (next done x))))
      ∙ ap (take (length done)) (front xs more)
      ∙ take_at done (next done x ∷ []) (length done) refl

  long : (xs : List Node) (done : List X) → length (after none entry xs done) ≡ length done + length xs
  unfolding after
  long [] done = omega arith
  long (x ∷ xs) done = omega (arith, long xs (done ++ next done x ∷ []), length_push done (next done x))

  unrolled : (xs : List Node) (done : List X) (k n : ℕ) (d : X) (b : Node) → k < length xs → length done + k ≡ n → let all = after none entry xs done in let x = get_or xs k b in get_or all n d ≡ entry n x (get_or (take n all) x.left none) (get_or (take n all) x.right none)
  unfolding after
  unrolled [] done k n d b h e = absurd (omega arith)
  unrolled (x ∷ xs) done zero n d b h e =
      let one = next done x in
      let all = after none entry xs (done ++ one ∷ []) in
      let number : length done ≡ n = omega arith in
      let longer : length (done ++ one ∷ []) ≡ suc n = omega (arith, length_push done one) in
      let before : done ≡ take n all = sym (front (x ∷ xs) done) ∙ ap (λ j. take j all) number in
      let with_own : take (suc n) all ≡ done ++ one ∷ [] = ap (λ j. take j all) (sym longer) ∙ front xs (done ++ one ∷ []) in
      sym (get_or-take (suc n) all n d (omega arith))
      ∙ ap (λ l. get_or l n d) with_own
      ∙ get_or_push done one d n number
      ∙ (λ i. entry (number i) x (get_or (before i) x.left none) (get_or (before i) x.right none))
  unrolled (x ∷ xs) done (suc k) n d b h e = unrolled xs (done ++ next done x ∷ []) k n d b (omega arith) (omega (arith, length_push done (next done x)))

  -- there is an entry for each node
  pub length_each : (nodes : List Node) → length (each none entry nodes) ≡ length nodes
  unfolding each
  length_each nodes = omega (arith, long nodes [])

  module _ (nodes : List Node) (b : Node) (n : ℕ) (h : n < length nodes) where
    -- the entry of node n, from the entries before it
    pub entry_is : (d : X) → let all = each none entry nodes in let x = get_or nodes n b in get_or all n d ≡ entry n x (get_or (take n all) x.left none) (get_or (take n all) x.right none)
    unfolding each
    entry_is d = unrolled nodes [] n n d b h (omega arith)

    -- where the operands stand before it, from theirs
    pub entry_from : (get_or nodes n b).left < n → (get_or nodes n b).right < n → let all = each none entry nodes in let x = get_or nodes n b in get_or all n none ≡ entry n x (get_or all x.left none) (get_or all x.right none)
    entry_from p q =
        let all = each none entry nodes in
        let x = get_or nodes n b in
        entry_is none ∙ (λ i. entry n x (get_or-take n all x.left none p i) (get_or-take n all x.right none q i))
