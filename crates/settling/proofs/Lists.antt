-- Lists made from a range of numbers. Assumes nothing.
use Rattle.std.proofs.Common.{◌≡◌, ℕ, zero, suc, ◌+◌, ◌<◌, ◌≤◌, List, [], ◌∷◌, ◌++◌, map, sym, refl, ap, ◌∙◌, ap₂, append_assoc, append-nil, arith}
use Rattle.std.specs.List.{range_with_len, flat_map, AllByRecursion}
use Rattle.std.proofs.ByRecursion.{All-append}

module _ {X : Type 0} where
  pub map_same : (f g : ℕ → X) (a c : ℕ) → ((p : ℕ) → a ≤ p → p < a + c → f p ≡ g p) → map f (range_with_len a c) ≡ map g (range_with_len a c)
  map_same f g a zero h = refl
  map_same f g a (suc c) h = ap₂ (λ x l. x ∷ l) (h a (omega arith) (omega arith)) (map_same f g (a + 1) c (λ p i j. h p (omega arith) (omega arith)))

  -- first c of them, and the other d
  pub map_parts : (f : ℕ → X) (a c d b n : ℕ) → a + c ≡ b → c + d ≡ n → map f (range_with_len a n) ≡ map f (range_with_len a c) ++ map f (range_with_len b d)
  map_parts f a zero d b n e h = let start : a ≡ b = omega arith in let all : n ≡ d = omega arith in ap₂ (λ i j. map f (range_with_len i j)) start all
  map_parts f a (suc c) d b n e h =
      let long : n ≡ suc (c + d) = omega arith in
      ap (λ j. map f (range_with_len a j)) long ∙ ap (λ l. f a ∷ l) (map_parts f (a + 1) c d b (c + d) (omega arith) refl)

module _ {X Y : Type 0} where
  pub joined_append : (f : X → List Y) (xs ys : List X) → flat_map f (xs ++ ys) ≡ flat_map f xs ++ flat_map f ys
  joined_append f [] ys = refl
  joined_append f (x ∷ xs) ys = ap (λ l. f x ++ l) (joined_append f xs ys) ∙ sym (append_assoc (f x) (flat_map f xs) (flat_map f ys))

module _ {Y : Type 0} where
  -- one number more
  pub joined_next : (f : ℕ → List Y) (a c b : ℕ) → a + c ≡ b → flat_map f (range_with_len a (suc c)) ≡ flat_map f (range_with_len a c) ++ f b
  joined_next f a zero b e = let here : a ≡ b = omega arith in append-nil (f a) ∙ ap f here
  joined_next f a (suc c) b e =
      ap (λ l. f a ++ l) (joined_next f (a + 1) c b (omega arith)) ∙ sym (append_assoc (f a) (flat_map f (range_with_len (a + 1) c)) (f b))

  pub joined_same : (f g : ℕ → List Y) (a c : ℕ) → ((p : ℕ) → a ≤ p → p < a + c → f p ≡ g p) → flat_map f (range_with_len a c) ≡ flat_map g (range_with_len a c)
  joined_same f g a zero h = refl
  joined_same f g a (suc c) h = ap₂ (λ x l. x ++ l) (h a (omega arith) (omega arith)) (joined_same f g (a + 1) c (λ p i j. h p (omega arith) (omega arith)))

  pub all_joined : (P : Y → Type 0) (f : ℕ → List Y) (a c : ℕ) → ((p : ℕ) → a ≤ p → p < a + c → AllByRecursion P (f p)) → AllByRecursion P (flat_map f (range_with_len a c))
  all_joined P f a zero h = tt
  all_joined P f a (suc c) h =
      All-append P (f a) (flat_map f (range_with_len (a + 1) c)) (h a (omega arith) (omega arith)) (all_joined P f (a + 1) c (λ p i j. h p (omega arith) (omega arith)))
