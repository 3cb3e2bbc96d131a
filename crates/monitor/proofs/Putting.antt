-- Records put one after another, as many as there is room for. Assumes nothing.
use Rattle.std.proofs.Common.{◌≡◌, ℕ, zero, suc, ◌-◌, ◌≤◌, List, [], ◌∷◌, ◌++◌, length, take, sym, ap, ◌∙◌, ap₂, arith}
use Rattle.std.proofs.lemmas.List.{append_assoc, append-nil, length-append, take_all}
use Rattle.record.specs.declared.Record.{Record}
use Rattle.monitor.specs.Issuing.{Offered, Issued}

take_none : {X : Type 0} (n : ℕ) → take {A = X} n [] ≡ []
take_none n = take_all n [] (omega arith)

-- the first n of two lists one after the other
take_parts : {X : Type 0} (n : ℕ) (xs ys : List X) → take n (xs ++ ys) ≡ take n xs ++ take (n - length xs) ys
take_parts n [] ys = let all : n ≡ n - 0 = omega arith in ap₂ (λ l i. l ++ take i ys) (sym (take_none n)) all
take_parts zero (x ∷ xs) ys = let none : 0 ≡ 0 - length (x ∷ xs) = omega arith in ap (λ i. take i ys) none
take_parts (suc n) (x ∷ xs) ys = let less : n - length xs ≡ suc n - length (x ∷ xs) = omega arith in ap (λ l. x ∷ l) (take_parts n xs ys) ∙ ap (λ i. x ∷ take n xs ++ take i ys) less

module _ {S V : Type 0} (waiting : S → List (Record V)) (free : S → ℕ) where
  -- none
  pub offered_none : (before : S) → Offered waiting free before before []
  offered_none before = record {
    waits = sym (ap (λ l. waiting before ++ l) (take_none (free before)) ∙ append-nil (waiting before));
    left = omega arith;
  }

  -- some, and then others
  pub offered_more : (before now after : S) (xs ys : List (Record V)) → Offered waiting free before now xs → Offered waiting free now after ys → Offered waiting free before after (xs ++ ys)
  offered_more before now after xs ys first then =
      let n = free before in
      record {
        waits =
            then.waits
            ∙ ap₂ (λ l m. l ++ take m ys) first.waits first.left
            ∙ append_assoc (waiting before) (take n xs) (take (n - length xs) ys)
            ∙ ap (λ l. waiting before ++ l) (sym (take_parts n xs ys));
        left = omega (arith, then.left, first.left, length-append xs ys);
      }

  -- where there is room for all
  pub all_issued : (before after : S) (xs : List (Record V)) → length xs ≤ free before → Offered waiting free before after xs → Issued waiting free before after xs
  all_issued before after xs room offered = record {
    waits = offered.waits ∙ ap (λ l. waiting before ++ l) (take_all (free before) xs room);
    left = omega (arith, offered.left);
  }
