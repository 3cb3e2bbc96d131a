-- The first fault of tests that are made one after the other. Assumes nothing.
use Rattle.std.proofs.Common.{◌≡◌, ℕ, zero, suc, ◌+◌, ◌<◌, ◌≤◌, true, false, List, [], ◌∷◌, ◌++◌, Some, None, sym, refl, ap, ◌∙◌, subst, ⊎_elim, arith}
use Rattle.std.proofs.ByRecursion.{All-append}
use Rattle.std.proofs.lemmas.Bool.{cases_Bool, cases_eq, cond-true, cond-false}
use Rattle.std.specs.List.{range_with_len, flat_map, AllByRecursion}
use Rattle.table.specs.declared.fault.TableFault.{TableFault}
use Rattle.table.specs.Refusals.{Test, first}

-- the fault of a test is not there
abbrev pub Absent : Test → Type 0
Absent t = t.there ≡ false

pub none_there : (ts : List Test) → first ts ≡ None → AllByRecursion Absent ts
none_there [] e = tt
none_there (t ∷ ts) e =
    ⊎_elim
    (λ there. let hit : first (t ∷ ts) ≡ Some t.fault = cond-true _ _ _ there in cc)
    (λ gone. (gone, none_there ts (sym (cond-false _ _ _ gone) ∙ e)))
    (cases_Bool t.there)

pub first_absent : (ts : List Test) → AllByRecursion Absent ts → first ts ≡ None
first_absent [] gone = refl
first_absent (t ∷ ts) gone = cond-false _ _ _ gone.0 ∙ first_absent ts gone.1

-- what is so of each fault that is there is so of the first
pub first_holds : (Q : TableFault → Type 0) (f : TableFault) (ts : List Test) → AllByRecursion (λ t. t.there ≡ true → Q t.fault) ts → first ts ≡ Some f → Q f
first_holds Q f [] all e = cc
first_holds Q f (t ∷ ts) all e =
    ⊎_elim
    (λ there. let own : Some t.fault ≡ Some f = sym (cond-true _ _ _ there) ∙ e in let same : t.fault ≡ f = cc in subst Q same (all.0 there))
    (λ gone. first_holds Q f ts all.1 (sym (cond-false _ _ _ gone) ∙ e))
    (cases_Bool t.there)

pub first_none : (xs ys : List Test) → first xs ≡ None → first (xs ++ ys) ≡ first ys
first_none [] ys e = refl
first_none (x ∷ xs) ys e = let gone = (none_there (x ∷ xs) e).0 in cond-false _ _ _ gone ∙ first_none xs ys (sym (cond-false _ _ _ gone) ∙ e)

pub first_some : (xs ys : List Test) (f : TableFault) → first xs ≡ Some f → first (xs ++ ys) ≡ Some f
first_some [] ys f e = cc
first_some (x ∷ xs) ys f e =
    ⊎_elim
    (λ there. cond-true _ _ _ there ∙ sym (cond-true _ _ _ there) ∙ e)
    (λ gone. cond-false _ _ _ gone ∙ first_some xs ys f (sym (cond-false _ _ _ gone) ∙ e))
    (cases_Bool x.there)

pub none_both : (xs ys : List Test) → first (xs ++ ys) ≡ None → (first xs ≡ None) × (first ys ≡ None)
none_both [] ys e = (refl, e)
none_both (x ∷ xs) ys e =
    let gone = (none_there (x ∷ (xs ++ ys)) e).0 in
    let rest = none_both xs ys (sym (cond-false _ _ _ gone) ∙ e) in
    (cond-false _ _ _ gone ∙ rest.0, rest.1)

pub all_parts : (P : Test → Type 0) (xs ys : List Test) → AllByRecursion P (xs ++ ys) → AllByRecursion P xs × AllByRecursion P ys
all_parts P [] ys all = (tt, all)
all_parts P (x ∷ xs) ys all = let rest = all_parts P xs ys all.1 in ((all.0, rest.0), rest.1)

-- tests made for each number in turn
module _ (g : ℕ → List Test) where
  pub none_at_all : (a c : ℕ) → ((j : ℕ) → a ≤ j → j < a + c → first (g j) ≡ None) → first (flat_map g (range_with_len a c)) ≡ None
  none_at_all a zero h = refl
  none_at_all a (suc c) h = first_none (g a) _ (h a (omega arith) (omega arith)) ∙ none_at_all (a + 1) c (λ j p q. h j (omega arith) (omega arith))

  pub some_at : (a c j : ℕ) (f : TableFault) → a ≤ j → j < a + c → ((q : ℕ) → a ≤ q → q < j → first (g q) ≡ None) → first (g j) ≡ Some f → first (flat_map g (range_with_len a c)) ≡ Some f
  some_at a zero j f p q before here = absurd (omega arith)
  some_at a (suc c) j f p q before here =
      ⊎_elim
      (λ e. first_some (g a) _ f (ap (λ n. first (g n)) e ∙ here))
      (λ ne. first_none (g a) _ (before a (omega arith) (omega arith)) ∙ some_at (a + 1) c j f (omega arith) (omega arith) (λ n u v. before n (omega arith) v) here)
      (cases_eq a j)

  pub none_each : (a c : ℕ) → first (flat_map g (range_with_len a c)) ≡ None → (j : ℕ) → a ≤ j → j < a + c → first (g j) ≡ None
  none_each a zero h j p q = absurd (omega arith)
  none_each a (suc c) h j p q =
      let both = none_both (g a) (flat_map g (range_with_len (a + 1) c)) h in
      ⊎_elim
      (λ e. ap (λ n. first (g n)) (sym e) ∙ both.0)
      (λ ne. none_each (a + 1) c both.1 j (omega arith) (omega arith))
      (cases_eq a j)

module _ (P : Test → Type 0) (g : ℕ → List Test) where
  pub all_joined : (a c : ℕ) → ((j : ℕ) → a ≤ j → j < a + c → AllByRecursion P (g j)) → AllByRecursion P (flat_map g (range_with_len a c))
  all_joined a zero h = tt
  all_joined a (suc c) h = All-append P (g a) (flat_map g (range_with_len (a + 1) c)) (h a (omega arith) (omega arith)) (all_joined (a + 1) c (λ j p q. h j (omega arith) (omega arith)))

  pub all_each : (a c : ℕ) → AllByRecursion P (flat_map g (range_with_len a c)) → (j : ℕ) → a ≤ j → j < a + c → AllByRecursion P (g j)
  all_each a zero all j p q = absurd (omega arith)
  all_each a (suc c) all j p q =
      let both = all_parts P (g a) (flat_map g (range_with_len (a + 1) c)) all in
      ⊎_elim
      (λ e. subst (λ n. AllByRecursion P (g n)) e both.0)
      (λ ne. all_each (a + 1) c both.1 j (omega arith) (omega arith))
      (cases_eq a j)
