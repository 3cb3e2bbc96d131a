-- What it takes to add a comparator. Assumes nothing.
use Rattle.std.specs.Prelude.{◌≡◌, ℕ, Bool, cond, ◌&&◌, List, [], ◌∷◌, ◌++◌, Some, None, Option, Result, IfOk, nat_lt}
use Rattle.std.specs.Result.{result_err}
use Rattle.comparators.specs.Terms.{fair, as_given}
use Rattle.comparators.specs.Comparisons.{comparison_number, known}
use Rattle.comparators.specs.declared.adding.Given.{Given}
use Rattle.comparators.specs.declared.adding.AddFault.{AddFault}
use Rattle.comparators.specs.declared.adding.AddFault.TheVariants.{Full, BadTerm, BadComparison}
use Rattle.comparators.specs.declared.comparator.Comparator.{Comparator}

-- the number of each refusal
abbrev pub add_number : AddFault → ℕ
add_number Full = 41
add_number BadTerm = 42
add_number BadComparison = 43

-- a refusal unless the test holds, and then what comes next
abbrev pub wants : Bool → AddFault → Option AddFault → Option AddFault
wants test f next = cond test next (Some f)

-- what is made of a plain number or term: a refusal unless the test holds, and else what stands for it
abbrev pub Makes : {X G : Type 0} → (X → G) → Bool → AddFault → G → Result X AddFault → Type 0
Makes stands_for test f given made = (result_err made ≡ wants test f None) × IfOk made (λ x. stands_for x ≡ given)

-- why what is given makes no comparator, if it makes none
abbrev pub unmade : Given → Option AddFault
unmade g = wants (fair g.first && fair g.second) BadTerm (wants (known g.comparison) BadComparison None)

-- why it cannot be added to so many that are held, if it cannot
abbrev pub unadded : ℕ → Given → Option AddFault
unadded held g = wants (nat_lt held 32) Full (unmade g)

-- a comparator has the terms, the comparison and the limit that are given
pub record Says (x : Comparator) (g : Given) : Type 0 where
  pub first : as_given x.first ≡ g.first
  pub second : as_given x.second ≡ g.second
  pub comparison : comparison_number x.comparison ≡ g.comparison
  pub limit : x.limit ≡ g.limit

-- the comparator that is given follows those that were held before
abbrev pub Added : List Comparator → List Comparator → Given → Type 0
Added before after g = (x : Comparator) × (after ≡ before ++ x ∷ []) × Says x g
