-- Where the rows of a list lie. Assumes nothing.
use Rattle.std.proofs.Common.{◌≡◌, ℕ, ◌+◌, ◌*◌, ◌/◌, ◌<◌, List, length, get_or, None, Ok, ap, ◌∙◌, arith}
use Rattle.std.proofs.lemmas.Nat.{mul-add-lt, div-add-mod', mod_below}
use Rattle.std.proofs.lemmas.List.{get_or_read}
use Rattle.std.proofs.lemmas.Bool.Decides.{nat_tests}
use Rattle.source.specs.Frames.{outside, answer}
use Rattle.source.specs.WholeRows.{whole_rows, Whole, rows}
use Rattle.source.proofs.Asking.{answers, in_length, in_width}

-- a place of a whole row lies in the list
in_whole_rows : (n w t k : ℕ) → t < whole_rows n w → k < w → t * w + k < n
in_whole_rows n w t k p q =
    let h : whole_rows n w ≡ n / w = grind (arith, nat_tests) in
    let r : t < n / w = omega arith in
    omega (arith, mul-add-lt t w k (n / w) r q, div-add-mod' n w)

pub whole : (n w : ℕ) → Whole n w (whole_rows n w)
whole n w = record {
  fit = grind (arith, nat_tests, div-add-mod' n w);
  most = λ h. let e : whole_rows n w ≡ n / w = grind (arith, nat_tests) in rw e (omega (arith, div-add-mod' n w, mod_below n w h));
  empty = λ e. grind (arith, nat_tests);
}

-- a question that does not lie outside the rows
module _ {V : Type 0} (blank : V) (values : List V) (width t k : ℕ) (inside : None ≡ outside 1 (whole_rows (length values) width) width t k) where
  pub in_list : t * width + k < length values
  in_list =
      in_whole_rows (length values) width t k (in_length 1 (rows blank values width) t k inside) (in_width 1 (rows blank values width) t k inside)

  pub reads : {v : V} → v ≡ get_or values (t * width + k) v → Ok v ≡ answer 1 (rows blank values width) t k
  reads {v = v} is = ap Ok (get_or_read values (t * width + k) v in_list is blank) ∙ answers 1 (rows blank values width) t k inside
