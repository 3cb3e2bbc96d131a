-- A node that is taken on position by position. Assumes nothing.
use Rattle.std.proofs.Common.{◌≡◌, ℕ, ◌+◌, ◌-◌, ◌<◌, ◌≤◌, List, [], ◌∷◌, ◌++◌, map, length, get_or, take, drop, sym, refl, ap, ◌∙◌, subst, ap₂, ⊎_elim, arith}
use Rattle.std.proofs.lemmas.List.FromFn.{map-range_with_len_more}
use Rattle.std.proofs.lemmas.List.{append-nil, append_assoc, length_push}
use Rattle.std.proofs.lemmas.Bool.{cases_eq}
use Rattle.std.specs.List.{range_with_len}
use Rattle.queue.specs.Contents.{contents, newest}
use Rattle.queue.specs.Regions.{Stands, Apart}
use Rattle.queue.proofs.Newest.{newest_all, newest_append}
use Rattle.queue.proofs.Regions.{between_apart, length_held}
use Rattle.scale.specs.Order.{Scale}
use Rattle.table.specs.declared.node.Node.{Node}
use Rattle.table.specs.Values.{value_at}
use Rattle.settling.specs.Settled.{seen}
use Rattle.engine.specs.declared.keep.Keep.{Keep}
use Rattle.engine.specs.Kept.{values_in, reading}
use Rattle.engine.specs.Working.{worked}
use Rattle.engine.specs.Settling.{Gained, KeptOne}

-- taken on to q', all of it agreed on
pub record Ran {V : Type 0} (s : Scale V) (sample : V) (memory now : List V) (x : Node) (q q' l r : Keep) : Type 0 where
  pub up : q.count ≤ q'.count
  pub gained : Gained memory now q q' (map (worked s sample memory x l r s.lowest) (range_with_len q.count (q'.count - q.count)))
  pub pass : (p : ℕ) → q.count ≤ p → p < q'.count → worked s sample memory x l r s.lowest p ≡ worked s sample memory x l r s.highest p

-- a queue that nothing was written to reads as before
pub reads_as_before : {V : Type 0} (memory now : List V) (q u : Keep) (y : V) → take q.from now ≡ take q.from memory → drop q.to now ≡ drop q.to memory → Apart q.from q.to u.from u.to → reading y now u ≡ reading y memory u
reads_as_before memory now q u y before behind apart =
    ap (λ part. seen y u.count (λ p. get_or (contents part u.at) (p - (u.count - u.at.len)) y)) (between_apart memory now q.from q.to u.from u.to before behind apart)

-- the values of f from one position up to the one before another, and those with one more
abbrev more : {V : Type 0} → (ℕ → V) → (from to : ℕ) → List V
more f from to = map f (range_with_len from (to - from))

none_more : {V : Type 0} (f : ℕ → V) (from : ℕ) → more f from from ≡ []
none_more f from = let none : from - from ≡ 0 = omega arith in ap (λ n. map f (range_with_len from n)) none

one_more : {V : Type 0} (f : ℕ → V) (from c : ℕ) → from ≤ c → more f from (c + 1) ≡ more f from c ++ f c ∷ []
one_more f from c h =
    let longer : c + 1 - from ≡ c - from + 1 = omega arith in
    ap (λ n. map f (range_with_len from n)) longer ∙ map-range_with_len_more f from (c - from) c (omega arith)

module _ {V : Type 0} {s : Scale V} {sample : V} {memory : List V} {x : Node} {q l r : Keep} (stands : Stands (length memory) q.from q.to q.at) where
  pub ran_start : Ran s sample memory memory x q q l r
  ran_start =
      let held = values_in memory q in
      let short : length held ≤ q.to - q.from = omega (arith, length_held memory q.from q.to q.at stands, stands.fits.holds) in
      record {
        up = omega arith;
        gained = record {
          begins = refl;
          ends = refl;
          count = omega (arith, ap length (none_more (worked s sample memory x l r s.lowest) q.count));
          stands = stands;
          holds = sym (ap (newest (q.to - q.from)) (ap (λ l. held ++ l) (none_more (worked s sample memory x l r s.lowest) q.count) ∙ append-nil held) ∙ newest_all (q.to - q.from) held short);
          before = refl;
          behind = refl;
        };
        pass = λ p a b. absurd (omega arith);
      }

  module _ (apart_left : Apart q.from q.to l.from l.to) (apart_right : Apart q.from q.to r.from r.to) {now : List V} {q' : Keep} (ran : Ran s sample memory now x q q' l r) where
    -- the operands' queues are as they were, so what is worked out is too
    pub worked_as_before : (y : V) (p : ℕ) → worked s sample now x l r y p ≡ worked s sample memory x l r y p
    worked_as_before y p =
        let g = ran.gained in
        ap₂ (λ f h. value_at s x (λ n c. sample) f h p) (reads_as_before memory now q l y g.before g.behind apart_left) (reads_as_before memory now q r y g.before g.behind apart_right)

    pub ran_step : length now ≡ length memory → {then : List V} {q'' : Keep} {low high : V} → KeptOne now then q' low q'' → low ≡ worked s sample now x l r s.lowest q'.count → high ≡ worked s sample now x l r s.highest q'.count → low ≡ high → Ran s sample memory then x q q'' l r
    ran_step long {then} {q''} {low} {high} kept is-low is-high agree =
        let f = worked s sample memory x l r s.lowest in
        let g = ran.gained in
        let count : q''.count ≡ q'.count + 1 = kept.count in
        let here : low ≡ f q'.count = is-low ∙ worked_as_before s.lowest q'.count in
        let cap : q'.to - q'.from ≡ q.to - q.from = ap₂ (λ a b. a - b) g.ends g.begins in
        let all : more f q.count q''.count ≡ more f q.count q'.count ++ low ∷ [] = ap (more f q.count) count ∙ one_more f q.count q'.count ran.up ∙ ap (λ v. more f q.count q'.count ++ v ∷ []) (sym here) in
        record {
          up = omega (arith, ran.up);
          gained = record {
            begins = kept.begins ∙ g.begins;
            ends = kept.ends ∙ g.ends;
            count = omega (arith, count, ap length all, length_push (more f q.count q'.count) low, g.count);
            stands = subst (λ n. Stands n q.from q.to q''.at) long (subst (λ a. Stands (length now) a q.to q''.at) g.begins (subst (λ b. Stands (length now) q'.from b q''.at) g.ends kept.stands));
            holds =
                kept.holds
                ∙ ap₂ (λ n l. newest n (l ++ low ∷ [])) cap g.holds
                ∙ newest_append (q.to - q.from) (values_in memory q ++ more f q.count q'.count) (low ∷ [])
                ∙ ap (newest (q.to - q.from)) (append_assoc (values_in memory q) (more f q.count q'.count) (low ∷ []) ∙ ap (λ l. values_in memory q ++ l) (sym all));
            before = ap (λ a. take a then) (sym g.begins) ∙ kept.before ∙ ap (λ a. take a now) g.begins ∙ g.before;
            behind = ap (λ b. drop b then) (sym g.ends) ∙ kept.behind ∙ ap (λ b. drop b now) g.ends ∙ g.behind;
          };
          pass = λ p a b. ⊎_elim
              (λ e. subst (λ p. worked s sample memory x l r s.lowest p ≡ worked s sample memory x l r s.highest p) (sym e) (sym (worked_as_before s.lowest q'.count) ∙ sym is-low ∙ agree ∙ is-high ∙ worked_as_before s.highest q'.count))
              (λ ne. ran.pass p a (omega (arith, count)))
              (cases_eq p q'.count);
        }
