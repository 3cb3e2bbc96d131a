-- A book by its bytes. Assumes nothing.
use Rattle.std.specs.Prelude.{◌≡◌, ℕ, ◌-◌, ◌/◌, List, length, Option}
use Rattle.scale.specs.Order.{Scale}
use Rattle.record.specs.declared.Record.{Record}
use Rattle.book.specs.declared.Book.{Book}
use Rattle.book.specs.Format.{value_of}
use Rattle.book.specs.Pages.{records}

-- the bytes that it is lent
abbrev pub lent : {V : Type 0} → Book V → List ℕ
lent b = b.bytes.now

-- how many records were ever put
abbrev pub ever_put : {V : Type 0} → Book V → ℕ
ever_put b = b.count

-- as many records can be put as there are whole sixteens of bytes, less the records ever put
abbrev pub pages_free : {V : Type 0} → Book V → ℕ
pages_free b = length (lent b) / 16 - ever_put b

-- the records put and not yet taken, read from their pages
abbrev pub waiting_in : {V : Type 0} → Scale V → (ℕ → Option V) → Book V → List (Record V)
waiting_in scale decoded b = records (value_of scale decoded) (lent b) b.taken (ever_put b)

-- the bytes are lent to it still: what the newer holds in them is what their owner finds there
abbrev pub SameLoan : {V : Type 0} → Book V → Book V → Type 0
SameLoan old new = new.bytes.ghost_name ≡ old.bytes.ghost_name
