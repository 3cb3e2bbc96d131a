-- Bytes by pages of 16, a record to a page. Assumes nothing.
use Rattle.std.specs.Prelude.{ℕ, ◌+◌, ◌-◌, ◌*◌, List, ◌++◌, map, take, drop}
use Rattle.std.specs.List.{range_with_len}
use Rattle.record.specs.declared.Record.{Record}
use Rattle.book.specs.Format.{restored}

-- page n
abbrev pub page_at : List ℕ → ℕ → List ℕ
page_at bytes n = take 16 (drop (16 * n) bytes)

-- page n replaced, and all other bytes as they were
abbrev pub with_page : List ℕ → ℕ → List ℕ → List ℕ
with_page bytes n page = take (16 * n) bytes ++ (page ++ drop (16 * n + 16) bytes)

-- the records on the pages from `from` up to, but not with, `to`
unfoldable pub records : {V : Type 0} → (ℕ → V) → List ℕ → ℕ → ℕ → List (Record V)
records value bytes from to = map (λ n. restored value (page_at bytes n)) (range_with_len from (to - from))
