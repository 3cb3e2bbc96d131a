-- The kinds of node: their numbers, and which positions of their operands they read. Assumes nothing.
use Rattle.std.specs.Prelude.{◌≡◌, ℕ, ◌+◌, ◌<◌, ◌≤◌, Bool, true, false, [], ◌∷◌, Result, MatchResult, slice_index_or}
use Rattle.table.specs.declared.kind.Kind.{Kind}
use Rattle.table.specs.declared.kind.Kind.TheVariants.{Sample, Not, And, Or, Within, Always, Until, Once, Held, Since}
use Rattle.table.specs.declared.kind.Sort.{Sort}
use Rattle.table.specs.declared.kind.Sort.TheVariants.{Leaf, Point, Ahead, Back}
use Rattle.table.specs.declared.kind.Side.{Side}
use Rattle.table.specs.declared.kind.Shape.{Shape}
use Rattle.table.specs.declared.kind.UnknownKind.{UnknownKind}

-- The kind with each number from 0 to 9. A larger number has none; such a node is refused before anything else is asked
-- of it, so what stands here for it never matters.
abbrev pub numbered : ℕ → Kind
numbered n = slice_index_or (Sample ∷ Not ∷ And ∷ Or ∷ Within ∷ Always ∷ Until ∷ Once ∷ Held ∷ Since ∷ []) n Sample

-- what comes of reading a number as a kind: the kind with this number, or the number itself if no kind has it
abbrev pub Numbered : ℕ → Result Kind UnknownKind → Type 0
Numbered n r = MatchResult r (λ k. (n < 10) × (k ≡ numbered n)) (λ e. (e.0 ≡ n) × (10 ≤ n))

abbrev shaped : Sort → (binary turned : Bool) → Shape
shaped sort binary turned = record { sort = sort; binary = binary; turned = turned }

-- where a kind reads, whether it has a right operand, and whether a larger operand makes a smaller value
abbrev pub shape : Kind → Shape
shape Sample = shaped Leaf false false
shape Not = shaped Point false true
shape And = shaped Point true false
shape Or = shaped Point true false
shape Within = shaped Ahead false false
shape Always = shaped Ahead false false
shape Until = shaped Ahead true false
shape Once = shaped Back false false
shape Held = shaped Back false false
shape Since = shaped Back true false

abbrev pub binary : Kind → Bool
binary k = (shape k).binary

abbrev pub turned : Kind → Bool
turned k = (shape k).turned

abbrev pub leaf : Sort → Bool
leaf Leaf = true
leaf Point = false
leaf Ahead = false
leaf Back = false

abbrev pub back : Sort → Bool
back Leaf = false
back Point = false
back Ahead = false
back Back = true

-- samples and nodes that look back: known at their own tick
abbrev pub prompt : Sort → Bool
prompt Leaf = true
prompt Point = false
prompt Ahead = false
prompt Back = true

abbrev pub sampled : Kind → Bool
sampled k = leaf (shape k).sort

abbrev pub past : Kind → Bool
past k = back (shape k).sort

abbrev pub at_once : Kind → Bool
at_once k = prompt (shape k).sort

-- whether the kind has a window; the others have 0 to 0
abbrev pub windowed : Sort → Bool
windowed Leaf = false
windowed Point = false
windowed Ahead = true
windowed Back = true

-- How far after the position itself a node begins to read an operand. Both sides agree for every kind; whatever depends
-- on where a side is read goes by this.
abbrev pub opens : Kind → Side → ℕ → ℕ
opens k side from = from

-- the positions among which a node at position i reads, by whether it looks back
abbrev pub Span : Bool → (from to : ℕ) → (i p : ℕ) → Type 0
Span true from to i p = (i ≤ p + to) × (p ≤ i)
Span false from to i p = (i + from ≤ p) × (p ≤ i + to)
