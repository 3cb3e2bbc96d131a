-- The scale of yes and no: no is lowest. Assumes nothing.
use Rattle.std.specs.Prelude.{ℕ, Bool, true, false}
use Rattle.scale.specs.Order.{Scale}
use Rattle.scale.specs.declared.yes_no.YesNo.{YesNo}
use Rattle.scale.specs.declared.yes_no.YesNo.TheVariants.{No, Yes}

abbrev pub below : YesNo → YesNo → Bool
below No b = true
below Yes No = false
below Yes Yes = true

abbrev pub both : YesNo → YesNo → YesNo
both No b = No
both Yes b = b

abbrev pub either : YesNo → YesNo → YesNo
either No b = b
either Yes b = Yes

abbrev pub other : YesNo → YesNo
other No = Yes
other Yes = No

abbrev pub yes_no : Scale YesNo
yes_no = record { leq = below; lowest = No; highest = Yes; lesser = both; greater = either; reversed = other }

abbrev pub yes_no_code : YesNo → ℕ
yes_no_code No = 0
yes_no_code Yes = 1
