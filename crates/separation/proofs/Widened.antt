-- A number of 32 bits that was made one of 64, where a term is taken apart by `machine`.
use mathlib.Core.Path.{◌≡◌, ◌∙◌}
use lib.IntN.{ℤ}
use Rattle.integer.specs.Machine.{Machine}

abbrev pub widened : {x v : ℤ} → x ≡ v → Machine v → Machine x
widened e m = record {
  value = m.value;
  bound = m.bound;
  within = m.within;
  good = m.good;
  is = λ t. e ∙ m.is t;
}
