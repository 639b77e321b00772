-- Lists in another order.
--     order-length     they are as long
--     order-member     and have the same members
use Rattle.std.specs.Prelude.{◌≡◌, refl, length}
use Rattle.std.proofs.Common.{◌∙◌, arith}
use mathlib.Core.List.{List, Memᴰ, Permᴰ}

module _ {A : Type 0} where
  pub order-length : {L M : List A} → Permᴰ L M → length L ≡ length M
  order-length Permᴰ.nil = refl
  order-length (Permᴰ.cons e p) = let h = order-length p in omega arith
  order-length (Permᴰ.swap e f) = refl
  order-length (Permᴰ.trans p q) = order-length p ∙ order-length q

  pub order-member : {L M : List A} → Permᴰ L M → (a : A) → Memᴰ a L → Memᴰ a M
  order-member Permᴰ.nil a m = m
  order-member (Permᴰ.cons e d) a (Memᴰ.head f) = Memᴰ.head (f ∙ e)
  order-member (Permᴰ.cons e d) a (Memᴰ.tail m) = Memᴰ.tail (order-member d a m)
  order-member (Permᴰ.swap e f) a (Memᴰ.head g) = Memᴰ.tail (Memᴰ.head (g ∙ e))
  order-member (Permᴰ.swap e f) a (Memᴰ.tail (Memᴰ.head g)) = Memᴰ.head (g ∙ f)
  order-member (Permᴰ.swap e f) a (Memᴰ.tail (Memᴰ.tail m)) = Memᴰ.tail (Memᴰ.tail m)
  order-member (Permᴰ.trans c d) a m = order-member d a (order-member c a m)
