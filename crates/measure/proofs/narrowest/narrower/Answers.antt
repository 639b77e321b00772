-- `narrower` meets its contract: the fractions decide, then the positions.
use mathlib.Core.Path.{◌≡◌, refl, sym, ◌∙◌}
use mathlib.Core.Bool.{true}
use Prim.Native.Nat.{◌*◌}
use native.Mathlib.Omega.{arith}
use borrow.Author.Tests.{ltb-true, le-ltb}
use Rattle.plane.proofs.theory.lists.Sought.{true-not-false}
use Rattle.measure.specs.declared.narrowest.Across.{Across}
use Rattle.measure.specs.Scan.{is_narrower, NoNarrower, stays, gives-way}
use Rattle.measure.proofs.narrowest.narrower.Goals as goal

-- a narrower edge is better, wherever it is
narrower-better : (a b : Across) → is_narrower a b ≡ true → NoNarrower b a
narrower-better a b e = let less = ltb-true (a.turn * a.turn * b.squared) (b.turn * b.turn * a.squared) e in record {
  no-narrower = le-ltb (b.turn * b.turn * a.squared) (a.turn * a.turn * b.squared) (omega arith);
  no-earlier = λ f. true-not-false e f;
}

pub returns-then-fraction_less : goal.returns-then-fraction_less
returns-then-fraction_less c = stays refl (narrower-better _ _ (sym c.fraction_less.ensures ∙ c.if-fraction_less.true))

pub returns-then-fraction_less-2 : goal.returns-then-fraction_less-2
returns-then-fraction_less-2 c = gives-way refl (narrower-better _ _ (sym c.fraction_less-2.ensures ∙ c.if-fraction_less-2.true))

pub returns-then-found-best : goal.returns-then-found-best
returns-then-found-best c =
    gives-way refl (record {
      no-narrower = sym c.fraction_less.ensures ∙ c.if-fraction_less.false;
      no-earlier = λ f. omega (arith, c.if-found-best.true);
    })

pub returns-else-found-best : goal.returns-else-found-best
returns-else-found-best c =
    stays refl (record {
      no-narrower = sym c.fraction_less-2.ensures ∙ c.if-fraction_less-2.false;
      no-earlier = λ f. omega (arith, c.if-found-best.false);
    })
