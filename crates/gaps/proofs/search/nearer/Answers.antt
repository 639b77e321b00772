-- `nearer` meets its contract: nothing was kept, or the new pair is nearer, or it is not.
use mathlib.Core.Path.{◌≡◌, refl, sym, ◌∙◌, ap, subst}
use mathlib.Core.Bool.{Bool, true, false, not, cond}
use Rattle.std.specs.Prelude.{Option, Some}
use Prim.Native.Nat.{ℕ}
use Rattle.plane.specs.Distance.{no_more}
use Rattle.neighbours.specs.Spacing.{fraction_of}
use Rattle.clearance.specs.declared.measured.Distance.{Distance}
use Rattle.gaps.specs.Search.{best, nearer, KeptSized}
use Rattle.gaps.specs.declared.search.Best.{Best}
use Rattle.gaps.proofs.search.nearer.Goals as goal

pub is_less-requires : goal.is_less-requires
is_less-requires c = (c.requires.0, subst KeptSized c.in-Some.is c.requires.1)

-- by what the test says, which asks for the contrary
compared : (p q : ℕ) (w : Option Distance) (v : Best) (x : Bool) → x ≡ not (no_more (fraction_of v.distance) (fraction_of w))
    → cond x (Some (best p q w)) (Some v) ≡ nearer p q w (Some v)
compared p q w v x e = ap (λ (t : Bool). cond t (Some (best p q w)) (Some v)) e ∙ turned
    (no_more (fraction_of v.distance) (fraction_of w))
  where
    turned : (t : Bool) → cond (not t) (Some (best p q w)) (Some v) ≡ cond t (Some v) (Some (best p q w))
    turned true = refl
    turned false = refl

pub returns-in_default : goal.returns-in_default
returns-in_default c = let args = c.args in sym (ap (nearer args.p args.q args.distance) c.in_default.is)

pub returns-then-not-is_less : goal.returns-then-not-is_less
returns-then-not-is_less c =
    let args = c.args in
    compared args.p args.q args.distance c.in-Some.old false (sym c.if-not-is_less.true ∙ c.is_less.ensures)
    ∙ sym (ap (nearer args.p args.q args.distance) c.in-Some.is)

pub returns-else-not-is_less : goal.returns-else-not-is_less
returns-else-not-is_less c =
    let args = c.args in
    compared args.p args.q args.distance c.in-Some.old true (sym c.if-not-is_less.false ∙ c.is_less.ensures)
    ∙ sym (ap (nearer args.p args.q args.distance) c.in-Some.is)
