-- `facing` meets its contract: a walk that begins at the first corner and finds no other place has found that corner.
use mathlib.Core.Path.{◌≡◌, refl, sym, subst}
use Prim.Native.Nat.{zero-le}
use Rattle.std.specs.Prelude.{Option, Some, None}
use Rattle.std.proofs.Common.{rules}
use Rattle.std.proofs.lemmas.Option.{MatchOption-at_none, MatchOption-at_some}
use Rattle.plane.specs.Point.{points, corner}
use Rattle.plane.specs.VectorSum.{vector_sum}
use Rattle.polygon.specs.Point.{at, Small}
use Rattle.calipers.specs.Image.{image}
use Rattle.separation.specs.theory.Image.{image-begun}
use Rattle.separation.specs.theory.Stops.{on_below}
use Rattle.clearance.specs.Stop.{at_first}
use Rattle.clearance.specs.Sight.{Looked}
use Rattle.clearance.specs.declared.facing.Sight.{Sight}
use Rattle.clearance.proofs.facing.facing.Goals as goal
use Rattle.clearance.proofs.facing.facing.Goals.{After-unwrap_or_else}

-- what the second walk saw, or the first
seen : (c : After-unwrap_or_else) (l : Option Sight) → c.look.result ≡ l → Looked c.args.a.now (image c.args.b.now) 0 0 c.or_else.result
seen c None e = search (rules, MatchOption-at_none _ _ e c.or_else.ensures)
seen c (Some r) e =
    subst (Looked c.args.a.now (image c.args.b.now) 0 0) (sym (MatchOption-at_some _ _ r e c.or_else.ensures))
    (subst (Looked c.args.a.now (image c.args.b.now) c.args.i c.args.j) e c.look.ensures)

pub returns : goal.returns
returns c = go c.or_else.result refl (seen c c.look.result refl)
  where
    go : (o : Option Sight) → c.or_else.result ≡ o → Looked c.args.a.now (image c.args.b.now) 0 0 o
        → Looked c.args.a.now (image c.args.b.now) 0 0 (Some c.unwrap_or_else.result)
    go (Some r) e s =
        subst (λ (w : Sight). Looked c.args.a.now (image c.args.b.now) 0 0 (Some w))
        (sym (MatchOption-at_some _ _ r e c.unwrap_or_else.ensures)) s
    go None e none = first none (search (rules, MatchOption-at_none _ _ e c.unwrap_or_else.ensures))
      where
        first : Looked c.args.a.now (image c.args.b.now) 0 0 None
            → Small 4194304 (at c.unwrap_or_else.result.n)
            × (at c.unwrap_or_else.result.n ≡ corner (vector_sum (points c.args.a.now) (points (image c.args.b.now))) 0)
            → Looked c.args.a.now (image c.args.b.now) 0 0 (Some c.unwrap_or_else.result)
        first none f =
            let some = on_below _ _ (image-begun _ _ c.requires.0 c.requires.1) 0 zero-le refl in
            let nowhere = none 0 some refl in
            (f.0, at_first (λ k h. nowhere.no-corner k zero-le h) (λ k h. nowhere.no_edge k zero-le h) f.1)
