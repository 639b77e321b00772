-- What the two searches find, in document 01's terms.
--     IsLength ps r    the length of the shape: the squared distance and the two positions
--     IsWidth ps r     its width: edge, corner, t, q and w
use Rattle.std.specs.Prelude.{◌≡◌, List, ◌*◌, pos, nat_abs}
use Rattle.plane.specs.Point.{Point}
use Rattle.plane.specs.Measure.{length_squared, length_from, length_to, height, edge_squared, width_edge, width_corner, root_below}
use Rattle.measure.specs.declared.Length.{Length}
use Rattle.measure.specs.declared.Width.{Width}

pub record IsLength (ps : List Point) (r : Length) : Type 0 where
  pub squared-is : pos r.squared ≡ length_squared ps
  pub from_is : r.from ≡ length_from ps
  pub to_is : r.to ≡ length_to ps

pub record IsWidth (ps : List Point) (r : Width) : Type 0 where
  pub edge-is : r.edge ≡ width_edge ps
  pub corner-is : r.corner ≡ width_corner ps
  pub turn_is : pos r.turn ≡ height ps (width_edge ps)
  pub squared-is : pos r.squared ≡ edge_squared ps (width_edge ps)
  pub rounded-is : let t = nat_abs (height ps (width_edge ps)) in r.rounded ≡ root_below (t * t) (nat_abs (edge_squared ps (width_edge ps)))
