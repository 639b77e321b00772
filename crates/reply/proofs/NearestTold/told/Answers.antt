-- `told` meets its contract: a distance with its floor leaves room for the name.
use Rattle.std.proofs.Common.{◌≡◌, [], ◌∷◌, ◌++◌, pos, length, length-append, arith, rules}
use Rattle.answers.specs.Answer.{distance_values}
use Rattle.wire.specs.theory.Precede.{counted}
use Rattle.reply.specs.theory.Roomy.{distance-few}
use Rattle.reply.proofs.NearestTold.told.Goals as goal

pub preceded-requires : goal.preceded-requires
preceded-requires c =
    let r = c.told.result in
    let three : length r.carried ≡ 3 = search rules in
    let d = distance_values c.args.self.distance in
    let rest = pos c.args.floor ∷ [] in
    let all = counted r.number r.count r.carried r.values three (d ++ rest) c.told.ensures in
    omega (arith, all, length-append d rest, distance-few c.args.self.distance)
