-- `told` meets its contract: a distance with its floor leaves room for two names.
use Rattle.std.proofs.Common.{◌≡◌, [], ◌∷◌, ◌++◌, pos, length, length-append, arith, rules, ◌∙◌, ap₂}
use Rattle.answers.specs.Answer.{distance_values}
use Rattle.plane.specs.Reply.{answered}
use Rattle.wire.specs.Told.{crossed}
use Rattle.wire.specs.theory.Precede.{counted}
use Rattle.reply.specs.theory.Roomy.{distance-few}
use Rattle.reply.proofs.GapTold.told.Goals as goal

pub preceded-other-requires : goal.preceded-other-requires
preceded-other-requires c =
    let r = c.told.result in
    let three : length r.carried ≡ 3 = search rules in
    let d = distance_values c.args.self.distance in
    let rest = pos c.args.floor ∷ [] in
    let all = counted r.number r.count r.carried r.values three (d ++ rest) c.told.ensures in
    omega (arith, all, length-append d rest, distance-few c.args.self.distance)

pub preceded-requires : goal.preceded-requires
preceded-requires c =
    let r = c.preceded-other.result in
    let three : length r.carried ≡ 3 = search rules in
    let d = distance_values c.args.self.distance in
    let rest = pos c.args.floor ∷ [] in
    let told = c.preceded-other.ensures (d ++ rest) c.told.ensures in
    let all = counted r.number r.count r.carried r.values three (pos c.from.result ∷ d ++ rest) told in
    omega (arith, all, length-append d rest, distance-few c.args.self.distance)

pub returns : goal.returns
returns c =
    let d = distance_values c.args.self.distance ++ (pos c.args.floor ∷ []) in
    c.preceded.ensures (pos c.from.result ∷ d) (c.preceded-other.ensures d c.told.ensures)
    ∙ ap₂ (λ n m. crossed (answered (pos n ∷ pos m ∷ d))) c.from-2.ensures c.from.ensures
