use Rattle.std.proofs.Common.{◌≡◌, ◌∙◌, rules, SFits, lit<, to_z-of_z}
use Rattle.std.specs.Int.{w16, w32, w64}
use Rattle.std.proofs.Math.Facts.{sfits_widen}
use Rattle.pcm.specs.laws.Integers.{settled, read_back, within_fits}
use Rattle.pcm.specs.laws.Samples.{clamped}
use Rattle.gain.specs.Gain.{scaled}
use Rattle.gain.specs.laws.Gain.{scaled_fits}
use Rattle.gain.proofs.Products.{Sized, sized}
use Rattle.gain.proofs.Gain.apply.Goals as goal

pub returns : goal.returns
unfolding scaled
returns c =
    let x = c.args.x in
    let q = c.args.self.q15 in
    let g : SFits w32 q = search rules in
    let s : Sized w64 x q = sized w64 x q c.ranges.x (within_fits q g) (lit< tt) in
    let a = c.from.ensures ∙ read_back c.ranges.x in
    let b = c.from-2.ensures ∙ read_back g in
    let xw : SFits w64 x = sfits_widen tt c.ranges.x in
    let qw : SFits w64 q = sfits_widen tt g in
    let r : c.clamp.result ≡ scaled q x = simp (a, b, to_z-of_z, xw, qw, s.product, s.raised, s.shifted) at c.clamp.ensures.value ∙ clamped _ in
    settled w16 (settled w64 r (sfits_widen tt (scaled_fits q x))) (scaled_fits q x)
