use Rattle.std.proofs.Common.{◌≡◌, sym, ap₂, ◌∙◌, subst, ◌&&◌, nat_abs, pos, ◌-ℤ◌, SFits, to_z-of_z}
use Rattle.std.specs.Int.{w16}
use Rattle.pcm.specs.laws.Integers.{read_back}
use Rattle.mean.specs.Theorems.{mean_fits}
use Rattle.mean.proofs.RoundedUp.{Sizes, sizes, is_odd, mean_up, last_bit_of_sum, mean_below, mean_above}
use Rattle.mean.proofs.mean_i16.Goals as goal

pub overflow_cast-above : goal.overflow_cast-above
overflow_cast-above c =
    let s : Sizes c.args.l c.args.r = sizes c.args.l c.args.r c.ranges.l c.ranges.r in
    let a = c.from.ensures ∙ read_back c.ranges.l in
    let b = c.from-2.ensures ∙ read_back c.ranges.r in
    simp (a, b, to_z-of_z, s.left, s.right, s.sum, s.more, s.wide) s.above

-- the branch's test: the sum is odd, and so is the mean rounded up
pub overflow_sub-result : goal.overflow_sub-result
overflow_sub-result c =
    let l = c.args.l in
    let r = c.args.r in
    let s : Sizes l r = sizes l r c.ranges.l c.ranges.r in
    let a = c.from.ensures ∙ read_back c.ranges.l in
    let b = c.from-2.ensures ∙ read_back c.ranges.r in
    let asked : c.goes_down.result ≡ is_odd (nat_abs (mean_up l r)) = simp (a, b, to_z-of_z, s.left, s.right, s.sum, s.more, s.wide, s.above) at c.goes_down.ensures in
    let below = mean_below l r c.ranges.l c.ranges.r (sym (ap₂ ◌&&◌ (last_bit_of_sum l r c.ranges.l c.ranges.r) asked) ∙ c.if-l-r.true) in
    simp (a, b, to_z-of_z, s.left, s.right, s.sum, s.more, s.wide, s.above) (subst (SFits w16) (sym below) (mean_fits l r c.ranges.l c.ranges.r))

pub returns-then-l-r : goal.returns-then-l-r
returns-then-l-r c =
    let l = c.args.l in
    let r = c.args.r in
    let s : Sizes l r = sizes l r c.ranges.l c.ranges.r in
    let a = c.from.ensures ∙ read_back c.ranges.l in
    let b = c.from-2.ensures ∙ read_back c.ranges.r in
    let asked : c.goes_down.result ≡ is_odd (nat_abs (mean_up l r)) = simp (a, b, to_z-of_z, s.left, s.right, s.sum, s.more, s.wide, s.above) at c.goes_down.ensures in
    let below = mean_below l r c.ranges.l c.ranges.r (sym (ap₂ ◌&&◌ (last_bit_of_sum l r c.ranges.l c.ranges.r) asked) ∙ c.if-l-r.true) in
    let fits : SFits w16 (mean_up l r -ℤ pos 1) = subst (SFits w16) (sym below) (mean_fits l r c.ranges.l c.ranges.r) in
    simp (a, b, to_z-of_z, s.left, s.right, s.sum, s.more, s.wide, s.above, fits) below

pub returns-else-l-r : goal.returns-else-l-r
returns-else-l-r c =
    let l = c.args.l in
    let r = c.args.r in
    let s : Sizes l r = sizes l r c.ranges.l c.ranges.r in
    let a = c.from.ensures ∙ read_back c.ranges.l in
    let b = c.from-2.ensures ∙ read_back c.ranges.r in
    let asked : c.goes_down.result ≡ is_odd (nat_abs (mean_up l r)) = simp (a, b, to_z-of_z, s.left, s.right, s.sum, s.more, s.wide, s.above) at c.goes_down.ensures in
    simp (a, b, to_z-of_z, s.left, s.right, s.sum, s.more, s.wide, s.above)
    (mean_above l r c.ranges.l c.ranges.r (sym (ap₂ ◌&&◌ (last_bit_of_sum l r c.ranges.l c.ranges.r) asked) ∙ c.if-l-r.false))
