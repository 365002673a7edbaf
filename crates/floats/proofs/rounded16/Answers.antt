use mathlib.Core.Path.{◌≡◌, refl, sym, ap, ◌∙◌, subst}
use mathlib.Core.Bool.{true, false}
use Prim.Native.Nat.{◌≤◌}
use lib.IntN.{pos}
use lib.Dec.{T}
use lib.Ieee.{Float, nan, inf, fin, binary32, fits, is_nan, of_bits}
use mir.Syntax.{w16}
use mir.Val.{to_z, of_z}
use mir.Facts.{to_z-of_z}
use Rattle.std.proofs.lemmas.Float.{T_from_true, T_from_false}
use Rattle.pcm.specs.laws.Integers.{answered}
use Rattle.floats.specs.Rounding.{magnitude, round_sat, rounded16, held_float}
use Rattle.floats.specs.laws.Rounding.{round_fits}
use Rattle.floats.proofs.Held.{Held, held}
use Rattle.floats.proofs.Nudged.{Lowest, lowest}
use Rattle.floats.proofs.rounded16.Goals as goal

is_nan_lem : (x : Float) → is_nan x ≡ true → x ≡ nan
unfolding is_nan
is_nan_lem nan h = refl
is_nan_lem (inf s) h = absurd (subst T (sym h) tt)
is_nan_lem (fin s m e) h = absurd (subst T (sym h) tt)

-- h is what is held of v
module _ (v h : Float) (f : fits binary32 v ≡ true) (g : fits binary32 h ≡ true) (is : h ≡ held_float v) where
  holds : Held v (held_float v)
  holds = held v (T_from_true _ f)

  rounds : round_sat 33554432 33554432 h ≡ rounded16 v
  rounds = ap (round_sat 33554432 33554432) is ∙ holds.rounds

  of_nan : is_nan h ≡ true → pos 0 ≡ rounded16 v
  unfolding round_sat
  of_nan e = ap (round_sat 33554432 33554432) (sym (is_nan_lem h e)) ∙ rounds

  sum : is_nan h ≡ false → Lowest h
  sum e = lowest h (T_from_true _ g) (T_from_false _ e) (subst (λ (x : Float). magnitude x ≤ 32768) (sym is) holds.small)

pub returns-then-is_nan : goal.returns-then-is_nan
returns-then-is_nan c =
    of_nan c.args.v c.hold16-h.result c.well_formed.0.1 c.hold16-h.type_inv c.hold16-h.ensures (sym c.is_nan.ensures.value ∙ c.if-is_nan.true)

pub float_to_bits-h : goal.float_to_bits-h
unfolding of_bits
float_to_bits-h c =
    (sum c.args.v c.hold16-h.result c.well_formed.0.1 c.hold16-h.type_inv c.hold16-h.ensures (sym c.is_nan.ensures.value ∙ c.if-is_nan.false)).number

pub returns : goal.returns
unfolding of_bits
returns c =
    let v = c.args.v in
    let h = c.hold16-h in
    let s = sum v h.result c.well_formed.0.1 h.type_inv h.ensures (sym c.is_nan.ensures.value ∙ c.if-is_nan.false) in
    answered w16 c.low16.type_inv
    (c.low16.ensures ∙ ap (to_z w16) (s.bits ∙ ap (of_z w16) (rounds v h.result c.well_formed.0.1 h.type_inv h.ensures)) ∙ to_z-of_z (round_fits v))
